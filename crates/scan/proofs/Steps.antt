-- What the marks have of the blocks that the scan has gone over, while all of them were sound, and that a step keeps it.
use Prim.Native.Nat.{ℕ, ◌+◌, ◌%◌, ◌<◌, ◌≤◌}
use mathlib.Core.Bool.{Bool, true, false, true≢false, not, ◌&&◌, and-true, cond}
use mathlib.Core.List.{List}
use mathlib.Core.Path.{◌≡◌, refl, sym, ap, ◌∙◌}
use native.Mathlib.Omega.{arith}
use lib.Dec.{eqb, ltb}
use lib.ListN.{get_or, length, length-set}
use borrow.Author.Tests.{eq-eqb, eqb-true, le-leb, lt-ltb, ltb-true, ne_eqb}
use Rattle.std.specs.Prelude.{Option, Some, None}
use Rattle.geometry.proofs.Laws.Shape.{both, by_test, is_between}
use Rattle.geometry.specs.Address.{is_domain_id}
use Rattle.geometry.specs.Shape.{adus_per_block}
use Rattle.model.specs.declared.block.Block.{Block}
use Rattle.model.specs.declared.block.State.{State}
use Rattle.model.specs.declared.block.State.TheVariants.{Closed, Free, Open}
use Rattle.model.specs.declared.block.Way.TheVariants.{Erase, Placement}
use Rattle.model.specs.declared.table.Domain.{Domain}
use Rattle.model.specs.declared.table.Table.{Table}
use Rattle.rules.proofs.Counting.{by_eq, count_most, each_all, sum_next}
use Rattle.rules.proofs.Kept.Tested.{block_facts, owned_in}
use Rattle.rules.specs.Counting.{all_to, count_to}
use Rattle.rules.specs.Drive.{block_at, clear_block, held_by, is_free, is_free_state, is_open, open_of}
use Rattle.rules.specs.Soundness.{block_sound, counts_kept, free_is_clear, holder_exists, is_clear, placement_exists, serial_given, serials_differ}
use Rattle.scan.proofs.Chains.{Chain, chain_tells, key_held, last_next, last_none}
use Rattle.scan.proofs.Marking.{chain_ends, other_mark, set_mark}
use Rattle.scan.specs.Clauses.{domain_index, holder_record, key_of, last_to, place_for, place_in, place_new, place_of, same_key, serial_key, serial_new}
use Rattle.scan.specs.Marks.{Linked, chain_differs, mark, mark_count, raised}
use Rattle.scan.specs.Scan.{HeldScanned, Scanned, chain_passes, counted, is_sound_in, place_free, place_set}
use Rattle.scan.specs.declared.scan.Subject.{Subject}

-- The subject has what the tests need of the table's configuration.
pub record Fitting (t : Table) (s : Subject) : Type 0 where
  pub same_period : s.period ≡ t.config.period
  pub same_capacity : s.capacity ≡ adus_per_block t.config

-- The blocks at a place.
abbrev pub at_place : Table → ℕ → ℕ → Bool
at_place t x i = eqb (place_of (block_at t i)) x

-- The marks after n blocks, all of them sound.
pub record Marked (t : Table) (n : ℕ) (m : List ℕ) : Type 0 where
  pub entries : length m ≡ mark_count
  pub held_count_lem : (k : ℕ) → k < 16 → mark m k ≡ count_to (λ i. held_by (k + 1) (block_at t i)) n
  pub open_count_lem : (k : ℕ) → k < 16 → mark m (16 + k) ≡ count_to (λ i. open_of (k + 1) (block_at t i)) n
  pub taken : (x : ℕ) → x < 256 → mark m (32 + x) ≡ last_to (at_place t x) n
  pub ends : (k : ℕ) → k < 256 → mark m (288 + k) ≡ last_to (same_key t k) n
  pub links : (j : ℕ) → j < n → is_free (block_at t j) ≡ false → mark m (544 + j) ≡ last_to (same_key t (serial_key (block_at t j))) j

index_few : (h : ℕ) → domain_index h < 16
index_few h = by_test (is_domain_id h) (λ e. let l = is_between 1 16 h e in rw e (omega (arith, l.least, l.most))) (λ e. rw e (omega arith))

-- The tests are those of the clauses, with what the subject has of the configuration.
sound_in : (t : Table) (n : ℕ) (s : Subject) → Fitting t s
    → is_sound_in s (block_at t n) (holder_record t (block_at t n))
    ≡ block_sound (adus_per_block t.config).0 t.config.period (holder_record t (block_at t n)) (block_at t n)
sound_in t n s a = rw (a.same_period, a.same_capacity)

-- ---- A Free block

-- It is clear, and has neither a place nor a key.
pub free_sound : (capacity period : ℕ) (r : Domain) (b : Block) → is_free b ≡ true
    → block_sound capacity period r b ≡ is_clear b
unfolding block_sound
free_sound capacity period r b e = go b.state refl e
  where
    go : (x : State) → b.state ≡ x → is_free_state x ≡ true
        → serial_given r b && holder_exists r b && placement_exists r b && counts_kept capacity period b.state b
        && free_is_clear b
        ≡ is_clear b
    go Free same f = rw same
    go (Open way) same f = absurd (true≢false (sym f))
    go (Closed way) same f = absurd (true≢false (sym f))

free_place : (x : State) (h : ℕ) → is_free_state x ≡ true → place_in x h ≡ 256
free_place Free h e = refl
free_place (Open way) h e = absurd (true≢false (sym e))
free_place (Closed way) h e = absurd (true≢false (sym e))

free_key : (b : Block) → is_free b ≡ true → serial_key b ≡ 256
unfolding serial_key
free_key b e = rw e

-- So it is tested by being clear alone, ..
free_tested : (t : Table) (n : ℕ) → is_free (block_at t n) ≡ true → (place_new t n ≡ true) × (serial_new t n ≡ true)
unfolding place_new serial_new place_of
free_tested t n e = (
  rw (free_place (block_at t n).state (block_at t n).holder e) (off (not (all_to (λ i. not (eqb (place_of (block_at t i)) 256)) n))),
  each_all n (λ i. serials_differ (block_at t n) (block_at t i)) (λ i l. rw e),
)
  where
    off : (b : Bool) → not (b && false) ≡ true
    off true = refl
    off false = refl

-- .. and a clear one leaves the marks right.
free_marked : (t : Table) (n : ℕ) (m : List ℕ) → n < 256 → is_free (block_at t n) ≡ true → is_clear (block_at t n) ≡ true
    → Marked t n m → Marked t (n + 1) m
unfolding place_of
free_marked t n m small e clear w =
    let b = block_at t n in
    let c3 = both _ (eqb b.serial 0) clear in
    let c2 = both _ (eqb b.left 0) c3.0 in
    let c1 = both (eqb b.holder 0) (eqb b.written.0 0) c2.0 in
    let none = eqb-true b.holder 0 c1.0 in
    let unheld : (k : ℕ) → held_by (k + 1) b ≡ false = λ k. ne_eqb b.holder (k + 1) (λ p. omega (arith, p, none)) in
    record {
      entries = w.entries;
      held_count_lem = λ k l. rw (sum_next, unheld k) (w.held_count_lem k l ∙ omega arith);
      open_count_lem = λ k l. rw (sum_next, unheld k) (w.open_count_lem k l ∙ omega arith);
      taken = λ x l. rw (last_next, free_place b.state b.holder e, ne_eqb 256 x (λ p. omega (arith, p, l))) (w.taken x l);
      ends = λ k l. rw (last_next, free_key b e, ne_eqb 256 k (λ p. omega (arith, p, l))) (w.ends k l);
      links = λ j l f. by_eq j n (λ p. absurd (true≢false (sym e ∙ ap (λ (i : ℕ). is_free (block_at t i)) (sym p) ∙ f))) (λ p. w.links j (omega arith) f);
    }

-- ---- A block that is held

place_most : (b : Block) → place_of b ≤ 256
unfolding place_of
place_most b = go b.state
  where
    held : (h p : ℕ) → place_for h p ≤ 256
    held h p = by_test (is_domain_id h && ltb p 16)
        (λ e. let q = both (is_domain_id h) (ltb p 16) e in let l = is_between 1 16 h q.0 in
        rw e (omega (arith, l.least, l.most, ltb-true p 16 q.1)))
        (λ e. rw e (omega arith))

    go : (x : State) → place_in x b.holder ≤ 256
    go Free = omega arith
    go (Open Erase) = omega arith
    go (Open (Placement p)) = held b.holder p
    go (Closed way) = omega arith

-- Its clauses say that a domain holds it.
pub held_id : (capacity period : ℕ) (r : Domain) (b : Block) → is_free b ≡ false → block_sound capacity period r b ≡ true
    → is_domain_id b.holder ≡ true
held_id capacity period r b f e =
    let o = owned_in capacity period r b (block_facts capacity period r b e) f in
    rw (le-leb 1 b.holder o.low, le-leb b.holder 16 o.high)

-- The marks with one block more of a domain: its two counts, and all others.
module _ (b : Block) (m : List ℕ) (long : length m ≡ mark_count) where
  abbrev i : ℕ
  i = domain_index b.holder

  abbrev m1 : List ℕ
  m1 = raised i m

  long1 : length m1 ≡ mark_count
  long1 = length-set m i _ ∙ long

  pub counted_long : length (counted b m) ≡ mark_count
  counted_long = by_test (is_open b) (λ e. rw e (length-set m1 (16 + i) _ ∙ long1)) (λ e. rw e long1)

  pub counted_held : mark (counted b m) i ≡ (mark m i + 1) % 65536
  counted_held =
      let l = index_few b.holder in
      by_test (is_open b)
      (λ e. rw e (other_mark m1 (16 + i) i _ (λ p. omega (arith, p)) ∙ set_mark m i _ (omega (arith, l, long))))
      (λ e. rw e (set_mark m i _ (omega (arith, l, long))))

  pub counted_open : mark (counted b m) (16 + i) ≡ cond (is_open b) ((mark m (16 + i) + 1) % 65536) (mark m (16 + i))
  counted_open =
      let l = index_few b.holder in
      let same : mark m1 (16 + i) ≡ mark m (16 + i) = other_mark m i (16 + i) _ (λ p. omega (arith, p)) in
      by_test (is_open b)
      (λ e. rw e (set_mark m1 (16 + i) _ (omega (arith, l, long1)) ∙ ap (λ (x : ℕ). (x + 1) % 65536) same))
      (λ e. rw e same)

  pub counted_other : (j : ℕ) → ¬ (j ≡ i) → ¬ (j ≡ 16 + i) → mark (counted b m) j ≡ mark m j
  counted_other j x y =
      by_test (is_open b)
      (λ e. rw e (other_mark m1 (16 + i) j _ y ∙ other_mark m i j _ x))
      (λ e. rw e (other_mark m i j _ x))

-- The marks with a place taken.
place_long : (x n : ℕ) (m : List ℕ) → length (place_set x n m) ≡ length m
place_long x n m = by_test (ltb x 256) (λ e. rw e (length-set m (32 + x) (n + 1))) (λ e. rw e)

place_here : (x n : ℕ) (m : List ℕ) → length m ≡ mark_count → x < 256 → mark (place_set x n m) (32 + x) ≡ n + 1
place_here x n m long l = rw (lt-ltb x 256 l) (set_mark m (32 + x) (n + 1) (omega (arith, l, long)))

place_other : (x n : ℕ) (m : List ℕ) (j : ℕ) → (x < 256 → ¬ (j ≡ 32 + x)) → mark (place_set x n m) j ≡ mark m j
place_other x n m j c = by_test (ltb x 256)
    (λ e. rw e (other_mark m (32 + x) j (n + 1) (c (ltb-true x 256 e))))
    (λ e. rw e)

-- What is given of block n, which a domain holds, and of the marks before and after it.
pub record Kept (t : Table) (n last : ℕ) (m after : List ℕ) : Type 0 where
  pub small : n < 256
  pub not_free : is_free (block_at t n) ≡ false
  pub id : is_domain_id (block_at t n).holder ≡ true
  pub before : Marked t n m
  pub does : Linked n (key_of (block_at t n).holder (block_at t n).serial) last (place_set (place_of (block_at t n)) n (counted (block_at t n) m)) after

module _ {t : Table} {n last : ℕ} {m after : List ℕ} (k : Kept t n last m after) where
  abbrev b : Block
  b = block_at t n

  abbrev h : ℕ
  h = domain_index b.holder

  abbrev key : ℕ
  key = key_of b.holder b.serial

  abbrev x : ℕ
  x = place_of b

  abbrev w : Marked t n m
  w = k.before

  abbrev placed : List ℕ
  placed = place_set x n (counted b m)

  abbrev r : Linked n key last placed after
  r = k.does

  few : h < 16
  few = index_few b.holder

  -- The holder's number, from where it is counted.
  number : b.holder ≡ h + 1
  number = let l = is_between 1 16 b.holder k.id in rw k.id (omega (arith, l.least, l.most))

  -- The marks that are not touched.
  untouched : (j : ℕ) → ¬ (j ≡ h) → ¬ (j ≡ 16 + h) → (x < 256 → ¬ (j ≡ 32 + x)) → ¬ (j ≡ 288 + key) → ¬ (j ≡ 544 + n) → mark after j ≡ mark m j
  untouched j a b' c d e = r.others j d e ∙ place_other x n (counted b m) j c ∙ counted_other b m w.entries j a b'

  -- A count below 2^16 with one more.
  one_more : (c : ℕ) → c ≤ n → (c + 1) % 65536 ≡ c + 1
  one_more c l = omega (arith, l, k.small)

  held_more : (i : ℕ) → i < 16 → mark after i ≡ count_to (λ j. held_by (i + 1) (block_at t j)) (n + 1)
  held_more i l =
      rw sum_next (by_eq i h
      (λ p. rw (p, eq-eqb b.holder (h + 1) number) (
      r.others h (λ q. omega (arith, q, few)) (λ q. omega (arith, q, few))
      ∙ place_other x n (counted b m) h (λ y q. omega (arith, q, few)) ∙ counted_held b m w.entries
      ∙ rw (w.held_count_lem h few) (one_more _ (count_most (λ j. held_by (h + 1) (block_at t j)) n))))
      (λ p. rw (ne_eqb b.holder (i + 1) (λ q. p (omega (arith, q, number)))) (
      untouched i p (λ q. omega (arith, q, l)) (λ y q. omega (arith, q, l)) (λ q. omega (arith, q, l)) (λ q. omega (arith, q, l))
      ∙ w.held_count_lem i l ∙ omega arith)))

  open_more : (i : ℕ) → i < 16 → mark after (16 + i) ≡ count_to (λ j. open_of (i + 1) (block_at t j)) (n + 1)
  open_more i l =
      rw sum_next (by_eq i h
      (λ p. rw (p, eq-eqb b.holder (h + 1) number) (
      r.others (16 + h) (λ q. omega (arith, q, few)) (λ q. omega (arith, q, few))
      ∙ place_other x n (counted b m) (16 + h) (λ y q. omega (arith, q, few)) ∙ counted_open b m w.entries ∙ rw (w.open_count_lem h few)
      (by_test (is_open b)
      (λ q. rw q (one_more _ (count_most (λ j. open_of (h + 1) (block_at t j)) n)))
      (λ q. rw q (omega arith)))))
      (λ p. rw (ne_eqb b.holder (i + 1) (λ q. p (omega (arith, q, number)))) (
      untouched (16 + i) (λ q. omega (arith, q, few)) (λ q. p (omega (arith, q))) (λ y q. omega (arith, q, l)) (λ q. omega (arith, q, l)) (λ q. omega (arith, q, l))
      ∙ w.open_count_lem i l ∙ omega arith)))

  taken_more : (y : ℕ) → y < 256 → mark after (32 + y) ≡ last_to (at_place t y) (n + 1)
  taken_more y l =
      let links = r.others (32 + y) (λ q. omega (arith, q, l)) (λ q. omega (arith, q, l)) in
      rw last_next (by_eq y x
      (λ p. rw (eq-eqb x y (sym p)) (links ∙ ap (λ (z : ℕ). mark placed (32 + z)) p ∙ place_here x n (counted b m) (counted_long b m w.entries) (omega (arith, p, l))))
      (λ p. rw (ne_eqb x y (λ q. p (sym q))) (links ∙ place_other x n (counted b m) (32 + y) (λ z q. p (omega (arith, q)))
      ∙ counted_other b m w.entries (32 + y) (λ q. omega (arith, q, few)) (λ q. omega (arith, q, few))
      ∙ w.taken y l)))

  -- The key's end before this block.
  end_before : last ≡ last_to (same_key t (serial_key b)) n
  end_before =
      let key_few : key < 256 = omega arith in
      r.last_is ∙ place_other x n (counted b m) (288 + key) (λ y q. omega (arith, q, y))
      ∙ counted_other b m w.entries (288 + key) (λ q. omega (arith, q, few)) (λ q. omega (arith, q, few))
      ∙ w.ends key key_few ∙ ap (λ (z : ℕ). last_to (same_key t z) n) (sym (key_held b k.not_free))

  ends_more : (i : ℕ) → i < 256 → mark after (288 + i) ≡ last_to (same_key t i) (n + 1)
  ends_more i l =
      rw (last_next, key_held b k.not_free) (by_eq i key
      (λ p. rw (eq-eqb key i (sym p)) (ap (λ (z : ℕ). mark after (288 + z)) p ∙ r.end))
      (λ p. rw (ne_eqb key i (λ q. p (sym q))) (
      untouched (288 + i) (λ q. omega (arith, q, few)) (λ q. omega (arith, q, few)) (λ y q. omega (arith, q, y)) (λ q. p (omega (arith, q)))
      (λ q. omega (arith, q, l))
      ∙ w.ends i l)))

  -- The links of the blocks before.
  link_kept : (j : ℕ) → j < 256 → ¬ (j ≡ n) → mark after (544 + j) ≡ mark m (544 + j)
  link_kept j l ne =
      let key_few : key < 256 = omega arith in
      untouched (544 + j) (λ q. omega (arith, q, few)) (λ q. omega (arith, q, few)) (λ y q. omega (arith, q, y)) (λ q. omega (arith, q, key_few))
      (λ q. ne (omega (arith, q)))

  -- So the marks are right with one block more.
  pub held_marked : Marked t (n + 1) after
  held_marked = record {
    entries = r.entries ∙ place_long x n (counted b m) ∙ counted_long b m w.entries;
    held_count_lem = held_more;
    open_count_lem = open_more;
    taken = taken_more;
    ends = ends_more;
    links = λ j l f. by_eq j n
        (λ p. rw p (r.link ∙ end_before))
        (λ p. link_kept j (omega (arith, k.small)) p ∙ w.links j (omega arith) f);
  }

  -- The chain that the block is compared with.
  chained : (bs : List Block) → n < length bs → ((j : ℕ) → j < n → get_or bs j clear_block ≡ block_at t j) → Chain t n bs after
  chained bs l same = record {
    inside = l;
    records = same;
    before_is = λ j u f. link_kept j (omega (arith, k.small)) (λ p. omega (arith, p, u)) ∙ w.links j u f;
  }

  -- Its serial is compared as the clauses have it.
  pub serial_tested : (bs : List Block) → n < length bs → ((j : ℕ) → j < n → get_or bs j clear_block ≡ block_at t j) → chain_differs bs after b last ≡ serial_new t n
  serial_tested bs l same =
      ap (chain_differs bs after b) end_before ∙ chain_tells t n bs after (chained bs l same) k.not_free

-- Its place is tested as the clauses have it.
place_tested : (t : Table) (n : ℕ) (m : List ℕ) → Marked t n m → place_free (counted (block_at t n) m) (place_of (block_at t n)) ≡ place_new t n
unfolding place_new
place_tested t n m w =
    let b = block_at t n in
    let x = place_of b in
    by_eq x 256
    (λ p. rw p (sym (off (not (all_to (λ i. not (eqb (place_of (block_at t i)) 256)) n)))))
    (λ p. rw (
      ne_eqb x 256 p,
      lt-ltb x 256 (omega (arith, place_most b)),
      counted_other b m w.entries (32 + x) (λ q. omega (arith, q, index_few b.holder)) (λ q. omega (arith, q, index_few b.holder)),
      w.taken x (omega (arith, place_most b)),
      last_none (at_place t x) n,
    ) (twice (all_to (λ i. not (eqb (place_of (block_at t i)) x)) n)))
  where
    off : (c : Bool) → not (c && false) ≡ true
    off true = refl
    off false = refl

    twice : (c : Bool) → c ≡ not (not c && true)
    twice true = refl
    twice false = refl

-- ---- A step

-- What is tested of block n is what the clauses say, and where they hold the marks are right with it.
pub record Next (t : Table) (n : ℕ) (ok : Bool) (after : List ℕ) : Type 0 where
  pub tells : ok
      ≡ block_sound (adus_per_block t.config).0 t.config.period (holder_record t (block_at t n)) (block_at t n)
      && place_new t n && serial_new t n
  pub marks : ok ≡ true → Marked t (n + 1) after

-- A Free block, ..
free_next : (t : Table) (n : ℕ) (s : Subject) (bs : List Block) (last : Option ℕ) (m after : List ℕ) → n < 256 → Marked t n m → is_free (block_at t n) ≡ true
    → (last ≡ cond (is_clear (block_at t n)) (Some 0) None) × (after ≡ m) → Next t n (chain_passes bs after (block_at t n) last) after
free_next t n s bs last m after small w e f =
    let g = free_tested t n e in
    let b = block_at t n in
    let passes : chain_passes bs after b last ≡ is_clear b = ap (chain_passes bs after b) f.0 ∙ go (is_clear b) in
    record {
      tells = passes ∙ sym (rw (
        g.0,
        g.1,
        free_sound (adus_per_block t.config).0 t.config.period (holder_record t b) b e,
      )
          (and-true (is_clear b && true) ∙ and-true (is_clear b)));
      marks = λ q. rw f.1 (free_marked t n m small e (sym passes ∙ q) w);
    }
  where
    go : (c : Bool) → chain_passes bs after (block_at t n) (cond c (Some 0) None) ≡ c
    go true = chain_ends bs after (block_at t n)
    go false = refl

-- .. one that a domain holds, ..
held_next : (t : Table) (n : ℕ) (s : Subject) (bs : List Block) (last : Option ℕ) (m after : List ℕ) → Fitting t s → n < 256 → n < length bs
    → ((j : ℕ) → j < n → get_or bs j clear_block ≡ block_at t j) → Marked t n m → is_free (block_at t n) ≡ false
    → HeldScanned s n (block_at t n) (holder_record t (block_at t n)) last m after → Next t n (chain_passes bs after (block_at t n) last) after
held_next t n s bs last m after a small inside same w e scanned =
    let b = block_at t n in
    let c = (adus_per_block t.config).0 in
    let p = t.config.period in
    let own = is_sound_in s b (holder_record t b) in
    let is : own ≡ block_sound c p (holder_record t b) b = sound_in t n s a in
    let place = place_tested t n m w in
    by_test (own && place_free (counted b m) (place_of b))
    (λ q.
    let q2 = both own (place_free (counted b m) (place_of b)) q in
    let linked = scanned.linked q in
    let k : Kept t n linked.0 m after = record {
      small = small;
      not_free = e;
      id = held_id c p (holder_record t b) b e (sym is ∙ q2.0);
      before = w;
      does = linked.2;
    } in
    record {
      tells = ap (chain_passes bs after b) linked.1 ∙ serial_tested k bs inside same ∙ sym (rw (sym is ∙ q2.0, sym place ∙ q2.1));
      marks = λ _. held_marked k;
    })
    (λ q.
    let f : chain_passes bs after b last ≡ false = ap (chain_passes bs after b) (scanned.refused q) in
    let no : block_sound c p (holder_record t b) b && place_new t n ≡ false = ap (λ (x : Bool). x && place_new t n) (sym is) ∙ ap (λ (x : Bool). own && x) (sym place) ∙ q in
    record {
      tells = f ∙ sym (rw no);
      marks = λ y. absurd (true≢false (sym y ∙ f));
    })

-- .. and any.
pub scanned_next : (t : Table) (n : ℕ) (s : Subject) (bs : List Block) (last : Option ℕ) (m after : List ℕ) → Fitting t s → n < 256 → n < length bs
    → ((j : ℕ) → j < n → get_or bs j clear_block ≡ block_at t j) → Marked t n m
    → Scanned s n (block_at t n) (holder_record t (block_at t n)) last m after → Next t n (chain_passes bs after (block_at t n) last) after
scanned_next t n s bs last m after a small inside same w scanned = by_test (is_free (block_at t n))
    (λ e. free_next t n s bs last m after small w e (scanned.free e))
    (λ e. held_next t n s bs last m after a small inside same w e (scanned.held e))
