-- The facts of soundness follow from the test, and the test from the facts.
use Prim.Native.Nat.{ℕ, ◌+◌, ◌-◌, ◌≤◌, ◌<◌}
use mathlib.Core.Bool.{Bool, true, false, true≢false, not, ◌&&◌, cond}
use mathlib.Core.Path.{◌≡◌, refl, sym, ap, ◌∙◌, subst}
use native.Mathlib.Omega.{arith}
use lib.Dec.{eqb, leb, ltb}
use borrow.Author.Tests.{eq-eqb, eqb-true, le-leb, leb-true, lt-ltb, ltb-true, not-true}
use Rattle.geometry.proofs.Laws.Shape.{both, by_test, is_between}
use Rattle.geometry.specs.Address.{is_domain_id}
use Rattle.geometry.specs.Shape.{between}
use Rattle.model.specs.declared.block.Block.{Block}
use Rattle.model.specs.declared.block.State.{State}
use Rattle.model.specs.declared.block.State.TheVariants.{Closed, Free, Open}
use Rattle.model.specs.declared.block.Way.TheVariants.{Erase, Placement}
use Rattle.model.specs.declared.table.Domain.{Domain}
use Rattle.model.specs.declared.table.Table.{Table}
use Rattle.rules.specs.Counting.{implies}
use Rattle.rules.specs.Domains.{coverage, reserved_by}
use Rattle.rules.specs.Drive.{Drive, block_at, clear_domain, domain_at, each_domain, held_by, held_count, is_free, is_free_state, is_placed_state, open_count, size}
use Rattle.rules.specs.Observation.{Holding, holding_at}
use Rattle.rules.specs.Soundness.{block_sound, counts_kept, domain_sound, each_pair, free_is_clear, holder_exists, missing_is_clear, open_limit_kept, placement_exists, placements_differ, quota_kept, same_holder, same_placement, serial_given, serials_differ, sound}
use Rattle.rules.proofs.Counting.{all_each, clash, each_all, sum_alone}
use Rattle.rules.proofs.Kept.Facts.{BlockFacts, Existing, Facts, FreeFacts, Owned, OwnedBy, SoundBlock, SoundDomain, SoundIn, StateFacts}
use Rattle.rules.proofs.Kept.Views.{if_placed, if_serial, view, view_two}
use Rattle.rules.proofs.Soundness.{Clauses, apart, together}

-- ---- Tests

-- How tests are put together and taken apart.
joined : (a b : Bool) → a ≡ true → b ≡ true → a && b ≡ true
joined a b e f = rw (e, f)

by_implies : (a b : Bool) → (a ≡ true → b ≡ true) → implies a b ≡ true
by_implies true b h = h refl
by_implies false b h = refl

implied : (a b : Bool) → implies a b ≡ true → a ≡ true → b ≡ true
implied a b h e = rw (e) at h

by_not : (a : Bool) → ¬ (a ≡ true) → not a ≡ true
by_not true h = absurd (h refl)
by_not false h = refl

-- What lies between passes the test.
in_between : (low high n : ℕ) → low ≤ n → n ≤ high → between low high n ≡ true
in_between low high n l m = joined (leb low n) (leb n high) (le-leb low n l) (le-leb n high m)

-- ---- One block

-- The tests of one block, by name.
record BlockTests (capacity period : ℕ) (r : Domain) (b : Block) : Type 0 where
  given : serial_given r b ≡ true
  held : holder_exists r b ≡ true
  placed : placement_exists r b ≡ true
  counts : counts_kept capacity period b.state b ≡ true
  clear : free_is_clear b ≡ true

tests_of : (capacity period : ℕ) (r : Domain) (b : Block) → block_sound capacity period r b ≡ true
    → BlockTests capacity period r b
unfolding block_sound
tests_of capacity period r b e =
    let two = serial_given r b && holder_exists r b in
    let counts = counts_kept capacity period b.state b in
    let q5 = both (two && placement_exists r b && counts) (free_is_clear b) e in
    let q4 = both (two && placement_exists r b) counts q5.0 in
    let q3 = both two (placement_exists r b) q4.0 in
    let q2 = both (serial_given r b) (holder_exists r b) q3.0 in
    record { given = q2.0; held = q2.1; placed = q3.1; counts = q4.1; clear = q5.1 }

tests_pass : (capacity period : ℕ) (r : Domain) (b : Block) → BlockTests capacity period r b
    → block_sound capacity period r b ≡ true
unfolding block_sound
tests_pass capacity period r b q = rw (q.given, q.held, q.placed, q.counts, q.clear)

-- A block that is not Free and passes is owned, and a Free one that passes is clear.
owned_of : {capacity period : ℕ} (r : Domain) (b : Block) → is_free b ≡ false → BlockTests capacity period r b
    → OwnedBy r b
owned_of r b e q =
    let taken : not (is_free b) ≡ true = rw e in
    let h = both (is_domain_id b.holder) r.exists (implied (not (is_free b)) _ q.held taken) in
    let id = is_between 1 16 b.holder h.0 in
    let s = is_between 1 r.last b.serial (implied (not (is_free b)) _ q.given taken) in
    record {
      low = id.least;
      high = id.most;
      exists = h.1;
      first = s.least;
      last = s.most;
      below = q.placed;
    }

free_of : (b : Block) → is_free b ≡ true → free_is_clear b ≡ true → FreeFacts b
free_of b e q =
    let q1 = eqb b.holder 0 in
    let q2 = q1 && eqb b.written.0 0 in
    let q3 = q2 && eqb b.left 0 in
    let h3 = both q3 (eqb b.serial 0) (implied (is_free b) _ q e) in
    let h2 = both q2 (eqb b.left 0) h3.0 in
    let h1 = both q1 (eqb b.written.0 0) h2.0 in
    record {
      holder = eqb-true b.holder 0 h1.0;
      written = eqb-true b.written.0 0 h1.1;
      left = eqb-true b.left 0 h2.1;
      serial = eqb-true b.serial 0 h3.1;
    }

-- What passes has the facts of its state.
state_facts : (capacity period : ℕ) (r : Domain) (b : Block) (s : State) → b.state ≡ s → BlockTests capacity period r b
    → counts_kept capacity period s b ≡ true
    → SoundIn s capacity period r b
state_facts capacity period r b Free e q c = free_of b (ap is_free_state e) q.clear
state_facts capacity period r b (Open way) e q c =
    let h = both (ltb b.written.0 capacity) (between 1 period b.left) c in
    let l = is_between 1 period b.left h.1 in
    record {
      owned = owned_of r b (ap is_free_state e) q;
      written = ltb-true b.written.0 capacity h.0;
      some_left = l.least;
      left = l.most;
    }
state_facts capacity period r b (Closed way) e q c =
    let h = both (leb b.written.0 capacity) (eqb b.left 0) c in
    record {
      owned = owned_of r b (ap is_free_state e) q;
      written = leb-true b.written.0 capacity h.0;
      left = eqb-true b.left 0 h.1;
    }

pub block_facts : (capacity period : ℕ) (r : Domain) (b : Block) → block_sound capacity period r b ≡ true
    → SoundBlock capacity period r b
block_facts capacity period r b e =
    let q = tests_of capacity period r b e in state_facts capacity period r b b.state refl q q.counts

-- A block that is not Free is owned.
pub owned_in : (capacity period : ℕ) (r : Domain) (b : Block) → SoundBlock capacity period r b
    → is_free b ≡ false → OwnedBy r b
owned_in capacity period r b f e = go b.state f e
  where
    go : (s : State) → SoundIn s capacity period r b → is_free_state s ≡ false → OwnedBy r b
    go Free h e = absurd (true≢false e)
    go (Open way) h e = h.owned
    go (Closed way) h e = h.owned

pub owned_by : (t : Table) (b : Block) → BlockFacts t b → is_free b ≡ false → Owned t b
owned_by t b f e = owned_in _ _ _ b f e

-- A block of a domain is not Free.
not_free : (t : Table) (b : Block) (d : ℕ) → BlockFacts t b → 1 ≤ d → held_by d b ≡ true → is_free b ≡ false
not_free t b d f l e = go b.state f
  where
    go : (s : State) → StateFacts t s b → is_free_state s ≡ false
    go Free h = absurd (omega (arith, l, h.holder, eqb-true b.holder d e))
    go (Open way) h = refl
    go (Closed way) h = refl

-- A block that has the facts passes: one that is not Free, and each.
tests_owned : (capacity period : ℕ) (r : Domain) (b : Block) → is_free b ≡ false → OwnedBy r b
    → counts_kept capacity period b.state b ≡ true
    → BlockTests capacity period r b
tests_owned capacity period r b e o c = record {
  given = rw e (in_between 1 r.last b.serial o.first o.last);
  held =
      rw e (joined (is_domain_id b.holder) r.exists (in_between 1 16 b.holder o.low o.high) o.exists);
  placed = o.below;
  counts = c;
  clear = rw e;
}

tests_state : (capacity period : ℕ) (r : Domain) (b : Block) (s : State) → b.state ≡ s → SoundIn s capacity period r b
    → BlockTests capacity period r b
tests_state capacity period r b Free e h = record {
  given = rw e;
  held = rw e;
  placed = rw e;
  counts = rw e;
  clear = rw (e, h.holder, h.written, h.left, h.serial);
}
tests_state capacity period r b (Open way) e h =
    tests_owned capacity period r b (ap is_free_state e) h.owned
    (rw e (joined (ltb b.written.0 capacity) (between 1 period b.left)
    (lt-ltb b.written.0 capacity h.written)
    (in_between 1 period b.left h.some_left h.left)))
tests_state capacity period r b (Closed way) e h =
    tests_owned capacity period r b (ap is_free_state e) h.owned
    (rw e (joined (leb b.written.0 capacity) (eqb b.left 0)
    (le-leb b.written.0 capacity h.written) (eq-eqb b.left 0 h.left)))

pub block_test : (capacity period : ℕ) (r : Domain) (b : Block) → SoundBlock capacity period r b
    → block_sound capacity period r b ≡ true
block_test capacity period r b f = tests_pass capacity period r b (tests_state capacity period r b b.state refl f)

-- ---- One domain

-- A domain that has the facts passes.
quota_test : (blocks held opened : ℕ) (r : Domain) → SoundDomain blocks held opened r → quota_kept blocks held r ≡ true
quota_test blocks held opened r f =
    rw (
      le-leb r.reserved r.quota f.order,
      le-leb r.quota blocks f.fits,
      le-leb held r.quota f.within,
    )

open_test : (blocks held opened : ℕ) (r : Domain) → SoundDomain blocks held opened r → open_limit_kept opened r ≡ true
open_test blocks held opened r f =
    by_implies r.exists _ (λ e.
    let h = f.existing e in
    joined (between 1 16 r.placements && between r.placements 256 r.limit) (leb opened r.limit)
    (joined (between 1 16 r.placements) (between r.placements 256 r.limit)
    (in_between 1 16 r.placements h.some_placement h.few_placements)
    (in_between r.placements 256 r.limit h.enough h.most))
    (le-leb opened r.limit h.within))

missing_test : (blocks held opened : ℕ) (r : Domain) → SoundDomain blocks held opened r → missing_is_clear r ≡ true
missing_test blocks held opened r f = by_test r.exists (λ e. rw e) (λ e. rw (f.missing e))

pub domain_test_lem : (blocks held opened : ℕ) (r : Domain) → SoundDomain blocks held opened r
    → domain_sound blocks held opened r ≡ true
unfolding domain_sound
domain_test_lem blocks held opened r f =
    joined (quota_kept blocks held r && open_limit_kept opened r) (missing_is_clear r)
    (joined (quota_kept blocks held r) (open_limit_kept opened r)
    (quota_test blocks held opened r f) (open_test blocks held opened r f))
    (missing_test blocks held opened r f)

-- A domain that passes has the facts.
existing_of_lem : (r : Domain) (opens : ℕ)
    → between 1 16 r.placements && between r.placements 256 r.limit && leb opens r.limit ≡ true
    → Existing r opens
existing_of_lem r opens e =
    let h2 = both (between 1 16 r.placements && between r.placements 256 r.limit) (leb opens r.limit) e in
    let h1 = both (between 1 16 r.placements) (between r.placements 256 r.limit) h2.0 in
    let p = is_between 1 16 r.placements h1.0 in
    let l = is_between r.placements 256 r.limit h1.1 in
    record {
      some_placement = p.least;
      few_placements = p.most;
      enough = l.least;
      most = l.most;
      within = leb-true opens r.limit h2.1;
    }

missing_of : (r : Domain) → missing_is_clear r ≡ true → r.exists ≡ false → r ≡ clear_domain
missing_of r q e =
    let q1 = eqb r.reserved 0 in
    let q2 = q1 && eqb r.quota 0 in
    let q3 = q2 && eqb r.placements 0 in
    let q4 = q3 && eqb r.limit 0 in
    let h4 = both q4 (eqb r.last 0) (implied (not r.exists) _ q (rw e)) in
    let h3 = both q3 (eqb r.limit 0) h4.0 in
    let h2 = both q2 (eqb r.placements 0) h3.0 in
    let h1 = both q1 (eqb r.quota 0) h2.0 in
    λ i. record {
      exists = e i;
      reserved = eqb-true r.reserved 0 h1.0 i;
      quota = eqb-true r.quota 0 h1.1 i;
      placements = eqb-true r.placements 0 h2.1 i;
      limit = eqb-true r.limit 0 h3.1 i;
      last = eqb-true r.last 0 h4.1 i;
    }

pub domain_facts : (blocks held opened : ℕ) (r : Domain) → domain_sound blocks held opened r ≡ true
    → SoundDomain blocks held opened r
unfolding domain_sound
domain_facts blocks held opened r e =
    let q = both (quota_kept blocks held r && open_limit_kept opened r) (missing_is_clear r) e in
    let k = both (quota_kept blocks held r) (open_limit_kept opened r) q.0 in
    let h2 = both (leb r.reserved r.quota && leb r.quota blocks) (leb held r.quota) k.0 in
    let h1 = both (leb r.reserved r.quota) (leb r.quota blocks) h2.0 in
    record {
      order = leb-true r.reserved r.quota h1.0;
      fits = leb-true r.quota blocks h1.1;
      within = leb-true held r.quota h2.1;
      existing = λ x. existing_of_lem r opened (implied r.exists _ k.1 x);
      missing = missing_of r q.1;
    }

-- ---- Two blocks

-- Block n is the domain's, and passes the test.
abbrev Marked : Drive → ℕ → (Holding → Bool) → ℕ → Type 0
Marked v d p n = (held_by d (block_at v.table n) ≡ true) × (p (holding_at v n) ≡ true)

-- A view of ones and zeros is at most 1 where no two blocks of the domain pass the test.
view_alone : (v : Drive) (d : ℕ) (p : Holding → Bool)
    → ((n m : ℕ) → n < size v.table → m < n → Marked v d p n → Marked v d p m → ⊥)
    → view (λ h. cond (p h) 1 0) d v ≤ 1
unfolding view
view_alone v d p alone =
    sum_alone (size v.table) _ (λ n. at_most (held_by d (block_at v.table n)) (p (holding_at v n)))
    (λ n m l k x y. alone n m l k
    (marked (held_by d (block_at v.table n)) (p (holding_at v n)) x)
    (marked (held_by d (block_at v.table m)) (p (holding_at v m)) y))
  where
    at_most : (a b : Bool) → cond a (cond b 1 0) 0 ≤ 1
    at_most true true = omega arith
    at_most true false = omega arith
    at_most false b = omega arith

    marked : (a b : Bool) → 0 < cond a (cond b 1 0) 0 → (a ≡ true) × (b ≡ true)
    marked true true l = (refl, refl)
    marked true false l = absurd (omega (arith, l))
    marked false b l = absurd (omega (arith, l))

-- Two blocks open for one placement, as a test and by the placement.
placed_same : (p : ℕ) (s other : State) → is_placed_state p s ≡ true → is_placed_state p other ≡ true → same_placement s other ≡ true
placed_same p Free other e f = absurd (true≢false (sym e))
placed_same p (Open Erase) other e f = absurd (true≢false (sym e))
placed_same p (Open (Placement q)) other e f = rw (eqb-true q p e) f
placed_same p (Closed way) other e f = absurd (true≢false (sym e))

same_placed : (s other : State) → same_placement s other ≡ true
    → (p : ℕ) × (is_placed_state p s ≡ true) × (is_placed_state p other ≡ true)
same_placed Free other e = absurd (true≢false (sym e))
same_placed (Open Erase) other e = absurd (true≢false (sym e))
same_placed (Open (Placement q)) other e = (q, eq-eqb q q refl, e)
same_placed (Closed way) other e = absurd (true≢false (sym e))

-- Two blocks that a domain holds have one holder by the test.
same_holder_lem : (t : Table) (b other : Block) (d : ℕ) → BlockFacts t b → BlockFacts t other → 1 ≤ d
    → held_by d b ≡ true → held_by d other ≡ true → same_holder b other ≡ true
same_holder_lem t b other d f g l e h =
    rw (not_free t b d f l e, not_free t other d g l h)
    (eq-eqb b.holder other.holder (eqb-true b.holder d e ∙ sym (eqb-true other.holder d h)))

-- Two blocks of one domain by the test are not Free and have one holder.
record Pair (b other : Block) : Type 0 where
  taken : is_free b ≡ false
  other_taken : is_free other ≡ false
  same : other.holder ≡ b.holder

pair_of : (b other : Block) → same_holder b other ≡ true → Pair b other
pair_of b other e =
    let h2 = both (not (is_free b) && not (is_free other)) (eqb b.holder other.holder) e in
    let h1 = both (not (is_free b)) (not (is_free other)) h2.0 in
    record {
      taken = not-true (is_free b) h1.0;
      other_taken = not-true (is_free other) h1.1;
      same = sym (eqb-true b.holder other.holder h2.1);
    }

-- A test of every two blocks, at two of them; a test of every domain, at one.
pair_at : (t : Table) (p : Block → Block → Bool) → each_pair t p ≡ true → (n m : ℕ) → n < size t → m < n
    → p (block_at t n) (block_at t m) ≡ true
pair_at t p e n m l k = all_each n _ (all_each (size t) _ e n l) m k

pub each_domain_lem : (p : ℕ → Bool) → each_domain p ≡ true → (d : ℕ) → 1 ≤ d → d ≤ 16 → p d ≡ true
each_domain_lem p e d low high =
    let same : d - 1 + 1 ≡ d = omega arith in subst (λ (x : ℕ). p x ≡ true) same (all_each 16 _ e (d - 1) (omega arith))

-- ---- The facts from the test

module _ (v : Drive) (c : Clauses v.table) where
  -- Every block, ..
  block_of : (n : ℕ) → n < size v.table → BlockFacts v.table (block_at v.table n)
  block_of n l = block_facts _ _ _ (block_at v.table n) (all_each (size v.table) _ c.blocks n l)

  -- .. the holder of two blocks of a domain, ..
  holder_of_lem : (d n m : ℕ) → 1 ≤ d → n < size v.table → m < n
      → held_by d (block_at v.table n) ≡ true → held_by d (block_at v.table m) ≡ true
      → same_holder (block_at v.table n) (block_at v.table m) ≡ true
  holder_of_lem d n m low l k e f =
      same_holder_lem v.table (block_at v.table n) (block_at v.table m) d (block_of n l) (block_of m (omega arith)) low e f

  -- .. the blocks with one serial, ..
  unique_of : (d s : ℕ) → 1 ≤ d → view (if_serial s) d v ≤ 1
  unique_of d s low =
      view_alone v d (λ h. eqb h.serial s) (λ n m l k x y.
      let b = block_at v.table n in
      let other = block_at v.table m in
      let same : eqb b.serial other.serial ≡ true =
      eq-eqb b.serial other.serial (eqb-true b.serial s x.1 ∙ sym (eqb-true other.serial s y.1)) in
      clash (same_holder b other && eqb b.serial other.serial)
      (joined (same_holder b other) (eqb b.serial other.serial) (holder_of_lem d n m low l k x.0 y.0) same)
      (not-true (same_holder b other && eqb b.serial other.serial)
      (pair_at v.table serials_differ c.serials_differ_lem n m l k)))

  -- .. and the open blocks of one placement.
  single_of : (d p : ℕ) → 1 ≤ d → view (if_placed p) d v ≤ 1
  single_of d p low =
      view_alone v d (λ h. is_placed_state p h.state) (λ n m l k x y.
      let b = block_at v.table n in
      let other = block_at v.table m in
      clash (same_holder b other && same_placement b.state other.state)
      (joined (same_holder b other) (same_placement b.state other.state)
      (holder_of_lem d n m low l k x.0 y.0) (placed_same p b.state other.state x.1 y.1))
      (not-true (same_holder b other && same_placement b.state other.state)
      (pair_at v.table placements_differ c.placements_differ_lem n m l k)))

  all_facts : Facts v
  all_facts = record {
    limits = c.limits;
    domains = λ d low high. domain_facts _ _ _ _
        (each_domain_lem
        (λ e. domain_sound (size v.table) (held_count v.table e) (open_count v.table e) (domain_at v.table e))
        c.domains d low high);
    covers = leb-true (coverage (reserved_by v.table) (held_count v.table)) (size v.table) c.coverage;
    unique = unique_of;
    single = single_of;
    blocks = block_of;
  }

pub facts_of : (v : Drive) → sound v.table ≡ true → Facts v
facts_of v e = all_facts v (apart v.table e)

-- ---- The test from the facts

module _ (v : Drive) (f : Facts v) where
  -- Two blocks of one domain, marked alike, are more than a view of at most 1 allows.
  not_two : (p : Holding → Bool) → ((d : ℕ) → 1 ≤ d → view (λ h. cond (p h) 1 0) d v ≤ 1)
      → (n m : ℕ) → n < size v.table → m < n → Pair (block_at v.table n) (block_at v.table m)
      → p (holding_at v n) ≡ true → p (holding_at v m) ≡ true → ⊥
  not_two p most n m l k w x y =
      let b = block_at v.table n in
      let d = b.holder in
      omega (
        arith,
        most d (owned_by v.table b (f.blocks n l) w.taken).low,
        view_two v d p n m l (omega arith) (λ same. omega arith) (eq-eqb d d refl) (eq-eqb (block_at v.table m).holder d w.same) x y,
      )

  -- Every two blocks pass, ..
  serial_test : (n m : ℕ) → n < size v.table → m < n → serials_differ (block_at v.table n) (block_at v.table m) ≡ true
  serial_test n m l k =
      by_not _ (λ e.
      let b = block_at v.table n in
      let other = block_at v.table m in
      let s = b.serial in
      let h = both (same_holder b other) (eqb s other.serial) e in
      not_two (λ h. eqb h.serial s) (λ d. f.unique d s) n m l k (pair_of b other h.0)
      (eq-eqb s s refl) (eq-eqb other.serial s (sym (eqb-true s other.serial h.1))))

  placement_test : (n m : ℕ) → n < size v.table → m < n → placements_differ (block_at v.table n) (block_at v.table m) ≡ true
  placement_test n m l k =
      by_not _ (λ e.
      let b = block_at v.table n in
      let other = block_at v.table m in
      let h = both (same_holder b other) (same_placement b.state other.state) e in
      let r = same_placed b.state other.state h.1 in
      not_two (λ h. is_placed_state r.0 h.state) (λ d. f.single d r.0) n m l k (pair_of b other h.0) r.1 r.2)

  -- .. and so does every block and every domain.
  all_clauses : Clauses v.table
  all_clauses =
      let t = v.table in
      let s = size t in
      record {
        limits = f.limits;
        domains = each_all 16 _ (λ i l. domain_test_lem s (held_count t (i + 1)) (open_count t (i + 1)) (domain_at t (i + 1))
            (f.domains (i + 1) (omega arith) (omega arith)));
        coverage = le-leb (coverage (reserved_by t) (held_count t)) s f.covers;
        blocks = each_all s _ (λ n l. block_test _ _ _ (block_at t n) (f.blocks n l));
        serials_differ_lem = each_all s _ (λ n l. each_all n _ (λ m k. serial_test n m l k));
        placements_differ_lem = each_all s _ (λ n l. each_all n _ (λ m k. placement_test n m l k));
      }

pub facts_sound : (v : Drive) → Facts v → sound v.table ≡ true
facts_sound v f = together v.table (all_clauses v f)
