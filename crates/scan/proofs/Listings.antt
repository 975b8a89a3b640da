-- What the marks tell of the listed blocks: each of them, by rising serial.
use Prim.Native.Nat.{ℕ, zero, suc, ◌+◌, ◌*◌, ◌≤◌, ◌<◌}
use mathlib.Core.Bool.{Bool, true}
use mathlib.Core.List.{List, [], ◌∷◌, ◌++◌, append-nil, map, map-append}
use mathlib.Core.Option.{Option, none, some}
use mathlib.Core.Path.{◌≡◌, refl, sym, ap, ap₂, ◌∙◌, subst}
use native.Mathlib.Nat.{zero-add}
use native.Mathlib.Omega.{arith}
use lib.ListN.{get_or, length, length-append, length-map, length-set, set}
use borrow.Author.Tests.{lt-ltb}
use Rattle.geometry.proofs.Laws.Shape.{both, by_test, is_between}
use Rattle.geometry.specs.Address.{is_domain_id}
use Rattle.model.specs.declared.block.Block.{Block}
use Rattle.model.specs.declared.block.State.{State}
use Rattle.model.specs.declared.block.State.TheVariants.{Closed, Free, Open}
use Rattle.model.specs.declared.block.Way.TheVariants.{Erase, Placement}
use Rattle.model.specs.declared.command.Listed.{Listed}
use Rattle.model.specs.declared.command.Listed.TheVariants as listed
use Rattle.model.specs.declared.table.Table.{Table}
use Rattle.rules.proofs.Counting.{by_eq}
use Rattle.rules.proofs.Kept.Facts.{Facts}
use Rattle.rules.proofs.Kept.Tested.{facts_of}
use Rattle.rules.proofs.LogPages.{listed_only}
use Rattle.rules.proofs.Serials.{WithSerial, serial_found}
use Rattle.rules.proofs.Soundness.{apart}
use Rattle.rules.specs.Drive.{Drive, block_at, block_with, by_serial_to, clear_block, domain_at, held_by, is_closed, size, told_of}
use Rattle.rules.specs.LogPages.{if_listed, is_listed, list_mark, listed_blocks, state_byte, wear_index}
use Rattle.rules.specs.Soundness.{sound}
use Rattle.scan.proofs.Marking.{other_mark, set_mark}
use Rattle.scan.proofs.Summaries.{Present, all_there}
use Rattle.scan.proofs.Telling.{told_long}
use Rattle.scan.specs.Listing.{byte_in, index_in, is_listed_for, list_key, listed_from, noted_from, noted_with, number_in, told_to, told_with}
use Rattle.scan.specs.Marks.{mark, mark_count}
use Rattle.scan.specs.Summary.{ListGathered, Sees, SeesList, SubjectOf, ToldAt, present}
use Rattle.scan.specs.declared.scan.Subject.{Subject}
use Rattle.scan.specs.declared.summary.Summary.{Summary}
use Rattle.sorting.specs.Order.{in_order}
use Rattle.sorting.proofs.Laws.{in_order_length}
use Rattle.tables.proofs.Ranking.{ranked}
use Rattle.tables.specs.Keys.{key_if, keys_to}
use Rattle.tables.specs.Serving.{drive}

-- ---- The keys that are noted

module _ (t : Table) (s : Subject) (which : Listed) where
  -- Whether block n is listed, and its key.
  abbrev passes : ℕ → Bool
  passes n = is_listed_for s which (block_at t n)

  abbrev key : ℕ → ℕ
  key n = list_key s which n (block_at t n)

  -- No more keys than blocks.
  few_keys : (n : ℕ) → length (keys_to passes key n) ≤ n
  unfolding keys_to
  few_keys zero = omega arith
  few_keys (suc n) =
      by_test (passes n)
      (λ e. rw e (omega (arith, few_keys n, length-append (keys_to passes key n) (key n ∷ []))))
      (λ e. rw (e, append-nil (keys_to passes key n)) (omega (arith, few_keys n)))

  noted_with_lem : (n : ℕ) → n < 256 → noted_with s which n (block_at t n) (keys_to passes key n) ≡ keys_to passes key (suc n)
  unfolding keys_to noted_with
  noted_with_lem n l =
      let few : length (keys_to passes key n) < 256 = omega (arith, l, few_keys n) in
      by_test (passes n)
      (λ e. rw (e, lt-ltb (length (keys_to passes key n)) 256 few))
      (λ e. rw (e, append-nil (keys_to passes key n)))

  -- So it is of every block of bs from number n on, which are the table's.
  noted_from_lem : (n : ℕ) (bs : List Block) → n + length bs ≤ 256
      → ((i : ℕ) → i < length bs → get_or bs i clear_block ≡ block_at t (n + i))
      → noted_from s which n bs (keys_to passes key n) ≡ keys_to passes key (n + length bs)
  unfolding noted_from
  noted_from_lem n [] l are = let same : n + 0 ≡ n = omega arith in rw same
  noted_from_lem n (b ∷ bs) l are =
      let same : n + length (b ∷ bs) ≡ n + 1 + length bs = omega arith in
      let next : suc n ≡ n + 1 = omega arith in
      let here : b ≡ block_at t n = are 0 (omega arith) ∙ ap (block_at t) (zero_last n) in
      ap (noted_from s which (n + 1) bs) (ap (λ (z : Block). noted_with s which n z (keys_to passes key n)) here ∙ noted_with_lem n (omega (arith, l)) ∙ ap (keys_to passes key) next)
      ∙ noted_from_lem (n + 1) bs (omega (arith, l)) (λ i k. are (suc i) (omega (arith, k)) ∙ ap (block_at t) (one_on n i))
      ∙ ap (keys_to passes key) (sym same)
    where
      zero_last : (k : ℕ) → k + 0 ≡ k
      zero_last k = omega arith

      one_on : (k i : ℕ) → k + suc i ≡ k + 1 + i
      one_on k i = omega arith

-- ---- What the marks tell

-- At place i they tell what the key does.
record Tells (key : ℕ) (marks : List ℕ) (i : ℕ) : Type 0 where
  number : mark marks (32 + i) ≡ number_in key
  byte : mark marks (288 + i) ≡ byte_in key
  index : mark marks (544 + i) ≡ index_in key

-- The marks with one key more, at the place n: its own, and all others as before.
with_own : (n key : ℕ) (marks : List ℕ) → n < 256 → length marks ≡ mark_count → Tells key (told_with n key marks) n
with_own n key marks l long =
    let m1 = set marks (32 + n) (number_in key) in
    let m2 = set m1 (288 + n) (byte_in key) in
    let long1 : length m1 ≡ mark_count = length-set marks (32 + n) (number_in key) ∙ long in
    let long2 : length m2 ≡ mark_count = length-set m1 (288 + n) (byte_in key) ∙ long1 in
    record {
      number =
          other_mark m2 (544 + n) (32 + n) (index_in key) (λ p. omega (arith, p))
          ∙ other_mark m1 (288 + n) (32 + n) (byte_in key) (λ p. omega (arith, p))
          ∙ set_mark marks (32 + n) (number_in key) (omega (arith, l, long));
      byte =
          other_mark m2 (544 + n) (288 + n) (index_in key) (λ p. omega (arith, p))
          ∙ set_mark m1 (288 + n) (byte_in key) (omega (arith, l, long1));
      index = set_mark m2 (544 + n) (index_in key) (omega (arith, l, long2));
    }

with_other : (n key : ℕ) (marks : List ℕ) (j : ℕ) → ¬ (j ≡ 32 + n) → ¬ (j ≡ 288 + n) → ¬ (j ≡ 544 + n)
    → mark (told_with n key marks) j ≡ mark marks j
with_other n key marks j x y z =
    let m1 = set marks (32 + n) (number_in key) in
    other_mark (set m1 (288 + n) (byte_in key)) (544 + n) j (index_in key) z ∙ other_mark m1 (288 + n) j (byte_in key) y
    ∙ other_mark marks (32 + n) j (number_in key) x

told_at : (keys : List ℕ) (n i : ℕ) (marks : List ℕ) → n ≤ 256 → i < n → length marks ≡ mark_count → Tells (get_or keys i 0) (told_to keys n marks) i
unfolding told_to
told_at keys zero i marks few l long = absurd (omega (arith, l))
told_at keys (suc n) i marks few l long =
    let before = told_to keys n marks in
    by_eq i n
    (λ e. subst (λ (k : ℕ). Tells (get_or keys k 0) (told_with n (get_or keys n 0) before) k) (sym e)
    (with_own n (get_or keys n 0) before (omega (arith, few)) (told_long keys n marks ∙ long)))
    (λ e.
    let earlier = told_at keys n i marks (omega (arith, few)) (omega (arith, l, e)) long in
    record {
      number = with_other n (get_or keys n 0) before (32 + i) (λ p. e (omega (arith, p))) (λ p. omega (arith, p, l, few)) (λ p. omega (arith, p, l, few)) ∙ earlier.number;
      byte = with_other n (get_or keys n 0) before (288 + i) (λ p. omega (arith, p, l, few)) (λ p. e (omega (arith, p))) (λ p. omega (arith, p, l, few)) ∙ earlier.byte;
      index = with_other n (get_or keys n 0) before (544 + i) (λ p. omega (arith, p, l, few)) (λ p. omega (arith, p, l, few)) (λ p. e (omega (arith, p))) ∙ earlier.index;
    })

-- ---- What a key tells

-- The byte of a list is below 256.
state_few : (s : State) → state_byte s < 256
state_few Free = omega arith
state_few (Open Erase) = omega arith
state_few (Open (Placement p)) = omega arith
state_few (Closed Erase) = omega arith
state_few (Closed (Placement p)) = omega arith

mark_few : (which : Listed) (b : Block) → list_mark which b < 256
mark_few listed.Open b = state_few b.state
mark_few listed.Closed b = by_test (is_closed b) (λ e. rw e (omega arith)) (λ e. rw e (omega arith))

parts_of_lem : (serial n index byte : ℕ) → n < 256 → index < 256 → byte < 256
    → let key = serial * 16777216 + n * 65536 + index * 256 + byte in
    (number_in key ≡ n) × (index_in key ≡ index) × (byte_in key ≡ byte)
parts_of_lem serial n index byte l k m = (omega (arith, l, k, m), omega (arith, l, k, m), omega (arith, l, k, m))

-- What a function makes of each entry of a row.
get_map : (f : ℕ → ℕ) (xs : List ℕ) (i : ℕ) → i < length xs → get_or (map f xs) i 0 ≡ f (get_or xs i 0)
get_map f [] i l = absurd (omega (arith, l))
get_map f (x ∷ xs) zero l = refl
get_map f (x ∷ xs) (suc i) l = get_map f xs i (omega (arith, l))

module _ (t : Table) (s : Subject) (which : Listed) (domain-id : is_domain_id s.domain ≡ true) (is_sound : sound t ≡ true) (there : Present t) where
  abbrev d : ℕ
  d = s.domain

  abbrev v : Drive
  v = drive t []

  low : 1 ≤ d
  low = (is_between 1 16 d domain-id).least

  facts : Facts v
  facts = facts_of v is_sound

  abbrev index : ℕ → ℕ
  index n = wear_index s.rated (block_at t n).erases

  index_few : (n : ℕ) → index n < 256
  index_few n = omega arith

  -- The keys of the blocks by rising serial are those of the listed blocks.
  found_keys : (serial : ℕ) (found : Option ℕ) → WithSerial t d serial (size t) found
      → told_of (key_if (passes t s which) (key t s which)) found ≡ map (key t s which) (told_of (if_listed t which) found)
  found_keys serial none o = refl
  found_keys serial (some n) o = rw o.1 (by_test (is_listed which (block_at t n)) (λ e. rw e) (λ e. rw e))

  keys_to_lem : (up_to_lem : ℕ) → by_serial_to (key_if (passes t s which) (key t s which)) t d up_to_lem ≡ map (key t s which) (by_serial_to (if_listed t which) t d up_to_lem)
  unfolding by_serial_to
  keys_to_lem zero = refl
  keys_to_lem (suc serial) =
      ap₂ (λ (xs ys : List ℕ). xs ++ ys) (keys_to_lem serial) (found_keys (suc serial) (block_with t d (suc serial)) (serial_found t d (suc serial)))
      ∙ sym (map-append (key t s which) (by_serial_to (if_listed t which) t d serial) (told_of (if_listed t which) (block_with t d (suc serial))))

  -- They are the keys in order.
  order_is : in_order (keys_to (passes t s which) (key t s which) (size t)) ≡ map (key t s which) (listed_blocks t d which)
  order_is =
      ranked v d low facts (passes t s which) (key t s which) (λ serial. serial * 16777216)
      (λ n l e. (both (held_by d (block_at t n)) (is_listed which (block_at t n)) e).0)
      (λ n l e. (omega (arith), omega (arith, l, there.most, index_few n, mark_few which (block_at t n))))
      (λ serial. omega arith)
      ∙ keys_to_lem (domain_at t d).last

  module _ (first marks : List ℕ) (long : length first ≡ mark_count) (told : marks ≡ listed_from s which 0 (present t) first) where
    abbrev keys : List ℕ
    keys = noted_from s which 0 (present t) []

    abbrev row : List ℕ
    row = keys_to (passes t s which) (key t s which) (size t)

    abbrev order : List ℕ
    order = listed_blocks t d which

    all_noted : keys ≡ row
    unfolding keys_to
    all_noted =
        noted_from_lem t s which 0 (present t) (omega (arith, there.long, there.most))
        (λ i l. there.records i (omega (arith, l, there.long)) ∙ ap (block_at t) (sym (zero-add i)))
        ∙ ap (keys_to (passes t s which) (key t s which)) (zero-add (length (present t)) ∙ there.long)

    -- The keys of the listed blocks in order.
    in_order_lem : in_order keys ≡ map (key t s which) order
    in_order_lem = ap in_order all_noted ∙ order_is

    as_many : length order ≡ length keys
    as_many = sym (length-map order (key t s which)) ∙ ap length (sym order_is) ∙ in_order_length row ∙ ap length (sym all_noted)

    key_at : (i : ℕ) → i < length order → get_or (in_order keys) i 0 ≡ key t s which (get_or order i 0)
    key_at i l = ap (λ (xs : List ℕ). get_or xs i 0) in_order_lem ∙ get_map (key t s which) order i l

    tells : (i : ℕ) → i < length order → Tells (key t s which (get_or order i 0)) marks i
    unfolding listed_from
    tells i l =
        let few : length keys ≤ 256 = omega (arith, ap length all_noted, few_keys t s which (size t), there.most) in
        subst (λ (ms : List ℕ). Tells (key t s which (get_or order i 0)) ms i) (sym told)
        (subst (λ (k : ℕ). Tells k (told_to (in_order keys) (length keys) first) i) (key_at i l)
        (told_at (in_order keys) (length keys) i first few (omega (arith, l, as_many)) long))

    pub told_listed : SubjectOf t s → (i : ℕ) → i < length order → ToldAt t which (get_or order i 0) marks i
    told_listed a i l =
        let n = get_or order i 0 in
        let inside : n < 256 = omega (arith, (listed_only t d which (domain_at t d).last i l).0, there.most) in
        let parts = parts_of_lem (block_at t n).serial n (index n) (list_mark which (block_at t n)) inside (index_few n) (mark_few which (block_at t n)) in
        let is = tells i l in
        record {
          number = is.number ∙ parts.0;
          byte = is.byte ∙ parts.2;
          index = is.index ∙ parts.1 ∙ ap (λ (rated : ℕ). wear_index rated (block_at t n).erases) a.same_rated;
        }

-- So the list is seen.
pub sees_list : (t : Table) (s : Subject) (which : Listed) (x : Summary) (marks : List ℕ) → SubjectOf t s → Sees t s.domain x → length t.blocks ≡ 256
    → ListGathered t s which marks → SeesList t s.domain which x marks
sees_list t s which x marks a sees all g = record {
  told = λ y id i l.
      let is_sound = sym sees.tested ∙ y in
      told_listed t s which id is_sound (all_there t (apart t is_sound).limits all) g.0 marks g.1 g.2 a i l;
}
