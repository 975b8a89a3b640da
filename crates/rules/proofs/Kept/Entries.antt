-- The entries of a block as a list: what opening and writing make of them, and what Read takes out of them.
use Prim.Native.Nat.{ℕ, zero, suc, ◌+◌, ◌-◌, ◌≤◌, ◌<◌}
use mathlib.Core.List.{List, [], ◌∷◌}
use mathlib.Core.Logic.{inl, inr}
use mathlib.Core.Path.{◌≡◌, refl, sym, ap, ap₂, ◌∙◌, subst}
use native.Mathlib.Nat.{suc-add, zero-add}
use native.Mathlib.Omega.{arith}
use lib.Dec.{ltb}
use lib.ListN.{drop, get_or, length, length-drop, length-replicate, length-take, replicate, take, get_or-replicate}
use borrow.Author.Tests.{ltb-false, ltb-true}
use Rattle.geometry.proofs.Laws.Shape.{by_test}
use Rattle.geometry.specs.Shape.{stretch_start}
use Rattle.geometry.specs.declared.address.FlashAddress.{FlashAddress}
use Rattle.geometry.specs.declared.shape.Config.{Config}
use Rattle.model.specs.declared.block.Way.{Way}
use Rattle.rules.specs.Blocks.{all_ones, opened_for, stored, written_into}
use Rattle.rules.specs.Drive.{Drive, block_adus, block_at, entries_of, overwritten}
use Rattle.rules.proofs.Store.{entry_before, entry_behind, entry_new, length_overwritten}
use Rattle.rules.proofs.Writes.{Ready, entry, inside, opened_entry, opened_ready, written_entry, written_own, written_ready}

-- Lists of one length with the same entries are the same.
same_entries : (xs ys : List ℕ) → length xs ≡ length ys → ((i : ℕ) → i < length xs → get_or xs i 0 ≡ get_or ys i 0) → xs ≡ ys
same_entries [] [] e h = refl
same_entries [] (y ∷ ys) e h = absurd (omega (arith, e))
same_entries (x ∷ xs) [] e h = absurd (omega (arith, e))
same_entries (x ∷ xs) (y ∷ ys) e h =
    ap₂ ◌∷◌ (h 0 (omega arith)) (same_entries xs ys (omega (arith, e)) (λ i l. h (suc i) (omega (arith, l))))

get_take : (k i : ℕ) (l : List ℕ) → i < k → get_or (take k l) i 0 ≡ get_or l i 0
get_take zero i l p = absurd (omega (arith, p))
get_take (suc k) i [] p = refl
get_take (suc k) zero (x ∷ l) p = refl
get_take (suc k) (suc i) (x ∷ l) p = get_take k i l (omega (arith, p))

get_drop : (k i : ℕ) (l : List ℕ) → get_or (drop k l) i 0 ≡ get_or l (k + i) 0
get_drop zero i l = rw zero-add
get_drop (suc k) i [] = refl
get_drop (suc k) i (x ∷ l) = rw (suc-add k i) (get_drop k i l)

module _ (c : Config) where
  -- A block has as many entries as ADUs, each of them the store's.
  pub entries_length : (v : Drive) (n : ℕ) → Ready c v → n < c.blocks → length (entries_of v n) ≡ (block_adus c n).0
  unfolding entries_of
  entries_length v n r l =
      rw r.shape (simp (length-take, length-drop) (omega (arith, inside c n l, r.store)))

  entries_get : (v : Drive) (n i : ℕ) → Ready c v → i < (block_adus c n).0 → get_or (entries_of v n) i 0 ≡ entry c v n i
  unfolding entries_of
  entries_get v n i r l =
      rw r.shape
      (get_take (block_adus c n).0 i (drop (stretch_start c n).0 v.store) l ∙ get_drop (stretch_start c n).0 i v.store)

  -- Entries that stay.
  pub entries_stay : (v w : Drive) (n : ℕ) → Ready c v → Ready c w → n < c.blocks
      → ((i : ℕ) → i < (block_adus c n).0 → entry c w n i ≡ entry c v n i)
      → entries_of w n ≡ entries_of v n
  entries_stay v w n r s l same =
      same_entries (entries_of w n) (entries_of v n) (entries_length w n s l ∙ sym (entries_length v n r l))
      (λ i k.
      let small : i < (block_adus c n).0 = omega (arith, k, entries_length w n s l) in
      entries_get w n i s small ∙ same i small ∙ sym (entries_get v n i r small))

  -- Opening sets every entry to all ones.
  pub entries_opened : (d : ℕ) (way : Way) (n : ℕ) (v : Drive) → Ready c v → n < c.blocks
      → entries_of (opened_for d way n v) n ≡ replicate (block_adus c n).0 all_ones
  entries_opened d way n v r l =
      let w = opened_for d way n v in
      let s = opened_ready c d way n v r l in
      same_entries (entries_of w n) (replicate (block_adus c n).0 all_ones)
      (entries_length w n s l ∙ sym (length-replicate _ _))
      (λ i k.
      let small : i < (block_adus c n).0 = omega (arith, k, entries_length w n s l) in
      entries_get w n i s small ∙ opened_entry c d way n v r l i small ∙ sym (get_or-replicate (block_adus c n).0 i all_ones 0 small))

  -- Writing puts user addresses behind what is written.
  module _ (d n : ℕ) (users : List ℕ) (v : Drive) (r : Ready c v) (l : n < c.blocks)
      (fits : (block_at v.table n).written.0 + length users ≤ (block_adus c n).0) where
    abbrev first : ℕ
    first = (block_at v.table n).written.0

    abbrev after : Drive
    after = (written_into d n users v).drive

    ready : Ready c after
    ready = written_ready c d n users v r l fits

    new_entry : (i : ℕ) → i < (block_adus c n).0 → entry c after n i ≡ get_or (overwritten first users (entries_of v n)) i 0
    new_entry i k =
        let old : List ℕ = entries_of v n in
        let room : first ≤ length old = omega (arith, entries_length v n r l, fits) in
        by_test (ltb i first)
        (λ e. written_own c d n users v r l fits i k (inl (ltb-true i first e))
        ∙ sym (entries_get v n i r k) ∙ sym (entry_before first i users old room (ltb-true i first e)))
        (λ e. by_test (ltb i (first + length users))
        (λ m.
        let at : i ≡ first + (i - first) = omega (arith, ltb-false i first e) in
        let few : i - first < length users = omega (arith, ltb-false i first e, ltb-true i (first + length users) m) in
        subst (λ (x : ℕ). entry c after n x ≡ get_or (overwritten first users old) x 0) (sym at)
        (written_entry c d n users v r l fits (i - first) few ∙ sym (entry_new first (i - first) users old room few)))
        (λ m. written_own c d n users v r l fits i k (inr (ltb-false i (first + length users) m))
        ∙ sym (entries_get v n i r k) ∙ sym (entry_behind first i users old room (ltb-false i (first + length users) m))))

    pub entries_written : entries_of after n ≡ overwritten first users (entries_of v n)
    entries_written =
        same_entries (entries_of after n) (overwritten first users (entries_of v n))
        (entries_length after n ready l ∙ sym (entries_length v n r l)
        ∙ sym (length_overwritten first users (entries_of v n) (omega (arith, entries_length v n r l, fits))))
        (λ i k.
        let small : i < (block_adus c n).0 = omega (arith, k, entries_length after n ready l) in
        entries_get after n i ready small ∙ new_entry i small)

  -- What is stored at an address of a block stands in its entries.
  pub stored_entries : (v : Drive) (a : FlashAddress) (count : ℕ) → Ready c v → a.block < c.blocks
      → a.offset.0 + count ≤ (block_adus c a.block).0
      → stored v a count ≡ take count (drop a.offset.0 (entries_of v a.block))
  stored_entries v a count r l fits =
      let start : ℕ = (stretch_start c a.block).0 + a.offset.0 in
      let some : count ≤ length v.store - start = omega (arith, inside c a.block l, r.store, fits) in
      ap (λ (x : Config). take count (drop ((stretch_start x a.block).0 + a.offset.0) v.store)) r.shape
      ∙ (same_entries (take count (drop start v.store)) (take count (drop a.offset.0 (entries_of v a.block)))
      (simp (length-take, length-drop) (omega (arith, some, entries_length v a.block r l, fits)))
      (λ i k.
      let few : i < count = omega (arith, rw length-take at k) in
      get_take count i (drop start v.store) few
      ∙ get_drop start i v.store
      ∙ ap (λ (x : ℕ). get_or v.store x 0) (omega arith)
      ∙ sym (entries_get v a.block (a.offset.0 + i) r (omega (arith, few, fits)))
      ∙ sym (get_drop a.offset.0 i (entries_of v a.block))
      ∙ sym (get_take count i (drop a.offset.0 (entries_of v a.block)) few)))
