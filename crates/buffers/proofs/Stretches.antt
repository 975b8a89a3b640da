-- A block's stretch of the store: as the program cuts it out and lends it on, and what the store is once it comes back.
use Prim.Native.Nat.{ℕ, zero, suc, ◌+◌, ◌-◌, ◌≤◌, ◌<◌, min}
use mathlib.Core.Bool.{true}
use mathlib.Core.List.{List, [], ◌∷◌, ◌++◌, append_assoc}
use mathlib.Core.Path.{◌≡◌, refl, sym, ap, ◌∙◌}
use native.Mathlib.Nat.{suc-add, zero-add}
use native.Mathlib.Omega.{arith}
use lib.ListN.{drop, length, length-take, take, take-append-drop}
use lib.Seq.{drop_at, drop-drop, take_at, take-take}
use Rattle.buffers.proofs.Rows.{length_part, part_end}
use Rattle.geometry.proofs.Laws.Shape.{limits, starts, starts_apart, starts_end}
use Rattle.geometry.specs.Shape.{adus_per_block, counted, store_length, stretch_start, within_limits}
use Rattle.geometry.specs.declared.shape.Adus.{Adus}
use Rattle.geometry.specs.declared.shape.Config.{Config}
use Rattle.rules.proofs.Store.{length_overwritten}
use Rattle.rules.specs.Drive.{overwritten}

-- The entries of block n, ..
unfoldable pub stretch_of : Config → ℕ → List ℕ → List ℕ
stretch_of c n store = take (adus_per_block c).0 (drop (stretch_start c n).0 store)

-- .. and the store with others in their place.
unfoldable pub with_stretch : Config → ℕ → List ℕ → List ℕ → List ℕ
with_stretch c n stretch store = overwritten (stretch_start c n).0 stretch store

-- ---- Cut out, and put back

-- A part of the store as it is lent on, so many entries from a start on, and the store with what comes back.
abbrev pub lent_of : List ℕ → ℕ → ℕ → List ℕ
lent_of store start entries = take (start + entries - start) (drop start store)

abbrev pub given_back : List ℕ → ℕ → ℕ → List ℕ → List ℕ
given_back store start entries part = take start store ++ (part ++ drop (start + entries - start) (drop start store))

-- The stretch of block n, so many entries from a start on: it lies inside the store, it is what is lent on, and what
-- comes back takes its place.
pub record Stretch (c : Config) (store : List ℕ) (n start entries : ℕ) : Type 0 where
  pub inside : start + entries ≤ length store
  pub most : start + entries ≤ 268435456
  pub long : length (lent_of store start entries) ≡ (adus_per_block c).0
  pub lent : lent_of store start entries ≡ stretch_of c n store
  pub back : (part : List ℕ) → length part ≡ length (lent_of store start entries) → given_back store start entries part ≡ with_stretch c n part store

-- A block of the drive has its stretch inside.
pub stretch_inside : (c : Config) (store : List ℕ) (n : ℕ) → n < c.blocks → length store ≡ (store_length c).0
    → (stretch_start c n).0 + (adus_per_block c).0 ≤ length store
stretch_inside c store n below all = rw (all, ← starts_end c) (starts_apart c n c.blocks below)

store_most : (c : Config) → within_limits c ≡ true → (store_length c).0 ≤ 268435456
unfolding store_length
store_most c within = starts c (limits c within) c.blocks (omega arith)

-- Within the limits, and for a block of the drive, the counts are those of its stretch.
pub stretch : (c : Config) (store : List ℕ) (n : ℕ) (start capacity : Adus) → within_limits c ≡ true → n < c.blocks
    → length store ≡ (store_length c).0
    → start.0 ≡ counted c (stretch_start c (min n c.blocks)).0
    → capacity.0 ≡ counted c (adus_per_block c).0
    → Stretch c store n start.0 capacity.0
unfolding stretch_of with_stretch overwritten
stretch c store n start capacity within below all s k =
    let least : min n c.blocks ≡ n = omega arith in
    let from : start.0 ≡ (stretch_start c n).0 = s ∙ rw (within, least) in
    let entries : capacity.0 ≡ (adus_per_block c).0 = k ∙ rw within in
    let inside : start.0 + capacity.0 ≤ length store = rw (from, entries) (stretch_inside c store n below all) in
    let long = length_part store start.0 capacity.0 inside in
    record {
      inside = inside;
      most = omega (arith, inside, all, store_most c within);
      long = long ∙ entries;
      lent = rw (part_end, from, entries);
      back = λ part same. let e : length part ≡ (adus_per_block c).0 = same ∙ long ∙ entries in rw (part_end, from, entries, e);
    }

-- ---- A part of the stretch is a part of the store

-- What stands from j on up to k, and then behind k, is all from j on.
rejoin : (j k : ℕ) (row : List ℕ) → j ≤ k → drop j (take k row) ++ drop k row ≡ drop j row
rejoin zero k row l = take-append-drop k row
rejoin (suc j) zero row l = absurd (omega (arith, l))
rejoin (suc j) (suc k) [] l = refl
rejoin (suc j) (suc k) (x ∷ row) l = rejoin j k row (omega (arith, l))

-- Entries that are replaced among the first k.
front_filled : (at k : ℕ) (new row : List ℕ) → at + length new ≤ k → k ≤ length row
    → overwritten at new (take k row) ++ drop k row ≡ overwritten at new row
unfolding overwritten
front_filled zero k new row l m =
    append_assoc new (drop (length new) (take k row)) (drop k row)
    ∙ ap (λ (end : List ℕ). new ++ end) (rejoin (length new) k row (omega (arith, l)))
front_filled (suc at) zero new row l m = absurd (omega (arith, l))
front_filled (suc at) (suc k) new [] l m = absurd (omega (arith, m))
front_filled (suc at) (suc k) new (x ∷ row) l m =
    ap (λ (end : List ℕ). x ∷ end) (front_filled at k new row (omega (arith, l)) (omega (arith, m)))

-- Entries that are replaced in a part of k entries, which is put back, are replaced in the whole.
part_filled : (start at k : ℕ) (new row : List ℕ) → at + length new ≤ k → start + k ≤ length row
    → overwritten start (overwritten at new (take k (drop start row))) row ≡ overwritten (start + at) new row
unfolding overwritten
part_filled zero at k new row l m =
    let few : length (take k row) ≡ k = rw length-take (omega (arith, m)) in
    let long : length (overwritten at new (take k row)) ≡ k = length_overwritten at new (take k row) (omega (arith, l, few)) ∙ few in
    rw (zero-add at)
    (ap (λ (j : ℕ). overwritten at new (take k row) ++ drop j row) long ∙ front_filled at k new row l (omega (arith, m)))
part_filled (suc start) at k new [] l m = absurd (omega (arith, m))
part_filled (suc start) at k new (x ∷ row) l m =
    rw (suc-add start at) (ap (λ (end : List ℕ). x ∷ end) (part_filled start at k new row l (omega (arith, m))))

pub filled_within : (c : Config) (n at : ℕ) (new store : List ℕ) → at + length new ≤ (adus_per_block c).0
    → (stretch_start c n).0 + (adus_per_block c).0 ≤ length store
    → with_stretch c n (overwritten at new (stretch_of c n store)) store ≡ overwritten ((stretch_start c n).0 + at) new store
unfolding stretch_of with_stretch
filled_within c n at new store l inside = part_filled (stretch_start c n).0 at (adus_per_block c).0 new store l inside

-- What is read of it is read of the store.
drop_taken : (at count k : ℕ) (row : List ℕ) → at + count ≤ k → take count (drop at (take k row)) ≡ take count (drop at row)
drop_taken zero count k row l = take-take count k row (omega (arith, l))
drop_taken (suc at) count zero row l = absurd (omega (arith, l))
drop_taken (suc at) count (suc k) [] l = refl
drop_taken (suc at) count (suc k) (x ∷ row) l = drop_taken at count k row (omega (arith, l))

pub read_within : (c : Config) (n at count : ℕ) (store : List ℕ) → at + count ≤ (adus_per_block c).0
    → take count (drop at (stretch_of c n store)) ≡ take count (drop ((stretch_start c n).0 + at) store)
unfolding stretch_of
read_within c n at count store l =
    drop_taken at count (adus_per_block c).0 (drop (stretch_start c n).0 store) l
    ∙ ap (take count) (drop-drop at (stretch_start c n).0 store)

-- ---- Put in once, and again

module _ (c : Config) (n : ℕ) (stretch store : List ℕ) (long : length stretch ≡ (adus_per_block c).0)
    (inside : (stretch_start c n).0 + (adus_per_block c).0 ≤ length store) where
  front_long : length (take (stretch_start c n).0 store) ≡ (stretch_start c n).0
  front_long = rw length-take (omega (arith, inside))

  -- The stretch that was put in is the block's.
  pub stretch_put : stretch_of c n (with_stretch c n stretch store) ≡ stretch
  unfolding stretch_of with_stretch overwritten
  stretch_put =
      ap (take (adus_per_block c).0) (drop_at (take (stretch_start c n).0 store) _ (stretch_start c n).0 front_long)
      ∙ take_at stretch _ (adus_per_block c).0 long

  -- The store has as many entries as before.
  pub length_put : length (with_stretch c n stretch store) ≡ length store
  unfolding with_stretch
  length_put = length_overwritten (stretch_start c n).0 stretch store (omega (arith, long, inside))

  -- Another takes its place.
  pub put_again : (next : List ℕ) → length next ≡ (adus_per_block c).0
      → with_stretch c n next (with_stretch c n stretch store) ≡ with_stretch c n next store
  unfolding with_stretch overwritten
  put_again next same =
      let start = (stretch_start c n).0 in
      let front = take start store in
      let end = drop (length stretch) (drop start store) in
      ap (λ (first : List ℕ). first ++ (next ++ drop (length next) (drop start (front ++ (stretch ++ end))))) (take_at front (stretch ++ end) start front_long)
      ∙ ap (λ (last : List ℕ). front ++ (next ++ drop (length next) last)) (drop_at front (stretch ++ end) start front_long)
      ∙ ap (λ (last : List ℕ). front ++ (next ++ last)) (drop_at stretch end (length next) (long ∙ sym same))
      ∙ ap (λ (k : ℕ). front ++ (next ++ drop k (drop start store))) (long ∙ sym same)
