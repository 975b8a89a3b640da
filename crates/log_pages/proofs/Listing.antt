-- A list that is filled in descriptor by descriptor, and what the marks tell is the list.
use Prim.Native.Nat.{ℕ, zero, suc, ◌+◌, ◌*◌, ◌≤◌, ◌<◌}
use mathlib.Core.List.{List, [], ◌∷◌, ◌++◌, append_assoc, append-nil}
use mathlib.Core.Path.{◌≡◌, refl, sym, ap, ap₂, ◌∙◌}
use native.Mathlib.Numerals.{add-one}
use native.Mathlib.Omega.{arith}
use lib.ListN.{get_or, length, length-append, take}
use lib.Seq.{take_all, take-suc}
use Rattle.geometry.specs.Bytes.{little_endian}
use Rattle.log_pages.specs.LogPages.{descriptors_to, told_bytes}
use Rattle.model.specs.declared.block.Block.{Block}
use Rattle.model.specs.declared.command.Listed.{Listed}
use Rattle.model.specs.declared.table.Table.{Table}
use Rattle.rules.proofs.Drive.{fill_then}
use Rattle.rules.proofs.Store.{length_overwritten}
use Rattle.rules.specs.Drive.{block_at, overwritten}
use Rattle.rules.specs.LogPages.{descriptor, descriptor_of, end_mark, list, list_mark, list_of, listed_blocks}
use Rattle.scan.specs.Listing.{byte_told, index_told, number_told}
use Rattle.scan.specs.Summary.{ToldAt}

-- ---- A list on the way

-- The end mark has a descriptor's fields, ..
end_fields : end_mark ≡ descriptor_of 4294967295 0 0
unfolding little_endian
end_fields = refl

-- .. and so 8 bytes, as any such fields have.
fields_length : (n index mark : ℕ) → length (descriptor_of n index mark) ≡ 8
unfolding little_endian
fields_length n index mark = refl

descriptors_length : (marks : List ℕ) (n : ℕ) → length (descriptors_to marks n) ≡ 8 * n
unfolding descriptors_to
descriptors_length marks zero = refl
descriptors_length marks (suc n) =
    let d = descriptor_of (number_told marks n) (index_told marks n) (byte_told marks n) in
    length-append (descriptors_to marks n) d
    ∙ omega (arith, descriptors_length marks n, fields_length (number_told marks n) (index_told marks n) (byte_told marks n))

-- The first n descriptors stand at the front, and the bytes are as many as they were.
pub record Begun (marks : List ℕ) (count n : ℕ) (first bytes : List ℕ) : Type 0 where
  pub are : bytes ≡ overwritten 0 (descriptors_to marks n) first
  pub as_long : length bytes ≡ length first
  pub below : n ≤ count

pub begun : (marks : List ℕ) (count : ℕ) (first : List ℕ) → Begun marks count 0 first first
unfolding descriptors_to overwritten
begun marks count first = record { are = refl; as_long = refl; below = omega arith }

-- What is filled in behind them stands there too.
behind : {marks first bytes last : List ℕ} {count n : ℕ} (new : List ℕ) → Begun marks count n first bytes → last ≡ overwritten (8 * n) new bytes
    → last ≡ overwritten 0 (descriptors_to marks n ++ new) first
behind {marks} {first} {n = n} new b e =
    let row = descriptors_to marks n in
    let at : 8 * n ≡ 0 + length row = omega (arith, descriptors_length marks n) in
    e ∙ ap₂ (λ (k : ℕ) (l : List ℕ). overwritten k new l) at b.are ∙ fill_then 0 row new first (omega arith)

-- One descriptor more, ..
pub one_more : {marks first bytes last : List ℕ} {count n : ℕ} → Begun marks count n first bytes → n < count → 8 * (count + 1) ≤ length first
    → last ≡ overwritten (8 * n) (descriptor_of (number_told marks n) (index_told marks n) (byte_told marks n)) bytes
    → Begun marks count (n + 1) first last
unfolding descriptors_to
one_more {marks} {first} {n = n} b l room e =
    let d = descriptor_of (number_told marks n) (index_told marks n) (byte_told marks n) in
    let are = behind d b e in
    record {
      are = are ∙ rw (add-one);
      as_long = ap length are ∙ length_overwritten 0 (descriptors_to marks n ++ d) first
          (omega (arith, l, room, length-append (descriptors_to marks n) d, descriptors_length marks n, fields_length (number_told marks n) (index_told marks n) (byte_told marks n)));
      below = omega (arith, l);
    }

-- .. and behind the last the end mark.
pub whole_list : {marks first bytes last : List ℕ} {count n : ℕ} → Begun marks count n first bytes → count ≤ n
    → last ≡ overwritten (8 * count) (descriptor_of 4294967295 0 0) bytes
    → last ≡ overwritten 0 (told_bytes marks count) first
whole_list {marks} {first} {bytes} {count = count} {n = n} b l e =
    let all : count ≡ n = omega (arith, b.below, l) in
    behind (descriptor_of 4294967295 0 0) b (e ∙ ap (λ (k : ℕ). overwritten (8 * k) (descriptor_of 4294967295 0 0) bytes) all)
    ∙ rw (← all, end_fields)

-- ---- What the marks tell is the list

-- The descriptors of a list, without the end mark.
unfoldable descriptors : Table → (Block → ℕ) → List ℕ → List ℕ
descriptors t mark [] = []
descriptors t mark (n ∷ ns) = descriptor t.config mark n (block_at t n) ++ descriptors t mark ns

-- A list is its descriptors and the end mark.
with_end : (t : Table) (mark : Block → ℕ) (ns : List ℕ) → list_of t mark ns ≡ descriptors t mark ns ++ end_mark
unfolding descriptors list_of
with_end t mark [] = refl
with_end t mark (n ∷ ns) =
    ap (λ (l : List ℕ). descriptor t.config mark n (block_at t n) ++ l) (with_end t mark ns)
    ∙ sym (append_assoc (descriptor t.config mark n (block_at t n)) (descriptors t mark ns) end_mark)

-- One number more brings its descriptor.
at_end : (t : Table) (mark : Block → ℕ) (ns : List ℕ) (n : ℕ)
    → descriptors t mark (ns ++ (n ∷ [])) ≡ descriptors t mark ns ++ descriptor t.config mark n (block_at t n)
unfolding descriptors
at_end t mark [] n = append-nil (descriptor t.config mark n (block_at t n))
at_end t mark (m ∷ ns) n =
    ap (λ (l : List ℕ). descriptor t.config mark m (block_at t m) ++ l) (at_end t mark ns n)
    ∙ sym (append_assoc (descriptor t.config mark m (block_at t m)) (descriptors t mark ns)
    (descriptor t.config mark n (block_at t n)))

module _ (t : Table) (which : Listed) (order marks : List ℕ)
    (told : (i : ℕ) → i < length order → ToldAt t which (get_or order i 0) marks i) where
  told_to_lem : (n : ℕ) → n ≤ length order → descriptors_to marks n ≡ descriptors t (list_mark which) (take n order)
  unfolding descriptors_to descriptors
  told_to_lem zero l = refl
  told_to_lem (suc n) l =
      let here = told n (omega (arith, l)) in
      rw (take-suc order n 0 (omega (arith, l)), at_end t (list_mark which) (take n order) (get_or order n 0), told_to_lem n (omega (arith, l)), here.number, here.byte, here.index)

  pub told_list : told_bytes marks (length order) ≡ list_of t (list_mark which) order
  told_list =
      ap (λ (l : List ℕ). l ++ end_mark) (told_to_lem (length order) (omega arith) ∙ ap (descriptors t (list_mark which)) (take_all (length order) order (omega arith)))
      ∙ sym (with_end t (list_mark which) order)

-- So it is for a domain.
pub told_listed : (t : Table) (d : ℕ) (which : Listed) (marks : List ℕ)
    → ((i : ℕ) → i < length (listed_blocks t d which) → ToldAt t which (get_or (listed_blocks t d which) i 0) marks i)
    → told_bytes marks (length (listed_blocks t d which)) ≡ list t d which
unfolding list
told_listed t d which marks told = told_list t which (listed_blocks t d which) marks told
