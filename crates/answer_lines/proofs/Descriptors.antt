-- A list's descriptors, as groups of eight bytes.
use Rattle.std.proofs.Common.{◌≡◌, ℕ, zero, suc, ◌+◌, ◌*◌, ◌≤◌, ◌<◌, min, All, List, [], ◌∷◌, ◌++◌, refl, ap}
use Rattle.std.proofs.Common.{drop, length, take, get_or, flat_map, length-drop, arith}
use Rattle.std.specs.List.{position_or_len}
use Rattle.std.specs.Simd.{first_chunks}
use Rattle.std.proofs.Math.ListN.{length-take}
use Rattle.geometry.proofs.Laws.Shape.{by_test}
use Rattle.answer_lines.proofs.Pieces.{length_pieces}
use Rattle.answer_lines.specs.Texts.{descriptor_count, descriptors_text, hex_byte, is_end_mark, spaced_bytes}

-- Each group has eight bytes.
whole_groups : (m : ℕ) (bytes : List ℕ) → 8 * m ≤ length bytes → (n k : ℕ) (d : List ℕ)
    → k < length (take n (first_chunks 8 m bytes)) → length (get_or (take n (first_chunks 8 m bytes)) k d) ≡ 8
whole_groups zero bytes l zero k d h = absurd (omega arith)
whole_groups zero bytes l (suc n) k d h = absurd (omega arith)
whole_groups (suc m) bytes l zero k d h = absurd (omega arith)
whole_groups (suc m) bytes l (suc n) zero d h = simp length-take (omega arith)
whole_groups (suc m) bytes l (suc n) (suc k) d h =
    whole_groups m (drop 8 bytes) (simp length-drop (omega arith)) n k d (omega arith)

-- So the text of each is as long.
pub wide_groups : (m : ℕ) (bytes : List ℕ) → 8 * m ≤ length bytes → (n : ℕ)
    → All (λ group. length (spaced_bytes group) ≡ 17) (take n (first_chunks 8 m bytes))
wide_groups m bytes l n k d h =
    let group = get_or (take n (first_chunks 8 m bytes)) k d in
    omega (arith, length_pieces hex_byte 2 group (λ k d l. refl), whole_groups m bytes l n k d h)

-- The end mark stands in the first of the eight bytes.
end_mark_of : (bytes : List ℕ) → is_end_mark (take 8 bytes) ≡ is_end_mark bytes
end_mark_of [] = refl
end_mark_of (a ∷ []) = refl
end_mark_of (a ∷ b ∷ []) = refl
end_mark_of (a ∷ b ∷ c ∷ []) = refl
end_mark_of (a ∷ b ∷ c ∷ d ∷ bytes) = refl

-- How many groups stand up to the end mark and with it.
abbrev pub up_to_mark : List (List ℕ) → ℕ
up_to_mark groups = min (position_or_len is_end_mark groups + 1) (length groups)

first_marked : (n : ℕ) → min (0 + 1) (suc n) ≡ 1
first_marked n = omega arith

later_marked : (p n : ℕ) → min (1 + p + 1) (suc n) ≡ suc (min (p + 1) n)
later_marked p n = omega arith

-- Listed one after the other these groups are the descriptors.
pub listed_groups : (m : ℕ) (bytes : List ℕ)
    → flat_map spaced_bytes (take (up_to_mark (first_chunks 8 m bytes)) (first_chunks 8 m bytes))
    ≡ descriptors_text (descriptor_count m bytes) bytes
unfolding descriptor_count descriptors_text
listed_groups zero bytes = refl
listed_groups (suc m) bytes =
    let rest = first_chunks 8 m (drop 8 bytes) in
    by_test (is_end_mark bytes)
    (λ t. rw (end_mark_of bytes, t, first_marked (length rest)))
    (λ f. rw (end_mark_of bytes, f, later_marked (position_or_len is_end_mark rest) (length rest))
    (ap (λ others. spaced_bytes (take 8 bytes) ++ others) (listed_groups m (drop 8 bytes))))
