-- The laws of the drive's shape and of its flash addresses. Each file of Laws/ proves what is needed of the file of specs/
-- with its name; Inverse puts them together.
pub mod Shape
pub mod Questions
pub mod Address
pub mod Bytes
pub mod Answers
pub mod Inverse
use Prim.Native.Nat.{ℕ, ◌+◌, ◌*◌, ◌^◌, ◌≤◌, ◌<◌}
use mathlib.Core.Bool.{true}
use mathlib.Core.List.{[], ◌∷◌}
use mathlib.Core.Logic.{◌↔◌}
use mathlib.Core.Path.{◌≡◌, ap, sym, ◌∙◌}
use Rattle.geometry.specs.Address.{elements_of, fields_of, offset_bits}
use Rattle.geometry.specs.Answers.{address_of, create_answer, parse_answer, seven_numbers}
use Rattle.geometry.specs.Questions.{Outcome, success}
use Rattle.geometry.specs.Shape.{adus_per_block, planes_per_block, store_length, stretch_start, whole_blocks, within_limits}
use Rattle.geometry.specs.declared.address.Elements.{Elements}
use Rattle.geometry.specs.declared.address.FlashAddress.{FlashAddress}
use Rattle.geometry.specs.declared.shape.Config.{Config}
use Rattle.geometry.specs.declared.shape.Planes.{Planes}
use Rattle.geometry.proofs.Laws.Address.{bits_laws}
use Rattle.geometry.proofs.Laws.Inverse.{accepted_made, made_parsed, parsed_made, seven_same}
use Rattle.geometry.proofs.Laws.Shape.{least_blocks, limits, starts_apart, starts_end}

-- Taking apart what was made gives back the domain, the block and the elements, and the offset that they make.
pub parse_created : (c : Config) (d n : ℕ) (e : Elements) (word : ℕ)
    → create_answer c d n e ≡ success (word ∷ [])
    → parse_answer c word ≡ success (seven_numbers (address_of c d n e) e)
parse_created c d n e word made = made_parsed c d n e word made

-- Making from what was taken apart gives back the word.
pub create_parsed : (c : Config) (word : ℕ) (a : FlashAddress) (e : Elements)
    → parse_answer c word ≡ success (seven_numbers a e)
    → create_answer c a.domain a.block e ≡ success (word ∷ [])
create_parsed c word a e parsed = parsed_made c word a e parsed

-- A word is accepted exactly when it is the address of some domain, block and elements.
pub accepted_words : (c : Config) (word : ℕ)
    → ((parse_answer c word).number ≡ 0) ↔ ((d : ℕ) × (n : ℕ) × (e : Elements) × (create_answer c d n e ≡ success (word ∷ [])))
accepted_words c word = (
  λ accepted. ((fields_of c word).domain, (fields_of c word).block, elements_of c (fields_of c word).offset, accepted_made c word accepted),
  λ made. ap (λ (o : Outcome). o.number) (made_parsed c made.0 made.1 made.2 word made.3),
)

-- Two different tuples have different words.
pub one_word_one_address : (c : Config) (d n : ℕ) (e : Elements) (d' n' : ℕ) (e' : Elements) (word : ℕ)
    → create_answer c d n e ≡ success (word ∷ [])
    → create_answer c d' n' e' ≡ success (word ∷ [])
    → (d ≡ d') × (n ≡ n') × (e ≡ e')
one_word_one_address c d n e d' n' e' word made made' =
    seven_same (address_of c d n e) (address_of c d' n' e') e e'
    (ap (λ (o : Outcome). o.values) (sym (made_parsed c d n e word made) ∙ made_parsed c d' n' e' word made'))

-- b is the least number with C ≤ 2 ^ b.
pub offset_bits_least : (c : Config) → within_limits c ≡ true
    → ((adus_per_block c).0 ≤ 2 ^ offset_bits c) × ((k : ℕ) → (adus_per_block c).0 ≤ 2 ^ k → offset_bits c ≤ k)
offset_bits_least c within = let b = bits_laws c (limits c within) in (b.enough, b.least)

-- Rounding up gives the least number of blocks that have as many planes.
pub whole_blocks_least : (c : Config) (n : Planes) → within_limits c ≡ true
    → (n.0 ≤ whole_blocks c n * (planes_per_block c).0) × ((k : ℕ) → n.0 ≤ k * (planes_per_block c).0 → whole_blocks c n ≤ k)
whole_blocks_least c n within = least_blocks c n (limits c within)

-- The stretches of two blocks lie apart, and the last block's ends with the store.
pub stretches_apart : (c : Config) (n m : ℕ) → n < m → (stretch_start c n).0 + (adus_per_block c).0 ≤ (stretch_start c m).0
stretches_apart c n m less = starts_apart c n m less

pub store_ends : (c : Config) → stretch_start c c.blocks ≡ store_length c
store_ends c = starts_end c
