-- Making an address and taking it apart undo each other.
use Prim.Native.Nat.{ℕ}
use mathlib.Core.List.{[], ◌∷◌}
use mathlib.Core.Path.{◌≡◌, sym, ap, ◌∙◌}
use native.Mathlib.Omega.{arith}
use Rattle.geometry.specs.Address.{elements_of, fields_of, word_of}
use Rattle.geometry.specs.Answers.{address_of, create_answer, parse_answer, seven_numbers}
use Rattle.geometry.specs.Questions.{Outcome, success}
use Rattle.geometry.specs.declared.address.Elements.{Elements}
use Rattle.geometry.specs.declared.address.FlashAddress.{FlashAddress}
use Rattle.geometry.specs.declared.shape.Config.{Config}
use Rattle.geometry.proofs.Laws.Address.{bits_laws, elements_in_block, elements_offset, fields, fields_word, offset_elements, word_fields}
use Rattle.geometry.proofs.Laws.Answers.{Creatable, address_yes, addressed, creatable, create_yes, created_addressed}
use Rattle.geometry.proofs.Laws.Questions.{answered_yes, yes_answered}
use Rattle.geometry.proofs.Laws.Shape.{limits}

-- What making accepted, and the word that it gave.
module _ (c : Config) (d n : ℕ) (e : Elements) (word : ℕ) (made : create_answer c d n e ≡ success (word ∷ [])) where
  made_of : Creatable c d n e
  unfolding create_answer
  made_of = creatable c d n e (yes_answered _ _ (ap (λ (o : Outcome). o.number) made))

  made_word : word ≡ word_of c (address_of c d n e)
  unfolding create_answer
  made_word =
      let same : word ∷ [] ≡ word_of c (address_of c d n e) ∷ [] = ap (λ (o : Outcome). o.values) (sym made ∙ answered_yes _ _ (create_yes c d n e made_of)) in
      cc

  made_fields : fields_of c word ≡ address_of c d n e
  made_fields =
      let a = created_addressed c d n e made_of in
      rw made_word (fields_word c (address_of c d n e) (fields c (address_of c d n e) (limits c a.limits) a.block a.offset))

  pub made_parsed : parse_answer c word ≡ success (seven_numbers (address_of c d n e) e)
  unfolding parse_answer
  made_parsed =
      rw (made_fields, elements_offset c e made_of.elements)
      (answered_yes _ _ (address_yes c (address_of c d n e) (created_addressed c d n e made_of)))

-- The fields of an accepted word, and their elements, make it.
pub accepted_made : (c : Config) (word : ℕ) → (parse_answer c word).number ≡ 0
    → create_answer c (fields_of c word).domain (fields_of c word).block (elements_of c (fields_of c word).offset) ≡ success (word ∷ [])
unfolding parse_answer create_answer
accepted_made c word yes₀ =
    let a = fields_of c word in
    let h = addressed c a (yes_answered _ _ yes₀) in
    let l = limits c h.limits in
    let e = elements_of c a.offset in
    let able : Creatable c a.domain a.block e = record { limits = h.limits; id = h.domain; number = h.block; elements = elements_in_block c a.offset l h.offset } in
    let same : word_of c (address_of c a.domain a.block e) ≡ word =
    ap (λ (o : _). word_of c (record { domain = a.domain; block = a.block; offset = o })) (offset_elements c a.offset)
    ∙ word_fields c word (omega (arith, (bits_laws c l).few))
    in
    answered_yes _ _ (create_yes c a.domain a.block e able) ∙ ap (λ (w : ℕ). success (w ∷ [])) same

-- The seven numbers that an accepted word gives are its own.
parsed_fields : (c : Config) (word : ℕ) (a : FlashAddress) (e : Elements) → parse_answer c word ≡ success (seven_numbers a e)
    → seven_numbers a e ≡ seven_numbers (fields_of c word) (elements_of c (fields_of c word).offset)
unfolding parse_answer
parsed_fields c word a e p =
    ap (λ (o : Outcome). o.values) (sym p ∙ answered_yes _ _ (yes_answered _ _ (ap (λ (o : Outcome). o.number) p)))

-- Seven numbers are those of one address and one row of elements.
pub seven_same : (a b : FlashAddress) (e f : Elements) → seven_numbers a e ≡ seven_numbers b f → (a.domain ≡ b.domain) × (a.block ≡ b.block) × (e ≡ f)
seven_same a b e f p =
    let page : e.page ≡ f.page = cc in
    let die : e.die ≡ f.die = cc in
    let plane : e.plane ≡ f.plane = cc in
    let adu : e.adu ≡ f.adu = cc in
    (cc, cc, λ i. record { page = page i; die = die i; plane = plane i; adu = adu i })

pub parsed_made : (c : Config) (word : ℕ) (a : FlashAddress) (e : Elements) → parse_answer c word ≡ success (seven_numbers a e)
    → create_answer c a.domain a.block e ≡ success (word ∷ [])
parsed_made c word a e p =
    let same = seven_same a (fields_of c word) e (elements_of c (fields_of c word).offset) (parsed_fields c word a e p) in
    rw (same.0, same.1, same.2) (accepted_made c word (ap (λ (o : Outcome). o.number) p))
