-- What the questions ask of an accepted address, and an answer by value in 01's terms.
use Prim.Native.Nat.{ℕ, ◌+◌, ◌*◌, ◌^◌, ◌<◌}
use mathlib.Core.Bool.{true, ◌&&◌}
use mathlib.Core.List.{List, [], ◌∷◌}
use mathlib.Core.Path.{◌≡◌, refl, sym, ap, ◌∙◌}
use native.Mathlib.Omega.{arith}
use lib.Dec.{leb, lit<}
use lib.ListN.{length}
use borrow.Author.Tests.{le-leb, lt-ltb, ltb-true, ne_eqb}
use Rattle.geometry.specs.Address.{are_elements, is_block, is_domain_id, is_offset, offset_bits}
use Rattle.geometry.specs.Answers.{address_of, address_questions, create_answer, create_into, create_questions, create_values, filled, number_of}
use Rattle.geometry.specs.Answers.{parse_answer, parse_into, parse_questions, parse_values, returned, seven_numbers}
use Rattle.geometry.specs.Questions.{Outcome, Question, answered, ask, first_no, refusal, success}
use Rattle.geometry.specs.Shape.{adus_per_block, within_limits}
use Rattle.geometry.specs.declared.address.Elements.{Elements}
use Rattle.geometry.specs.declared.address.FlashAddress.{FlashAddress}
use Rattle.geometry.specs.declared.address.Refusal.{Refusal}
use Rattle.geometry.specs.declared.address.Refusal.TheVariants.{DomainId, Limits, Output, Range}
use Rattle.geometry.specs.declared.shape.Config.{Config}
use Rattle.geometry.proofs.Laws.Address.{InRange, below_48, fields, elements_in_range, in_range_elements, offset_in_range}
use Rattle.geometry.proofs.Laws.Questions.{all_yes, first_asked, answered_no, answered_number, answered_yes, positive, then_asked, then_not}
use Rattle.geometry.proofs.Laws.Shape.{Between, both, is_between, limits}

-- An address of the drive.
pub record Addressed (c : Config) (a : FlashAddress) : Type 0 where
  pub limits : within_limits c ≡ true
  pub domain : Between 1 16 a.domain
  pub block : a.block < c.blocks
  pub offset : a.offset.0 < (adus_per_block c).0

pub addressed : (c : Config) (a : FlashAddress) → first_no (address_questions c a) ≡ 0 → Addressed c a
addressed c a e =
    let range = is_block c a.block && is_offset c a.offset in
    let q1 = all_yes 1 (within_limits c) (ask 4 (is_domain_id a.domain) ∷ ask 6 range ∷ []) (lit< tt) e in
    let q4 = all_yes 4 (is_domain_id a.domain) (ask 6 range ∷ []) (lit< tt) q1.1 in
    let q6 = both (is_block c a.block) (is_offset c a.offset) (all_yes 6 range [] (lit< tt) q4.1).0 in
    record {
      limits = q1.0;
      domain = is_between 1 16 a.domain q4.0;
      block = ltb-true a.block c.blocks q6.0;
      offset = ltb-true a.offset.0 (adus_per_block c).0 q6.1;
    }

-- Its word fits 64 bits.
pub word_fits : (c : Config) (a : FlashAddress) → first_no (address_questions c a) ≡ 0
    → a.domain * 2 ^ 48 + a.block * 2 ^ offset_bits c + a.offset.0 < 2 ^ 64
word_fits c a e =
    let h = addressed c a e in
    omega (arith, below_48 c a (fields c a (limits c h.limits) h.block h.offset), h.domain.most)

pub address_yes : (c : Config) (a : FlashAddress) → Addressed c a → first_no (address_questions c a) ≡ 0
unfolding first_no
address_yes c a h =
    simp (
      h.limits,
      le-leb 1 a.domain h.domain.least,
      le-leb a.domain 16 h.domain.most,
      lt-ltb a.block c.blocks h.block,
      lt-ltb a.offset.0 (adus_per_block c).0 h.offset,
    )

-- A domain, a block and elements of the drive.
pub record Creatable (c : Config) (domain block : ℕ) (e : Elements) : Type 0 where
  pub limits : within_limits c ≡ true
  pub id : Between 1 16 domain
  pub number : block < c.blocks
  pub elements : InRange c e

pub creatable : (c : Config) (d n : ℕ) (e : Elements) → first_no (create_questions c d n e) ≡ 0 → Creatable c d n e
creatable c d n e h =
    let range = is_block c n && are_elements c e in
    let q1 = all_yes 1 (within_limits c) (ask 4 (is_domain_id d) ∷ ask 6 range ∷ []) (lit< tt) h in
    let q4 = all_yes 4 (is_domain_id d) (ask 6 range ∷ []) (lit< tt) q1.1 in
    let q6 = both (is_block c n) (are_elements c e) (all_yes 6 range [] (lit< tt) q4.1).0 in
    record {
      limits = q1.0;
      id = is_between 1 16 d q4.0;
      number = ltb-true n c.blocks q6.0;
      elements = elements_in_range c e q6.1;
    }

pub create_yes : (c : Config) (d n : ℕ) (e : Elements) → Creatable c d n e → first_no (create_questions c d n e) ≡ 0
unfolding first_no
create_yes c d n e h =
    simp (
      h.limits,
      le-leb 1 d h.id.least,
      le-leb d 16 h.id.most,
      lt-ltb n c.blocks h.number,
      in_range_elements c e h.elements,
    )

-- What can be created has an address of the drive.
pub created_addressed : (c : Config) (d n : ℕ) (e : Elements) → Creatable c d n e → Addressed c (address_of c d n e)
created_addressed c d n e h = record {
  limits = h.limits;
  domain = h.id;
  block = h.number;
  offset = (offset_in_range c e h.elements).adu;
}

pub elements_asked : (c : Config) (d n : ℕ) (e : Elements) → 0 ≡ first_no (create_questions c d n e) → are_elements c e ≡ true
elements_asked c d n e h = in_range_elements c e (creatable c d n e (sym h)).elements

pub made_asked : (c : Config) (d n : ℕ) (e : Elements) → 0 ≡ first_no (create_questions c d n e) → first_no (address_questions c (address_of c d n e)) ≡ 0
made_asked c d n e h = address_yes c (address_of c d n e) (created_addressed c d n e (creatable c d n e (sym h)))

-- A refusal by value is the first no.
number_positive : (r : Refusal) → 0 < number_of r
number_positive Limits = lit< tt
number_positive DomainId = lit< tt
number_positive Range = lit< tt
number_positive Output = lit< tt

pub refused : (r : Refusal) (qs : List Question) (values : List ℕ) → number_of r ≡ first_no qs → refusal (number_of r) ≡ answered qs values
refused r qs values e = sym (answered_no qs values (number_of r) (number_positive r) (sym e))

-- What the functions of src/address.rt answer: a word where every question is answered yes, and else the first no.
pub ruleset asked = (answered_yes, refused, first_asked, elements_asked, made_asked)

-- ---- An answer by value, put into a buffer

module _ (size : ℕ) (qs : List Question) (values buffer : List ℕ) where
  -- A refusal by value leaves the buffer.
  pub filled_no : (r : Refusal) → refusal (number_of r) ≡ answered qs values → returned (number_of r) buffer ≡ filled size qs values buffer
  unfolding filled
  filled_no r e =
      let first : first_no qs ≡ number_of r = sym (answered_number qs values) ∙ sym (ap (λ (o : Outcome). o.number) e) in
      rw (then_not qs (ask 7 (leb size (length buffer)) ∷ []) (number_of r) (number_positive r) first, ne_eqb (number_of r) 0 (λ z. omega (arith, number_positive r)))

  -- The values of an answer go in where question 7 alone is left.
  pub filled_yes : positive qs ≡ true → (given : List ℕ) → success given ≡ answered qs values → filled size [] given buffer ≡ filled size qs values buffer
  unfolding filled
  filled_yes p given e =
      let none : first_no qs ≡ 0 = sym (answered_number qs values) ∙ sym (ap (λ (o : Outcome). o.number) e) in
      let same : given ≡ values = ap (λ (o : Outcome). o.values) (e ∙ answered_yes qs values none) in
      rw (then_asked qs (ask 7 (leb size (length buffer)) ∷ []) p none, same)

-- What the functions of src/host.rt answer, by the answer by value.
module _ (c : Config) (d n : ℕ) (e : Elements) (buffer : List ℕ) where
  pub made_no : (r : Refusal) → refusal (number_of r) ≡ create_answer c d n e → returned (number_of r) buffer ≡ create_into c d n e buffer
  unfolding create_answer create_into
  made_no r h = filled_no 8 (create_questions c d n e) (create_values c d n e) buffer r h

  pub made_yes : (word : ℕ) → success (word ∷ []) ≡ create_answer c d n e → filled 8 [] (word ∷ []) buffer ≡ create_into c d n e buffer
  unfolding create_answer create_into positive
  made_yes word h = filled_yes 8 (create_questions c d n e) (create_values c d n e) buffer refl (word ∷ []) h

module _ (c : Config) (word : ℕ) (buffer : List ℕ) where
  pub taken_no : (r : Refusal) → refusal (number_of r) ≡ parse_answer c word → returned (number_of r) buffer ≡ parse_into c word buffer
  unfolding parse_answer parse_into
  taken_no r h = filled_no 56 (parse_questions c word) (parse_values c word) buffer r h

  pub taken_yes : (a : FlashAddress) (e : Elements) → success (seven_numbers a e) ≡ parse_answer c word
      → filled 56 [] (seven_numbers a e) buffer ≡ parse_into c word buffer
  unfolding parse_answer parse_into positive
  taken_yes a e h = filled_yes 56 (parse_questions c word) (parse_values c word) buffer refl (seven_numbers a e) h

pub ruleset filling = (made_no, made_yes, taken_no, taken_yes)
