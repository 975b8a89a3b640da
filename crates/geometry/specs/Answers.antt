-- What making a flash address and taking it apart answer: by value, and into the byte buffer that the C host lends.
use Rattle.std.specs.Prelude.{ℕ, ◌&&◌, cond, List, [], ◌∷◌, ◌++◌, eqb, leb, length, drop, Result, Ok, Err}
use Rattle.geometry.specs.Address.{are_elements, elements_of, fields_of, is_block, is_domain_id, is_offset, offset_of, word_of}
use Rattle.geometry.specs.Bytes.{numbers}
use Rattle.geometry.specs.Questions.{Outcome, Question, answered, ask, first_no, refusal, success}
use Rattle.geometry.specs.Shape.{within_limits}
use Rattle.geometry.specs.declared.address.Elements.{Elements}
use Rattle.geometry.specs.declared.address.FlashAddress.{FlashAddress}
use Rattle.geometry.specs.declared.address.Refusal.{Refusal}
use Rattle.geometry.specs.declared.address.Refusal.TheVariants.{DomainId, Limits, Output, Range}
use Rattle.geometry.specs.declared.shape.Config.{Config}

-- The address of a domain, a block and elements.
abbrev pub address_of : Config → ℕ → ℕ → Elements → FlashAddress
address_of c d n e = record { domain = d; block = n; offset = offset_of c e }

-- Making: what it asks of a domain, a block and elements, and the word that it gives.
abbrev pub create_questions : Config → ℕ → ℕ → Elements → List Question
create_questions c domain block e =
    ask 1 (within_limits c)
    ∷ ask 4 (is_domain_id domain)
    ∷ ask 6 (is_block c block && are_elements c e)
    ∷ []

abbrev pub create_values : Config → ℕ → ℕ → Elements → List ℕ
create_values c domain block e = word_of c (address_of c domain block e) ∷ []

unfoldable pub create_answer : Config → ℕ → ℕ → Elements → Outcome
create_answer c domain block e = answered (create_questions c domain block e) (create_values c domain block e)

-- The same of an address.
abbrev pub address_questions : Config → FlashAddress → List Question
address_questions c a =
    ask 1 (within_limits c)
    ∷ ask 4 (is_domain_id a.domain)
    ∷ ask 6 (is_block c a.block && is_offset c a.offset)
    ∷ []

unfoldable pub word_answer : Config → FlashAddress → Outcome
word_answer c a = answered (address_questions c a) (word_of c a ∷ [])

-- Taking apart: what it asks of a word's fields, and the seven numbers that it gives.
abbrev pub parse_questions : Config → ℕ → List Question
parse_questions c word = address_questions c (fields_of c word)

abbrev pub seven_numbers : FlashAddress → Elements → List ℕ
seven_numbers a e = a.domain ∷ a.block ∷ a.offset.0 ∷ e.page ∷ e.die ∷ e.plane ∷ e.adu ∷ []

abbrev pub parse_values : Config → ℕ → List ℕ
parse_values c word = seven_numbers (fields_of c word) (elements_of c (fields_of c word).offset)

unfoldable pub parse_answer : Config → ℕ → Outcome
parse_answer c word = answered (parse_questions c word) (parse_values c word)

-- For the C host: the answer's number, and the lent buffer as it then is.
pub record Filled : Type 0 where
  pub number : ℕ
  pub buffer : List ℕ

abbrev pub returned : ℕ → List ℕ → Filled
returned n bytes = record { number = n; buffer = bytes }

-- Question 7 comes last: has the buffer size bytes? Success fills the first size with the values, a refusal leaves all as it was.
unfoldable pub filled : ℕ → List Question → List ℕ → List ℕ → Filled
filled size qs values buffer =
    let n = first_no (qs ++ (ask 7 (leb size (length buffer)) ∷ [])) in
    cond (eqb n 0) (returned 0 (numbers values ++ drop size buffer)) (returned n buffer)

unfoldable pub create_into : Config → ℕ → ℕ → Elements → List ℕ → Filled
create_into c domain block e buffer = filled 8 (create_questions c domain block e) (create_values c domain block e) buffer

unfoldable pub parse_into : Config → ℕ → List ℕ → Filled
parse_into c word buffer = filled 56 (parse_questions c word) (parse_values c word) buffer

-- The host's numbers as a configuration and as elements.
abbrev pub config_of : ℕ → ℕ → ℕ → ℕ → ℕ → ℕ → ℕ → Config
config_of g d l k s n t = record { pages = g; dies = d; planes = l; adus = k; blocks = s; rated = n; period = t }

abbrev pub elements_given : ℕ → ℕ → ℕ → ℕ → Elements
elements_given g d l k = record { page = g; die = d; plane = l; adu = k }

-- The number of each reason to refuse, and 01's number and values of each answer by value.
abbrev pub number_of : Refusal → ℕ
number_of Limits = 1
number_of DomainId = 4
number_of Range = 6
number_of Output = 7

abbrev pub created : Result ℕ Refusal → Outcome
created (Ok word) = success (word ∷ [])
created (Err r) = refusal (number_of r)

abbrev pub parsed : Result (FlashAddress × Elements) Refusal → Outcome
parsed (Ok (a, e)) = success (seven_numbers a e)
parsed (Err r) = refusal (number_of r)

-- What the crate's own functions hand on: 0 where no question was answered no.
abbrev pub verdict_number : Result (Unit {0}) Refusal → ℕ
verdict_number (Ok _) = 0
verdict_number (Err r) = number_of r
