-- Document 01's number and values of each answer.
use Rattle.std.specs.Prelude.{ℕ, [], ◌∷◌}
use Rattle.geometry.specs.Questions.{Outcome, refusal, success}
use Rattle.model.specs.declared.answer.Answer.{Answer}
use Rattle.model.specs.declared.answer.Answer.TheVariants as given
use Rattle.model.specs.declared.answer.Refusal.{Refusal}
use Rattle.model.specs.declared.answer.Refusal.TheVariants.{Limits, Unsound, Store, DomainId, Existence, Range, Output, UserAddress}
use Rattle.model.specs.declared.answer.Refusal.TheVariants.{Holder, BlockState, OpenLimit, Serials, Quota, Coverage, Extent, Mismatch}

-- The number of the question that was answered no.
abbrev pub number_of : Refusal → ℕ
number_of Limits = 1
number_of Unsound = 2
number_of Store = 3
number_of DomainId = 4
number_of Existence = 5
number_of Range = 6
number_of Output = 7
number_of UserAddress = 8
number_of Holder = 9
number_of BlockState = 10
number_of OpenLimit = 11
number_of Serials = 12
number_of Quota = 13
number_of Coverage = 14
number_of Extent = 15
number_of Mismatch = 16

-- Erase, Close and Free answer a block number, the other commands success alone.
abbrev pub outcome_of : Answer → Outcome
outcome_of given.Done = success []
outcome_of (given.Block n) = success (n ∷ [])
outcome_of (given.Refused r) = refusal (number_of r)
