-- The commands that a recorder sends for a sample, and what it reads off an answer.
use Rattle.std.specs.Prelude.{ℕ, Bool, false, cond, eqb}
use Rattle.std.proofs.Math.Option.{Option, none, some}
use Rattle.geometry.specs.Shape.{adus}
use Rattle.model.specs.Answers.{number_of}
use Rattle.model.specs.declared.answer.Answer.{Answer}
use Rattle.model.specs.declared.answer.Answer.TheVariants.{Block, Done, Refused}
use Rattle.model.specs.declared.command.Command.{Command}
use Rattle.model.specs.declared.command.Command.TheVariants.{Free, WriteByPlacement}
use Rattle.model.specs.declared.table.Domain.{Domain}
use Rattle.model.specs.declared.table.Table.{Table}
use Rattle.rules.specs.Recorder.{has_recorder_shape, oldest_closed}

-- The write of one sample to the domain d, which has this record. For a domain of another shape it is a write of no ADUs,
-- which is refused by its range.
unfoldable pub sample_command : Domain → ℕ → ℕ → Command
sample_command owner d sample = WriteByPlacement d 0 sample (adus (cond (has_recorder_shape owner) 1 0))

-- A write of no ADUs: it changes nothing, and is refused by its range where nothing before that is refused.
abbrev pub no_samples : ℕ → Command
no_samples d = WriteByPlacement d 0 0 (adus 0)

-- Free of the domain's oldest Closed block. Where there is none the number is one that no drive has, so that Free is refused by its range.
abbrev pub number_or : Option ℕ → ℕ
number_or none = 18446744073709551615
number_or (some n) = n

unfoldable pub freeing : Table → ℕ → Command
freeing t d = Free d (number_or (oldest_closed t d))

-- ---- What was answered

-- Refused with this number.
abbrev pub is_refused_with : ℕ → Answer → Bool
is_refused_with n Done = false
is_refused_with n (Block block) = false
is_refused_with n (Refused reason) = eqb (number_of reason) n

-- Over the quota, and out of range.
abbrev pub is_over_quota : Answer → Bool
is_over_quota answer = is_refused_with 13 answer

abbrev pub is_out_of_range : Answer → Bool
is_out_of_range answer = is_refused_with 6 answer
