-- Document 01, "The drive's fixed shape": starting.
use Rattle.std.specs.Prelude.{cond, List, [], ◌∷◌, replicate}
use Rattle.geometry.specs.Questions.{Outcome, Question, answered, ask}
use Rattle.geometry.specs.Shape.{no_config, within_limits}
use Rattle.geometry.specs.declared.shape.Config.{Config}
use Rattle.model.specs.declared.table.Table.{Table}
use Rattle.rules.specs.Drive.{clear_block, clear_domain}

-- No domains, and every block Free with P/E count 0.
abbrev pub empty_table : Config → Table
empty_table c = record { config = c; domains = replicate 16 clear_domain; blocks = replicate 256 clear_block }

abbrev pub table_of_zeros : Table
table_of_zeros = empty_table no_config

-- Question 1: is the configuration within limits?
abbrev pub start_questions : Config → List Question
start_questions c = ask 1 (within_limits c) ∷ []

-- The answer, and the table; a refused start hands back the table of zeros.
pub record Started : Type 0 where
  pub answer : Outcome
  pub table : Table

unfoldable pub started : Config → Started
started c = record {
  answer = answered (start_questions c) [];
  table = cond (within_limits c) (empty_table c) table_of_zeros;
}
