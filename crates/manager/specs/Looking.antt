-- What is read of a table for a command.
use Rattle.std.specs.Prelude.{ℕ, List, ◌≡◌}
use Rattle.geometry.specs.declared.shape.Config.{Config}
use Rattle.model.specs.declared.block.Block.{Block}
use Rattle.model.specs.declared.table.Domain.{Domain}
use Rattle.scan.specs.Listing.{listed_from}
use Rattle.scan.specs.Summary.{SummaryGathered}
use Rattle.scan.specs.declared.scan.About.{About}
use Rattle.scan.specs.declared.scan.About.TheVariants as about
use Rattle.scan.specs.declared.scan.Subject.{Subject}
use Rattle.scan.specs.declared.summary.Summary.{Summary}

-- The list of these blocks, if the subject is about one, left in the marks.
abbrev pub list_left : About → Subject → List Block → List ℕ → List ℕ
list_left (about.Listed which) s bs marks = listed_from s which 0 bs marks
list_left about.Domain s bs marks = marks
list_left (about.Block n) s bs marks = marks
list_left (about.Placement p) s bs marks = marks
list_left about.Chosen s bs marks = marks

-- The summary of these blocks and domains, and the list if it is asked for, with marks that were so before, so behind the
-- scans, and are so after.
pub record Looked (c : Config) (s : Subject) (bs : List Block) (rs : List Domain) (before : List ℕ) (r : Summary) (after : List ℕ) : Type 0 where
  pub marks : List ℕ
  pub gathered : SummaryGathered c s bs rs before marks r
  pub listed : after ≡ list_left s.about s bs marks
