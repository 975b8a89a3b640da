-- What each command is about.
use Rattle.std.specs.Prelude.{ℕ, cond, eqb}
use Rattle.geometry.specs.Address.{fields_of}
use Rattle.geometry.specs.Shape.{adus, adus_per_block, within_limits}
use Rattle.geometry.specs.declared.shape.Config.{Config}
use Rattle.model.specs.declared.command.Command.{Command}
use Rattle.model.specs.declared.command.Command.TheVariants.{ChangeCapacity, Close, Create, Delete, Erase, Free, List as Listing, Page, Pulse, Read}
use Rattle.model.specs.declared.command.Command.TheVariants.{WriteByBlock, WriteByPlacement}
use Rattle.rules.specs.Blocks.{any_block}
use Rattle.scan.specs.declared.scan.About.{About}
use Rattle.scan.specs.declared.scan.About.TheVariants as about
use Rattle.scan.specs.declared.scan.Subject.{Subject}

abbrev pub subject_with : Config → ℕ → About → Subject
subject_with c d x = record {
  domain = d;
  about = x;
  capacity = adus (cond (within_limits c) (adus_per_block c).0 0);
  period = c.period;
  rated = c.rated;
}

unfoldable pub subject_of : Config → Command → Subject
subject_of c (Create d guarantee quota placements limit) = subject_with c d about.Domain
subject_of c (ChangeCapacity d guarantee quota) = subject_with c d about.Domain
subject_of c (Delete d) = subject_with c d about.Domain
subject_of c (Erase d n) = subject_with c d (cond (eqb n any_block) about.Chosen (about.Block n))
subject_of c (Close d n) = subject_with c d (about.Block n)
subject_of c (Free d n) = subject_with c d (about.Block n)
subject_of c (WriteByPlacement d p start count) = subject_with c d (about.Placement p)
subject_of c (WriteByBlock d n start count) = subject_with c d (about.Block n)
subject_of c (Read d address count expected) = subject_with c d (about.Block (cond (within_limits c) (fields_of c address).block 0))
subject_of c (Page d n) = subject_with c d (about.Block n)
subject_of c (Listing d which) = subject_with c d (about.Listed which)
subject_of c (Pulse seconds) = subject_with c 0 about.Domain
