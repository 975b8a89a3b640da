use Rattle.std.proofs.Common.{refl}
use Rattle.scan.specs.Listing.{listed_from}
use Rattle.lent_blocks.proofs.gather_list.Goals as goal

pub returns : goal.returns
unfolding listed_from
returns c = rw (c.put_order.ensures.1, c.note_blocks.ensures, c.new-keys.ensures) refl
