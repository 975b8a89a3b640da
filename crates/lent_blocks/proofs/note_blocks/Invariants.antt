-- The keys of the other blocks, behind those so far, are the keys of all.
use Rattle.std.proofs.Common.{◌≡◌, drop}
use Rattle.scan.specs.Listing.{noted_from}
use Rattle.lent_blocks.proofs.note_blocks.Given as goal

abbrev pub invariant-loop-n : goal.invariant-loop-n
invariant-loop-n l = noted_from l.subject l.listed l.n (drop l.n l.blocks) l.keys ≡ noted_from l.subject l.listed 0 l.blocks l.initial.keys
