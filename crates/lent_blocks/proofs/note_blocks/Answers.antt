-- A block more, and none left.
use Rattle.std.proofs.Common.{◌≡◌, ℕ, ◌+◌, ◌<◌, ◌≤◌, List, drop, get_or, length, refl, sym, ◌∙◌, arith}
use Rattle.std.proofs.lemmas.List.{drop_all, drop_more}
use Rattle.model.specs.declared.block.Block.{Block}
use Rattle.model.specs.declared.command.Listed.{Listed}
use Rattle.rules.specs.Drive.{clear_block}
use Rattle.scan.specs.Listing.{noted_from, noted_with}
use Rattle.scan.specs.declared.scan.Subject.{Subject}
use Rattle.lent_blocks.proofs.note_blocks.Goals as goal

further : (s : Subject) (which : Listed) (bs : List Block) (i : ℕ) (keys : List ℕ) → i < length bs
    → noted_from s which i (drop i bs) keys ≡ noted_from s which (i + 1) (drop (i + 1) bs) (noted_with s which i (get_or bs i clear_block) keys)
unfolding noted_from
further s which bs i keys less = rw (drop_more bs i clear_block less) refl

finished : (s : Subject) (which : Listed) (bs : List Block) (i : ℕ) (keys : List ℕ) → length bs ≤ i → noted_from s which i (drop i bs) keys ≡ keys
unfolding noted_from
finished s which bs i keys over = rw (drop_all i bs over) refl

pub loop-n-preserved : goal.loop-n-preserved
loop-n-preserved c =
    let a = c.args in
    rw (c.note_listed.ensures) (sym (further a.subject a.listed a.blocks.now c.loop-n.n c.loop-n.keys (omega arith)) ∙ c.loop-n.invariant)

pub returns : goal.returns
returns c =
    let a = c.args in
    sym (finished a.subject a.listed a.blocks.now c.loop-n.n c.loop-n.keys (omega arith)) ∙ c.loop-n.invariant
