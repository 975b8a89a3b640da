-- A block more, and none left.
use Rattle.std.proofs.Common.{ℕ, ◌+◌, ◌<◌, ◌≤◌, List, drop, get_or, length, refl, arith}
use Rattle.std.proofs.lemmas.List.{drop_all, drop_more}
use Rattle.model.specs.declared.block.Block.{Block}
use Rattle.rules.specs.Drive.{clear_block}
use Rattle.scan.specs.Free.{Chosen, chosen_next}
use Rattle.scan.specs.declared.free.Candidate.{Candidate}
use Rattle.lent_blocks.proofs.choose_free.Goals as goal

further : (bs : List Block) (i : ℕ) (c r : Candidate) → i < length bs → (get_or bs i clear_block).erases < 4294967296
    → Chosen (i + 1) (drop (i + 1) bs) (chosen_next c i (get_or bs i clear_block)) r → Chosen i (drop i bs) c r
unfolding Chosen
further bs i c r less few rest = rw (drop_more bs i clear_block less) (few, rest)

finished : (bs : List Block) (i : ℕ) (c : Candidate) → length bs ≤ i → Chosen i (drop i bs) c c
unfolding Chosen
finished bs i c over = rw (drop_all i bs over) refl

pub loop-n-preserved : goal.loop-n-preserved
loop-n-preserved c = λ r rest.
    let next = c.choose-best.ensures in
    c.loop-n.invariant r (further c.args.blocks.now c.loop-n.n c.loop-n.best r (omega arith) next.1 (rw (next.0) at rest))

pub returns : goal.returns
returns c = c.loop-n.invariant c.loop-n.best (finished c.args.blocks.now c.loop-n.n c.loop-n.best (omega arith))
