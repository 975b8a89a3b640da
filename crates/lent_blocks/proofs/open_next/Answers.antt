-- The one that is chosen is Free, and it gets what is left as far as it fits.
use Rattle.std.proofs.Common.{◌≤◌, length, refl, sym, arith}
use Rattle.geometry.proofs.Laws.Shape.{limits}
use Rattle.scan.specs.Free.{Chosen, no_candidate}
use Rattle.lent_blocks.proofs.Opening.{chosen_free}
use Rattle.lent_blocks.proofs.open_next.Goals as goal

pub choose_free-best-requires : goal.choose_free-best-requires
choose_free-best-requires c =
    let few = (limits c.args.config c.requires.0.within).ranges.blocks.most in
    omega (arith, c.requires.2, few)

pub fill_chosen-filled-requires : goal.fill_chosen-filled-requires
fill_chosen-filled-requires c =
    let bs = c.args.blocks.now in
    let best = c.choose_free-best.result in
    let few : length bs ≤ 256 =
    omega (arith, c.requires.2, (limits c.args.config c.requires.0.within).ranges.blocks.most) in
    let chosen : Chosen 0 bs no_candidate best =
    c.choose_free-best.ensures in (
      c.requires.0,
      c.requires.1,
      λ l. rw (c.block_at-block.ensures) (chosen_free bs best few chosen (omega (arith, l, c.requires.2))),
    )

pub returns : goal.returns
returns c =
    let bs = c.args.blocks.now in
    let best = c.choose_free-best.result in
    let filled = c.fill_chosen-filled.ensures in
    let chosen : Chosen 0 bs no_candidate best =
    c.choose_free-best.ensures in (
      (best, chosen, filled.0),
      filled.1,
      rw (c.put_record.ensures) (filled.2 bs best c.requires.2 chosen refl (sym c.block_at-block.ensures)),
    )
