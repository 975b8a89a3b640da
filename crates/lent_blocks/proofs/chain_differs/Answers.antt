-- A block of the chain that there is not, or that has the serial, ends the loop; with any other the chain goes on.
use Rattle.std.proofs.Common.{◌≡◌, ap, sym, ◌∙◌, arith}
use Rattle.scan.specs.Marks.{chain_differs}
use Rattle.lent_blocks.proofs.Chains.{chain_ends, chain_other, chain_past, chain_same}
use Rattle.lent_blocks.proofs.chain_differs.Goals as goal

pub returns-then-blocks-at : goal.returns-then-blocks-at
returns-then-blocks-at c = sym (c.loop-at.invariant ∙ chain_past _ _ _ c.loop-at.at (omega arith))

pub returns-then-same_serial : goal.returns-then-same_serial
returns-then-same_serial c =
    let same = sym c.same_serial.ensures ∙ c.if-same_serial.true in
    sym (c.loop-at.invariant ∙ chain_same _ _ _ c.loop-at.at (omega arith) (omega arith) same)

pub loop-at-preserved : goal.loop-at-preserved
loop-at-preserved c =
    let other = sym c.same_serial.ensures ∙ c.if-same_serial.false in
    c.loop-at.invariant ∙ chain_other _ _ _ c.loop-at.at (omega arith) (omega arith) other
    ∙ ap (chain_differs c.args.blocks.now c.args.marks.now.row c.args.block) (sym c.chain_before-at.ensures.0)

pub returns : goal.returns
returns c =
    let a = c.args in
    let over : c.loop-at.at ≡ 0 = omega arith in
    sym (c.loop-at.invariant ∙ ap (chain_differs a.blocks.now a.marks.now.row a.block) over ∙ chain_ends _ _ _)
