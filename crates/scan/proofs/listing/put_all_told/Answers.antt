use Rattle.std.proofs.Common.{refl, ap, ◌∙◌, length, ℕ, ◌≡◌, arith}
use Rattle.scan.specs.Listing.{told_to}
use Rattle.scan.proofs.Telling.{told_more}
use Rattle.scan.proofs.listing.put_all_told.Goals as goal

pub loop-i-init : goal.loop-i-init
unfolding told_to
loop-i-init c = refl

pub loop-i-preserved : goal.loop-i-preserved
loop-i-preserved c = told_more _ _ _ _ _ c.loop-i.invariant c.put_told.ensures

pub returns : goal.returns
returns c =
    let over : c.loop-i.i ≡ length c.args.keys.now = omega arith in
    c.loop-i.invariant ∙ ap (λ (n : ℕ). told_to c.args.keys.now n c.args.marks.now.row) over
