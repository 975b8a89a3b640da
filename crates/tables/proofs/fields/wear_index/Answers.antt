-- The quotient or, where half or more is left, the next number is the nearest; a quotient by 0 is 0.
use Prim.Native.Nat.{ℕ, ◌+◌, ◌-◌, ◌*◌, ◌/◌, ◌%◌, ◌<◌, ◌≤◌}
use mathlib.Core.Path.{◌≡◌, sym, ◌∙◌}
use native.Mathlib.Nat.{add-mul, div-add-mod', mod-lt}
use native.Mathlib.Omega.{arith}
use Rattle.rules.proofs.LogPages.{nearest_is}
use Rattle.rules.specs.LogPages.{nearest}
use Rattle.tables.proofs.fields.wear_index.Goals as goal
use Rattle.tables.proofs.fields.wear_index.Goals.{then-rest-rated, else-rest-rated}

less-than-half-left : (n d : ℕ) → n % d < d - n % d → n / d ≡ nearest n d
less-than-half-left n d left =
    sym (nearest_is n d (n / d) (omega (arith, div-add-mod' n d)) (omega (arith, div-add-mod' n d, left)))

half-left : (n d : ℕ) → n % d < d → d - n % d ≤ n % d → n / d + 1 ≡ nearest n d
half-left n d less left =
    sym (nearest_is n d (n / d + 1)
    (rw add-mul (omega (arith, div-add-mod' n d, less, left)))
    (rw add-mul (omega (arith, div-add-mod' n d, less))))

pub returns : goal.returns
returns c =
    let n = c.args.erases * 200 in
    let d = c.args.rated in
    let rounded : c.if-rest-rated.index ≡ nearest n d =
    elim c.if-rest-rated.branch [
      | then-rest-rated w ↦ w.index-is ∙ less-than-half-left n d w.if-rest-rated.true
      | else-rest-rated w ↦ w.index-is ∙ half-left n d (mod-lt n (omega arith)) w.if-rest-rated.false
    ] in
    (omega (arith, rounded), omega arith)
