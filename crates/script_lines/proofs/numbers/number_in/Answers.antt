use Rattle.std.proofs.Common.{◌≡◌, ◌+◌, ◌*◌, sym, ◌∙◌, arith}
use Rattle.script_lines.proofs.Digits.{digit_more, digits_end, no_digit, no_room, number_none, number_some}
use Rattle.script_lines.proofs.numbers.number_in.Goals as goal

pub returns-then-is_empty : goal.returns-then-is_empty
returns-then-is_empty c = sym (number_none _ _ (grind arith))

pub loop-b-init : goal.loop-b-init
loop-b-init c = number_some _ _ (grind arith)

pub returns-in_err-digit : goal.returns-in_err-digit
returns-in_err-digit c =
    let l = c.loop-b in
    let none = no_digit l.n c.args.text.now c.requires.1 c.from.ensures (omega arith) c.in_err-digit.ensures.value in
    c.from_residual.ensures ∙ sym (l.invariant ∙ none)

pub returns-in_err-checked_mul : goal.returns-in_err-checked_mul
returns-in_err-checked_mul c =
    let l = c.loop-b in
    let large = rw c.from-in-loop-b.ensures at c.in_err-checked_mul.ensures in
    let digit = c.in_ok-digit.ensures.value in
    let none = no_room l.n c.args.text.now c.requires.1 c.from.ensures (omega arith) _ digit (omega arith) in
    c.from_residual-in_err-checked_mul.ensures ∙ sym (l.invariant ∙ none)

pub returns-in_err-n : goal.returns-in_err-n
returns-in_err-n c =
    let l = c.loop-b in
    let product = rw c.from-in-loop-b.ensures at c.in_ok-checked_mul.ensures in
    let large = c.in_err-n.ensures in
    let digit = c.in_ok-digit.ensures.value in
    let none = no_room l.n c.args.text.now c.requires.1 c.from.ensures (omega arith) _ digit (omega arith) in
    c.from_residual-in_err-n.ensures ∙ sym (l.invariant ∙ none)

pub loop-b-preserved : goal.loop-b-preserved
loop-b-preserved c =
    let l = c.loop-b in
    let product = rw c.from-in-loop-b.ensures at c.in_ok-checked_mul.ensures in
    let sum = c.in_ok-n.ensures in
    let n : c.in_ok-n.n ≡ l.n * c.args.base + c.in_ok-digit.digit = omega arith in
    let digit = c.in_ok-digit.ensures.value in
    let more = digit_more l.n c.args.text.now c.requires.1 c.from.ensures (omega arith) _ digit (omega arith) in
    rw n (l.invariant ∙ more)

pub returns : goal.returns
returns c = sym (c.loop-b.invariant ∙ digits_end _ _ c.args.text.now c.loop-b.b-index (omega arith))
