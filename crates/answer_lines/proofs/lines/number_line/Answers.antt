-- The second of three pieces is the number's fewest digits.
use Rattle.std.proofs.Common.{ℕ, List, ap, ◌∙◌, arith}
use Rattle.script_lines.specs.Words.{ascii}
use Rattle.answer_lines.specs.Texts.{decimal, put}
use Rattle.answer_lines.proofs.Digits.{decimal_text, length_decimal}
use Rattle.answer_lines.proofs.Printing.{in_three, not_in_three}
use Rattle.answer_lines.proofs.lines.number_line.Goals as goal

pub returns-then-has_room : goal.returns-then-has_room
returns-then-has_room c =
    let z = c.args in
    let digits = c.decimal-k in
    let places = length_decimal digits.result z.n (omega arith) digits.ensures.len in
    let text = digits.ensures.digits ∙ decimal_text digits.result z.n (omega arith) digits.ensures.len in
    in_three z.name.now (decimal z.n) (ascii "\n") z.out.now c.has_room.ensures (omega (arith, places))
    c.if-has_room.true c.put_text-begin.ensures.out_after c.put_text-begin.ensures.value
    (c.put_text-end.ensures.out_after
    ∙ ap (λ (t : List ℕ). put c.put_text-begin.result t c.put_text-begin.new.out) text)
    (omega (arith, places)) c.put_text.ensures.out_after c.put_text.ensures.value

pub returns : goal.returns
returns c =
    let z = c.args in
    let digits = c.decimal-k in
    let places = length_decimal digits.result z.n (omega arith) digits.ensures.len in
    not_in_three z.name.now (decimal z.n) (ascii "\n") z.out.now c.has_room.ensures (omega (arith, places))
    c.if-has_room.false
