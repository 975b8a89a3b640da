use Rattle.std.proofs.Common.{sym, ◌∙◌, arith}
use Rattle.std.proofs.lemmas.Result.{err_from_is_err_and}
use Rattle.script_lines.proofs.Reading.{all_read, rest_read, word_fault, word_read}
use Rattle.script_lines.proofs.arguments.read_arguments.Goals as goal

pub returns-in_err-read : goal.returns-in_err-read
returns-in_err-read c =
    let l = c.loop-i in
    let begin = c.first_mark-begin.ensures.value in
    let end = c.first_mark-end.ensures.value in
    let word = sym (rw c.with.ensures at c.ok_or.ensures.value) ∙ c.in_err-read.was in
    let fault = err_from_is_err_and c.from_residual.result c.from_residual.ensures.1 in
    rw (fault.1, fault.2)
    (sym (l.invariant.so_far
    ∙ word_fault c.form-expected-items.result.now _ l.at l.i l.read (omega arith) begin end _ word))

pub loop-i-preserved : goal.loop-i-preserved
loop-i-preserved c =
    let l = c.loop-i in
    let begin = c.first_mark-begin.ensures.value in
    let end = c.first_mark-end.ensures.value in
    let word = sym (rw c.with.ensures at c.ok_or.ensures.value) ∙ c.in_ok-read.was in
    record {
      in_range = omega arith;
      so_far = l.invariant.so_far
          ∙ word_read c.form-expected-items.result.now _ l.at l.i l.read (omega arith) begin end _ word;
    }

pub returns-then-rest-text : goal.returns-then-rest-text
returns-then-rest-text c =
    let l = c.loop-i in
    let rest = c.first_mark-rest.ensures.value in
    sym (l.invariant.so_far
    ∙ rest_read c.form-expected-items.result.now _ l.at l.i l.read (omega arith) rest c.if-rest-text.true)

pub returns : goal.returns
returns c =
    let l = c.loop-i in
    let rest = c.first_mark-rest.ensures.value in
    sym (l.invariant.so_far
    ∙ all_read c.form-expected-items.result.now _ l.at l.i l.read (omega arith) rest c.if-rest-text.false)
