-- The digits that are asked for hold the number, so they are the fewest.
use Rattle.std.proofs.Common.{ℕ, List, ap, ◌∙◌, arith}
use Rattle.io.specs.Digits.{last_digits}
use Rattle.answer_lines.specs.Texts.{put}
use Rattle.answer_lines.proofs.Digits.{asked}
use Rattle.answer_lines.proofs.puts.put_hex.Goals as goal

pub put_text-requires : goal.put_text-requires
put_text-requires c = omega (arith, asked _ _ _ c.requires.width c.requires.holds c.hex-k.ensures.len)

pub returns : goal.returns
returns c =
    let z = c.args in
    let all = asked z.width z.n c.hex-k.result c.requires.width c.requires.holds c.hex-k.ensures.len in
    let text = c.hex-k.ensures.digits ∙ ap (λ (k : ℕ). last_digits 16 k z.n) all in
    record {
      out_after = c.put_text.ensures.out_after ∙ ap (λ (t : List ℕ). put z.at t z.out.now) text;
      value = omega (arith, all);
    }
