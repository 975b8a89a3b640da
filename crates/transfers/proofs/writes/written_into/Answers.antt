-- The flash addresses rise by one from that of the first unwritten ADU, and the user addresses go into the block's stretch.
use mathlib.Core.Path.{◌≡◌, ap, ◌∙◌}
use native.Mathlib.Omega.{arith}
use lib.Seq.{length-take-le}
use Rattle.geometry.proofs.Laws.Answers.{address_yes}
use Rattle.geometry.specs.Shape.{adus, adus_per_block}
use Rattle.rules.proofs.Counting.{length_row}
use Rattle.rules.specs.Blocks.{user_address}
use Rattle.rules.specs.Drive.{overwritten}
use Rattle.transfers.proofs.Addresses.{first_addressed, words_low, words_row}
use Rattle.transfers.specs.Transfers.{address_in}
use Rattle.transfers.proofs.writes.written_into.Goals as goal

pub word_at-word-requires : goal.word_at-word-requires
word_at-word-requires c = let z = c in let a = z.args in
    address_yes a.config (address_in a.domain a.n a.block.written) (first_addressed a.config a.domain a.n a.block a.count.0 z.requires.may_write_in)

pub put_rising-requires : goal.put_rising-requires
put_rising-requires c = let z = c in let a = z.args in
    rw (c.word_at-word.ensures, length-take-le a.count.0 a.words.now (omega (arith, z.requires.stretch_len.1)))
    (words_low a.config a.domain a.n a.block a.count.0 z.requires.may_write_in)

pub returns : goal.returns
unfolding overwritten
returns c = let z = c in let a = z.args in
    let all : c.adus_per_block.result ≡ adus_per_block a.config = ap adus (c.adus_per_block.ensures ∙ rw z.requires.may_write_in.limits) in
    record {
      becomes = rw (c.written_on.ensures, all, length_row (user_address a.start) a.count.0);
      leaves = c.put_user_addresses.ensures;
      fills = rw (c.put_rising.ensures, c.word_at-word.ensures, length-take-le a.count.0 a.words.now (omega (arith, z.requires.stretch_len.1)), words_row a.config a.domain a.n a.block.written.0 a.count.0, length_row (user_address a.start) a.count.0, length_row);
    }
