-- The address is one of the drive, so that its word is given.
use mathlib.Core.Path.{sym, ap, ◌∙◌}
use Rattle.geometry.specs.Answers.{created}
use Rattle.transfers.proofs.Addresses.{word_given, word_refused}
use Rattle.transfers.specs.Transfers.{address_in}
use Rattle.transfers.proofs.writes.word_at.Goals as goal

pub returns-in-Ok : goal.returns-in-Ok
returns-in-Ok c = let z = c in
    word_given z.args.config (address_in z.args.domain z.args.block z.args.offset) c.in-Ok.word z.requires
    (sym (ap created c.in-Ok.is) ∙ c.flash_word.ensures)

pub returns-in-Err : goal.returns-in-Err
returns-in-Err c = let z = c in
    absurd (word_refused z.args.config (address_in z.args.domain z.args.block z.args.offset) c.in-Err.field-0 z.requires
    (sym (ap created c.in-Err.is) ∙ c.flash_word.ensures))
