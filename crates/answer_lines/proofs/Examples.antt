-- Lines that the definitions compute.
use mathlib.Core.List.{[], ◌∷◌}
use mathlib.Core.Path.{◌≡◌, refl}
use Rattle.model.specs.declared.answer.Answer.TheVariants.{Block, Done, Refused}
use Rattle.model.specs.declared.answer.Refusal.TheVariants.{Coverage, Extent}
use Rattle.model.specs.declared.command.Command.TheVariants.{Erase, WriteByBlock}
use Rattle.script_lines.specs.Words.{ascii}
use Rattle.answer_lines.specs.Lines.{answer_line, samples_line}
use Rattle.answer_lines.specs.Texts.{decimal_in}

-- An erased block by its number.
erased : answer_line (Erase 1 4294967295) (Block 3) [] [] ≡ ascii "ok block 3\n"
unfolding decimal_in
erased = refl

-- A refusal by its number.
refused : answer_line (Erase 1 4294967295) (Refused Coverage) [] [] ≡ ascii "refused 14\n"
unfolding decimal_in
refused = refl

-- The addresses of a write, as many as it has ADUs: what stands behind them is not printed.
wrote : answer_line (WriteByBlock 1 2 0 (record { 0 = 2 })) Done (562949953421440 ∷ 562949953421441 ∷ 7 ∷ []) []
    ≡ ascii "ok 0002000000000080 0002000000000081\n"
wrote = refl

-- A sample's address, the last two samples, and too few of them.
recorded : samples_line Done (record { 0 = 1 }) (562949953421440 ∷ 7 ∷ []) ≡ ascii "ok 0002000000000080\n"
recorded = refl

latest : samples_line Done (record { 0 = 2 }) (18446744073709551615 ∷ 26 ∷ 7 ∷ [])
    ≡ ascii "ok ffffffffffffffff 000000000000001a\n"
latest = refl

too_few : samples_line (Refused Extent) (record { 0 = 2 }) (562949953421440 ∷ 7 ∷ []) ≡ ascii "refused 15\n"
unfolding decimal_in
too_few = refl
