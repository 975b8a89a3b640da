-- The chain gives the parts one after the other.
use Rattle.std.proofs.Common.{rules, tests, ◌==◌, not, length}
use Rattle.std.proofs.lemmas.Iterator.{YieldsList-from_take}
use Rattle.std.proofs.lemmas.Iterator.Consumers.{YieldsList-from_filter, nth_from_yields_List}
use Rattle.std.proofs.lemmas.Iterator.Splits.{YieldsList-from_slice_split}
use Rattle.case_lines.proofs.line.Line.part.Goals as goal

pub returns : goal.returns
returns c =
    nth_from_yields_List c.nth.result _ c.args.i c.nth.ensures.ran
    (YieldsList-from_take 40
    (YieldsList-from_filter _ (λ part. not (length part == 0))
    (YieldsList-from_slice_split _ (λ b. b == 32) c.args.self.now.text.now (cc) (cc) (cc) (λ x b q k. search (rules, tests)))
    (cc) (λ x b q k. search (rules, tests)))
    (cc))
