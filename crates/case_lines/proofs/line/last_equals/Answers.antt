-- The chain gives the parts with their indices, and of those that are the sign the last.
use Rattle.std.proofs.Common.{rules, ◌==◌, not, length, tests}
use Rattle.std.proofs.lemmas.Iterator.{YieldsList-from_map}
use Rattle.std.proofs.lemmas.Iterator.Consumers.{YieldsList-from_enumerate, YieldsList-from_filter}
use Rattle.std.proofs.lemmas.Iterator.Splits.{YieldsList-from_slice_split}
use Rattle.case_lines.specs.Parts.{is_equals}
use Rattle.case_lines.proofs.Last.{last_from_yields_List}
use Rattle.case_lines.proofs.line.last_equals.Goals as goal

pub returns : goal.returns
returns c =
    last_from_yields_List c.map.result c.last.result c.last.ensures.ran
    (YieldsList-from_map _ (λ p. p.0)
    (YieldsList-from_filter _ (λ p. is_equals p.1)
    (YieldsList-from_enumerate
    (YieldsList-from_filter _ (λ part. not (length part == 0))
    (YieldsList-from_slice_split _ (λ b. b == 32) c.args.text.now (cc) (cc) (cc) (λ x b q k. search (rules, tests)))
    (cc) (λ x b q k. search (rules, tests)))
    (cc))
    (cc) (λ x b q k. search (rules, tests)))
    (cc) (λ x r q k. search rules))
