use Rattle.std.proofs.Common.{refl, ◌∙◌, rules, tests}
use Rattle.std.proofs.lemmas.Iterator.{YieldsList-from_slice}
use Rattle.std.proofs.lemmas.Iterator.Search.{find_from_yields_List}
use Rattle.script_lines.proofs.Looking.{is_named, named, not_named}
use Rattle.script_lines.proofs.keywords.keyword_of.Goals as goal

pub returns-in_err-entry : goal.returns-in_err-entry
returns-in_err-entry c =
    let rows = c.iter.result.rest.now in
    c.from_residual.ensures
    ∙ not_named c.args.text.now rows (rw c.iter.ensures.rest) c.find.result
    (find_from_yields_List (is_named c.args.text.now) _ _ c.find.result c.find.ensures.ran
    (YieldsList-from_slice rows refl) (λ x b q k. search (rules, tests)))
    c.in_err-entry.was

pub returns : goal.returns
returns c =
    let rows = c.iter.result.rest.now in
    named c.args.text.now rows (rw c.iter.ensures.rest) c.find.result
    (find_from_yields_List (is_named c.args.text.now) _ _ c.find.result c.find.ensures.ran
    (YieldsList-from_slice rows refl) (λ x b q k. search (rules, tests)))
    c.in_ok-entry.entry c.in_ok-entry.was
