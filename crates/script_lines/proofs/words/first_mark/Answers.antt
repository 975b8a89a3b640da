use Rattle.std.proofs.Common.{sym, ◌∙◌, rules, tests}
use Rattle.std.proofs.lemmas.Iterator.{YieldsList-from_slice}
use Rattle.std.proofs.lemmas.Iterator.Search.{position_from_yields_List}
use Rattle.script_lines.specs.Words.{is_mark}
use Rattle.script_lines.proofs.Scanning.{found_at, found_none, to_end}
use Rattle.script_lines.proofs.words.first_mark.Goals as goal

pub returns-in-Some-clause-value : goal.returns-in-Some-clause-value
returns-in-Some-clause-value c =
    let a = c.args in
    let rest = YieldsList-from_slice _ c.iter.ensures.rest in
    let found = position_from_yields_List (is_mark a.mark) _ _ c.position.result c.position.ensures.ran rest
    (λ x b q k. search (rules, tests)) in
    found_at a.mark a.line.now a.at c.in-Some.passed (sym (rw to_end at found) ∙ c.in-Some.is)

pub returns-in-None-clause-value : goal.returns-in-None-clause-value
returns-in-None-clause-value c =
    let a = c.args in
    let rest = YieldsList-from_slice _ c.iter.ensures.rest in
    let found = position_from_yields_List (is_mark a.mark) _ _ c.position.result c.position.ensures.ran rest
    (λ x b q k. search (rules, tests)) in
    found_none a.mark a.line.now a.at c.requires (sym (rw to_end at found) ∙ c.in-None.is)
