-- The chain counts the zeros before the first other byte.
use Rattle.std.proofs.Common.{rules, ◌≡◌, ◌-◌, ◌≤◌, ◌==◌, length, drop, take, arith, tests, length-drop, ◌∙◌}
use Rattle.std.proofs.lemmas.Iterator.{YieldsList-from_slice}
use Rattle.std.proofs.lemmas.Iterator.Consumers.{count_from_yields_List}
use Rattle.std.proofs.lemmas.Iterator.Search.{YieldsList-from_take_while}
use Rattle.std.proofs.lemmas.List.{take_all}
use Rattle.std.proofs.lemmas.List.Folds.{length-prefix_len}
use Rattle.std.specs.List.{prefix_len}
use Rattle.case_lines.proofs.line.Word.letters.Goals as goal

pub returns : goal.returns
returns c =
    let bytes = c.args.self.now.0 in
    let zeros : c.count-zeros.result ≡ length (take (prefix_len (λ b. b == 0) bytes) bytes) =
    count_from_yields_List c.take_while.result c.count-zeros.result c.count-zeros.ensures.ran
    (YieldsList-from_take_while _ (λ b. b == 0) (YieldsList-from_slice bytes cc) (cc) (cc) (λ x b q k. search (rules, tests))) in
    let n : c.count-zeros.result ≡ prefix_len (λ b. b == 0) bytes = zeros ∙ length-prefix_len (λ b. b == 0) bytes in
    let short : length (drop c.count-zeros.result bytes) ≤ 8 - c.count-zeros.result =
    omega (arith, length-drop c.count-zeros.result bytes) in
    take_all (8 - c.count-zeros.result) (drop c.count-zeros.result bytes) short ∙ rw n
