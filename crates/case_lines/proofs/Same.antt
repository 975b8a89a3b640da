-- A line is given by its text and its index for what is wanted.
use Rattle.std.proofs.Common.{◌≡◌, ℕ, ◌≤◌, List, ◌++◌, length, map, take, drop, replicate, sym, ap, ◌∙◌, arith}
use Rattle.std.proofs.Common.{length-take, take-append-drop}
use Rattle.std.proofs.lemmas.List.{length-map}
use mathlib.Core.HLevel.{is_prop→PathP}
use Rattle.std.proofs.Props.{props}
use Rattle.case_lines.specs.Numbers.{number_of}
use Rattle.case_lines.specs.Parts.{parts_of}
use Rattle.case_lines.specs.declared.line.Line.{Line}

-- As many numbers are read as there are parts.
counted : (l : Line) → l.count ≡ length (parts_of l.text.now)
counted l =
    let front = take l.count l.numbers in
    let whole : length front ≡ l.count = omega (arith, length-take l.count l.numbers, l.few, l.long) in
    sym whole ∙ ap length l.read ∙ length-map (parts_of l.text.now) number_of

-- The row of a line whose text has these parts: their numbers, and zeros behind them.
row_of : List (List ℕ) → List ℕ
row_of parts = map number_of parts ++ drop (length parts) (replicate 40 0)

filled : (l : Line) → l.numbers ≡ row_of (parts_of l.text.now)
unfolding row_of
filled l =
    let parts = parts_of l.text.now in
    sym (take-append-drop l.count l.numbers)
    ∙ ap (λ front. front ++ drop l.count l.numbers) l.read
    ∙ ap (λ back. map number_of parts ++ back) (l.rest ∙ ap (λ n. drop n (replicate 40 0)) (counted l))

-- Lines of one text, with one index for what is wanted, are one value. The facts of the type have one proof at most.
pub same_line : (a b : Line) → a.text ≡ b.text → a.wanted ≡ b.wanted → a ≡ b
same_line a b same_text same_wanted =
    let count : a.count ≡ b.count =
    counted a ∙ ap (λ t. length (parts_of t.now)) same_text ∙ sym (counted b) in
    let numbers : a.numbers ≡ b.numbers =
    filled a ∙ ap (λ t. row_of (parts_of t.now)) same_text ∙ sym (filled b) in
    λ i. record {
      text = same_text i;
      wanted = same_wanted i;
      numbers = numbers i;
      count = count i;
      few = is_prop→PathP (λ j. count j ≤ 40) (λ j. hlevel props) a.few b.few i;
      read =
          is_prop→PathP (λ j. take (count j) (numbers j) ≡ map number_of (parts_of ((same_text j).now)))
          (λ j. hlevel props) a.read b.read i;
      long = is_prop→PathP (λ j. length (numbers j) ≡ 40) (λ j. hlevel props) a.long b.long i;
      rest =
          is_prop→PathP (λ j. drop (count j) (numbers j) ≡ drop (count j) (replicate 40 0))
          (λ j. hlevel props) a.rest b.rest i;
    }
