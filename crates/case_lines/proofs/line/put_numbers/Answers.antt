-- The chain gives the numbers of the parts, of which there are 40 at most; no place behind them is written.
use Rattle.std.proofs.Common.{rules, tests, arith, ◌≤◌, ◌<◌, ◌==◌, ℕ, List, [], ◌∷◌, ◌+◌, ◌++◌, not, drop, length, map, length-take, ap, sym, ◌∙◌}
use Rattle.std.proofs.lemmas.Iterator.{YieldsList-from_map, YieldsList-from_take}
use Rattle.std.proofs.lemmas.Iterator.Consumers.{YieldsList-end, YieldsList-from_filter, YieldsList-turn}
use Rattle.std.proofs.lemmas.Iterator.Splits.{YieldsList-from_slice_split}
use Rattle.std.proofs.lemmas.List.{drop-drop, drop-set-lt, length-map, length-set, length_push, map-id, take_more_set}
use Rattle.case_lines.specs.Numbers.{number_of}
use Rattle.case_lines.specs.Parts.{parts_of, pieces_of}
use Rattle.case_lines.proofs.line.put_numbers.Goals as goal

few : (text : List ℕ) → length (map number_of (parts_of text)) ≤ 40
few text = omega (arith, length-map (parts_of text) number_of, length-take 40 (pieces_of text))

pub bounds-numbers-count : goal.bounds-numbers-count
bounds-numbers-count c =
    let t = YieldsList-turn
    (YieldsList-from_map _ number_of
    (YieldsList-from_take 40
    (YieldsList-from_filter _ (λ part. not (length part == 0))
    (YieldsList-from_slice_split _ (λ b. b == 32) c.args.text.now (cc) (cc) (cc) (λ x b q k. search (rules, tests)))
    (cc) (λ x b q k. search (rules, tests)))
    (cc))
    (cc) (λ x r q k. search rules))
    c.loop-number.yielded _ c.loop-number.yielded_by _ _ c.in-Some.number c.in-Some.is c.next.ensures.steps in
    omega (arith, t.0, few c.args.text.now, c.loop-number.invariant.so_many)

pub loop-number-preserved : goal.loop-number-preserved
loop-number-preserved c =
    let n = c.in-Some.number in
    let at = c.loop-number.count in
    let t = YieldsList-turn
    (YieldsList-from_map _ number_of
    (YieldsList-from_take 40
    (YieldsList-from_filter _ (λ part. not (length part == 0))
    (YieldsList-from_slice_split _ (λ b. b == 32) c.args.text.now (cc) (cc) (cc) (λ x b q k. search (rules, tests)))
    (cc) (λ x b q k. search (rules, tests)))
    (cc))
    (cc) (λ x r q k. search rules))
    c.loop-number.yielded _ c.loop-number.yielded_by _ _ n c.in-Some.is c.next.ensures.steps in
    let here : at < 40 = omega (arith, t.0, few c.args.text.now, c.loop-number.invariant.so_many) in
    record {
      room = length-set c.loop-number.numbers at n ∙ c.loop-number.invariant.room;
      so_many = omega (arith, length_push c.loop-number.yielded n, c.loop-number.invariant.so_many);
      read =
          take_more_set c.loop-number.numbers at n (omega (arith, here, c.loop-number.invariant.room))
          ∙ ap (λ l. l ++ n ∷ []) c.loop-number.invariant.read;
      rest =
          drop-set-lt (at + 1) c.loop-number.numbers at n (omega arith)
          ∙ sym (drop-drop 1 at c.loop-number.numbers)
          ∙ ap (drop 1) c.loop-number.invariant.rest
          ∙ drop-drop 1 at c.args.numbers.now;
    }

pub returns : goal.returns
returns c =
    let e = YieldsList-end
    (YieldsList-from_map _ number_of
    (YieldsList-from_take 40
    (YieldsList-from_filter _ (λ part. not (length part == 0))
    (YieldsList-from_slice_split _ (λ b. b == 32) c.args.text.now (cc) (cc) (cc) (λ x b q k. search (rules, tests)))
    (cc) (λ x b q k. search (rules, tests)))
    (cc))
    (cc) (λ x r q k. search rules))
    c.loop-number.yielded _ c.loop-number.yielded_by _ _ c.in-None.is c.next.ensures.steps in
    record {
      few = omega (arith, e.1, few c.args.text.now, c.loop-number.invariant.so_many);
      read = c.loop-number.invariant.read ∙ sym (map-id c.loop-number.yielded) ∙ e.0;
      rest = c.loop-number.invariant.rest;
    }
