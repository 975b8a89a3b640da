-- Nothing is found before the first record, and one record more is one step more.
use Rattle.std.proofs.Common.{◌∙◌, ap, get_or, sym, arith, below_more}
use Rattle.rules.specs.Drive.{clear_block}
use Rattle.recorder.specs.Choice.{older_of}
use Rattle.recorder.specs.declared.choice.Oldest.{Oldest}
use Rattle.recorder.proofs.OldestClosed.{found_next, found_none}
use Rattle.recorder.proofs.choice.oldest_closed.Goals as goal

pub loop-n-init : goal.loop-n-init
loop-n-init c = record {
  found = sym (found_none c.args.blocks.now c.args.domain);
  narrow = λ i l. absurd (omega (arith, l));
}

pub loop-n-preserved : goal.loop-n-preserved
loop-n-preserved c =
    let bs = c.args.blocks.now in
    let d = c.args.domain in
    let l = c.loop-n in
    let step = c.older-found.ensures in
    record {
      found =
          step.found
          ∙ ap (λ (f : Oldest). older_of f l.n (get_or bs l.n clear_block) d) l.invariant.found
          ∙ sym (found_next bs d l.n);
      narrow = below_more _ _ l.invariant.narrow step.narrow;
    }
