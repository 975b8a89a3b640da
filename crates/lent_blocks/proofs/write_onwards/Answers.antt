-- Less is left after each block, and once nothing is, all is written.
use Rattle.std.proofs.Common.{◌<◌, arith}
use Rattle.lent_blocks.proofs.Opening.{all_written, opens_less}
use Rattle.lent_blocks.proofs.write_onwards.Goals as goal

pub loop-left-smaller : goal.loop-left-smaller
loop-left-smaller c =
    let a = c.args in
    let l = c.loop-left in
    let next = c.open_next-next in
    opens_less a.config a.domain l.new l.left l.blocks l.store l.words next.result next.new.blocks next.new.store
    next.new.words (l.invariant.may_go_on (λ e. omega arith)).within (λ e. omega arith) next.ensures

pub loop-left-preserved : goal.loop-left-preserved
loop-left-preserved c =
    let a = c.args in
    let l = c.loop-left in
    let next = c.open_next-next in
    let less : next.result.rest.count.0 < l.left.count.0 =
    opens_less a.config a.domain l.new l.left l.blocks l.store l.words next.result next.new.blocks next.new.store
    next.new.words (l.invariant.may_go_on (λ e. omega arith)).within (λ e. omega arith) next.ensures in record {
      no_more_left = omega (arith, l.invariant.no_more_left);
      same_owner = λ none. absurd (omega (arith, l.invariant.no_more_left));
      may_go_on = next.ensures.1;
      goes_on = λ t same all w last went. l.invariant.goes_on t same all w last (next.ensures.2 t same all w last went);
    }

pub returns : goal.returns
returns c =
    let a = c.args in
    let l = c.loop-left in
    all_written a.config a.domain a.rest l.left a.blocks.now l.blocks a.owner l.new a.store.now a.words.now l.store
    l.words l.invariant.same_owner (omega arith) l.invariant.goes_on
