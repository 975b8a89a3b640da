-- After i entries each of them was compared with the user address that is expected there.
use Rattle.std.proofs.Common.{◌≡◌, length, sym, arith, eq-eqb, ne_eqb}
use Rattle.buffers.proofs.UserAddresses.{fit_fewer}
use Rattle.rules.specs.Blocks.{all_ones, matches}
use Rattle.rules.proofs.Counting.{all_next, all_none}
use Rattle.buffers.proofs.user_addresses.all_match.Goals as goal

pub returns-then-expected-eq-ALL_ONES : goal.returns-then-expected-eq-ALL_ONES
unfolding matches
returns-then-expected-eq-ALL_ONES c = let z = c.args in rw (eq-eqb z.expected all_ones c.if-expected-eq-ALL_ONES.true)

pub loop-i-init : goal.loop-i-init
loop-i-init c = sym (all_none _)

pub user_address-requires : goal.user_address-requires
user_address-requires c =
    let z = c in
    fit_fewer z.args.expected c.loop-i.i (length z.args.part.now) (omega arith) z.requires

pub loop-i-preserved : goal.loop-i-preserved
loop-i-preserved c = rw (c.user_address.ensures, c.loop-i.invariant) (sym (all_next _ _))

pub returns : goal.returns
unfolding matches
returns c =
    let z = c.args in
    let l = c.loop-i in
    let e : l.i ≡ length z.part.now = omega arith in
    rw (ne_eqb z.expected all_ones c.if-expected-eq-ALL_ONES.false, ← e) l.invariant
