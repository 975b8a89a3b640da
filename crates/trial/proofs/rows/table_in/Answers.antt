-- After i turns the first i records are those that the row has, and in the end all are.
use Rattle.std.proofs.Common.{refl, arith, length-set}
use Rattle.trial.specs.Rows.{table_in}
use Rattle.trial.proofs.Filling.{blocks_in, domains_in, records_all, records_more, records_none}
use Rattle.trial.proofs.rows.table_in.Goals as goal

pub loop-i-init : goal.loop-i-init
loop-i-init c = (refl, records_none _)

pub loop-i-preserved : goal.loop-i-preserved
loop-i-preserved c =
    let l = c.loop-i in
    let more = records_more (domains_in c.args.row.now) l.domain-items l.i (omega arith) l.invariant.1 in
    (simp length-set l.invariant.0, rw c.domain_in.ensures more)

pub loop-n-init : goal.loop-n-init
loop-n-init c = (refl, records_none _)

pub loop-n-preserved : goal.loop-n-preserved
loop-n-preserved c =
    let l = c.loop-n in
    let more = records_more (blocks_in c.args.row.now) l.block-items l.n (omega arith) l.invariant.1 in
    (simp length-set l.invariant.0, rw c.block_in.ensures more)

pub returns : goal.returns
unfolding table_in
returns c =
    let l = c.loop-i in
    let k = c.loop-n in
    let domains = records_all (domains_in c.args.row.now) l.domain-items l.i 16 (omega arith) l.invariant.0 l.invariant.1 in
    let blocks = records_all (blocks_in c.args.row.now) k.block-items k.n 256 (omega arith) k.invariant.0 k.invariant.1 in
    rw (c.config_in-config.ensures, domains, blocks)
