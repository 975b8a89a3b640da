-- After i turns the numbers of the first i records are filled in, one behind the other.
use Rattle.std.proofs.Common.{◌≡◌, ◌∙◌, arith}
use Rattle.trial.specs.Rows.{with_table}
use Rattle.trial.proofs.Filling.{blocks_of, domains_of, joined_more, joined_none, length_block, length_domain}
use Rattle.trial.proofs.rows.put_table.Goals as goal

pub loop-i-init : goal.loop-i-init
loop-i-init c = joined_none (domains_of c.args.table) 7 _

pub loop-i-preserved : goal.loop-i-preserved
loop-i-preserved c =
    let l = c.loop-i in
    let more = joined_more (domains_of c.args.table) 6 (λ i. length_domain _) in
    c.put_domain.ensures ∙ rw l.invariant (more 7 l.i c.put_config.new.row (omega arith))

pub loop-n-init : goal.loop-n-init
loop-n-init c = joined_none (blocks_of c.args.table) 103 _

pub loop-n-preserved : goal.loop-n-preserved
loop-n-preserved c =
    let l = c.loop-n in
    let more = joined_more (blocks_of c.args.table) 7 (λ n. length_block _) in
    c.put_block.ensures ∙ rw l.invariant (more 103 l.n c.loop-i.row (omega arith))

pub returns : goal.returns
unfolding with_table
returns c =
    let l = c.loop-i in
    let k = c.loop-n in
    let all : l.i ≡ 16 = omega arith in
    let every : k.n ≡ 256 = omega arith in
    k.invariant ∙ rw (l.invariant, every, all, c.put_config.ensures)
