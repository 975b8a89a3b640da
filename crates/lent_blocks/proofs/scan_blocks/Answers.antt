-- With a block that passes the walk goes on, at one that does not it stops, and it ends behind the last.
use Rattle.std.proofs.Common.{◌≡◌, true, false, length, ap, sym, ◌∙◌, arith}
use Rattle.scan.specs.Marks.{chain_differs}
use Rattle.scan.specs.Scan.{chain_passes}
use Rattle.lent_blocks.proofs.Chains.{passes_empty}
use Rattle.lent_blocks.proofs.Walking.{block_of, walk_ends, walk_on, walk_stops}
use Rattle.lent_blocks.proofs.scan_blocks.Goals as goal
use Rattle.lent_blocks.proofs.scan_blocks.Goals.{then-last-gt0+else-not-chain_differs, else-last-gt0}

pub returns-in_default : goal.returns-in_default
returns-in_default c =
    let a = c.args in
    let i = c.loop-n.n in
    let marks = c.scan_block.new.marks.row in
    let scanned = rw (c.holder_index.ensures.0) at c.scan_block.ensures in
    let fails : chain_passes a.blocks.now marks (block_of a.blocks.now i) c.scan_block.result ≡ false =
    ap (chain_passes a.blocks.now marks (block_of a.blocks.now i)) c.in_default.is in
    c.loop-n.invariant _ _ (walk_stops a.subject a.domains.now a.blocks.now i _ _ _ (omega arith) scanned fails)

pub returns-then-not-chain_differs : goal.returns-then-not-chain_differs
returns-then-not-chain_differs c =
    let a = c.args in
    let i = c.loop-n.n in
    let marks = c.scan_block.new.marks.row in
    let scanned = rw (c.holder_index.ensures.0) at c.scan_block.ensures in
    let fails : chain_passes a.blocks.now marks (block_of a.blocks.now i) c.scan_block.result ≡ false =
    ap (chain_passes a.blocks.now marks (block_of a.blocks.now i)) c.in-Some.is
    ∙ sym c.chain_differs.ensures ∙ c.if-not-chain_differs.true in
    c.loop-n.invariant _ _ (walk_stops a.subject a.domains.now a.blocks.now i _ _ _ (omega arith) scanned fails)

pub loop-n-preserved : goal.loop-n-preserved
loop-n-preserved c =
    let a = c.args in
    let bs = a.blocks.now in
    let i = c.loop-n.n in
    let last = c.in-Some.last in
    let marks = c.scan_block.new.marks.row in
    let scanned = rw (c.holder_index.ensures.0) at c.scan_block.ensures in
    let differs : chain_differs bs marks (block_of bs i) last ≡ true =
    elim c.if-last-gt0.branch [
      | then-last-gt0+else-not-chain_differs w ↦ sym w.chain_differs.ensures ∙ w.if-not-chain_differs.false
      | else-last-gt0 w ↦ passes_empty bs marks (block_of bs i) last (omega arith)
    ] in
    let passes : chain_passes bs marks (block_of bs i) c.scan_block.result ≡ true =
    ap (chain_passes bs marks (block_of bs i)) c.in-Some.is ∙ differs in
    λ ok after rest. c.loop-n.invariant ok after
    (walk_on a.subject a.domains.now bs i _ ok _ marks after (omega arith) scanned passes rest)

pub returns : goal.returns
returns c =
    let a = c.args in
    let over : c.loop-n.n ≡ length a.blocks.now = omega arith in
    c.loop-n.invariant true c.loop-n.marks.row
    (rw over (walk_ends a.subject a.domains.now a.blocks.now c.loop-n.marks.row))
