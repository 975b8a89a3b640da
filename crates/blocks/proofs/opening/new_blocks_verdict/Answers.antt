-- The count of held blocks that is seen is at most 256.
use Prim.Native.Nat.{◌≤◌}
use native.Mathlib.Omega.{arith}
use Rattle.scan.proofs.Seeing.{held_seen}
use Rattle.blocks.proofs.opening.new_blocks_verdict.Goals as goal

pub overflow_add-after : goal.overflow_add-after
overflow_add-after c =
    let least : c.args.summary.held ≤ 256 =
    held_seen c.requires.seen.0.0 c.args.domain c.args.summary c.requires.seen.0.1 c.requires.seen.1 c.requires.domain_value.0 in
    omega (arith, least, c.requires.domain_value.1)

pub covered_with-covered-requires : goal.covered_with-covered-requires
covered_with-covered-requires c =
    let least : c.args.summary.held ≤ 256 =
    held_seen c.requires.seen.0.0 c.args.domain c.args.summary c.requires.seen.0.1 c.requires.seen.1 c.requires.domain_value.0 in
    let z = c in
    record {
      seen = z.requires.seen;
      domain_value = z.requires.domain_value.0;
      reserved_bound = (c.reserved_by.ensures.1, omega (arith, least, z.requires.domain_value.1));
    }
