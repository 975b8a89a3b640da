-- What is seen of a sound table is within the limits.
use Rattle.scan.proofs.Seeing.{limits_seen}
use Rattle.placements.proofs.writing.placement_state.Goals as goal

pub room_in-requires : goal.room_in-requires
room_in-requires c = let z = c in
    limits_seen z.requires.seen.0.0 z.args.domain z.args.summary z.requires.seen.0.1 z.requires.seen.1

pub blocks_for-new-requires-clause-config_value : goal.blocks_for-new-requires-clause-config_value
blocks_for-new-requires-clause-config_value c = let z = c in
    limits_seen z.requires.seen.0.0 z.args.domain z.args.summary z.requires.seen.0.1 z.requires.seen.1
