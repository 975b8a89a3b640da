-- Into the open block what it takes, and the rest is told.
use Prim.Native.Nat.{min}
use mathlib.Core.Path.{◌≡◌, refl, ap, ◌∙◌}
use native.Mathlib.Omega.{arith}
use lib.ListN.{length}
use Rattle.buffers.proofs.UserAddresses.{fit_fewer}
use Rattle.placements.proofs.Placed.{may_fill, placed_wrote, put_domain, put_owner}
use Rattle.placements.proofs.Stepping.{may_after}
use Rattle.placements.specs.Onwards.{rest_after, whole_write}
use Rattle.placements.specs.Placing.{put_change, room_seen}
use Rattle.rules.specs.Drive.{open_block}
use Rattle.tables.specs.declared.change.Change.{Change}
use Rattle.placements.proofs.placing.placed.Goals as goal

pub into_open-block-requires : goal.into_open-block-requires
into_open-block-requires c = let z = c in let a = z.args in
    let put = c.min in
    let puts : put.result ≡ min a.count.0 (room_seen a.summary) = put.ensures ∙ ap (min a.count.0) c.room_in-room.ensures in record { may_fill = may_fill a.summary (length a.store.now) a.domain a.count.0 put.result z.requires.may_place puts; put_value = fit_fewer a.start put.result a.count.0 (omega (arith, puts)) z.requires.count_value; put_in_bounds = omega (arith, puts, z.requires.count_in_bounds) }

pub returns : goal.returns
returns c = let z = c in let a = z.args in let m = z.requires.may_place in let x = a.summary in
    let put = c.min in let first = c.into_open-block in let all = whole_write a.placement a.start a.count in let left = rest_after all (room_seen x) in
    let puts : put.result ≡ min a.count.0 (room_seen x) = put.ensures ∙ ap (min a.count.0) c.room_in-room.ensures in
    let left_is : c.rest_after.result ≡ left = c.rest_after.ensures ∙ ap (rest_after all) c.room_in-room.ensures in
    let long : length first.new.words ≡ length a.words.now = first.auto.words in
    let change : c.put_change.result ≡ put_change x.found first.result a.domain x.domain = c.put_change.ensures in (
      refl,
      ap (λ (k : Change). k.domain) change ∙ put_domain x.found first.result a.domain x.domain,
      left_is,
      rw (left_is, ap (λ (k : Change). k.owner) change ∙ put_owner x.found first.result a.domain x.domain) (may_after x.config _ _ a.domain x.domain all (room_seen x) m.within m.id
          (first.auto.store ∙ m.all_entries) m.serials z.requires.count_value (omega (arith, long, z.requires.count_in_bounds))),
      λ t s.
          rw (left_is, change)
          (placed_wrote t x a.domain a.placement a.start a.count.0 put.result (length a.store.now) first.result a.store.now first.new.store a.words.now first.new.words
          s m z.requires.count_value puts (first.ensures t (open_block t a.domain a.placement) s.same_config s.seen)),
    )
