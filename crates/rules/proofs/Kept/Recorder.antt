-- What an accepted append was asked, and that it leaves a sound table sound: it is a Write by placement in the drive with room.
use Prim.Native.Nat.{ℕ}
use mathlib.Core.Bool.{true}
use mathlib.Core.Path.{◌≡◌, refl, ap, ◌∙◌}
use lib.Dec.{eqb, leb, ltb}
use Rattle.geometry.proofs.Laws.Shape.{both, is_between}
use Rattle.geometry.specs.Address.{is_domain_id}
use Rattle.geometry.specs.Questions.{first_no}
use Rattle.geometry.specs.Shape.{adus, store_length}
use Rattle.geometry.specs.declared.shape.Config.{Config}
use Rattle.model.specs.declared.table.Domain.{Domain}
use Rattle.rules.specs.Blocks.{new_blocks}
use Rattle.rules.specs.Calls.{Call, Lengths, ◌asking◌, ◌for◌, append}
use Rattle.rules.specs.Claims.{Oldest}
use Rattle.rules.specs.Drive.{Drive, block_at, domain_at, held_by, is_closed, open_block, size}
use Rattle.rules.specs.Effects.{effect, questions, verdict}
use Rattle.rules.specs.Questions.{covered_after, exists, is_count, may_open_for, serials_left, store_fits, user_addresses_fit, within_quota}
use Rattle.rules.specs.Recorder.{has_recorder_shape, sample_write, after_freeing}
use Rattle.rules.specs.Soundness.{sound}
use Rattle.rules.proofs.Kept.Asked.{written_placement_sequel}
use Rattle.rules.proofs.Kept.Changes.{HeldBlock, freed_sequel}
use Rattle.rules.proofs.Kept.Fit.{Fit, fit_blocks}
use Rattle.rules.proofs.Kept.Sequel.{OwnSequel, same_sequel, sequel_then}
use Rattle.rules.proofs.Kept.Tested.{facts_sound}
use Rattle.rules.proofs.Questions.{answered_yes}
use Rattle.rules.proofs.Recorder.{by_room}

-- Making room changes block records alone.
pub record SameBut (v w : Drive) : Type 0 where
  pub config : w.table.config ≡ v.table.config
  pub domains : w.table.domains ≡ v.table.domains
  pub store : w.store ≡ v.store

pub room_same : (d sample : ℕ) (v : Drive) (lent : Lengths) → SameBut v (after_freeing d sample v lent)
room_same d sample v lent =
    by_room d sample v lent (SameBut v)
    (record { config = refl; domains = refl; store = refl })
    (λ n o. record { config = refl; domains = refl; store = refl })

pub room_domain : (d sample : ℕ) (v : Drive) (lent : Lengths) (e : ℕ) → domain_at (after_freeing d sample v lent).table e ≡ domain_at v.table e
room_domain d sample v lent e =
    by_room d sample v lent (λ w. domain_at w.table e ≡ domain_at v.table e) refl (λ n o. refl)

-- The block that is freed is one that the domain holds.
module _ (v : Drive) (call : Call) (fit : Fit v call) where
  pub oldest_held : (d n : ℕ) → is_domain_id d ≡ true → Oldest v.table d (size v.table) n → HeldBlock d n v
  oldest_held d n id o = record {
    low = (is_between 1 16 d id).least;
    inside = o.inside;
    whole = fit_blocks fit;
    held = (both (held_by d (block_at v.table n)) (is_closed (block_at v.table n)) o.closed).0;
  }

  pub room_sequel : (d sample : ℕ) → is_domain_id d ≡ true → OwnSequel d v (after_freeing d sample v call.lent)
  room_sequel d sample id =
      by_room d sample v call.lent (OwnSequel d v) (same_sequel d v fit.facts)
      (λ n o. freed_sequel (oldest_held d n id o) fit.facts)

  pub room_fit : (d sample : ℕ) → is_domain_id d ≡ true → Fit (after_freeing d sample v call.lent) call
  room_fit d sample id =
      let w = after_freeing d sample v call.lent in
      let s = (room_sequel d sample id).sequel in
      let b = room_same d sample v call.lent in
      record {
        facts = s.facts;
        shaped = record { domains = rw b.domains fit.shaped.domains; blocks = s.blocks ∙ fit.shaped.blocks };
        own = rw (b.config, b.store) fit.own;
      }

  -- An accepted append is an accepted write in the drive with room.
  pub append_writes : (d sample : ℕ) → verdict v (call for append d sample) ≡ 0
      → verdict (after_freeing d sample v call.lent) (call asking sample_write d sample) ≡ 0
  unfolding questions first_no
  append_writes d sample e =
      let k = call for append d sample in
      let w = after_freeing d sample v call.lent in
      let id : is_domain_id d ≡ true = answered_yes v k 4 e in
      let y2 : sound w.table ≡ true = facts_sound w (room_sequel d sample id).sequel.facts in
      let y3 : store_fits w.table call ≡ true =
      ap (λ (c : Config). eqb call.lent.store (store_length c).0) (room_same d sample v call.lent).config ∙ answered_yes v k 3 e in
      let y5 : exists w.table d ≡ true =
      ap (λ (r : Domain). r.exists) (room_domain d sample v call.lent d) ∙ answered_yes v k 5 e in
      let y6 = both _ (is_count (adus 1)) (answered_yes v k 6 e) in
      let shaped = has_recorder_shape (domain_at v.table d) in
      let placed : ltb 0 (domain_at w.table d).placements ≡ true = (both shaped (ltb 0 (domain_at w.table d).placements) y6.0).1 in
      let new = new_blocks w.table d 0 1 in
      let y7 : leb 1 call.lent.words ≡ true = answered_yes v k 7 e in
      let y8 : user_addresses_fit sample 1 ≡ true = answered_yes v k 8 e in
      let y11 : may_open_for (open_block w.table d 0) w.table d ≡ true = answered_yes v k 11 e in
      let y12 : serials_left w.table d new ≡ true = answered_yes v k 12 e in
      let y13 : within_quota w.table d new ≡ true = answered_yes v k 13 e in
      let y14 : covered_after w.table d new ≡ true = answered_yes v k 14 e in
      rw (y2, y3, id, y5, placed, y7, y8, y11, y12, y13, y14)

  pub append_sequel : (d sample : ℕ) → verdict v (call for append d sample) ≡ 0 → OwnSequel d v (effect v (call for append d sample)).drive
  unfolding effect questions
  append_sequel d sample e =
      let id = answered_yes v (call for append d sample) 4 e in
      sequel_then (room_sequel d sample id)
      (written_placement_sequel (after_freeing d sample v call.lent) call (room_fit d sample id) d 0 sample (adus 1) (append_writes d sample e))
