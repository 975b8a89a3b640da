-- A no, or the write.
use mathlib.Core.Bool.{true}
use mathlib.Core.List.{◌++◌}
use mathlib.Core.Path.{◌≡◌, refl, sym, ◌∙◌}
use native.Mathlib.Omega.{arith}
use lib.ListN.{length}
use Rattle.geometry.specs.Address.{is_domain_id}
use Rattle.geometry.specs.Questions.{first_no}
use Rattle.model.specs.declared.command.Command.{Command}
use Rattle.model.specs.declared.command.Command.TheVariants.{WriteByPlacement}
use Rattle.model.specs.declared.table.Table.{Table}
use Rattle.placements.proofs.Accepted.{complete_finishes, complete_may, few_placements, may_place, place_done, place_fits, places}
use Rattle.placements.proofs.Asked.{placement_asked}
use Rattle.placements.proofs.Stepping.{after_one}
use Rattle.placements.specs.Asking.{placement_arguments, placement_state}
use Rattle.placements.specs.Onwards.{whole_write}
use Rattle.placements.specs.Placing.{room_seen}
use Rattle.scan.proofs.Outcomes.{begun_sound, begun_yes, then_outcome}
use Rattle.scan.specs.Summary.{Sees}
use Rattle.tables.specs.Serving.{drive}
use Rattle.std.specs.Prelude.{Err}
use Rattle.std.proofs.lemmas.Result.{err_from_is_err_and}
use Rattle.model.specs.declared.answer.Answer.TheVariants.{Refused}
use Rattle.tables.specs.Changing.{leaving}
use Rattle.placements.proofs.writing.write_by_placement.Goals as goal

pub placement_verdict-requires : goal.placement_verdict-requires
placement_verdict-requires c =
    let asks : Command =
    WriteByPlacement c.args.domain c.args.placement c.args.start c.args.count in
    let whole : c.args.summary.sound ≡ true =
    begun_sound asks (length c.args.store.now) c.args.summary (c.requires.sees.0, c.requires.sees.1) c.requires.first_passed in
    let known-id : is_domain_id c.args.domain ≡ true =
    begun_yes 4 c.requires.sees.0 asks (length c.args.store.now) (c.requires.first_passed c.requires.sees.0 c.requires.sees.1) in
    let z = c in record { seen = ((z.requires.sees.0, z.requires.sees.1), whole); domain_value = known-id }

pub overflow_cast-p : goal.overflow_cast-p
overflow_cast-p c =
    let passed : let z = c.args in (t : Table) → Sees t z.domain z.summary → first_no (placement_arguments z.summary (length z.words.now) z.placement z.count ++ placement_state t z.summary z.domain z.start z.count) ≡ 0 =
    λ t s. sym (c.in_ok-placement_verdict.ensures t s) in
    let z = c in let a = z.args in let t = z.requires.sees.0 in let s = z.requires.sees.1 in
    omega (arith, few_placements t (length a.store.now) (length a.words.now) a.domain a.placement a.start a.count a.summary s (z.requires.first_passed t s) (passed t s))

pub placed-requires : goal.placed-requires
placed-requires c =
    let passed : let z = c.args in (t : Table) → Sees t z.domain z.summary → first_no (placement_arguments z.summary (length z.words.now) z.placement z.count ++ placement_state t z.summary z.domain z.start z.count) ≡ 0 =
    λ t s. sym (c.in_ok-placement_verdict.ensures t s) in
    let z = c in let a = z.args in let t = z.requires.sees.0 in let s = z.requires.sees.1 in
    let pass = passed t s in
    let fits = place_fits t (length a.words.now) a.domain a.placement a.start a.count a.summary pass in
    record {
      may_place = may_place t (length a.store.now) (length a.words.now) a.domain a.placement a.start a.count a.summary s z.requires.sees.2
          (z.requires.first_passed t s) pass;
      count_value = fits.0;
      count_in_bounds = fits.1;
    }

pub returns-in_err-placement_verdict : goal.returns-in_err-placement_verdict
returns-in_err-placement_verdict c =
    let asks : Command =
    WriteByPlacement c.args.domain c.args.placement c.args.start c.args.count in
    let whole : c.args.summary.sound ≡ true =
    begun_sound asks (length c.args.store.now) c.args.summary (c.requires.sees.0, c.requires.sees.1) c.requires.first_passed in
    let known-id : is_domain_id c.args.domain ≡ true =
    begun_yes 4 c.requires.sees.0 asks (length c.args.store.now) (c.requires.first_passed c.requires.sees.0 c.requires.sees.1) in
    let y = c in let z = y.args in let k = asks in
    let reason = c.in_err-placement_verdict.field-0.0 in
    let o = leaving (Refused reason) in
    let p = err_from_is_err_and c.from_residual.result c.from_residual.ensures.1 in
    rw (p.1, p.2) (
      refl,
      complete_may z.summary.config _ _ o,
      λ t bytes s q. complete_finishes t k z.store.now z.words.now bytes o z.store.now z.words.now bytes
          (then_outcome t k (Err reason) reason z.store.now z.words.now bytes (y.requires.first_passed t s)
          (c.in_err-placement_verdict.ensures t s
          ∙ placement_asked t z.domain z.placement z.summary s q whole known-id z.store.now (length z.store.now) (length z.words.now) (length bytes) z.start z.count)
          refl),
    )

pub returns : goal.returns
returns c =
    let asks : Command =
    WriteByPlacement c.args.domain c.args.placement c.args.start c.args.count in
    let whole : c.args.summary.sound ≡ true =
    begun_sound asks (length c.args.store.now) c.args.summary (c.requires.sees.0, c.requires.sees.1) c.requires.first_passed in
    let known-id : is_domain_id c.args.domain ≡ true =
    begun_yes 4 c.requires.sees.0 asks (length c.args.store.now) (c.requires.first_passed c.requires.sees.0 c.requires.sees.1) in
    let passed : let z = c.args in (t : Table) → Sees t z.domain z.summary → first_no (placement_arguments z.summary (length z.words.now) z.placement z.count ++ placement_state t z.summary z.domain z.start z.count) ≡ 0 =
    λ t s. sym (c.in_ok-placement_verdict.ensures t s) in
    let y = c in let z = y.args in let w = c.placed in (
      rw w.ensures.0 w.ensures.2,
      (rw w.ensures.2 (after_one (whole_write z.placement z.start z.count) (room_seen z.summary)), λ ne. rw w.ensures.1 w.ensures.3),
      λ t bytes s q u left filled went.
          rw w.ensures.0 (place_done t z.store.now z.words.now bytes z.domain z.placement z.start z.count u left filled (y.requires.first_passed t s)
          (sym (placement_asked t z.domain z.placement z.summary s q whole known-id z.store.now (length z.store.now) (length z.words.now) (length bytes) z.start z.count) ∙ passed t s)
          (w.ensures.4 t (places t z.domain z.placement z.summary s q) (drive u left) filled (rw (sym w.ensures.1) went))),
    )
