-- A no, or a block opened; the choice finds none only where the rules' does.
use mathlib.Core.Path.{sym, ap, subst, ◌∙◌}
use native.Mathlib.Omega.{arith}
use lib.ListN.{length}
use Rattle.blocks.proofs.Erased.{Opens, erase_asked, erase_range, may_open_lem, none_outcome, opened_outcome, opens, opens_inside, stretch_opened}
use Rattle.blocks.proofs.Openings.{opened_drive}
use Rattle.geometry.proofs.Laws.Shape.{is_between}
use Rattle.model.specs.declared.block.Way.TheVariants as way
use Rattle.model.specs.declared.command.Command.TheVariants.{Erase}
use Rattle.rules.specs.Drive.{with_block, with_domain}
use Rattle.scan.proofs.Outcomes.{begun_sound, begun_yes, then_outcome}
use Rattle.tables.specs.Serving.{drive}
use Rattle.blocks.proofs.erasing.erase.Goals as goal

pub erase_verdict-requires : goal.erase_verdict-requires
erase_verdict-requires c = let a = c.args in let p = c.requires in let k = Erase a.domain a.block in record {
  seen = ((p.sees.0, p.sees.1), begun_sound k (length a.store.now) a.summary (p.sees.0, p.sees.1) p.first_passed);
  domain_value = begun_yes 4 p.sees.0 k (length a.store.now) (p.first_passed p.sees.0 p.sees.1);
}

pub overflow_add-end : goal.overflow_add-end
overflow_add-end c = let a = c.args in let p = c.requires in let t = p.sees.0 in let s = p.sees.1 in
    let cut_out = stretch_opened t a.domain a.block c.in-Some.n a.summary a.store.now c.stretch_start-first.result c.adus_per_block.result
    s p.sees.2 p.sees.3 p.first_passed (sym (c.in_ok-erase_verdict.ensures t s)) (sym c.erased_block.ensures ∙ c.in-Some.is) c.stretch_start-first.ensures c.adus_per_block.ensures in
    omega (arith, cut_out.most)

pub offset_bounds-store-first : goal.offset_bounds-store-first
offset_bounds-store-first c = let a = c.args in let p = c.requires in let t = p.sees.0 in let s = p.sees.1 in
    let cut_out = stretch_opened t a.domain a.block c.in-Some.n a.summary a.store.now c.stretch_start-first.result c.adus_per_block.result
    s p.sees.2 p.sees.3 p.first_passed (sym (c.in_ok-erase_verdict.ensures t s)) (sym c.erased_block.ensures ∙ c.in-Some.is) c.stretch_start-first.ensures c.adus_per_block.ensures in
    omega (arith, cut_out.most)

pub slice_bounds-stretch-end : goal.slice_bounds-stretch-end
slice_bounds-stretch-end c = let a = c.args in let p = c.requires in let t = p.sees.0 in let s = p.sees.1 in
    let cut_out = stretch_opened t a.domain a.block c.in-Some.n a.summary a.store.now c.stretch_start-first.result c.adus_per_block.result
    s p.sees.2 p.sees.3 p.first_passed (sym (c.in_ok-erase_verdict.ensures t s)) (sym c.erased_block.ensures ∙ c.in-Some.is) c.stretch_start-first.ensures c.adus_per_block.ensures in
    omega (arith, cut_out.inside)

pub opened_for-opened-requires : goal.opened_for-opened-requires
opened_for-opened-requires c = let a = c.args in let p = c.requires in let t = p.sees.0 in let s = p.sees.1 in
    may_open_lem t (length a.store.now) a.domain a.block a.summary s (p.first_passed t s) (sym (c.in_ok-erase_verdict.ensures t s))

pub returns-in_err-erase_verdict : goal.returns-in_err-erase_verdict
returns-in_err-erase_verdict c = let z = c.args in let p = c.requires in let k = Erase z.domain z.block in λ t words bytes s b f.
    let entries = length z.store.now in
    then_outcome t k c.from_residual.result c.in_err-erase_verdict.field-0.0 z.store.now words bytes (p.first_passed t s)
    (c.in_err-erase_verdict.ensures t s
    ∙ erase_asked t z.store.now entries (length words) (length bytes) z.domain z.block z.summary s b (begun_sound k entries z.summary (t, s) p.first_passed) (begun_yes 4 t k entries (p.first_passed t s)))
    c.from_residual.ensures.1

pub returns-in-None : goal.returns-in-None
returns-in-None c = let z = c.args in let p = c.requires in let k = Erase z.domain z.block in λ t words bytes s b f.
    let entries = length z.store.now in
    let pass = sym (c.in_ok-erase_verdict.ensures t s) in
    let whole = begun_sound k entries z.summary (t, s) p.first_passed in
    rw c.unchanged.ensures
    (none_outcome t z.store.now words bytes z.domain z.block (p.first_passed t s)
    (sym (erase_asked t z.store.now entries (length words) (length bytes) z.domain z.block z.summary s b whole (begun_yes 4 t k entries (p.first_passed t s))) ∙ pass)
    (subst (Opens t z.block z.summary.block) (sym c.erased_block.ensures ∙ c.in-None.is)
    (opens t z.domain z.block z.summary s b f whole (erase_range t z.domain z.block z.summary s pass))))

pub returns-in-Some : goal.returns-in-Some
returns-in-Some c = let z = c.args in let p = c.requires in let k = Erase z.domain z.block in λ t words bytes s b f.
    let entries = length z.store.now in
    let pass = sym (c.in_ok-erase_verdict.ensures t s) in
    let whole = begun_sound k entries z.summary (t, s) p.first_passed in
    let known-id = begun_yes 4 t k entries (p.first_passed t s) in
    let n = c.in-Some.n in
    let range = erase_range t z.domain z.block z.summary s pass in
    let found = subst (Opens t z.block z.summary.block) (sym c.erased_block.ensures ∙ c.in-Some.is) (opens t z.domain z.block z.summary s b f whole range) in
    let cut = stretch_opened t z.domain z.block n z.summary z.store.now c.stretch_start-first.result c.adus_per_block.result
    s b f p.first_passed pass (sym c.erased_block.ensures ∙ c.in-Some.is) c.stretch_start-first.ensures c.adus_per_block.ensures in
    let o = c.opened_for-opened in
    let id = is_between 1 16 z.domain known-id in
    rw c.opening_change.ensures
    (opened_outcome t z.store.now _ words bytes z.domain z.block n o.result.block o.result.owner (p.first_passed t s)
    (opens_inside t z.block n range found.0)
    (λ none. omega (arith, id.least, none))
    (sym (erase_asked t z.store.now entries (length words) (length bytes) z.domain z.block z.summary s b whole known-id) ∙ pass)
    found.0
    (ap (drive (with_domain z.domain o.result.owner (with_block n o.result.block t))) (cut.back _ o.auto.stretch)
    ∙ opened_drive z.summary.config t z.domain n _ way.Erase z.summary.block o.result.block z.summary.domain o.result.owner _ z.store.now
    (sym s.same_config) (sym s.same_domain) found.1 cut.long o.ensures))
