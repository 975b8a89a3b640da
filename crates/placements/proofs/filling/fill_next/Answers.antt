-- Opened, and then written into; what fits it is no longer left.
use Prim.Native.Nat.{ℕ, ◌+◌, ◌≤◌, min}
use mathlib.Core.List.{List}
use mathlib.Core.Path.{◌≡◌, sym, ap, subst, ◌∙◌}
use native.Mathlib.Omega.{arith}
use lib.ListN.{length}
use Rattle.blocks.proofs.Openings.{opened_drive}
use Rattle.buffers.proofs.Stretches.{Stretch, length_put, stretch, stretch_inside, with_stretch}
use Rattle.buffers.proofs.UserAddresses.{fit_fewer}
use Rattle.geometry.specs.Shape.{adus_per_block}
use Rattle.geometry.specs.declared.shape.Config.{Config}
use Rattle.model.specs.declared.block.Block.{Block}
use Rattle.model.specs.declared.block.Way.TheVariants.{Placement}
use Rattle.model.specs.declared.table.Domain.{Domain}
use Rattle.placements.proofs.Next.{filled_next}
use Rattle.placements.proofs.Stepping.{blocks_more, may_after, more_serials, some_adus}
use Rattle.placements.proofs.Words.{behind, behind_long, rejoined, rejoined_long}
use Rattle.placements.specs.Onwards.{GoesOn, rest_after}
use Rattle.placements.specs.declared.rest.Rest.{Rest}
use Rattle.rules.specs.Blocks.{user_addresses, written_into}
use Rattle.rules.specs.Drive.{with_block, with_domain}
use Rattle.tables.specs.Serving.{drive}
use Rattle.transfers.proofs.Written.{wrote_again}
use Rattle.transfers.specs.Transfers.{MayWriteIn, Wrote}
use Rattle.placements.proofs.filling.fill_next.Goals as goal

pub overflow_add-end : goal.overflow_add-end
overflow_add-end c =
    let cut_out : let z = c.args in Stretch z.config z.store.now z.n c.stretch_start-first.result.0 c.adus_per_block-capacity.result.0 =
    let z = c in let a = z.args in let m = z.requires.may_go_on in
    stretch a.config a.store.now a.n c.stretch_start-first.result c.adus_per_block-capacity.result m.within z.requires.not_rest_count_0.1 m.all_entries c.stretch_start-first.ensures c.adus_per_block-capacity.ensures in
    omega (arith, cut_out.most)

pub offset_bounds-store-first : goal.offset_bounds-store-first
offset_bounds-store-first c =
    let cut_out : let z = c.args in Stretch z.config z.store.now z.n c.stretch_start-first.result.0 c.adus_per_block-capacity.result.0 =
    let z = c in let a = z.args in let m = z.requires.may_go_on in
    stretch a.config a.store.now a.n c.stretch_start-first.result c.adus_per_block-capacity.result m.within z.requires.not_rest_count_0.1 m.all_entries c.stretch_start-first.ensures c.adus_per_block-capacity.ensures in
    omega (arith, cut_out.most)

pub slice_bounds-stretch-end : goal.slice_bounds-stretch-end
slice_bounds-stretch-end c =
    let cut_out : let z = c.args in Stretch z.config z.store.now z.n c.stretch_start-first.result.0 c.adus_per_block-capacity.result.0 =
    let z = c in let a = z.args in let m = z.requires.may_go_on in
    stretch a.config a.store.now a.n c.stretch_start-first.result c.adus_per_block-capacity.result m.within z.requires.not_rest_count_0.1 m.all_entries c.stretch_start-first.ensures c.adus_per_block-capacity.ensures in
    omega (arith, cut_out.inside)

pub opened_for-opened-requires : goal.opened_for-opened-requires
opened_for-opened-requires c = let z = c in let m = z.requires.may_go_on in record {
  limits = m.within;
  id = m.id;
  serial = omega (arith, m.serials, blocks_more z.args.config z.args.rest.count.0 (some_adus z.args.config m.within) (omega (arith, z.requires.not_rest_count_0.0)));
}

pub written_into-written-requires : goal.written_into-written-requires
written_into-written-requires c =
    let cut_out : let z = c.args in Stretch z.config z.store.now z.n c.stretch_start-first.result.0 c.adus_per_block-capacity.result.0 =
    let z = c in let a = z.args in let m = z.requires.may_go_on in
    stretch a.config a.store.now a.n c.stretch_start-first.result c.adus_per_block-capacity.result m.within z.requires.not_rest_count_0.1 m.all_entries c.stretch_start-first.ensures c.adus_per_block-capacity.ensures in
    let may-be-written : let z = c.args in MayWriteIn z.config z.domain z.n c.opened_for-opened.result.block c.min.result =
    let z = c in let a = z.args in let m = z.requires.may_go_on in
    let put : c.min.result ≡ min a.rest.count.0 (adus_per_block a.config).0 = c.min.ensures ∙ ap (min a.rest.count.0) (c.adus_per_block-capacity.ensures ∙ rw m.within) in
    let written : c.opened_for-opened.result.block.written.0 ≡ 0 = ap (λ (b : Block). b.written.0) c.opened_for-opened.ensures.0 in
    record {
      limits = m.within;
      id = m.id;
      inside = z.requires.not_rest_count_0.1;
      some_written = omega (arith, put, some_adus a.config m.within, z.requires.not_rest_count_0.0);
      fits = omega (arith, put, written);
    } in
    let z = c in let a = z.args in let m = z.requires.may_go_on in
    let fewer : c.min.result ≤ a.rest.count.0 = omega (arith, c.min.ensures) in record {
      may_write_in = may-be-written;
      count_value = fit_fewer a.rest.start _ a.rest.count.0 fewer m.fit;
      stretch_len = (
        c.opened_for-opened.auto.stretch ∙ cut_out.long,
        rw (behind_long a.rest.done a.words.now) (omega (arith, fewer, m.enough)),
      );
    }

pub returns : goal.returns
returns c =
    let cut_out : let z = c.args in Stretch z.config z.store.now z.n c.stretch_start-first.result.0 c.adus_per_block-capacity.result.0 =
    let z = c in let a = z.args in let m = z.requires.may_go_on in
    stretch a.config a.store.now a.n c.stretch_start-first.result c.adus_per_block-capacity.result m.within z.requires.not_rest_count_0.1 m.all_entries c.stretch_start-first.ensures c.adus_per_block-capacity.ensures in
    let may-be-written : let z = c.args in MayWriteIn z.config z.domain z.n c.opened_for-opened.result.block c.min.result =
    let z = c in let a = z.args in let m = z.requires.may_go_on in
    let put : c.min.result ≡ min a.rest.count.0 (adus_per_block a.config).0 = c.min.ensures ∙ ap (min a.rest.count.0) (c.adus_per_block-capacity.ensures ∙ rw m.within) in
    let written : c.opened_for-opened.result.block.written.0 ≡ 0 = ap (λ (b : Block). b.written.0) c.opened_for-opened.ensures.0 in
    record {
      limits = m.within;
      id = m.id;
      inside = z.requires.not_rest_count_0.1;
      some_written = omega (arith, put, some_adus a.config m.within, z.requires.not_rest_count_0.0);
      fits = omega (arith, put, written);
    } in
    let z = c in let a = z.args in let m = z.requires.may_go_on in let r = a.rest in let cap = (adus_per_block a.config).0 in
    let opened = c.opened_for-opened in let written = c.written_into-written in let small = c.min in let left = c.rest_after.result in
    let whole : c.adus_per_block-capacity.result.0 ≡ cap = c.adus_per_block-capacity.ensures ∙ rw m.within in
    let put : small.result ≡ min r.count.0 cap = small.ensures ∙ ap (min r.count.0) whole in
    let some = some_adus a.config m.within in
    let last : opened.result.owner.last ≡ a.owner.last + 1 = ap (λ (o : Domain). o.last) opened.ensures.1 in
    let left_is : left ≡ rest_after r cap = c.rest_after.ensures ∙ ap (rest_after r) whole in
    let cut = cut_out in
    let fresh = opened.new.stretch in
    let full = written.new.stretch in
    let fresh-long = opened.auto.stretch ∙ cut.long in
    let full-kept = written.auto.stretch ∙ opened.auto.stretch in
    let back = cut.back full full-kept in
    let part = written.new.words in
    let long : length (rejoined r.done a.words.now part) ≡ length a.words.now =
    rejoined_long r.done a.words.now part (omega (arith, m.enough)) written.auto.words in (
      left_is,
      rw left_is (may_after a.config _ _ a.domain opened.result.owner r cap m.within m.id
          (ap length back
          ∙ length_put a.config a.n full a.store.now (full-kept ∙ cut.long) (stretch_inside a.config a.store.now a.n z.requires.not_rest_count_0.1 m.all_entries)
          ∙ m.all_entries)
          (omega (arith, m.serials, more_serials a.config m.within a.owner.last r.count.0 _ z.requires.not_rest_count_0.0 last)) m.fit (omega (arith, long, m.enough))),
      λ t e o b inside is.
          let same : rest_after r (adus_per_block t.config).0 ≡ left = ap (λ (x : Config). rest_after r (adus_per_block x).0) e ∙ sym left_is in
          let after = with_domain a.domain opened.result.owner (with_block a.n written.result t) in
          subst (λ (s : List ℕ). GoesOn a.domain r (drive t a.store.now) a.words.now left
          (drive after s) (rejoined r.done a.words.now part)) (sym back)
          (subst (λ (x : Rest). GoesOn a.domain r (drive t a.store.now) a.words.now x
          (drive after (with_stretch a.config a.n full a.store.now)) (rejoined r.done a.words.now part)) same
          (filled_next a.domain a.n r t opened.result.block written.result opened.result.owner a.store.now
          (with_stretch a.config a.n fresh a.store.now) (with_stretch a.config a.n full a.store.now) a.words.now part
          inside is z.requires.not_rest_count_0.0 (rw e some) m.fit (omega (arith, m.enough))
          (opened_drive a.config t a.domain a.n _ (Placement r.placement) a.block opened.result.block a.owner opened.result.owner fresh a.store.now e o b cut.long opened.ensures)
          (λ u eu hu. subst (λ (k : ℕ). Wrote (written_into a.domain a.n (user_addresses r.start k) (drive u (with_stretch a.config a.n fresh a.store.now))) (behind r.done a.words.now)
          (drive (with_block a.n written.result u) (with_stretch a.config a.n full a.store.now)) part) (put ∙ rw e)
          (wrote_again a.config u a.domain a.n r.start small.result opened.result.block written.result a.store.now fresh full (behind r.done a.words.now) part
          (eu ∙ e) hu may-be-written m.all_entries fresh-long (full-kept ∙ cut.long) written.ensures)))),
    )
