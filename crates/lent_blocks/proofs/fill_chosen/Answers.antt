-- The block is filled, or there is none and nothing is written.
use Rattle.std.proofs.Common.{◌≡◌, List, set, ap, subst, sym, ◌∙◌, arith}
use Rattle.std.proofs.lemmas.List.{set_past}
use borrow.Author.Tests.{le-ltb, lt-ltb}
use Rattle.model.specs.declared.block.Block.{Block}
use Rattle.placements.specs.Onwards.{OpenedNext, nothing_left}
use Rattle.placements.specs.declared.rest.Rest.{Rest}
use Rattle.lent_blocks.proofs.Opening.{next_none, next_opened}
use Rattle.lent_blocks.proofs.fill_chosen.Goals as goal

pub returns-then-n-config : goal.returns-then-n-config
returns-then-n-config c =
    let a = c.args in
    let less = c.if-n-config.true in
    let new = c.fill_next.result in
    let filled = c.fill_next.ensures in (
      rw (lt-ltb a.n a.config.blocks less) filled.0,
      λ _. filled.1,
      λ bs best long chosen is here.
          next_opened a.config a.domain a.n a.rest new.rest bs a.owner new.owner new.block best _ _ _ _ _ _ c.requires.0
          long chosen is (omega (arith, long, less)) (λ t same owns at inside first.
          filled.2 t same owns (at ∙ here) inside first),
    )

pub returns : goal.returns
returns c =
    let a = c.args in
    let store = a.store.now in
    let words = a.words.now in
    let past = c.if-n-config.false in
    let e = c.nothing_left.ensures in
    let none : c.nothing_left.result.count.0 ≡ 0 = ap (λ (r : Rest). r.count.0) e in (
      rw (le-ltb a.n a.config.blocks past) e,
      λ some. absurd (some none),
      λ bs best long chosen is here.
          subst (λ (r : Rest). OpenedNext a.config a.domain a.rest bs a.owner store words r (set bs a.n a.block) a.owner
          store words) (sym e)
          (subst (λ (bs' : List Block). OpenedNext a.config a.domain a.rest bs a.owner store words nothing_left bs'
          a.owner store words) (sym (set_past bs a.n a.block (omega (arith, long, past))))
          (next_none a.config a.domain a.rest bs a.owner best store words _ _ c.requires.0 long chosen
          (omega (arith, long, past, is)))),
    )
