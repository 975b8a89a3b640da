-- The same Erase in two drives that the domain cannot tell apart: of FFFFFFFFh, or of a block that it holds.
use Prim.Native.Nat.{ℕ, ◌≤◌, ◌<◌}
use mathlib.Core.Bool.{Bool, true, false, ◌||◌, cond}
use mathlib.Core.List.{[], ◌∷◌, map}
use mathlib.Core.Option.{some}
use mathlib.Core.Path.{◌≡◌, refl, sym, ap, ap₂, ◌∙◌, subst}
use native.Mathlib.Omega.{arith}
use lib.Dec.{eqb}
use borrow.Author.Tests.{eq-eqb, eqb-true, ltb-true, ne_eqb}
use Rattle.geometry.proofs.Laws.Shape.{by_test}
use Rattle.geometry.specs.Address.{is_block}
use Rattle.geometry.specs.declared.shape.Config.{Config}
use Rattle.model.specs.declared.block.Way.{Way}
use Rattle.model.specs.declared.block.Way.TheVariants as way
use Rattle.model.specs.declared.command.Command.TheVariants.{Erase}
use Rattle.model.specs.declared.table.Table.{Table}
use Rattle.rules.specs.Blocks.{any_block, chosen_block, erased_block, freed_at, opened_for}
use Rattle.rules.specs.Calls.{Call, ◌asking◌, command}
use Rattle.rules.specs.Counting.{implies}
use Rattle.rules.specs.Drive.{Drive, block_at, held_by, is_closed, is_closed_state, is_free, size}
use Rattle.rules.specs.Effects.{Effect, effect, questions, verdict}
use Rattle.rules.specs.Noninterference.{names_own}
use Rattle.rules.specs.Observation.{Holding, Holds, Name, Observation, ReadBytes, ReadValues, ReadWords, holding_at, name_of}
use Rattle.rules.specs.Questions.{covered_after, is_erasable, is_erased_again, may_erase, new_of_erase, within_quota}
use Rattle.rules.proofs.Kept.Calls.{course_fit}
use Rattle.rules.proofs.Kept.Changes.{Openable, opened_changed, opened_held}
use Rattle.rules.proofs.Kept.Erasing.{again_is, again_opens, any_opens}
use Rattle.rules.proofs.Kept.Fit.{Fit}
use Rattle.rules.proofs.Kept.OneBlock.{few_blocks}
use Rattle.rules.proofs.Kept.Views.{Alike}
use Rattle.rules.proofs.Noninterference.Blocks.{block_told, freed_alike, opened_alike, opened_same}
use Rattle.rules.proofs.Noninterference.Common.{Pair, covered_same, first_same, holding_same, inside_other, inside_same, may_open_same, number_same, own_other, quota_same, same_name, serials_same}
use Rattle.rules.proofs.Noninterference.Twins.{Twin, ask_same}
use Rattle.rules.proofs.Questions.{answered_yes}

-- What an effect that opens a block is told as.
abbrev told_by : ℕ → Effect → Observation
told_by a x = record {
  number = 0;
  values = ReadValues.blocks (map (name_of a x.drive) x.values);
  words = ReadWords.plain x.words;
  bytes = ReadBytes.plain [];
}

abbrev freeing : Drive → ℕ → Drive
freeing v n = record { table = freed_at n v.table; store = v.store }

-- A block that was opened is held.
opens_held : {d n : ℕ} {v : Drive} → Openable d n v → (way : Way) → Holds d (opened_for d way n v) n
opens_held {d} {n} {v} o way =
    (subst (λ (c : Config). n < c.blocks) (sym (opened_changed o way).config) o.inside, opened_held o way)

-- ---- The questions

module _ {a : ℕ} {v w : Drive} (p : Pair a v w) (call : Call) (n m : ℕ) (same : name_of a v n ≡ name_of a w m)
    (own : names_own a v (command (Erase a n)) ≡ true) where
  abbrev t : Table
  t = v.table

  abbrev u : Table
  u = w.table

  -- A block of the drive that is named is held, and is not FFFFFFFFh.
  named_held : is_block t.config n ≡ true → held_by a (block_at t n) ≡ true
  named_held inside = rw (eq-eqb a a refl, inside) at own

  not_any : (x : Drive) (k : ℕ) → size x.table ≤ 256 → is_block x.table.config k ≡ true → eqb k any_block ≡ false
  not_any x k few inside = ne_eqb k any_block (λ e. absurd (omega (arith, e, few, ltb-true k (size x.table) inside)))

  -- What holds where a held block is named, and where FFFFFFFFh is, holds of an Erase in range.
  by_name : {P : Type 0} → is_erasable t n ≡ true
      → (is_block t.config n ≡ true → P)
      → (n ≡ any_block → m ≡ any_block → is_block t.config n ≡ false → P)
      → P
  by_name range named any =
      by_test (is_block t.config n) named
      (λ out.
      let at = eqb-true n any_block (rw out at range) in
      any at (sym (number_same p n m same out) ∙ at) out)

  range_same : is_erasable t n ≡ is_erasable u m
  range_same =
      by_test (is_block t.config n)
      (λ inside. rw (inside, inside_other p n m same inside))
      (λ out. rw (out, sym (inside_same p n m same) ∙ out, number_same p n m same out))

  -- What an Erase in range is asked of its block: the same in both.
  again_held : (x : Drive) (k : ℕ) → size x.table ≤ 256 → is_block x.table.config k ≡ true
      → held_by a (block_at x.table k) ≡ true → is_erased_again x.table a k ≡ true
  again_held x k few inside h = rw (not_any x k few inside, h)

  again_any : (x : Table) (k : ℕ) → k ≡ any_block → is_erased_again x a k ≡ false
  again_any x k e = rw (eq-eqb k any_block e)

  may_held : (x : Drive) (k : ℕ) → held_by a (block_at x.table k) ≡ true → may_erase x.table a k ≡ true
  may_held x k h =
      by_test (eqb k any_block || is_free (block_at x.table k)) (λ e. rw e) (λ e. rw (e, h))

  may_any : (x : Table) (k : ℕ) → k ≡ any_block → may_erase x a k ≡ true
  may_any x k e = rw (eq-eqb k any_block e)

  may_same : is_erasable t n ≡ true → may_erase t a n ≡ may_erase u a m
  may_same range =
      by_name range
      (λ inside. may_held v n (named_held inside) ∙ sym (may_held w m (own_other p n m same inside (named_held inside))))
      (λ e f out. may_any t n e ∙ sym (may_any u m f))

  again_same : is_erasable t n ≡ true → is_erased_again t a n ≡ is_erased_again u a m
  again_same range =
      by_name range
      (λ inside.
      again_held v n (few_blocks p.left.facts) inside (named_held inside)
      ∙ sym (again_held w m (few_blocks p.right.facts) (inside_other p n m same inside) (own_other p n m same inside (named_held inside))))
      (λ e f out. again_any t n e ∙ sym (again_any u m f))

  closed_same : is_erasable t n ≡ true
      → implies (is_erased_again t a n) (is_closed (block_at t n)) ≡ implies (is_erased_again u a m) (is_closed (block_at u m))
  closed_same range =
      by_name range
      (λ inside.
      ap₂ implies (again_same range) (ap (λ (h : Holding). is_closed_state h.state) (holding_same p n m same inside (named_held inside))))
      (λ e f out. rw (again_any t n e, again_any u m f))

  new_same : is_erasable t n ≡ true → new_of_erase t a n ≡ new_of_erase u a m
  new_same range = ap (λ (b : Bool). cond b 0 1) (again_same range)

  erase_verdicts : verdict v (call asking Erase a n) ≡ verdict w (call asking Erase a m)
  erase_verdicts =
      first_same p call (Erase a n) (Erase a m) refl refl refl (λ e5.
      ask_same _ _ _ _ _ range_same (λ e6.
      ask_same _ _ _ _ _ (may_same e6) (λ e9.
      ask_same _ _ _ _ _ (closed_same e6) (λ e10.
      ask_same _ _ _ _ _ (may_open_same p) (λ e11.
      ask_same _ _ _ _ _ (serials_same p 1) (λ e12.
      ask_same _ _ _ _ _ (quota_same p (new_of_erase t a n) ∙ ap (λ (k : ℕ). within_quota u a k) (new_same e6)) (λ e13.
      ask_same _ _ _ _ _ (covered_same p (new_of_erase t a n) e5 e13 ∙ ap (λ (k : ℕ). covered_after u a k) (new_same e6)) (λ e14.
      refl))))))))

  -- ---- What is left and told

  abbrev opens_block : Drive → ℕ → Effect
  opens_block x k = record { drive = opened_for a way.Erase k x; values = k ∷ []; words = [] }

  erase_opens : (x : Drive) (k j : ℕ) → erased_block x.table k ≡ some j → effect x (call asking Erase a k) ≡ opens_block x j
  unfolding effect
  erase_opens x k j e = rw e

  erased_any : (x : Table) (k j : ℕ) → k ≡ any_block → chosen_block x ≡ some j → erased_block x k ≡ some j
  erased_any x k j e chosen = rw (eq-eqb k any_block e) chosen

  erased_named : (x : Drive) (k : ℕ) → size x.table ≤ 256 → is_block x.table.config k ≡ true → erased_block x.table k ≡ some k
  erased_named x k few inside = rw (not_any x k few inside)

  fit_left : Fit v call
  fit_left = course_fit p.left call

  fit_right : Fit w call
  fit_right = course_fit p.right call

  -- Both open a block, with the same holding, and are alike afterwards.
  record Opened (x y : Effect) : Type 0 where
    alike : Alike a x.drive y.drive
    told_same : told_by a x ≡ told_by a y

  opened_effects : (k j : ℕ) → Holds a (opened_for a way.Erase k v) k → Holds a (opened_for a way.Erase j w) j → Alike a (opened_for a way.Erase k v) (opened_for a way.Erase j w)
      → holding_at (opened_for a way.Erase k v) k ≡ holding_at (opened_for a way.Erase j w) j
      → Opened (opens_block v k) (opens_block w j)
  opened_effects k j x y s h = record {
    alike = s;
    told_same =
        ap (λ (z : Name). block_told z)
        (same_name a (opened_for a way.Erase k v) (opened_for a way.Erase j w) k j x y (ap (λ (z : Holding). z.serial) h));
  }

  module _ (e : verdict v (call asking Erase a n) ≡ 0) (f : verdict w (call asking Erase a m) ≡ 0) where
    free_alike : is_block t.config n ≡ true → held_by a (block_at t n) ≡ true → Alike a (freeing v n) (freeing w m)
    unfolding effect
    free_alike inside h = freed_alike p call n m same inside h

    any_opened : n ≡ any_block → m ≡ any_block → Opened (effect v (call asking Erase a n)) (effect w (call asking Erase a m))
    any_opened at at' =
        let x = any_opens v call fit_left a n e at in
        let y = any_opens w call fit_right a m f at' in
        subst (λ (z : Effect). Opened z (effect w (call asking Erase a m))) (sym (erase_opens v n x.0 (erased_any t n x.0 at x.1)))
        (subst (Opened (opens_block v x.0)) (sym (erase_opens w m y.0 (erased_any u m y.0 at' y.1)))
        (opened_effects x.0 y.0 (opens_held x.2.block way.Erase) (opens_held y.2.block way.Erase) (opened_alike p.alike x.2.block y.2.block way.Erase) (opened_same p.alike x.2.block y.2.block way.Erase)))

    named_opened : is_block t.config n ≡ true → Opened (effect v (call asking Erase a n)) (effect w (call asking Erase a m))
    named_opened inside =
        let h = named_held inside in
        let inside' = inside_other p n m same inside in
        let h' = own_other p n m same inside h in
        let x = again_opens v call fit_left a n e (not_any v n (few_blocks p.left.facts) inside) h in
        let y = again_opens w call fit_right a m f (not_any w m (few_blocks p.right.facts) inside') h' in
        let freed = free_alike inside h in
        let i = again_is v call fit_left a n e (not_any v n (few_blocks p.left.facts) inside) h in
        let j = again_is w call fit_right a m f (not_any w m (few_blocks p.right.facts) inside') h' in
        subst (λ (z : Effect). Opened z (effect w (call asking Erase a m))) (sym (erase_opens v n n (erased_named v n (few_blocks p.left.facts) inside)))
        (subst (Opened (opens_block v n)) (sym (erase_opens w m m (erased_named w m (few_blocks p.right.facts) inside')))
        (opened_effects n m
        (subst (λ (z : Drive). Holds a z n) i (opens_held x.block way.Erase))
        (subst (λ (z : Drive). Holds a z m) j (opens_held y.block way.Erase))
        (subst (λ (z : Drive). Alike a z (opened_for a way.Erase m w)) i
        (subst (λ (z : Drive). Alike a (opened_for a way.Erase n (freeing v n)) z) j (opened_alike freed x.block y.block way.Erase)))
        (subst (λ (z : Drive). holding_at z n ≡ holding_at (opened_for a way.Erase m w) m) i
        (subst (λ (z : Drive). holding_at (opened_for a way.Erase n (freeing v n)) n ≡ holding_at z m) j (opened_same freed x.block y.block way.Erase)))))

    erase_opened : Opened (effect v (call asking Erase a n)) (effect w (call asking Erase a m))
    unfolding questions
    erase_opened =
        by_name (answered_yes v (call asking Erase a n) 6 e) named_opened (λ at at' out. any_opened at at')

  pub erase_twin : Twin a v w (call asking Erase a n) (call asking Erase a m)
  erase_twin = record {
    reading = refl;
    verdicts = erase_verdicts;
    after = λ e f. (erase_opened e f).alike;
    telling = λ e f. (erase_opened e f).told_same;
  }
