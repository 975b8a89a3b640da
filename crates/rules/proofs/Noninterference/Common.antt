-- What two drives that a fully reserved domain cannot tell apart have in common for every request of it: the answers to the questions
-- that look at its record and its blocks alone, coverage included, and what a named block is.
use Prim.Native.Nat.{ℕ, ◌+◌, ◌≤◌, max}
use mathlib.Core.Bool.{Bool, true, false, cond}
use mathlib.Core.List.{List, ◌∷◌, ◌++◌}
use mathlib.Core.Path.{◌≡◌, refl, sym, ap, ap₂, ◌∙◌}
use native.Mathlib.Omega.{arith}
use lib.Dec.{eqb, leb, ltb}
use borrow.Author.Tests.{eq-eqb, eqb-true, le-leb, leb-true, lt-ltb, ltb-true, ne_eqb}
use Rattle.geometry.proofs.Laws.Shape.{by_test}
use Rattle.geometry.specs.Address.{is_block, is_domain_id}
use Rattle.geometry.specs.Questions.{Question, ask, first_no}
use Rattle.geometry.specs.Shape.{store_length}
use Rattle.geometry.specs.declared.shape.Config.{Config}
use Rattle.model.specs.declared.block.Block.{Block}
use Rattle.model.specs.declared.command.Command.{Command}
use Rattle.model.specs.declared.table.Domain.{Domain}
use Rattle.rules.specs.Calls.{Asked, Call, Own, ◌asking◌, ◌for◌, command, existing, profile, profile_of}
use Rattle.rules.specs.Domains.{coverage, instead, reserved_by}
use Rattle.rules.specs.Drive.{Drive, block_at, domain_at, held_by, held_count, size}
use Rattle.rules.specs.Effects.{asked_then, questions, verdict}
use Rattle.rules.specs.Noninterference.{reserves_all}
use Rattle.rules.specs.Observation.{Holds, Name, held, holding_at, name_of, no_block, other, serial_at}
use Rattle.rules.specs.Questions.{covered_after, domain_questions, exists, later_questions, may_open, serials_left, store_fits, store_questions, within_quota}
use Rattle.rules.specs.Soundness.{sound}
use Rattle.rules.proofs.Counting.{by_eq, sum_le}
use Rattle.rules.proofs.Kept.Calls.{Course}
use Rattle.rules.proofs.Kept.OneBlock.{held_alike, open_alike}
use Rattle.rules.proofs.Kept.Tested.{facts_sound}
use Rattle.rules.proofs.Kept.Views.{Alike}
use Rattle.rules.proofs.Noninterference.Pairing.{paired}
use Rattle.rules.proofs.Noninterference.Twins.{ask_same}

-- A domain's coverage is at most what it was if the larger of its two numbers is.
pub coverage_within : (d r h : ℕ) (f g : ℕ → ℕ) → max r h ≤ max (f d) (g d)
    → coverage (instead d r f) (instead d h g) ≤ coverage f g
unfolding coverage
coverage_within d r h f g l =
    sum_le 16 _ _ (λ i k. by_eq (i + 1) d
    (λ same. rw (eq-eqb (i + 1) d same, same) l)
    (λ differ. rw (ne_eqb (i + 1) d differ) (omega arith)))

-- ---- Names

named_block : Name → Bool
named_block (held s) = true
named_block other = true
named_block (no_block n) = false

named_held : Name → Bool
named_held (held s) = true
named_held other = false
named_held (no_block n) = false

named_serial : Name → ℕ
named_serial (held s) = s
named_serial other = 0
named_serial (no_block n) = n

module _ (a : ℕ) (v : Drive) (n : ℕ) where
  abbrev inside? : Bool
  inside? = is_block v.table.config n

  abbrev held? : Bool
  held? = held_by a (block_at v.table n)

  block_named : named_block (name_of a v n) ≡ inside?
  unfolding named_block
  block_named =
      by_test inside?
      (λ e. rw e (by_test held? (λ h. rw h) (λ h. rw h)))
      (λ e. rw e)

  held_named : inside? ≡ true → named_held (name_of a v n) ≡ held?
  unfolding named_held
  held_named e = rw e (by_test held? (λ h. rw h) (λ h. rw h))

  serial_named : inside? ≡ true → held? ≡ true → named_serial (name_of a v n) ≡ serial_at v n
  unfolding named_serial
  serial_named e h = rw (e, h)

  number_named : inside? ≡ false → named_serial (name_of a v n) ≡ n
  unfolding named_serial
  number_named e = rw e

-- A block of the drive that the domain holds is named by its serial.
pub name_held : (a : ℕ) (v : Drive) (n : ℕ) → Holds a v n → name_of a v n ≡ held (serial_at v n)
name_held a v n h = rw (lt-ltb n (size v.table) h.0, h.1)

-- A block whose record stays keeps its name.
pub name_kept : (a : ℕ) (v w : Drive) (n : ℕ) → w.table.config ≡ v.table.config → block_at w.table n ≡ block_at v.table n
    → name_of a w n ≡ name_of a v n
name_kept a v w n config same =
    ap₂ (λ (c : Config) (b : Block). cond (is_block c n) (cond (held_by a b) (held b.serial) other) (no_block n)) config same

-- Two blocks of one serial have one name.
pub same_name : (a : ℕ) (v w : Drive) (n m : ℕ) → Holds a v n → Holds a w m → serial_at v n ≡ serial_at w m → name_of a v n ≡ name_of a w m
same_name a v w n m h k same = name_held a v n h ∙ ap (λ (s : ℕ). held s) same ∙ sym (name_held a w m k)

-- A domain with the ID a, in two drives that it cannot tell apart and in which its guarantee is its quota.
pub record Pair (a : ℕ) (v w : Drive) : Type 0 where
  pub low : 1 ≤ a
  pub high : a ≤ 16
  pub alike : Alike a v w
  pub left : Course v
  pub right : Course w
  pub left_reserves : reserves_all a v ≡ true
  pub right_reserves : reserves_all a w ≡ true

module _ {a : ℕ} {v w : Drive} (p : Pair a v w) where
  -- ---- Questions that both answer alike

  pub sound_same : sound v.table ≡ sound w.table
  sound_same = facts_sound v p.left.facts ∙ sym (facts_sound w p.right.facts)

  pub fits_same : (call : Call) → store_fits v.table call ≡ store_fits w.table call
  fits_same call = ap (λ (c : Config). eqb call.lent.store (store_length c).0) p.alike.config

  pub exists_same : exists v.table a ≡ exists w.table a
  exists_same = ap (λ (r : Domain). r.exists) p.alike.domain

  -- What every command of the domain is asked first, ..
  first_asked_lem : (own own' : Own) (store store' : Bool) (k l : Call) (qs rs : List Question)
      → store_fits v.table k ≡ store_fits w.table l
      → own ≡ existing a
      → own' ≡ existing a
      → store ≡ store'
      → (exists v.table a ≡ true → first_no qs ≡ first_no rs)
      → first_no ((ask 2 (sound v.table) ∷ store_questions store v.table k ++ domain_questions v.table own) ++ qs)
      ≡ first_no ((ask 2 (sound w.table) ∷ store_questions store' w.table l ++ domain_questions w.table own') ++ rs)
  first_asked_lem own own' store store' k l qs rs fits e f g rest =
      let four = ask_same 4 (is_domain_id a) (is_domain_id a) _ _ refl (λ e4.
      ask_same 5 (exists v.table a) (exists w.table a) qs rs exists_same rest) in
      rw (e, f, g) (ask_same 2 (sound v.table) (sound w.table) _ _ sound_same (λ e2.
      by_test store'
      (λ asked. rw asked (ask_same 3 (store_fits v.table k) (store_fits w.table l) _ _ fits (λ e3. four)))
      (λ not-asked. rw not-asked four)))

  -- .. so that two calls of it get the same if they do where they go on from there.
  pub first_same_for : (call : Call) (x y : Asked)
      → (profile_of x).own ≡ existing a
      → (profile_of y).own ≡ existing a
      → (profile_of x).store ≡ (profile_of y).store
      → (exists v.table a ≡ true → first_no (asked_then x v (call for x)) ≡ first_no (asked_then y w (call for y)))
      → verdict v (call for x) ≡ verdict w (call for y)
  unfolding questions
  first_same_for call x y e f g rest =
      first_asked_lem (profile_of x).own (profile_of y).own (profile_of x).store (profile_of y).store (call for x) (call for y)
      (asked_then x v (call for x)) (asked_then y w (call for y)) (fits_same call) e f g rest

  pub first_same : (call : Call) (c d : Command)
      → (profile c).own ≡ existing a
      → (profile d).own ≡ existing a
      → (profile c).store ≡ (profile d).store
      → (exists v.table a ≡ true
      → first_no (later_questions c v (call asking c)) ≡ first_no (later_questions d w (call asking d)))
      → verdict v (call asking c) ≡ verdict w (call asking d)
  first_same call c d e f g rest = first_same_for call (command c) (command d) e f g rest

  pub held_same : held_count v.table a ≡ held_count w.table a
  held_same = held_alike p.alike

  pub may_open_same : may_open v.table a ≡ may_open w.table a
  may_open_same = ap₂ (λ (n m : ℕ). ltb n m) (open_alike p.alike) (ap (λ (r : Domain). r.limit) p.alike.domain)

  pub serials_same : (new : ℕ) → serials_left v.table a new ≡ serials_left w.table a new
  serials_same new = ap (λ (r : Domain). leb (r.last + new) 4294967295) p.alike.domain

  pub quota_same : (new : ℕ) → within_quota v.table a new ≡ within_quota w.table a new
  quota_same new = ap₂ (λ (n m : ℕ). leb (n + new) m) held_same (ap (λ (r : Domain). r.quota) p.alike.domain)

-- What is within the quota of a fully reserved domain is covered, whatever the neighbours hold.
pub reserved_covers : (a new : ℕ) (v : Drive) → Course v → reserves_all a v ≡ true → exists v.table a ≡ true
    → within_quota v.table a new ≡ true → covered_after v.table a new ≡ true
reserved_covers a new v c whole there within =
    let t = v.table in
    let equal : (domain_at t a).reserved ≡ (domain_at t a).quota = eqb-true _ _ (rw there at whole) in
    le-leb _ (size t)
    (omega (
      arith,
      c.facts.covers,
      coverage_within a (domain_at t a).reserved (held_count t a + new) (reserved_by t) (held_count t)
          (omega (arith, leb-true (held_count t a + new) (domain_at t a).quota within, equal)),
    ))

module _ {a : ℕ} {v w : Drive} (p : Pair a v w) where
  pub covered_same : (new : ℕ) → exists v.table a ≡ true → within_quota v.table a new ≡ true
      → covered_after v.table a new ≡ covered_after w.table a new
  covered_same new there within =
      reserved_covers a new v p.left p.left_reserves there within
      ∙ sym (reserved_covers a new w p.right p.right_reserves (sym (exists_same p) ∙ there) (sym (quota_same p new) ∙ within))

  -- ---- A block that both name alike

  module _ (n m : ℕ) (same : name_of a v n ≡ name_of a w m) where
    pub inside_same : is_block v.table.config n ≡ is_block w.table.config m
    inside_same = sym (block_named a v n) ∙ ap (λ (x : Name). named_block x) same ∙ block_named a w m

    pub number_same : is_block v.table.config n ≡ false → n ≡ m
    number_same e =
        sym (number_named a v n e) ∙ ap (λ (x : Name). named_serial x) same ∙ number_named a w m (sym inside_same ∙ e)

    module _ (inside : is_block v.table.config n ≡ true) where
      pub inside_other : is_block w.table.config m ≡ true
      inside_other = sym inside_same ∙ inside

      pub own_same : held_by a (block_at v.table n) ≡ held_by a (block_at w.table m)
      own_same = sym (held_named a v n inside) ∙ ap (λ (x : Name). named_held x) same ∙ held_named a w m inside_other

      module _ (own : held_by a (block_at v.table n) ≡ true) where
        pub own_other : held_by a (block_at w.table m) ≡ true
        own_other = sym own_same ∙ own

        holds_one : Holds a v n
        holds_one = (ltb-true n (size v.table) inside, own)

        holds_other : Holds a w m
        holds_other = (ltb-true m (size w.table) inside_other, own_other)

        pub holding_same : holding_at v n ≡ holding_at w m
        holding_same =
            paired p.low p.right.facts p.alike n m holds_one holds_other
            (sym (serial_named a v n inside own) ∙ ap (λ (x : Name). named_serial x) same ∙ serial_named a w m inside_other own_other)
