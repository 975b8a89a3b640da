-- Lists from the start of a configuration, and every moment of them.
use Prim.Native.Nat.{ℕ, zero, suc, ◌≤◌}
use mathlib.Core.Bool.{true, true≢false}
use mathlib.Core.List.{List, [], ◌∷◌}
use mathlib.Core.Path.{◌≡◌, refl, sym, ap, ap₂, ◌∙◌, subst}
use native.Mathlib.Omega.{arith}
use lib.ListN.{length, take}
use borrow.Author.Tests.{ne_eqb}
use Rattle.geometry.proofs.Laws.Shape.{both, by_test, is_between}
use Rattle.geometry.specs.Address.{is_domain_id}
use Rattle.geometry.specs.Shape.{store_length, within_limits}
use Rattle.geometry.specs.declared.shape.Config.{Config}
use Rattle.rules.specs.Calls.{Call}
use Rattle.rules.specs.Claims.{Guaranteed}
use Rattle.rules.specs.Drive.{Drive, block_at, held_by}
use Rattle.rules.specs.Effects.{step}
use Rattle.rules.specs.Noninterference.{Exchange, Indistinguishable, Replied, calls, fully_reserved, inputs, is_allowed, reserves_all}
use Rattle.rules.specs.Observation.{Input, concerns, input_of}
use Rattle.rules.specs.Runs.{begun, reference}
use Rattle.rules.specs.Soundness.{sound}
use Rattle.rules.specs.Start.{empty_table}
use Rattle.rules.proofs.Kept.Calls.{Course, course_run}
use Rattle.rules.proofs.Kept.OneBlock.{view_none}
use Rattle.rules.proofs.Kept.Tested.{facts_of, facts_sound}
use Rattle.rules.proofs.Kept.Views.{Alike}
use Rattle.rules.proofs.Noninterference.Lists.{Given, both_lists}
use Rattle.rules.proofs.Noninterference.Pairing.{same_holdings}
use Rattle.rules.proofs.Soundness.{apart}
use Rattle.rules.proofs.Start.{clear_block_lem, clear_domain_lem, empty_sound, start_accepted}

-- ---- The start

-- The drive with which a run of a configuration within limits begins.
abbrev empty : Config → List ℕ → Drive
empty c store = record { table = empty_table c; store = store }

begun_empty : (c : Config) (store : List ℕ) → within_limits c ≡ true → begun c store ≡ empty c store
begun_empty c store e = rw (start_accepted c e)

empty_course : (c : Config) (store : List ℕ) → within_limits c ≡ true → length store ≡ (store_length c).0 → Course (empty c store)
empty_course c store e l = record {
  facts = facts_of (empty c store) (empty_sound c e);
  shaped = record { domains = refl; blocks = refl };
  store = l;
}

pub begun_config : (c : Config) (store : List ℕ) → within_limits c ≡ true → (begun c store).table.config ≡ c
begun_config c store e = ap (λ (v : Drive). v.table.config) (begun_empty c store e)

pub begun_course : (c : Config) (store : List ℕ) → within_limits c ≡ true → length store ≡ (store_length c).0 → Course (begun c store)
begun_course c store e l = subst Course (sym (begun_empty c store e)) (empty_course c store e l)

-- No domain exists or holds a block, so that none can tell two stores apart.
empty_reserves : (a : ℕ) (c : Config) (store : List ℕ) → reserves_all a (empty c store) ≡ true
empty_reserves a c store = rw (clear_domain_lem c a)

empty_alike : (a : ℕ) (c : Config) (store other : List ℕ) → 1 ≤ a → Alike a (empty c store) (empty c other)
empty_alike a c store other low = record {
  config = refl;
  domain = refl;
  views = λ q. view_none q a (empty c store) (λ n l h. absurd (nobodys n h)) ∙ sym (view_none q a (empty c other) (λ n l h. absurd (nobodys n h)));
}
  where
    nobodys : (n : ℕ) → held_by a (block_at (empty_table c) n) ≡ true → ⊥
    nobodys n h = true≢false (sym h ∙ (rw (clear_block_lem c n) (ne_eqb 0 a (λ e. absurd (omega (arith, e, low))))))

-- ---- Every moment of a list

-- What is asked of a whole list is asked of its beginnings.
replied_take : (i : ℕ) (xs : List Exchange) (v : Drive) → Replied xs v → Replied (take i xs) v
unfolding Replied
replied_take zero xs v r = tt
replied_take (suc i) [] v r = tt
replied_take (suc i) (x ∷ xs) v r = (r.0, replied_take i xs (step x.call v) r.1)

reserved_take : (a i : ℕ) (xs : List Exchange) (v : Drive) → fully_reserved a (calls xs) v ≡ true → fully_reserved a (calls (take i xs)) v ≡ true
unfolding fully_reserved
reserved_take a zero xs v e = refl
reserved_take a (suc i) [] v e = refl
reserved_take a (suc i) (x ∷ xs) v e =
    let k = x.call in
    let h = both (is_allowed a v k) (fully_reserved a (calls xs) (step k v)) e in
    rw (h.0, reserved_take a i xs (step k v) h.1)

-- The inputs of a beginning are the first of the list's inputs.
inputs_take : (a i : ℕ) (xs : List Exchange) (v : Drive)
    → inputs a (calls (take i xs)) v ≡ take (length (inputs a (calls (take i xs)) v)) (inputs a (calls xs) v)
unfolding inputs
inputs_take a zero xs v = refl
inputs_take a (suc i) [] v = refl
inputs_take a (suc i) (x ∷ xs) v =
    by_test (concerns a x.call.asks)
    (λ own. rw own (ap (λ (l : List Input). input_of a v x.call ∷ l) (inputs_take a i xs (step x.call v))))
    (λ foreign. rw foreign (inputs_take a i xs (step x.call v)))

-- ---- The claims

module _ (c : Config) (within : within_limits c ≡ true) where
  pub run_sound : (store : List ℕ) (ks : List Call) → length store ≡ (store_length c).0 → sound (reference c store ks).table ≡ true
  run_sound store ks whole =
      facts_sound (reference c store ks) (course_run ks (begun c store) (begun_course c store within whole)).facts

  pub guaranteed : (store : List ℕ) (ks : List Call) → length store ≡ (store_length c).0 → Guaranteed (reference c store ks).table
  guaranteed store ks whole =
      let f = (course_run ks (begun c store) (begun_course c store within whole)).facts in
      record {
        coverage = (apart (reference c store ks).table (run_sound store ks whole)).coverage;
        quotas = λ d low high. (f.domains d low high).within;
      }

  module _ (a : ℕ) (id : is_domain_id a ≡ true) (store other : List ℕ)
      (whole : length store ≡ (store_length c).0) (whole' : length other ≡ (store_length c).0) where
    abbrev one : Drive
    one = empty c store

    abbrev two : Drive
    two = empty c other

    given : (rows : List ℕ) → length rows ≡ (store_length c).0 → (xs : List Exchange) → Replied xs (empty c rows)
        → fully_reserved a (calls xs) (empty c rows) ≡ true → Given a xs (empty c rows)
    given rows l xs r f = record {
      course = empty_course c rows within l;
      reserves = empty_reserves a c rows;
      replied = r;
      reserved = f;
    }

    from_empty : (xs ys : List Exchange) → Replied xs one → Replied ys two
        → fully_reserved a (calls xs) one ≡ true → fully_reserved a (calls ys) two ≡ true
        → inputs a (calls xs) one ≡ inputs a (calls ys) two
        → Indistinguishable a xs ys one two
    from_empty xs ys r s f g e =
        let b = is_between 1 16 a id in
        let x =
        both_lists a b.least b.most xs ys one two (empty_alike a c store other b.least)
        (given store whole xs r f) (given other whole' ys s g) e in
        record {
          same_observations = x.same;
          same_holdings = same_holdings b.least (course_run (calls ys) two (empty_course c other within whole')).facts x.alike;
        }

    moment_empty : (xs ys : List Exchange) → Replied xs one → Replied ys two
        → fully_reserved a (calls xs) one ≡ true → fully_reserved a (calls ys) two ≡ true
        → inputs a (calls xs) one ≡ inputs a (calls ys) two
        → (i j : ℕ) → length (inputs a (calls (take i xs)) one) ≡ length (inputs a (calls (take j ys)) two)
        → Indistinguishable a (take i xs) (take j ys) one two
    moment_empty xs ys r s f g e i j same =
        from_empty (take i xs) (take j ys) (replied_take i xs one r) (replied_take j ys two s)
        (reserved_take a i xs one f) (reserved_take a j ys two g)
        (inputs_take a i xs one ∙ ap₂ (λ (n : ℕ) (l : List Input). take n l) same e ∙ sym (inputs_take a j ys two))

    -- The same from the drives with which runs begin.
    pub every_moment : (xs ys : List Exchange) → Replied xs (begun c store) → Replied ys (begun c other)
        → fully_reserved a (calls xs) (begun c store) ≡ true → fully_reserved a (calls ys) (begun c other) ≡ true
        → inputs a (calls xs) (begun c store) ≡ inputs a (calls ys) (begun c other)
        → (i j : ℕ) → length (inputs a (calls (take i xs)) (begun c store)) ≡ length (inputs a (calls (take j ys)) (begun c other))
        → Indistinguishable a (take i xs) (take j ys) (begun c store) (begun c other)
    every_moment xs ys =
        subst (λ (v : Drive). Claimed xs ys v (begun c other)) (sym (begun_empty c store within))
        (subst (Claimed xs ys one) (sym (begun_empty c other within)) (moment_empty xs ys))
      where
        Claimed : (xs ys : List Exchange) → Drive → Drive → Type 0
        Claimed xs ys v w =
            Replied xs v → Replied ys w
            → fully_reserved a (calls xs) v ≡ true → fully_reserved a (calls ys) w ≡ true
            → inputs a (calls xs) v ≡ inputs a (calls ys) w
            → (i j : ℕ) → length (inputs a (calls (take i xs)) v) ≡ length (inputs a (calls (take j ys)) w)
            → Indistinguishable a (take i xs) (take j ys) v w
