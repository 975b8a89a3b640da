-- Two whole lists of calls in which a fully reserved domain has the same inputs: by one induction, with the neighbours' calls passed
-- over on either side.
use Prim.Native.Nat.{ℕ, ◌≤◌}
use mathlib.Core.Bool.{Bool, true, false, true≢false, ◌||◌}
use mathlib.Core.List.{List, [], ◌∷◌, nil≢cons}
use mathlib.Core.Path.{◌≡◌, refl, sym, ap, ap₂}
use lib.Dec.{eqb}
use borrow.Author.Tests.{eqb-false}
use Rattle.geometry.proofs.Laws.Shape.{both, by_test}
use Rattle.rules.specs.Calls.{Call, is_pulse, own_domain}
use Rattle.rules.specs.Drive.{Drive}
use Rattle.rules.specs.Effects.{step}
use Rattle.rules.specs.Noninterference.{Exchange, Replied, calls, names_own, fully_reserved, inputs, not_uncovered, observations, reserves_all, stays_reserved}
use Rattle.rules.specs.Observation.{Input, Replies, concerns, input_of, observed}
use Rattle.rules.specs.Runs.{run}
use Rattle.rules.proofs.Kept.Calls.{Course, course_fit, course_step, own_sequel}
use Rattle.rules.proofs.Kept.Views.{Alike, alike_back, alike_then}
use Rattle.rules.proofs.Noninterference.Common.{Pair}
use Rattle.rules.proofs.Noninterference.Requests.{Proper, same_twins}
use Rattle.rules.proofs.Noninterference.Twins.{twin_alike, twin_observed}

-- ---- A neighbour's call

either : (b c : Bool) → b || c ≡ false → (b ≡ false) × (c ≡ false)
either true c e = absurd (true≢false e)
either false c e = (refl, e)

pub neighbour : (a : ℕ) (k : Call) (v : Drive) → 1 ≤ a → Course v → concerns a k.asks ≡ false → Alike a v (step k v)
neighbour a k v low c e =
    let x = either (is_pulse k.asks) (eqb (own_domain k.asks) a) e in
    (own_sequel v k (course_fit c k) x.0).others a low
    (λ same. eqb-false (own_domain k.asks) a x.1 (sym same))

-- ---- What is asked of a list, call by call

record Begins (a : ℕ) (x : Exchange) (xs : List Exchange) (v : Drive) : Type 0 where
  proper : Proper a v x.call
  reserves : reserves_all a (step x.call v) ≡ true
  rest : fully_reserved a (calls xs) (step x.call v) ≡ true

begins : (a : ℕ) (x : Exchange) (xs : List Exchange) (v : Drive) → fully_reserved a (calls (x ∷ xs)) v ≡ true → Begins a x xs v
unfolding fully_reserved
begins a x xs v e =
    let k = x.call in
    let e1 = both _ (fully_reserved a (calls xs) (step k v)) e in
    let e2 = both _ (stays_reserved a v (step k v)) e1.0 in
    let e3 = both _ (reserves_all a (step k v)) e2.0 in
    let e4 = both (not_uncovered a v k) (names_own a v k.asks) e3.0 in
    record {
      proper = record { covered = e4.0; names = e4.1; stays = e2.1 };
      reserves = e3.1;
      rest = e1.1;
    }

-- A list in the course of two: from a drive of a run, with the replies that the rules give, fully reserved.
pub record Given (a : ℕ) (xs : List Exchange) (v : Drive) : Type 0 where
  pub course : Course v
  pub reserves : reserves_all a v ≡ true
  pub replied : Replied xs v
  pub reserved : fully_reserved a (calls xs) v ≡ true

given_next : (a : ℕ) (x : Exchange) (xs : List Exchange) (v : Drive) → Given a (x ∷ xs) v → Given a xs (step x.call v)
unfolding Replied
given_next a x xs v g =
    let b = begins a x xs v g.reserved in
    record {
      course = course_step x.call v g.course;
      reserves = b.reserves;
      replied = g.replied.1;
      reserved = b.rest;
    }

-- What follows: the same observations, and drives that the domain cannot tell apart.
pub record Result (a : ℕ) (xs ys : List Exchange) (v w : Drive) : Type 0 where
  pub same : observations a xs v ≡ observations a ys w
  pub alike : Alike a (run (calls xs) v) (run (calls ys) w)

-- ---- Two calls that are twins

first_reply : (x : Exchange) (xs : List Exchange) (v : Drive) → Replied (x ∷ xs) v → Replies v x.call x.reply
unfolding Replied
first_reply x xs v r = r.0

-- ---- The induction

first_or : Input → List Input → Input
first_or p [] = p
first_or p (q ∷ qs) = q

rest_of : List Input → List Input
rest_of [] = []
rest_of (q ∷ qs) = qs

same_first : (p q : Input) (ps qs : List Input) → p ∷ ps ≡ q ∷ qs → p ≡ q
unfolding first_or
same_first p q ps qs e = ap (λ (l : List Input). first_or p l) e

same_rest : (p q : Input) (ps qs : List Input) → p ∷ ps ≡ q ∷ qs → ps ≡ qs
unfolding rest_of
same_rest p q ps qs e = ap (λ (l : List Input). rest_of l) e

module _ (a : ℕ) (low : 1 ≤ a) (high : a ≤ 16) where
  pair : (v w : Drive) → Alike a v w → Course v → Course w → reserves_all a v ≡ true → reserves_all a w ≡ true → Pair a v w
  pair v w s c d r q = record {
    low = low;
    high = high;
    alike = s;
    left = c;
    right = d;
    left_reserves = r;
    right_reserves = q;
  }

  -- No input is left: only neighbours' calls are.
  all_neighbours : (ys : List Exchange) (v w : Drive) → Alike a v w → Given a ys w → inputs a (calls ys) w ≡ [] → Result a [] ys v w
  unfolding inputs observations run
  all_neighbours [] v w s g e = record { same = refl; alike = s }
  all_neighbours (y ∷ ys) v w s g e =
      by_test (concerns a y.call.asks)
      (λ own. absurd (nil≢cons (sym (rw own at e))))
      (λ foreign.
      let r =
      all_neighbours ys v (step y.call w) (alike_then s (neighbour a y.call w low g.course foreign))
      (given_next a y ys w g) (rw foreign at e) in
      record { same = rw foreign r.same; alike = r.alike })

  -- An input on the left: the next one on the right is the same, behind neighbours' calls. `on` is the induction for what follows.
  module _ (x : Exchange) (xs : List Exchange) (v : Drive) (own : concerns a x.call.asks ≡ true) (g : Given a (x ∷ xs) v)
      (on : (ys : List Exchange) (w : Drive) → Alike a (step x.call v) w → Given a ys w
      → inputs a (calls xs) (step x.call v) ≡ inputs a (calls ys) w → Result a xs ys (step x.call v) w) where
    abbrev here : Input
    here = input_of a v x.call

    abbrev later : List Input
    later = inputs a (calls xs) (step x.call v)

    -- Both are the domain's: the same input.
    met : (y : Exchange) (ys : List Exchange) (w : Drive) → Alike a v w → Given a (y ∷ ys) w → concerns a y.call.asks ≡ true
        → here ≡ input_of a w y.call
        → later ≡ inputs a (calls ys) (step y.call w)
        → (observed a v x.call x.reply ≡ observed a w y.call y.reply) × Result a xs ys (step x.call v) (step y.call w)
    met y ys w s h own' same after =
        let b = begins a x xs v g.reserved in
        let b' = begins a y ys w h.reserved in
        let p = pair v w s g.course h.course g.reserves h.reserves in
        let twin = same_twins p x.call y.call b.proper b'.proper own own' same in (
          twin_observed x.call y.call s twin x.reply y.reply
              (first_reply x xs v g.replied) (first_reply y ys w h.replied),
          on ys (step y.call w) (twin_alike x.call y.call s twin) (given_next a y ys w h) after,
        )

    next_input : (ys : List Exchange) (w : Drive) → Alike a v w → Given a ys w → here ∷ later ≡ inputs a (calls ys) w
        → Result a (x ∷ xs) ys v w
    unfolding inputs observations run
    next_input [] w s h e = absurd (nil≢cons (sym e))
    next_input (y ∷ ys) w s h e =
        by_test (concerns a y.call.asks)
        (λ own'.
        let q = rw own' at e in
        let r = met y ys w s h own' (same_first _ _ _ _ q) (same_rest _ _ _ _ q) in
        record { same = rw (own, own') (ap₂ ◌∷◌ r.0 r.1.same); alike = r.1.alike })
        (λ foreign.
        let r =
        next_input ys (step y.call w) (alike_then s (neighbour a y.call w low h.course foreign)) (given_next a y ys w h) (rw foreign at e) in
        record { same = rw foreign r.same; alike = r.alike })

  pub both_lists : (xs ys : List Exchange) (v w : Drive) → Alike a v w → Given a xs v → Given a ys w
      → inputs a (calls xs) v ≡ inputs a (calls ys) w → Result a xs ys v w
  unfolding inputs observations run
  both_lists [] ys v w s g h e = all_neighbours ys v w s h (sym e)
  both_lists (x ∷ xs) ys v w s g h e =
      by_test (concerns a x.call.asks)
      (λ own.
      next_input x xs v own g
      (λ zs u s' h' e'. both_lists xs zs (step x.call v) u s' (given_next a x xs v g) h' e')
      ys w s h (rw own at e))
      (λ foreign.
      let r =
      both_lists xs ys (step x.call v) w (alike_then (alike_back (neighbour a x.call v low g.course foreign)) s)
      (given_next a x xs v g) h (rw foreign at e) in
      record { same = rw foreign r.same; alike = r.alike })
