-- What a recorder keeps in every run of the program, from what it keeps under the rules.
use Prim.Native.Nat.{ℕ, zero, suc, ◌+◌}
use mathlib.Core.Bool.{true, true≢false, cond}
use mathlib.Core.List.{List, [], ◌∷◌, ◌++◌}
use mathlib.Core.Path.{◌≡◌, refl, sym, ap, ap₂, ◌∙◌, subst}
use native.Mathlib.Omega.{arith}
use lib.Dec.{eqb}
use lib.ListN.{drop, get_or, take}
use Rattle.geometry.proofs.Laws.Questions.{answered_number}
use Rattle.geometry.specs.Questions.{Outcome}
use Rattle.geometry.specs.declared.shape.Planes.{Planes}
use Rattle.isolation.specs.Retention.{Retention, samples_told, no_exchange}
use Rattle.isolation.specs.Runs.{calls_of, exchanges_of, first, reference_after}
use Rattle.isolation.proofs.Reference.{exchanged_calls, follows_reference, run_course, run_replied}
use Rattle.model.specs.declared.command.Command.TheVariants.{Create}
use Rattle.rules.proofs.Kept.Calls.{Course, course_step}
use Rattle.rules.proofs.Retention.Lists as rules
use Rattle.rules.specs.Calls.{Asked, Call, ◌asking◌, command, is_pulse}
use Rattle.rules.specs.Drive.{Drive, domain_at}
use Rattle.rules.specs.Effects.{effect, questions, step, verdict}
use Rattle.rules.specs.Noninterference.{Exchange, Replied, calls}
use Rattle.rules.specs.Observation.{Replies}
use Rattle.rules.specs.Recorder.{has_recorder_shape, kept, last_of}
use Rattle.rules.specs.Retention.{EndsWith, Retains, recorder_alone, retained, sample_of, accepted_samples}
use Rattle.rules.specs.Runs.{run}

-- A reply has the number of the first no.
replied_number : (v : Drive) (x : Exchange) → Replies v x.call x.reply → x.reply.answer.number ≡ verdict v x.call
replied_number v x r =
    ap (λ (o : Outcome). o.number) r.answers ∙ answered_number (questions v x.call) (effect v x.call).values

-- The samples that the program accepted are those that the rules accept.
same_samples : (a j : ℕ) (xs : List Exchange) (v : Drive) → Replied xs v
    → accepted_samples a (take j (calls xs)) v ≡ samples_told a (take j xs)
unfolding Replied accepted_samples samples_told
same_samples a zero xs v r = refl
same_samples a (suc j) [] v r = refl
same_samples a (suc j) (x ∷ xs) v r =
    ap₂ (λ (n : ℕ) (l : List ℕ). cond (eqb n 0) (sample_of a x.call.asks) [] ++ l) (sym (replied_number v x r.0))
    (same_samples a j xs (step x.call v) r.1)

-- What is claimed of a list of exchanges from a drive on, after m of its calls.
abbrev RetainsFrom : ℕ → ℕ → ℕ → ℕ → List Exchange → Drive → Type 0
RetainsFrom a i j m xs v =
    let w = run (take m (calls xs)) v in EndsWith (kept w a) (last_of (retained a w) (samples_told a (take j (drop (suc i) xs))))

module _ (a j : ℕ) (guarantee quota : Planes) (placements limit : ℕ) where
  abbrev creating : Asked
  creating = command (Create a guarantee quota placements limit)

  retains_now : (k : Call) (v : Drive) → k.asks ≡ creating → Course v → verdict v k ≡ 0
      → has_recorder_shape (domain_at (step k v).table a) ≡ true
      → (ks : List Call) → recorder_alone a ks (step k v) ≡ true → Retains a ks (step k v)
  retains_now k v creates course e shaped ks alone =
      let same : k asking Create a guarantee quota placements limit ≡ k = λ i. record { asks = sym creates i; lent = k.lent } in
      subst (λ (l : Call). Retains a ks (step l v)) same
      (rules.retention v course k a guarantee quota placements limit (ap (verdict v) same ∙ e)
      (ap (λ (l : Call). has_recorder_shape (domain_at (step l v).table a)) same ∙ shaped)
      ks (ap (λ (l : Call). recorder_alone a ks (step l v)) same ∙ alone))

  retains_from : (i : ℕ) (xs : List Exchange) (v : Drive) → Course v → Replied xs v
      → (get_or xs i no_exchange).call.asks ≡ creating
      → (get_or xs i no_exchange).reply.answer.number ≡ 0
      → has_recorder_shape (domain_at (run (take (suc i) (calls xs)) v).table a) ≡ true
      → recorder_alone a (take j (drop (suc i) (calls xs))) (run (take (suc i) (calls xs)) v) ≡ true
      → RetainsFrom a i j (suc (i + j)) xs v
  unfolding Replied run
  retains_from zero [] v course r creates e shaped alone = absurd (true≢false (ap (λ (x : Asked). is_pulse x) creates))
  retains_from (suc i) [] v course r creates e shaped alone = absurd (true≢false (ap (λ (x : Asked). is_pulse x) creates))
  retains_from zero (x ∷ xs) v course r creates e shaped alone =
      let w = step x.call v in
      let many : j ≡ 0 + j = omega arith in
      let kept-all = retains_now x.call v creates course (sym (replied_number v x r.0) ∙ e) shaped (take j (calls xs)) alone in
      subst (λ (m : ℕ). RetainsFrom a 0 j (suc m) (x ∷ xs) v) many
      (subst (λ (l : List ℕ). let u = run (take j (calls xs)) w in EndsWith (kept u a) (last_of (retained a u) l))
      (same_samples a j xs w r.1) kept-all)
  retains_from (suc i) (x ∷ xs) v course r creates e shaped alone =
      let many : suc (i + j) ≡ suc i + j = omega arith in
      subst (λ (m : ℕ). RetainsFrom a (suc i) j (suc m) (x ∷ xs) v) many
      (retains_from i xs (step x.call v) (course_step x.call v course) r.1 creates e shaped alone)

pub retention : Retention
retention = record {
  retains = λ r a i j created alone.
      let xs = exchanges_of r in
      let m = suc (i + j) in
      let told = samples_told a (take j (drop (suc i) xs)) in
      let are : calls xs ≡ calls_of r = exchanged_calls r.calls (first r) in
      let after : (n : ℕ) → run (take n (calls xs)) (first r) ≡ reference_after n r = λ n. ap (λ (ks : List Call). run (take n ks) (first r)) are in
      subst (λ (w : Drive). EndsWith (kept w a) (last_of (retained a (reference_after m r)) told)) (sym (follows_reference r m))
      (subst (λ (w : Drive). EndsWith (kept w a) (last_of (retained a w) told)) (after m)
      (retains_from a j created.guarantee created.quota created.placements created.limit i xs (first r) (run_course r) (run_replied r)
      created.creates created.accepted
      (ap (λ (w : Drive). has_recorder_shape (domain_at w.table a)) (after (suc i)) ∙ created.shaped)
      (ap₂ (λ (ks : List Call) (w : Drive). recorder_alone a (take j (drop (suc i) ks)) w) are (after (suc i)) ∙ alone)));
}
