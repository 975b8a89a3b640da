-- After every call the program's table and the run's store are the reference machine's, and every reply is what the rules give.
use Prim.Native.Nat.{ℕ, zero, suc}
use mathlib.Core.Bool.{true}
use mathlib.Core.List.{List, [], ◌∷◌, map}
use mathlib.Core.Path.{◌≡◌, refl, sym, ap, ◌∙◌, subst}
use native.Mathlib.Omega.{arith}
use lib.ListN.{take}
use Rattle.geometry.proofs.Laws.Shape.{by_test}
use Rattle.geometry.specs.Questions.{Outcome, success}
use Rattle.geometry.specs.Shape.{within_limits}
use Rattle.geometry.specs.declared.shape.Config.{Config}
use Rattle.isolation.specs.Calls.{ProgramCall, StartCall, call_of, config_of, first_table, start_answer}
use Rattle.isolation.specs.Runs.{Handed, Run, Untouched, configuration, exchanges, exchanges_of, first, is_own_store, after_call, after_calls, program_after, reference_after}
use Rattle.isolation.proofs.Contracts.{start_contract}
use Rattle.isolation.proofs.Steps.{Stepped, stepped}
use Rattle.model.specs.declared.table.Table.{Table}
use Rattle.rules.proofs.Kept.Calls.{Course, call_sequel, course_fit, course_step}
use Rattle.rules.proofs.Noninterference.Moments.{begun_course}
use Rattle.rules.specs.Calls.{Call}
use Rattle.rules.specs.Drive.{Drive}
use Rattle.rules.specs.Effects.{step}
use Rattle.rules.specs.Noninterference.{Replied, calls}
use Rattle.rules.proofs.Laws.{start_accepted, start_refused}
use Rattle.rules.specs.Runs.{run}
use Rattle.rules.specs.Start.{Started, started}
use Rattle.tables.specs.Serving.{drive}

-- ---- The start

-- An accepted start is within limits, and gives the table that the reference machine starts from.
start_within : (s : StartCall) → start_answer s ≡ success [] → within_limits (config_of s) ≡ true
start_within s e =
    by_test (within_limits (config_of s))
    (λ within. within)
    (λ outside.
    let one : 0 ≡ 1 =
    sym (ap (λ (o : Outcome). o.number) e)
    ∙ ap (λ (x : Started). x.answer.number) (start_contract s ∙ start_refused (config_of s) outside) in
    absurd (omega (arith, one)))

start_table : (s : StartCall) → first_table s ≡ (started (config_of s)).table
start_table s = ap (λ (x : Started). x.table) (start_contract s)

-- ---- Lists of calls

-- A step keeps the configuration.
pub same_config : (k : Call) (v : Drive) → Course v → (step k v).table.config ≡ v.table.config
same_config k v course = (call_sequel v k (course_fit course k)).config

-- What a list of calls leaves is what the reference machine has, and each reply is what the rules give.
record Followed (c : Config) (ks : List ProgramCall) (v : Drive) : Type 0 where
  leaves : (i : ℕ) → after_calls c (take i ks) v ≡ run (map call_of (take i ks)) v
  replied : Replied (exchanges ks v) v
  untouched : Untouched c ks v

followed : (c : Config) (ks : List ProgramCall) (v : Drive) → Course v → v.table.config ≡ c → Handed c ks v → Followed c ks v
unfolding Handed Untouched after_calls run Replied exchanges
followed c [] v course config handed = record { leaves = λ i. nothing i; replied = tt; untouched = tt }
  where
    nothing : (i : ℕ) → after_calls c (take i []) v ≡ run (map call_of (take i [])) v
    nothing zero = refl
    nothing (suc i) = refl
followed c (k ∷ ks) v course config handed =
    let s = subst (λ (x : Config). Stepped x k v) config (stepped k v course handed.0 (λ own. handed.1 (subst (λ (x : Config). is_own_store x k ≡ true) config own))) in
    let next = step (call_of k) v in
    let rest = followed c ks next (course_step (call_of k) v course) (same_config (call_of k) v course ∙ config)
    (subst (Handed c ks) s.leaves handed.2) in
    record {
      leaves = λ i. by_number i (λ j. ap (after_calls c (take j ks)) s.leaves ∙ rest.leaves j);
      replied = (s.replied, rest.replied);
      untouched = (s.words, s.bytes, s.other_store_kept, rest.untouched);
    }
  where
    by_number : (i : ℕ) → ((j : ℕ) → after_calls c (take j ks) (after_call c k v) ≡ run (map call_of (take j ks)) (step (call_of k) v))
        → after_calls c (take i (k ∷ ks)) v ≡ run (map call_of (take i (k ∷ ks))) v
    by_number zero h = refl
    by_number (suc j) h = h j

-- ---- Runs

take_map : (i : ℕ) (ks : List ProgramCall) → map call_of (take i ks) ≡ take i (map call_of ks)
take_map zero ks = refl
take_map (suc i) [] = refl
take_map (suc i) (k ∷ ks) = ap (λ (l : List Call). call_of k ∷ l) (take_map i ks)

module _ (r : Run) where
  pub run_within : within_limits (configuration r) ≡ true
  run_within = start_within r.start r.accepted

  pub run_course : Course (first r)
  run_course = begun_course (configuration r) r.store run_within r.whole

  run_first : drive (first_table r.start) r.store ≡ first r
  run_first = ap (λ (t : Table). drive t r.store) (start_table r.start)

  run_followed : Followed (configuration r) r.calls (first r)
  run_followed =
      followed (configuration r) r.calls (first r) run_course
      (ap (λ (x : Started). x.table.config) (start_accepted (configuration r) run_within))
      (subst (Handed (configuration r) r.calls) run_first r.handed)

  -- After every call the program's table and the run's store are the reference machine's, ..
  pub follows_reference : (i : ℕ) → program_after i r ≡ reference_after i r
  follows_reference i =
      ap (after_calls (configuration r) (take i r.calls)) run_first
      ∙ run_followed.leaves i
      ∙ ap (λ (ks : List Call). run ks (first r)) (take_map i r.calls)

  -- .. every reply is what the rules give, and nothing beyond it is touched.
  pub run_replied : Replied (exchanges_of r) (first r)
  run_replied = run_followed.replied

  pub run_untouched : Untouched (configuration r) r.calls (first r)
  run_untouched = run_followed.untouched

-- The calls of the exchanges are the run's.
pub exchanged_calls : (ks : List ProgramCall) (v : Drive) → calls (exchanges ks v) ≡ map call_of ks
unfolding exchanges
exchanged_calls [] v = refl
exchanged_calls (k ∷ ks) v = ap (λ (l : List Call). call_of k ∷ l) (exchanged_calls ks (step (call_of k) v))
