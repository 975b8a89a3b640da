-- Two runs of the program, with a recorder as A, meet the hypotheses of noninterference and of retention.
use Prim.Native.Nat.{ℕ, ◌%◌}
use mathlib.Core.Bool.{Bool, false}
use mathlib.Core.List.{List, [], ◌∷◌, map}
use mathlib.Core.Path.{◌≡◌, refl, sym, ap, ap₂, ◌∙◌}
use lib.Dec.{eqb}
use lib.ListN.{get_or-map, drop, get_or, take}
use Rattle.geometry.specs.Questions.{Outcome}
use Rattle.geometry.specs.Shape.{adus_per_block, each_in_range, planes, planes_per_block, store_length, within_limits}
use Rattle.geometry.specs.declared.shape.Config.{Config}
use Rattle.isolation.proofs.Example.{begins}
use Rattle.isolation.proofs.Existing.{runs_every_list}
use Rattle.isolation.proofs.Reference.{exchanged_calls, run_replied}
use Rattle.isolation.specs.Retention.{exchange_at, no_exchange}
use Rattle.isolation.specs.Runs.{RunOf, exchanges_of, first, lends_all, reference_after}
use Rattle.recorder_runs.specs.Lists.{busy, busy_first, busy_rest, quiet}
use Rattle.isolation.specs.RecorderExample.{RecorderNotEmpty}
use Rattle.recorder_runs.proofs.Shown.{shown}
use Rattle.rules.specs.Calls.{Call}
use Rattle.rules.specs.Counting.{row_to}
use Rattle.rules.specs.Drive.{Drive, domain_at}
use Rattle.rules.specs.Effects.{step}
use Rattle.rules.specs.Example.{numbers_told, sevens, zeros}
use Rattle.rules.specs.Noninterference.{Exchange, Replied, calls, fully_reserved, inputs}
use Rattle.rules.specs.Recorder.{has_recorder_shape}
use Rattle.rules.specs.Retention.{recorder_alone}
use Rattle.rules.specs.Runs.{answers, begun, run}
use Rattle.rules.specs.ProvedTable.{small}

-- The numbers that a run is told are those of its calls.
told : (xs : List Exchange) (v : Drive) → Replied xs v → map (λ (x : Exchange). x.reply.answer.number) xs ≡ numbers_told (calls xs) v
unfolding Replied answers
told [] v r = refl
told (x ∷ xs) v r =
    ap₂ (λ (n : ℕ) (l : List ℕ). n ∷ l) (ap (λ (o : Outcome). o.number) r.0.answers) (told xs (step x.call v) r.1)

-- The list of calls, the drive after so many of them, and call i with its answer's number, of the run of a list.
module _ {c : Config} {store : List ℕ} {ks : List Call} {f : ℕ → Bool} (r : RunOf c store ks f) where
  after : (m : ℕ) → reference_after m r.its ≡ run (take m ks) (begun c store)
  after m = ap₂ (λ (ls : List Call) (v : Drive). run (take m ls) v) r.called (begins r)

  are : calls (exchanges_of r.its) ≡ ks
  are = exchanged_calls r.its.calls (first r.its) ∙ r.called

  call_at : (i : ℕ) → (exchange_at i r.its).call ≡ get_or ks i no_exchange.call
  call_at i =
      sym (get_or-map (λ (x : Exchange). x.call) (exchanges_of r.its) i no_exchange)
      ∙ ap (λ (ls : List Call). get_or ls i no_exchange.call) are

  number_at : (i : ℕ) → (exchange_at i r.its).reply.answer.number ≡ get_or (numbers_told ks (begun c store)) i 0
  number_at i =
      sym (get_or-map (λ (x : Exchange). x.reply.answer.number) (exchanges_of r.its) i no_exchange)
      ∙ ap (λ (ns : List ℕ). get_or ns i 0)
      (told (exchanges_of r.its) (first r.its) (run_replied r.its) ∙ ap₂ numbers_told are (begins r))

-- Behind its first six calls stand the others.
behind : take 270 (drop 6 busy) ≡ busy_rest
unfolding row_to
behind = refl

pub recorder_not_empty : RecorderNotEmpty
unfolding within_limits each_in_range adus_per_block planes_per_block store_length lends_all row_to
recorder_not_empty =
    let one = runs_every_list small zeros.store quiet (λ i. false) refl refl refl in
    let two = runs_every_list small sevens.store busy (λ i. eqb (i % 2) 1) refl refl refl in
    record {
      one = one;
      two = two;
      same_configuration = one.configured ∙ sym two.configured;
      one_reserved = ap₂ (fully_reserved 1) one.called (begins one) ∙ shown.quiet_reserved;
      two_reserved = ap₂ (fully_reserved 1) two.called (begins two) ∙ shown.busy_reserved;
      same_inputs =
          ap₂ (inputs 1) one.called (begins one)
          ∙ shown.quiet_inputs
          ∙ sym (ap₂ (inputs 1) two.called (begins two) ∙ shown.busy_inputs);
      created = record {
        guarantee = planes 256;
        quota = planes 0;
        placements = 1;
        limit = 0;
        creates = ap (λ (k : Call). k.asks) (call_at two 5);
        accepted = number_at two 5 ∙ ap (λ (ns : List ℕ). get_or ns 5 0) shown.busy_numbers_lem;
        shaped = ap (λ (v : Drive). has_recorder_shape (domain_at v.table 1)) (after two 6) ∙ shown.busy_shaped;
      };
      alone =
          ap₂ (λ (ks : List Call) (v : Drive). recorder_alone 1 (take 270 (drop 6 ks)) v) two.called (after two 6)
          ∙ ap (λ (ks : List Call). recorder_alone 1 ks (run busy_first sevens)) behind
          ∙ shown.busy_alone;
    }
