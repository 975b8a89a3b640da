-- Document 02, Wish 1, of the program: "If only the recorder uses the domain from its Create on and no block expired, the last
-- (quota blocks − 1) × C samples, or all if fewer, are still kept".
use Rattle.std.specs.Prelude.{ℕ, suc, ◌+◌, true, cond, List, [], ◌∷◌, ◌++◌, ◌≡◌, eqb, drop, get_or, take}
use Rattle.geometry.specs.Questions.{success}
use Rattle.geometry.specs.declared.shape.Planes.{Planes}
use Rattle.isolation.specs.Runs.{Run, calls_of, exchanges_of, program_after, reference_after}
use Rattle.model.specs.declared.command.Command.TheVariants.{Create, Pulse}
use Rattle.rules.specs.Calls.{command, lending}
use Rattle.rules.specs.Drive.{domain_at}
use Rattle.rules.specs.Noninterference.{Exchange}
use Rattle.rules.specs.Recorder.{has_recorder_shape, kept, last_of}
use Rattle.rules.specs.Retention.{EndsWith, recorder_alone, retained, sample_of}

-- Call i of a run, counted from 0, with its reply. (Behind the last call a pulse of 0 seconds stands for it.)
abbrev pub no_exchange : Exchange
no_exchange = record { call = lending (Pulse 0) 0 0 0; reply = record { answer = success []; words = []; bytes = [] } }

abbrev pub exchange_at : ℕ → Run → Exchange
exchange_at i r = get_or (exchanges_of r) i no_exchange

-- Call i, counted from 0, creates the domain a. The program accepts it, and the domain then has the recorder's shape.
pub record CreatesRecorder (r : Run) (a i : ℕ) : Type 0 where
  pub guarantee : Planes
  pub quota : Planes
  pub placements : ℕ
  pub limit : ℕ
  pub creates : (exchange_at i r).call.asks ≡ command (Create a guarantee quota placements limit)
  pub accepted : (exchange_at i r).reply.answer.number ≡ 0
  pub shaped : has_recorder_shape (domain_at (reference_after (suc i) r).table a) ≡ true

-- The samples of the domain's appends that the program said were accepted, in their order.
unfoldable pub samples_told : ℕ → List Exchange → List ℕ
samples_told a [] = []
samples_told a (x ∷ xs) = cond (eqb x.reply.answer.number 0) (sample_of a x.call.asks) [] ++ samples_told a xs

-- Of every run in which call i creates a recorder's domain and, of the next j calls or as many as there are, those of the domain are the
-- recorder's and no pulse closes a block of it: what the program then keeps ends with the last (quota − 1) × C samples that it accepted,
-- or with all if fewer. Shape and quota are read off the reference machine.
pub record Retention : Type 0 where
  pub retains : (r : Run) (a i j : ℕ)
      → CreatesRecorder r a i
      → recorder_alone a (take j (drop (suc i) (calls_of r))) (reference_after (suc i) r) ≡ true
      → let w = program_after (suc (i + j)) r in
      EndsWith (kept w a) (last_of (retained a (reference_after (suc (i + j)) r)) (samples_told a (take j (drop (suc i) (exchanges_of r)))))
