-- Document 02, Wish 1: "If only the recorder uses the domain from its Create on and no block expired, the last (quota blocks − 1) × C
-- samples, or all if fewer, are still kept".
use Rattle.std.specs.Prelude.{ℕ, ◌-◌, ◌*◌, Bool, true, false, ◌&&◌, cond, List, [], ◌∷◌, ◌++◌, ◌≡◌, eqb}
use Rattle.rules.specs.Calls.{Asked, Call, append, command, is_pulse, latest, own_domain}
use Rattle.rules.specs.Counting.{all_to, implies}
use Rattle.rules.specs.Drive.{Drive, block_at, domain_at, is_open, new_capacity, open_of, size}
use Rattle.rules.specs.Effects.{accepted, step}
use Rattle.rules.specs.Recorder.{kept, last_of}
use Rattle.rules.specs.Runs.{run}

-- "only the recorder uses the domain": the domain's own calls are appends and readings.
abbrev pub is_recorder_call : Asked → Bool
is_recorder_call (command c) = false
is_recorder_call (append d sample) = true
is_recorder_call (latest d count) = true

-- "no block expired": if the call is a pulse, the domain's open blocks stay open.
abbrev pub expires_none : ℕ → Drive → Call → Bool
expires_none a v k =
    implies (is_pulse k.asks)
    (all_to (λ n. implies (open_of a (block_at v.table n)) (is_open (block_at (step k v).table n))) (size v.table))

abbrev pub only_records : ℕ → Drive → Call → Bool
only_records a v k = implies (eqb (own_domain k.asks) a) (is_recorder_call k.asks) && expires_none a v k

unfoldable pub recorder_alone : ℕ → List Call → Drive → Bool
recorder_alone a [] v = true
recorder_alone a (k ∷ ks) v = only_records a v k && recorder_alone a ks (step k v)

-- The samples of the domain's accepted appends, in their order.
abbrev pub sample_of : ℕ → Asked → List ℕ
sample_of a (command c) = []
sample_of a (append d sample) = cond (eqb d a) (sample ∷ []) []
sample_of a (latest d count) = []

unfoldable pub accepted_samples : ℕ → List Call → Drive → List ℕ
accepted_samples a [] v = []
accepted_samples a (k ∷ ks) v = cond (accepted v k) (sample_of a k.asks) [] ++ accepted_samples a ks (step k v)

-- (quota blocks − 1) × C
abbrev pub retained : ℕ → Drive → ℕ
retained a v = ((domain_at v.table a).quota - 1) * (new_capacity v.table).0

-- A list that ends with another.
abbrev pub EndsWith : List ℕ → List ℕ → Type 0
EndsWith xs ys = (front : List ℕ) × (xs ≡ front ++ ys)

-- After these calls, of which the first finds the drive v, the last so many samples, or all if fewer, are still kept: the kept list ends
-- with them.
abbrev pub Retains : ℕ → List Call → Drive → Type 0
Retains a ks v = let w = run ks v in EndsWith (kept w a) (last_of (retained a w) (accepted_samples a ks v))
