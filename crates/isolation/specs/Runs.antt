-- Document 01, "Whole runs", of the program: an accepted start, a store of S × C entries of any content, and a list of calls of the
-- manager's `serve` and `serve_in` and of the recorder's `append`, `append_in`, `latest` and `latest_in`, in any mix.
use Rattle.std.specs.Prelude.{ℕ, suc, Bool, true, false, ◌&&◌, cond, List, [], ◌∷◌, map, ◌≡◌, eqb, length, take}
use Rattle.geometry.specs.Questions.{success}
use Rattle.geometry.specs.Shape.{store_length}
use Rattle.geometry.specs.declared.shape.Config.{Config}
use Rattle.isolation.specs.Calls.{ProgramCall, StartCall, call_of, config_of, first_table, given, handed_back, is_in_place, start_answer}
use Rattle.rules.specs.Calls.{Asked, Call, append, command, latest, profile_of, word_count}
use Rattle.rules.specs.Drive.{Drive, overwritten}
use Rattle.rules.specs.Effects.{byte_count, step}
use Rattle.rules.specs.Noninterference.{Exchange}
use Rattle.rules.specs.Observation.{Reply}
use Rattle.rules.specs.Runs.{begun, reference}

-- ---- The program's side

-- A store of S × C entries is the run's own; one of any other length is another.
abbrev pub is_own_store : Config → ProgramCall → Bool
is_own_store c k = eqb (length (given k).store) (store_length c).0

-- The table that a call gives back or leaves, and the run's own store as the last call that was lent it leaves it.
abbrev pub after_call : Config → ProgramCall → Drive → Drive
after_call c k v = record {
  table = (handed_back k).drive.table;
  store = cond (is_own_store c k) (handed_back k).drive.store v.store;
}

unfoldable pub after_calls : Config → List ProgramCall → Drive → Drive
after_calls c [] v = v
after_calls c (k ∷ ks) v = after_calls c ks (after_call c k v)

-- Each call gets the table and store that the last one returned or left; a store of a wrong length may be lent instead.
unfoldable pub Handed : Config → List ProgramCall → Drive → Type 0
Handed c [] v = Unit {0}
Handed c (k ∷ ks) v =
    ((given k).table ≡ v.table) × (is_own_store c k ≡ true → (given k).store ≡ v.store) × Handed c ks (after_call c k v)

-- A run: an accepted start, a first store of S × C entries of any content, and calls, each handed what the last one left.
pub record Run : Type 0 where
  pub start : StartCall
  pub accepted : start_answer start ≡ success []
  pub store : List ℕ
  pub whole : length store ≡ (store_length (config_of start)).0
  pub calls : List ProgramCall
  pub handed : Handed (config_of start) calls (record { table = first_table start; store = store })

abbrev pub configuration : Run → Config
configuration r = config_of r.start

-- The program's table and the run's store after so many calls.
abbrev pub program_after : ℕ → Run → Drive
program_after i r = after_calls (configuration r) (take i r.calls) (record { table = first_table r.start; store = r.store })

-- ---- The reference machine's side

-- It starts from the configuration and the first store, and is fed with the calls.
abbrev pub calls_of : Run → List Call
calls_of r = map call_of r.calls

abbrev pub first : Run → Drive
first r = begun (configuration r) r.store

abbrev pub reference_after : ℕ → Run → Drive
reference_after i r = reference (configuration r) r.store (take i (calls_of r))

-- ---- Replies

-- The program's reply: its answer and, if that is success, as many of the first words and bytes as success fills. How many blocks a List
-- lists is read off the reference machine.
abbrev pub if_success : ProgramCall → ℕ → ℕ
if_success k n = cond (eqb (handed_back k).answer.number 0) n 0

abbrev pub reply_of : Drive → ProgramCall → Reply
reply_of v k =
    let p = profile_of (given k).asks in
    record {
      answer = (handed_back k).answer;
      words = take (if_success k (word_count p.words)) (handed_back k).words;
      bytes = take (if_success k (byte_count v.table p.bytes)) (handed_back k).bytes;
    }

-- Beyond what a reply has, the lent words and bytes are as they were, and so is a store that is not the run's own.
unfoldable pub Untouched : Config → List ProgramCall → Drive → Type 0
Untouched c [] v = Unit {0}
Untouched c (k ∷ ks) v =
    ((handed_back k).words ≡ overwritten 0 (reply_of v k).words (given k).words)
    × ((handed_back k).bytes ≡ overwritten 0 (reply_of v k).bytes (given k).bytes)
    × (is_own_store c k ≡ false → (handed_back k).drive.store ≡ (given k).store)
    × Untouched c ks (step (call_of k) v)

unfoldable pub exchanges : List ProgramCall → Drive → List Exchange
exchanges [] v = []
exchanges (k ∷ ks) v = record { call = call_of k; reply = reply_of v k } ∷ exchanges ks (step (call_of k) v)

abbrev pub exchanges_of : Run → List Exchange
exchanges_of r = exchanges r.calls (first r)

-- ---- A run of given calls

-- The recorder is lent no bytes, so that its calls lend 0.
abbrev pub lends_for : Asked → ℕ → Bool
lends_for (command c) bytes = true
lends_for (append d sample) bytes = eqb bytes 0
lends_for (latest d count) bytes = eqb bytes 0

unfoldable pub lends_all : List Call → Bool
lends_all [] = true
lends_all (k ∷ ks) = lends_for k.asks k.lent.bytes && lends_all ks

-- Which of them are lent the table, by their places from i on.
unfoldable pub Formed : (ℕ → Bool) → ℕ → List ProgramCall → Type 0
Formed inPlace? i [] = Unit {0}
Formed inPlace? i (k ∷ ks) = (is_in_place k ≡ inPlace? i) × Formed inPlace? (suc i) ks

pub record RunOf (c : Config) (store : List ℕ) (ks : List Call) (inPlace? : ℕ → Bool) : Type 0 where
  pub its : Run
  pub configured : configuration its ≡ c
  pub lent_first : its.store ≡ store
  pub called : calls_of its ≡ ks
  pub formed : Formed inPlace? 0 its.calls
