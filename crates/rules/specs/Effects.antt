-- What each command does where every answer is yes, and what a call hands back, refused or not.
use Rattle.std.specs.Prelude.{ℕ, Bool, cond, List, [], ◌∷◌, ◌++◌, ◌≡◌, eqb}
use Rattle.std.proofs.Math.Option.{Option, none, some}
use Rattle.geometry.specs.Address.{fields_of}
use Rattle.geometry.specs.Questions.{Outcome, Question, answered, first_no}
use Rattle.model.specs.declared.block.Way.TheVariants as way
use Rattle.model.specs.declared.command.Command.{Command}
use Rattle.model.specs.declared.command.Command.TheVariants.{ChangeCapacity, Close, Create, Delete, Erase, Free, List as Listing, Page, Pulse, Read}
use Rattle.model.specs.declared.command.Command.TheVariants.{WriteByBlock, WriteByPlacement}
use Rattle.model.specs.declared.table.Table.{Table}
use Rattle.rules.specs.Blocks.{Written, closed_at, erased_block, freed_at, opened_for, pulsed, stored, user_addresses, written_by_placement, written_into}
use Rattle.rules.specs.Calls.{Asked, BytesDue, Call, append, command, latest, list_bytes, no_bytes, page_bytes, profile_of}
use Rattle.rules.specs.Domains.{changed_domain, created_domain, deleted_domain}
use Rattle.rules.specs.Drive.{Drive, block_at, overwritten, with_domain}
use Rattle.rules.specs.LogPages.{list, list_length, page}
use Rattle.rules.specs.Questions.{first_questions, later_questions}
use Rattle.rules.specs.Recorder.{append_questions, appended, latest_kept, latest_questions}

-- The drive afterwards, the values of the answer, and the words that are filled.
pub record Effect : Type 0 where
  pub drive : Drive
  pub values : List ℕ
  pub words : List ℕ

-- The table changes, and these values are answered.
abbrev pub changing : List ℕ → Table → Drive → Effect
changing values t v = record { drive = record { table = t; store = v.store }; values = values; words = [] }

-- Nothing changes, and these words are filled.
abbrev pub giving : List ℕ → Drive → Effect
giving words v = record { drive = v; values = []; words = words }

-- A write fills in its flash addresses.
abbrev pub writing : Written → Effect
writing w = record { drive = w.drive; values = []; words = w.addresses }

-- Erase opens a block and answers its number.
abbrev pub erasing : ℕ → Option ℕ → Drive → Effect
erasing d none v = giving [] v
erasing d (some n) v = record { drive = opened_for d way.Erase n v; values = n ∷ []; words = [] }

abbrev pub effect_of : Command → Drive → Effect
effect_of (Create d guarantee quota placements limit) v =
    changing [] (with_domain d (created_domain v.table.config guarantee quota placements limit) v.table) v
effect_of (ChangeCapacity d guarantee quota) v =
    changing [] (with_domain d (changed_domain v.table d guarantee quota) v.table) v
effect_of (Delete d) v = changing [] (deleted_domain d v.table) v
effect_of (Erase d n) v = erasing d (erased_block v.table n) v
effect_of (Close d n) v = changing (n ∷ []) (closed_at n v.table) v
effect_of (Free d n) v = changing (n ∷ []) (freed_at n v.table) v
effect_of (WriteByPlacement d p start count) v = writing (written_by_placement d p (user_addresses start count.0) v)
effect_of (WriteByBlock d n start count) v = writing (written_into d n (user_addresses start count.0) v)
effect_of (Read d address count expected) v = giving (stored v (fields_of v.table.config address) count.0) v
effect_of (Page d n) v = giving [] v
effect_of (Listing d which) v = giving [] v
effect_of (Pulse seconds) v = changing [] (pulsed seconds v.table) v

-- ---- What a call is asked and does: a command as above, the recorder's calls as 02 says (Recorder.antt)

abbrev pub asked_then : Asked → Drive → Call → List Question
asked_then (command c) v k = later_questions c v k
asked_then (append d sample) v k = append_questions d sample v k
asked_then (latest d count) v k = latest_questions d count v k

unfoldable pub questions : Drive → Call → List Question
questions v k = first_questions v k ++ asked_then k.asks v k

abbrev pub effect_for : Asked → Drive → Call → Effect
effect_for (command c) v k = effect_of c v
effect_for (append d sample) v k = writing (appended d sample v k.lent)
effect_for (latest d count) v k = giving (latest_kept d count v) v

unfoldable pub effect : Drive → Call → Effect
effect v k = effect_for k.asks v k

-- The bytes that success fills.
abbrev pub due_bytes : Table → BytesDue → List ℕ
due_bytes t no_bytes = []
due_bytes t (page_bytes n) = page t.config n (block_at t n)
due_bytes t (list_bytes d which) = list t d which

-- How many they are.
abbrev pub byte_count : Table → BytesDue → ℕ
byte_count t no_bytes = 0
byte_count t (page_bytes n) = 256
byte_count t (list_bytes d which) = list_length t d which

-- The number of the first no, or 0.
abbrev pub verdict : Drive → Call → ℕ
verdict v k = first_no (questions v k)

abbrev pub accepted : Drive → Call → Bool
accepted v k = eqb (verdict v k) 0

-- "The first no gives its number and nothing more; table, store and outputs stay."
abbrev pub answer_to : Drive → Call → Outcome
answer_to v k = answered (questions v k) (effect v k).values

unfoldable pub step : Call → Drive → Drive
step k v = cond (accepted v k) (effect v k).drive v

unfoldable pub words_filled : Drive → Call → List ℕ
words_filled v k = cond (accepted v k) (effect v k).words []

unfoldable pub bytes_filled : Drive → Call → List ℕ
bytes_filled v k = cond (accepted v k) (due_bytes v.table (profile_of k.asks).bytes) []

-- What a call hands back: its answer, the table and the store, and what the other lent buffers then hold.
pub record Served : Type 0 where
  pub answer : Outcome
  pub drive : Drive
  pub words : List ℕ
  pub bytes : List ℕ

-- What a call that is lent these words and bytes hands back: this and nothing else (`handed_back_once` in proofs/Laws.antt). A fill
-- goes to the front of its buffer and touches nothing beyond.
pub record Serves (v : Drive) (k : Call) (words bytes : List ℕ) (r : Served) : Type 0 where
  pub answers : r.answer ≡ answer_to v k
  pub leaves : r.drive ≡ step k v
  pub fills_words : r.words ≡ overwritten 0 (words_filled v k) words
  pub fills_bytes : r.bytes ≡ overwritten 0 (bytes_filled v k) bytes
