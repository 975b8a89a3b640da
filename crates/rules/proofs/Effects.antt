-- A refusal leaves everything as it was, whatever the command; and every call has an answer.
use Prim.Native.Nat.{ℕ, zero, suc, ◌+◌, ◌-◌, ◌≤◌}
use mathlib.Core.Bool.{false}
use mathlib.Core.List.{List, []}
use mathlib.Core.Option.{Option, none, some}
use mathlib.Core.Path.{◌≡◌, refl, sym, ap, ◌∙◌}
use native.Mathlib.Omega.{arith}
use lib.ListN.{drop, length, length-append, length-drop, length-take, take, take-append-drop}
use borrow.Author.Tests.{eqb-true, leb-true, ne_eqb}
use Rattle.geometry.proofs.Laws.Questions.{answered_number}
use Rattle.geometry.proofs.Laws.Shape.{by_test, is_between}
use Rattle.geometry.specs.Address.{fields_of}
use Rattle.geometry.specs.Questions.{answered}
use Rattle.geometry.specs.Shape.{stretch_start}
use Rattle.model.specs.declared.block.Way.TheVariants.{Placement}
use Rattle.model.specs.declared.command.Command.{Command}
use Rattle.model.specs.declared.command.Command.TheVariants.{ChangeCapacity, Close, Create, Delete, Erase, Free, List as Listing, Page, Pulse, Read}
use Rattle.model.specs.declared.command.Command.TheVariants.{WriteByBlock, WriteByPlacement}
use Rattle.rules.specs.Blocks.{chosen_block, erased_block, new_blocks, opened_for, room, user_address, user_addresses, written_by_placement, written_first, written_into, written_next, written_onwards}
use Rattle.rules.specs.Calls.{Asked, Call, ◌asking◌, ◌for◌, append, command, latest, no_bytes, profile, profile_of}
use Rattle.rules.specs.Claims.{Unchanged}
use Rattle.rules.specs.Drive.{Drive, block_at, new_capacity, open_block, overwritten}
use Rattle.rules.specs.Effects.{Served, Serves, accepted, answer_to, byte_count, bytes_filled, due_bytes, effect, erasing, questions, step, verdict, words_filled}
use Rattle.rules.specs.LogPages.{list_length}
use Rattle.rules.specs.Recorder.{kept, last_of, after_freeing}
use Rattle.rules.proofs.Counting.{length_row}
use Rattle.rules.proofs.Drive.{overwritten_nothing}
use Rattle.rules.proofs.Kept.Tested.{facts_of}
use Rattle.rules.proofs.LogPages.{list_length_lem, page_length}
use Rattle.rules.proofs.Questions.{answered_yes}

pub refused_unchanged : (v : Drive) (k : Call) (words bytes : List ℕ) (r : Served)
    → Serves v k words bytes r
    → ¬ (r.answer.number ≡ 0)
    → Unchanged v words bytes r
unfolding step words_filled bytes_filled answered
refused_unchanged v k words bytes r s not-0 =
    let number : r.answer.number ≡ verdict v k = rw s.answers (answered_number (questions v k) (effect v k).values) in
    let refused : accepted v k ≡ false = ne_eqb (verdict v k) 0 (λ e. not-0 (number ∙ e)) in
    record {
      no_values = rw (s.answers, refused);
      same_drive = rw (s.leaves, refused);
      same_words = rw (s.fills_words, refused) (overwritten_nothing words);
      same_bytes = rw (s.fills_bytes, refused) (overwritten_nothing bytes);
    }

-- An accepted command leaves its effect.
pub accepted_drive : (v : Drive) (k : Call) → verdict v k ≡ 0 → step k v ≡ (effect v k).drive
unfolding step
accepted_drive v k e = rw e

pub always_answered : (v : Drive) (k : Call) (words bytes : List ℕ) → (r : Served) × Serves v k words bytes r
always_answered v k words bytes = (
  record {
    answer = answer_to v k;
    drive = step k v;
    words = overwritten 0 (words_filled v k) words;
    bytes = overwritten 0 (bytes_filled v k) bytes;
  },
  record { answers = refl; leaves = refl; fills_words = refl; fills_bytes = refl },
)

-- And nothing else.
pub handed_back_once : (v : Drive) (k : Call) (words bytes : List ℕ) (r s : Served)
    → Serves v k words bytes r → Serves v k words bytes s → r ≡ s
handed_back_once v k words bytes r s x y =
    let answers = x.answers ∙ sym y.answers in
    let drives = x.leaves ∙ sym y.leaves in
    let filled = x.fills_words ∙ sym y.fills_words in
    let shown = x.fills_bytes ∙ sym y.fills_bytes in
    λ i. record { answer = answers i; drive = drives i; words = filled i; bytes = shown i }

-- ---- What is filled fits what is lent.

pub written_length : (d n : ℕ) (users : List ℕ) (v : Drive) → length (written_into d n users v).addresses ≡ length users
unfolding written_into
written_length d n users v = length_row _ (length users)

first_length : (d : ℕ) (found : Option ℕ) (users : List ℕ) (v : Drive) → length (written_first d found users v).addresses ≤ length users
first_length d none users v = omega arith
first_length d (some n) users v = omega (arith, written_length d n users v)

next_length : (d p : ℕ) (found : Option ℕ) (users : List ℕ) (v : Drive) → length (written_next d p found users v).addresses ≤ length users
next_length d p none users v = omega arith
next_length d p (some n) users v = omega (arith, written_length d n users (opened_for d (Placement p) n v))

split_length : (k : ℕ) (users : List ℕ) → length (take k users) + length (drop k users) ≡ length users
split_length k users = sym (length-append (take k users) (drop k users)) ∙ ap (length {A = ℕ}) (take-append-drop k users)

onwards_length : (d p more : ℕ) (users : List ℕ) (v : Drive) → length (written_onwards d p more users v).addresses ≤ length users
unfolding written_onwards
onwards_length d p zero users v = omega arith
onwards_length d p (suc more) users v =
    let per_block = (new_capacity v.table).0 in
    let next = written_next d p (chosen_block v.table) (take per_block users) v in
    rw (length-append)
    (omega (
      arith,
      next_length d p (chosen_block v.table) (take per_block users) v,
      onwards_length d p more (drop per_block users) next.drive,
      split_length per_block users,
    ))

placement_length : (d p : ℕ) (users : List ℕ) (v : Drive) → length (written_by_placement d p users v).addresses ≤ length users
unfolding written_by_placement
placement_length d p users v =
    let t = v.table in
    let first = written_first d (open_block t d p) (take (room t d p) users) v in
    rw (length-append)
    (omega (
      arith,
      first_length d (open_block t d p) (take (room t d p) users) v,
      onwards_length d p (new_blocks t d p (length users)) (drop (room t d p) users) first.drive,
      split_length (room t d p) users,
    ))

-- The last n of a list are at most n.
pub last_length : (n : ℕ) (xs : List ℕ) → length (last_of n xs) ≤ n
last_length n xs = omega (arith, length-drop (length xs - n) xs)

erasing_words : (d : ℕ) (found : Option ℕ) (v : Drive) → length (erasing d found v).words ≤ 0
erasing_words d none v = omega arith
erasing_words d (some n) v = omega arith

effect_words : (v : Drive) (k : Call) (c : Command) → verdict v (k asking c) ≡ 0 → length (effect v (k asking c)).words ≤ k.lent.words
unfolding effect questions
effect_words v k (Create d guarantee quota placements limit) e = omega arith
effect_words v k (ChangeCapacity d guarantee quota) e = omega arith
effect_words v k (Delete d) e = omega arith
effect_words v k (Erase d n) e = omega (arith, erasing_words d (erased_block v.table n) v)
effect_words v k (Close d n) e = omega arith
effect_words v k (Free d n) e = omega arith
effect_words v k (WriteByPlacement d p start count) e =
    let users = user_addresses start count.0 in
    omega (
      arith,
      placement_length d p users v,
      length_row (user_address start) count.0,
      leb-true count.0 k.lent.words (answered_yes v (k asking WriteByPlacement d p start count) 7 e),
    )
effect_words v k (WriteByBlock d n start count) e =
    let users = user_addresses start count.0 in
    omega (
      arith,
      written_length d n users v,
      length_row (user_address start) count.0,
      leb-true count.0 k.lent.words (answered_yes v (k asking WriteByBlock d n start count) 7 e),
    )
effect_words v k (Read d address count expected) e =
    let a = fields_of v.table.config address in
    omega (
      arith,
      length-take count.0 (drop ((stretch_start v.table.config a.block).0 + a.offset.0) v.store),
      leb-true count.0 k.lent.words (answered_yes v (k asking Read d address count expected) 7 e),
    )
effect_words v k (Page d n) e = omega arith
effect_words v k (Listing d which) e = omega arith
effect_words v k (Pulse seconds) e = omega arith

-- So it is of the recorder's calls.
words_for : (v : Drive) (k : Call) (x : Asked) → verdict v (k for x) ≡ 0 → length (effect v (k for x)).words ≤ k.lent.words
unfolding effect questions
words_for v k (command c) e = effect_words v k c e
words_for v k (append d sample) e =
    omega (
      arith,
      placement_length d 0 (user_addresses sample 1) (after_freeing d sample v k.lent),
      length_row (user_address sample) 1,
      leb-true 1 k.lent.words (answered_yes v (k for append d sample) 7 e),
    )
words_for v k (latest d count) e =
    omega (
      arith,
      last_length count.0 (kept v d),
      leb-true count.0 k.lent.words (answered_yes v (k for latest d count) 7 e),
    )

pub words_fit : (v : Drive) (k : Call) → length (words_filled v k) ≤ k.lent.words
unfolding words_filled
words_fit v k =
    by_test (accepted v k)
    (λ e. rw e (words_for v k k.asks (eqb-true (verdict v k) 0 e)))
    (λ e. rw e (omega arith))

-- A kind of which no bytes are due fills none, accepted or not.
pub fills_no_bytes : (v : Drive) (k : Call) → (profile_of k.asks).bytes ≡ no_bytes → bytes_filled v k ≡ []
unfolding bytes_filled
fills_no_bytes v k none-due = by_test (accepted v k) (λ e. rw (e, none-due)) (λ e. rw e)

-- As many bytes are filled as are due, ..
pub bytes_counted : (v : Drive) (k : Call) (x : Asked) → verdict v (k for x) ≡ 0
    → length (due_bytes v.table (profile_of x).bytes) ≡ byte_count v.table (profile_of x).bytes
unfolding questions
bytes_counted v k (command (Create d guarantee quota placements limit)) e = refl
bytes_counted v k (command (ChangeCapacity d guarantee quota)) e = refl
bytes_counted v k (command (Delete d)) e = refl
bytes_counted v k (command (Erase d n)) e = refl
bytes_counted v k (command (Close d n)) e = refl
bytes_counted v k (command (Free d n)) e = refl
bytes_counted v k (command (WriteByPlacement d p start count)) e = refl
bytes_counted v k (command (WriteByBlock d n start count)) e = refl
bytes_counted v k (command (Read d address count expected)) e = refl
bytes_counted v k (command (Page d n)) e = page_length v.table.config n (block_at v.table n)
bytes_counted v k (command (Listing d which)) e =
    let c = Listing d which in
    list_length_lem v d (is_between 1 16 d (answered_yes v (k asking c) 4 e)).least (facts_of v (answered_yes v (k asking c) 2 e)) which
bytes_counted v k (command (Pulse seconds)) e = refl
bytes_counted v k (append d sample) e = refl
bytes_counted v k (latest d count) e = refl

-- .. and question 7 asks for so many.
bytes_asked : (v : Drive) (k : Call) (c : Command) → verdict v (k asking c) ≡ 0 → byte_count v.table (profile c).bytes ≤ k.lent.bytes
unfolding questions
bytes_asked v k (Create d guarantee quota placements limit) e = omega arith
bytes_asked v k (ChangeCapacity d guarantee quota) e = omega arith
bytes_asked v k (Delete d) e = omega arith
bytes_asked v k (Erase d n) e = omega arith
bytes_asked v k (Close d n) e = omega arith
bytes_asked v k (Free d n) e = omega arith
bytes_asked v k (WriteByPlacement d p start count) e = omega arith
bytes_asked v k (WriteByBlock d n start count) e = omega arith
bytes_asked v k (Read d address count expected) e = omega arith
bytes_asked v k (Page d n) e = leb-true 256 k.lent.bytes (answered_yes v (k asking Page d n) 7 e)
bytes_asked v k (Listing d which) e =
    leb-true (list_length v.table d which) k.lent.bytes (answered_yes v (k asking Listing d which) 7 e)
bytes_asked v k (Pulse seconds) e = omega arith

bytes_asked_for : (v : Drive) (k : Call) (x : Asked) → verdict v (k for x) ≡ 0
    → byte_count v.table (profile_of x).bytes ≤ k.lent.bytes
bytes_asked_for v k (command c) e = bytes_asked v k c e
bytes_asked_for v k (append d sample) e = omega arith
bytes_asked_for v k (latest d count) e = omega arith

pub bytes_fit : (v : Drive) (k : Call) → length (bytes_filled v k) ≤ k.lent.bytes
unfolding bytes_filled
bytes_fit v k =
    by_test (accepted v k)
    (λ e.
    let yes = eqb-true (verdict v k) 0 e in
    rw e (omega (arith, bytes_counted v k k.asks yes, bytes_asked_for v k k.asks yes)))
    (λ e. rw e (omega arith))
