-- The same append, and the same reading, in two drives that the domain cannot tell apart.
use Prim.Native.Nat.{ℕ, ◌<◌}
use mathlib.Core.Bool.{true, true≢false, ◌&&◌}
use mathlib.Core.List.{List}
use mathlib.Core.Option.{Option, none, some}
use mathlib.Core.Path.{◌≡◌, refl, sym, ap, ◌∙◌}
use native.Mathlib.Omega.{arith}
use lib.Dec.{eqb, leb}
use lib.ListN.{length}
use borrow.Author.Tests.{le-leb, lt-ltb}
use Rattle.geometry.proofs.Laws.Shape.{both, by_test}
use Rattle.geometry.specs.Address.{is_domain_id}
use Rattle.geometry.specs.Shape.{adus}
use Rattle.geometry.specs.declared.shape.Adus.{Adus}
use Rattle.model.specs.declared.table.Domain.{Domain}
use Rattle.rules.specs.Calls.{Call, ◌asking◌, ◌for◌, append, latest}
use Rattle.rules.specs.Claims.{Oldest}
use Rattle.rules.specs.Counting.{implies}
use Rattle.rules.specs.Drive.{Drive, block_at, closed_of, domain_at, held_by, is_closed, is_closed_state, size}
use Rattle.rules.specs.Effects.{effect, questions, verdict}
use Rattle.rules.specs.Noninterference.{reserves_all}
use Rattle.rules.specs.Observation.{Holding, Holds, name_of, serial_at}
use Rattle.rules.specs.Questions.{is_count}
use Rattle.rules.specs.Recorder.{freed_if_any, gets_thirteen, has_recorder_shape, kept, last_of, oldest_closed, sample_write, after_freeing}
use Rattle.rules.proofs.Kept.Calls.{course_fit, course_on}
use Rattle.rules.proofs.Kept.Recorder.{append_writes, room_domain, room_sequel}
use Rattle.rules.proofs.Noninterference.Samples.{kept_same}
use Rattle.rules.proofs.Kept.Views.{Alike, alike_back}
use Rattle.rules.proofs.Noninterference.Blocks.{freed_alike}
use Rattle.rules.proofs.Noninterference.Common.{Pair, first_same_for, same_name}
use Rattle.rules.proofs.Noninterference.Pairing.{partner, same_holdings}
use Rattle.rules.proofs.Noninterference.Reads.{words_told}
use Rattle.rules.proofs.Noninterference.Twins.{Twin, ask_same, told}
use Rattle.rules.proofs.Noninterference.WriteByPlacement.{later_same, placement_alike, placement_told, placement_verdicts}
use Rattle.rules.proofs.Recorder.{OldestOf, oldest}

-- ---- The block that is freed

-- A Closed block of the domain has a Closed partner of the same serial.
closed_partner : {a : ℕ} {v w : Drive} → Alike a v w → (n : ℕ) → n < size v.table → closed_of a (block_at v.table n) ≡ true
    → (m : ℕ) × (m < size w.table) × (closed_of a (block_at w.table m) ≡ true) × (serial_at v n ≡ serial_at w m)
closed_partner {a} {v} {w} s n inside e =
    let b = both (held_by a (block_at v.table n)) (is_closed (block_at v.table n)) e in
    let x = partner s n (inside, b.0) in
    let shut : is_closed (block_at w.table x.0) ≡ true = ap (λ (h : Holding). is_closed_state h.state) (sym x.2) ∙ b.1 in
    (x.0, x.1.0, rw (x.1.1, shut), ap (λ (h : Holding). h.serial) x.2)

-- None is found in both, or one in both with the same serial.
abbrev SameOldest : ℕ → Drive → Drive → Option ℕ → Option ℕ → Type 0
SameOldest a v w none none = Unit {0}
SameOldest a v w none (some m) = ⊥
SameOldest a v w (some n) none = ⊥
SameOldest a v w (some n) (some m) = name_of a v n ≡ name_of a w m

holds_closed : (a : ℕ) (v : Drive) (n : ℕ) → Oldest v.table a (size v.table) n → Holds a v n
holds_closed a v n o = (o.inside, (both (held_by a (block_at v.table n)) (is_closed (block_at v.table n)) o.closed).0)

same_oldest : {a : ℕ} {v w : Drive} → Alike a v w → (x y : Option ℕ)
    → OldestOf v.table a (size v.table) x → OldestOf w.table a (size w.table) y → SameOldest a v w x y
same_oldest s none none o q = tt
same_oldest {a} {v} {w} s none (some m) o q =
    let x = closed_partner (alike_back s) m q.inside q.closed in true≢false (sym x.2 ∙ o x.0 x.1)
same_oldest {a} {v} {w} s (some n) none o q =
    let x = closed_partner s n o.inside o.closed in true≢false (sym x.2 ∙ q x.0 x.1)
same_oldest {a} {v} {w} s (some n) (some m) o q =
    let x = closed_partner s n o.inside o.closed in
    let y = closed_partner (alike_back s) m q.inside q.closed in
    same_name a v w n m (holds_closed a v n o) (holds_closed a w m q)
    (omega (arith, x.3, y.3, q.least x.0 x.1 x.2, o.least y.0 y.1 y.2))

module _ {a : ℕ} {v w : Drive} (p : Pair a v w) (call : Call) (sample : ℕ) where
  id : is_domain_id a ≡ true
  id = rw (le-leb 1 a p.low, le-leb a 16 p.high)

  abbrev room : Drive
  room = after_freeing a sample v call.lent

  abbrev room' : Drive
  room' = after_freeing a sample w call.lent

  -- Room is made in both or in none, and leaves drives that the domain cannot tell apart.
  thirteen_same : gets_thirteen a sample v call.lent ≡ gets_thirteen a sample w call.lent
  unfolding questions
  thirteen_same = ap (λ (n : ℕ). eqb n 13) (placement_verdicts p 0 call sample (adus 1))

  freed_same : (x y : Option ℕ) → OldestOf v.table a (size v.table) x → OldestOf w.table a (size w.table) y
      → SameOldest a v w x y → Alike a (freed_if_any x v) (freed_if_any y w)
  unfolding effect
  freed_same none none o q same = p.alike
  freed_same none (some m) o q same = absurd same
  freed_same (some n) none o q same = absurd same
  freed_same (some n) (some m) o q same =
      freed_alike p call n m same (lt-ltb n (size v.table) o.inside) (holds_closed a v n o).1

  room_alike : Alike a room room'
  unfolding after_freeing
  room_alike =
      by_test (gets_thirteen a sample v call.lent)
      (λ e.
      let o = oldest v.table a (size v.table) in
      let q = oldest w.table a (size w.table) in
      rw (e, sym thirteen_same ∙ e)
      (freed_same (oldest_closed v.table a) (oldest_closed w.table a) o q (same_oldest p.alike (oldest_closed v.table a) (oldest_closed w.table a) o q)))
      (λ e. rw (e, sym thirteen_same ∙ e) p.alike)

  reserves_on : (u : Drive) → reserves_all a u ≡ true → reserves_all a (after_freeing a sample u call.lent) ≡ true
  reserves_on u e =
      ap (λ (r : Domain). implies r.exists (eqb r.reserved r.quota)) (room_domain a sample u call.lent a) ∙ e

  room_pair : Pair a room room'
  room_pair = record {
    low = p.low;
    high = p.high;
    alike = room_alike;
    left = course_on v room p.left (room_sequel v call (course_fit p.left call) a sample id).sequel;
    right = course_on w room' p.right (room_sequel w call (course_fit p.right call) a sample id).sequel;
    left_reserves = reserves_on v p.left_reserves;
    right_reserves = reserves_on w p.right_reserves;
  }

  append_verdicts : verdict v (call for append a sample) ≡ verdict w (call for append a sample)
  append_verdicts =
      first_same_for p call (append a sample) (append a sample) refl refl refl (λ e5.
      later_same room_pair 0 call sample (adus 1) (has_recorder_shape (domain_at v.table a)) (has_recorder_shape (domain_at w.table a))
      (ap (λ (r : Domain). has_recorder_shape r) p.alike.domain)
      (ap (λ (r : Domain). r.exists) (room_domain a sample v call.lent a) ∙ e5))

  module _ (e : verdict v (call for append a sample) ≡ 0) (f : verdict w (call for append a sample) ≡ 0) where
    left_write : verdict room (call asking sample_write a sample) ≡ 0
    left_write = append_writes v call (course_fit p.left call) a sample e

    right_write : verdict room' (call asking sample_write a sample) ≡ 0
    right_write = append_writes w call (course_fit p.right call) a sample f

    append_alike : Alike a (effect v (call for append a sample)).drive (effect w (call for append a sample)).drive
    unfolding effect
    append_alike = placement_alike room_pair 0 call sample (adus 1) left_write right_write

    append_told : told a v (call for append a sample) ≡ told a w (call for append a sample)
    unfolding effect
    append_told = placement_told room_pair 0 call sample (adus 1) left_write right_write

module _ {a : ℕ} {v w : Drive} (p : Pair a v w) (call : Call) where
  pub append_twin : (sample : ℕ) → Twin a v w (call for append a sample) (call for append a sample)
  append_twin sample = record {
    reading = refl;
    verdicts = append_verdicts p call sample;
    after = λ e f. append_alike p call sample e f;
    telling = λ e f. append_told p call sample e f;
  }

  -- ---- Reading

  both_keep : kept v a ≡ kept w a
  both_keep = kept_same (same_holdings p.low p.right.facts p.alike) p.alike.domain

  pub latest_twin : (count : Adus) → Twin a v w (call for latest a count) (call for latest a count)
  unfolding effect
  latest_twin count = record {
    reading = refl;
    verdicts = first_same_for p call (latest a count) (latest a count) refl refl refl (λ e5.
        ask_same _ _ _ _ _ (ap (λ (r : Domain). has_recorder_shape r && is_count count) p.alike.domain) (λ e6.
        ask_same _ _ _ _ _ refl (λ e7.
        ask_same _ _ _ _ _ (ap (λ (l : List ℕ). leb count.0 (length l)) both_keep) (λ e15. refl))));
    after = λ e f. p.alike;
    telling = λ e f. ap (λ (l : List ℕ). words_told (last_of count.0 l)) both_keep;
  }
