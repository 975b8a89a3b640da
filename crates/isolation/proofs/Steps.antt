-- One call of the program is one step of the reference machine, and its reply is what the rules give.
use Prim.Native.Nat.{ℕ}
use mathlib.Core.Bool.{true, false, true≢false, cond}
use mathlib.Core.List.{List}
use mathlib.Core.Path.{◌≡◌, sym, ap, ap₂, ◌∙◌, subst}
use lib.Dec.{eqb}
use lib.ListN.{drop, length, take}
use lib.Seq.{take-append_seam}
use Rattle.geometry.proofs.Laws.Questions.{answered_number}
use Rattle.geometry.proofs.Laws.Shape.{by_test}
use Rattle.geometry.specs.Questions.{Outcome}
use Rattle.geometry.specs.declared.shape.Config.{Config}
use Rattle.isolation.specs.Calls.{ProgramCall, call_of, given, handed_back}
use Rattle.isolation.specs.Runs.{after_call, if_success, is_own_store, reply_of}
use Rattle.isolation.proofs.Contracts.{call_contract}
use Rattle.isolation.proofs.Filled.{bytes_due, words_due}
use Rattle.isolation.proofs.OtherStore.{other_store}
use Rattle.model.specs.declared.table.Table.{Table}
use Rattle.rules.proofs.Kept.Calls.{Course}
use Rattle.rules.specs.Calls.{profile_of, word_count}
use Rattle.rules.specs.Drive.{Drive, overwritten}
use Rattle.rules.specs.Effects.{accepted, answer_to, byte_count, bytes_filled, effect, questions, step, verdict, words_filled}
use Rattle.rules.specs.Observation.{Replies}
use Rattle.tables.specs.Serving.{drive}

-- What was put to the front of a row is its front.
front : (new row : List ℕ) → take (length new) (overwritten 0 new row) ≡ new
unfolding overwritten
front new row = take-append_seam new (drop (length new) row)

-- What a call lent with one drive gives, said of the run's own.
record Gives (k : ProgramCall) (v : Drive) : Type 0 where
  answers : (handed_back k).answer ≡ answer_to v (call_of k)
  fills_words : (handed_back k).words ≡ overwritten 0 (words_filled v (call_of k)) (given k).words
  fills_bytes : (handed_back k).bytes ≡ overwritten 0 (bytes_filled v (call_of k)) (given k).bytes

-- So its reply is what the rules give, and nothing beyond it is touched.
record Told (k : ProgramCall) (v : Drive) : Type 0 where
  replied : Replies v (call_of k) (reply_of v k)
  words : (handed_back k).words ≡ overwritten 0 (reply_of v k).words (given k).words
  bytes : (handed_back k).bytes ≡ overwritten 0 (reply_of v k).bytes (given k).bytes

told : (k : ProgramCall) (v : Drive) → Course v → Gives k v → Told k v
told k v course g =
    let call = call_of k in
    let p = profile_of (given k).asks in
    let number : (handed_back k).answer.number ≡ verdict v call =
    ap (λ (o : Outcome). o.number) g.answers ∙ answered_number (questions v call) (effect v call).values in
    let many : (n : ℕ) → if_success k n ≡ cond (accepted v call) n 0 = λ n. ap (λ (m : ℕ). cond (eqb m 0) n 0) number in
    let words_are : (reply_of v k).words ≡ words_filled v call =
    ap₂ take (many (word_count p.words) ∙ sym (words_due v course call)) g.fills_words
    ∙ front (words_filled v call) (given k).words in
    let bytes_are : (reply_of v k).bytes ≡ bytes_filled v call =
    ap₂ take (many (byte_count v.table p.bytes) ∙ sym (bytes_due v course call)) g.fills_bytes
    ∙ front (bytes_filled v call) (given k).bytes in
    record {
      replied = record {
        answers = g.answers;
        fills_words = words_are;
        fills_bytes = bytes_are;
      };
      words = g.fills_words ∙ ap (λ (l : List ℕ). overwritten 0 l (given k).words) (sym words_are);
      bytes = g.fills_bytes ∙ ap (λ (l : List ℕ). overwritten 0 l (given k).bytes) (sym bytes_are);
    }

-- The call as the program makes it.
pub record Stepped (c : Config) (k : ProgramCall) (v : Drive) : Type 0 where
  pub leaves : after_call c k v ≡ step (call_of k) v
  pub replied : Replies v (call_of k) (reply_of v k)
  pub words : (handed_back k).words ≡ overwritten 0 (reply_of v k).words (given k).words
  pub bytes : (handed_back k).bytes ≡ overwritten 0 (reply_of v k).bytes (given k).bytes
  pub other_store_kept : is_own_store c k ≡ false → (handed_back k).drive.store ≡ (given k).store

-- Lent the run's own store, ..
own_step : (k : ProgramCall)
    → let v = drive (given k).table (given k).store in
    Course v
    → is_own_store v.table.config k ≡ true
    → Stepped v.table.config k v
own_step k course own =
    let s = call_contract k in
    let t =
    told k (drive (given k).table (given k).store) course
    (record { answers = s.answers; fills_words = s.fills_words; fills_bytes = s.fills_bytes }) in
    record {
      leaves = rw own s.leaves;
      replied = t.replied;
      words = t.words;
      bytes = t.bytes;
      other_store_kept = λ e. absurd (true≢false (sym own ∙ e));
    }

-- .. or another.
other_step : (k : ProgramCall) (store : List ℕ)
    → let v = drive (given k).table store in
    Course v
    → is_own_store v.table.config k ≡ false
    → Stepped v.table.config k v
other_step k store course other =
    let s = call_contract k in
    let g = other_store (given k).table store (given k).store (call_of k) other in
    let t =
    told k (drive (given k).table store) course
    (record {
      answers = s.answers ∙ g.answers;
      fills_words = s.fills_words ∙ ap (λ (filled : List ℕ). overwritten 0 filled (given k).words) g.words;
      fills_bytes = s.fills_bytes ∙ ap (λ (filled : List ℕ). overwritten 0 filled (given k).bytes) g.bytes;
    }) in
    record {
      leaves = rw other (ap₂ drive (ap (λ (u : Drive). u.table) s.leaves ∙ g.table) (sym g.keeps));
      replied = t.replied;
      words = t.words;
      bytes = t.bytes;
      other_store_kept = λ e.
          ap (λ (u : Drive). u.store) s.leaves
          ∙ (other_store (given k).table (given k).store (given k).store (call_of k) other).keeps;
    }

pub stepped : (k : ProgramCall) (v : Drive) → Course v
    → (given k).table ≡ v.table
    → (is_own_store v.table.config k ≡ true → (given k).store ≡ v.store)
    → Stepped v.table.config k v
stepped k v course same lent =
    let at_table : (t : Table) → t ≡ v.table → is_own_store t.config k ≡ is_own_store v.table.config k = λ t e.
    ap (λ (x : Table). is_own_store x.config k) e in
    by_test (is_own_store v.table.config k)
    (λ own.
    let whole : drive (given k).table (given k).store ≡ v = ap₂ drive same (lent own) in
    subst (λ (u : Drive). Stepped u.table.config k u) whole
    (own_step k (subst Course (sym whole) course) (at_table (given k).table same ∙ own)))
    (λ other.
    let whole : drive (given k).table v.store ≡ v = ap (λ (t : Table). drive t v.store) same in
    subst (λ (u : Drive). Stepped u.table.config k u) whole
    (other_step k v.store (subst Course (sym whole) course) (at_table (given k).table same ∙ other)))
