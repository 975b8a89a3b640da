-- The same request of a domain in two drives that it cannot tell apart: what has to be shown of each kind of command, and what follows
-- from it for the replies.
use Prim.Native.Nat.{ℕ}
use mathlib.Core.Bool.{Bool, true, false}
use mathlib.Core.List.{List, [], ◌∷◌}
use mathlib.Core.Path.{◌≡◌, refl, sym, ap, ap₂, ◌∙◌}
use lib.Dec.{eqb}
use borrow.Author.Tests.{eqb-true}
use Rattle.geometry.proofs.Laws.Shape.{by_test}
use Rattle.geometry.specs.Questions.{Question, answered, ask, first_no, refusal, success}
use Rattle.rules.specs.Calls.{BytesDue, Call, Profile, Values, WordsDue, address_words, blocks_after, blocks_before, counts, list_bytes}
use Rattle.rules.specs.Calls.{no_bytes, no_words, page_bytes, profile_of, user_words}
use Rattle.rules.specs.Drive.{Drive}
use Rattle.rules.specs.Effects.{accepted, bytes_filled, due_bytes, effect, step, verdict, words_filled}
use Rattle.rules.specs.Observation.{Observation, ReadBytes, ReadValues, ReadWords, Replies, Reply, observed, read_bytes}
use Rattle.rules.specs.Observation.{read_descriptors, read_page, read_values, read_words}
use Rattle.rules.proofs.Kept.Views.{Alike}

-- Two lists of questions with the same first no.
pub ask_same : (n : ℕ) (b c : Bool) (qs rs : List Question) → b ≡ c → (b ≡ true → first_no qs ≡ first_no rs)
    → first_no (ask n b ∷ qs) ≡ first_no (ask n c ∷ rs)
unfolding first_no
ask_same n b c qs rs same rest =
    by_test b
    (λ e. rw (e, sym same ∙ e) (rest e))
    (λ e. rw (e, sym same ∙ e))

-- What a reply to an accepted call reads as.
abbrev pub told : ℕ → Drive → Call → Observation
told a v k =
    let p = profile_of k.asks in
    let x = effect v k in
    record {
      number = 0;
      values = read_values p.values a v x.drive x.values;
      words = read_words p.words a x.drive x.words;
      bytes = read_bytes p.bytes a x.drive (due_bytes v.table p.bytes);
    }

-- ---- A refusal reads as its number alone.

abbrev pub refused_values : Values → ReadValues
refused_values counts = ReadValues.numbers []
refused_values blocks_after = ReadValues.blocks []
refused_values blocks_before = ReadValues.blocks []

abbrev pub refused_words : WordsDue → ReadWords
refused_words no_words = ReadWords.plain []
refused_words (user_words count) = ReadWords.plain []
refused_words (address_words count) = ReadWords.addresses []

abbrev pub refused_bytes : BytesDue → ReadBytes
refused_bytes no_bytes = ReadBytes.plain []
refused_bytes (page_bytes n) = ReadBytes.plain []
refused_bytes (list_bytes d which) = ReadBytes.list []

abbrev pub refused_as : Profile → ℕ → Observation
refused_as p n = record {
  number = n;
  values = refused_values p.values;
  words = refused_words p.words;
  bytes = refused_bytes p.bytes;
}

no_values : (due : Values) (a : ℕ) (v u : Drive) → read_values due a v u [] ≡ refused_values due
no_values counts a v u = refl
no_values blocks_after a v u = refl
no_values blocks_before a v u = refl

no_words_lem : (due : WordsDue) (a : ℕ) (u : Drive) → read_words due a u [] ≡ refused_words due
no_words_lem no_words a u = refl
no_words_lem (user_words count) a u = refl
no_words_lem (address_words count) a u = refl

no_bytes_lem : (due : BytesDue) (a : ℕ) (u : Drive) → read_bytes due a u [] ≡ refused_bytes due
unfolding read_page read_descriptors
no_bytes_lem no_bytes a u = refl
no_bytes_lem (page_bytes n) a u = refl
no_bytes_lem (list_bytes d which) a u = refl

-- The same request in two drives: the same verdict, a refusal reads the same, and if it is accepted the same is told and left.
pub record Twin (a : ℕ) (v w : Drive) (k l : Call) : Type 0 where
  pub reading : refused_as (profile_of k.asks) ≡ refused_as (profile_of l.asks)
  pub verdicts : verdict v k ≡ verdict w l
  pub after : verdict v k ≡ 0 → verdict w l ≡ 0 → Alike a (effect v k).drive (effect w l).drive
  pub telling : verdict v k ≡ 0 → verdict w l ≡ 0 → told a v k ≡ told a w l

-- What the rules reply to a refused and to an accepted call.
module _ (a : ℕ) (v : Drive) (k : Call) (r : Reply) (replies : Replies v k r) where
  abbrev p : Profile
  p = profile_of k.asks

  refused_read : accepted v k ≡ false → observed a v k r ≡ refused_as p (verdict v k)
  unfolding observed words_filled bytes_filled answered
  refused_read e =
      let u = step k v in
      let answer : r.answer ≡ refusal (verdict v k) = replies.answers ∙ (rw e) in
      let words : r.words ≡ [] = replies.fills_words ∙ (rw e) in
      let bytes : r.bytes ≡ [] = replies.fills_bytes ∙ (rw e) in
      rw (answer, words, bytes, no_values p.values a v u, no_words_lem p.words a u, no_bytes_lem p.bytes a u)

  accepted_read : accepted v k ≡ true → observed a v k r ≡ told a v k
  unfolding observed words_filled bytes_filled answered step
  accepted_read e =
      let answer : r.answer ≡ success (effect v k).values = replies.answers ∙ (rw e) in
      let words : r.words ≡ (effect v k).words = replies.fills_words ∙ (rw e) in
      let bytes : r.bytes ≡ due_bytes v.table p.bytes = replies.fills_bytes ∙ (rw e) in
      rw (answer, words, bytes, e)

-- ---- What follows for two calls

module _ {a : ℕ} {v w : Drive} (k l : Call) (alike : Alike a v w) (twin : Twin a v w k l) where
  both_accepted : accepted v k ≡ accepted w l
  both_accepted = ap (λ (n : ℕ). eqb n 0) twin.verdicts

  pub twin_alike : Alike a (step k v) (step l w)
  unfolding step
  twin_alike =
      by_test (accepted v k)
      (λ e.
      let f = sym both_accepted ∙ e in
      rw (e, f) (twin.after (eqb-true (verdict v k) 0 e) (eqb-true (verdict w l) 0 f)))
      (λ e. rw (e, sym both_accepted ∙ e) alike)

  pub twin_observed : (r s : Reply) → Replies v k r → Replies w l s → observed a v k r ≡ observed a w l s
  twin_observed r s x y =
      by_test (accepted v k)
      (λ e.
      let f = sym both_accepted ∙ e in
      accepted_read a v k r x e
      ∙ twin.telling (eqb-true (verdict v k) 0 e) (eqb-true (verdict w l) 0 f)
      ∙ sym (accepted_read a w l s y f))
      (λ e.
      refused_read a v k r x e
      ∙ ap₂ (λ (f : ℕ → Observation) (n : ℕ). f n) twin.reading twin.verdicts
      ∙ sym (refused_read a w l s y (sym both_accepted ∙ e)))
