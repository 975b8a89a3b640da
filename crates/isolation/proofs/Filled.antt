-- An accepted call fills as many words and bytes as are due, a refused one none.
use Prim.Native.Nat.{ℕ}
use mathlib.Core.Bool.{false, cond}
use mathlib.Core.List.{[]}
use mathlib.Core.Option.{Option, none, some}
use mathlib.Core.Path.{◌≡◌, refl, sym, ap, ◌∙◌}
use lib.ListN.{length}
use borrow.Author.Tests.{eqb-true}
use Rattle.geometry.proofs.Laws.Shape.{by_test}
use Rattle.geometry.specs.Shape.{store_length}
use Rattle.model.specs.declared.command.Command.{Command}
use Rattle.model.specs.declared.command.Command.TheVariants.{ChangeCapacity, Close, Create, Delete, Erase, Free, List as Listing, Page, Pulse, Read}
use Rattle.model.specs.declared.command.Command.TheVariants.{WriteByBlock, WriteByPlacement}
use Rattle.rules.proofs.Claims.{append_words, latest_gives, write_finds_free}
use Rattle.rules.proofs.Effects.{bytes_counted}
use Rattle.rules.proofs.Kept.Calls.{Course}
use Rattle.rules.proofs.Laws.{block_words, read_words_lem}
use Rattle.rules.proofs.Questions.{answered_yes}
use Rattle.rules.specs.Blocks.{erased_block}
use Rattle.rules.specs.Calls.{Asked, Call, ◌asking◌, ◌for◌, append, command, latest, profile, profile_of, word_count}
use Rattle.rules.specs.Drive.{Drive}
use Rattle.rules.specs.Effects.{accepted, byte_count, bytes_filled, effect, erasing, questions, verdict, words_filled}

-- Erase fills no words, whatever block it opens, ..
erase_fills_none : (d : ℕ) (block : Option ℕ) (v : Drive) → (erasing d block v).words ≡ []
erase_fills_none d none v = refl
erase_fills_none d (some n) v = refl

-- .. and no refused call does.
refused_fills_none : (v : Drive) (k : Call) → accepted v k ≡ false → words_filled v k ≡ []
unfolding words_filled
refused_fills_none v k e = rw e

module _ (v : Drive) (course : Course v) (k : Call) where
  -- The words of an accepted call, ..
  words_counted : (c : Command) → verdict v (k asking c) ≡ 0 → length (words_filled v (k asking c)) ≡ word_count (profile c).words
  unfolding questions effect words_filled
  words_counted (Create d guarantee quota placements limit) e = rw e
  words_counted (ChangeCapacity d guarantee quota) e = rw e
  words_counted (Delete d) e = rw e
  words_counted (Erase d n) e = rw e (ap length (erase_fills_none d (erased_block v.table n) v))
  words_counted (Close d n) e = rw e
  words_counted (Free d n) e = rw e
  words_counted (WriteByPlacement d p start count) e =
      (write_finds_free v k d p start count course.shaped (λ x. course.store) e).0
  words_counted (WriteByBlock d n start count) e = block_words v k d n start count e
  words_counted (Read d address count expected) e =
      let c = Read d address count expected in
      let fits = eqb-true k.lent.store (store_length v.table.config).0 (answered_yes v (k asking c) 3 e) in
      read_words_lem v k d address count expected (course.store ∙ sym fits) e
  words_counted (Page d n) e = rw e
  words_counted (Listing d which) e = rw e
  words_counted (Pulse seconds) e = rw e

  words_counted_for : (x : Asked) → verdict v (k for x) ≡ 0 → length (words_filled v (k for x)) ≡ word_count (profile_of x).words
  unfolding words_filled
  words_counted_for (command c) e = words_counted c e
  words_counted_for (append d sample) e = append_words v k course.shaped (λ x. course.store) d sample e
  words_counted_for (latest d count) e = (latest_gives v k d count e).2

  -- .. of any call, ..
  pub words_due : length (words_filled v k) ≡ cond (accepted v k) (word_count (profile_of k.asks).words) 0
  words_due =
      by_test (accepted v k)
      (λ e. words_counted_for k.asks (eqb-true (verdict v k) 0 e) ∙ rw e)
      (λ e. ap length (refused_fills_none v k e) ∙ rw e)

  -- .. and the bytes.
  pub bytes_due : length (bytes_filled v k) ≡ cond (accepted v k) (byte_count v.table (profile_of k.asks).bytes) 0
  unfolding bytes_filled
  bytes_due =
      by_test (accepted v k)
      (λ e. rw e (bytes_counted v k k.asks (eqb-true (verdict v k) 0 e)))
      (λ e. rw e)
