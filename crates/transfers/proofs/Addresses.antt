-- The rows of addresses that a write fills in: user addresses into the store, flash addresses into the words.
use Prim.Native.Nat.{ℕ, zero, suc, ◌+◌, ◌*◌, ◌^◌, ◌≤◌, ◌<◌}
use mathlib.Core.Bool.{false}
use mathlib.Core.List.{[], ◌∷◌}
use mathlib.Core.Path.{◌≡◌, refl, sym, ap, ◌∙◌}
use native.Mathlib.Nat.{add_assoc}
use native.Mathlib.Numerals.{add-one}
use native.Mathlib.Omega.{arith}
use lib.Dec.{eqb}
use lib.ListN.{get_or, replicate, replicate-append-replicate}
use borrow.Author.Tests.{eq-eqb}
use Rattle.geometry.proofs.Laws.Address.{below_48, fields}
use Rattle.geometry.proofs.Laws.Answers.{Addressed}
use Rattle.geometry.proofs.Laws.Questions.{answered_yes}
use Rattle.geometry.proofs.Laws.Shape.{is_between, limits}
use Rattle.geometry.specs.Address.{offset_bits, word_of}
use Rattle.geometry.specs.Answers.{address_questions, number_of, word_answer}
use Rattle.geometry.specs.Questions.{Outcome, first_no, refusal, success}
use Rattle.geometry.specs.Shape.{adus}
use Rattle.geometry.specs.declared.address.FlashAddress.{FlashAddress}
use Rattle.geometry.specs.declared.address.Refusal.{Refusal}
use Rattle.geometry.specs.declared.address.Refusal.TheVariants.{DomainId, Limits, Output, Range}
use Rattle.geometry.specs.declared.shape.Config.{Config}
use Rattle.buffers.proofs.UserAddresses.{ones_address, plain_address}
use Rattle.transfers.specs.Transfers.{MayWriteIn, address_in}
use Rattle.model.specs.declared.block.Block.{Block}
use Rattle.rules.specs.Blocks.{all_ones, user_address, user_addresses}
use Rattle.rules.specs.Counting.{row_to}

-- Rows of the same entries are the same.
row_each : (n : ℕ) (f g : ℕ → ℕ) → ((i : ℕ) → f i ≡ g i) → row_to f n ≡ row_to g n
unfolding row_to
row_each zero f g h = refl
row_each (suc n) f g h = rw (row_each n f g h, h n)

-- ---- User addresses

-- They rise by one, ..
pub users_rise : (start count : ℕ) → eqb start all_ones ≡ false
    → row_to (λ i. start + i) count ≡ user_addresses start count
users_rise start count e =
    row_each count (λ i. start + i) (user_address start) (λ i. sym (plain_address start i e))

-- .. or are all ones.
pub users_ones : (start count : ℕ) → start ≡ all_ones → replicate count all_ones ≡ user_addresses start count
unfolding row_to
users_ones start zero e = refl
users_ones start (suc count) e =
    sym (rw (← users_ones start count e, ones_address start count (eq-eqb start all_ones e), e) (replicate-append-replicate count 1 all_ones ∙ ap (λ (k : ℕ). replicate k all_ones) (add-one count)))

-- ---- Flash addresses

-- That of a later ADU is as much higher, ..
word_later : (c : Config) (d n offset i : ℕ) → word_of c (address_in d n (adus (offset + i))) ≡ word_of c (address_in d n (adus offset)) + i
unfolding word_of
word_later c d n offset i = sym (add_assoc (d * 2 ^ 48 + n * 2 ^ offset_bits c) offset i)

-- .. so that they rise by one from the first.
pub words_row : (c : Config) (d n offset count : ℕ)
    → row_to (λ i. word_of c (address_in d n (adus offset)) + i) count ≡ row_to (λ i. word_of c (address_in d n (adus (offset + i)))) count
words_row c d n offset count =
    row_each count (λ i. word_of c (address_in d n (adus offset)) + i) (λ i. word_of c (address_in d n (adus (offset + i))))
    (λ i. sym (word_later c d n offset i))

-- A word of the drive is far below 2 ^ 64.
word_low : (c : Config) (a : FlashAddress) → Addressed c a → word_of c a ≤ 5000000000000000
unfolding word_of
word_low c a h =
    omega (arith, below_48 c a (fields c a (limits c h.limits) h.block h.offset), h.domain.most)

-- What making it gives where no question is answered no.
pub word_given : (c : Config) (a : FlashAddress) (word : ℕ) → first_no (address_questions c a) ≡ 0
    → success (word ∷ []) ≡ word_answer c a → word ≡ word_of c a
unfolding word_answer
word_given c a word e h =
    ap (λ (o : Outcome). get_or o.values 0 0) (h ∙ answered_yes (address_questions c a) (word_of c a ∷ []) e)

-- No refusal has the number 0, ..
positive_number : (r : Refusal) → 0 < number_of r
positive_number Limits = omega arith
positive_number DomainId = omega arith
positive_number Range = omega arith
positive_number Output = omega arith

-- .. so that an address of the drive is not refused.
pub word_refused : (c : Config) (a : FlashAddress) (r : Refusal) → first_no (address_questions c a) ≡ 0
    → refusal (number_of r) ≡ word_answer c a → ⊥
unfolding word_answer
word_refused c a r e h =
    let none : number_of r ≡ 0 = ap (λ (o : Outcome). o.number) (h ∙ answered_yes (address_questions c a) (word_of c a ∷ []) e) in
    omega (arith, positive_number r, none)

-- The first ADU that is written has an address of the drive.
pub first_addressed : (c : Config) (d n : ℕ) (b : Block) (count : ℕ) → MayWriteIn c d n b count
    → Addressed c (address_in d n b.written)
first_addressed c d n b count may = record {
  limits = may.limits;
  domain = is_between 1 16 d may.id;
  block = may.inside;
  offset = omega (arith, may.fits, may.some_written);
}

-- And as many words from it on as are written stay below 2 ^ 64.
pub words_low : (c : Config) (d n : ℕ) (b : Block) (count : ℕ) → MayWriteIn c d n b count
    → word_of c (address_in d n b.written) + count ≤ 18446744073709551616
words_low c d n b count may =
    omega (
      arith,
      word_low c (address_in d n b.written) (first_addressed c d n b count may),
      may.fits,
      (limits c may.limits).adus.most,
    )
