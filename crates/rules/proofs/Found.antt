-- An accepted write's flash addresses hold its user addresses, an erased block holds all ones, and a Read gives what was expected.
use Prim.Native.Nat.{ℕ, zero, suc, ◌+◌, ◌≤◌, ◌<◌}
use mathlib.Core.Bool.{Bool, true, false, true≢false, ◌&&◌, ◌||◌}
use mathlib.Core.List.{List, [], ◌∷◌, nil≢cons}
use mathlib.Core.Option.{Option, none, some, some-injective}
use mathlib.Core.Path.{◌≡◌, refl, sym, ap, ◌∙◌, subst}
use native.Mathlib.Omega.{arith}
use lib.Dec.{eqb}
use lib.ListN.{drop, get_or, length, length-drop, length-take, take}
use borrow.Author.Tests.{eqb-true, leb-true, ltb-true, ne_eqb}
use Rattle.geometry.proofs.Laws.Address.{fields, fields_word}
use Rattle.geometry.proofs.Laws.Shape.{Limits, both, by_test, is_between, limits}
use Rattle.geometry.specs.Address.{fields_of, is_block}
use Rattle.geometry.specs.Questions.{answered}
use Rattle.geometry.specs.Shape.{adus, adus_per_block, store_length, stretch_start}
use Rattle.geometry.specs.declared.address.FlashAddress.{FlashAddress}
use Rattle.geometry.specs.declared.shape.Adus.{Adus}
use Rattle.geometry.specs.declared.shape.Config.{Config}
use Rattle.model.specs.declared.block.Block.{Block}
use Rattle.model.specs.declared.block.State.{State}
use Rattle.model.specs.declared.block.State.TheVariants.{Closed, Free, Open}
use Rattle.model.specs.declared.block.Way.TheVariants as way
use Rattle.model.specs.declared.command.Command.{Command}
use Rattle.model.specs.declared.command.Command.TheVariants.{Erase, Read, WriteByBlock, WriteByPlacement}
use Rattle.model.specs.declared.table.Table.{Table}
use Rattle.rules.specs.Blocks.{all_ones, any_block, chosen_block, erased_block, matches, opened_for, room_in, stored, user_address, user_addresses}
use Rattle.rules.specs.Calls.{Call, ◌asking◌}
use Rattle.rules.specs.Claims.{Found}
use Rattle.rules.specs.Counting.{all_to}
use Rattle.rules.specs.Drive.{Drive, block_adus, block_at, held_by, is_erased_state, is_free_state, is_open_for, is_placed_state, open_block, open_block_to, size}
use Rattle.rules.specs.Effects.{answer_to, effect, erasing, questions, step, verdict, words_filled}
use Rattle.rules.specs.Questions.{is_count, store_fits}
use Rattle.rules.proofs.Blocks.{Choice, choice}
use Rattle.rules.proofs.Counting.{all_each, length_row, the_first}
use Rattle.rules.proofs.Effects.{written_length}
use Rattle.rules.proofs.Kept.Facts.{StateFacts, written_most}
use Rattle.rules.proofs.Kept.Tested.{block_facts}
use Rattle.rules.proofs.Questions.{answered_yes}
use Rattle.rules.proofs.Soundness.{Clauses, apart}
use Rattle.rules.proofs.Writes.{Held, Ready, RoomFor, entry, inside, into_held, opened_entry, opened_ready, placement_held, written_ready}

-- ---- An accepted write

take_one : (l : List ℕ) (n : ℕ) → n < length l → take 1 (drop n l) ≡ get_or l n 0 ∷ []
take_one [] n k = absurd (omega (arith, k))
take_one (x ∷ l) zero k = refl
take_one (x ∷ l) (suc n) k = take_one l n (omega (arith, k))

-- An entry is what is stored at its address.
entry_stored : (c : Config) (v : Drive) (a : FlashAddress) → Ready c v → a.block < c.blocks → a.offset.0 < (block_adus c a.block).0
    → stored v a 1 ≡ entry c v a.block a.offset.0 ∷ []
entry_stored c v a r n o =
    let place : ℕ = (stretch_start c a.block).0 + a.offset.0 in
    rw r.shape (take_one v.store place (omega (arith, inside c a.block n, o, r.store)))

-- What is held is found.
found : (c : Config) (d : ℕ) (v : Drive) (word user : ℕ) → Limits c → Ready c v → Held c d v word user
    → stored v (fields_of v.table.config word) 1 ≡ user ∷ []
found c d v word user limits r h =
    let a : FlashAddress = record { domain = d; block = h.block; offset = adus h.offset } in
    let fields_are : fields_of v.table.config word ≡ a =
    rw (r.shape, h.address) (fields_word c a (fields c a limits h.inside_drive h.inside_block)) in
    rw fields_are (entry_stored c v a r h.inside_drive h.inside_block ∙ ap (λ (x : ℕ). x ∷ []) h.holds)

-- The placement's open block is a block of the drive, and open for it.
abbrev OpenBelow : Table → ℕ → ℕ → Option ℕ → Type 0
OpenBelow t p s none = Unit {0}
OpenBelow t p s (some n) = (n < s) × (is_open_for p (block_at t n) ≡ true)

one_more : (t : Table) (p s : ℕ) (found : Option ℕ) → OpenBelow t p s found → OpenBelow t p (suc s) found
one_more t p s none o = o
one_more t p s (some n) o = (omega (arith, o.0), o.1)

open_below : (t : Table) (d p s : ℕ) → OpenBelow t p s (open_block_to t d p s)
unfolding open_block_to
open_below t d p zero = tt
open_below t d p (suc s) =
    by_test (held_by d (block_at t s) && is_open_for p (block_at t s))
    (λ e. rw e (omega arith, (both (held_by d (block_at t s)) (is_open_for p (block_at t s)) e).1))
    (λ e. rw e (one_more t p s (open_block_to t d p s) (open_below t d p s)))

-- In a sound table it has room.
open_counts : (t : Table) (p : ℕ) (s : State) (b : Block) → is_placed_state p s ≡ true → StateFacts t s b
    → (is_free_state s ≡ false) × (b.written.0 < (adus_per_block t.config).0)
open_counts t p Free b e f = absurd (true≢false (sym e))
open_counts t p (Open way) b e f = (refl, f.written)
open_counts t p (Closed way) b e f = absurd (true≢false (sym e))

room_for : (t : Table) (p : ℕ) (users : List ℕ) (found : Option ℕ) → Clauses t → OpenBelow t p (size t) found
    → RoomFor t.config found t (length (take (room_in t found) users))
room_for t p users none s o = refl
room_for t p users (some n) s o =
    let b = block_at t n in
    let counts = open_counts t p b.state b o.1 (block_facts _ _ _ b (all_each (size t) _ s.blocks n o.0)) in
    (o.0, counts.0, rw length-take (omega (arith, counts.1)))

-- What an accepted command leaves is its effect.
found_after : (v : Drive) (call : Call) (k : Command) (users : List ℕ) → verdict v (call asking k) ≡ 0
    → Found (effect v (call asking k)).drive (effect v (call asking k)).words users
    → Found (step (call asking k) v) (words_filled v (call asking k)) users
unfolding step words_filled
found_after v call k users e h = rw e h

erased_taken : (s : State) → is_erased_state s ≡ true → is_free_state s ≡ false
erased_taken Free e = absurd (true≢false (sym e))
erased_taken (Open way) e = refl
erased_taken (Closed way) e = refl

-- What an accepted Erase answers is the block that it opens.
erasing_values : (d m : ℕ) (found : Option ℕ) (v : Drive) → (erasing d found v).values ≡ m ∷ [] → found ≡ some m
erasing_values d m none v e = absurd (nil≢cons e)
erasing_values d m (some n) v e = ap (λ (k : ℕ). some k) (ap (λ (ks : List ℕ). get_or ks 0 0) e)

-- Each flash address that an accepted write hands back holds its user address. The table has an entry for each block, and the
-- store that is lent is the drive's.
module _ (v : Drive) (call : Call) (whole : size v.table ≤ length v.table.blocks) (own : length v.store ≡ call.lent.store) where
  abbrev c : Config
  c = v.table.config

  ready_if : store_fits v.table call ≡ true → Ready c v
  ready_if e = record { shape = refl; blocks = whole; store = own ∙ eqb-true call.lent.store (store_length c).0 e }

  pub placement_found : (d p start : ℕ) (count : Adus) → verdict v (call asking WriteByPlacement d p start count) ≡ 0
      → let k = WriteByPlacement d p start count in
      Found (step (call asking k) v) (words_filled v (call asking k)) (user_addresses start count.0)
  unfolding questions effect
  placement_found d p start count e =
      let k = WriteByPlacement d p start count in
      let users = user_addresses start count.0 in
      let clauses = apart v.table (answered_yes v (call asking k) 2 e) in
      let r = ready_if (answered_yes v (call asking k) 3 e) in
      let w = placement_held c d p users v r (room_for v.table p users (open_block v.table d p) clauses (open_below v.table d p (size v.table))) in
      found_after v call k users e (λ i l. found c d _ _ _ (limits c clauses.limits) w.0 (w.1 i l))

  pub block_found : (d n start : ℕ) (count : Adus) → verdict v (call asking WriteByBlock d n start count) ≡ 0
      → let k = WriteByBlock d n start count in
      Found (step (call asking k) v) (words_filled v (call asking k)) (user_addresses start count.0)
  unfolding questions effect
  block_found d n start count e =
      let k = WriteByBlock d n start count in
      let users = user_addresses start count.0 in
      let b = block_at v.table n in
      let clauses = apart v.table (answered_yes v (call asking k) 2 e) in
      let r = ready_if (answered_yes v (call asking k) 3 e) in
      let l : n < c.blocks = ltb-true n c.blocks (both (is_block c n) (is_count count) (answered_yes v (call asking k) 6 e)).0 in
      let taken = erased_taken b.state (answered_yes v (call asking k) 10 e) in
      let room = leb-true (b.written.0 + count.0) (block_adus c n).0 (answered_yes v (call asking k) 15 e) in
      let fits : b.written.0 + length users ≤ (block_adus c n).0 = omega (arith, room, length_row (user_address start) count.0) in
      let held = into_held c d n users v r l fits taken in
      found_after v call k users e
      (λ i j.
      found c d _ _ _ (limits c clauses.limits) (written_ready c d n users v r l fits)
      (held i (rw (written_length d n users v) at j)))

  -- A block that an accepted Erase answers holds all ones.
  erased_inside : (d n m : ℕ) → verdict v (call asking Erase d n) ≡ 0 → erased_block v.table n ≡ some m → m < c.blocks
  unfolding questions
  erased_inside d n m e chosen =
      by_test (eqb n any_block)
      (λ any.
      let choose : chosen_block v.table ≡ some m = rw any at chosen in
      (subst (Choice v.table (size v.table)) choose (choice v.table (size v.table))).inside)
      (λ named.
      let same : n ≡ m = some-injective n m (rw named at chosen) in
      let inside : is_block c n || eqb n any_block ≡ true = answered_yes v (call asking Erase d n) 6 e in
      rw (← same) (ltb-true n c.blocks (the_first (is_block c n) (eqb n any_block) inside named)))

  erased_drive : (d n m : ℕ) → verdict v (call asking Erase d n) ≡ 0 → erased_block v.table n ≡ some m
      → step (call asking Erase d n) v ≡ opened_for d way.Erase m v
  unfolding step effect
  erased_drive d n m e chosen = rw (e, chosen)

  erased_block_lem : (d n m : ℕ) → verdict v (call asking Erase d n) ≡ 0 → (answer_to v (call asking Erase d n)).values ≡ m ∷ []
      → erased_block v.table n ≡ some m
  unfolding answered effect
  erased_block_lem d n m e values = erasing_values d m (erased_block v.table n) v (rw e at values)

  pub erase_found : (d n m : ℕ) → verdict v (call asking Erase d n) ≡ 0 → (answer_to v (call asking Erase d n)).values ≡ m ∷ []
      → (a : FlashAddress) → a.block ≡ m → a.offset.0 < (block_adus c m).0
      → stored (step (call asking Erase d n) v) a 1 ≡ all_ones ∷ []
  unfolding questions
  erase_found d n m e values a same o =
      let chosen = erased_block_lem d n m e values in
      let l = erased_inside d n m e chosen in
      let r = ready_if (answered_yes v (call asking Erase d n) 3 e) in
      let opened = opened_ready c d way.Erase m v r l in
      subst (λ (w : Drive). stored w a 1 ≡ all_ones ∷ []) (sym (erased_drive d n m e chosen))
      (entry_stored c (opened_for d way.Erase m v) a opened (rw same l) o
      ∙ ap (λ (x : ℕ). x ∷ []) (rw same (opened_entry c d way.Erase m v r l a.offset.0 o)))

-- ---- An accepted Read

the_second : (a b : Bool) → a || b ≡ true → a ≡ false → b ≡ true
the_second true b e f = absurd (true≢false f)
the_second false b e f = e

pub read_expected : (v : Drive) (call : Call) (d address : ℕ) (count : Adus) (expected : ℕ)
    → verdict v (call asking Read d address count expected) ≡ 0
    → ¬ (expected ≡ all_ones)
    → (i : ℕ) → i < length (words_filled v (call asking Read d address count expected))
    → get_or (words_filled v (call asking Read d address count expected)) i 0 ≡ user_address expected i
unfolding questions effect words_filled matches
read_expected v call d address count expected e told =
    let entries = stored v (fields_of v.table.config address) count.0 in
    let same =
    the_second (eqb expected all_ones) (all_to (λ i. eqb (get_or entries i 0) (user_address expected i)) (length entries))
    (answered_yes v (call asking Read d address count expected) 16 e)
    (ne_eqb expected all_ones told) in
    rw e (λ i l. eqb-true (get_or entries i 0) (user_address expected i) (all_each (length entries) _ same i l))

-- ---- As many words as ADUs

pub block_words : (v : Drive) (call : Call) (d n start : ℕ) (count : Adus) → verdict v (call asking WriteByBlock d n start count) ≡ 0
    → length (words_filled v (call asking WriteByBlock d n start count)) ≡ count.0
unfolding words_filled effect
block_words v call d n start count e =
    let users = user_addresses start count.0 in
    rw e (written_length d n users v ∙ length_row (user_address start) count.0)

pub read_words_lem : (v : Drive) (call : Call) (d address : ℕ) (count : Adus) (expected : ℕ)
    → length v.store ≡ call.lent.store
    → verdict v (call asking Read d address count expected) ≡ 0
    → length (words_filled v (call asking Read d address count expected)) ≡ count.0
unfolding questions effect words_filled
read_words_lem v call d address count expected own e =
    let k = Read d address count expected in
    let t = v.table in
    let c = t.config in
    let a = fields_of c address in
    let b = block_at t a.block in
    let clauses = apart t (answered_yes v (call asking k) 2 e) in
    let whole = eqb-true call.lent.store (store_length c).0 (answered_yes v (call asking k) 3 e) in
    let ranges = both _ _ (answered_yes v (call asking k) 6 e) in
    let places = both _ _ ranges.0 in
    let n : a.block < c.blocks = ltb-true a.block c.blocks places.0 in
    let counted = is_between 1 256 count.0 ranges.1 in
    let ends = leb-true (a.offset.0 + count.0) b.written.0 (answered_yes v (call asking k) 15 e) in
    let most =
    written_most t b.state b (block_facts _ _ _ b (all_each (size t) _ clauses.blocks a.block n)) in
    rw (e, length-take, length-drop) (omega (arith, ends, most, inside c a.block n, own, whole))
