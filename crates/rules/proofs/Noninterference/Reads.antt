-- The same Read, Page or List in two drives that the domain cannot tell apart.
use Prim.Native.Nat.{ℕ, ◌+◌, ◌*◌, ◌<◌}
use mathlib.Core.Bool.{Bool, true, ◌&&◌}
use mathlib.Core.List.{List, []}
use mathlib.Core.Path.{◌≡◌, refl, sym, ap, ap₂, ◌∙◌}
use native.Mathlib.Omega.{arith}
use lib.Dec.{eqb, leb}
use lib.ListN.{drop, take}
use borrow.Author.Tests.{leb-true, ltb-true}
use Rattle.geometry.proofs.Laws.Shape.{both}
use Rattle.geometry.specs.Address.{fields_of, is_block, is_offset}
use Rattle.geometry.specs.declared.address.FlashAddress.{FlashAddress}
use Rattle.geometry.specs.declared.shape.Adus.{Adus}
use Rattle.geometry.specs.declared.shape.Config.{Config}
use Rattle.model.specs.declared.command.Command.TheVariants.{List as Listing, Page, Read}
use Rattle.model.specs.declared.command.Listed.{Listed}
use Rattle.model.specs.declared.command.Listed.TheVariants as listed
use Rattle.rules.specs.Blocks.{matches, stored}
use Rattle.rules.specs.Calls.{Call, ◌asking◌}
use Rattle.rules.specs.Drive.{Drive, block_at, entries_of, held_by, size}
use Rattle.rules.specs.Effects.{effect, questions, verdict}
use Rattle.rules.specs.LogPages.{listed_count, page}
use Rattle.rules.specs.Observation.{Descriptor, Holding, Observation, ReadBytes, ReadValues, ReadWords, holding_at, name_of}
use Rattle.rules.specs.Observation.{read_page}
use Rattle.rules.specs.Questions.{is_count, is_held}
use Rattle.rules.proofs.Kept.Calls.{Course}
use Rattle.rules.proofs.Kept.Entries.{stored_entries}
use Rattle.rules.proofs.Kept.Facts.{written_most}
use Rattle.rules.proofs.Kept.OneBlock.{few_blocks, open_alike}
use Rattle.rules.proofs.Kept.Views.{Alike, closed_view, if_closed}
use Rattle.rules.proofs.Noninterference.Common.{Pair, first_same, holding_same, inside_other, inside_same, own_other, own_same}
use Rattle.rules.proofs.Noninterference.Pairing.{same_holdings}
use Rattle.rules.proofs.Noninterference.Readings.{list_read_lem, page_read_lem}
use Rattle.rules.proofs.Noninterference.Twins.{Twin, ask_same, told}
use Rattle.rules.proofs.Questions.{answered_yes}
use Rattle.rules.proofs.Writes.{Ready}

-- ---- A drive in the course of a list of calls

module _ (v : Drive) (c : Course v) where
  pub course_ready : Ready v.table.config v
  course_ready = record { shape = refl; blocks = omega (arith, c.shaped.blocks, few_blocks c.facts); store = c.store }

  -- What is written of a block and read stands in its entries.
  read_entries : (f : FlashAddress) (count : Adus) → is_block v.table.config f.block ≡ true
      → leb (f.offset.0 + count.0) (block_at v.table f.block).written.0 ≡ true
      → stored v f count.0 ≡ take count.0 (drop f.offset.0 (entries_of v f.block))
  read_entries f count inside e =
      let b = block_at v.table f.block in
      let here : f.block < size v.table = ltb-true f.block (size v.table) inside in
      stored_entries v.table.config v f count.0 course_ready here
      (omega (
        arith,
        leb-true (f.offset.0 + count.0) b.written.0 e,
        written_most v.table b.state b (c.facts.blocks f.block here),
      ))

-- What a Page and a List, and a Read, are told as.
abbrev bytes_told : ReadBytes → Observation
bytes_told bytes = record { number = 0; values = ReadValues.numbers []; words = ReadWords.plain []; bytes = bytes }

abbrev pub words_told : List ℕ → Observation
words_told words = record { number = 0; values = ReadValues.numbers []; words = ReadWords.plain words; bytes = ReadBytes.plain [] }

module _ {a : ℕ} {v w : Drive} (p : Pair a v w) (call : Call) where
  -- ---- Page

  module _ (n m : ℕ) (same : name_of a v n ≡ name_of a w m) where
    page_verdicts : verdict v (call asking Page a n) ≡ verdict w (call asking Page a m)
    page_verdicts =
        first_same p call (Page a n) (Page a m) refl refl refl (λ e5.
        ask_same _ _ _ _ _ (inside_same p n m same) (λ e6.
        ask_same _ _ _ _ _ refl (λ e7.
        ask_same _ _ _ _ _ (own_same p n m same e6) (λ e9. refl))))

    page_alike : Alike a (effect v (call asking Page a n)).drive (effect w (call asking Page a m)).drive
    unfolding effect
    page_alike = p.alike

    pages_same : is_block v.table.config n ≡ true → held_by a (block_at v.table n) ≡ true
        → read_page a v (page v.table.config n (block_at v.table n))
        ≡ read_page a w (page w.table.config m (block_at w.table m))
    pages_same inside own =
        page_read_lem a v w n m p.alike (few_blocks p.left.facts)
        (ltb-true n (size v.table) inside, own)
        (ltb-true m (size w.table) (inside_other p n m same inside), own_other p n m same inside own)
        (holding_same p n m same inside own)

    page_told : verdict v (call asking Page a n) ≡ 0 → told a v (call asking Page a n) ≡ told a w (call asking Page a m)
    unfolding effect questions
    page_told e =
        ap (λ (x : ReadBytes). bytes_told x)
        (pages_same (answered_yes v (call asking Page a n) 6 e) (answered_yes v (call asking Page a n) 9 e))

  pub page_twin : (n m : ℕ) → name_of a v n ≡ name_of a w m → Twin a v w (call asking Page a n) (call asking Page a m)
  page_twin n m same = record {
    reading = refl;
    verdicts = page_verdicts n m same;
    after = λ e f. page_alike n m same;
    telling = λ e f. page_told n m same e;
  }

  -- ---- List

  listed_same : (which : Listed) → listed_count v.table a which ≡ listed_count w.table a which
  listed_same listed.Open = open_alike p.alike
  listed_same listed.Closed = closed_view v a ∙ p.alike.views if_closed ∙ sym (closed_view w a)

  list_verdicts : (which : Listed) → verdict v (call asking Listing a which) ≡ verdict w (call asking Listing a which)
  list_verdicts which =
      first_same p call (Listing a which) (Listing a which) refl refl refl (λ e5.
      ask_same _ _ _ _ _ (ap (λ (k : ℕ). leb (8 * (k + 1)) call.lent.bytes) (listed_same which)) (λ e7. refl))

  list_alike : (which : Listed) → Alike a (effect v (call asking Listing a which)).drive (effect w (call asking Listing a which)).drive
  unfolding effect
  list_alike which = p.alike

  list_told_lem : (which : Listed) → told a v (call asking Listing a which) ≡ told a w (call asking Listing a which)
  unfolding effect
  list_told_lem which =
      ap (λ (ds : List Descriptor). bytes_told (ReadBytes.list ds))
      (list_read_lem a v w (same_holdings p.low p.right.facts p.alike) which p.alike (few_blocks p.left.facts))

  pub list_twin : (which : Listed) → Twin a v w (call asking Listing a which) (call asking Listing a which)
  list_twin which = record {
    reading = refl;
    verdicts = list_verdicts which;
    after = λ e f. list_alike which;
    telling = λ e f. list_told_lem which;
  }

  -- ---- Read

  module _ (x y : ℕ) (count : Adus) (expected : ℕ)
      (same : name_of a v (fields_of v.table.config x).block ≡ name_of a w (fields_of w.table.config y).block)
      (domain : (fields_of v.table.config x).domain ≡ (fields_of w.table.config y).domain)
      (offset : (fields_of v.table.config x).offset ≡ (fields_of w.table.config y).offset) where
    abbrev f : FlashAddress
    f = fields_of v.table.config x

    abbrev g : FlashAddress
    g = fields_of w.table.config y

    -- Question 6.
    range_same : is_block v.table.config f.block && is_offset v.table.config f.offset && is_count count
        ≡ is_block w.table.config g.block && is_offset w.table.config g.offset && is_count count
    range_same =
        ap₂ (λ (b o : Bool). b && o && is_count count)
        (inside_same p f.block g.block same)
        (ap₂ (λ (c : Config) (o : Adus). is_offset c o) p.alike.config offset)

    range_inside : is_block v.table.config f.block && is_offset v.table.config f.offset && is_count count ≡ true
        → is_block v.table.config f.block ≡ true
    range_inside e =
        let both-fields = is_block v.table.config f.block && is_offset v.table.config f.offset in
        (both (is_block v.table.config f.block) (is_offset v.table.config f.offset)
        (both both-fields (is_count count) e).0).0

    module _ (inside : is_block v.table.config f.block ≡ true) where
      -- Question 9.
      held_same : is_held v.table a f.block && eqb f.domain a ≡ is_held w.table a g.block && eqb g.domain a
      held_same = ap₂ (λ (b : Bool) (d : ℕ). b && eqb d a) (own_same p f.block g.block same inside) domain

      module _ (own : is_held v.table a f.block ≡ true) where
        one_holding : holding_at v f.block ≡ holding_at w g.block
        one_holding = holding_same p f.block g.block same inside own

        -- Question 15.
        written_same : leb (f.offset.0 + count.0) (block_at v.table f.block).written.0
            ≡ leb (g.offset.0 + count.0) (block_at w.table g.block).written.0
        written_same = ap₂ (λ (o : Adus) (h : Holding). leb (o.0 + count.0) h.written) offset one_holding

        -- What is read.
        stored_same : leb (f.offset.0 + count.0) (block_at v.table f.block).written.0 ≡ true
            → stored v f count.0 ≡ stored w g count.0
        stored_same e =
            read_entries v p.left f count inside e
            ∙ ap₂ (λ (o : Adus) (h : Holding). take count.0 (drop o.0 h.entries)) offset one_holding
            ∙ sym (read_entries w p.right g count (inside_other p f.block g.block same inside) (sym written_same ∙ e))

    read_verdicts : verdict v (call asking Read a x count expected) ≡ verdict w (call asking Read a y count expected)
    read_verdicts =
        first_same p call (Read a x count expected) (Read a y count expected) refl refl refl (λ e5.
        ask_same _ _ _ _ _ range_same (λ e6.
        let inside = range_inside e6 in
        ask_same _ _ _ _ _ refl (λ e7.
        ask_same _ _ _ _ _ refl (λ e8.
        ask_same _ _ _ _ _ (held_same inside) (λ e9.
        let own = (both (is_held v.table a f.block) (eqb f.domain a) e9).0 in
        ask_same _ _ _ _ _ (written_same inside own) (λ e15.
        ask_same _ _ _ _ _ (ap (λ (l : List ℕ). matches expected l) (stored_same inside own e15)) (λ e16. refl)))))))

    read_alike : Alike a (effect v (call asking Read a x count expected)).drive (effect w (call asking Read a y count expected)).drive
    unfolding effect
    read_alike = p.alike

    words_same : verdict v (call asking Read a x count expected) ≡ 0 → stored v f count.0 ≡ stored w g count.0
    unfolding questions
    words_same e =
        let c = Read a x count expected in
        stored_same (range_inside (answered_yes v (call asking c) 6 e))
        (both (is_held v.table a f.block) (eqb f.domain a) (answered_yes v (call asking c) 9 e)).0
        (answered_yes v (call asking c) 15 e)

    read_told : verdict v (call asking Read a x count expected) ≡ 0
        → told a v (call asking Read a x count expected) ≡ told a w (call asking Read a y count expected)
    unfolding effect
    read_told e = ap (λ (l : List ℕ). words_told l) (words_same e)

  pub read_twin : (x y : ℕ) (count : Adus) (expected : ℕ)
      → name_of a v (fields_of v.table.config x).block ≡ name_of a w (fields_of w.table.config y).block
      → (fields_of v.table.config x).domain ≡ (fields_of w.table.config y).domain
      → (fields_of v.table.config x).offset ≡ (fields_of w.table.config y).offset
      → Twin a v w (call asking Read a x count expected) (call asking Read a y count expected)
  read_twin x y count expected same domain offset = record {
    reading = refl;
    verdicts = read_verdicts x y count expected same domain offset;
    after = λ e f. read_alike x y count expected same domain offset;
    telling = λ e f. read_told x y count expected same domain offset e;
  }
