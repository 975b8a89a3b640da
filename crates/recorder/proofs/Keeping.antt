-- What `latest_in` needs: the rows that are gathered tell what the domain keeps, and the answers to 6, 7 and 15 are those of the rules.
use Prim.Native.Nat.{ℕ, zero, suc, ◌+◌, ◌*◌, ◌%◌, ◌≤◌, ◌<◌, min}
use mathlib.Core.Bool.{Bool, true, false, ◌&&◌}
use mathlib.Core.List.{List, [], ◌∷◌, ◌++◌, append-nil}
use mathlib.Core.Option.{Option, none, some}
use mathlib.Core.Path.{◌≡◌, refl, sym, ap, ap₂, ◌∙◌, subst}
use native.Mathlib.Nat.{mul-le-mul_right}
use native.Mathlib.Omega.{arith}
use lib.Dec.{leb, ltb}
use lib.ListN.{get_or-append, get_or-map, drop, get_or, length, length-append, length-take, take}
use lib.Seq.{get_or-take, take-append_seam}
use borrow.Author.Tests.{le-leb, lt-leb, ltb-false, ltb-true}
use Rattle.geometry.proofs.Laws.Shape.{by_test, is_between, limits}
use Rattle.geometry.specs.Questions.{answered, first_no}
use Rattle.geometry.specs.Shape.{adus_per_block, counted, store_length, stretch_start}
use Rattle.geometry.specs.declared.shape.Adus.{Adus}
use Rattle.geometry.specs.declared.shape.Config.{Config}
use Rattle.model.specs.declared.answer.Answer.{Answer}
use Rattle.model.specs.declared.answer.Answer.TheVariants.{Done, Refused}
use Rattle.model.specs.declared.answer.Refusal.TheVariants as refusal
use Rattle.model.specs.declared.block.Block.{Block}
use Rattle.model.specs.declared.table.Table.{Table}
use Rattle.recorder.specs.Newest.{FewWritten, Fillable, FillsFrom, Gathers, Within, gathered_parts, held_keys, key_of, part_of, parts_of, record_at, written_of, written_to}
use Rattle.recorder.specs.Steps.{FillsLatest, Given, Gives, Readable, asked, no_room, out_of_range}
use Rattle.recorder.specs.declared.newest.Gathered.{Gathered}
use Rattle.recorder.proofs.Filling.{parts_append}
use Rattle.recorder.proofs.Gathering.{few_keys}
use Rattle.rules.specs.Claims.{Shaped}
use Rattle.rules.specs.Drive.{Drive, block_at, block_with, by_serial_to, clear_block, domain_at, entries_of, held_by, overwritten, size, told_of}
use Rattle.rules.specs.Questions.{is_count}
use Rattle.rules.specs.Recorder.{has_recorder_shape, kept, last_of, written_in}
use Rattle.rules.proofs.Drive.{overwritten_nothing}
use Rattle.rules.proofs.Kept.Facts.{Facts, written_most}
use Rattle.rules.proofs.Kept.OneBlock.{few_blocks}
use Rattle.rules.proofs.Kept.Tested.{facts_of}
use Rattle.rules.proofs.Kept.Views.{view}
use Rattle.rules.proofs.Noninterference.Samples.{kept_length}
use Rattle.rules.proofs.Serials.{WithSerial, serial_found}
use Rattle.rules.proofs.Writes.{Ready}
use Rattle.sorting.specs.Order.{in_order}
use Rattle.tables.proofs.Ranking.{ranked}
use Rattle.tables.specs.Keys.{key_if}
use Rattle.tables.specs.Serving.{drive}

-- The number of a key's block.
key_number : (serial n : ℕ) → n < 256 → key_of serial n % 256 ≡ n
key_number serial n l = omega (arith, l)

-- How many of its ADUs are written.
written_at : (bs : List Block) (n : ℕ) → get_or (written_of bs) n 0 ≡ (record_at bs n).written.0
written_at bs n = get_or-map (λ (b : Block). b.written.0) bs n clear_block

-- The first of the second of two lists.
get_d_seam : (xs : List ℕ) (y : ℕ) (ys : List ℕ) → get_or (xs ++ (y ∷ ys)) (length xs) 0 ≡ y
get_d_seam [] y ys = refl
get_d_seam (x ∷ xs) y ys = get_d_seam xs y ys

module _ (t : Table) (d : ℕ) (store : List ℕ) (x : Readable t d store) (shape : Shaped t) where
  abbrev v : Drive
  v = drive t store

  abbrev c : ℕ
  c = (adus_per_block t.config).0

  pub facts : Facts v
  facts = facts_of v x.is_sound

  low : 1 ≤ d
  low = (is_between 1 16 d x.id).least

  pub few : size t ≤ 256
  few = few_blocks facts

  ready : Ready t.config v
  ready = record { shape = refl; blocks = omega (arith, few, shape.blocks); store = x.whole }

  -- No block has more written than it takes, ..
  pub block_few : (n : ℕ) → n < size t → (block_at t n).written.0 ≤ c
  block_few n l = written_most t (block_at t n).state (block_at t n) (facts.blocks n l)

  -- .. and its entries lie within the store.
  block_within : (n : ℕ) → n < size t → n * c + (block_at t n).written.0 ≤ length store
  unfolding store_length
  block_within n l =
      let next : (n + 1) * c ≤ size t * c = mul-le-mul_right c (omega (arith, l)) in
      omega (arith, block_few n l, x.whole, next)

  -- As many are kept as the blocks have written.
  pub kept_many : length (kept v d) ≡ written_to t.blocks d (size t)
  unfolding view
  kept_many = kept_length v d low facts ready

  module _ (keys₀ : List ℕ) (found : Gathered) (keys : List ℕ) (g : Gathers t.blocks d (size t) keys₀ found keys) where
    abbrev written : List ℕ
    written = written_of t.blocks

    abbrev last : ℕ
    last = (domain_at t d).last

    -- The keys in order are those of its blocks by rising serial.
    abbrev key : ℕ → List ℕ
    key n = key_if (λ i. held_by d (block_at t i)) (λ i. key_of (block_at t i).serial i) n

    abbrev ranks : ℕ → List ℕ
    ranks s = by_serial_to key t d s

    pub sorted_keys : in_order (take found.keys keys) ≡ ranks last
    unfolding overwritten
    sorted_keys =
        ap₂ (λ (k : ℕ) (l : List ℕ). in_order (take k l)) g.as_many g.keys_are
        ∙ ap (λ (l : List ℕ). in_order l) (take-append_seam (held_keys t.blocks d (size t)) _)
        ∙ ranked v d low facts (λ n. held_by d (block_at t n)) (λ n. key_of (block_at t n).serial n) (λ serial. serial * 256)
        (λ n l e. e) (λ n l e. (omega arith, omega (arith, l, few))) (λ serial. omega arith)

    take-take : (a b : ℕ) (l : List ℕ) → a ≤ b → take a (take b l) ≡ take a l
    take-take zero b l e = refl
    take-take (suc a) zero l e = absurd (omega (arith, e))
    take-take (suc a) (suc b) [] e = refl
    take-take (suc a) (suc b) (y ∷ l) e = ap (λ (r : List ℕ). y ∷ r) (take-take a b l (omega (arith, e)))

    -- What the block of a key has written.
    one_part : (serial : ℕ) (y : Option ℕ) → WithSerial t d serial (size t) y
        → parts_of c store written (told_of key y) ≡ told_of (written_in v) y
    unfolding parts_of entries_of stretch_start
    one_part serial none o = refl
    one_part serial (some n) o =
        let w = (block_at t n).written.0 in
        let is = key_number (block_at t n).serial n (omega (arith, o.0, few)) in
        rw o.1
        (append-nil (part_of c store written (key_of (block_at t n).serial n))
        ∙ ap (λ (k : ℕ). take (get_or written k 0) (drop (k * c) store)) is
        ∙ ap (λ (k : ℕ). take k (drop (n * c) store)) (written_at t.blocks n)
        ∙ sym (take-take w c (drop (n * c) store) (block_few n o.0)))

    parts_to : (s : ℕ) → parts_of c store written (ranks s) ≡ by_serial_to (written_in v) t d s
    unfolding parts_of by_serial_to
    parts_to zero = refl
    parts_to (suc s) =
        parts_append c store written (ranks s) (told_of key (block_with t d (suc s)))
        ∙ ap₂ (λ (a b : List ℕ). a ++ b) (parts_to s)
        (one_part (suc s) (block_with t d (suc s)) (serial_found t d (suc s)))

    pub parts_kept : parts_of c store written (ranks last) ≡ kept v d
    parts_kept = parts_to last

    pub adus_kept : found.adus ≡ length (kept v d)
    adus_kept = g.adus ∙ sym kept_many

    -- They lie within the store.
    keys_within : (s i : ℕ) → i < length (ranks s)
        → let n = get_or (ranks s) i 0 % 256 in (n < size t) × (held_by d (block_at t n) ≡ true)
    unfolding by_serial_to
    keys_within zero i l = absurd (omega (arith, l))
    keys_within (suc s) i l =
        by_test (ltb i (length (ranks s)))
        (λ e.
        let below = ltb-true i (length (ranks s)) e in
        subst (λ (k : ℕ). (k % 256 < size t) × (held_by d (block_at t (k % 256)) ≡ true))
        (sym (get_or-append (ranks s) (told_of key (block_with t d (suc s))) 0 i below)) (keys_within s i below))
        (λ e. newest (block_with t d (suc s)) (serial_found t d (suc s)) (ltb-false i (length (ranks s)) e) l)
      where
        newest : (y : Option ℕ) → WithSerial t d (suc s) (size t) y → length (ranks s) ≤ i
            → i < length (ranks s ++ told_of key y)
            → let n = get_or (ranks s ++ told_of key y) i 0 % 256 in (n < size t) × (held_by d (block_at t n) ≡ true)
        newest none o behind = λ inside. absurd (omega (arith, behind, inside, length-append (ranks s) []))
        newest (some m) o behind =
            let k = key_of (block_at t m).serial m in
            rw o.1 (λ inside.
            let at : i ≡ length (ranks s) = omega (arith, behind, inside, length-append (ranks s) (k ∷ [])) in
            let is : get_or (ranks s ++ (k ∷ [])) i 0 % 256 ≡ m =
            ap (λ (j : ℕ). get_or (ranks s ++ (k ∷ [])) j 0 % 256) at
            ∙ ap (λ (j : ℕ). j % 256) (get_d_seam (ranks s) k [])
            ∙ key_number (block_at t m).serial m (omega (arith, o.0, few)) in
            (omega (arith, is, o.0), subst (λ (j : ℕ). held_by d (block_at t j) ≡ true) (sym is) o.1))

    pub all_within : Within c store written (ranks last)
    all_within i l =
        let n = get_or (ranks last) i 0 % 256 in
        let h = keys_within last i l in
        omega (arith, block_within n h.0, written_at t.blocks n)

-- ---- The answers

module _ (t : Table) (d : ℕ) (count : Adus) (store words : List ℕ) where
  abbrev shaped : Bool
  shaped = has_recorder_shape (domain_at t d) && is_count count

  abbrev samples : List ℕ
  samples = kept (drive t store) d

  -- 6, 7 and 15 as the rules ask them.
  pub are_given : (r : Answer) (words' : List ℕ) → Gives (domain_at t d) samples count words r words' → Given t d count store words r words'
  unfolding answered first_no
  are_given r words' (out_of_range e is same) = record { answers = rw (is, e); fills = rw e (same ∙ sym (overwritten_nothing words)) }
  are_given r words' (no_room e l is same) =
      let short : leb count.0 (length words) ≡ false = lt-leb count.0 (length words) l in
      record { answers = rw (is, e, short); fills = rw (e, short) (same ∙ sym (overwritten_nothing words)) }
  are_given r words' (asked e l f) =
      let room : leb count.0 (length words) ≡ true = le-leb count.0 (length words) l in
      by_test (leb count.0 (length samples))
      (λ many.
      let done : r ≡ Done = rw many at f.answers in
      let filled : words' ≡ overwritten 0 (last_of count.0 samples) words = rw many at f.fills in
      record { answers = rw (done, e, room, many); fills = rw (e, room, many) filled })
      (λ fewer.
      let short : r ≡ Refused refusal.Extent = rw fewer at f.answers in
      let same : words' ≡ overwritten 0 [] words = rw fewer at f.fills in
      record { answers = rw (short, e, room, fewer); fills = rw (e, room, fewer) same })

-- Fewer are kept.
pub too_few : (samples : List ℕ) (count : Adus) (words : List ℕ) → length samples < count.0
    → FillsLatest samples count words (Refused refusal.Extent) words
too_few samples count words l =
    let fewer : leb count.0 (length samples) ≡ false = lt-leb count.0 (length samples) l in
    record { answers = rw fewer; fills = rw fewer (sym (overwritten_nothing words)) }

-- ---- What the row of keys in order is filled in from

module _ (config : Config) (keys : List ℕ) (bs : List Block) (count : Adus) (store words : List ℕ) (cap : ℕ) (f : FillsFrom config keys bs count store words)
    (capacity : cap ≡ counted config (adus_per_block config).0) where
  pub capacity_is : cap ≡ (adus_per_block config).0
  capacity_is = capacity ∙ (rw f.limits)

  pub may_fill : (keys' : List ℕ) → keys' ≡ keys
      → ((cap ≤ 1048576) × (length bs ≡ 256) × Within cap store (written_of bs) keys')
      × ((count.0 ≤ length (parts_of cap store (written_of bs) keys')) × (count.0 ≤ length words))
  may_fill keys' same =
      let small : (adus_per_block config).0 ≤ 1048576 = omega (arith, (limits config f.limits).adus) in
      subst (λ (l : List ℕ). ((cap ≤ 1048576) × (length bs ≡ 256) × Within cap store (written_of bs) l)
      × ((count.0 ≤ length (parts_of cap store (written_of bs) l)) × (count.0 ≤ length words))) (sym same)
      (subst (λ (k : ℕ). ((k ≤ 1048576) × (length bs ≡ 256) × Within k store (written_of bs) keys)
      × ((count.0 ≤ length (parts_of k store (written_of bs) keys)) × (count.0 ≤ length words))) (sym capacity_is)
      ((small, f.rows, f.within), (f.enough, f.room)))

-- So many can be filled in from what was gathered, in order.
pub fills_from : (config : Config) (found : Gathered) (keys : List ℕ) (bs : List Block) (count : Adus) (store words : List ℕ)
    → Fillable config found keys bs store → count.0 ≤ length words → count.0 ≤ found.adus
    → FillsFrom config (in_order (take found.keys keys)) bs count store words
fills_from config found keys bs count store words x room enough =
    record { limits = x.limits; rows = x.rows; within = x.within; enough = omega (arith, enough, x.adus); room = room }

-- ---- What is gathered of a readable table

-- It has no more blocks than records.
pub few_are_all : (t : Table) (d : ℕ) (store : List ℕ) → Readable t d store → Shaped t → min (size t) 256 ≡ size t
few_are_all t d store x shape = let most = few t d store x shape in omega (arith, most)

-- The first records, which are lent, have few written ADUs.
pub may_gather : (t : Table) (d : ℕ) (store : List ℕ) → Readable t d store → Shaped t → FewWritten (take (size t) t.blocks)
may_gather t d store x shape n l =
    let below : n < size t = omega (arith, l, length-take (size t) t.blocks) in
    let small = (limits t.config (facts t d store x shape).limits).adus in
    rw (get_or-take (size t) t.blocks n clear_block below) (omega (arith, block_few t d store x shape n below, small))

module _ (t : Table) (d : ℕ) (store : List ℕ) (x : Readable t d store) (shape : Shaped t) (keys₀ : List ℕ) (found : Gathered) (keys : List ℕ)
    (g : Gathers t.blocks d (size t) keys₀ found keys) where
  -- It is what the domain keeps.
  gathered_kept : gathered_parts t.config found keys t.blocks store ≡ kept (drive t store) d
  gathered_kept =
      ap (λ (l : List ℕ). parts_of (adus_per_block t.config).0 store (written_of t.blocks) l) (sorted_keys t d store x shape keys₀ found keys g)
      ∙ parts_kept t d store x shape keys₀ found keys g

  pub gathered_fillable : length keys₀ ≡ 256 → Fillable t.config found keys t.blocks store
  gathered_fillable many = record {
    limits = (facts t d store x shape).limits;
    many = g.as_long ∙ many;
    few = omega (arith, g.as_many, few_keys t.blocks d (size t), few t d store x shape);
    rows = shape.blocks;
    within =
        subst (λ (l : List ℕ). Within (adus_per_block t.config).0 store (written_of t.blocks) l) (sym (sorted_keys t d store x shape keys₀ found keys g))
        (all_within t d store x shape keys₀ found keys g);
    adus = adus_kept t d store x shape keys₀ found keys g ∙ ap length (sym gathered_kept);
  }

  -- So what is given of it is given as the rules say.
  pub gathered_given : (count : Adus) (words : List ℕ) (r : Answer) (words' : List ℕ)
      → Gives (domain_at t d) (gathered_parts t.config found keys t.blocks store) count words r words' → Given t d count store words r words'
  gathered_given count words r words' gives =
      are_given t d count store words r words' (subst (λ (l : List ℕ). Gives (domain_at t d) l count words r words') gathered_kept gives)
