-- What opening a block and writing do to the store: where the new entries stand, and that all others stay.
use Prim.Native.Nat.{ℕ, zero, suc, ◌+◌, ◌-◌, ◌≤◌, ◌<◌, min}
use mathlib.Core.Bool.{true, false, true≢false}
use mathlib.Core.List.{List, [], ◌∷◌, ◌++◌}
use mathlib.Core.Logic.{◌⊎◌, inl, inr}
use mathlib.Core.Option.{Option, none, some}
use mathlib.Core.Path.{◌≡◌, refl, sym, ap, ◌∙◌, subst}
use native.Mathlib.Nat.{add_assoc, sub-zero}
use native.Mathlib.Omega.{arith}
use lib.Dec.{ltb}
use lib.ListN.{drop, get_or, length, length-append, length-replicate, length-set, length-take, replicate, take, take-append-drop, get_or-replicate, get_or-append}
use lib.Seq.{get_or-set_same, get_or-set_other}
use borrow.Author.Tests.{ltb-false, ltb-true}
use Rattle.geometry.proofs.Laws.Shape.{by_test, starts_apart, starts_end}
use Rattle.geometry.specs.Address.{word_of}
use Rattle.geometry.specs.Shape.{adus, adus_per_block, store_length, stretch_start}
use Rattle.geometry.specs.declared.shape.Adus.{Adus}
use Rattle.geometry.specs.declared.shape.Config.{Config}
use Rattle.model.specs.Blocks.{closed, opened, written_from, written_on}
use Rattle.model.specs.declared.block.Block.{Block}
use Rattle.model.specs.declared.block.State.{State}
use Rattle.model.specs.declared.block.State.TheVariants.{Closed, Free, Open}
use Rattle.model.specs.declared.block.Way.{Way}
use Rattle.model.specs.declared.block.Way.TheVariants.{Placement}
use Rattle.model.specs.declared.table.Table.{Table}
use Rattle.rules.specs.Blocks.{Written, all_ones, chosen_block, new_blocks, next_serial, opened_for, room, written_by_placement, written_first, written_into, written_onwards}
use Rattle.rules.specs.Drive.{Drive, block_at, capacity, clear_block, is_free, is_free_state, open_block, overwritten, size}
use Rattle.rules.proofs.Blocks.{Choice, choice}
use Rattle.rules.proofs.Counting.{get_row}
use Rattle.rules.proofs.Effects.{written_length}
use Rattle.rules.proofs.Store.{entry_before, entry_behind, entry_new, length_overwritten}

-- A drive of the configuration c: an entry in the table for each block, and a whole store.
pub record Ready (c : Config) (v : Drive) : Type 0 where
  pub shape : v.table.config ≡ c
  pub blocks : c.blocks ≤ length v.table.blocks
  pub store : length v.store ≡ (store_length c).0

-- The entry of an ADU.
abbrev pub entry : Config → Drive → ℕ → ℕ → ℕ
entry c v n offset = get_or v.store ((stretch_start c n).0 + offset) 0

-- What stands behind the first of two lists.
get_behind : (xs ys : List ℕ) (i : ℕ) → length xs ≤ i → get_or (xs ++ ys) i 0 ≡ get_or ys (i - length xs) 0
get_behind [] ys i l = rw sub-zero
get_behind (x ∷ xs) ys zero l = absurd (omega (arith, l))
get_behind (x ∷ xs) ys (suc i) l = get_behind xs ys i (omega (arith, l)) ∙ ap (λ (k : ℕ). get_or ys k 0) (omega arith)

module _ (c : Config) where
  abbrev per_block : ℕ
  per_block = (adus_per_block c).0

  -- A block's stretch lies in the store.
  pub inside : (n : ℕ) → n < c.blocks → (stretch_start c n).0 + per_block ≤ (store_length c).0
  inside n l = omega (arith, starts_apart c n c.blocks l, ap (λ (a : Adus). a.0) (starts_end c))

  -- What is put into one block's stretch leaves the others alone.
  entry_other : (n m start : ℕ) (new row : List ℕ) (offset : ℕ)
      → length row ≡ (store_length c).0
      → m < c.blocks
      → (stretch_start c m).0 ≤ start
      → start + length new ≤ (stretch_start c m).0 + per_block
      → ¬ (n ≡ m)
      → offset < per_block
      → get_or (overwritten start new row) ((stretch_start c n).0 + offset) 0 ≡ get_or row ((stretch_start c n).0 + offset) 0
  entry_other n m start new row offset whole l from to other o =
      let within : start ≤ length row = omega (arith, inside m l, whole, to) in
      by_test (ltb n m)
      (λ e. entry_before start ((stretch_start c n).0 + offset) new row within
      (omega (arith, starts_apart c n m (ltb-true n m e), o, from)))
      (λ e. entry_behind start ((stretch_start c n).0 + offset) new row within
      (omega (arith, starts_apart c m n (below e), to)))
    where
      below : ltb n m ≡ false → m < n
      below e = omega (arith, ltb-false n m e)

  -- ---- Opening

  module _ (d : ℕ) (way : Way) (n : ℕ) (v : Drive) (r : Ready c v) (l : n < c.blocks) where
    pub opened_ready : Ready c (opened_for d way n v)
    unfolding opened_for
    opened_ready = record {
      shape = r.shape;
      blocks = rw length-set r.blocks;
      store =
          length_overwritten _ _ v.store (rw (r.shape, length-replicate) (omega (arith, inside n l, r.store)))
          ∙ r.store;
    }

    -- The block's own entries are all ones, ..
    pub opened_entry : (offset : ℕ) → offset < per_block → entry c (opened_for d way n v) n offset ≡ all_ones
    unfolding opened_for
    opened_entry offset o =
        rw r.shape
        (entry_new (stretch_start c n).0 offset (replicate per_block all_ones) v.store
        (omega (arith, inside n l, r.store)) (rw length-replicate o)
        ∙ get_or-replicate per_block offset all_ones 0 o)

    -- .. nothing of it is written, ..
    pub opened_record : block_at (opened_for d way n v).table n
        ≡ opened d way (next_serial v.table d) v.table.config.period (block_at v.table n)
    unfolding opened_for
    opened_record = get_or-set_same v.table.blocks n _ clear_block (omega (arith, l, r.blocks))

    -- .. and every other block and its entries are as they were.
    pub opened_other : (m : ℕ) → ¬ (m ≡ n) → block_at (opened_for d way n v).table m ≡ block_at v.table m
    unfolding opened_for
    opened_other m other = get_or-set_other v.table.blocks n m _ clear_block other

    pub opened_other_entry : (m offset : ℕ) → ¬ (m ≡ n) → offset < per_block
        → entry c (opened_for d way n v) m offset ≡ entry c v m offset
    unfolding opened_for
    opened_other_entry m offset other o =
        rw r.shape
        (entry_other m n (stretch_start c n).0 (replicate per_block all_ones) v.store offset r.store l
        (omega arith) (rw length-replicate (omega arith)) other o)

  -- ---- Writing into a block

  module _ (d n : ℕ) (users : List ℕ) (v : Drive) (r : Ready c v) (l : n < c.blocks)
      (fits : (block_at v.table n).written.0 + length users ≤ per_block) where
    abbrev first : ℕ
    first = (stretch_start c n).0 + (block_at v.table n).written.0

    pub written_ready : Ready c (written_into d n users v).drive
    unfolding written_into
    written_ready = record {
      shape = r.shape;
      blocks = rw length-set r.blocks;
      store = length_overwritten _ _ v.store (rw r.shape (omega (arith, inside n l, r.store, fits))) ∙ r.store;
    }

    -- The user addresses stand in the block's entries from the first unwritten one on, ..
    pub written_entry : (i : ℕ) → i < length users
        → entry c (written_into d n users v).drive n ((block_at v.table n).written.0 + i) ≡ get_or users i 0
    unfolding written_into
    written_entry i k =
        rw (r.shape, ← add_assoc (stretch_start c n).0 (block_at v.table n).written.0 i)
        (entry_new first i users v.store (omega (arith, inside n l, r.store, fits)) k)

    -- .. those before and behind stay, ..
    pub written_own : (offset : ℕ) → offset < per_block
        → (offset < (block_at v.table n).written.0) ⊎ ((block_at v.table n).written.0 + length users ≤ offset)
        → entry c (written_into d n users v).drive n offset ≡ entry c v n offset
    unfolding written_into
    written_own offset o (inl before) =
        rw r.shape
        (entry_before first ((stretch_start c n).0 + offset) users v.store (omega (arith, inside n l, r.store, fits)) (omega (arith, before)))
    written_own offset o (inr behind) =
        rw r.shape
        (entry_behind first ((stretch_start c n).0 + offset) users v.store (omega (arith, inside n l, r.store, fits)) (omega (arith, behind)))

    -- .. and every other block and its entries are as they were.
    written_other : (m : ℕ) → ¬ (m ≡ n) → block_at (written_into d n users v).drive.table m ≡ block_at v.table m
    unfolding written_into
    written_other m other = get_or-set_other v.table.blocks n m _ clear_block other

    pub written_record : block_at (written_into d n users v).drive.table n
        ≡ written_on (adus (length users)) (capacity v.table n) (block_at v.table n)
    unfolding written_into
    written_record = get_or-set_same v.table.blocks n _ clear_block (omega (arith, l, r.blocks))

    pub written_other_entry : (m offset : ℕ) → ¬ (m ≡ n) → offset < per_block
        → entry c (written_into d n users v).drive m offset ≡ entry c v m offset
    unfolding written_into
    written_other_entry m offset other o =
        rw r.shape
        (entry_other m n first users v.store offset r.store l (omega arith) (omega (arith, fits)) other o)

  -- ---- Writing on, into blocks that are opened for it

  -- A written block is not Free.
  written_state : (s : State) (count capacity : Adus) (b : Block) → b.state ≡ s → is_free_state s ≡ false
      → is_free (written_from s count capacity b) ≡ false
  unfolding closed
  written_state Free count capacity b same e = absurd (true≢false e)
  written_state (Closed way) count capacity b same e = rw same
  written_state (Open way) count capacity b same e =
      let written = min (b.written.0 + count.0) capacity.0 in
      by_test (ltb written capacity.0) (λ q. rw (q, same)) (λ q. rw (q, same))

  -- What holds of the blocks that are not Free stays: they are not Free, and their entries are as they were.
  pub record Keeps (v w : Drive) : Type 0 where
    pub taken : (n : ℕ) → n < c.blocks → is_free (block_at v.table n) ≡ false → is_free (block_at w.table n) ≡ false
    pub entries : (n offset : ℕ) → n < c.blocks → is_free (block_at v.table n) ≡ false → offset < per_block
        → entry c w n offset ≡ entry c v n offset

  keeps_all : (v : Drive) → Keeps v v
  keeps_all v = record { taken = λ n l e. e; entries = λ n offset l e o. refl }

  keeps_then : {v w x : Drive} → Keeps v w → Keeps w x → Keeps v x
  keeps_then f g = record {
    taken = λ n l e. g.taken n l (f.taken n l e);
    entries = λ n offset l e o. g.entries n offset l (f.taken n l e) o ∙ f.entries n offset l e o;
  }

  -- An ADU that holds a user address, in a block that is not Free, and its flash address.
  pub record Held (d : ℕ) (v : Drive) (word user : ℕ) : Type 0 where
    pub block : ℕ
    pub offset : ℕ
    pub inside_drive : block < c.blocks
    pub inside_block : offset < per_block
    pub address : word ≡ word_of c (record { domain = d; block = block; offset = adus offset })
    pub taken : is_free (block_at v.table block) ≡ false
    pub holds : entry c v block offset ≡ user

  held_on : {d word user : ℕ} {v w : Drive} → Held d v word user → Keeps v w → Held d w word user
  held_on h k = record {
    block = h.block;
    offset = h.offset;
    inside_drive = h.inside_drive;
    inside_block = h.inside_block;
    address = h.address;
    taken = k.taken h.block h.inside_drive h.taken;
    holds = k.entries h.block h.offset h.inside_drive h.taken h.inside_block ∙ h.holds;
  }

  -- A write into a block that is not Free: every ADU of it is held.
  module _ (d n : ℕ) (users : List ℕ) (v : Drive) (r : Ready c v) (l : n < c.blocks)
      (fits : (block_at v.table n).written.0 + length users ≤ per_block) (taken : is_free (block_at v.table n) ≡ false) where
    into_address : (i : ℕ) → i < length users
        → get_or (written_into d n users v).addresses i 0
        ≡ word_of v.table.config (record { domain = d; block = n; offset = adus ((block_at v.table n).written.0 + i) })
    unfolding written_into
    into_address i k = get_row _ (length users) i k

    into_taken : is_free (block_at (written_into d n users v).drive.table n) ≡ false
    unfolding written_on
    into_taken =
        rw (written_record d n users v r l fits)
        (written_state (block_at v.table n).state _ _ (block_at v.table n) refl taken)

    pub into_held : (i : ℕ) → i < length users
        → Held d (written_into d n users v).drive (get_or (written_into d n users v).addresses i 0) (get_or users i 0)
    into_held i k = record {
      block = n;
      offset = (block_at v.table n).written.0 + i;
      inside_drive = l;
      inside_block = omega (arith, k, fits);
      address = into_address i k ∙ ap (λ (x : Config). word_of x (record { domain = d; block = n; offset = adus ((block_at v.table n).written.0 + i) })) r.shape;
      taken = into_taken;
      holds = written_entry d n users v r l fits i k;
    }

  -- A Free block is opened for a placement and written.
  module _ (d p m : ℕ) (users : List ℕ) (v : Drive) (r : Ready c v) (l : m < c.blocks)
      (free : is_free (block_at v.table m) ≡ true) (few : length users ≤ per_block) where
    abbrev fresh : Drive
    fresh = opened_for d (Placement p) m v

    fresh_ready : Ready c fresh
    fresh_ready = opened_ready d (Placement p) m v r l

    fresh_fits : (block_at fresh.table m).written.0 + length users ≤ per_block
    fresh_fits = rw (opened_record d (Placement p) m v r l) (omega (arith, few))

    fresh_taken : is_free (block_at fresh.table m) ≡ false
    fresh_taken = rw (opened_record d (Placement p) m v r l)

    next_ready : Ready c (written_into d m users fresh).drive
    next_ready = written_ready d m users fresh fresh_ready l fresh_fits

    next_keeps : Keeps v (written_into d m users fresh).drive
    next_keeps = record {
      taken = λ n k e.
          rw (written_other d m users fresh fresh_ready l fresh_fits n (apart n e), opened_other d (Placement p) m v r l n (apart n e)) e;
      entries = λ n offset k e o.
          written_other_entry d m users fresh fresh_ready l fresh_fits n offset (apart n e) o
          ∙ opened_other_entry d (Placement p) m v r l n offset (apart n e) o;
    }
      where
        apart : (n : ℕ) → is_free (block_at v.table n) ≡ false → ¬ (n ≡ m)
        apart n e same = true≢false (sym free ∙ subst (λ (k : ℕ). is_free (block_at v.table k) ≡ false) same e)

    next_held : (i : ℕ) → i < length users
        → Held d (written_into d m users fresh).drive (get_or (written_into d m users fresh).addresses i 0) (get_or users i 0)
    next_held = into_held d m users fresh fresh_ready l fresh_fits fresh_taken

  -- Every ADU that a write names is held.
  abbrev pub AllHeld : ℕ → List ℕ → Written → Type 0
  AllHeld d users w = (i : ℕ) → i < length w.addresses → Held d w.drive (get_or w.addresses i 0) (get_or users i 0)

  -- What a write into Free blocks leaves: a drive of the same configuration that keeps what was there, and has all of it.
  pub record Wrote (d : ℕ) (users : List ℕ) (v : Drive) (w : Written) : Type 0 where
    pub ready : Ready c w.drive
    pub keeps : Keeps v w.drive
    pub held : AllHeld d users w

  by_option : {P : Type 0} (found : Option ℕ) → (found ≡ none → P) → ((m : ℕ) → found ≡ some m → P) → P
  by_option none nothing something = nothing refl
  by_option (some m) nothing something = something m refl

  -- Where no block is Free nothing is written.
  pub none_written : (d p more : ℕ) (users : List ℕ) (v : Drive) → chosen_block v.table ≡ none
      → written_onwards d p more users v ≡ record { drive = v; addresses = [] }
  unfolding written_onwards
  none_written d p zero users v e = refl
  none_written d p (suc more) users v e = rw (e, none_written d p more (drop (adus_per_block v.table.config).0 users) v e)

  -- A write, and then another of the user addresses that follow.
  abbrev and_then : Written → Written → Written
  and_then first rest = record { drive = rest.drive; addresses = first.addresses ++ rest.addresses }

  both_held : (d : ℕ) (these those : List ℕ) (first rest : Written)
      → length first.addresses ≡ length these
      → AllHeld d these first
      → AllHeld d those rest
      → Keeps first.drive rest.drive
      → AllHeld d (these ++ those) (and_then first rest)
  both_held d these those first rest whole a b keeps i l =
      by_test (ltb i (length these))
      (λ e.
      let k = ltb-true i (length these) e in
      rw (get_or-append first.addresses rest.addresses 0 i (omega (arith, k, whole)), get_or-append these those 0 i k)
      (held_on (a i (omega (arith, k, whole))) keeps))
      (λ e.
      let k = ltb-false i (length these) e in
      rw (get_behind first.addresses rest.addresses i (omega (arith, k, whole)), get_behind these those i k, whole)
      (b (i - length these) (omega (arith, k, whole, rw length-append at l))))

  nothing_wrote : (d : ℕ) (users : List ℕ) (v : Drive) → Ready c v → Wrote d users v (record { drive = v; addresses = [] })
  nothing_wrote d users v r = record { ready = r; keeps = keeps_all v; held = λ i l. absurd (omega (arith, l)) }

  next_wrote : (d p m : ℕ) (users : List ℕ) (v : Drive) → Ready c v → chosen_block v.table ≡ some m → length users ≤ per_block
      → Wrote d users v (written_into d m users (opened_for d (Placement p) m v))
  next_wrote d p m users v r e few =
      let chosen = subst (Choice v.table (size v.table)) e (choice v.table (size v.table)) in
      let l : m < c.blocks = rw (← r.shape) chosen.inside in
      record {
        ready = next_ready d p m users v r l chosen.free few;
        keeps = next_keeps d p m users v r l chosen.free few;
        held = λ i k. next_held d p m users v r l chosen.free few i (rw (written_length d m users (opened_for d (Placement p) m v)) at k);
      }

  in_two : (d k : ℕ) (users : List ℕ) (w : Written) → AllHeld d (take k users ++ drop k users) w → AllHeld d users w
  in_two d k users w h = subst (λ (us : List ℕ). AllHeld d us w) (take-append-drop k users) h

  pub onwards_zero : (d p : ℕ) (users : List ℕ) (v : Drive) → written_onwards d p 0 users v ≡ record { drive = v; addresses = [] }
  unfolding written_onwards
  onwards_zero d p users v = refl

  pub onwards_some : (d p more m : ℕ) (users : List ℕ) (v : Drive) → Ready c v → chosen_block v.table ≡ some m
      → let first = written_into d m (take per_block users) (opened_for d (Placement p) m v) in
      written_onwards d p (suc more) users v ≡ and_then first (written_onwards d p more (drop per_block users) first.drive)
  unfolding written_onwards
  onwards_some d p more m users v r e = rw (e, r.shape)

  onwards : (d p more : ℕ) (users : List ℕ) (v : Drive) → Ready c v → Wrote d users v (written_onwards d p more users v)
  onwards d p zero users v r = subst (Wrote d users v) (sym (onwards_zero d p users v)) (nothing_wrote d users v r)
  onwards d p (suc more) users v r =
      by_option (chosen_block v.table)
      (λ e. subst (Wrote d users v) (sym (none_written d p (suc more) users v e)) (nothing_wrote d users v r))
      (λ m e.
      let first = written_into d m (take per_block users) (opened_for d (Placement p) m v) in
      let rest = written_onwards d p more (drop per_block users) first.drive in
      let few : length (take per_block users) ≤ per_block = rw length-take (omega arith) in
      let here = next_wrote d p m (take per_block users) v r e few in
      let there = onwards d p more (drop per_block users) first.drive here.ready in
      let whole = written_length d m (take per_block users) (opened_for d (Placement p) m v) in
      subst (Wrote d users v) (sym (onwards_some d p more m users v r e))
      (record {
        ready = there.ready;
        keeps = keeps_then here.keeps there.keeps;
        held =
            in_two d per_block users (and_then first rest)
            (both_held d (take per_block users) (drop per_block users) first rest whole here.held there.held there.keeps);
      }))

  -- ---- Write by placement

  -- What the placement's open block must be for what goes into it.
  abbrev pub RoomFor : Option ℕ → Table → ℕ → Type 0
  RoomFor none t count = count ≡ 0
  RoomFor (some n) t count = (n < c.blocks) × (is_free (block_at t n) ≡ false) × ((block_at t n).written.0 + count ≤ per_block)

  first_ready : (d : ℕ) (found : Option ℕ) (users : List ℕ) (v : Drive) → Ready c v → RoomFor found v.table (length users)
      → Ready c (written_first d found users v).drive
  first_ready d none users v r o = r
  first_ready d (some n) users v r o = written_ready d n users v r o.0 o.2

  first_held : (d : ℕ) (found : Option ℕ) (users : List ℕ) (v : Drive) → Ready c v → RoomFor found v.table (length users)
      → AllHeld d users (written_first d found users v)
  first_held d none users v r o i l = absurd (omega (arith, l))
  first_held d (some n) users v r o i l = into_held d n users v r o.0 o.2 o.1 i (rw (written_length d n users v) at l)

  first_whole : (d : ℕ) (found : Option ℕ) (users : List ℕ) (v : Drive) → RoomFor found v.table (length users)
      → length (written_first d found users v).addresses ≡ length users
  first_whole d none users v o = sym o
  first_whole d (some n) users v o = written_length d n users v

  pub placement_held : (d p : ℕ) (users : List ℕ) (v : Drive) → Ready c v
      → RoomFor (open_block v.table d p) v.table (length (take (room v.table d p) users))
      → Ready c (written_by_placement d p users v).drive × AllHeld d users (written_by_placement d p users v)
  unfolding written_by_placement
  placement_held d p users v r o =
      let t = v.table in
      let k = room t d p in
      let first = written_first d (open_block t d p) (take k users) v in
      let rest = written_onwards d p (new_blocks t d p (length users)) (drop k users) first.drive in
      let there = onwards d p (new_blocks t d p (length users)) (drop k users) first.drive (first_ready d (open_block t d p) (take k users) v r o) in (
        there.ready,
        in_two d k users (and_then first rest)
            (both_held d (take k users) (drop k users) first rest
            (first_whole d (open_block t d p) (take k users) v o)
            (first_held d (open_block t d p) (take k users) v r o)
            there.held
            there.keeps),
      )
