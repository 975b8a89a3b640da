-- The changes of one block that commands are made of: closing, freeing, writing into it, opening it. Each leaves a sound table sound.
use Prim.Native.Nat.{ℕ, zero, suc, ◌+◌, ◌-◌, ◌≤◌, ◌<◌}
use mathlib.Core.Bool.{true, false}
use mathlib.Core.List.{List, [], ◌∷◌}
use mathlib.Core.Path.{◌≡◌, refl, sym, ap, ◌∙◌, subst}
use native.Mathlib.Omega.{arith}
use lib.ListN.{length, length-set, set}
use lib.Seq.{get_or-set_other, get_or-set_same}
use borrow.Author.Tests.{eq-eqb, eqb-true, ne_eqb}
use Rattle.geometry.specs.Shape.{adus}
use Rattle.geometry.specs.declared.shape.Config.{Config}
use Rattle.model.specs.Blocks.{closed, freed, opened, written_on}
use Rattle.model.specs.declared.block.Block.{Block}
use Rattle.model.specs.declared.block.State.TheVariants.{Open}
use Rattle.model.specs.declared.block.Way.{Way}
use Rattle.model.specs.declared.table.Domain.{Domain}
use Rattle.rules.specs.Blocks.{closed_at, freed_at, next_serial, opened_for, with_last, written_into}
use Rattle.rules.specs.Drive.{Drive, block_adus, block_at, capacity, clear_block, clear_domain, domain_at, entries_of, held_by, held_count, is_placed_state, open_count, size, with_block}
use Rattle.rules.specs.Observation.{Holding, holding_at}
use Rattle.rules.specs.Soundness.{way_below}
use Rattle.rules.proofs.Drive.{domain_other}
use Rattle.rules.proofs.Kept.Entries.{entries_stay}
use Rattle.rules.proofs.Kept.Facts.{Facts, coverage_with}
use Rattle.rules.proofs.Kept.Mild.{Mild, closed_mild, written_mild}
use Rattle.rules.proofs.Kept.OneBlock.{block_facts_on, facts_fewer, facts_opened, held_owned}
use Rattle.rules.proofs.Kept.Sequel.{OwnSequel}
use Rattle.rules.proofs.Kept.Views.{Changed, changed_apart, if_placed, view, view_changed}
use Rattle.rules.proofs.Writes.{Ready, opened_other, opened_other_entry, opened_ready as open_ready, opened_record as open-record, written_other_entry, written_ready as into-ready, written_record as into-record}

-- A block that a domain holds, ..
pub record HeldBlock (d n : ℕ) (v : Drive) : Type 0 where
  pub low : 1 ≤ d
  pub inside : n < size v.table
  pub whole : size v.table ≤ length v.table.blocks
  pub held : held_by d (block_at v.table n) ≡ true

-- .. one that has room for these user addresses, ..
pub record Writable (d n : ℕ) (users : List ℕ) (v : Drive) : Type 0 where
  pub low : 1 ≤ d
  pub ready : Ready v.table.config v
  pub inside : n < size v.table
  pub held : held_by d (block_at v.table n) ≡ true
  pub fits : (block_at v.table n).written.0 + length users ≤ (capacity v.table n).0

-- .. and one that nobody holds, to be opened for a domain.
pub record Openable (d n : ℕ) (v : Drive) : Type 0 where
  pub low : 1 ≤ d
  pub high : d ≤ 16
  pub ready : Ready v.table.config v
  pub domains : length v.table.domains ≡ 16
  pub inside : n < size v.table
  pub nobody : (block_at v.table n).holder ≡ 0

-- No other domain than d holds this block.
abbrev pub NotOthers : ℕ → Block → Type 0
NotOthers d b = (e : ℕ) → 1 ≤ e → ¬ (e ≡ d) → held_by e b ≡ false

own_block : (d : ℕ) (b : Block) → b.holder ≡ d → NotOthers d b
own_block d b same e p other = ne_eqb b.holder e (λ h. other (sym h ∙ same))

pub held_block_lem : (d : ℕ) (b : Block) → held_by d b ≡ true → NotOthers d b
held_block_lem d b e = own_block d b (eqb-true b.holder d e)

nobodys_block : (d : ℕ) (b : Block) → b.holder ≡ 0 → NotOthers d b
nobodys_block d b same e p other = ne_eqb b.holder e (λ h. absurd (omega (arith, h, same, p)))

-- Block n with another record, and perhaps another store.
abbrev set_at : ℕ → Block → List ℕ → Drive → Drive
set_at n b store v = record { table = with_block n b v.table; store = store }

module _ (v : Drive) (d n : ℕ) (b : Block) (store : List ℕ) (l : n < size v.table) (whole : size v.table ≤ length v.table.blocks)
    (others : (m : ℕ) → m < size v.table → ¬ (m ≡ n) → entries_of (set_at n b store v) m ≡ entries_of v m)
    (before : NotOthers d (block_at v.table n)) (after : NotOthers d b) where
  set_found : block_at (set_at n b store v).table n ≡ b
  set_found = get_or-set_same v.table.blocks n b clear_block (omega (arith, l, whole))

  set_changed : Changed d n v (set_at n b store v)
  set_changed = record {
    inside = l;
    config = refl;
    blocks = λ m other. get_or-set_other v.table.blocks n m b clear_block other;
    entries = others;
    domains = λ e p other. refl;
    own = refl;
    last = omega arith;
    before = before;
    after = λ e p other. rw set_found (after e p other);
  }

-- What is left after the change of one block, where table and store keep their lengths.
changed_sequel : {d n : ℕ} {v w : Drive} → Changed d n v w → Facts w
    → length w.table.domains ≡ length v.table.domains
    → length w.table.blocks ≡ length v.table.blocks
    → length w.store ≡ length v.store
    → OwnSequel d v w
changed_sequel c f domains blocks store = record {
  sequel = record { facts = f; config = c.config; domains = domains; blocks = blocks; store = store };
  others = λ e p other. changed_apart c e p other;
}

-- The holder of a block exists.
module _ {d n : ℕ} {v : Drive} (h : HeldBlock d n v) (f : Facts v) where
  holder_is : (block_at v.table n).holder ≡ d
  holder_is = eqb-true (block_at v.table n).holder d h.held

  holder_exists_lem : (domain_at v.table d).exists ≡ true
  holder_exists_lem =
      subst (λ (e : ℕ). (domain_at v.table e).exists ≡ true) holder_is (held_owned v d n f h.low h.inside h.held).exists

  holder_few : d ≤ 16
  holder_few = omega (arith, (held_owned v d n f h.low h.inside h.held).high, holder_is)

-- What is found where the record of a held block is set.
held_set : {d n : ℕ} {v : Drive} → HeldBlock d n v → (b : Block) → block_at (with_block n b v.table) n ≡ b
held_set {d} {n} {v} h b = get_or-set_same v.table.blocks n b clear_block (omega (arith, h.inside, h.whole))

-- ---- A mild change of a block that the domain holds

module _ {d n : ℕ} {v : Drive} (h : HeldBlock d n v) (b : Block) (store : List ℕ)
    (mild : Mild v.table (block_at v.table n) b)
    (others : (m : ℕ) → m < size v.table → ¬ (m ≡ n) → entries_of (set_at n b store v) m ≡ entries_of v m) where
  abbrev w : Drive
  w = set_at n b store v

  still_held : held_by d b ≡ true
  still_held = rw mild.holder h.held

  mild_changed : Changed d n v w
  mild_changed = set_changed v d n b store h.inside h.whole others (held_block_lem d (block_at v.table n) h.held) (held_block_lem d b still_held)

  found : block_at w.table n ≡ b
  found = held_set h b

  mild_held : held_by d (block_at w.table n) ≡ true
  mild_held = rw found still_held

  mild_facts : Facts v → Facts w
  mild_facts f =
      facts_fewer h.low mild_changed f (holder_exists_lem h f) (holder_few h f)
      (rw found (block_facts_on v.table w.table b refl (λ q x. record { exists = x; placements = refl; last = omega arith })
      (mild.facts (f.blocks n h.inside))))
      (rw (mild_held, h.held) (omega arith))
      (rw (mild_held, h.held) (rw found mild.opens))
      (λ s. rw (mild_held, h.held) (rw (found, mild.serial) (omega arith)))
      (λ k. rw (mild_held, h.held) (rw found (mild.placed k)))

-- ---- Freeing a block that the domain holds

module _ {d n : ℕ} {v : Drive} (h : HeldBlock d n v) where
  abbrev freeing : Drive
  freeing = record { table = freed_at n v.table; store = v.store }

  pub freed_found : block_at freeing.table n ≡ freed (block_at v.table n)
  freed_found = held_set h (freed (block_at v.table n))

  pub freed_changed : Changed d n v freeing
  unfolding entries_of
  freed_changed =
      set_changed v d n (freed (block_at v.table n)) v.store h.inside h.whole (λ m k other. refl)
      (held_block_lem d (block_at v.table n) h.held) (nobodys_block d (freed (block_at v.table n)) refl)

  pub freed_not_held : held_by d (block_at freeing.table n) ≡ false
  freed_not_held = rw freed_found (ne_eqb 0 d (λ e. omega (arith, h.low)))

  pub freed_facts : Facts v → Facts freeing
  freed_facts f =
      facts_fewer h.low freed_changed f (holder_exists_lem h f) (holder_few h f)
      (rw freed_found (record { holder = refl; written = refl; left = refl; serial = refl }))
      (rw freed_not_held (omega arith))
      (rw freed_not_held (omega arith))
      (λ s. rw freed_not_held (omega arith))
      (λ k. rw freed_not_held (omega arith))

  pub freed_sequel : Facts v → OwnSequel d v freeing
  freed_sequel f = changed_sequel freed_changed (freed_facts f) refl (rw length-set) refl

-- ---- Closing, and writing into, a block that the domain holds

module _ {d n : ℕ} {v : Drive} (h : HeldBlock d n v) where
  abbrev closing : Drive
  closing = record { table = closed_at n v.table; store = v.store }

  pub closed_found : block_at closing.table n ≡ closed (block_at v.table n)
  closed_found = held_set h (closed (block_at v.table n))

  pub closed_changed : Changed d n v closing
  unfolding entries_of
  closed_changed =
      mild_changed h (closed (block_at v.table n)) v.store (closed_mild v.table (block_at v.table n)) (λ m k other. refl)

  closed_facts : Facts v → Facts closing
  unfolding entries_of
  closed_facts f =
      mild_facts h (closed (block_at v.table n)) v.store (closed_mild v.table (block_at v.table n)) (λ m k other. refl) f

  pub closed_sequel : Facts v → OwnSequel d v closing
  closed_sequel f = changed_sequel closed_changed (closed_facts f) refl (rw length-set) refl

  pub closed_held : held_by d (block_at closing.table n) ≡ true
  closed_held = rw (closed_found, (closed_mild v.table (block_at v.table n)).holder) h.held

module _ {d n : ℕ} {users : List ℕ} {v : Drive} (x : Writable d n users v) where
  abbrev c : Config
  c = v.table.config

  abbrev filling : Drive
  filling = (written_into d n users v).drive

  abbrev filled : Block
  filled = written_on (adus (length users)) (block_adus c n) (block_at v.table n)

  held_one : HeldBlock d n v
  held_one = record { low = x.low; inside = x.inside; whole = x.ready.blocks; held = x.held }

  pub written_ready : Ready c filling
  written_ready = into-ready c d n users v x.ready x.inside x.fits

  pub written_record : block_at filling.table n ≡ filled
  written_record = into-record c d n users v x.ready x.inside x.fits

  others_stay : (m : ℕ) → m < size v.table → ¬ (m ≡ n) → entries_of filling m ≡ entries_of v m
  others_stay m k other =
      entries_stay c v filling m x.ready written_ready k
      (λ i small. written_other_entry c d n users v x.ready x.inside x.fits m i other small)

  pub written_changed : Changed d n v filling
  unfolding written_into
  written_changed =
      mild_changed held_one filled _ (written_mild v.table (adus (length users)) (block_at v.table n)) others_stay

  written_facts : Facts v → Facts filling
  unfolding written_into
  written_facts f =
      mild_facts held_one filled _ (written_mild v.table (adus (length users)) (block_at v.table n)) others_stay f

  pub written_held : held_by d (block_at filling.table n) ≡ true
  written_held =
      rw (written_record, (written_mild v.table (adus (length users)) (block_at v.table n)).holder) x.held

  written_blocks : length filling.table.blocks ≡ length v.table.blocks
  unfolding written_into
  written_blocks = rw length-set

  pub written_domains : filling.table.domains ≡ v.table.domains
  unfolding written_into
  written_domains = refl

  pub written_sequel : Facts v → OwnSequel d v filling
  written_sequel f =
      changed_sequel written_changed (written_facts f) (ap (λ (rs : List Domain). length rs) written_domains) written_blocks
      (written_ready.store ∙ sym x.ready.store)

-- ---- Opening a block that nobody holds

module _ {d n : ℕ} {v : Drive} (o : Openable d n v) (way : Way) where
  abbrev shape : Config
  shape = v.table.config

  abbrev opening : Drive
  opening = opened_for d way n v

  pub opened_ready : Ready shape opening
  opened_ready = open_ready shape d way n v o.ready o.inside

  pub opened_record : block_at opening.table n ≡ opened d way (next_serial v.table d) shape.period (block_at v.table n)
  opened_record = open-record shape d way n v o.ready o.inside

  pub opened_domain : domain_at opening.table d ≡ with_last (next_serial v.table d) (domain_at v.table d)
  unfolding opened_for
  opened_domain = get_or-set_same v.table.domains (d - 1) _ clear_domain (omega (arith, o.domains, o.high, o.low))

  pub opened_held : held_by d (block_at opening.table n) ≡ true
  opened_held = rw opened_record (eq-eqb d d refl)

  opened_others : (e : ℕ) → 1 ≤ e → ¬ (e ≡ d) → domain_at opening.table e ≡ domain_at v.table e
  unfolding opened_for
  opened_others e q other =
      domain_other v.table d e (with_last (next_serial v.table d) (domain_at v.table d)) o.low q (λ same. other (sym same))

  pub opened_changed : Changed d n v opening
  opened_changed = record {
    inside = o.inside;
    config = opened_ready.shape;
    blocks = λ m other. opened_other shape d way n v o.ready o.inside m other;
    entries = λ m k other.
        entries_stay shape v opening m o.ready opened_ready k
        (λ i small. opened_other_entry shape d way n v o.ready o.inside m i other small);
    domains = opened_others;
    own = rw opened_domain;
    last = rw opened_domain (omega arith);
    before = nobodys_block d (block_at v.table n) o.nobody;
    after = held_block_lem d (block_at opening.table n) opened_held;
  }

  pub not_held : held_by d (block_at v.table n) ≡ false
  not_held = rw o.nobody (ne_eqb 0 d (λ e. omega (arith, o.low)))

  pub opened_facts : Facts v
      → (domain_at v.table d).exists ≡ true
      → way_below (domain_at v.table d).placements way ≡ true
      → held_count v.table d + 1 ≤ (domain_at v.table d).quota
      → coverage_with v.table d (held_count v.table d + 1) ≤ size v.table
      → open_count v.table d < (domain_at v.table d).limit
      → ((k : ℕ) → is_placed_state k (Open way) ≡ true → view (if_placed k) d v ≡ 0)
      → Facts opening
  opened_facts f exists below quota covers limit placed =
      facts_opened way o.low o.high opened_changed f exists not_held opened_record
      (rw opened_domain) below quota covers limit placed

  opened_blocks : length opening.table.blocks ≡ length v.table.blocks
  unfolding opened_for
  opened_blocks = rw length-set

  opened_domains : length opening.table.domains ≡ length v.table.domains
  unfolding opened_for
  opened_domains = rw length-set

  pub opened_sequel : Facts opening → OwnSequel d v opening
  opened_sequel f =
      changed_sequel opened_changed f opened_domains opened_blocks (opened_ready.store ∙ sym o.ready.store)

  -- What the opened block adds to a view of its domain.
  pub opened_adds : (q : Holding → ℕ) → view q d opening ≡ view q d v + q (holding_at opening n)
  opened_adds q = let h = view_changed opened_changed q d in omega (arith, rw (not_held, opened_held) at h)

-- ---- Opening again a Closed block that the domain holds: freeing it and opening it

set_twice : {A : Type 0} (l : List A) (n : ℕ) (x y : A) → set (set l n x) n y ≡ set l n y
set_twice [] n x y = refl
set_twice (z ∷ l) zero x y = refl
set_twice (z ∷ l) (suc n) x y = ap (λ (k : List _). z ∷ k) (set_twice l n x y)

pub reopened : {d n : ℕ} {v : Drive} → HeldBlock d n v → (way : Way)
    → opened_for d way n (record { table = freed_at n v.table; store = v.store }) ≡ opened_for d way n v
unfolding opened_for
reopened {d} {n} {v} h way =
    let b = block_at v.table n in
    rw (held_set h (freed b), set_twice v.table.blocks n)
