-- Write by placement: into the placement's open block, then into others that are opened for it. Each step leaves a sound table sound,
-- and there is a Free block for each that is opened.
use Prim.Native.Nat.{ℕ, zero, suc, ◌+◌, ◌-◌, ◌*◌, ◌/◌, ◌≤◌, ◌<◌, min}
use mathlib.Core.Bool.{Bool, true, false, ◌&&◌, cond}
use mathlib.Core.List.{List}
use mathlib.Core.Option.{Option, none, some}
use mathlib.Core.Path.{◌≡◌, refl, sym, ap, ◌∙◌, subst}
use native.Mathlib.Nat.{div-add-mod', mod-lt, suc-mul, zero-mul}
use native.Mathlib.Omega.{arith}
use lib.Dec.{eqb}
use lib.ListN.{drop, get_or, length, length-append, length-drop, length-take, take}
use borrow.Author.Tests.{eqb-true, le-ltb, lt-ltb}
use Rattle.geometry.proofs.Laws.Shape.{both, by_test}
use Rattle.geometry.specs.Shape.{adus, adus_per_block}
use Rattle.geometry.specs.declared.shape.Config.{Config}
use Rattle.model.specs.Blocks.{closed, written_from, written_on}
use Rattle.model.specs.declared.block.Block.{Block}
use Rattle.model.specs.declared.block.State.{State}
use Rattle.model.specs.declared.block.State.TheVariants.{Closed, Free, Open}
use Rattle.model.specs.declared.block.Way.TheVariants.{Placement}
use Rattle.model.specs.declared.table.Domain.{Domain}
use Rattle.model.specs.declared.table.Table.{Table}
use Rattle.rules.specs.Blocks.{Written, chosen_block, next_serial, opened_for, with_last, written_into, written_onwards}
use Rattle.rules.specs.Drive.{Drive, block_at, clear_domain, domain_at, held_by, held_count, is_free, is_open, is_open_for, open_block_to, open_count, size}
use Rattle.rules.specs.Observation.{Holding, holding_at}
use Rattle.rules.proofs.Blocks.{Choice, choice}
use Rattle.rules.proofs.Counting.{by_eq}
use Rattle.rules.proofs.Effects.{written_length}
use Rattle.rules.proofs.Kept.Changes.{Openable, Writable, opened_adds, opened_changed, opened_domain, opened_facts, opened_held, opened_ready, opened_record, opened_sequel, written_changed, written_domains, written_held, written_ready, written_record, written_sequel}
use Rattle.rules.proofs.Kept.Facts.{Facts, coverage_with}
use Rattle.rules.proofs.Kept.OneBlock.{coverage_changed, coverage_le, free_nobody, view_none}
use Rattle.rules.proofs.Kept.Room.{room_chosen}
use Rattle.rules.proofs.Kept.Sequel.{OwnSequel, same_sequel, sequel_then}
use Rattle.rules.proofs.Kept.Views.{held_view, if_open, if_placed, one, open_view, view, view_changed}
use Rattle.rules.proofs.Writes.{Ready, onwards_some, onwards_zero}

-- ---- So many blocks of C ADUs take so many ADUs, the last one at least one of them.
abbrev pub Takes : ℕ → ℕ → ℕ → Type 0
Takes c zero count = count ≡ 0
Takes c (suc zero) count = (0 < count) × (count ≤ c)
Takes c (suc (suc k)) count = (c < count) × Takes c (suc k) (count - c)

takes_from : (c k count : ℕ) → 0 < c → k * c ≤ count + (c - 1) → count + (c - 1) < k * c + c → Takes c k count
takes_from c zero count p least most = omega (arith, rw zero-mul at most)
takes_from c (suc zero) count p least most =
    (omega (arith, rw (suc-mul, zero-mul) at least), omega (arith, rw (suc-mul, zero-mul) at most))
takes_from c (suc (suc k)) count p least most = (
  omega (arith, suc-mul (suc k) c, suc-mul k c, least, p),
  takes_from c (suc k) (count - c) p (omega (arith, suc-mul (suc k) c, suc-mul k c, least, p)) (omega (arith, suc-mul (suc k) c, suc-mul k c, least, most, p)),
)

pub takes : (c count : ℕ) → 0 < c → Takes c ((count + (c - 1)) / c) count
takes c count p =
    let whole = div-add-mod' (count + (c - 1)) c in
    let rest = mod-lt (count + (c - 1)) p in
    takes_from c ((count + (c - 1)) / c) count p (omega (arith, whole, rest)) (omega (arith, whole, rest))

takes_next : (c k count : ℕ) → Takes c (suc k) count → Takes c k (count - c)
takes_next c zero count t = omega (arith, t.1)
takes_next c (suc k) count t = t.1

-- If a block takes any, there is something to take.
pub takes_some : (c k count : ℕ) → 1 ≤ k → Takes c k count → 0 < count
takes_some c zero count l t = absurd (omega (arith, l))
takes_some c (suc zero) count l t = t.0
takes_some c (suc (suc k)) count l t = omega (arith, t.0)

takes_more : (c k count : ℕ) → 1 ≤ k → Takes c (suc k) count → c < count
takes_more c zero count l t = absurd (omega (arith, l))
takes_more c (suc k) count l t = t.0

-- ---- A block that is written full is open no more

full_from : (s : State) (count capacity : ℕ) (b : Block) (p : ℕ) → b.state ≡ s → capacity ≤ b.written.0 + count
    → (is_open (written_from s (adus count) (adus capacity) b) ≡ false) × (is_open_for p (written_from s (adus count) (adus capacity) b) ≡ false)
unfolding closed
full_from Free count capacity b p same full = rw same (refl, refl)
full_from (Closed way) count capacity b p same full = rw same (refl, refl)
full_from (Open way) count capacity b p same full =
    rw (le-ltb (min (b.written.0 + count) capacity) capacity (omega arith), same) (refl, refl)

pub full_closed : (count capacity : ℕ) (b : Block) (p : ℕ) → capacity ≤ b.written.0 + count
    → (is_open (written_on (adus count) (adus capacity) b) ≡ false) × (is_open_for p (written_on (adus count) (adus capacity) b) ≡ false)
unfolding written_on
full_closed count capacity b p full = full_from b.state count capacity b p refl full

-- ---- The placement's open block

abbrev pub OpenTo : Drive → ℕ → ℕ → ℕ → Option ℕ → Type 0
OpenTo v d p s none = (n : ℕ) → n < s → held_by d (block_at v.table n) ≡ true → is_open_for p (block_at v.table n) ≡ false
OpenTo v d p s (some n) = (n < s) × (held_by d (block_at v.table n) ≡ true) × (is_open_for p (block_at v.table n) ≡ true)

not_placed : (held placed : Bool) → held ≡ true → held && placed ≡ false → placed ≡ false
not_placed held placed h e = rw h at e

to_next : (v : Drive) (d p s : ℕ) (found : Option ℕ)
    → held_by d (block_at v.table s) && is_open_for p (block_at v.table s) ≡ false
    → OpenTo v d p s found → OpenTo v d p (suc s) found
to_next v d p s none e o =
    λ n l held. by_eq n s
    (λ same. rw same (not_placed (held_by d (block_at v.table s)) _ (subst (λ (m : ℕ). held_by d (block_at v.table m) ≡ true) same held) e))
    (λ other. o n (omega arith) held)
to_next v d p s (some n) e o = (omega (arith, o.0), o.1, o.2)

pub open_to : (v : Drive) (d p s : ℕ) → OpenTo v d p s (open_block_to v.table d p s)
unfolding open_block_to
open_to v d p zero = λ n l held. absurd (omega arith)
open_to v d p (suc s) =
    let held = held_by d (block_at v.table s) in
    let placed = is_open_for p (block_at v.table s) in
    by_test (held && placed)
    (λ e. rw e (let h = both held placed e in (omega arith, h.0, h.1)))
    (λ e. rw e (to_next v d p s (open_block_to v.table d p s) e (open_to v d p s)))

-- Where the placement has no open block, its view is 0.
pub none_placed : (v : Drive) (d p : ℕ) → OpenTo v d p (size v.table) none → view (if_placed p) d v ≡ 0
none_placed v d p o = view_none (if_placed p) d v (λ n l held. rw (o n l held))

-- What does not pass weighs nothing.
pub no_weight : {b : Bool} → b ≡ false → ◌≡◌ {A = ℕ} (cond b 1 0) 0
no_weight e = rw e

-- Coverage with fewer blocks is no more.
coverage_grows : (t : Table) (d h k : ℕ) → h ≤ k → coverage_with t d h ≤ coverage_with t d k
coverage_grows t d h k l =
    coverage_le _ _ _ _ (λ e q m. (omega arith, by_test (eqb e d) (λ x. rw x l) (λ x. rw x (omega arith))))

-- ---- Onwards, into blocks that are opened

-- A drive in which so many blocks may be opened for these user addresses.
pub record Onward (d p k : ℕ) (users : List ℕ) (v : Drive) : Type 0 where
  pub low : 1 ≤ d
  pub high : d ≤ 16
  pub facts : Facts v
  pub ready : Ready v.table.config v
  pub domains : length v.table.domains ≡ 16
  pub exists : (domain_at v.table d).exists ≡ true
  pub placement : p < (domain_at v.table d).placements
  pub none_open : 1 ≤ k → view (if_placed p) d v ≡ 0
  pub may_open_lem : 1 ≤ k → open_count v.table d < (domain_at v.table d).limit
  pub quota : held_count v.table d + k ≤ (domain_at v.table d).quota
  pub covers : coverage_with v.table d (held_count v.table d + k) ≤ size v.table
  pub count : Takes (adus_per_block v.table.config).0 k (length users)

-- The next block: it is Free, it is opened for the placement, and as much as it takes is written into it.
module _ {d p k : ℕ} {users : List ℕ} {v : Drive} (o : Onward d p (suc k) users v) where
  abbrev c : Config
  c = v.table.config

  abbrev per_block : ℕ
  per_block = (adus_per_block c).0

  pub next_block : (n : ℕ) × (chosen_block v.table ≡ some n)
  next_block = room_chosen v d (suc k) o.facts o.low o.high o.covers (omega arith)

  module _ (n : ℕ) (chosen : chosen_block v.table ≡ some n) where
    abbrev these : List ℕ
    these = take per_block users

    abbrev opening : Drive
    opening = opened_for d (Placement p) n v

    abbrev filling : Drive
    filling = (written_into d n these opening).drive

    chosen_free : (n < size v.table) × (is_free (block_at v.table n) ≡ true)
    chosen_free = let x = subst (Choice v.table (size v.table)) chosen (choice v.table (size v.table)) in (x.inside, x.free)

    -- It may be opened, ..
    pub next_openable : Openable d n v
    next_openable = record {
      low = o.low;
      high = o.high;
      ready = o.ready;
      domains = o.domains;
      inside = chosen_free.0;
      nobody =
          free_nobody v.table (block_at v.table n).state (block_at v.table n) chosen_free.1
          (o.facts.blocks n chosen_free.0);
    }

    pub open_facts : Facts opening
    open_facts =
        opened_facts next_openable (Placement p) o.facts o.exists
        (lt-ltb p (domain_at v.table d).placements o.placement)
        (omega (arith, o.quota))
        (omega (arith, o.covers, coverage_grows v.table d (held_count v.table d + 1) (held_count v.table d + suc k) (omega arith)))
        (o.may_open_lem (omega arith))
        (λ q e. subst (λ (x : ℕ). view (if_placed x) d v ≡ 0) (eqb-true p q e) (o.none_open (omega arith)))

    open_ready : Ready c opening
    open_ready = opened_ready next_openable (Placement p)

    few : length these ≤ per_block
    few = rw length-take (omega arith)

    -- .. and then written.
    pub next_writable : Writable d n these opening
    next_writable = record {
      low = o.low;
      ready = subst (λ (x : Config). Ready x opening) (sym open_ready.shape) open_ready;
      inside = subst (λ (x : Config). n < x.blocks) (sym open_ready.shape) chosen_free.0;
      held = opened_held next_openable (Placement p);
      fits = rw (opened_record next_openable (Placement p), open_ready.shape) (omega (arith, few));
    }

    pub fill_config : filling.table.config ≡ c
    fill_config = (written_ready next_writable).shape ∙ open_ready.shape

    -- What both together add to a view of the domain.
    fill_adds : (q : Holding → ℕ) → view q d filling ≡ view q d v + q (holding_at filling n)
    fill_adds q =
        let h = view_changed (written_changed next_writable) q d in
        omega (arith, rw (next_writable.held, written_held next_writable) at h, opened_adds next_openable (Placement p) q)

    fill_domain : domain_at filling.table d ≡ with_last (next_serial v.table d) (domain_at v.table d)
    fill_domain =
        ap (λ (rs : List Domain). get_or rs (d - 1) clear_domain) (written_domains next_writable)
        ∙ opened_domain next_openable (Placement p)

    fill_held_count : held_count filling.table d ≡ held_count v.table d + 1
    fill_held_count = omega (arith, held_view v d, held_view filling d, fill_adds one)

    -- A block that is not the last one is full.
    full : 1 ≤ k → (is_open (block_at filling.table n) ≡ false) × (is_open_for p (block_at filling.table n) ≡ false)
    full more =
        let enough : per_block ≤ length these = rw length-take (omega (arith, takes_more per_block k (length users) more o.count)) in
        rw (written_record next_writable)
        (full_closed (length these) (adus_per_block opening.table.config).0 (block_at opening.table n) p
        (rw open_ready.shape (omega (arith, enough))))

    next_sequel : OwnSequel d v filling
    next_sequel =
        sequel_then
        (opened_sequel next_openable (Placement p) open_facts)
        (written_sequel next_writable open_facts)

    pub next_onward : Onward d p k (drop per_block users) filling
    next_onward = record {
      low = o.low;
      high = o.high;
      facts = next_sequel.sequel.facts;
      ready = subst (λ (x : Config). Ready x filling) (sym (written_ready next_writable).shape) (written_ready next_writable);
      domains = next_sequel.sequel.domains ∙ o.domains;
      exists = ap (λ (r : Domain). r.exists) fill_domain ∙ o.exists;
      placement = rw fill_domain o.placement;
      none_open = λ more. omega (arith, fill_adds (if_placed p), o.none_open (omega arith), no_weight (full more).1);
      may_open_lem = λ more.
          rw fill_domain
          (omega (arith, open_view v d, open_view filling d, fill_adds if_open, o.may_open_lem (omega arith), no_weight (full more).0));
      quota = rw fill_domain (omega (arith, fill_held_count, o.quota));
      covers =
          omega (
            arith,
            o.covers,
            ap (λ (x : Config). x.blocks) fill_config,
            ap (λ (h : ℕ). coverage_with filling.table d (h + k)) fill_held_count,
            coverage_changed (written_changed next_writable) (held_count v.table d + 1 + k),
            coverage_changed (opened_changed next_openable (Placement p)) (held_count v.table d + 1 + k),
            ap (λ (h : ℕ). coverage_with v.table d h) (onemore (held_count v.table d)),
          );
      count =
          subst (λ (x : Config). Takes (adus_per_block x).0 k (length (drop per_block users))) (sym fill_config)
          (rw length-drop (takes_next per_block k (length users) o.count));
    }
      where
        onemore : (h : ℕ) → h + 1 + k ≡ h + suc k
        onemore h = omega arith

pub onward_sequel : (d p k : ℕ) (users : List ℕ) (v : Drive) → Onward d p k users v → OwnSequel d v (written_onwards d p k users v).drive
onward_sequel d p zero users v o =
    subst (λ (w : Written). OwnSequel d v w.drive) (sym (onwards_zero v.table.config d p users v)) (same_sequel d v o.facts)
onward_sequel d p (suc k) users v o =
    let n = (next_block o).0 in
    let chosen = (next_block o).1 in
    let next = written_into d n (take (adus_per_block v.table.config).0 users) (opened_for d (Placement p) n v) in
    subst (λ (w : Written). OwnSequel d v w.drive) (sym (onwards_some v.table.config d p k n users v o.ready chosen))
    (sequel_then (next_sequel o n chosen)
    (onward_sequel d p k (drop (adus_per_block v.table.config).0 users) next.drive (next_onward o n chosen)))

-- Every user address gets its flash address, and so many blocks more are held.
pub onward_all : (d p k : ℕ) (users : List ℕ) (v : Drive) → Onward d p k users v
    → (length (written_onwards d p k users v).addresses ≡ length users)
    × (held_count (written_onwards d p k users v).drive.table d ≡ held_count v.table d + k)
onward_all d p zero users v o =
    subst (λ (w : Written). (length w.addresses ≡ length users) × (held_count w.drive.table d ≡ held_count v.table d + 0))
    (sym (onwards_zero v.table.config d p users v)) (sym o.count, omega arith)
onward_all d p (suc k) users v o =
    let c = v.table.config in
    let n = (next_block o).0 in
    let chosen = (next_block o).1 in
    let first = written_into d n (take (adus_per_block c).0 users) (opened_for d (Placement p) n v) in
    let rest = onward_all d p k (drop (adus_per_block c).0 users) first.drive (next_onward o n chosen) in
    subst (λ (w : Written). (length w.addresses ≡ length users) × (held_count w.drive.table d ≡ held_count v.table d + suc k))
    (sym (onwards_some c d p k n users v o.ready chosen)) (
      rw length-append
          (omega (
            arith,
            written_length d n (take (adus_per_block c).0 users) (opened_for d (Placement p) n v),
            rest.0,
            length-take (adus_per_block c).0 users,
            length-drop (adus_per_block c).0 users,
          )),
      omega (arith, rest.1, fill_held_count o n chosen),
    )
