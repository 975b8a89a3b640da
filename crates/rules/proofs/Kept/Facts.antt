-- The clauses of soundness as facts: of each domain, of each block, and of views where a clause speaks of every two blocks.
-- `facts_of` and `facts_sound` tie them to the test.
use Prim.Native.Nat.{ℕ, ◌≤◌, ◌<◌}
use mathlib.Core.Bool.{true, false}
use mathlib.Core.Path.{◌≡◌}
use native.Mathlib.Omega.{arith}
use Rattle.geometry.specs.Shape.{adus_per_block, within_limits}
use Rattle.model.specs.declared.block.Block.{Block}
use Rattle.model.specs.declared.block.State.{State}
use Rattle.model.specs.declared.block.State.TheVariants.{Closed, Free, Open}
use Rattle.model.specs.declared.table.Domain.{Domain}
use Rattle.model.specs.declared.table.Table.{Table}
use Rattle.rules.specs.Domains.{coverage, instead, reserved_by}
use Rattle.rules.specs.Drive.{Drive, block_at, capacity, clear_domain, domain_at, held_count}
use Rattle.rules.specs.Drive.{open_count, size}
use Rattle.rules.specs.Soundness.{state_below}
use Rattle.rules.proofs.Kept.Views.{if_placed, if_serial, view}

-- ---- One domain: its record, with the blocks that it holds and has open, on a drive of so many

-- An existing domain's placements and open blocks.
pub record Existing (r : Domain) (opens : ℕ) : Type 0 where
  pub some_placement : 1 ≤ r.placements
  pub few_placements : r.placements ≤ 16
  pub enough : r.placements ≤ r.limit
  pub most : r.limit ≤ 256
  pub within : opens ≤ r.limit

pub record SoundDomain (blocks held opened : ℕ) (r : Domain) : Type 0 where
  pub order : r.reserved ≤ r.quota
  pub fits : r.quota ≤ blocks
  pub within : held ≤ r.quota
  pub existing : r.exists ≡ true → Existing r opened
  pub missing : r.exists ≡ false → r ≡ clear_domain

-- ---- One block: its record, with that of its holder, its capacity and the open period

-- A block that is not Free has a holder that exists, one of its serials and one of its placements.
pub record OwnedBy (r : Domain) (b : Block) : Type 0 where
  pub low : 1 ≤ b.holder
  pub high : b.holder ≤ 16
  pub exists : r.exists ≡ true
  pub first : 1 ≤ b.serial
  pub last : b.serial ≤ r.last
  pub below : state_below r.placements b.state ≡ true

pub record FreeFacts (b : Block) : Type 0 where
  pub holder : b.holder ≡ 0
  pub written : b.written.0 ≡ 0
  pub left : b.left ≡ 0
  pub serial : b.serial ≡ 0

pub record SoundOpen (capacity period : ℕ) (r : Domain) (b : Block) : Type 0 where
  pub owned : OwnedBy r b
  pub written : b.written.0 < capacity
  pub some_left : 1 ≤ b.left
  pub left : b.left ≤ period

pub record SoundClosed (capacity : ℕ) (r : Domain) (b : Block) : Type 0 where
  pub owned : OwnedBy r b
  pub written : b.written.0 ≤ capacity
  pub left : b.left ≡ 0

abbrev pub SoundIn : State → ℕ → ℕ → Domain → Block → Type 0
SoundIn Free capacity period r b = FreeFacts b
SoundIn (Open way) capacity period r b = SoundOpen capacity period r b
SoundIn (Closed way) capacity period r b = SoundClosed capacity r b

abbrev pub SoundBlock : ℕ → ℕ → Domain → Block → Type 0
SoundBlock capacity period r b = SoundIn b.state capacity period r b

-- ---- A drive

-- The same of a table's domains and of its blocks, which all have one capacity.
abbrev pub DomainFacts : Table → ℕ → Type 0
DomainFacts t d = SoundDomain (size t) (held_count t d) (open_count t d) (domain_at t d)

abbrev pub Owned : Table → Block → Type 0
Owned t b = OwnedBy (domain_at t b.holder) b

abbrev pub OpenFacts : Table → Block → Type 0
OpenFacts t b = SoundOpen (adus_per_block t.config).0 t.config.period (domain_at t b.holder) b

abbrev pub StateFacts : Table → State → Block → Type 0
StateFacts t s b = SoundIn s (adus_per_block t.config).0 t.config.period (domain_at t b.holder) b

abbrev pub BlockFacts : Table → Block → Type 0
BlockFacts t b = StateFacts t b.state b

pub record Facts (v : Drive) : Type 0 where
  pub limits : within_limits v.table.config ≡ true
  pub domains : (d : ℕ) → 1 ≤ d → d ≤ 16 → DomainFacts v.table d
  pub covers : coverage (reserved_by v.table) (held_count v.table) ≤ size v.table
  pub unique : (d s : ℕ) → 1 ≤ d → view (if_serial s) d v ≤ 1
  pub single : (d p : ℕ) → 1 ≤ d → view (if_placed p) d v ≤ 1
  pub blocks : (n : ℕ) → n < size v.table
      → let b = block_at v.table n in
      SoundBlock (capacity v.table n).0 v.table.config.period (domain_at v.table b.holder) b

-- The coverage sum that question 14 looks at, with so many blocks for the domain.
abbrev pub coverage_with : Table → ℕ → ℕ → ℕ
coverage_with t d h = coverage (instead d (domain_at t d).reserved (reserved_by t)) (instead d h (held_count t))

-- No block has more written than it holds.
pub written_most : (t : Table) (s : State) (b : Block) → StateFacts t s b → b.written.0 ≤ (adus_per_block t.config).0
written_most t Free b f = omega (arith, f.written)
written_most t (Open way) b f = omega (arith, f.written)
written_most t (Closed way) b f = f.written
