-- The scan of the blocks: what one step tests and counts.
use Rattle.std.specs.Prelude.{ℕ, ◌+◌, Bool, true, false, ◌&&◌, ◌||◌, cond, List, [], ◌∷◌, ◌≡◌, eqb, leb, ltb, get_or, length, set, Option, Some, None}
use Rattle.geometry.specs.Shape.{between}
use Rattle.model.specs.declared.block.Block.{Block}
use Rattle.model.specs.declared.block.Way.{Way}
use Rattle.model.specs.declared.block.Way.TheVariants.{Erase, Placement}
use Rattle.model.specs.declared.table.Domain.{Domain}
use Rattle.rules.specs.Drive.{clear_domain, is_free, is_open}
use Rattle.rules.specs.Soundness.{block_sound, is_clear, way_below}
use Rattle.scan.specs.Clauses.{domain_index, key_of, place_for, place_of}
use Rattle.scan.specs.Marks.{Linked, chain_differs, mark, raised}
use Rattle.scan.specs.declared.scan.Subject.{Subject}

-- ---- The tests of a block

-- The clauses of a block, with the record of its holder.
abbrev pub is_sound_in : Subject → Block → Domain → Bool
is_sound_in s b r = block_sound s.capacity.0 s.period r b

-- No block is open at the place of this one; 256 is no place.
abbrev pub place_free : List ℕ → ℕ → Bool
place_free marks place = eqb place 256 || eqb (mark marks (32 + place)) 0

abbrev pub place_set : ℕ → ℕ → List ℕ → List ℕ
place_set place n marks = cond (ltb place 256) (set marks (32 + place) (n + 1)) marks

-- The place of a block that is open in a way.
abbrev pub way_place : ℕ → Way → ℕ
way_place holder Erase = 256
way_place holder (Placement p) = place_for holder p

pub record WayTaken (placements holder : ℕ) (way : Way) (n : ℕ) (ok : Bool) (before after : List ℕ) : Type 0 where
  pub entries : length after ≡ length before
  pub tells : ok ≡ way_below placements way && place_free before (way_place holder way)
  pub taken : ok ≡ true → after ≡ place_set (way_place holder way) n before

-- An open block with its placement counted and in its place; and a Closed one.
pub record OpenTested (s : Subject) (n at : ℕ) (b : Block) (placements : ℕ) (way : Way) (ok : Bool) (before after : List ℕ) : Type 0 where
  pub entries : length after ≡ length before
  pub tells : ok
      ≡ cond (ltb b.written.0 s.capacity.0 && between 1 s.period b.left)
      (way_below placements way && place_free (raised (16 + at) before) (way_place b.holder way))
      false
  pub taken : ok ≡ true → after ≡ place_set (way_place b.holder way) n (raised (16 + at) before)

abbrev pub closed_tested : Subject → Block → ℕ → Way → Bool
closed_tested s b placements way = cond (leb b.written.0 s.capacity.0 && eqb b.left 0) (way_below placements way) false

-- The marks with one block more, which a domain holds.
abbrev pub open_raised : Block → List ℕ → List ℕ
open_raised b marks = cond (is_open b) (raised (16 + domain_index b.holder) marks) marks

abbrev pub counted : Block → List ℕ → List ℕ
counted b marks = open_raised b (raised (domain_index b.holder) marks)

-- Its clauses hold and its place is free: it is counted, and takes its place.
pub record HeldTested (s : Subject) (n : ℕ) (b : Block) (r : Domain) (ok : Bool) (before after : List ℕ) : Type 0 where
  pub entries : length after ≡ length before
  pub tells : ok ≡ is_sound_in s b r && place_free (counted b before) (place_of b)
  pub noted : ok ≡ true → after ≡ place_set (place_of b) n (counted b before)

-- ---- The steps

-- A block that a domain holds: it is tested, and ends the chain of its key, if it is sound.
pub record HeldScanned (s : Subject) (n : ℕ) (b : Block) (r : Domain) (last : Option ℕ) (before after : List ℕ) : Type 0 where
  pub refused : is_sound_in s b r && place_free (counted b before) (place_of b) ≡ false → last ≡ None
  pub linked : is_sound_in s b r && place_free (counted b before) (place_of b) ≡ true
      → (k : ℕ) × (last ≡ Some k) × Linked n (key_of b.holder b.serial) k (place_set (place_of b) n (counted b before)) after

pub record Scanned (s : Subject) (n : ℕ) (b : Block) (r : Domain) (last : Option ℕ) (before after : List ℕ) : Type 0 where
  pub entries : length after ≡ length before
  pub free : is_free b ≡ true → (last ≡ cond (is_clear b) (Some 0) None) × (after ≡ before)
  pub held : is_free b ≡ false → HeldScanned s n b r last before after

-- One block: where the scan gives another, the chain from it on has not its serial.
abbrev pub chain_passes : List Block → List ℕ → Block → Option ℕ → Bool
chain_passes bs marks b None = false
chain_passes bs marks b (Some last) = chain_differs bs marks b last

-- A step for each block of bs from number n on, among all the blocks, with the record of its holder among those of the domains; until one
-- is not sound.
unfoldable pub Walked : Subject → List Domain → List Block → ℕ → List Block → Bool → List ℕ → List ℕ → Type 0
Walked s rs all n [] ok x y = (ok ≡ true) × (y ≡ x)
Walked s rs all n (b ∷ bs) ok x y =
    (last : Option ℕ) × (z : List ℕ) × Scanned s n b (get_or rs (domain_index b.holder) clear_domain) last x z
    × (chain_passes all z b last ≡ false → (ok ≡ false) × (y ≡ z))
    × (chain_passes all z b last ≡ true → Walked s rs all (n + 1) bs ok z y)
