-- What is tested of a block, piece by piece, comes to its clauses.
use Prim.Native.Nat.{ℕ, ◌+◌}
use mathlib.Core.Bool.{Bool, true, false, true≢false, ◌&&◌, cond}
use mathlib.Core.List.{List}
use mathlib.Core.Path.{◌≡◌, refl, sym, ap, ◌∙◌}
use lib.Dec.{eqb, leb, ltb}
use lib.ListN.{length, length-set}
use Rattle.geometry.specs.Shape.{between}
use Rattle.model.specs.declared.block.Block.{Block}
use Rattle.model.specs.declared.block.State.{State}
use Rattle.model.specs.declared.block.State.TheVariants.{Closed, Open}
use Rattle.model.specs.declared.block.Way.{Way}
use Rattle.model.specs.declared.block.Way.TheVariants.{Erase, Placement}
use Rattle.model.specs.declared.table.Domain.{Domain}
use Rattle.rules.specs.Soundness.{block_sound, holder_exists, serial_given, way_below}
use Rattle.scan.specs.Clauses.{domain_index, place_in, place_of}
use Rattle.scan.specs.Marks.{raised}
use Rattle.scan.specs.Scan.{HeldTested, OpenTested, closed_tested, place_free, way_place}
use Rattle.scan.specs.declared.scan.Subject.{Subject}

-- ---- A block

-- An open block, ..
pub open_held : (s : Subject) (n at : ℕ) (b : Block) (r : Domain) (way : Way) (ok : Bool) (m after : List ℕ) → b.state ≡ Open way
    → serial_given r b && holder_exists r b ≡ true → at ≡ domain_index b.holder → OpenTested s n at b r.placements way ok (raised at m) after
    → HeldTested s n b r ok m after
unfolding block_sound place_of
open_held s n at b r way ok m after e owned is t =
    let h = b.holder in
    let m1 = raised (domain_index h) m in
    let here : place_in b.state h ≡ way_place h way = ap (λ (x : State). place_in x h) e ∙ place way in
    let t1 : OpenTested s n (domain_index h) b r.placements way ok m1 after = rw (← is) t in
    record {
      entries = t1.entries ∙ length-set m (domain_index h) _;
      tells = t1.tells ∙ sym (rw (owned, here, e) (swap (ltb b.written.0 s.capacity.0 && between 1 s.period b.left) (way_below r.placements way)
          (place_free (raised (16 + domain_index h) m1) (way_place h way))));
      noted = λ f. t1.taken f ∙ sym (rw (here, e));
    }
  where
    place : (way : Way) → place_in (Open way) b.holder ≡ way_place b.holder way
    place Erase = refl
    place (Placement p) = refl

    swap : (kept below free : Bool) → true && below && kept && true && free ≡ cond kept (below && free) false
    swap true true free = refl
    swap true false free = refl
    swap false true free = refl
    swap false false free = refl

-- .. a Closed one, ..
pub closed_held : (s : Subject) (n at : ℕ) (b : Block) (r : Domain) (way : Way) (ok : Bool) (m : List ℕ) → b.state ≡ Closed way
    → serial_given r b && holder_exists r b ≡ true → at ≡ domain_index b.holder → ok ≡ closed_tested s b r.placements way
    → HeldTested s n b r ok m (raised at m)
unfolding block_sound place_of
closed_held s n at b r way ok m e owned is t = rw is (record {
  entries = length-set m (domain_index b.holder) _;
  tells = t ∙ sym (rw (owned, e) (swap (leb b.written.0 s.capacity.0 && eqb b.left 0) (way_below r.placements way)));
  noted = λ f. sym (rw e);
})
  where
    swap : (kept below : Bool) → true && below && kept && true && true ≡ cond kept below false
    swap true true = refl
    swap true false = refl
    swap false true = refl
    swap false false = refl

-- .. and one that no domain owns.
pub unowned : (s : Subject) (n : ℕ) (b : Block) (r : Domain) (m after : List ℕ) → length after ≡ length m → serial_given r b && holder_exists r b ≡ false
    → HeldTested s n b r false m after
unfolding block_sound
unowned s n b r m after long e = record { entries = long; tells = sym (rw e); noted = λ f. absurd (true≢false (sym f)) }
