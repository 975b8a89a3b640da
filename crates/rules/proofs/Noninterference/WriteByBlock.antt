-- The same Write by block in two drives that the domain cannot tell apart.
use Prim.Native.Nat.{ℕ, ◌+◌, ◌<◌}
use mathlib.Core.Bool.{Bool, true, ◌&&◌}
use mathlib.Core.List.{List, [], map}
use mathlib.Core.Path.{◌≡◌, refl, sym, ap, ap₂, ◌∙◌, subst}
use lib.Dec.{leb}
use lib.ListN.{length}
use borrow.Author.Tests.{lt-ltb}
use Rattle.geometry.proofs.Laws.Shape.{both, limits}
use Rattle.geometry.specs.Address.{is_block}
use Rattle.geometry.specs.Shape.{adus_per_block, within_limits}
use Rattle.geometry.specs.declared.shape.Adus.{Adus}
use Rattle.geometry.specs.declared.shape.Config.{Config}
use Rattle.model.specs.declared.command.Command.TheVariants.{WriteByBlock}
use Rattle.rules.specs.Blocks.{user_addresses, written_into}
use Rattle.rules.specs.Calls.{Call, ◌asking◌}
use Rattle.rules.specs.Drive.{Drive, is_erased_state, size}
use Rattle.rules.specs.Effects.{effect, verdict}
use Rattle.rules.specs.Observation.{Address, Holding, Holds, Name, Observation, ReadBytes, ReadValues, ReadWords, address_of, holding_at, name_of}
use Rattle.rules.specs.Questions.{is_count}
use Rattle.rules.proofs.Kept.Asked.{block_asked}
use Rattle.rules.proofs.Kept.Calls.{course_fit}
use Rattle.rules.proofs.Kept.Changes.{Writable, written_changed, written_held, written_ready}
use Rattle.rules.proofs.Kept.Views.{Alike}
use Rattle.rules.proofs.Noninterference.Addresses.{addresses_as, read_written}
use Rattle.rules.proofs.Noninterference.Blocks.{written_alike, written_same}
use Rattle.rules.proofs.Noninterference.Common.{Pair, first_same, holding_same, inside_same, own_same, same_name}
use Rattle.rules.proofs.Noninterference.Twins.{Twin, ask_same, told}

-- The flash addresses of the same user addresses in two blocks with one holding.
module _ {a n m : ℕ} {users : List ℕ} {v w : Drive} (s : Alike a v w) (x : Writable a n users v) (y : Writable a m users w)
    (same : holding_at v n ≡ holding_at w m) where
  -- The addresses read the same in any later drives of the same shape in which the two blocks have one name.
  pub written_read : (u z : Drive) → within_limits v.table.config ≡ true
      → u.table.config ≡ v.table.config → z.table.config ≡ w.table.config
      → name_of a u n ≡ name_of a z m
      → map (address_of a u) (written_into a n users v).addresses ≡ map (address_of a z) (written_into a m users w).addresses
  written_read u z within shape shape' names =
      read_written a v.table.config (limits v.table.config within) u v a n users shape refl x.inside x.fits
      ∙ ap₂ (λ (k : Name) (h : Holding). addresses_as a k h.written (length users)) names same
      ∙ sym (read_written a w.table.config (limits w.table.config (subst (λ (c : Config). within_limits c ≡ true) s.config within))
      z w a m users shape' refl y.inside y.fits)

-- The drive after a write into a block: of the same shape, and the block is still held.
pub into_config : {a n : ℕ} {users : List ℕ} {v : Drive} → Writable a n users v → (written_into a n users v).drive.table.config ≡ v.table.config
into_config x = (written_changed x).config

pub into_holds : {a n : ℕ} {users : List ℕ} {v : Drive} → Writable a n users v → Holds a (written_into a n users v).drive n
into_holds {a} {n} {users} {v} x = (subst (λ (e : Config). n < e.blocks) (sym (into_config x)) x.inside, written_held x)

-- A write's answer: its addresses.
abbrev pub addresses_told : List Address → Observation
addresses_told addresses = record {
  number = 0;
  values = ReadValues.numbers [];
  words = ReadWords.addresses addresses;
  bytes = ReadBytes.plain [];
}

-- ---- Write by block

module _ {a : ℕ} {v w : Drive} (p : Pair a v w) (call : Call) (n m start : ℕ) (count : Adus) (same : name_of a v n ≡ name_of a w m) where
  write_verdicts : verdict v (call asking WriteByBlock a n start count) ≡ verdict w (call asking WriteByBlock a m start count)
  write_verdicts =
      first_same p call (WriteByBlock a n start count) (WriteByBlock a m start count) refl refl refl (λ e5.
      ask_same _ _ _ _ _ (ap (λ (b : Bool). b && is_count count) (inside_same p n m same)) (λ e6.
      let inside = (both (is_block v.table.config n) (is_count count) e6).0 in
      ask_same _ _ _ _ _ refl (λ e7.
      ask_same _ _ _ _ _ refl (λ e8.
      ask_same _ _ _ _ _ (own_same p n m same inside) (λ e9.
      let h = holding_same p n m same inside e9 in
      ask_same _ _ _ _ _ (ap (λ (x : Holding). is_erased_state x.state) h) (λ e10.
      ask_same _ _ _ _ _ (ap₂ (λ (x : Holding) (c : Config). leb (x.written + count.0) (adus_per_block c).0) h p.alike.config) (λ e15.
      refl)))))))

  abbrev users : List ℕ
  users = user_addresses start count.0

  module _ (e : verdict v (call asking WriteByBlock a n start count) ≡ 0) (f : verdict w (call asking WriteByBlock a m start count) ≡ 0) where
    left : Writable a n users v
    left = block_asked v call (course_fit p.left call) a n start count e

    right : Writable a m users w
    right = block_asked w call (course_fit p.right call) a m start count f

    one_holding : holding_at v n ≡ holding_at w m
    one_holding = holding_same p n m same (lt-ltb n (size v.table) left.inside) left.held

    block_alike : Alike a (effect v (call asking WriteByBlock a n start count)).drive (effect w (call asking WriteByBlock a m start count)).drive
    unfolding effect
    block_alike = written_alike p.alike left right one_holding

    block_told_lem : told a v (call asking WriteByBlock a n start count) ≡ told a w (call asking WriteByBlock a m start count)
    unfolding effect
    block_told_lem =
        ap (λ (l : List Address). addresses_told l)
        (written_read p.alike left right one_holding (written_into a n users v).drive (written_into a m users w).drive p.left.facts.limits
        (written_ready left).shape
        (written_ready right).shape
        (same_name a (written_into a n users v).drive (written_into a m users w).drive n m (into_holds left) (into_holds right)
        (ap (λ (h : Holding). h.serial) (written_same p.alike left right one_holding))))

  pub write_block_twin : Twin a v w (call asking WriteByBlock a n start count) (call asking WriteByBlock a m start count)
  write_block_twin = record {
    reading = refl;
    verdicts = write_verdicts;
    after = λ e f. block_alike e f;
    telling = λ e f. block_told_lem e f;
  }
