-- The same Close, Free, Erase or Write by block in two drives that the domain cannot tell apart.
use Prim.Native.Nat.{ℕ, ◌+◌, ◌-◌}
use mathlib.Core.Bool.{true}
use mathlib.Core.List.{List, [], ◌∷◌}
use mathlib.Core.Path.{◌≡◌, refl, sym, ap, ap₂, ◌∙◌}
use lib.ListN.{get_or, replicate}
use borrow.Author.Tests.{lt-ltb, ltb-true}
use Rattle.geometry.specs.Address.{is_block}
use Rattle.geometry.specs.Questions.{first_no}
use Rattle.geometry.specs.Shape.{adus_per_block}
use Rattle.geometry.specs.declared.shape.Config.{Config}
use Rattle.model.specs.declared.block.Block.{Block}
use Rattle.model.specs.declared.block.State.TheVariants as state
use Rattle.model.specs.declared.block.Way.{Way}
use Rattle.model.specs.declared.command.Command.TheVariants.{Close, Free}
use Rattle.model.specs.declared.table.Domain.{Domain}
use Rattle.rules.specs.Blocks.{all_ones, closed_at, next_serial, opened_for, with_last, written_into}
use Rattle.rules.specs.Calls.{Call, ◌asking◌}
use Rattle.rules.specs.Drive.{Drive, block_at, capacity, clear_domain, entries_of, held_by, size}
use Rattle.rules.specs.Effects.{effect}
use Rattle.rules.specs.Observation.{Holding, Name, Observation, ReadBytes, ReadValues, ReadWords, holding_at, name_of}
use Rattle.rules.specs.Questions.{held_block_questions}
use Rattle.rules.proofs.Kept.Asked.{close_asked, free_asked}
use Rattle.rules.proofs.Kept.Calls.{course_fit}
use Rattle.rules.proofs.Kept.Changes.{HeldBlock, Openable, Writable, closed_changed, closed_found, closed_held, freed_changed, freed_not_held, not_held, opened_changed, opened_domain, opened_held, opened_record, written_changed, written_domains, written_held, written_record}
use Rattle.rules.proofs.Kept.Entries.{entries_opened, entries_written}
use Rattle.rules.proofs.Kept.Fit.{Fit, fit_blocks}
use Rattle.rules.proofs.Kept.Holdings.{closed_seen, closed_holding, seen_of, written_seen, written_holding}
use Rattle.rules.proofs.Kept.Views.{Alike, alike_changed, weight}
use Rattle.rules.proofs.Noninterference.Common.{Pair, first_same, holding_same, inside_other, inside_same, own_other, own_same, same_name}
use Rattle.rules.proofs.Noninterference.Twins.{Twin, ask_same, told}

-- A closed block, a written one and an opened one as their domain sees them.
close_holding : {d n : ℕ} {v : Drive} → HeldBlock d n v
    → holding_at (record { table = closed_at n v.table; store = v.store }) n ≡ closed_holding (holding_at v n)
unfolding entries_of
close_holding {d} {n} {v} h =
    let b = block_at v.table n in
    rw (closed_found h)
    (closed_seen b.state b.holder b.written b.left b.erases b.serial (entries_of v n))

pub fill_holding : {d n : ℕ} {users : List ℕ} {v : Drive} → Writable d n users v
    → holding_at (written_into d n users v).drive n ≡ written_holding users (capacity v.table n).0 (holding_at v n)
fill_holding {d} {n} {users} {v} x =
    let b = block_at v.table n in
    ap₂ (λ (y : Block) (es : List ℕ). seen_of y es)
    (written_record x)
    (entries_written v.table.config d n users v x.ready x.inside x.fits)
    ∙ (written_seen b.state b.holder b.written b.left b.erases b.serial users (entries_of v n) (capacity v.table n).0)

abbrev pub fresh_holding : Config → Way → ℕ → Holding
fresh_holding c way serial = record {
  serial = serial;
  state = state.Open way;
  written = 0;
  left = c.period;
  entries = replicate (adus_per_block c).0 all_ones;
}

pub open_holding : {d n : ℕ} {v : Drive} → Openable d n v → (way : Way)
    → holding_at (opened_for d way n v) n ≡ fresh_holding v.table.config way (next_serial v.table d)
open_holding {d} {n} {v} o way =
    rw (opened_record o way, entries_opened v.table.config d way n v o.ready o.inside)

-- ---- The same is done to two blocks with one holding, or to two that nobody holds

module _ {a n m : ℕ} {users : List ℕ} {v w : Drive} (s : Alike a v w) (x : Writable a n users v) (y : Writable a m users w)
    (same : holding_at v n ≡ holding_at w m) where
  pub written_same : holding_at (written_into a n users v).drive n ≡ holding_at (written_into a m users w).drive m
  written_same =
      fill_holding x
      ∙ ap₂ (λ (c : Config) (h : Holding). written_holding users (adus_per_block c).0 h) s.config same
      ∙ sym (fill_holding y)

  pub written_alike : Alike a (written_into a n users v).drive (written_into a m users w).drive
  written_alike =
      alike_changed s (written_changed x) (written_changed y)
      (λ q. rw (x.held, y.held) (ap q same))
      (λ q. rw (written_held x, written_held y) (ap q written_same))
      (ap (λ (rs : List Domain). get_or rs (a - 1) clear_domain) (written_domains x)
      ∙ s.domain
      ∙ sym (ap (λ (rs : List Domain). get_or rs (a - 1) clear_domain) (written_domains y)))

module _ {a n m : ℕ} {v w : Drive} (s : Alike a v w) (x : Openable a n v) (y : Openable a m w) (way : Way) where
  pub opened_same : holding_at (opened_for a way n v) n ≡ holding_at (opened_for a way m w) m
  opened_same =
      open_holding x way
      ∙ ap₂ (λ (c : Config) (r : Domain). fresh_holding c way (r.last + 1)) s.config s.domain
      ∙ sym (open_holding y way)

  pub opened_alike : Alike a (opened_for a way n v) (opened_for a way m w)
  opened_alike =
      alike_changed s (opened_changed x way) (opened_changed y way)
      (λ q. rw (not_held x way, not_held y way))
      (λ q. rw (opened_held x way, opened_held y way) (ap q opened_same))
      (opened_domain x way ∙ ap (λ (r : Domain). with_last (r.last + 1) r) s.domain ∙ sym (opened_domain y way))

-- An answer of one block, by name, with nothing filled.
abbrev pub block_told : Name → Observation
block_told name = record {
  number = 0;
  values = ReadValues.blocks (name ∷ []);
  words = ReadWords.plain [];
  bytes = ReadBytes.plain [];
}

abbrev closing : Drive → ℕ → Drive
closing v n = record { table = closed_at n v.table; store = v.store }

module _ {a : ℕ} {v w : Drive} (p : Pair a v w) (call : Call) where
  fit_left : Fit v call
  fit_left = course_fit p.left call

  fit_right : Fit w call
  fit_right = course_fit p.right call

  -- ---- Close

  module _ (n m : ℕ) (same : name_of a v n ≡ name_of a w m) where
    -- What Close and Free are asked of the block.
    block_asked_same : first_no (held_block_questions v.table a n) ≡ first_no (held_block_questions w.table a m)
    block_asked_same =
        ask_same _ _ _ _ _ (inside_same p n m same) (λ e6.
        ask_same _ _ _ _ _ (own_same p n m same e6) (λ e9. refl))

    module _ (inside : is_block v.table.config n ≡ true) (own : held_by a (block_at v.table n) ≡ true) where
      one_block : HeldBlock a n v
      one_block = record {
        low = p.low;
        inside = ltb-true n (size v.table) inside;
        whole = fit_blocks fit_left;
        held = own;
      }

      other_block : HeldBlock a m w
      other_block = record {
        low = p.low;
        inside = ltb-true m (size w.table) (inside_other p n m same inside);
        whole = fit_blocks fit_right;
        held = own_other p n m same inside own;
      }

      old_weights : (q : Holding → ℕ) → weight q a v n ≡ weight q a w m
      old_weights q = rw (own, other_block.held) (ap q (holding_same p n m same inside own))

      closed_same : holding_at (effect v (call asking Close a n)).drive n ≡ holding_at (effect w (call asking Close a m)).drive m
      unfolding effect
      closed_same =
          close_holding one_block
          ∙ ap (λ (h : Holding). closed_holding h) (holding_same p n m same inside own)
          ∙ sym (close_holding other_block)

      closed_alike : Alike a (effect v (call asking Close a n)).drive (effect w (call asking Close a m)).drive
      unfolding effect
      closed_alike =
          alike_changed p.alike (closed_changed one_block) (closed_changed other_block) old_weights
          (λ q. rw (closed_held one_block, closed_held other_block) (ap q closed_same))
          p.alike.domain

      closed_told : told a v (call asking Close a n) ≡ told a w (call asking Close a m)
      unfolding effect
      closed_told =
          ap (λ (x : Name). block_told x)
          (same_name a (closing v n) (closing w m) n m (one_block.inside, closed_held one_block) (other_block.inside, closed_held other_block)
          (ap (λ (h : Holding). h.serial) closed_same))

      pub freed_alike : Alike a (effect v (call asking Free a n)).drive (effect w (call asking Free a m)).drive
      unfolding effect
      freed_alike =
          alike_changed p.alike (freed_changed one_block) (freed_changed other_block) old_weights
          (λ q. rw (freed_not_held one_block, freed_not_held other_block))
          p.alike.domain

      freed_told : told a v (call asking Free a n) ≡ told a w (call asking Free a m)
      unfolding effect
      freed_told = ap (λ (x : Name). block_told x) same

    pub close_twin : Twin a v w (call asking Close a n) (call asking Close a m)
    close_twin = record {
      reading = refl;
      verdicts = first_same p call (Close a n) (Close a m) refl refl refl (λ e5. block_asked_same);
      after = λ e f. let x = close_asked v call fit_left a n e in closed_alike (lt-ltb n (size v.table) x.inside) x.held;
      telling = λ e f. let x = close_asked v call fit_left a n e in closed_told (lt-ltb n (size v.table) x.inside) x.held;
    }

    pub free_twin : Twin a v w (call asking Free a n) (call asking Free a m)
    free_twin = record {
      reading = refl;
      verdicts = first_same p call (Free a n) (Free a m) refl refl refl (λ e5. block_asked_same);
      after = λ e f. let x = free_asked v call fit_left a n e in freed_alike (lt-ltb n (size v.table) x.inside) x.held;
      telling = λ e f. let x = free_asked v call fit_left a n e in freed_told (lt-ltb n (size v.table) x.inside) x.held;
    }
