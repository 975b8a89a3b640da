-- What an accepted Close, Free, Write by block and Write by placement was asked, and that each leaves a sound table sound.
use Prim.Native.Nat.{ℕ, ◌+◌}
use mathlib.Core.Path.{◌≡◌}
use lib.Dec.{ltb}
use lib.ListN.{length}
use borrow.Author.Tests.{leb-true, ltb-true}
use Rattle.geometry.proofs.Laws.Shape.{both, is_between}
use Rattle.geometry.specs.Address.{is_block}
use Rattle.geometry.specs.declared.shape.Adus.{Adus}
use Rattle.model.specs.declared.command.Command.TheVariants.{Close, Free, WriteByBlock, WriteByPlacement}
use Rattle.model.specs.declared.table.Table.{Table}
use Rattle.rules.specs.Blocks.{new_blocks, user_address, user_addresses}
use Rattle.rules.specs.Calls.{Call, ◌asking◌}
use Rattle.rules.specs.Drive.{Drive, block_at, capacity, domain_at, held_count, size}
use Rattle.rules.specs.Effects.{effect, questions, verdict}
use Rattle.rules.specs.Questions.{is_count}
use Rattle.rules.proofs.Counting.{length_row}
use Rattle.rules.proofs.Kept.Changes.{HeldBlock, Writable, closed_sequel, freed_sequel, written_sequel}
use Rattle.rules.proofs.Kept.Facts.{coverage_with}
use Rattle.rules.proofs.Kept.Fit.{Fit, fit_blocks, fit_ready}
use Rattle.rules.proofs.Kept.Placement.{Asked, placement_sequel}
use Rattle.rules.proofs.Kept.Sequel.{OwnSequel}
use Rattle.rules.proofs.Questions.{answered_yes}

module _ (v : Drive) (call : Call) (fit : Fit v call) where
  abbrev t : Table
  t = v.table

  pub close_asked : (d n : ℕ) → verdict v (call asking Close d n) ≡ 0 → HeldBlock d n v
  unfolding questions
  close_asked d n e = record {
    low = (is_between 1 16 d (answered_yes v (call asking Close d n) 4 e)).least;
    inside = ltb-true n (size t) (answered_yes v (call asking Close d n) 6 e);
    whole = fit_blocks fit;
    held = answered_yes v (call asking Close d n) 9 e;
  }

  pub free_asked : (d n : ℕ) → verdict v (call asking Free d n) ≡ 0 → HeldBlock d n v
  unfolding questions
  free_asked d n e = record {
    low = (is_between 1 16 d (answered_yes v (call asking Free d n) 4 e)).least;
    inside = ltb-true n (size t) (answered_yes v (call asking Free d n) 6 e);
    whole = fit_blocks fit;
    held = answered_yes v (call asking Free d n) 9 e;
  }

  pub close_sequel : (d n : ℕ) → verdict v (call asking Close d n) ≡ 0 → OwnSequel d v (effect v (call asking Close d n)).drive
  unfolding effect
  close_sequel d n e = closed_sequel (close_asked d n e) fit.facts

  pub free_sequel : (d n : ℕ) → verdict v (call asking Free d n) ≡ 0 → OwnSequel d v (effect v (call asking Free d n)).drive
  unfolding effect
  free_sequel d n e = freed_sequel (free_asked d n e) fit.facts

  pub block_asked : (d n start : ℕ) (count : Adus) → verdict v (call asking WriteByBlock d n start count) ≡ 0
      → Writable d n (user_addresses start count.0) v
  unfolding questions
  block_asked d n start count e =
      let c = WriteByBlock d n start count in
      record {
        low = (is_between 1 16 d (answered_yes v (call asking c) 4 e)).least;
        ready = fit_ready fit (answered_yes v (call asking c) 3 e);
        inside = ltb-true n (size t) (both (is_block t.config n) (is_count count) (answered_yes v (call asking c) 6 e)).0;
        held = answered_yes v (call asking c) 9 e;
        fits =
            rw length_row
            (leb-true ((block_at t n).written.0 + count.0) (capacity t n).0 (answered_yes v (call asking c) 15 e));
      }

  pub block_sequel : (d n start : ℕ) (count : Adus) → verdict v (call asking WriteByBlock d n start count) ≡ 0
      → OwnSequel d v (effect v (call asking WriteByBlock d n start count)).drive
  unfolding effect
  block_sequel d n start count e = written_sequel (block_asked d n start count e) fit.facts

  pub placement_asked : (d p start : ℕ) (count : Adus) → verdict v (call asking WriteByPlacement d p start count) ≡ 0
      → Asked d p (user_addresses start count.0) v
  unfolding questions
  placement_asked d p start count e =
      let c = WriteByPlacement d p start count in
      let id = is_between 1 16 d (answered_yes v (call asking c) 4 e) in
      let many : length (user_addresses start count.0) ≡ count.0 = length_row (user_address start) count.0 in
      record {
        low = id.least;
        high = id.most;
        facts = fit.facts;
        ready = fit_ready fit (answered_yes v (call asking c) 3 e);
        domains = fit.shaped.domains;
        exists = answered_yes v (call asking c) 5 e;
        placement = ltb-true p (domain_at t d).placements (both (ltb p (domain_at t d).placements) (is_count count) (answered_yes v (call asking c) 6 e)).0;
        may_open_lem = answered_yes v (call asking c) 11 e;
        quota = rw many (leb-true (held_count t d + new_blocks t d p count.0) (domain_at t d).quota (answered_yes v (call asking c) 13 e));
        covers = rw many (leb-true (coverage_with t d (held_count t d + new_blocks t d p count.0)) (size t) (answered_yes v (call asking c) 14 e));
      }

  pub written_placement_sequel : (d p start : ℕ) (count : Adus) → verdict v (call asking WriteByPlacement d p start count) ≡ 0
      → OwnSequel d v (effect v (call asking WriteByPlacement d p start count)).drive
  unfolding effect
  written_placement_sequel d p start count e = placement_sequel (placement_asked d p start count e)
