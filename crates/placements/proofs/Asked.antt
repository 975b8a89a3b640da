-- What a Write by placement is asked, of what is seen of a table, comes to what the rules ask of the table.
use Rattle.std.specs.Prelude as std
use Prim.Native.Nat.{ℕ, ◌-◌}
use mathlib.Core.Bool.{true}
use mathlib.Core.List.{List, ◌++◌}
use mathlib.Core.Option.{some}
use mathlib.Core.Path.{◌≡◌, refl, sym, ap, ◌∙◌}
use lib.Dec.{ltb}
use Rattle.geometry.specs.Address.{is_domain_id}
use Rattle.geometry.specs.Questions.{first_no}
use Rattle.geometry.specs.Shape.{adus_per_block}
use Rattle.geometry.specs.declared.shape.Adus.{Adus}
use Rattle.geometry.specs.declared.shape.Config.{Config}
use Rattle.model.specs.declared.block.Block.{Block}
use Rattle.model.specs.declared.command.Command.TheVariants.{WriteByPlacement}
use Rattle.model.specs.declared.table.Domain.{Domain}
use Rattle.model.specs.declared.table.Table.{Table}
use Rattle.placements.proofs.Stepping.{new_for_lem}
use Rattle.placements.specs.Asking.{may_open_of, may_open_seen, placement_arguments, placement_state}
use Rattle.placements.specs.Onwards.{blocks_in}
use Rattle.placements.specs.Placing.{room_of, room_seen}
use Rattle.rules.specs.Blocks.{new_blocks, room_in}
use Rattle.rules.specs.Calls.{lending}
use Rattle.rules.specs.Drive.{open_block, open_count}
use Rattle.rules.specs.Questions.{later_questions, may_open_for}
use Rattle.scan.specs.Summary.{Sees, SeesPlacement, found_in}
use Rattle.scan.specs.declared.summary.Summary.{Summary}
use Rattle.tables.specs.Serving.{drive}

module _ (t : Table) (d p : ℕ) (x : Summary) (s : Sees t d x) (q : SeesPlacement t d p x) (e : x.sound ≡ true) where
  -- The room of the open block is the rules', ..
  room_seen_lem : (o : std.Option ℕ) → x.found ≡ o → room_seen x ≡ room_in t (open_block t d p)
  room_seen_lem std.None f =
      ap (λ (o : std.Option ℕ). room_of o x.config x.block) f ∙ sym (ap (room_in t) (sym (q.same_found e) ∙ ap found_in f))
  room_seen_lem (std.Some n) f =
      let is_open_lem : open_block t d p ≡ some n = sym (q.same_found e) ∙ ap found_in f in
      ap (λ (o : std.Option ℕ). room_of o x.config x.block) f
      ∙ ap (λ (c : Config). (adus_per_block c).0 - x.block.written.0) s.same_config
      ∙ ap (λ (b : Block). (adus_per_block t.config).0 - b.written.0) (q.found_block e n is_open_lem)
      ∙ sym (ap (room_in t) is_open_lem)

  -- .. and so are the blocks that the write opens ..
  pub new_seen : (count : ℕ) → blocks_in x.config (count - room_seen x) ≡ new_blocks t d p count
  new_seen count =
      ap (λ (c : Config). blocks_in c (count - room_seen x)) s.same_config
      ∙ ap (λ (room : ℕ). blocks_in t.config (count - room)) (room_seen_lem x.found refl)
      ∙ sym (new_for_lem t d p count (open_block t d p) refl)

  -- .. and whether one may be opened.
  may_open_seen_lem : is_domain_id d ≡ true → (o : std.Option ℕ) → x.found ≡ o → may_open_seen x ≡ may_open_for (open_block t d p) t d
  may_open_seen_lem id std.None f =
      ap (λ (o : std.Option ℕ). may_open_of o x.opened x.domain) f
      ∙ ap (λ (opened : ℕ). ltb opened x.domain.limit) (s.opens e id)
      ∙ ap (λ (r : Domain). ltb (open_count t d) r.limit) s.same_domain
      ∙ sym (ap (λ o. may_open_for o t d) (sym (q.same_found e) ∙ ap found_in f))
  may_open_seen_lem id (std.Some n) f =
      ap (λ (o : std.Option ℕ). may_open_of o x.opened x.domain) f
      ∙ sym (ap (λ o. may_open_for o t d) (sym (q.same_found e) ∙ ap found_in f))

  pub placement_asked : is_domain_id d ≡ true → (store : List ℕ) (entries words bytes start : ℕ) (count : Adus)
      → first_no (placement_arguments x words p count ++ placement_state t x d start count)
      ≡ first_no (later_questions (WriteByPlacement d p start count) (drive t store) (lending (WriteByPlacement d p start count) entries words bytes))
  unfolding first_no placement_arguments placement_state
  placement_asked id store entries words bytes start count =
      rw (new_seen count.0, may_open_seen_lem id x.found refl, s.same_domain)
