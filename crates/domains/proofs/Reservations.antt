-- Plane counts as blocks, and what Create and Change Capacity ask and come to.
use Prim.Native.Nat.{ℕ, ◌≤◌}
use mathlib.Core.Bool.{true, ◌&&◌}
use mathlib.Core.List.{List, [], ◌∷◌}
use mathlib.Core.Path.{◌≡◌, refl, sym, ap, ◌∙◌}
use native.Mathlib.Omega.{arith}
use lib.Dec.{leb}
use lib.ListN.{length}
use borrow.Author.Tests.{leb-true}
use Rattle.std.specs.Prelude.{Err}
use Rattle.domains.specs.Reserving.{changed_from, create_range, reserved}
use Rattle.geometry.proofs.Laws.Shape.{both, by_test, is_between, least_blocks, limits}
use Rattle.geometry.specs.Address.{is_domain_id}
use Rattle.geometry.specs.Questions.{ask, first_no}
use Rattle.geometry.specs.Shape.{between, drive_planes, whole_blocks, within_limits}
use Rattle.geometry.specs.declared.shape.Config.{Config}
use Rattle.geometry.specs.declared.shape.Planes.{Planes}
use Rattle.model.specs.declared.answer.Answer.TheVariants.{Done}
use Rattle.model.specs.declared.answer.Refusal.TheVariants.{Coverage}
use Rattle.model.specs.declared.command.Command.{Command}
use Rattle.model.specs.declared.table.Domain.{Domain}
use Rattle.model.specs.declared.table.Table.{Table}
use Rattle.rules.specs.Calls.{calling, profile}
use Rattle.rules.specs.Domains.{are_plane_counts, changed_domain, covered_with}
use Rattle.rules.specs.Drive.{held_count, with_domain}
use Rattle.rules.specs.Effects.{changing, due_bytes, effect}
use Rattle.rules.specs.Questions.{later_questions}
use Rattle.scan.proofs.Outcomes.{change_outcome, then_outcome}
use Rattle.scan.proofs.Seeing.{changed_domain_lem}
use Rattle.scan.specs.First.{Begins}
use Rattle.scan.specs.Summary.{Sees}
use Rattle.scan.specs.declared.summary.Summary.{Summary}
use Rattle.tables.specs.Changing.{domain_change, outcome_served}
use Rattle.tables.specs.Serving.{ServesCommand, drive, served}

-- ---- Plane counts

-- The planes of the drive are no more blocks than it has.
few_blocks : (c : Config) (n : Planes) → within_limits c ≡ true → leb n.0 (drive_planes c).0 ≡ true → whole_blocks c n ≤ 256
unfolding drive_planes
few_blocks c n within e =
    let l = limits c within in
    omega (arith, (least_blocks c n l).1 c.blocks (leb-true n.0 (drive_planes c).0 e), l.ranges.blocks.most)

-- So both plane counts are few blocks.
pub few_both : (c : Config) (guarantee quota : Planes) → within_limits c ≡ true → are_plane_counts c guarantee quota ≡ true
    → (whole_blocks c guarantee ≤ 256) × (whole_blocks c quota ≤ 256)
few_both c guarantee quota within e =
    let h = both (leb guarantee.0 (drive_planes c).0) (leb quota.0 (drive_planes c).0) e in
    (few_blocks c guarantee within h.0, few_blocks c quota within h.1)

-- ---- The numbers, and the new record

pub create_range_lem : (c : Config) (guarantee quota : Planes) (placements limit : ℕ) → create_range c guarantee quota placements limit ≡ true
    → (are_plane_counts c guarantee quota ≡ true) × ((placements ≤ 16) × (limit ≤ 256))
create_range_lem c guarantee quota placements limit e =
    let counts = are_plane_counts c guarantee quota in
    let placed = between 1 16 placements in
    let h = both (counts && placed) (between 0 256 limit) e in
    let k = both counts placed h.0 in
    (k.0, ((is_between 1 16 placements k.1).most, (is_between 0 256 limit h.1).most))

-- The new record is the rules'.
pub changed_seen : (t : Table) (d : ℕ) (x : Summary) (guarantee quota : Planes) → Sees t d x → x.sound ≡ true → is_domain_id d ≡ true
    → changed_from x.config x.domain x.held guarantee quota ≡ changed_domain t d guarantee quota
unfolding changed_from changed_domain
changed_seen t d x guarantee quota s e id = rw (s.same_config, s.same_domain, s.holds e id)

-- ---- The coverage rule decides

-- A command that is asked about its numbers, and then for the coverage rule with a domain's new record, which it puts in place.
pub reserving_outcome : (t : Table) (d : ℕ) (c : Command) (new : Domain) (store words bytes : List ℕ)
    → is_domain_id d ≡ true
    → Begins t c (length store)
    → later_questions c (drive t store) (calling c store words bytes) ≡ ask 6 true ∷ ask 14 (covered_with t d new.reserved (held_count t d)) ∷ []
    → effect (drive t store) (calling c store words bytes) ≡ changing [] (with_domain d new t) (drive t store)
    → [] ≡ due_bytes t (profile c).bytes
    → ServesCommand t c store words bytes (served (outcome_served t (reserved t d new)) store words bytes)
unfolding reserved first_no
reserving_outcome t d c new store words bytes id first then does bytes_are =
    let test = covered_with t d new.reserved (held_count t d) in
    let asked : first_no (later_questions c (drive t store) (calling c store words bytes)) ≡ first_no (ask 14 test ∷ []) = ap first_no then in
    let known : ¬ (d ≡ 0) = λ none. omega (arith, (is_between 1 16 d id).least, none) in
    by_test test
    (λ q. rw q (change_outcome t c Done (domain_change d new) (with_domain d new t) [] store words bytes first (asked ∙ rw q) (changed_domain_lem t d new known) does refl bytes_are))
    (λ q. rw q (then_outcome t c (Err Coverage) Coverage store words bytes first (sym (asked ∙ rw q)) refl))
