-- What follows from what is seen of a table: that it is within the limits, and what a change leaves of it.
use Prim.Native.Nat.{ℕ, zero, suc, ◌<◌, ◌≤◌}
use mathlib.Core.Bool.{true}
use mathlib.Core.List.{List, [], ◌∷◌, ◌++◌}
use mathlib.Core.Path.{◌≡◌, refl, sym, ap, ◌∙◌}
use native.Mathlib.Omega.{arith}
use lib.ListN.{drop, set, take, take-append-drop}
use borrow.Author.Tests.{leb-true, ne_eqb}
use Rattle.geometry.proofs.Laws.Shape.{by_test, limits}
use Rattle.geometry.specs.Address.{is_domain_id}
use Rattle.geometry.specs.Shape.{within_limits}
use Rattle.geometry.specs.declared.shape.Config.{Config}
use Rattle.model.specs.declared.block.Block.{Block}
use Rattle.model.specs.declared.table.Domain.{Domain}
use Rattle.model.specs.declared.table.Table.{Table}
use Rattle.rules.proofs.Counting.{count_most}
use Rattle.rules.proofs.Soundness.{apart}
use Rattle.rules.specs.Blocks.{pulsed}
use Rattle.rules.specs.Domains.{coverage, deleted_domain, reserved_by}
use Rattle.rules.specs.Drive.{block_at, held_by, held_count, size, with_block, with_domain}
use Rattle.rules.specs.Soundness.{sound}
use Rattle.scan.specs.Summary.{Sees}
use Rattle.scan.specs.declared.summary.Summary.{Summary}
use Rattle.tables.specs.Changing.{block_change, changed_blocks, changed_table, deletion_of, domain_change, no_change, opening_change, present_blocks, pulse_change, with_owner}

-- ---- Limits

pub sound_limits : (t : Table) → sound t ≡ true → within_limits t.config ≡ true
sound_limits t e = (apart t e).limits

pub limits_seen : (t : Table) (d : ℕ) (x : Summary) → Sees t d x → x.sound ≡ true → within_limits x.config ≡ true
limits_seen t d x s e = ap within_limits s.same_config ∙ (apart t (sym s.tested ∙ e)).limits

-- The coverage of a sound table is at most S, and S at most 256.
pub coverage_seen : (t : Table) (d : ℕ) (x : Summary) → Sees t d x → x.sound ≡ true → (x.config.blocks ≤ 256) × (x.coverage ≤ 256)
coverage_seen t d x s e =
    let clauses = apart t (sym s.tested ∙ e) in
    let most = (limits t.config clauses.limits).ranges.blocks.most in
    let kept = leb-true (coverage (reserved_by t) (held_count t)) (size t) clauses.coverage in
    (rw s.same_config most, omega (arith, most, kept, s.covers e))

pub held_seen : (t : Table) (d : ℕ) (x : Summary) → Sees t d x → x.sound ≡ true → is_domain_id d ≡ true → x.held ≤ 256
unfolding held_count
held_seen t d x s e id =
    let clauses = apart t (sym s.tested ∙ e) in
    let most = (limits t.config clauses.limits).ranges.blocks.most in
    omega (arith, most, count_most (λ n. held_by d (block_at t n)) (size t), s.holds e id)

-- ---- Changes

set_beyond : {A : Type 0} (n : ℕ) (xs : List A) (i : ℕ) (x : A) → i < n → set (take n xs) i x ++ drop n xs ≡ set xs i x
set_beyond zero xs i x l = absurd (omega (arith, l))
set_beyond (suc n) [] zero x l = refl
set_beyond (suc n) [] (suc i) x l = refl
set_beyond (suc n) (y ∷ ys) zero x l = ap (λ zs. x ∷ zs) (take-append-drop n ys)
set_beyond (suc n) (y ∷ ys) (suc i) x l = ap (λ zs. y ∷ zs) (set_beyond n ys i x (omega (arith, l)))

pub few_present : (c : Config) → present_blocks c ≤ 256
few_present c = by_test (within_limits c) (λ e. rw e (limits c e).ranges.blocks.most) (λ e. rw e (omega arith))

pub all_present : (c : Config) → within_limits c ≡ true → present_blocks c ≡ c.blocks
all_present c e = rw e

-- Nothing is changed, ..
pub changed_nothing : (t : Table) → changed_table no_change t ≡ t
unfolding changed_blocks with_owner
changed_nothing t = rw (take-append-drop (present_blocks t.config) t.blocks)

-- .. a block's record and a domain's, ..
pub changed_opening : (t : Table) (n : ℕ) (b : Block) (d : ℕ) (r : Domain) → within_limits t.config ≡ true → n < size t → ¬ (d ≡ 0)
    → changed_table (opening_change n b d r) t ≡ with_domain d r (with_block n b t)
unfolding changed_blocks with_owner
changed_opening t n b d r e l ne =
    let bs = take (present_blocks t.config) t.blocks in
    rw (ne_eqb d 0 ne, set_beyond (present_blocks t.config) t.blocks n b (rw e l))

-- .. a block's alone, ..
pub changed_block : (t : Table) (n : ℕ) (b : Block) → within_limits t.config ≡ true → n < size t
    → changed_table (block_change n b) t ≡ with_block n b t
unfolding changed_blocks with_owner
changed_block t n b e l =
    let bs = take (present_blocks t.config) t.blocks in
    rw (set_beyond (present_blocks t.config) t.blocks n b (rw e l))

-- .. a domain's alone, ..
pub changed_domain_lem : (t : Table) (d : ℕ) (r : Domain) → ¬ (d ≡ 0) → changed_table (domain_change d r) t ≡ with_domain d r t
unfolding changed_blocks with_owner
changed_domain_lem t d r ne = rw (ne_eqb d 0 ne, take-append-drop (present_blocks t.config) t.blocks)

-- .. all blocks of a domain, ..
pub changed_deletion : (t : Table) (d : ℕ) → within_limits t.config ≡ true → ¬ (d ≡ 0) → changed_table (deletion_of d) t ≡ deleted_domain d t
unfolding changed_blocks with_owner deleted_domain
changed_deletion t d e ne =
    rw (ne_eqb d 0 ne, e)

-- .. and every open block.
pub changed_pulse : (t : Table) (seconds : ℕ) → within_limits t.config ≡ true → changed_table (pulse_change seconds) t ≡ pulsed seconds t
unfolding changed_blocks with_owner
changed_pulse t seconds e =
    rw e
