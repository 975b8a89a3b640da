-- The table of zeros is never sound, and a started one is.
use Prim.Native.Nat.{ℕ, ◌+◌, ◌-◌, ◌<◌}
use mathlib.Core.Bool.{Bool, true, false}
use mathlib.Core.List.{[]}
use mathlib.Core.Path.{◌≡◌, refl}
use native.Mathlib.Omega.{arith}
use borrow.Author.Tests.{le-leb, ne_eqb}
use Rattle.geometry.specs.Questions.{answered, first_no, refusal, success}
use Rattle.geometry.specs.Shape.{each_in_range, within_limits}
use Rattle.geometry.specs.declared.shape.Config.{Config}
use Rattle.model.specs.declared.block.Block.{Block}
use Rattle.model.specs.declared.table.Domain.{Domain}
use Rattle.rules.specs.Domains.{coverage, covered, reserved_by}
use Rattle.rules.specs.Drive.{block_at, clear_block, clear_domain, domain_at, held_count}
use Rattle.rules.specs.Soundness.{block_sound, domain_sound, each_pair, placements_differ, serials_differ, sound}
use Rattle.rules.specs.Start.{empty_table, started, table_of_zeros}
use Rattle.rules.proofs.Counting.{each_all, sum_zero}
use Rattle.rules.proofs.Drive.{get_replicate}
use Rattle.rules.proofs.Soundness.{together}

pub zeros_unsound : sound table_of_zeros ≡ false
unfolding sound within_limits each_in_range
zeros_unsound = refl

pub start_refused : (c : Config) → within_limits c ≡ false → started c ≡ record { answer = refusal 1; table = table_of_zeros }
unfolding started answered first_no
start_refused c e = rw e

-- In an empty table every block and every domain is clear, and nothing is held.
pub clear_block_lem : (c : Config) (n : ℕ) → block_at (empty_table c) n ≡ clear_block
clear_block_lem c n = get_replicate 256 n clear_block

pub clear_domain_lem : (c : Config) (d : ℕ) → domain_at (empty_table c) d ≡ clear_domain
clear_domain_lem c d = get_replicate 16 (d - 1) clear_domain

none_held : (c : Config) (d : ℕ) → 0 < d → held_count (empty_table c) d ≡ 0
unfolding held_count
none_held c d p = sum_zero c.blocks _ (λ n l. rw (clear_block_lem c n, ne_eqb 0 d (λ e. omega arith)))

-- A test that two clear blocks pass, every two blocks of an empty table pass. Each of its blocks and domains is sound.
pairs_pass : (c : Config) (p : Block → Block → Bool) → p clear_block clear_block ≡ true → each_pair (empty_table c) p ≡ true
pairs_pass c p e =
    each_all c.blocks _ (λ n l. each_all n _ (λ m k. rw (clear_block_lem c n, clear_block_lem c m) e))

clear_sound : (capacity period : ℕ) (r : Domain) → block_sound capacity period r clear_block ≡ true
unfolding block_sound
clear_sound capacity period r = refl

missing_sound : (blocks opened : ℕ) → domain_sound blocks 0 opened clear_domain ≡ true
unfolding domain_sound
missing_sound blocks opened = rw (le-leb 0 blocks (omega arith))

no_coverage : (c : Config) → coverage (reserved_by (empty_table c)) (held_count (empty_table c)) ≡ 0
unfolding coverage
no_coverage c =
    sum_zero 16 _ (λ i l.
    let none : reserved_by (empty_table c) (i + 1) ≡ 0 = rw (reserved_by, clear_domain_lem c (i + 1)) in
    omega (arith, none, none_held c (i + 1) (omega arith)))

is_covered : (c : Config) → covered (empty_table c) ≡ true
is_covered c = rw (no_coverage c) (le-leb 0 c.blocks (omega arith))

pub empty_sound : (c : Config) → within_limits c ≡ true → sound (empty_table c) ≡ true
empty_sound c e =
    together (empty_table c) (record {
      limits = e;
      domains = each_all 16 _ (λ i l.
          rw (clear_domain_lem c (i + 1), none_held c (i + 1) (omega arith)) (missing_sound c.blocks _));
      coverage = is_covered c;
      blocks = each_all c.blocks _ (λ n l. rw (clear_block_lem c n) (clear_sound _ _ _));
      serials_differ_lem = pairs_pass c serials_differ refl;
      placements_differ_lem = pairs_pass c placements_differ refl;
    })

pub start_accepted : (c : Config) → within_limits c ≡ true → started c ≡ record { answer = success []; table = empty_table c }
unfolding started answered first_no
start_accepted c e = rw e

pub started_sound : (c : Config) → within_limits c ≡ true → sound (started c).table ≡ true
started_sound c e = rw (start_accepted c e) (empty_sound c e)
