-- The scan's tests together are the test of soundness.
use Prim.Native.Nat.{ℕ, ◌+◌, ◌-◌, ◌≤◌, ◌<◌, max}
use mathlib.Core.Bool.{Bool, true, false, true≢false, not, ◌&&◌}
use mathlib.Core.Path.{◌≡◌, sym, ap, ap₂, ◌∙◌}
use native.Mathlib.Omega.{arith}
use lib.Dec.{eqb, leb}
use lib.ListN.{get_or}
use borrow.Author.Tests.{le-leb, not-true}
use Rattle.geometry.proofs.Laws.Shape.{both, by_test}
use Rattle.geometry.specs.Address.{is_domain_id}
use Rattle.geometry.specs.Shape.{adus_per_block, within_limits}
use Rattle.scan.proofs.Places.{apart_new, place_apart, place_shared, place_tells}
use Rattle.scan.proofs.Steps.{free_sound, held_id}
use Rattle.scan.specs.Clauses.{blocks_sound, covered_to, domain_index, domains_sound, holder_record, place_of, serial_new, place_new}
use Rattle.model.specs.declared.block.Block.{Block}
use Rattle.model.specs.declared.table.Domain.{Domain}
use Rattle.model.specs.declared.table.Table.{Table}
use Rattle.rules.proofs.Counting.{all_each, all_same, each_all, same_test, sum_same}
use Rattle.rules.proofs.Kept.Facts.{BlockFacts, DomainFacts}
use Rattle.rules.proofs.Kept.Tested.{block_facts, domain_facts, each_domain_lem, owned_by}
use Rattle.rules.proofs.Soundness.{apart, together}
use Rattle.rules.specs.Counting.{all_to}
use Rattle.rules.specs.Domains.{coverage, reserved_by}
use Rattle.rules.specs.Drive.{block_at, clear_domain, domain_at, each_domain, held_count, is_free, open_count, size}
use Rattle.rules.specs.Soundness.{block_sound, domain_sound, placements_differ, same_holder, same_placement, serials_differ, sound}

-- ---- The whole

-- Two tests that pass, pass together.
joined : {a b : Bool} → a ≡ true → b ≡ true → a && b ≡ true
joined e f = rw (e, f)

-- The record that the scan looks up for a domain's ID is that domain's.
pub index_of : (h : ℕ) → is_domain_id h ≡ true → domain_index h ≡ h - 1
index_of h e = rw e

holder_at : (t : Table) (b : Block) → is_domain_id b.holder ≡ true → holder_record t b ≡ domain_at t b.holder
holder_at t b e = ap (λ n. get_or t.domains n clear_domain) (index_of b.holder e)

-- The test of a block, with the record that the scan looks up, ..
abbrev test_of : Table → Block → Bool
test_of t b = block_sound (adus_per_block t.config).0 t.config.period (holder_record t b) b

-- .. is the one with its holder's: a Free block has none, and a holder that is no domain's ID passes neither.
holder_sound : (t : Table) (b : Block)
    → test_of t b ≡ block_sound (adus_per_block t.config).0 t.config.period (domain_at t b.holder) b
holder_sound t b =
    by_test (is_free b)
    (λ f. free_sound c p (holder_record t b) b f ∙ sym (free_sound c p (domain_at t b.holder) b f))
    (λ f. by_test (is_domain_id b.holder)
    (λ e. ap (λ (r : Domain). block_sound c p r b) (holder_at t b e))
    (λ e. outside (holder_record t b) f e ∙ sym (outside (domain_at t b.holder) f e)))
  where
    c : ℕ
    c = (adus_per_block t.config).0

    p : ℕ
    p = t.config.period

    outside : (r : Domain) → is_free b ≡ false → is_domain_id b.holder ≡ false → block_sound c p r b ≡ false
    outside r f e = by_test (block_sound c p r b) (λ s. absurd (true≢false (sym (held_id c p r b f s) ∙ e))) (λ s. s)

-- The counts are those of the rules, of the domains from 0.
pub record Counts (t : Table) (held opened : ℕ → ℕ) : Type 0 where
  pub held_counted : (i : ℕ) → i < 16 → held i ≡ held_count t (i + 1)
  pub open_counted : (i : ℕ) → i < 16 → opened i ≡ open_count t (i + 1)

-- The scan numbers domains from 0, the rules from 1.
domain_at_lem : (t : Table) (i : ℕ) → get_or t.domains i clear_domain ≡ domain_at t (i + 1)
domain_at_lem t i = ap (λ n. get_or t.domains n clear_domain) (before i)
  where
    before : (n : ℕ) → n ≡ n + 1 - 1
    before n = omega arith

-- With the counts the scan's sum is the coverage.
pub covers : (t : Table) (held opened : ℕ → ℕ) → Counts t held opened → covered_to t.domains held 16 ≡ coverage (reserved_by t) (held_count t)
unfolding covered_to coverage
covers t held opened c =
    sum_same 16
    (λ i. max (get_or t.domains i clear_domain).reserved (held i))
    (λ i. max (reserved_by t (i + 1)) (held_count t (i + 1)))
    (λ i l. ap₂ max (ap (λ r. r.reserved) (domain_at_lem t i)) (c.held_counted i l))

-- The clauses that speak of one domain, ..
abbrev domain_test : Table → ℕ → Bool
domain_test t d = domain_sound (size t) (held_count t d) (open_count t d) (domain_at t d)

-- .. which the scan tests of every domain.
domain_tests : (t : Table) (held opened : ℕ → ℕ) → Counts t held opened
    → domains_sound t.domains (size t) held opened 16 ≡ each_domain (domain_test t)
unfolding domains_sound
domain_tests t held opened c =
    all_same 16
    (λ i. domain_sound (size t) (held i) (opened i) (get_or t.domains i clear_domain))
    (λ i. domain_test t (i + 1))
    (λ i l. rw (domain_at_lem t i, c.held_counted i l, c.open_counted i l))

-- The scan's tests, with these counts.
abbrev pub passes : Table → (ℕ → ℕ) → (ℕ → ℕ) → Bool
passes t held opened =
    blocks_sound t (size t) && domains_sound t.domains (size t) held opened 16 && leb (covered_to t.domains held 16) (size t)

-- What is tested of block n: its own clauses, and those that it shares with the blocks before it.
record Tested (t : Table) (n : ℕ) : Type 0 where
  own : block_sound (adus_per_block t.config).0 t.config.period (domain_at t (block_at t n).holder) (block_at t n)
      ≡ true
  slot : place_new t n ≡ true
  serial : serial_new t n ≡ true

blocks_apart : (t : Table) → blocks_sound t (size t) ≡ true → (n : ℕ) → n < size t → Tested t n
unfolding blocks_sound
blocks_apart t q n l =
    let e = all_each (size t) (λ i. test_of t (block_at t i) && place_new t i && serial_new t i) q n l in
    let e2 = both (test_of t (block_at t n) && place_new t n) (serial_new t n) e in
    let e1 = both (test_of t (block_at t n)) (place_new t n) e2.0 in
    record { own = sym (holder_sound t (block_at t n)) ∙ e1.0; slot = e1.1; serial = e2.1 }

blocks_together : (t : Table) → ((n : ℕ) → n < size t → Tested t n) → blocks_sound t (size t) ≡ true
unfolding blocks_sound
blocks_together t h =
    each_all (size t) (λ i. test_of t (block_at t i) && place_new t i && serial_new t i)
    (λ n l. joined (joined (holder_sound t (block_at t n) ∙ (h n l).own) (h n l).slot) (h n l).serial)

-- A placement of a block that has its clauses is below 16, so that the places tell its open blocks apart.
placements_apart : (t : Table) → ((d : ℕ) → 1 ≤ d → d ≤ 16 → DomainFacts t d) → (n m : ℕ) → BlockFacts t (block_at t n)
    → place_new t n ≡ true → m < n → placements_differ (block_at t n) (block_at t m) ≡ true
unfolding place_of
placements_apart t domains n m own new l =
    let b = block_at t n in
    let other = block_at t m in
    by_test (same_holder b other && same_placement b.state other.state)
    (λ e.
    let q = both (same_holder b other) (same_placement b.state other.state) e in
    let h = both (not (is_free b) && not (is_free other)) (eqb b.holder other.holder) q.0 in
    let o = owned_by t b own (not-true (is_free b) (both (not (is_free b)) (not (is_free other)) h.0).0) in
    let id : is_domain_id b.holder ≡ true = joined (le-leb 1 b.holder o.low) (le-leb b.holder 16 o.high) in
    let few = ((domains b.holder o.low o.high).existing o.exists).few_placements in
    let placements = (domain_at t b.holder).placements in
    let s =
    place_shared b.state other.state b.holder other.holder placements few (λ g. id) o.below h.1
    q.1 in
    absurd (place_apart t n new m l s.1 s.0))
    (λ e. rw e)

places_apart : (t : Table) (n : ℕ) → ((m : ℕ) → m < n → placements_differ (block_at t n) (block_at t m) ≡ true) → place_new t n ≡ true
unfolding place_of
places_apart t n differ = apart_new t n (λ m l small e.
    let b = block_at t n in
    let other = block_at t m in
    let s = place_tells b.state other.state b.holder other.holder e small in
    true≢false (sym (differ m l) ∙ rw (s.0, s.1, s.2, s.3)))

-- They all pass exactly where the table is sound: soundness from the tests, ..
passed_sound : (t : Table) (held opened : ℕ → ℕ) → within_limits t.config ≡ true → Counts t held opened → passes t held opened ≡ true → sound t ≡ true
unfolding serial_new
passed_sound t held opened limits c q =
    let q2 = both _ (leb (covered_to t.domains held 16) (size t)) q in
    let q1 = both (blocks_sound t (size t)) (domains_sound t.domains (size t) held opened 16) q2.0 in
    let ofBlock = blocks_apart t q1.0 in
    let ofDomains = sym (domain_tests t held opened c) ∙ q1.1 in
    let domains : (d : ℕ) → 1 ≤ d → d ≤ 16 → DomainFacts t d =
    λ d low high. domain_facts (size t) (held_count t d) (open_count t d) (domain_at t d)
    (each_domain_lem (domain_test t) ofDomains d low high) in
    together t (record {
      limits = limits;
      domains = ofDomains;
      coverage = ap (λ n. leb n (size t)) (sym (covers t held opened c)) ∙ q2.1;
      blocks = each_all (size t) _ (λ n l. (ofBlock n l).own);
      serials_differ_lem = each_all (size t) (λ n. all_to (λ m. serials_differ (block_at t n) (block_at t m)) n) (λ n l. (ofBlock n l).serial);
      placements_differ_lem =
          each_all (size t) (λ n. all_to (λ m. placements_differ (block_at t n) (block_at t m)) n)
          (λ n l. each_all n (λ m. placements_differ (block_at t n) (block_at t m))
          (λ m k.
          placements_apart t domains n m (block_facts _ _ _ (block_at t n) (ofBlock n l).own) (ofBlock n l).slot k));
    })

-- .. the tests from soundness: those of the blocks, ..
pub sound_blocks : (t : Table) → sound t ≡ true → blocks_sound t (size t) ≡ true
unfolding serial_new
sound_blocks t s =
    let h = apart t s in
    blocks_together t (λ n l. record {
      own = all_each (size t) _ h.blocks n l;
      slot = places_apart t n (all_each n (λ m. placements_differ (block_at t n) (block_at t m))
          (all_each (size t) (λ n. all_to (λ m. placements_differ (block_at t n) (block_at t m)) n) h.placements_differ_lem n l));
      serial = all_each (size t) (λ n. all_to (λ m. serials_differ (block_at t n) (block_at t m)) n) h.serials_differ_lem n l;
    })

-- .. and all, ..
sound_passed : (t : Table) (held opened : ℕ → ℕ) → Counts t held opened → sound t ≡ true → passes t held opened ≡ true
sound_passed t held opened c s =
    let h = apart t s in
    joined
    (joined
    (sound_blocks t s)
    (domain_tests t held opened c ∙ h.domains))
    (ap (λ n. leb n (size t)) (covers t held opened c) ∙ h.coverage)

-- .. and so the one is the other.
pub scan_sound : (t : Table) (held opened : ℕ → ℕ) → within_limits t.config ≡ true → Counts t held opened
    → passes t held opened ≡ sound t
scan_sound t held opened limits c =
    same_test (passes t held opened) (sound t) (passed_sound t held opened limits c) (sound_passed t held opened c)

-- A table outside the limits is not sound.
pub outside_unsound : (t : Table) → within_limits t.config ≡ false → sound t ≡ false
outside_unsound t e = by_test (sound t) (λ s. absurd (true≢false (sym (apart t s).limits ∙ e))) (λ s. s)
