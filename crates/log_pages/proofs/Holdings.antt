-- In a sound table a domain's blocks are open or Closed, and so many bytes a list fills.
use Prim.Native.Nat.{ℕ, ◌+◌, ◌≤◌}
use mathlib.Core.Bool.{Bool, true, false, ◌&&◌, cond}
use mathlib.Core.List.{[]}
use mathlib.Core.Path.{◌≡◌, refl, sym, ◌∙◌}
use native.Mathlib.Omega.{arith}
use lib.ListN.{length}
use borrow.Author.Tests.{ne_eqb}
use Rattle.geometry.proofs.Laws.Shape.{is_between}
use Rattle.geometry.specs.Address.{is_domain_id}
use Rattle.log_pages.specs.LogPages.{count_seen, length_seen}
use Rattle.model.specs.declared.block.Block.{Block}
use Rattle.model.specs.declared.block.State.{State}
use Rattle.model.specs.declared.block.State.TheVariants.{Closed, Free, Open}
use Rattle.model.specs.declared.command.Listed.{Listed}
use Rattle.model.specs.declared.command.Listed.TheVariants as listed
use Rattle.model.specs.declared.table.Table.{Table}
use Rattle.rules.proofs.Counting.{sum_add, sum_same}
use Rattle.rules.proofs.Kept.Facts.{BlockFacts, StateFacts}
use Rattle.rules.proofs.Kept.Tested.{facts_of}
use Rattle.rules.proofs.LogPages.{listed_many}
use Rattle.rules.specs.Drive.{block_at, closed_count, closed_of, held_by, held_count, is_closed_state, is_open_state, open_count, open_of, size}
use Rattle.rules.specs.LogPages.{list_length, listed_blocks, listed_count}
use Rattle.rules.specs.Soundness.{sound}
use Rattle.scan.specs.Summary.{Sees}
use Rattle.scan.specs.declared.summary.Summary.{Summary}
use Rattle.tables.specs.Serving.{drive}

-- A block that a domain holds is one of the two.
open_or_closed : (t : Table) (b : Block) (d : ℕ) → BlockFacts t b → 1 ≤ d
    → cond (held_by d b) 1 0 ≡ cond (open_of d b) 1 0 + cond (closed_of d b) 1 0
open_or_closed t b d f l = go b.state f
  where
    test : (x : Bool) → (cond x 1 0 ≡ cond (x && true) 1 0 + cond (x && false) 1 0) × (cond x 1 0 ≡ cond (x && false) 1 0 + cond (x && true) 1 0)
    test true = (refl, refl)
    test false = (refl, refl)

    go : (s : State) → StateFacts t s b
        → cond (held_by d b) 1 0 ≡ cond (held_by d b && is_open_state s) 1 0 + cond (held_by d b && is_closed_state s) 1 0
    go Free h = rw (ne_eqb b.holder d (λ e. omega (arith, h.holder, e, l)))
    go (Open way) h = (test (held_by d b)).0
    go (Closed way) h = (test (held_by d b)).1

-- So it is with the counts of the whole drive.
pub held_counts : (t : Table) (d : ℕ) → sound t ≡ true → 1 ≤ d → held_count t d ≡ open_count t d + closed_count t d
unfolding held_count open_count closed_count
held_counts t d s l =
    let opens : ℕ → ℕ = λ i. cond (open_of d (block_at t i)) 1 0 in
    let closes : ℕ → ℕ = λ i. cond (closed_of d (block_at t i)) 1 0 in
    sum_same (size t) (λ i. cond (held_by d (block_at t i)) 1 0) (λ i. opens i + closes i)
    (λ i k. open_or_closed t (block_at t i) d ((facts_of (drive t []) s).blocks i k) l)
    ∙ sum_add (size t) opens closes

-- Of what is seen: as many blocks are open as in the table, and those and the Closed ones are held, ..
counts_seen : (t : Table) (d : ℕ) (x : Summary) → Sees t d x → x.sound ≡ true → is_domain_id d ≡ true
    → (x.opened ≡ open_count t d) × (x.held ≡ open_count t d + closed_count t d)
counts_seen t d x s e id =
    (s.opens e id, s.holds e id ∙ held_counts t d (sym s.tested ∙ e) (is_between 1 16 d id).least)

-- .. so that no more are open than held, ..
pub few_open : (t : Table) (d : ℕ) (x : Summary) → Sees t d x → x.sound ≡ true → is_domain_id d ≡ true → x.opened ≤ x.held
few_open t d x s e id = let h = counts_seen t d x s e id in omega (arith, h.0, h.1)

-- .. and as many are listed as in the table.
pub count_seen_lem : (t : Table) (d : ℕ) (which : Listed) (x : Summary) → Sees t d x → x.sound ≡ true → is_domain_id d ≡ true
    → count_seen x which ≡ length (listed_blocks t d which)
count_seen_lem t d which x s e id = counted which ∙ sym (listed_many (drive t []) d (is_between 1 16 d id).least (facts_of (drive t []) (sym s.tested ∙ e)) which)
  where
    counted : (which : Listed) → count_seen x which ≡ listed_count t d which
    counted listed.Open = (counts_seen t d x s e id).0
    counted listed.Closed = let h = counts_seen t d x s e id in omega (arith, h.0, h.1)

pub length_seen_lem : (t : Table) (d : ℕ) (which : Listed) (x : Summary) → Sees t d x → x.sound ≡ true → is_domain_id d ≡ true
    → length_seen x which ≡ list_length t d which
length_seen_lem t d listed.Open x s e id = let h = counts_seen t d x s e id in omega (arith, h.0)
length_seen_lem t d listed.Closed x s e id = let h = counts_seen t d x s e id in omega (arith, h.0, h.1)
