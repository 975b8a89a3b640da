-- The laws of the scan of the blocks: how the walk over the blocks from a number on goes on, ends, and stops.
use Prim.Native.Nat.{ℕ, ◌+◌, ◌<◌}
use mathlib.Core.Bool.{Bool, true, false}
use mathlib.Core.List.{List}
use mathlib.Core.Path.{◌≡◌, refl, sym, subst}
use native.Mathlib.Numerals.{add-one}
use lib.ListN.{drop, get_or, length}
use lib.Seq.{drop-cons, drop-length}
use Rattle.std.specs.Prelude.{Option}
use Rattle.model.specs.declared.block.Block.{Block}
use Rattle.model.specs.declared.table.Domain.{Domain}
use Rattle.rules.proofs.Counting.{clash}
use Rattle.rules.specs.Drive.{clear_block, clear_domain}
use Rattle.scan.specs.Clauses.{domain_index}
use Rattle.scan.specs.Scan.{Scanned, Walked, chain_passes}
use Rattle.scan.specs.declared.scan.Subject.{Subject}

-- Block i, and the record of the domain that holds it.
abbrev pub block_of : List Block → ℕ → Block
block_of bs i = get_or bs i clear_block

abbrev pub holder_of : List Domain → List Block → ℕ → Domain
holder_of rs bs i = get_or rs (domain_index (block_of bs i).holder) clear_domain

-- The subject s, the domains rs, and all the blocks bs.
module _ (s : Subject) (rs : List Domain) (bs : List Block) where
  -- The walk over the blocks from number i on, with the marks us before it and ws after it; ok is what it tells.
  abbrev pub WalkedFrom : ℕ → Bool → List ℕ → List ℕ → Type 0
  WalkedFrom i ok us ws = Walked s rs bs i (drop i bs) ok us ws

  -- It ends behind the last block, ..
  pub walk_ends : (us : List ℕ) → WalkedFrom (length bs) true us us
  unfolding Walked
  walk_ends us = subst (λ (zs : List Block). Walked s rs bs (length bs) zs true us us) (sym (drop-length bs)) (refl, refl)

  -- .. with a block that passes it goes on, ..
  pub walk_on : (i : ℕ) (last : Option ℕ) (ok : Bool) (us vs ws : List ℕ) → i < length bs → Scanned s i (block_of bs i) (holder_of rs bs i) last us vs
      → chain_passes bs vs (block_of bs i) last ≡ true → WalkedFrom (i + 1) ok vs ws → WalkedFrom i ok us ws
  unfolding Walked
  walk_on i last ok us vs ws small scanned passes rest =
      subst (λ (zs : List Block). Walked s rs bs i zs ok us ws) (sym (drop-cons bs i clear_block small)) (
        last,
        vs,
        scanned,
        λ fails. clash (chain_passes bs vs (block_of bs i) last) passes fails,
        λ _. subst (λ (k : ℕ). Walked s rs bs (i + 1) (drop k bs) ok vs ws) (add-one i) rest,
      )

  -- .. and at one that does not it stops.
  pub walk_stops : (i : ℕ) (last : Option ℕ) (us vs : List ℕ) → i < length bs → Scanned s i (block_of bs i) (holder_of rs bs i) last us vs
      → chain_passes bs vs (block_of bs i) last ≡ false → WalkedFrom i false us vs
  unfolding Walked
  walk_stops i last us vs small scanned fails =
      subst (λ (zs : List Block). Walked s rs bs i zs false us vs) (sym (drop-cons bs i clear_block small)) (
        last,
        vs,
        scanned,
        λ _. (refl, refl),
        λ passes. clash (chain_passes bs vs (block_of bs i) last) passes fails,
      )
