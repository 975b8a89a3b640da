-- What a call leaves: a drive of the same shape with a sound table, and none but its own domain can tell.
use Prim.Native.Nat.{ℕ, ◌≤◌}
use mathlib.Core.Path.{◌≡◌, refl, ◌∙◌}
use lib.ListN.{length}
use Rattle.rules.specs.Drive.{Drive}
use Rattle.rules.proofs.Kept.Facts.{Facts}
use Rattle.rules.proofs.Kept.Views.{Alike, alike_self, alike_then}

-- A drive of the same shape, with a sound table.
pub record Sequel (v w : Drive) : Type 0 where
  pub facts : Facts w
  pub config : w.table.config ≡ v.table.config
  pub domains : length w.table.domains ≡ length v.table.domains
  pub blocks : length w.table.blocks ≡ length v.table.blocks
  pub store : length w.store ≡ length v.store

-- And no domain but d can tell.
pub record OwnSequel (d : ℕ) (v w : Drive) : Type 0 where
  pub sequel : Sequel v w
  pub others : (e : ℕ) → 1 ≤ e → ¬ (e ≡ d) → Alike e v w

pub same_sequel : (d : ℕ) (v : Drive) → Facts v → OwnSequel d v v
same_sequel d v f = record {
  sequel = record { facts = f; config = refl; domains = refl; blocks = refl; store = refl };
  others = λ e p other. alike_self e v;
}

pub sequel_then : {d : ℕ} {v w x : Drive} → OwnSequel d v w → OwnSequel d w x → OwnSequel d v x
sequel_then s t = record {
  sequel = record {
    facts = t.sequel.facts;
    config = t.sequel.config ∙ s.sequel.config;
    domains = t.sequel.domains ∙ s.sequel.domains;
    blocks = t.sequel.blocks ∙ s.sequel.blocks;
    store = t.sequel.store ∙ s.sequel.store;
  };
  others = λ e p other. alike_then (s.others e p other) (t.others e p other);
}
