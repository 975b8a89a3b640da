-- A block that is chosen, opened and written is the next, and leaves the table for what is left.
use Prim.Native.Nat.{ℕ, zero, suc, ◌≤◌, ◌<◌, min}
use mathlib.Core.Bool.{true}
use mathlib.Core.List.{List, [], ◌∷◌}
use mathlib.Core.Option.{some}
use mathlib.Core.Path.{◌≡◌, refl, sym, ap, subst, ◌∙◌}
use lib.ListN.{length, set}
use lib.Seq.{get_or-set_same}
use Rattle.geometry.specs.Shape.{adus_per_block}
use Rattle.model.specs.declared.block.Block.{Block}
use Rattle.model.specs.declared.block.Way.TheVariants.{Placement}
use Rattle.model.specs.declared.table.Domain.{Domain}
use Rattle.model.specs.declared.table.Table.{Table}
use Rattle.placements.proofs.Stepping.{goes_on_lem, into_next}
use Rattle.placements.proofs.Words.{behind, behind_filled, rejoined}
use Rattle.placements.specs.Onwards.{GoesOn, rest_after}
use Rattle.placements.specs.declared.rest.Rest.{Rest}
use Rattle.rules.proofs.Counting.{length_row}
use Rattle.rules.proofs.Effects.{written_length}
use Rattle.rules.specs.Blocks.{Written, chosen_block, opened_for, user_address, user_addresses, written_into}
use Rattle.rules.specs.Drive.{Drive, block_at, clear_block, overwritten, with_block, with_domain}
use Rattle.rules.specs.Questions.{user_addresses_fit}
use Rattle.tables.specs.Serving.{drive}
use Rattle.transfers.specs.Transfers.{Wrote}

-- An entry set twice is set once.
pub set_twice : {A : Type 0} (xs : List A) (i : ℕ) (a b : A) → set (set xs i a) i b ≡ set xs i b
set_twice [] i a b = refl
set_twice (x ∷ xs) zero a b = refl
set_twice (x ∷ xs) (suc i) a b = ap (λ ys. x ∷ ys) (set_twice xs i a b)

-- Opened, and then written into.
pub filled_next : (d n : ℕ) (r : Rest) (t : Table) (opened written : Block) (owner : Domain) (store middle last words part : List ℕ)
    → n < length t.blocks → chosen_block t ≡ some n → ¬ (r.count.0 ≡ 0) → 0 < (adus_per_block t.config).0
    → user_addresses_fit r.start r.count.0 ≡ true → r.done ≤ length words
    → drive (with_domain d owner (with_block n opened t)) middle ≡ opened_for d (Placement r.placement) n (drive t store)
    → let put = min r.count.0 (adus_per_block t.config).0 in
    ((u : Table) → u.config ≡ t.config → block_at u n ≡ opened
    → Wrote (written_into d n (user_addresses r.start put) (drive u middle)) (behind r.done words) (drive (with_block n written u) last) part)
    → GoesOn d r (drive t store) words (rest_after r (adus_per_block t.config).0) (drive (with_domain d owner (with_block n written t)) last) (rejoined r.done words part)
filled_next d n r t opened written owner store middle last words part inside is ne has_adus fit inside-words opens writes =
    let left = rest_after r (adus_per_block t.config).0 in
    let put = min r.count.0 (adus_per_block t.config).0 in
    let users = user_addresses r.start put in
    let v = drive t store in
    let first = into_next d r.placement n r.start r.count.0 v in
    let u = with_domain d owner (with_block n opened t) in
    let w = writes u refl (get_or-set_same t.blocks n opened clear_block inside) in
    let is_first : written_into d n users (drive u middle) ≡ first = ap (written_into d n users) opens in
    let long : length first.addresses ≡ put =
    written_length d n users (opened_for d (Placement r.placement) n v) ∙ length_row (user_address r.start) put in
    let table : drive (with_domain d owner (with_block n written t)) last ≡ first.drive =
    rw (sym (set_twice t.blocks n opened written)) (w.leaves ∙ ap (λ (x : Written). x.drive) is_first) in
    let words_are : rejoined r.done words part ≡ overwritten r.done first.addresses words =
    behind_filled r.done (written_into d n users (drive u middle)).addresses words part w.fills
    ∙ ap (λ (x : Written). overwritten r.done x.addresses words) is_first in
    subst (λ (x : Drive). GoesOn d r v words left x (rejoined r.done words part)) (sym table)
    (subst (λ (x : List ℕ). GoesOn d r v words left first.drive x) (sym words_are)
    (goes_on_lem d n r v words has_adus fit inside-words is ne long))
