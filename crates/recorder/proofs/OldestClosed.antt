-- The oldest Closed block is found block by block in the records that are lent, and past the last record there is none.
use Prim.Native.Nat.{ℕ, zero, suc, ◌+◌, ◌-◌, ◌≤◌, ◌<◌, min}
use mathlib.Core.Bool.{Bool, true, false, ◌&&◌, and-false, and-true, cond}
use mathlib.Core.List.{List}
use mathlib.Core.Option.{Option, none, some}
use mathlib.Core.Path.{◌≡◌, refl, ◌∙◌, ap, ap₂, subst, sym}
use native.Mathlib.Numerals.{add-one}
use native.Mathlib.Omega.{arith}
use lib.Dec.{eqb, ltb}
use lib.ListN.{get_or-eq_default, get_or, length, take}
use lib.Seq.{get_or-take, length-take-le}
use borrow.Author.Tests.{lt-ltb, ltb-false, ltb-true}
use Rattle.geometry.proofs.Laws.Shape.{by_test}
use Rattle.model.specs.declared.block.Block.{Block}
use Rattle.model.specs.declared.command.Command.TheVariants.{Free}
use Rattle.model.specs.declared.table.Table.{Table}
use Rattle.rules.specs.Drive.{block_at, clear_block, closed_of, size}
use Rattle.recorder.specs.Choice.{NarrowTo, found, found_in, none_found, older_of}
use Rattle.recorder.specs.Samples.{freeing, number_or}
use Rattle.rules.specs.Recorder.{older, oldest_closed, oldest_to}
use Rattle.recorder.specs.declared.choice.Oldest.{Oldest}

-- Among no records nothing is found, and one record more is one step more.
pub found_none : (bs : List Block) (d : ℕ) → found_in bs d 0 ≡ none_found
unfolding found_in
found_none bs d = refl

pub found_next : (bs : List Block) (d n : ℕ) → found_in bs d (n + 1) ≡ older_of (found_in bs d n) n (get_or bs n clear_block) d
unfolding found_in
found_next bs d n = rw add-one

-- A number of the rules, with the serial of its block; and none.
abbrev found_of : Table → Option ℕ → Oldest
found_of t none = none_found
found_of t (some n) = found n (block_at t n).serial

-- The serials of the first n blocks have four bytes, so that each of them is older than none.
abbrev Narrow : Table → ℕ → Type 0
Narrow t n = (i : ℕ) → i < n → (block_at t i).serial < 4294967296

-- One step of the rules is one of the code.
picked : (t : Table) (n : ℕ) (q : Bool) (o : Option ℕ) → found_of t (cond q (some n) o) ≡ cond q (found n (block_at t n).serial) (found_of t o)
picked t n true o = refl
picked t n false o = refl

found_older : (t : Table) (d n : ℕ) (o : Option ℕ) → (block_at t n).serial < 4294967296 → found_of t (older t d n o) ≡ older_of (found_of t o) n (block_at t n) d
unfolding older_of
found_older t d n none narrow = rw (lt-ltb (block_at t n).serial 18446744073709551615 (omega (arith, narrow)), and-true) (picked t n (closed_of d (block_at t n)) none)
found_older t d n (some m) narrow = picked t n (closed_of d (block_at t n) && ltb (block_at t n).serial (block_at t m).serial) (some m)

-- So in the first k of the records that are lent is found what is found in the table.
found_lent : (t : Table) (d m k : ℕ) → Narrow t m → k ≤ m → found_in (take m t.blocks) d k ≡ found_of t (oldest_to t d k)
unfolding found_in oldest_to
found_lent t d m zero narrow l = refl
found_lent t d m (suc k) narrow l =
    ap₂ (λ (f : Oldest) (b : Block). older_of f k b d) (found_lent t d m k narrow (omega (arith, l))) (get_or-take m t.blocks k clear_block (omega (arith, l)))
    ∙ sym (found_older t d k (oldest_to t d k) (narrow k (omega (arith, l))))

-- A clear record is not that of a Closed block, ..
none_closed : (d : ℕ) (b : Block) → b ≡ clear_block → closed_of d b ≡ false
none_closed d b e = rw e (and-false (eqb 0 d))

passed_over : (t : Table) (d n : ℕ) (o : Option ℕ) → closed_of d (block_at t n) ≡ false → older t d n o ≡ o
passed_over t d n none e = rw e
passed_over t d n (some m) e = rw e

-- .. so past the last record nothing more is found.
none_past : (t : Table) (d m k : ℕ) → length t.blocks ≤ m → oldest_to t d (k + m) ≡ oldest_to t d m
unfolding oldest_to
none_past t d m zero few = let at : 0 + m ≡ m = omega arith in ap (oldest_to t d) at
none_past t d m (suc k) few =
    let past : suc k + m ≡ suc (k + m) = omega arith in
    let clear : block_at t (k + m) ≡ clear_block = get_or-eq_default t.blocks clear_block {n = k + m} (omega arith) in
    ap (oldest_to t d) past ∙ passed_over t d (k + m) (oldest_to t d (k + m)) (none_closed d (block_at t (k + m)) clear) ∙ none_past t d m k few

oldest_of_few : (t : Table) (d m n : ℕ) → length t.blocks ≤ m → oldest_to t d (min n m) ≡ oldest_to t d n
oldest_of_few t d m n few = by_test (ltb n m)
    (λ e. let all : min n m ≡ n = omega (arith, ltb-true n m e) in ap (oldest_to t d) all)
    (λ e. let most : min n m ≡ m = omega (arith, ltb-false n m e) in let rest : (n - m) + m ≡ n = omega (arith, ltb-false n m e) in
    ap (oldest_to t d) most ∙ sym (none_past t d m (n - m) few) ∙ ap (oldest_to t d) rest)

-- What is found in the records that are lent is the oldest of all, and its number is the one that is freed.
number_found_lem : (t : Table) (o : Option ℕ) → (found_of t o).number ≡ number_or o
number_found_lem t none = refl
number_found_lem t (some n) = refl

pub frees : (t : Table) (d n : ℕ) → NarrowTo (take n t.blocks) (length (take n t.blocks)) → length t.blocks ≡ 256 → n ≡ min (size t) 256
    → Free d (found_in (take n t.blocks) d (length (take n t.blocks))).number ≡ freeing t d
unfolding freeing
frees t d n narrow all is =
    let long : length (take n t.blocks) ≡ n = length-take-le n t.blocks (omega (arith, all, is)) in
    let each : Narrow t n =
    λ i l. subst (λ (b : Block). b.serial < 4294967296) (get_or-take n t.blocks i clear_block l) (narrow i (omega (arith, l, long))) in
    let oldest : found_in (take n t.blocks) d (length (take n t.blocks)) ≡ found_of t (oldest_closed t d) =
    ap (found_in (take n t.blocks) d) long ∙ found_lent t d n n each (omega arith)
    ∙ ap (λ (k : ℕ). found_of t (oldest_to t d k)) is ∙ ap (found_of t) (oldest_of_few t d 256 (size t) (omega (arith, all))) in
    ap (λ (f : Oldest). Free d f.number) oldest ∙ ap (Free d) (number_found_lem t (oldest_closed t d))
