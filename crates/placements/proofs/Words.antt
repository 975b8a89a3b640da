-- Words that are filled one stretch behind the other.
use Prim.Native.Nat.{ℕ, ◌+◌, ◌-◌, ◌≤◌}
use mathlib.Core.List.{List, [], ◌++◌, append_assoc, append-nil}
use mathlib.Core.Path.{◌≡◌, sym, ap, ◌∙◌}
use native.Mathlib.Omega.{arith}
use lib.ListN.{drop, drop_of_length-le, length, length-append, length-drop, length-take, take, take-append-drop}
use lib.Seq.{drop-append_seam, drop-drop, take_all, take-append_seam}
use Rattle.rules.specs.Drive.{overwritten}

-- A stretch and another right behind it are one.
pub overwritten_two : (at next : ℕ) (these those row : List ℕ) → at ≤ length row → next ≡ at + length these
    → overwritten next those (overwritten at these row) ≡ overwritten at (these ++ those) row
unfolding overwritten
overwritten_two at next these those row l is =
    let front = take at row in
    let end = drop (length these) (drop at row) in
    let long : length (front ++ these) ≡ next = rw (length-append front these, length-take at row) (omega (arith, l, is)) in
    let joined : front ++ (these ++ end) ≡ (front ++ these) ++ end = sym (append_assoc front these end) in
    let taken : take next (front ++ (these ++ end)) ≡ front ++ these =
    ap (take next) joined ∙ ap (λ (k : ℕ). take k ((front ++ these) ++ end)) (sym long) ∙ take-append_seam (front ++ these) end in
    let dropped : drop next (front ++ (these ++ end)) ≡ end =
    ap (drop next) joined ∙ ap (λ (k : ℕ). drop k ((front ++ these) ++ end)) (sym long) ∙ drop-append_seam (front ++ these) end in
    let further : drop (length those) end ≡ drop (length (these ++ those)) (drop at row) =
    drop-drop (length those) (length these) (drop at row) ∙ ap (λ (k : ℕ). drop k (drop at row)) (sym (length-append these those)) in
    ap (λ (x : List ℕ). x ++ (those ++ drop (length those) (drop next (front ++ (these ++ end))))) taken
    ∙ ap (λ (x : List ℕ). (front ++ these) ++ (those ++ drop (length those) x)) dropped
    ∙ ap (λ (x : List ℕ). (front ++ these) ++ (those ++ x)) further
    ∙ append_assoc front these (those ++ drop (length (these ++ those)) (drop at row))
    ∙ ap (λ (x : List ℕ). front ++ x) (sym (append_assoc these those (drop (length (these ++ those)) (drop at row))))

-- A stretch of nothing changes none.
pub overwritten_none : (at : ℕ) (row : List ℕ) → overwritten at [] row ≡ row
unfolding overwritten
overwritten_none at row = take-append-drop at row

-- The words behind the first k, as they are lent on, and all of them with what those then hold.
abbrev pub behind : ℕ → List ℕ → List ℕ
behind k row = take (length row - k) (drop k row)

abbrev pub rejoined : ℕ → List ℕ → List ℕ → List ℕ
rejoined k row part = take k row ++ (part ++ drop (length row - k) (drop k row))

behind_all : (k : ℕ) (row : List ℕ) → behind k row ≡ drop k row
behind_all k row = take_all (length row - k) (drop k row) (rw length-drop (omega arith))

rejoined_all : (k : ℕ) (row part : List ℕ) → rejoined k row part ≡ take k row ++ part
rejoined_all k row part =
    ap (λ (end : List ℕ). take k row ++ (part ++ end)) (drop_of_length-le (drop k row) {i = length row - k} (rw length-drop (omega arith)))
    ∙ ap (λ (end : List ℕ). take k row ++ end) (append-nil part)

pub behind_long : (k : ℕ) (row : List ℕ) → length (behind k row) ≡ length row - k
behind_long k row = ap (λ (r : List ℕ). length r) (behind_all k row) ∙ length-drop k row

pub rejoined_long : (k : ℕ) (row part : List ℕ) → k ≤ length row → length part ≡ length (behind k row) → length (rejoined k row part) ≡ length row
rejoined_long k row part l e =
    ap (λ (r : List ℕ). length r) (rejoined_all k row part) ∙ length-append (take k row) part
    ∙ rw (length-take k row) (omega (arith, l, e, behind_long k row))

-- Filling them from their first on is filling all from k on.
pub behind_filled : (k : ℕ) (new row part : List ℕ) → part ≡ overwritten 0 new (behind k row) → rejoined k row part ≡ overwritten k new row
unfolding overwritten
behind_filled k new row part e =
    rejoined_all k row part ∙ ap (λ (x : List ℕ). take k row ++ x) (e ∙ ap (λ (x : List ℕ). new ++ drop (length new) x) (behind_all k row))
