-- What keys tell, key by key, in the marks.
use Prim.Native.Nat.{ℕ, zero, suc, ◌+◌}
use mathlib.Core.List.{List}
use mathlib.Core.Path.{◌≡◌, refl, ap, ◌∙◌}
use native.Mathlib.Numerals.{add-one}
use lib.ListN.{get_or, length, length-set, set}
use Rattle.scan.specs.Listing.{byte_in, index_in, number_in, told_to, told_with}

-- The marks are as many as they were.
pub with_long : (i key : ℕ) (marks : List ℕ) → length (told_with i key marks) ≡ length marks
with_long i key marks =
    length-set (set (set marks (32 + i) (number_in key)) (288 + i) (byte_in key)) (544 + i) (index_in key)
    ∙ length-set (set marks (32 + i) (number_in key)) (288 + i) (byte_in key)
    ∙ length-set marks (32 + i) (number_in key)

pub told_long : (keys : List ℕ) (i : ℕ) (marks : List ℕ) → length (told_to keys i marks) ≡ length marks
unfolding told_to
told_long keys zero marks = refl
told_long keys (suc i) marks = with_long i (get_or keys i 0) (told_to keys i marks) ∙ told_long keys i marks

-- One key more.
pub told_more : (keys : List ℕ) (i : ℕ) (first marks after : List ℕ) → marks ≡ told_to keys i first → after ≡ told_with i (get_or keys i 0) marks
    → after ≡ told_to keys (i + 1) first
unfolding told_to
told_more keys i first marks after are is = is ∙ ap (told_with i (get_or keys i 0)) are ∙ rw (add-one)
