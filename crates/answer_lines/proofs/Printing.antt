-- A line that is printed in pieces, and room for it.
use Rattle.std.proofs.Common.{◌≡◌, ℕ, ◌+◌, ◌≤◌, ◌<◌, Bool, false, true, List, ◌++◌, sym, ap, ◌∙◌}
use Rattle.std.proofs.Common.{length, append_assoc, length-append, zero-add, arith}
use Rattle.std.proofs.Common.{leb, le-leb, leb-false, leb-true}
use Rattle.std.proofs.lemmas.Bool.{lt-leb}
use Rattle.answer_lines.specs.Lines.{Prints}
use Rattle.answer_lines.specs.Texts.{put}
use Rattle.answer_lines.proofs.Pieces.{put_put}

-- A line that fits is printed.
printed : (text before after : List ℕ) (r : ℕ) → length text ≤ length before → r ≡ length text
    → after ≡ put 0 text before → Prints text before r after
printed text before after r fits counted filled =
    record {
      counted = rw (le-leb (length text) (length before) fits) counted;
      filled = rw (le-leb (length text) (length before) fits) (filled ∙ rw zero-add);
    }

-- A line that does not fit is not.
not_printed : (text before : List ℕ) → length before < length text → Prints text before 0 before
not_printed text before short =
    record {
      counted = rw (lt-leb (length text) (length before) short);
      filled = rw (lt-leb (length text) (length before) short);
    }

-- A line in three pieces, which need so many places, and a test for room.
module _ (head middle tail before : List ℕ) {needed : ℕ} {room : Bool} (test : room ≡ leb needed (length before))
    (size : needed ≡ length head + (length middle + length tail)) where
  -- With room the pieces are put one behind the other ..
  pub in_three : room ≡ true → {first second after : List ℕ} {begin end r : ℕ}
      → first ≡ put 0 head before
      → begin ≡ 0 + length head
      → second ≡ put begin middle first
      → end ≡ begin + length middle
      → after ≡ put end tail second
      → r ≡ end + length tail
      → Prints (head ++ (middle ++ tail)) before r after
  in_three roomy {first} {second} {after} {begin} {end} {r} one there two then three all =
      let fits : needed ≤ length before = leb-true needed (length before) (sym test ∙ roomy) in
      let two_put : second ≡ put 0 (head ++ middle) before =
      two ∙ ap (put begin middle) one ∙ put_put 0 begin head middle before there (omega arith) in
      let long : length (head ++ middle) ≡ end = simp length-append (omega arith) in
      let three_put : after ≡ put 0 ((head ++ middle) ++ tail) before =
      three ∙ ap (put end tail) two_put ∙ put_put 0 end (head ++ middle) tail before (omega arith) (omega arith) in
      printed (head ++ (middle ++ tail)) before after r (simp length-append (omega arith))
      (simp length-append (omega arith)) (rw (append_assoc head middle tail) at three_put)

  -- .. and without it the buffer stays.
  pub not_in_three : room ≡ false → Prints (head ++ (middle ++ tail)) before 0 before
  not_in_three cramped =
      let short : length before < needed = leb-false needed (length before) (sym test ∙ cramped) in
      not_printed (head ++ (middle ++ tail)) before (simp length-append (omega arith))
