-- Pieces that are put into a buffer one behind the other.
use Rattle.std.proofs.Common.{◌≡◌, All, flat_map, ◌∷◌, ℕ, suc, ◌+◌, ◌*◌, ◌≤◌, ◌<◌, List, [], ◌++◌, sym, ap, ◌∙◌}
use Rattle.std.proofs.Common.{drop, get_or, length, take, add-one, add-zero, append_assoc, length-append, arith}
use Rattle.std.proofs.Math.ListN.{length-take, take-append-drop}
use Rattle.std.proofs.Math.Seq.{drop-append-add, drop-drop, take-suc, take_at}
use Rattle.std.proofs.lemmas.List.{flat_map_more}
use Rattle.answer_lines.specs.Texts.{put}

-- To put nothing leaves the buffer.
pub put_nothing : (at : ℕ) (buffer : List ℕ) → put at [] buffer ≡ buffer
put_nothing at buffer = rw add-zero (take-append-drop at buffer)

-- A piece and one behind it are one piece.
pub put_put : (at end : ℕ) (piece next buffer : List ℕ) → end ≡ at + length piece → end ≤ length buffer
    → put end next (put at piece buffer) ≡ put at (piece ++ next) buffer
put_put at end piece next buffer e l =
    let front : length (take at buffer ++ piece) ≡ end = simp (length-append, length-take) (omega arith) in
    let rest = (take at buffer ++ piece) ++ drop end buffer in
    let passed : drop (end + length next) rest ≡ drop (end + length next) buffer =
    rw (← front, drop-append-add, drop-drop) in
    let ends : at + length (piece ++ next) ≡ end + length next = simp length-append (omega arith) in
    rw (
      ends,
      ← e,
      ← append_assoc (take at buffer) piece (drop end buffer),
      passed,
      take_at (take at buffer ++ piece) (drop end buffer) end front,
      append_assoc (take at buffer) piece,
      ← append_assoc piece next,
    )

-- One piece more of a width is no more than all of them take.
pub wide_enough : (width i n : ℕ) → i < n → width * i + width ≤ width * n
wide_enough width i n l = grind arith

-- Pieces whose texts are of one length.
pub length_pieces : {P : Type 0} (text : P → List ℕ) (width : ℕ) (pieces : List P)
    → All (λ piece. length (text piece) ≡ width) pieces
    → length (flat_map text pieces) ≡ width * length pieces
length_pieces text width [] each = grind arith
length_pieces text width (piece ∷ pieces) each =
    let first = each 0 piece (omega arith) in
    let rest = length_pieces text width pieces (λ k d l. each (suc k) d (omega arith)) in
    simp length-append (grind arith)

-- One piece more behind the first ones.
module _ {P : Type 0} (text : P → List ℕ) (pieces : List P) (i : ℕ) (piece : P) (within : i < length pieces)
    (read : piece ≡ get_or pieces i piece) where
  next_piece : flat_map text (take (i + 1) pieces) ≡ flat_map text (take i pieces) ++ text piece
  next_piece = rw (add-one, take-suc pieces i piece within, ← read) (sym (flat_map_more text [] (take i pieces) piece))

  pub put_next : (at end : ℕ) (buffer before after : List ℕ) → before ≡ put at (flat_map text (take i pieces)) buffer
      → end ≡ at + length (flat_map text (take i pieces)) → end ≤ length buffer → after ≡ put end (text piece) before
      → after ≡ put at (flat_map text (take (i + 1) pieces)) buffer
  put_next at end buffer before after filled long fits made =
      made
      ∙ ap (put end (text piece)) filled
      ∙ put_put at end (flat_map text (take i pieces)) (text piece) buffer long fits
      ∙ ap (λ all. put at all buffer) (sym next_piece)

  pub length_next : length (flat_map text (take (i + 1) pieces))
      ≡ length (flat_map text (take i pieces)) + length (text piece)
  length_next = ap length next_piece ∙ simp length-append
