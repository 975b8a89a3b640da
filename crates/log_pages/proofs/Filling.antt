-- Fields that are filled in one behind the other.
use Prim.Native.Nat.{ℕ, ◌+◌, ◌≤◌}
use mathlib.Core.List.{List, ◌++◌}
use mathlib.Core.Path.{◌≡◌, sym, ap, ◌∙◌}
use native.Mathlib.Omega.{arith}
use lib.ListN.{drop, length, length-append, take, take-append-drop}
use lib.Seq.{length-take-le}
use Rattle.geometry.specs.Bytes.{little_endian}
use Rattle.buffers.proofs.Rows.{length_bytes}
use Rattle.rules.proofs.Drive.{fill_then}
use Rattle.rules.specs.Drive.{overwritten}

-- Bytes in which a row of k bytes was filled in.
pub record Filled (at k : ℕ) (row first bytes : List ℕ) : Type 0 where
  pub are : bytes ≡ overwritten at row first
  pub long : length row ≡ k

-- One field of a number that is known, ..
pub one_field : {at m : ℕ} {first bytes : List ℕ} (width n : ℕ) → m ≡ n → bytes ≡ overwritten at (little_endian width m) first
    → Filled at width (little_endian width n) first bytes
one_field width n same e = record { are = e ∙ rw same; long = length_bytes width n }

-- .. and one more behind those that stand, of a number that is known.
pub next_field : {at k m : ℕ} {row first bytes last : List ℕ} (width n : ℕ) → m ≡ n → at ≤ length first → Filled at k row first bytes
    → last ≡ overwritten (at + k) (little_endian width m) bytes
    → Filled at (k + width) (row ++ little_endian width n) first last
next_field {at} {k} {m} {row} {first} width n same l f e = record {
  are = e ∙ rw (f.are, ← f.long, same) (fill_then at row (little_endian width n) first l);
  long = rw (length-append, f.long, length_bytes);
}

-- A row's first k entries and, behind them, the rest are the row.
pub fill_parts : (k : ℕ) (row first : List ℕ) → k ≤ length row
    → overwritten k (drop k row) (overwritten 0 (take k row) first) ≡ overwritten 0 row first
fill_parts k row first l =
    let long : 0 + length (take k row) ≡ k = omega (arith, length-take-le k row l) in
    ap (λ (n : ℕ). overwritten n (drop k row) (overwritten 0 (take k row) first)) (sym long)
    ∙ fill_then 0 (take k row) (drop k row) first (omega arith)
    ∙ ap (λ (r : List ℕ). overwritten 0 r first) (take-append-drop k row)
