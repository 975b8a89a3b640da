-- What the limits say of each number and product, and that rounding up gives the least number of blocks.
use Prim.Native.Nat.{ℕ, ◌+◌, ◌-◌, ◌*◌, ◌/◌, ◌≤◌, ◌<◌}
use mathlib.Core.Bool.{Bool, true, false, ◌&&◌, and-eq-true_iff}
use mathlib.Core.Path.{◌≡◌, refl}
use native.Mathlib.Nat.{div-lt_iff_lt-mul, le_of_suc-le-suc, le_trans, lt-div-mul-add, mul-le-mul_right, suc-mul}
use native.Mathlib.Nat.{mul-le-mul, div-eq_of_lt-le, add-mul}
use native.Mathlib.Omega.{arith}
use lib.Dec.{leb}
use Rattle.std.specs.Int.{div_ceil}
use Rattle.std.proofs.lemmas.Grind.{div_ceil_times}
use borrow.Author.Tests.{leb-true}
use Rattle.geometry.specs.Shape.{adus_per_block, between, each_in_range, planes_per_block, store_length, stretch_start, whole_blocks, within_limits}
use Rattle.geometry.specs.declared.shape.Config.{Config}
use Rattle.geometry.specs.declared.shape.Planes.{Planes}

pub by_test : {P : Type 0} (b : Bool) → (b ≡ true → P) → (b ≡ false → P) → P
by_test true yep nope = yep refl
by_test false yep nope = nope refl

pub both : (a b : Bool) → a && b ≡ true → (a ≡ true) × (b ≡ true)
both a b e = (and-eq-true_iff a b).0 e

pub record Between (low high n : ℕ) : Type 0 where
  pub least : low ≤ n
  pub most : n ≤ high

pub is_between : (low high n : ℕ) → between low high n ≡ true → Between low high n
is_between low high n e =
    let h = both (leb low n) (leb n high) e in record { least = leb-true low n h.0; most = leb-true n high h.1 }

pub record Ranges (c : Config) : Type 0 where
  pub pages : Between 128 8192 c.pages
  pub dies : Between 1 64 c.dies
  pub planes : Between 1 64 c.planes
  pub adus : Between 1 256 c.adus
  pub blocks : Between 1 256 c.blocks
  pub rated : Between 1 65535 c.rated
  pub period : Between 1 65535 c.period

pub ranges : (c : Config) → each_in_range c ≡ true → Ranges c
unfolding each_in_range
ranges c e =
    let q1 = between 128 8192 c.pages in
    let q2 = q1 && between 1 64 c.dies in
    let q3 = q2 && between 1 64 c.planes in
    let q4 = q3 && between 1 256 c.adus in
    let q5 = q4 && between 1 256 c.blocks in
    let q6 = q5 && between 1 65535 c.rated in
    let h6 = both q6 (between 1 65535 c.period) e in
    let h5 = both q5 (between 1 65535 c.rated) h6.0 in
    let h4 = both q4 (between 1 256 c.blocks) h5.0 in
    let h3 = both q3 (between 1 256 c.adus) h4.0 in
    let h2 = both q2 (between 1 64 c.planes) h3.0 in
    let h1 = both q1 (between 1 64 c.dies) h2.0 in
    record {
      pages = is_between 128 8192 c.pages h1.0;
      dies = is_between 1 64 c.dies h1.1;
      planes = is_between 1 64 c.planes h2.1;
      adus = is_between 1 256 c.adus h3.1;
      blocks = is_between 1 256 c.blocks h4.1;
      rated = is_between 1 65535 c.rated h5.1;
      period = is_between 1 65535 c.period h6.1;
    }

-- The products on the way to C, from the ranges alone: none is near 2 ^ 64.
pub record Products (c : Config) : Type 0 where
  pub dies : c.pages * c.dies ≤ 524288
  pub planes : Between 128 33554432 (planes_per_block c).0
  pub adus : Between 128 8589934592 (adus_per_block c).0

pub products : (c : Config) → Ranges c → Products c
unfolding planes_per_block adus_per_block
products c r =
    let most2 = mul-le-mul r.pages.most r.dies.most in
    let most3 = mul-le-mul most2 r.planes.most in
    let least3 = mul-le-mul (mul-le-mul r.pages.least r.dies.least) r.planes.least in
    record {
      dies = most2;
      planes = record { least = least3; most = most3 };
      adus = record { least = mul-le-mul least3 r.adus.least; most = mul-le-mul most3 r.adus.most };
    }

-- What the limits say.
pub record Limits (c : Config) : Type 0 where
  pub ranges : Ranges c
  pub planes : Between 128 33554432 (planes_per_block c).0
  pub adus : Between 128 1048576 (adus_per_block c).0

pub in_range : (c : Config) → within_limits c ≡ true → each_in_range c ≡ true
unfolding within_limits
in_range c e = (both (each_in_range c) (leb (adus_per_block c).0 1048576) e).0

pub limits : (c : Config) → within_limits c ≡ true → Limits c
unfolding within_limits
limits c e =
    let h = both (each_in_range c) (leb (adus_per_block c).0 1048576) e in
    let r = ranges c h.0 in
    let p = products c r in
    record {
      ranges = r;
      planes = p.planes;
      adus = record { least = p.adus.least; most = leb-true (adus_per_block c).0 1048576 h.1 };
    }

-- None of the divisors is 0.
pub some_dies : (c : Config) → within_limits c ≡ true → 0 < c.dies
some_dies c e = (limits c e).ranges.dies.least

pub some_planes : (c : Config) → within_limits c ≡ true → 0 < c.planes
some_planes c e = (limits c e).ranges.planes.least

pub some_adus : (c : Config) → within_limits c ≡ true → 0 < c.adus
some_adus c e = (limits c e).ranges.adus.least

pub ruleset divisors = (some_dies, some_planes, some_adus)

-- n rounded up to units of w, as the library's div_ceil does it
pub rounded_up : (n w : ℕ) → 0 < w → (n + (w - 1)) / w ≡ div_ceil n w
rounded_up n w p =
    let t = div_ceil_times n w p in
    div-eq_of_lt-le w (omega (arith, t.1)) (rw add-mul (omega (arith, t.0)))

pub least_blocks : (c : Config) (n : Planes) → Limits c
    → (n.0 ≤ whole_blocks c n * (planes_per_block c).0) × ((k : ℕ) → n.0 ≤ k * (planes_per_block c).0 → whole_blocks c n ≤ k)
unfolding whole_blocks
least_blocks c n l =
    let w = (planes_per_block c).0 in
    let pos : 0 < w = omega (arith, l.planes.least) in
    let up = n.0 + (w - 1) in (
      omega (arith, lt-div-mul-add {a = up} pos, l.planes.least),
      λ k h. le_of_suc-le-suc ((div-lt_iff_lt-mul pos).1 (rw suc-mul (omega (arith, l.planes.least)))),
    )

-- A stretch begins within the store, and the store is far below 2 ^ 64.
pub starts : (c : Config) → Limits c → (n : ℕ) → n ≤ c.blocks → n * (adus_per_block c).0 ≤ 268435456
starts c l n h =
    mul-le-mul (le_trans h l.ranges.blocks.most) l.adus.most

pub starts_apart : (c : Config) (n m : ℕ) → n < m → (stretch_start c n).0 + (adus_per_block c).0 ≤ (stretch_start c m).0
unfolding stretch_start
starts_apart c n m h = rw (← suc-mul n (adus_per_block c).0) (mul-le-mul_right (adus_per_block c).0 h)

pub starts_end : (c : Config) → stretch_start c c.blocks ≡ store_length c
unfolding stretch_start store_length
starts_end c = refl
