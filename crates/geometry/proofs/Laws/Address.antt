-- b is the least number with C ≤ 2 ^ b; an offset and its elements, and a word and its fields, give back each other.
use Prim.Native.Nat.{ℕ, zero, suc, ◌+◌, ◌-◌, ◌*◌, ◌/◌, ◌%◌, ◌^◌, ◌≤◌, ◌<◌}
use mathlib.Core.Bool.{true, ◌&&◌}
use mathlib.Core.Path.{◌≡◌, sym, ap, ◌∙◌, subst}
use native.Mathlib.Nat.{le_trans, lt_of_not-le, not-le_of_lt, lt_of_lt_of_le, div-lt_iff_lt-mul, div-add-mod', mod-lt, add_assoc, pow-suc}
use native.Mathlib.Omega.{arith}
use lib.Arith.{digits_lt, digits_div, digits_mod}
use lib.Count.{count_leading_zeros, leading_length}
use lib.Dec.{leb, ltb}
use lib.Pow.{high, low, mod-mod-pow, pow-add, pow_mono, split}
use borrow.Author.Tests.{leb-true, leb-false, lt-ltb, ltb-true}
use Rattle.geometry.specs.Address.{are_elements, elements_of, fields_of, least_from, offset_bits, offset_of, word_of}
use Rattle.geometry.specs.Shape.{adus, adus_per_block, planes_per_block, within_limits}
use Rattle.geometry.specs.declared.address.Elements.{Elements}
use Rattle.geometry.specs.declared.address.FlashAddress.{FlashAddress}
use Rattle.geometry.specs.declared.shape.Adus.{Adus}
use Rattle.geometry.specs.declared.shape.Config.{Config}
use Rattle.geometry.proofs.Laws.Shape.{Limits, both, by_test, limits, products}

-- ---- b

-- The search finds a power that is enough, if there is one where it looks, and none that is enough is less.
least_enough : (n k more : ℕ) → n ≤ 2 ^ (k + more) → n ≤ 2 ^ least_from n k more
unfolding least_from
least_enough n k zero h = subst (λ (x : ℕ). n ≤ 2 ^ x) (let e : k + 0 ≡ k = omega arith in e) h
least_enough n k (suc more) h =
    by_test (leb n (2 ^ k))
    (λ e. rw e (leb-true n (2 ^ k) e))
    (λ e. rw e (least_enough n (suc k) more (subst (λ (x : ℕ). n ≤ 2 ^ x) (let e : k + suc more ≡ suc k + more = omega arith in e) h)))

least_most : (n k more : ℕ) → least_from n k more ≤ k + more
unfolding least_from
least_most n k zero = omega arith
least_most n k (suc more) =
    by_test (leb n (2 ^ k)) (λ e. rw e (omega arith)) (λ e. rw e (omega (arith, least_most n (suc k) more)))

-- a power that is enough is above one that is not
above : (n k j : ℕ) → 2 ^ k < n → n ≤ 2 ^ j → k < j
above n k j a b = lt_of_not-le (λ (g : j ≤ k). not-le_of_lt a (le_trans b (pow_mono g)))

least_least : (n k more j : ℕ) → k ≤ j → n ≤ 2 ^ j → least_from n k more ≤ j
unfolding least_from
least_least n k zero j l h = l
least_least n k (suc more) j l h =
    by_test (leb n (2 ^ k))
    (λ e. rw e l)
    (λ e. rw e (least_least n (suc k) more j (above n k j (leb-false n (2 ^ k) e) h) h))

-- b is the least number with C ≤ 2 ^ b, and at most 20.
pub record OffsetBits (c : Config) : Type 0 where
  pub enough : (adus_per_block c).0 ≤ 2 ^ offset_bits c
  pub least : (k : ℕ) → (adus_per_block c).0 ≤ 2 ^ k → offset_bits c ≤ k
  pub few : offset_bits c ≤ 20

pub bits_laws : (c : Config) → Limits c → OffsetBits c
unfolding offset_bits
bits_laws c l = record {
  enough = least_enough (adus_per_block c).0 0 20 l.adus.most;
  least = λ k h. least_least (adus_per_block c).0 0 20 k (omega arith) h;
  few = least_most (adus_per_block c).0 0 20;
}

-- The digits of C - 1 are as many.
pub bits_counted : (c : Config) → Limits c → 64 - count_leading_zeros 64 ((adus_per_block c).0 - 1) ≡ offset_bits c
bits_counted c l =
    let n = (adus_per_block c).0 in
    let b = bits_laws c l in
    let d = leading_length 64 (n - 1) (omega (arith, l.adus.most)) in
    let low : offset_bits c ≤ d.0 = b.least d.0 (omega (arith, d.2, l.adus.least)) in
    let high : d.0 < suc (offset_bits c) =
    lt_of_not-le (λ (g : suc (offset_bits c) ≤ d.0). omega (arith, pow_mono g, pow-suc 2 (offset_bits c), d.3, b.enough, l.adus.least))
    in
    omega (arith, d.1)

-- ---- An offset and its elements

pub record InRange (c : Config) (e : Elements) : Type 0 where
  pub page : e.page < c.pages
  pub die : e.die < c.dies
  pub plane : e.plane < c.planes
  pub adu : e.adu < c.adus

pub elements_in_range : (c : Config) (e : Elements) → are_elements c e ≡ true → InRange c e
unfolding are_elements
elements_in_range c e h =
    let q1 = ltb e.page c.pages in
    let q2 = q1 && ltb e.die c.dies in
    let h3 = both (q2 && ltb e.plane c.planes) (ltb e.adu c.adus) h in
    let h2 = both q2 (ltb e.plane c.planes) h3.0 in
    let h1 = both q1 (ltb e.die c.dies) h2.0 in
    record {
      page = ltb-true e.page c.pages h1.0;
      die = ltb-true e.die c.dies h1.1;
      plane = ltb-true e.plane c.planes h2.1;
      adu = ltb-true e.adu c.adus h3.1;
    }

pub in_range_elements : (c : Config) (e : Elements) → InRange c e → are_elements c e ≡ true
unfolding are_elements
in_range_elements c e r =
    simp (lt-ltb e.page c.pages r.page, lt-ltb e.die c.dies r.die, lt-ltb e.plane c.planes r.plane, lt-ltb e.adu c.adus r.adu)

-- The elements of a block make offsets below C, by way of these.
pub record Offset (c : Config) (e : Elements) : Type 0 where
  pub die : e.page * c.dies + e.die < c.pages * c.dies
  pub plane : (e.page * c.dies + e.die) * c.planes + e.plane < (planes_per_block c).0
  pub adu : (offset_of c e).0 < (adus_per_block c).0

pub offset_in_range : (c : Config) (e : Elements) → InRange c e → Offset c e
unfolding planes_per_block adus_per_block offset_of
offset_in_range c e r =
    let d = digits_lt r.page r.die in
    let p = digits_lt d r.plane in
    record { die = d; plane = p; adu = digits_lt p r.adu }

-- Each sum on the way to an offset, and so each product, is far below 2 ^ 64.
pub dies_fit : (c : Config) (e : Elements) → within_limits c ≡ true → are_elements c e ≡ true → e.page * c.dies + e.die < 2 ^ 32
dies_fit c e within inside =
    omega (arith, (offset_in_range c e (elements_in_range c e inside)).die, (products c (limits c within).ranges).dies)

pub planes_fit : (c : Config) (e : Elements) → within_limits c ≡ true → are_elements c e ≡ true
    → (e.page * c.dies + e.die) * c.planes + e.plane < 2 ^ 32
planes_fit c e within inside =
    omega (arith, (offset_in_range c e (elements_in_range c e inside)).plane, (limits c within).planes.most)

pub adus_fit : (c : Config) (e : Elements) → within_limits c ≡ true → are_elements c e ≡ true
    → ((e.page * c.dies + e.die) * c.planes + e.plane) * c.adus + e.adu < 2 ^ 32
unfolding offset_of
adus_fit c e within inside =
    omega (arith, (offset_in_range c e (elements_in_range c e inside)).adu, (limits c within).adus.most)

pub ruleset offsets = (dies_fit, planes_fit, adus_fit)

-- An offset's elements are those that it was made of.
pub elements_offset : (c : Config) (e : Elements) → InRange c e → elements_of c (offset_of c e) ≡ e
unfolding elements_of offset_of
elements_offset c e r =
    let die = e.page * c.dies + e.die in
    let plane = die * c.planes + e.plane in
    simp (
      digits_div plane r.adu,
      digits_mod plane r.adu,
      digits_div die r.plane,
      digits_mod die r.plane,
      digits_div e.page r.die,
      digits_mod e.page r.die,
    )

-- Any offset's elements make it again, and are those of a block where it is below C.
pub offset_elements : (c : Config) (o : Adus) → offset_of c (elements_of c o) ≡ o
unfolding elements_of offset_of
offset_elements c o =
    simp (div-add-mod' (o.0 / c.adus / c.planes) c.dies, div-add-mod' (o.0 / c.adus) c.planes, div-add-mod' o.0 c.adus)

pub elements_in_block : (c : Config) (o : Adus) → Limits c → o.0 < (adus_per_block c).0 → InRange c (elements_of c o)
unfolding elements_of planes_per_block adus_per_block
elements_in_block c o l h =
    let r = l.ranges in record {
      page = (div-lt_iff_lt-mul r.dies.least).1 ((div-lt_iff_lt-mul r.planes.least).1 ((div-lt_iff_lt-mul r.adus.least).1 h));
      die = mod-lt (o.0 / c.adus / c.planes) r.dies.least;
      plane = mod-lt (o.0 / c.adus) r.planes.least;
      adu = mod-lt o.0 r.adus.least;
    }

-- ---- A word and its fields

-- The block and the offset of an address have room below bit 48.
pub record Fields (c : Config) (a : FlashAddress) : Type 0 where
  pub few : offset_bits c ≤ 48
  pub block : a.block < 2 ^ (48 - offset_bits c)
  pub offset : a.offset.0 < 2 ^ offset_bits c

pub fields : (c : Config) (a : FlashAddress) → Limits c → a.block < c.blocks → a.offset.0 < (adus_per_block c).0 → Fields c a
fields c a l n o =
    let b = bits_laws c l in
    let most : offset_bits c ≤ 48 = omega (arith, b.few) in
    let more : 8 ≤ 48 - offset_bits c = omega (arith, b.few) in
    record {
      few = most;
      block = omega (arith, l.ranges.blocks.most, pow_mono more);
      offset = lt_of_lt_of_le o b.enough;
    }

-- 48 bits are b and those of the block number.
up_to_48 : (b : ℕ) → b ≤ 48 → 48 - b + b ≡ 48
up_to_48 b h = omega arith

pub below_48 : (c : Config) (a : FlashAddress) → Fields c a → a.block * 2 ^ offset_bits c + a.offset.0 < 2 ^ 48
below_48 c a f =
    let b = offset_bits c in
    subst (λ (x : ℕ). a.block * 2 ^ b + a.offset.0 < x) (sym (pow-add 2 (48 - b) b) ∙ ap (λ (x : ℕ). 2 ^ x) (up_to_48 b f.few))
    (digits_lt f.block f.offset)

-- What the low b bits are does not depend on the bits from 48 on.
low_bits : (b word : ℕ) → b ≤ 48 → word % 2 ^ b ≡ word % 2 ^ 48 % 2 ^ b
low_bits b word h =
    sym (mod-mod-pow word (48 - b) b) ∙ ap (λ (x : ℕ). word % 2 ^ x % 2 ^ b) (up_to_48 b h)

module _ (c : Config) (a : FlashAddress) (f : Fields c a) where
  high_and_low : word_of c a ≡ a.domain * 2 ^ 48 + (a.block * 2 ^ offset_bits c + a.offset.0)
  unfolding word_of
  high_and_low = add_assoc (a.domain * 2 ^ 48) (a.block * 2 ^ offset_bits c) a.offset.0

  word_low : word_of c a % 2 ^ 48 ≡ a.block * 2 ^ offset_bits c + a.offset.0
  word_low = rw high_and_low (low a.domain 48 (below_48 c a f))

  -- A word's fields are those that it was made of.
  pub fields_word : fields_of c (word_of c a) ≡ a
  unfolding fields_of
  fields_word =
      let b = offset_bits c in
      let domain : word_of c a / 2 ^ 48 ≡ a.domain = rw high_and_low (high a.domain 48 (below_48 c a f)) in
      let block : word_of c a % 2 ^ 48 / 2 ^ b ≡ a.block = rw word_low (high a.block b f.offset) in
      let offset : word_of c a % 2 ^ b ≡ a.offset.0 = low_bits b (word_of c a) f.few ∙ rw word_low (low a.block b f.offset) in
      λ i. record { domain = domain i; block = block i; offset = adus (offset i) }

-- Any word's fields make it again.
pub word_fields : (c : Config) (word : ℕ) → offset_bits c ≤ 48 → word_of c (fields_of c word) ≡ word
unfolding word_of fields_of
word_fields c word h =
    let b = offset_bits c in
    add_assoc (word / 2 ^ 48 * 2 ^ 48) (word % 2 ^ 48 / 2 ^ b * 2 ^ b) (word % 2 ^ b)
    ∙ ap (λ (x : ℕ). word / 2 ^ 48 * 2 ^ 48 + (word % 2 ^ 48 / 2 ^ b * 2 ^ b + x)) (low_bits b word h)
    ∙ ap (λ (x : ℕ). word / 2 ^ 48 * 2 ^ 48 + x) (split (word % 2 ^ 48) b)
    ∙ split word 48
