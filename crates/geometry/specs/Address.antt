-- Document 01, "Flash addresses" (000, 3.11, Perfect method): the ADU offset, the word, and how each is taken apart.
use Rattle.std.specs.Prelude.{ℕ, zero, suc, ◌+◌, ◌*◌, ◌/◌, ◌%◌, ◌^◌, Bool, ◌&&◌, cond, leb, ltb}
use Rattle.geometry.specs.Shape.{adus, adus_per_block, between}
use Rattle.geometry.specs.declared.address.Elements.{Elements}
use Rattle.geometry.specs.declared.address.FlashAddress.{FlashAddress}
use Rattle.geometry.specs.declared.shape.Adus.{Adus}
use Rattle.geometry.specs.declared.shape.Config.{Config}

-- ADU offset = ((page × D + die) × L + plane) × K + ADU number (000, Figure 3.5)
unfoldable pub offset_of : Config → Elements → Adus
offset_of c e = adus (((e.page * c.dies + e.die) * c.planes + e.plane) * c.adus + e.adu)

-- The elements of an offset.
unfoldable pub elements_of : Config → Adus → Elements
elements_of c o = record {
  page = o.0 / c.adus / c.planes / c.dies;
  die = o.0 / c.adus / c.planes % c.dies;
  plane = o.0 / c.adus % c.planes;
  adu = o.0 % c.adus;
}

-- The first of k, k + 1, .. with n ≤ 2 ^ k, looked for below k + more.
unfoldable pub least_from : ℕ → ℕ → ℕ → ℕ
least_from n k zero = k
least_from n k (suc more) = cond (leb n (2 ^ k)) k (least_from n (suc k) more)

-- b, the least number with C ≤ 2 ^ b; it is at most 20, since C ≤ 2 ^ 20.
unfoldable pub offset_bits : Config → ℕ
offset_bits c = least_from (adus_per_block c).0 0 20

-- The word: the domain ID in bits 63 to 48 (000, Figure 3.4), the block number in bits b to 47, the offset below.
unfoldable pub word_of : Config → FlashAddress → ℕ
word_of c a = a.domain * 2 ^ 48 + a.block * 2 ^ offset_bits c + a.offset.0

-- The three fields of any word.
unfoldable pub fields_of : Config → ℕ → FlashAddress
fields_of c word = record {
  domain = word / 2 ^ 48;
  block = word % 2 ^ 48 / 2 ^ offset_bits c;
  offset = adus (word % 2 ^ offset_bits c);
}

-- What a program says of a word where the configuration may be outside the limits: there it has no domain.
abbrev pub no_address : FlashAddress
no_address = record { domain = 0; block = 0; offset = adus 0 }

-- Domain IDs are 1 to 16.
abbrev pub is_domain_id : ℕ → Bool
is_domain_id d = between 1 16 d

-- A block of the drive, an offset of a block, elements of a block.
abbrev pub is_block : Config → ℕ → Bool
is_block c n = ltb n c.blocks

abbrev pub is_offset : Config → Adus → Bool
is_offset c o = ltb o.0 (adus_per_block c).0

unfoldable pub are_elements : Config → Elements → Bool
are_elements c e =
    ltb e.page c.pages
    && ltb e.die c.dies
    && ltb e.plane c.planes
    && ltb e.adu c.adus
