-- Log pages read by serial are the same in two drives that the domain cannot tell apart.
use Prim.Native.Nat.{ℕ, zero, suc, ◌/◌, ◌%◌, ◌≤◌, ◌<◌}
use mathlib.Core.Bool.{Bool, cond}
use mathlib.Core.List.{List, [], ◌∷◌, ◌++◌, map, map-append}
use mathlib.Core.Path.{◌≡◌, refl, sym, ap, ap₂, ◌∙◌, subst}
use native.Mathlib.Omega.{arith}
use lib.ListN.{drop, get_or, length, take}
use borrow.Author.Tests.{eqb-true, le-ltb, lt-ltb}
use Rattle.geometry.proofs.Laws.Shape.{by_test}
use Rattle.geometry.specs.Address.{is_block}
use Rattle.geometry.specs.Bytes.{little_endian}
use Rattle.geometry.specs.Shape.{adus}
use Rattle.geometry.specs.declared.shape.Config.{Config}
use Rattle.model.specs.declared.block.Block.{Block}
use Rattle.model.specs.declared.block.State.{State}
use Rattle.model.specs.declared.command.Listed.{Listed}
use Rattle.model.specs.declared.command.Listed.TheVariants as listing
use Rattle.model.specs.declared.table.Domain.{Domain}
use Rattle.rules.specs.Drive.{Drive, block_at, by_serial_to, domain_at, is_closed_state, is_open_state, size}
use Rattle.rules.specs.LogPages.{bytes_of, if_listed, is_listed, list, list_mark, list_of, listed_blocks, page, state_byte}
use Rattle.rules.specs.Observation.{Descriptor, Holding, Holds, Name, ReadBytes, SameHoldings, holding_at, name_of, number_in, serial_at}
use Rattle.rules.specs.Observation.{read_descriptors, read_list, read_page}
use Rattle.rules.proofs.Kept.Views.{Alike}
use Rattle.rules.proofs.LogPages.{listed_only}
use Rattle.rules.proofs.Noninterference.Common.{same_name}
use Rattle.rules.proofs.Serials.{told_alike}

-- ---- Numbers

-- A number of one byte is read as it was put.
number_read : (n : ℕ) → n < 256 → number_in (little_endian 4 n) ≡ n
unfolding number_in little_endian
number_read n l = omega (arith)

-- ---- Super Block Information

-- A record of which a domain knows no more than the holding: the P/E count is left out.
abbrev record_of : ℕ → Holding → Block
record_of d h = record {
  state = h.state;
  holder = d;
  written = adus h.written;
  left = h.left;
  erases = 0;
  serial = h.serial;
}

-- The page as it is read: by the configuration, the block's name and such a record alone.
unfoldable page_read : Config → Name → Block → ReadBytes
page_read c name b =
    let bytes = page c 0 b in
    ReadBytes.page (take 4 bytes) name (take 4 (drop 8 bytes)) (drop 13 bytes)

read_page_lem : (a : ℕ) (v : Drive) (n : ℕ) → n < 256
    → let b = block_at v.table n in
    read_page a v (page v.table.config n b) ≡ page_read v.table.config (name_of a v n) (record_of b.holder (holding_at v n))
unfolding page bytes_of read_page little_endian page_read
read_page_lem a v n l =
    let bytes = page v.table.config n (block_at v.table n) in
    ap (λ (k : ℕ). ReadBytes.page (take 4 bytes) (name_of a v k) (take 4 (drop 8 bytes)) (drop 13 bytes)) (number_read n l)

-- Super Block Information of a block that the domain holds in both, with equal holdings.
pub page_read_lem : (a : ℕ) (v w : Drive) (n m : ℕ) → Alike a v w → size v.table ≤ 256 → Holds a v n → Holds a w m
    → holding_at v n ≡ holding_at w m
    → read_page a v (page v.table.config n (block_at v.table n))
    ≡ read_page a w (page w.table.config m (block_at w.table m))
page_read_lem a v w n m s few h k same =
    let holder = eqb-true (block_at v.table n).holder a h.1 ∙ sym (eqb-true (block_at w.table m).holder a k.1) in
    let name = same_name a v w n m h k (ap (λ (x : Holding). x.serial) same) in
    read_page_lem a v n (omega (arith, h.0, few))
    ∙ (λ i. page_read (s.config i) (name i) (record_of (holder i) (same i)))
    ∙ sym (read_page_lem a w m (omega (arith, k.0, few, ap (λ (c : Config). c.blocks) s.config)))

-- ---- Lists

-- A descriptor as it is read, of a block by its name and the byte put, and the end mark.
abbrev listed : Name → ℕ → Descriptor
listed name mark = record { block = name; index = 0; mark = mark % 256; byte6 = 0; byte7 = 0 }

abbrev end_read : Descriptor
end_read = listed (Name.no_block 4294967295) 0

-- Eight bytes more are one descriptor more.
next_eight : (n : ℕ) → suc (suc (suc (suc (suc (suc (suc (suc n))))))) / 8 ≡ suc (n / 8)
next_eight n = omega arith

module _ (a : ℕ) (v : Drive) (few : size v.table ≤ 256) (mark : Block → ℕ) where
  abbrev read : ℕ → Descriptor
  read n = listed (name_of a v n) (mark (block_at v.table n))

  -- The end mark alone, and a descriptor before others.
  read_end : read_list a v (list_of v.table mark []) ≡ end_read ∷ []
  unfolding list_of little_endian read_descriptors number_in
  read_end = rw (le-ltb 4294967295 (size v.table) (omega (arith, few)))

  read_next : (n : ℕ) (ns : List ℕ) → n < size v.table
      → read_list a v (list_of v.table mark (n ∷ ns)) ≡ read n ∷ read_list a v (list_of v.table mark ns)
  unfolding list_of little_endian read_descriptors
  read_next n ns l =
      let bytes = list_of v.table mark (n ∷ ns) in
      let rest = list_of v.table mark ns in
      let index = get_or bytes 4 0 in
      ap (λ (k : ℕ). read_descriptors a v k bytes) (next_eight (length rest))
      ∙ ap (λ (k : ℕ). record {
        block = name_of a v k;
        index = cond (is_block v.table.config k) 0 index;
        mark = mark (block_at v.table n) % 256;
        byte6 = 0;
        byte7 = 0;
      } ∷ read_list a v rest) (number_read n (omega (arith, l, few)))
      ∙ ap (λ (b : Bool). record {
        block = name_of a v n;
        index = cond b 0 index;
        mark = mark (block_at v.table n) % 256;
        byte6 = 0;
        byte7 = 0;
      } ∷ read_list a v rest) (lt-ltb n (size v.table) l)

  -- A list of blocks of the drive is read as one descriptor after the other, and the end mark.
  read_list_lem : (ns : List ℕ) → ((i : ℕ) → i < length ns → get_or ns i 0 < size v.table)
      → read_list a v (list_of v.table mark ns) ≡ map read ns ++ (end_read ∷ [])
  read_list_lem [] inside = read_end
  read_list_lem (n ∷ ns) inside =
      read_next n ns (inside 0 (omega arith))
      ∙ ap (λ (rest : List Descriptor). read n ∷ rest) (read_list_lem ns (λ i l. inside (suc i) (omega (arith, l))))

-- The byte of a list, and whether a block is listed, by its state alone.
mark_in : Listed → State → ℕ
mark_in listing.Open s = state_byte s
mark_in listing.Closed s = cond (is_closed_state s) 1 0

mark_in_lem : (which : Listed) (b : Block) → list_mark which b ≡ mark_in which b.state
unfolding mark_in
mark_in_lem listing.Open b = refl
mark_in_lem listing.Closed b = refl

listed_in : Listed → State → Bool
listed_in listing.Open s = is_open_state s
listed_in listing.Closed s = is_closed_state s

listed_in_lem : (which : Listed) (b : Block) → is_listed which b ≡ listed_in which b.state
unfolding listed_in
listed_in_lem listing.Open b = refl
listed_in_lem listing.Closed b = refl

-- Two drives in which the domain holds the same have lists that are read as the same.
module _ (a : ℕ) (v w : Drive) (same : SameHoldings a v w) (which : Listed) where
  abbrev read_in : Drive → ℕ → Descriptor
  read_in u n = listed (name_of a u n) (list_mark which (block_at u.table n))

  -- A block that is listed in one is listed in the other, and read as the same.
  block_read : (n m : ℕ) → Holds a v n → Holds a w m → serial_at v n ≡ serial_at w m
      → map (read_in v) (if_listed v.table which n) ≡ map (read_in w) (if_listed w.table which m)
  block_read n m h k e =
      let state = ap (λ (x : Holding). x.state) (same.equal n m h k e) in
      let name = same_name a v w n m h k e in
      let byte = mark_in_lem which (block_at v.table n) ∙ ap (mark_in which) state ∙ sym (mark_in_lem which (block_at w.table m)) in
      let there = listed_in_lem which (block_at v.table n) ∙ ap (listed_in which) state ∙ sym (listed_in_lem which (block_at w.table m)) in
      by_test (is_listed which (block_at v.table n))
      (λ f. rw (f, sym there ∙ f) (ap₂ (λ (x : Name) (y : ℕ). listed x y ∷ []) name byte))
      (λ f. rw (f, sym there ∙ f))

  order_read : (up_to_lem : ℕ) → map (read_in v) (by_serial_to (if_listed v.table which) v.table a up_to_lem)
      ≡ map (read_in w) (by_serial_to (if_listed w.table which) w.table a up_to_lem)
  unfolding by_serial_to
  order_read zero = refl
  order_read (suc serial) =
      map-append (read_in v) (by_serial_to (if_listed v.table which) v.table a serial) _
      ∙ ap₂ (λ (xs ys : List Descriptor). xs ++ ys) (order_read serial)
      (told_alike same (map (read_in v)) (map (read_in w)) refl (if_listed v.table which) (if_listed w.table which) block_read (suc serial))
      ∙ sym (map-append (read_in w) (by_serial_to (if_listed w.table which) w.table a serial) _)

  pub list_read_lem : Alike a v w → size v.table ≤ 256 → read_list a v (list v.table a which) ≡ read_list a w (list w.table a which)
  unfolding list
  list_read_lem alike few =
      let last = (domain_at v.table a).last in
      let last' = (domain_at w.table a).last in
      let equal : last ≡ last' = ap (λ (r : Domain). r.last) alike.domain in
      read_list_lem a v few (list_mark which) (listed_blocks v.table a which) (λ i l. (listed_only v.table a which last i l).0)
      ∙ ap (λ (xs : List Descriptor). xs ++ (end_read ∷ []))
      (order_read last ∙ ap (λ (s : ℕ). map (read_in w) (by_serial_to (if_listed w.table which) w.table a s)) equal)
      ∙ sym (read_list_lem a w (subst (λ (c : Config). c.blocks ≤ 256) alike.config few) (list_mark which)
      (listed_blocks w.table a which) (λ i l. (listed_only w.table a which last' i l).0))
