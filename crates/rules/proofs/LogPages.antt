-- The page's layout, the P/E index, the order of the listed blocks, and the lengths of what Page and List fill.
use Prim.Native.Nat.{ℕ, zero, suc, ◌+◌, ◌-◌, ◌*◌, ◌%◌, ◌≤◌, ◌<◌}
use mathlib.Core.Bool.{cond}
use mathlib.Core.List.{List, [], ◌∷◌, ◌++◌, append-nil}
use mathlib.Core.Option.{Option, none, some}
use mathlib.Core.Path.{◌≡◌, refl, sym, ap, ◌∙◌, subst}
use native.Mathlib.Nat.{add-mul, div-add-mod', div-eq_of_lt-le, div-mul-le_self, div-zero, le-div_iff_mul-le, mod-eq_of_lt, mod-lt, mul_left_comm}
use native.Mathlib.Omega.{arith}
use lib.Dec.{leb, ltb}
use lib.ListN.{get_or, length, length-append}
use borrow.Author.Tests.{leb-false, leb-true, ltb-false, ltb-true}
use Rattle.geometry.proofs.Laws.Shape.{by_test}
use Rattle.geometry.specs.Bytes.{little_endian}
use Rattle.geometry.specs.declared.shape.Config.{Config}
use Rattle.model.specs.declared.block.Block.{Block}
use Rattle.model.specs.declared.command.Listed.{Listed}
use Rattle.model.specs.declared.command.Listed.TheVariants as listed
use Rattle.model.specs.declared.table.Table.{Table}
use Rattle.rules.specs.Claims.{IndexToTheNearest, Layout, ListedBlock, ListsInOrder, ToTheNearest, bytes_at, distance}
use Rattle.rules.specs.Counting.{sum_to}
use Rattle.rules.specs.Drive.{Drive, block_at, block_with, by_serial_to, closed_count, domain_at, held_by, open_count, size, told_of}
use Rattle.rules.specs.LogPages.{bytes_of, if_listed, is_listed, list, list_length, list_mark, list_of, listed_blocks, listed_count, nearest, page, page_fields, wear_index}
use Rattle.rules.specs.Observation.{serial_at}
use Rattle.rules.proofs.Counting.{sum_same}
use Rattle.rules.proofs.Kept.Facts.{Facts}
use Rattle.rules.proofs.Serials.{WithSerial, by_serial_at, by_serial_counted, serial_found}

pub page_length : (c : Config) (n : ℕ) (b : Block) → length (page c n b) ≡ 256
unfolding page bytes_of little_endian
page_length c n b = refl

pub page_layout : (c : Config) (n : ℕ) (b : Block) → Layout (page_fields c n b) (page c n b)
unfolding Layout page bytes_of little_endian
page_layout c n b =
    (refl, (refl, (refl, (refl, (refl, (refl, (refl, (refl, (refl, (refl, (refl, (refl, (refl, tt)))))))))))))

-- ---- The P/E index

-- i is n / d to the nearest whole where n / d is at least i - 1/2 and below i + 1/2.
pub nearest_is : (n d i : ℕ) → 2 * (i * d) ≤ 2 * n + d → 2 * n < 2 * (i * d) + d → nearest n d ≡ i
nearest_is n d i low high =
    div-eq_of_lt-le (2 * d)
    (omega (arith, low, mul_left_comm i 2 d))
    (rw add-mul (omega (arith, high, mul_left_comm i 2 d)))

-- So the number that is to the nearest is that one alone, ..
is_nearest : (n d i : ℕ) → ToTheNearest n d i → nearest n d ≡ i
is_nearest n d i t =
    by_test (leb (i * d) n)
    (λ e.
    let below = leb-true (i * d) n e in
    let no_half : ¬ (2 * distance (i * d) n ≡ d) = λ half. omega (arith, below, t.half_up half) in
    nearest_is n d i (omega (arith, below)) (omega (arith, below, t.near, no_half)))
    (λ e. nearest_is n d i (omega (arith, leb-false (i * d) n e, t.near)) (omega (arith, leb-false (i * d) n e)))

-- .. and it is to the nearest.
nearest_to : (n d : ℕ) → 0 < d → ToTheNearest n d (nearest n d)
nearest_to n d l =
    let i = nearest n d in
    let whole : i * (2 * d) + (2 * n + d) % (2 * d) ≡ 2 * n + d = div-add-mod' (2 * n + d) (2 * d) in
    let less : (2 * n + d) % (2 * d) < 2 * d = mod-lt (2 * n + d) (omega (arith, l)) in
    record {
      near = omega (arith, whole, less, mul_left_comm i 2 d);
      half_up = λ e. omega (arith, whole, less, mul_left_comm i 2 d, e, l);
    }

pub index_nearest : (rated erases : ℕ) → 0 < rated → IndexToTheNearest rated erases (wear_index rated erases)
index_nearest rated erases l = record {
  rounded = nearest (erases * 200) rated;
  is_nearest = nearest_to (erases * 200) rated l;
  alone = λ i is. sym (is_nearest (erases * 200) rated i is);
  capped = refl;
}

pub index_most : (rated erases : ℕ) → wear_index rated erases ≤ 255
index_most rated erases = omega arith

nearest_rises : (d m n : ℕ) → m ≤ n → nearest m d ≤ nearest n d
nearest_rises zero m n l = simp div-zero (omega arith)
nearest_rises (suc d) m n l =
    (le-div_iff_mul-le {k = 2 * suc d} {x = nearest m (suc d)} {y = 2 * n + suc d} (omega arith)).1
    (omega (arith, l, div-mul-le_self (2 * m + suc d) (2 * suc d)))

pub index_rises : (rated m n : ℕ) → m ≤ n → wear_index rated m ≤ wear_index rated n
index_rises rated m n l = omega (arith, nearest_rises rated (m * 200) (n * 200) (omega (arith, l)))

-- The index is a byte, which the page has at 12, and a list behind the number of each block.
index_byte : (rated erases : ℕ) → wear_index rated erases % 256 ≡ wear_index rated erases
index_byte rated erases = mod-eq_of_lt (omega (arith, index_most rated erases))

pub index_in_page : (c : Config) (n : ℕ) (b : Block) → bytes_at 12 1 (page c n b) ≡ wear_index c.rated b.erases ∷ []
unfolding page bytes_of little_endian
index_in_page c n b = ap (λ (x : ℕ). x ∷ []) (index_byte c.rated b.erases)

index_in_row : (t : Table) (mark : Block → ℕ) (ns : List ℕ) (i : ℕ) → i < length ns
    → let n = get_or ns i 0 in
    bytes_at (8 * i) 5 (list_of t mark ns) ≡ little_endian 4 n ++ (wear_index t.config.rated (block_at t n).erases ∷ [])
unfolding list_of little_endian
index_in_row t mark [] i l = absurd (omega (arith, l))
index_in_row t mark (n ∷ ns) zero l =
    ap (λ (x : ℕ). little_endian 4 n ++ (x ∷ [])) (index_byte t.config.rated (block_at t n).erases)
index_in_row t mark (n ∷ ns) (suc i) l =
    ap (λ (k : ℕ). bytes_at k 5 (list_of t mark (n ∷ ns))) (next i) ∙ index_in_row t mark ns i (omega (arith, l))
  where
    next : (i : ℕ) → 8 * suc i ≡ suc (suc (suc (suc (suc (suc (suc (suc (8 * i))))))))
    next i = omega arith

pub index_in_list : (t : Table) (d : ℕ) (which : Listed) (i : ℕ) → i < length (listed_blocks t d which)
    → let n = get_or (listed_blocks t d which) i 0 in
    bytes_at (8 * i) 5 (list t d which) ≡ little_endian 4 n ++ (wear_index t.config.rated (block_at t n).erases ∷ [])
unfolding list
index_in_list t d which i l = index_in_row t (list_mark which) (listed_blocks t d which) i l

-- A list has 8 bytes for each block and for the end mark.
list_bytes_lem : (t : Table) (mark : Block → ℕ) (ns : List ℕ) → length (list_of t mark ns) ≡ 8 * (length ns + 1)
unfolding list_of little_endian
list_bytes_lem t mark [] = refl
list_bytes_lem t mark (n ∷ ns) = omega (arith, list_bytes_lem t mark ns)

-- ---- Rows

-- A row with one entry more: the entries before it, and that one.
entry_before : (xs : List ℕ) (y i : ℕ) → i < length xs → get_or (xs ++ (y ∷ [])) i 0 ≡ get_or xs i 0
entry_before [] y i l = absurd (omega (arith, l))
entry_before (x ∷ xs) y zero l = refl
entry_before (x ∷ xs) y (suc i) l = entry_before xs y i (omega (arith, l))

pub entry_behind : (xs : List ℕ) (y : ℕ) (ys : List ℕ) → get_or (xs ++ (y ∷ ys)) (length xs) 0 ≡ y
entry_behind [] y ys = refl
entry_behind (x ∷ xs) y ys = entry_behind xs y ys

one_longer : (xs : List ℕ) (y : ℕ) → length (xs ++ (y ∷ [])) ≡ length xs + 1
one_longer xs y = length-append xs (y ∷ [])

-- ---- The listed blocks

module _ (t : Table) (d : ℕ) (which : Listed) where
  -- Those with serials up to one: each entry is listed and has such a serial, and their serials rise.
  record Stand (up_to_lem : ℕ) (order : List ℕ) : Type 0 where
    entries : (i : ℕ) → i < length order → ListedBlock t d which (get_or order i 0) × ((block_at t (get_or order i 0)).serial ≤ up_to_lem)
    rise : (i j : ℕ) → i < j → j < length order → (block_at t (get_or order i 0)).serial < (block_at t (get_or order j 0)).serial

  stand_further : (up_to_lem : ℕ) (order : List ℕ) → Stand up_to_lem order → Stand (suc up_to_lem) order
  stand_further up_to_lem order s = record {
    entries = λ i l. let e = s.entries i l in (e.0, omega (arith, e.1));
    rise = s.rise;
  }

  stand_more : (up_to_lem : ℕ) (order : List ℕ) (n : ℕ) → Stand up_to_lem order → ListedBlock t d which n → (block_at t n).serial ≡ suc up_to_lem
      → Stand (suc up_to_lem) (order ++ (n ∷ []))
  stand_more up_to_lem order n s is serial = record { entries = entries; rise = rise }
    where
      at_end : (i : ℕ) → ¬ (i < length order) → i < length (order ++ (n ∷ [])) → get_or (order ++ (n ∷ [])) i 0 ≡ n
      at_end i not-before l =
          let last : i ≡ length order = omega (arith, not-before, l, one_longer order n) in
          ap (λ (k : ℕ). get_or (order ++ (n ∷ [])) k 0) last ∙ entry_behind order n []

      entries : (i : ℕ) → i < length (order ++ (n ∷ []))
          → ListedBlock t d which (get_or (order ++ (n ∷ [])) i 0) × ((block_at t (get_or (order ++ (n ∷ [])) i 0)).serial ≤ suc up_to_lem)
      entries i l =
          by_test (ltb i (length order))
          (λ e.
          let before = ltb-true i (length order) e in
          let x = s.entries i before in
          subst (λ (m : ℕ). ListedBlock t d which m × ((block_at t m).serial ≤ suc up_to_lem)) (sym (entry_before order n i before))
          (x.0, omega (arith, x.1)))
          (λ e.
          subst (λ (m : ℕ). ListedBlock t d which m × ((block_at t m).serial ≤ suc up_to_lem))
          (sym (at_end i (λ b. omega (arith, b, ltb-false i (length order) e)) l)) (is, omega (arith, serial)))

      rise : (i j : ℕ) → i < j → j < length (order ++ (n ∷ []))
          → (block_at t (get_or (order ++ (n ∷ [])) i 0)).serial < (block_at t (get_or (order ++ (n ∷ [])) j 0)).serial
      rise i j less l =
          let first : i < length order = omega (arith, less, l, one_longer order n) in
          subst (λ (m : ℕ). (block_at t m).serial < (block_at t (get_or (order ++ (n ∷ [])) j 0)).serial) (sym (entry_before order n i first))
          (by_test (ltb j (length order))
          (λ e.
          let before = ltb-true j (length order) e in
          subst (λ (m : ℕ). (block_at t (get_or order i 0)).serial < (block_at t m).serial) (sym (entry_before order n j before)) (s.rise i j less before))
          (λ e.
          subst (λ (m : ℕ). (block_at t (get_or order i 0)).serial < (block_at t m).serial)
          (sym (at_end j (λ b. omega (arith, b, ltb-false j (length order) e)) l))
          (omega (arith, (s.entries i first).1, serial))))

  stand_found : (up_to_lem : ℕ) (order : List ℕ) (found : Option ℕ) → WithSerial t d (suc up_to_lem) (size t) found → Stand up_to_lem order
      → Stand (suc up_to_lem) (order ++ told_of (if_listed t which) found)
  stand_found up_to_lem order none o s =
      subst (Stand (suc up_to_lem)) (sym (append-nil order)) (stand_further up_to_lem order s)
  stand_found up_to_lem order (some n) o s =
      by_test (is_listed which (block_at t n))
      (λ e. rw e (stand_more up_to_lem order n s (o.0, o.1, e) o.2))
      (λ e. rw (e, append-nil order) (stand_further up_to_lem order s))

  stand : (up_to_lem : ℕ) → Stand up_to_lem (by_serial_to (if_listed t which) t d up_to_lem)
  unfolding by_serial_to
  stand zero = record { entries = λ i l. absurd (omega (arith, l)); rise = λ i j less l. absurd (omega (arith, l)) }
  stand (suc up_to_lem) =
      stand_found up_to_lem (by_serial_to (if_listed t which) t d up_to_lem) (block_with t d (suc up_to_lem)) (serial_found t d (suc up_to_lem)) (stand up_to_lem)

-- Each entry is a block that is listed.
pub listed_only : (t : Table) (d : ℕ) (which : Listed) (up_to_lem i : ℕ) → i < length (by_serial_to (if_listed t which) t d up_to_lem)
    → ListedBlock t d which (get_or (by_serial_to (if_listed t which) t d up_to_lem) i 0)
listed_only t d which up_to_lem i l = ((stand t d which up_to_lem).entries i l).0

module _ (v : Drive) (d : ℕ) (low : 1 ≤ d) (facts : Facts v) (which : Listed) where
  abbrev order : List ℕ
  order = listed_blocks v.table d which

  pub lists_in_order : ListsInOrder v.table d which order
  lists_in_order = record {
    each = each;
    only = λ i l. (entries.entries i l).0;
    once = once;
    rises = entries.rise;
  }
    where
      entries : Stand v.table d which (domain_at v.table d).last order
      entries = stand v.table d which (domain_at v.table d).last

      each : (n : ℕ) → ListedBlock v.table d which n → (i : ℕ) × (i < length order) × (get_or order i 0 ≡ n)
      each n is =
          let at = by_serial_at v d low facts (if_listed v.table which) n (is.0, is.1) in
          let front = by_serial_to (if_listed v.table which) v.table d (serial_at v n - 1) in
          let stands : order ≡ front ++ (n ∷ at.0) = at.1 ∙ rw is.2 in (
            length front,
            rw stands (omega (arith, length-append front (n ∷ at.0))),
            ap (λ (l : List ℕ). get_or l (length front) 0) stands ∙ entry_behind front n at.0,
          )

      once : (i j : ℕ) → i < length order → j < length order → get_or order i 0 ≡ get_or order j 0 → i ≡ j
      once i j l m same =
          let serials = ap (λ (n : ℕ). (block_at v.table n).serial) same in
          by_test (ltb i j)
          (λ e. absurd (omega (arith, serials, entries.rise i j (ltb-true i j e) m)))
          (λ e.
          by_test (ltb j i)
          (λ f. absurd (omega (arith, serials, entries.rise j i (ltb-true j i f) l)))
          (λ f. omega (arith, ltb-false i j e, ltb-false j i f)))

  -- They are as many as question 7 counts.
  counted_as : (which : Listed) → listed_count v.table d which
      ≡ sum_to (λ n. cond (held_by d (block_at v.table n)) (cond (is_listed which (block_at v.table n)) 1 0) 0) (size v.table)
  unfolding open_count closed_count
  counted_as listed.Open = sum_same (size v.table) _ _ (λ n l.
      by_test (held_by d (block_at v.table n)) (λ h. rw h) (λ h. rw h))
  counted_as listed.Closed = sum_same (size v.table) _ _ (λ n l.
      by_test (held_by d (block_at v.table n)) (λ h. rw h) (λ h. rw h))

  pub listed_many : length order ≡ listed_count v.table d which
  listed_many =
      by_serial_counted v d low facts length refl length-append (if_listed v.table which)
      ∙ sum_same (size v.table) _ _ (λ n l.
      by_test (is_listed which (block_at v.table n)) (λ e. rw e) (λ e. rw e))
      ∙ sym (counted_as which)

  pub list_length_lem : length (list v.table d which) ≡ list_length v.table d which
  unfolding list
  list_length_lem = list_bytes_lem v.table _ order ∙ ap (λ (k : ℕ). 8 * (k + 1)) listed_many
