-- The end of what the blocks of some keys have written, put into a row from its end back.
use Prim.Native.Nat.{ℕ, zero, suc, ◌+◌, ◌-◌, ◌*◌, ◌%◌, ◌≤◌, ◌<◌, min}
use mathlib.Core.List.{List, [], ◌∷◌, ◌++◌, append_assoc}
use mathlib.Core.Path.{◌≡◌, refl, sym, ap, ap₂, ◌∙◌, subst}
use native.Mathlib.Omega.{arith}
use lib.ListN.{drop, get_or, length, length-append, length-drop, length-take, take, take-append-drop}
use lib.Seq.{drop-append-add, drop-append-le, drop-append_seam, drop-cons, drop-drop, drop-length, length-take-le, take-append-le, take-nil}
use Rattle.recorder.specs.Newest.{PutsBlock, Within, part_of, parts_of}
use Rattle.rules.specs.Drive.{overwritten}
use Rattle.rules.specs.Recorder.{last_of}

-- ---- Rows

-- What is put before another part is put with it as one.
put_before : (at : ℕ) (new more row : List ℕ) → at + length new ≤ length row
    → overwritten at new (overwritten (at + length new) more row) ≡ overwritten at (new ++ more) row
unfolding overwritten
put_before at new more row l =
    let k = at + length new in
    let rest = drop (length more) (drop k row) in
    let front = length-take-le k row l in
    let first : take at (take k row ++ (more ++ rest)) ≡ take at row =
    take-append-le at (take k row) (more ++ rest) (omega (arith, front)) ∙ take_less at k row (omega arith) in
    let to_seam : at + length new ≡ length (take k row) = sym front in
    let as_one : length new + length more ≡ length (new ++ more) = sym (length-append new more) in
    let behind : drop (length new) (drop at (take k row ++ (more ++ rest))) ≡ more ++ rest =
    drop-drop (length new) at (take k row ++ (more ++ rest))
    ∙ ap (λ (i : ℕ). drop i (take k row ++ (more ++ rest))) to_seam
    ∙ drop-append_seam (take k row) (more ++ rest) in
    let last : rest ≡ drop (length (new ++ more)) (drop at row) =
    ap (λ (xs : List ℕ). drop (length more) xs) (sym (drop-drop (length new) at row))
    ∙ drop-drop (length more) (length new) (drop at row)
    ∙ ap (λ (i : ℕ). drop i (drop at row)) as_one in
    ap₂ (λ (xs ys : List ℕ). xs ++ (new ++ ys)) first
    (behind ∙ ap (λ (xs : List ℕ). more ++ xs) last)
    ∙ ap (λ (xs : List ℕ). take at row ++ xs) (sym (append_assoc new more (drop (length (new ++ more)) (drop at row))))
  where
    take_less : (n k : ℕ) (xs : List ℕ) → n ≤ k → take n (take k xs) ≡ take n xs
    take_less zero k xs l = refl
    take_less (suc n) zero xs l = absurd (omega (arith, l))
    take_less (suc n) (suc k) [] l = refl
    take_less (suc n) (suc k) (x ∷ xs) l = ap (λ (ys : List ℕ). x ∷ ys) (take_less n k xs (omega (arith, l)))

-- The end of a list, by parts.
last_part : (m : ℕ) (xs ys : List ℕ) → length ys ≡ m → last_of m (xs ++ ys) ≡ ys
last_part m xs ys e =
    let cut : length (xs ++ ys) - m ≡ length xs = omega (arith, length-append xs ys, e) in
    ap (λ (i : ℕ). drop i (xs ++ ys)) cut ∙ drop-append_seam xs ys

last_parts : (m part : ℕ) (xs ys zs : List ℕ) → length zs ≡ m → part ≤ length ys
    → last_of (m + part) (xs ++ (ys ++ zs)) ≡ drop (length ys - part) ys ++ zs
last_parts m part xs ys zs e l =
    let cut : length (xs ++ (ys ++ zs)) - (m + part) ≡ length xs + (length ys - part) =
    omega (arith, length-append xs (ys ++ zs), length-append ys zs, e, l) in
    ap (λ (i : ℕ). drop i (xs ++ (ys ++ zs))) cut
    ∙ drop-append-add xs (ys ++ zs) (length ys - part)
    ∙ drop-append-le (length ys - part) ys zs (omega arith)

drop_take : (k n : ℕ) (xs : List ℕ) → drop k (take n xs) ≡ take (n - k) (drop k xs)
drop_take zero n xs = let same : n ≡ n - 0 = omega arith in ap (λ (i : ℕ). take i xs) same
drop_take (suc k) zero xs = let none : 0 ≡ 0 - suc k = omega arith in ap (λ (i : ℕ). take i (drop (suc k) xs)) none
drop_take (suc k) (suc n) [] = sym (take-nil (suc n - suc k))
drop_take (suc k) (suc n) (x ∷ xs) =
    let same : n - k ≡ suc n - suc k = omega arith in drop_take k n xs ∙ ap (λ (i : ℕ). take i (drop k xs)) same

-- ---- Numbers

back : (left part : ℕ) → part ≤ left → left - part + part ≡ left
back left part l = omega (arith, l)

taken_back : (full part : ℕ) → part ≤ full → part ≡ full - (full - part)
taken_back full part l = omega (arith, l)

from_end : (start full part : ℕ) → part ≤ full → start + full - part ≡ start + (full - part)
from_end start full part l = omega (arith, l)

fewer_left : (count left part : ℕ) → part ≤ left → left ≤ count → count - (left - part) ≡ count - left + part
fewer_left count left part l m = omega (arith, l, m)

-- ---- Keys

module _ (c : ℕ) (store written : List ℕ) where
  pub parts_append : (xs ys : List ℕ) → parts_of c store written (xs ++ ys) ≡ parts_of c store written xs ++ parts_of c store written ys
  unfolding parts_of
  parts_append [] ys = refl
  parts_append (x ∷ xs) ys =
      ap (λ (l : List ℕ). part_of c store written x ++ l) (parts_append xs ys)
      ∙ sym (append_assoc (part_of c store written x) (parts_of c store written xs) (parts_of c store written ys))

  -- Nothing is left behind the last key.
  pub parts_end : (keys : List ℕ) → parts_of c store written (drop (length keys) keys) ≡ []
  unfolding parts_of
  parts_end [] = refl
  parts_end (x ∷ keys) = parts_end keys

  module _ (keys : List ℕ) (within : Within c store written keys) (i : ℕ) (there : i < length keys) where
    abbrev n : ℕ
    n = get_or keys i 0 % 256

    abbrev full : ℕ
    full = get_or written n 0

    abbrev here : List ℕ
    here = part_of c store written (get_or keys i 0)

    abbrev behind : List ℕ
    behind = parts_of c store written (drop (i + 1) keys)

    long : length here ≡ full
    long = simp (length-take, length-drop) (omega (arith, within i there))

    unfold_at : parts_of c store written (drop i keys) ≡ here ++ behind
    unfolding parts_of
    unfold_at =
        let next : suc i ≡ i + 1 = omega arith in
        ap (λ (l : List ℕ). parts_of c store written l)
        (drop-cons keys i 0 there ∙ ap (λ (k : ℕ). get_or keys i 0 ∷ drop k keys) next)

    pub one_more : length (parts_of c store written (drop i keys)) ≡ full + length behind
    one_more = ap length unfold_at ∙ length-append here behind ∙ ap (λ (k : ℕ). k + length behind) long

    whole : parts_of c store written keys ≡ parts_of c store written (take i keys) ++ (here ++ behind)
    whole =
        ap (λ (l : List ℕ). parts_of c store written l) (sym (take-append-drop i keys))
        ∙ parts_append (take i keys) (drop i keys)
        ∙ ap (λ (l : List ℕ). parts_of c store written (take i keys) ++ l) unfold_at

    -- One block more is put before what stands.
    pub fill_more : (words : List ℕ) (count left part : ℕ) → count ≤ length words → left ≤ count → length behind ≡ count - left
        → part ≤ left → part ≤ full
        → overwritten (left - part) (take part (drop (n * c + full - part) store))
        (overwritten left (last_of (count - left) (parts_of c store written keys)) words)
        ≡ overwritten (left - part) (last_of (count - (left - part)) (parts_of c store written keys)) words
    fill_more words count left part room below as_many few Within-block =
        let front = parts_of c store written (take i keys) in
        let all = parts_of c store written keys in
        let new = drop (full - part) here in
        let so_many : part ≡ full - (full - part) = taken_back full part Within-block in
        let from_there : n * c + full - part ≡ n * c + (full - part) = from_end (n * c) full part Within-block in
        let later : count - (left - part) ≡ count - left + part = fewer_left count left part few below in
        let stretch : take part (drop (n * c + full - part) store) ≡ new =
        ap₂ (λ (a b : ℕ). take a (drop b store)) so_many from_there
        ∙ ap (λ (l : List ℕ). take (full - (full - part)) l) (sym (drop-drop (full - part) (n * c) store))
        ∙ sym (drop_take (full - part) full (drop (n * c) store)) in
        let old : last_of (count - left) all ≡ behind =
        ap (λ (l : List ℕ). last_of (count - left) l) (whole ∙ sym (append_assoc front here behind))
        ∙ last_part (count - left) (front ++ here) behind as_many in
        let more : last_of (count - (left - part)) all ≡ new ++ behind =
        ap₂ (λ (m : ℕ) (l : List ℕ). last_of m l) later whole
        ∙ last_parts (count - left) part front here behind as_many (subst (λ (k : ℕ). part ≤ k) (sym long) Within-block)
        ∙ ap (λ (k : ℕ). drop (k - part) here ++ behind) long in
        let so_long : length new ≡ part =
        length-drop (full - part) here ∙ ap (λ (k : ℕ). k - (full - part)) long ∙ sym so_many in
        let at : left - part + length new ≡ left = ap (λ (k : ℕ). left - part + k) so_long ∙ back left part few in
        ap₂ (λ (xs ys : List ℕ). overwritten (left - part) xs (overwritten left ys words)) stretch old
        ∙ ap (λ (k : ℕ). overwritten (left - part) new (overwritten k behind words)) (sym at)
        ∙ put_before (left - part) new behind words (subst (λ (k : ℕ). k ≤ length words) (sym at) (omega (arith, below, room)))
        ∙ ap (λ (xs : List ℕ). overwritten (left - part) xs words) (sym more)

-- ---- The words from `left` on hold the end of what the blocks of the keys have written. Until enough is there, those are whole blocks,
-- from key i on.
pub record Filled (keys written : List ℕ) (c count : ℕ) (store words₀ words : List ℕ) (left i : ℕ) : Type 0 where
  pub few : left ≤ count
  pub keys_left : i ≤ length keys
  pub same_length : length words ≡ length words₀
  pub words_are : words ≡ overwritten left (last_of (count - left) (parts_of c store written keys)) words₀
  pub whole_blocks_lem : 0 < left → length (parts_of c store written (drop i keys)) ≡ count - left

module _ (keys written : List ℕ) (c count : ℕ) (store words₀ : List ℕ) where
  abbrev all : List ℕ
  all = parts_of c store written keys

  pub nothing_filled : Filled keys written c count store words₀ words₀ count (length keys)
  unfolding overwritten
  nothing_filled = record {
    few = omega arith;
    keys_left = omega arith;
    same_length = refl;
    words_are =
        let none : count - count ≡ 0 = omega arith in
        let whole : length all - 0 ≡ length all = omega arith in
        let nothing : last_of (count - count) all ≡ [] =
        ap (λ (k : ℕ). drop (length all - k) all) none ∙ ap (λ (k : ℕ). drop k all) whole ∙ drop-length all in
        sym (ap (λ (l : List ℕ). overwritten count l words₀) nothing ∙ put_nothing count words₀);
    whole_blocks_lem = λ l.
        let none : 0 ≡ count - count = omega arith in ap length (parts_end c store written keys) ∙ none;
  }
    where
      put_nothing : (at : ℕ) (row : List ℕ) → overwritten at [] row ≡ row
      put_nothing at row = take-append-drop at row

  module _ {words : List ℕ} {left i : ℕ} (f : Filled keys written c count store words₀ words left i) where
    pub key_there : 0 < left → count ≤ length all → 1 ≤ i
    key_there l enough = go i refl
      where
        go : (k : ℕ) → i ≡ k → 1 ≤ i
        go zero e =
            absurd (omega (arith, subst (λ (k : ℕ). length (parts_of c store written (drop k keys)) ≡ count - left) e (f.whole_blocks_lem l), enough, l, f.few))
        go (suc k) e = omega (arith, e)

    -- One block more.
    pub block_filled : (r : ℕ) (words' : List ℕ) → 0 < left → count ≤ length all → count ≤ length words₀ → Within c store written keys
        → PutsBlock (get_or keys (i - 1) 0) written c left store words r words' → Filled keys written c count store words₀ words' r (i - 1)
    block_filled r words' l enough room within p =
        let some_key = key_there l enough in
        let there : i - 1 < length keys = omega (arith, some_key, f.keys_left) in
        let again : i - 1 + 1 ≡ i = omega (arith, some_key) in
        let full = get_or written (get_or keys (i - 1) 0 % 256) 0 in
        let behind : length (parts_of c store written (drop (i - 1 + 1) keys)) ≡ count - left =
        ap (λ (k : ℕ). length (parts_of c store written (drop k keys))) again ∙ f.whole_blocks_lem l in
        let more = one_more c store written keys within (i - 1) there in
        record {
          few = omega (arith, p.left_then, f.few);
          keys_left = omega (arith, f.keys_left);
          same_length = p.same_length ∙ f.same_length;
          words_are =
              p.words_are
              ∙ ap₂ (λ (k : ℕ) (ws : List ℕ). overwritten k (take (min full left) (drop (get_or keys (i - 1) 0 % 256 * c + full - min full left) store)) ws)
              p.left_then f.words_are
              ∙ fill_more c store written keys within (i - 1) there words₀ count left (min full left) room f.few behind (omega arith) (omega arith)
              ∙ ap (λ (k : ℕ). overwritten k (last_of (count - k) all) words₀) (sym p.left_then);
          whole_blocks_lem = λ still.
              let whole : full < left = omega (arith, still, p.left_then) in
              more ∙ ap (λ (k : ℕ). full + k) behind ∙ so_far count left full r f.few (omega (arith, whole)) (omega (arith, p.left_then, whole));
        }
      where
        so_far : (count left full r : ℕ) → left ≤ count → full ≤ left → r ≡ left - full → full + (count - left) ≡ count - r
        so_far count left full r few whole e = omega (arith, few, whole, e)
