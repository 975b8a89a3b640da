-- What is gathered of the blocks, one after the other.
use Prim.Native.Nat.{ℕ, zero, suc, ◌+◌, ◌*◌, ◌≤◌, ◌<◌}
use mathlib.Core.Bool.{Bool, true, false, cond}
use mathlib.Core.List.{List, [], ◌∷◌, ◌++◌, append-nil}
use mathlib.Core.Path.{◌≡◌, refl, sym, ap, ap₂, ◌∙◌, subst}
use native.Mathlib.Numerals.{add-one}
use native.Mathlib.Omega.{arith}
use lib.ListN.{drop, get_or, length, length-append, length-set, set, take}
use lib.Seq.{append_snoc, drop-cons, get_or-take, length-take-le, set_at}
use Rattle.geometry.proofs.Laws.Shape.{by_test}
use Rattle.model.specs.declared.block.Block.{Block}
use Rattle.recorder.specs.Newest.{FewWritten, Gathers, Notes, held_keys, key_of, record_at, written_to}
use Rattle.recorder.specs.declared.newest.Gathered.{Gathered}
use Rattle.rules.proofs.Counting.{sum_same}
use Rattle.rules.specs.Counting.{sum_to}
use Rattle.rules.specs.Drive.{clear_block, held_by, overwritten}
use Rattle.tables.specs.Keys.{keys_to}

-- There are no more keys than blocks, ..
pub few_keys : (bs : List Block) (d n : ℕ) → length (held_keys bs d n) ≤ n
unfolding keys_to
few_keys bs d zero = omega arith
few_keys bs d (suc n) =
    by_test (held_by d (record_at bs n))
    (λ h. rw (h, length-append) (omega (arith, few_keys bs d n)))
    (λ h. rw (h, length-append) (omega (arith, few_keys bs d n)))

-- .. and no more ADUs than they can take.
few_adus : (bs : List Block) (d n : ℕ) → FewWritten bs → n ≤ length bs → written_to bs d n ≤ n * 1048576
unfolding sum_to
few_adus bs d zero few l = omega arith
few_adus bs d (suc n) few l =
    by_test (held_by d (record_at bs n))
    (λ h. rw h (omega (arith, few_adus bs d n few (omega (arith, l)), few n (omega (arith, l)))))
    (λ h. rw h (omega (arith, few_adus bs d n few (omega (arith, l)))))

-- One key more behind those that stand.
key_more : (keys row : List ℕ) (key : ℕ) → length keys < length row
    → set (overwritten 0 keys row) (length keys) key ≡ overwritten 0 (keys ++ (key ∷ [])) row
unfolding overwritten
key_more keys row key l =
    let k = length keys in
    let one_more : length (keys ++ (key ∷ [])) ≡ suc k = length-append keys (key ∷ []) ∙ add-one k in
    ap (λ (rest : List ℕ). set (keys ++ rest) k key) (drop-cons row k 0 l)
    ∙ set_at keys (get_or row k 0) (drop (suc k) row) key k refl
    ∙ sym (append_snoc keys key (drop (suc k) row))
    ∙ ap (λ (i : ℕ). (keys ++ (key ∷ [])) ++ drop i row) (sym one_more)

module _ (bs : List Block) (d : ℕ) (keys₀ : List ℕ) where
  pub nothing_gathered : Gathers bs d 0 keys₀ (record { keys = 0; adus = 0 }) keys₀
  unfolding keys_to sum_to overwritten
  nothing_gathered = record { as_many = refl; adus = refl; keys_are = refl; as_long = refl }

  -- What is gathered fits.
  pub gathered_few : {n : ℕ} {found : Gathered} {keys : List ℕ} → FewWritten bs → n < length bs → length bs ≤ 256
      → Gathers bs d n keys₀ found keys → (found.keys ≤ n) × (found.adus ≤ 268435456)
  gathered_few {n} {found} few l most g =
      (omega (arith, g.as_many, few_keys bs d n), omega (arith, g.adus, few_adus bs d n few (omega (arith, l)), l, most))

  module _ {n : ℕ} {found r : Gathered} {keys keys' : List ℕ} (room : n < length keys₀)
      (g : Gathers bs d n keys₀ found keys) (s : Notes found n (record_at bs n) d keys r keys') where
    abbrev held : Bool
    held = held_by d (record_at bs n)

    pub one_gathered : Gathers bs d (suc n) keys₀ r keys'
    unfolding keys_to sum_to
    one_gathered = by_test held yes no
      where
        yes : held ≡ true → Gathers bs d (suc n) keys₀ r keys'
        yes h =
            let standing = held_keys bs d n in
            let k = key_of (record_at bs n).serial n in
            let w = (record_at bs n).written.0 in
            let more : held_keys bs d (suc n) ≡ standing ++ (k ∷ []) = rw h in
            let one_more : r.keys ≡ found.keys + 1 = rw h at s.as_many in
            let put : keys' ≡ set keys found.keys k = rw h at s.keys_are in
            record {
              as_many = one_more ∙ ap (λ (m : ℕ). m + 1) g.as_many ∙ sym (ap length more ∙ length-append standing (k ∷ []));
              adus = s.adus ∙ ap (λ (m : ℕ). m + cond held w 0) g.adus;
              keys_are =
                  put ∙ ap₂ (λ (row : List ℕ) (i : ℕ). set row i k) g.keys_are g.as_many
                  ∙ key_more standing keys₀ k (omega (arith, few_keys bs d n, room)) ∙ ap (λ (l : List ℕ). overwritten 0 l keys₀) (sym more);
              as_long = ap length put ∙ length-set keys found.keys k ∙ g.as_long;
            }

        no : held ≡ false → Gathers bs d (suc n) keys₀ r keys'
        no h =
            let same : held_keys bs d (suc n) ≡ held_keys bs d n = rw h (append-nil (held_keys bs d n)) in
            let as_before : r.keys ≡ found.keys + 0 = rw h at s.as_many in
            let unput : keys' ≡ keys = rw h at s.keys_are in
            record {
              as_many = omega (arith, as_before, g.as_many, ap length same);
              adus = s.adus ∙ ap (λ (m : ℕ). m + cond held (record_at bs n).written.0 0) g.adus;
              keys_are = unput ∙ g.keys_are ∙ ap (λ (l : List ℕ). overwritten 0 l keys₀) (sym same);
              as_long = ap length unput ∙ g.as_long;
            }

-- ---- What is gathered of the first records is gathered of all

keys_lent : (bs : List Block) (d m n : ℕ) → n ≤ m → held_keys (take m bs) d n ≡ held_keys bs d n
unfolding keys_to
keys_lent bs d m zero l = refl
keys_lent bs d m (suc n) l =
    ap₂ (λ (keys : List ℕ) (b : Block). keys ++ cond (held_by d b) (key_of b.serial n ∷ []) []) (keys_lent bs d m n (omega (arith, l)))
    (get_or-take m bs n clear_block (omega (arith, l)))

pub gathered_lent : (bs : List Block) (d m : ℕ) (keys : List ℕ) (r : Gathered) (keys' : List ℕ) → m ≤ length bs
    → Gathers (take m bs) d (length (take m bs)) keys r keys' → Gathers bs d m keys r keys'
gathered_lent bs d m keys r keys' l g =
    let long : length (take m bs) ≡ m = length-take-le m bs l in
    let h : Gathers (take m bs) d m keys r keys' = subst (λ (n : ℕ). Gathers (take m bs) d n keys r keys') long g in
    let same = keys_lent bs d m m (omega arith) in
    record {
      as_many = h.as_many ∙ ap length same;
      adus = h.adus ∙ sum_same m (written_in (take m bs)) (written_in bs) (λ i below. ap (λ (b : Block). cond (held_by d b) b.written.0 0) (get_or-take m bs i clear_block below));
      keys_are = h.keys_are ∙ ap (λ (row : List ℕ). overwritten 0 row keys) same;
      as_long = h.as_long;
    }
  where
    written_in : List Block → ℕ → ℕ
    written_in xs i = cond (held_by d (record_at xs i)) (record_at xs i).written.0 0
