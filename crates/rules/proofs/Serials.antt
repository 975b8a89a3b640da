-- A domain's blocks by rising serial: where each stands, and what the whole comes to.
use Prim.Native.Nat.{ℕ, zero, suc, ◌+◌, ◌-◌, ◌≤◌, ◌<◌}
use mathlib.Core.Bool.{Bool, true, false, true≢false, ◌&&◌, cond}
use mathlib.Core.List.{List, [], ◌++◌, append_assoc, append-nil}
use mathlib.Core.Option.{Option, none, some}
use mathlib.Core.Path.{◌≡◌, refl, sym, ap, ap₂, ◌∙◌, subst}
use native.Mathlib.Numerals.{add-one}
use native.Mathlib.Omega.{arith}
use lib.Dec.{eqb, leb}
use borrow.Author.Tests.{eq-eqb, eqb-true, le-leb, leb-false, leb-true, ne_eqb}
use Rattle.geometry.proofs.Laws.Shape.{both, by_test}
use Rattle.model.specs.declared.table.Table.{Table}
use Rattle.rules.specs.Counting.{sum_to}
use Rattle.rules.specs.Drive.{Drive, block_at, block_with, block_with_to, by_serial, by_serial_to, domain_at, held_by, size, told_of}
use Rattle.rules.specs.Observation.{Holds, SameHoldings, serial_at}
use Rattle.rules.proofs.Blocks.{below_next}
use Rattle.rules.proofs.Counting.{by_eq, sum_same, sum_swap, sum_term_alone, sum_zero}
use Rattle.rules.proofs.Kept.Facts.{Facts}
use Rattle.rules.proofs.Kept.OneBlock.{held_owned}
use Rattle.rules.proofs.Kept.Views.{if_serial, view}
use Rattle.rules.proofs.Noninterference.Pairing.{one_block}

-- ---- The block with a serial

-- It is held and has the serial, and nothing is found only where none has.
abbrev pub WithSerial : Table → ℕ → ℕ → ℕ → Option ℕ → Type 0
WithSerial t d serial among none = (m : ℕ) → m < among → (held_by d (block_at t m) && eqb (block_at t m).serial serial) ≡ false
WithSerial t d serial among (some n) = (n < among) × (held_by d (block_at t n) ≡ true) × ((block_at t n).serial ≡ serial)

pub with_serial : (t : Table) (d serial among : ℕ) → WithSerial t d serial among (block_with_to t d serial among)
unfolding block_with_to
with_serial t d serial zero = λ m l. absurd (omega arith)
with_serial t d serial (suc n) =
    by_test (held_by d (block_at t n) && eqb (block_at t n).serial serial)
    (λ e.
    let h = both (held_by d (block_at t n)) (eqb (block_at t n).serial serial) e in
    rw e (omega arith, h.0, eqb-true (block_at t n).serial serial h.1))
    (λ e. rw e (further (block_with_to t d serial n) (with_serial t d serial n) e))
  where
    further : (found : Option ℕ) → WithSerial t d serial n found → (held_by d (block_at t n) && eqb (block_at t n).serial serial) ≡ false
        → WithSerial t d serial (suc n) found
    further none none_below e = below_next (λ m. (held_by d (block_at t m) && eqb (block_at t m).serial serial) ≡ false) n none_below e
    further (some m) x e = (omega (arith, x.0), x.1, x.2)

-- Of the drive.
pub serial_found : (t : Table) (d serial : ℕ) → WithSerial t d serial (size t) (block_with t d serial)
serial_found t d serial = with_serial t d serial (size t)

-- A block that the domain holds is found by its serial.
pub found_is : (v : Drive) (d serial n : ℕ) → view (if_serial serial) d v ≤ 1 → Holds d v n → serial_at v n ≡ serial
    → block_with v.table d serial ≡ some n
found_is v d serial n most h e = go (block_with v.table d serial) (serial_found v.table d serial)
  where
    go : (x : Option ℕ) → WithSerial v.table d serial (size v.table) x → x ≡ some n
    go none o = absurd (true≢false (sym (rw (h.1, eq-eqb (serial_at v n) serial e)) ∙ o n h.0))
    go (some m) o =
        ap (λ (i : ℕ). some i)
        (one_block d v (λ x. eqb x.serial serial) most m n (o.0, o.1) h (eq-eqb (serial_at v m) serial o.2) (eq-eqb (serial_at v n) serial e))

-- Where it holds none, nothing is found.
pub found_none : (v : Drive) (d serial : ℕ) → ((n : ℕ) → Holds d v n → ¬ (serial_at v n ≡ serial)) → block_with v.table d serial ≡ none
found_none v d serial nobody = go (block_with v.table d serial) (serial_found v.table d serial)
  where
    go : (x : Option ℕ) → WithSerial v.table d serial (size v.table) x → x ≡ none
    go none o = refl
    go (some m) o = absurd (nobody m (o.0, o.1) o.2)

-- ---- The same in two drives in which the domain holds the same

-- What is told of each block is made the same of in both.
abbrev ToldAlike : ℕ → Drive → Drive → {A : Type 0} → (List ℕ → A) → (List ℕ → A) → (ℕ → List ℕ) → (ℕ → List ℕ) → Type 0
ToldAlike a v w read read' told told' =
    (n m : ℕ) → Holds a v n → Holds a w m → serial_at v n ≡ serial_at w m → read (told n) ≡ read' (told' m)

module _ {a : ℕ} {v w : Drive} (same : SameHoldings a v w) {A : Type 0} (read read' : List ℕ → A) (nothing : read [] ≡ read' [])
    (told told' : ℕ → List ℕ) (alike : ToldAlike a v w read read' told told') where
  absent : (u : Drive) (serial : ℕ) → WithSerial u.table a serial (size u.table) none → (m : ℕ) → Holds a u m → serial_at u m ≡ serial → ⊥
  absent u serial none_has m h e = true≢false (sym (rw (h.1, eq-eqb (serial_at u m) serial e)) ∙ none_has m h.0)

  either_told : (serial : ℕ) (x y : Option ℕ) → WithSerial v.table a serial (size v.table) x
      → WithSerial w.table a serial (size w.table) y → read (told_of told x) ≡ read' (told_of told' y)
  either_told serial none none p q = nothing
  either_told serial none (some m) p q =
      let n = same.back m (q.0, q.1) in absurd (absent v serial p n.0 n.1 (n.2 ∙ q.2))
  either_told serial (some n) none p q =
      let m = same.there n (p.0, p.1) in absurd (absent w serial q m.0 m.1 (sym m.2 ∙ p.2))
  either_told serial (some n) (some m) p q = alike n m (p.0, p.1) (q.0, q.1) (p.2 ∙ sym q.2)

  pub told_alike : (serial : ℕ) → read (told_of told (block_with v.table a serial)) ≡ read' (told_of told' (block_with w.table a serial))
  told_alike serial =
      either_told serial (block_with v.table a serial) (block_with w.table a serial)
      (serial_found v.table a serial) (serial_found w.table a serial)

-- ---- Where each block stands

-- What is told up to a serial is the front of what is told up to a later one.
by_serial_front : (told : ℕ → List ℕ) (t : Table) (d serial up_to : ℕ) → serial ≤ up_to
    → (rest : List ℕ) × (by_serial_to told t d up_to ≡ by_serial_to told t d serial ++ rest)
unfolding by_serial_to
by_serial_front told t d serial zero l =
    let none_less : serial ≡ 0 = omega (arith, l) in
    ([], ap (by_serial_to told t d) (sym none_less) ∙ sym (append-nil (by_serial_to told t d serial)))
by_serial_front told t d serial (suc up_to) l =
    by_eq serial (suc up_to)
    (λ e. ([], ap (by_serial_to told t d) (sym e) ∙ sym (append-nil (by_serial_to told t d serial))))
    (λ other.
    let less = by_serial_front told t d serial up_to (omega (arith, l, other)) in
    let more = told_of told (block_with t d (suc up_to)) in
    (less.0 ++ more, ap (λ (xs : List ℕ). xs ++ more) less.1 ∙ append_assoc (by_serial_to told t d serial) less.0 more))

-- The last serial and those before it.
pub by_serial_last : (told : ℕ → List ℕ) (t : Table) (d serial : ℕ) → 1 ≤ serial
    → by_serial_to told t d serial ≡ by_serial_to told t d (serial - 1) ++ told_of told (block_with t d serial)
unfolding by_serial_to
by_serial_last told t d zero l = absurd (omega (arith, l))
by_serial_last told t d (suc serial) l =
    let back : serial ≡ suc serial - 1 = omega arith in
    ap (λ (i : ℕ). by_serial_to told t d i ++ told_of told (block_with t d (suc serial))) back

module _ (v : Drive) (d : ℕ) (low : 1 ≤ d) (facts : Facts v) where
  -- The serial of a block that is held is one of the domain's.
  pub serial_given_lem : (n : ℕ) → Holds d v n → (1 ≤ serial_at v n) × (serial_at v n ≤ (domain_at v.table d).last)
  serial_given_lem n h =
      let o = held_owned v d n facts low h.0 h.1 in
      (o.first, subst (λ (e : ℕ). serial_at v n ≤ (domain_at v.table e).last) (eqb-true (block_at v.table n).holder d h.1) o.last)

  -- What is told of a block stands behind what is told of those with lower serials.
  pub by_serial_at : (told : ℕ → List ℕ) (n : ℕ) → Holds d v n
      → (rest : List ℕ) × (by_serial told v.table d ≡ by_serial_to told v.table d (serial_at v n - 1) ++ (told n ++ rest))
  by_serial_at told n h =
      let s = serial_at v n in
      let given = serial_given_lem n h in
      let front = by_serial_to told v.table d (s - 1) in
      let rest = by_serial_front told v.table d s (domain_at v.table d).last given.1 in
      let up_to : by_serial_to told v.table d s ≡ front ++ told n =
      by_serial_last told v.table d s given.0
      ∙ ap (λ (x : Option ℕ). front ++ told_of told x) (found_is v d s n (facts.unique d s low) h refl) in
      (rest.0, rest.1 ∙ ap (λ (xs : List ℕ). xs ++ rest.0) up_to ∙ append_assoc front (told n) rest.0)

  -- ---- What the whole comes to

  -- A number that is made of a list piece by piece, as its length is, is the sum of those of the blocks.
  module _ (count : List ℕ → ℕ) (nothing : count [] ≡ 0) (more : (xs ys : List ℕ) → count (xs ++ ys) ≡ count xs + count ys)
      (told : ℕ → List ℕ) where
    abbrev part : (ℕ → Bool) → ℕ → ℕ
    part these n = cond (held_by d (block_at v.table n) && these (serial_at v n)) (count (told n)) 0

    found_counted : (serial : ℕ) (found : Option ℕ) → WithSerial v.table d serial (size v.table) found
        → count (told_of told found) ≡ sum_to (part (λ s. eqb s serial)) (size v.table)
    found_counted serial none o = nothing ∙ sym (sum_zero (size v.table) (part (λ s. eqb s serial)) (λ n l. rw (o n l)))
    found_counted serial (some m) o =
        sym (sum_term_alone (size v.table) (part (λ s. eqb s serial)) m o.0 (λ n l apart.
        by_test (held_by d (block_at v.table n))
        (λ h. rw h (by_test (eqb (serial_at v n) serial)
        (λ e. absurd (apart (one_block d v (λ x. eqb x.serial serial) (facts.unique d serial low) n m (l, h) (o.0, o.1) e
        (eq-eqb (serial_at v m) serial o.2))))
        (λ e. rw e)))
        (λ h. rw h))
        ∙ rw (o.1, eq-eqb (serial_at v m) serial o.2))

    up_to_counted : (up_to : ℕ) → count (by_serial_to told v.table d up_to) ≡ sum_to (λ i. sum_to (part (λ s. eqb s (i + 1))) (size v.table)) up_to
    unfolding by_serial_to sum_to
    up_to_counted zero = nothing
    up_to_counted (suc serial) =
        more (by_serial_to told v.table d serial) (told_of told (block_with v.table d (suc serial)))
        ∙ ap₂ ◌+◌ (up_to_counted serial)
        (found_counted (suc serial) (block_with v.table d (suc serial)) (serial_found v.table d (suc serial))
        ∙ ap (λ (s : ℕ). sum_to (part (λ r. eqb r s)) (size v.table)) (sym (add-one serial)))

    -- Of the blocks with serials up to one, ..
    pub by_serial_counted_to : (up_to : ℕ)
        → count (by_serial_to told v.table d up_to) ≡ sum_to (part (λ s. leb s up_to)) (size v.table)
    by_serial_counted_to up_to =
        up_to_counted up_to
        ∙ sum_swap up_to (size v.table) (λ i n. part (λ s. eqb s (i + 1)) n)
        ∙ sum_same (size v.table) _ _ (λ n l.
        by_test (held_by d (block_at v.table n))
        (λ h.
        let s = serial_given_lem n (l, h) in
        let under : ℕ → ℕ = λ i. cond (eqb (serial_at v n) (i + 1)) (count (told n)) 0 in
        rw h
        (by_test (leb (serial_at v n) up_to)
        (λ e. rw e
        (sum_term_alone up_to under (serial_at v n - 1) (omega (arith, s.0, leb-true (serial_at v n) up_to e))
        (λ i k other. rw (ne_eqb (serial_at v n) (i + 1) (λ f. other (omega (arith, f)))))
        ∙ rw (eq-eqb (serial_at v n) (serial_at v n - 1 + 1) (omega (arith, s.0)))))
        (λ e. rw e
        (sum_zero up_to under (λ i k. rw (ne_eqb (serial_at v n) (i + 1) (λ f. omega (arith, f, k, leb-false (serial_at v n) up_to e))))))))
        (λ h. rw h (sum_zero up_to (λ i. 0) (λ i k. refl))))

    -- .. and of all.
    pub by_serial_counted : count (by_serial told v.table d)
        ≡ sum_to (λ n. cond (held_by d (block_at v.table n)) (count (told n)) 0) (size v.table)
    by_serial_counted =
        by_serial_counted_to (domain_at v.table d).last
        ∙ sum_same (size v.table) _ _ (λ n l.
        by_test (held_by d (block_at v.table n))
        (λ h. rw (h, le-leb (serial_at v n) (domain_at v.table d).last (serial_given_lem n (l, h)).1))
        (λ h. rw h))
