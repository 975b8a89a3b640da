-- What a domain keeps, in two drives that it cannot tell apart: the same.
use Prim.Native.Nat.{ℕ, zero, suc, ◌+◌, ◌-◌, ◌≤◌, ◌<◌}
use mathlib.Core.Bool.{Bool, true, false, true≢false, ◌&&◌, cond}
use mathlib.Core.List.{List, [], ◌++◌, append_assoc, append-nil}
use mathlib.Core.Option.{Option, none, some}
use mathlib.Core.Path.{◌≡◌, refl, sym, ap, ap₂, ◌∙◌, subst}
use native.Mathlib.Omega.{arith}
use lib.Dec.{eqb, leb, ltb}
use lib.ListN.{drop, length, length-append, length-take, take}
use lib.Seq.{take-append_seam}
use borrow.Author.Tests.{eq-eqb, le-leb, lt-leb, ltb-false, ltb-true, ne_eqb}
use Rattle.geometry.proofs.Laws.Shape.{by_test}
use Rattle.geometry.specs.declared.shape.Config.{Config}
use Rattle.model.specs.declared.block.Block.{Block}
use Rattle.model.specs.declared.table.Domain.{Domain}
use Rattle.model.specs.declared.table.Table.{Table}
use Rattle.rules.specs.Claims.{KeptAt, written_where}
use Rattle.rules.specs.Drive.{Drive, block_at, block_with, block_with_to, by_serial_to, domain_at, held_by, overwritten, size, told_of}
use Rattle.rules.specs.Observation.{Holding, Holds, SameHoldings, serial_at}
use Rattle.rules.specs.Recorder.{kept, written_in}
use Rattle.rules.proofs.Counting.{by_eq, sum_same}
use Rattle.rules.proofs.Kept.Entries.{entries_length}
use Rattle.rules.proofs.Kept.Facts.{Facts, written_most}
use Rattle.rules.proofs.Kept.Views.{Changed, if_serial, view}
use Rattle.rules.proofs.Noninterference.Pairing.{one_block}
use Rattle.rules.proofs.Serials.{WithSerial, by_serial_at, by_serial_counted, by_serial_counted_to, by_serial_last, found_is, found_none, serial_found, serial_given_lem, told_alike}
use Rattle.rules.proofs.Writes.{Ready}

-- What is kept of the blocks with serials up to one, and what is written in a block that was found.
abbrev pub kept_to : Drive → ℕ → ℕ → List ℕ
kept_to v d up_to = by_serial_to (written_in v) v.table d up_to

abbrev pub written_found : Drive → Option ℕ → List ℕ
written_found v found = told_of (written_in v) found

-- The same is kept in both.
pub kept_same : {a : ℕ} {v w : Drive} → SameHoldings a v w → domain_at v.table a ≡ domain_at w.table a → kept v a ≡ kept w a
unfolding by_serial_to
kept_same {a} {v} {w} same records =
    up_to (domain_at v.table a).last ∙ ap (λ (r : Domain). kept_to w a r.last) records
  where
    up_to : (serial : ℕ) → kept_to v a serial ≡ kept_to w a serial
    up_to zero = refl
    up_to (suc serial) =
        ap₂ (λ (xs ys : List ℕ). xs ++ ys) (up_to serial)
        (told_alike same (λ xs. xs) (λ xs. xs) refl (written_in v) (written_in w)
        (λ n m h k e. ap (λ (x : Holding). take x.written x.entries) (same.equal n m h k e)) (suc serial))

-- ---- Where blocks change

-- The block with a serial is the same where the same blocks pass the test.
pub found_same : (t u : Table) (d serial among : ℕ)
    → ((n : ℕ) → n < among → held_by d (block_at t n) && eqb (block_at t n).serial serial ≡ held_by d (block_at u n) && eqb (block_at u n).serial serial)
    → block_with_to t d serial among ≡ block_with_to u d serial among
unfolding block_with_to
found_same t u d serial zero h = refl
found_same t u d serial (suc n) h =
    ap₂ (λ (b : Bool) (rest : Option ℕ). cond b (some n) rest) (h n (omega arith)) (found_same t u d serial n (λ m l. h m (omega (arith, l))))

-- What is written under a serial, where it is the same block in both.
written_found_lem : (v w : Drive) (d serial : ℕ) (found : Option ℕ) → WithSerial v.table d serial (size v.table) found
    → ((n : ℕ) → n < size v.table → held_by d (block_at v.table n) ≡ true → (block_at v.table n).serial ≡ serial
    → written_in v n ≡ written_in w n)
    → written_found v found ≡ written_found w found
written_found_lem v w d serial none x same = refl
written_found_lem v w d serial (some n) x same = same n x.0 x.1 x.2

pub serial_same : (v w : Drive) (d serial : ℕ) → w.table.config ≡ v.table.config
    → ((n : ℕ) → n < size v.table
    → held_by d (block_at v.table n) && eqb (block_at v.table n).serial serial
    ≡ held_by d (block_at w.table n) && eqb (block_at w.table n).serial serial)
    → ((n : ℕ) → n < size v.table → held_by d (block_at v.table n) ≡ true → (block_at v.table n).serial ≡ serial
    → written_in v n ≡ written_in w n)
    → written_found v (block_with v.table d serial) ≡ written_found w (block_with w.table d serial)
serial_same v w d serial config tests same =
    written_found_lem v w d serial (block_with v.table d serial) (serial_found v.table d serial) same
    ∙ ap (λ (x : Option ℕ). written_found w x)
    (found_same v.table w.table d serial (size v.table) tests
    ∙ ap (λ (c : Config). block_with_to w.table d serial c.blocks) (sym config))

-- One block is changed, and neither before nor after it has this serial.
module _ {d n : ℕ} {v w : Drive} (c : Changed d n v w) where
  abbrev has : Drive → ℕ → ℕ → Bool
  has u m serial = held_by d (block_at u.table m) && eqb (block_at u.table m).serial serial

  pub changed_elsewhere : (serial : ℕ) → has v n serial ≡ false → has w n serial ≡ false
      → written_found v (block_with v.table d serial) ≡ written_found w (block_with w.table d serial)
  changed_elsewhere serial before after =
      serial_same v w d serial c.config
      (λ m l. by_eq m n (λ e. rw e (before ∙ sym after)) (λ other. rw (c.blocks m other)))
      (λ m l held is. by_eq m n
      (λ e. absurd (true≢false (sym (subst (λ (i : ℕ). has v i serial ≡ true) e (rw (held, eq-eqb (block_at v.table m).serial serial is))) ∙ before)))
      (λ other. rw (c.blocks m other, c.entries m l other)))

  pub kept_elsewhere : (up_to : ℕ) → ((serial : ℕ) → 1 ≤ serial → serial ≤ up_to → (has v n serial ≡ false) × (has w n serial ≡ false))
      → kept_to v d up_to ≡ kept_to w d up_to
  unfolding by_serial_to
  kept_elsewhere zero apart = refl
  kept_elsewhere (suc serial) apart =
      let x = apart (suc serial) (omega arith) (omega arith) in
      ap₂ (λ (xs ys : List ℕ). xs ++ ys)
      (kept_elsewhere serial (λ s l m. apart s l (omega (arith, m))))
      (changed_elsewhere (suc serial) x.0 x.1)

-- ---- How many are kept

-- The weight of what is written.
abbrev pub written : Holding → ℕ
written h = h.written

module _ (v : Drive) (d : ℕ) (low : 1 ≤ d) (facts : Facts v) (ready : Ready v.table.config v) where
  -- A block has as many entries as are written, or more.
  block_written : (n : ℕ) → n < size v.table → length (written_in v n) ≡ (block_at v.table n).written.0
  block_written n l =
      let b = block_at v.table n in
      simp length-take
      (omega (arith, entries_length v.table.config v n ready l, written_most v.table b.state b (facts.blocks n l)))

  -- Of the blocks with serials up to one, as many ADUs are kept as they have written, ..
  kept_to_written : (up_to : ℕ) → length (kept_to v d up_to) ≡ written_where (λ serial. leb serial up_to) v d
  kept_to_written up_to =
      by_serial_counted_to v d low facts length refl length-append (written_in v) up_to
      ∙ sum_same (size v.table) _ _ (λ n l. ap (λ (k : ℕ). cond (held_by d (block_at v.table n) && leb (serial_at v n) up_to) k 0) (block_written n l))

  -- .. and of all blocks.
  pub kept_length : length (kept v d) ≡ view written d v
  unfolding view
  kept_length =
      by_serial_counted v d low facts length refl length-append (written_in v)
      ∙ sum_same (size v.table) _ _ (λ n l. ap (λ (k : ℕ). cond (held_by d (block_at v.table n)) k 0) (block_written n l))

  pub kept_written : length (kept v d) ≡ written_where (λ serial. true) v d
  unfolding view
  kept_written = kept_length ∙ sum_same (size v.table) _ _ (λ n l.
      by_test (held_by d (block_at v.table n)) (λ h. rw h) (λ h. rw h))

  -- The written ADUs of a block stand behind those of the blocks with lower serials.
  pub kept_at : (n : ℕ) → Holds d v n → KeptAt v d n
  kept_at n h =
      let s = serial_at v n in
      let given = serial_given_lem v d low facts n h in
      let at = by_serial_at v d low facts (written_in v) n h in
      record {
        front = kept_to v d (s - 1);
        rest = at.0;
        stands = at.1;
        behind = kept_to_written (s - 1) ∙ sum_same (size v.table) _ _ (λ m l.
            ap (λ (b : Bool). cond (held_by d (block_at v.table m) && b) (block_at v.table m).written.0 0)
            (by_test (ltb (serial_at v m) s)
            (λ e. le-leb (serial_at v m) (s - 1) (omega (arith, ltb-true (serial_at v m) s e)) ∙ sym e)
            (λ e. lt-leb (serial_at v m) (s - 1) (omega (arith, ltb-false (serial_at v m) s e, given.0)) ∙ sym e)));
      }

-- ---- What a change of one block makes of what is kept

-- The front of a row up to what is new in it.
pub take_overwritten : (at : ℕ) (new row : List ℕ) → at ≤ length row → take (at + length new) (overwritten at new row) ≡ take at row ++ new
unfolding overwritten
take_overwritten at new row l =
    let rest = drop (length new) (drop at row) in
    let as_long : at + length new ≡ length (take at row ++ new) =
    rw length-append (omega (arith, length-take at row, l)) in
    ap₂ (λ (k : ℕ) (xs : List ℕ). take k xs) as_long (sym (append_assoc (take at row) new rest))
    ∙ take-append_seam (take at row ++ new) rest

-- A block that the domain holds, and only from the same serial on.
module _ {d n : ℕ} {v w : Drive} (c : Changed d n v w) (before : Holds d v n) (after : Holds d w n) (same : serial_at w n ≡ serial_at v n)
    (last : serial_at v n ≡ (domain_at v.table d).last) (last' : (domain_at w.table d).last ≡ (domain_at v.table d).last)
    (some-serial : 1 ≤ serial_at v n)
    (unique : view (if_serial (serial_at v n)) d v ≤ 1) (unique' : view (if_serial (serial_at v n)) d w ≤ 1) where
  not_that : (u : Drive) → serial_at u n ≡ serial_at v n → (serial : ℕ) → serial < serial_at v n
      → held_by d (block_at u.table n) && eqb (serial_at u n) serial ≡ false
  not_that u is serial l =
      by_test (held_by d (block_at u.table n))
      (λ h. rw (h, ne_eqb (serial_at u n) serial (λ e. omega (arith, e, is, l))))
      (λ h. rw h)

  -- Only the end of what is kept differs: what is written in the block.
  pub end_changed : (front : List ℕ) × (kept v d ≡ front ++ written_in v n) × (kept w d ≡ front ++ written_in w n)
  end_changed =
      let s = serial_at v n in
      let front = kept_to v d (s - 1) in
      let equal = kept_elsewhere c (s - 1) (λ i l m. (not_that v refl i (omega (arith, m, some-serial)), not_that w same i (omega (arith, m, some-serial)))) in (
        front,
        ap (λ (i : ℕ). kept_to v d i) (sym last) ∙ by_serial_last (written_in v) v.table d s some-serial
            ∙ ap (λ (x : Option ℕ). front ++ written_found v x) (found_is v d s n unique before refl),
        ap (λ (i : ℕ). kept_to w d i) (last' ∙ sym last) ∙ by_serial_last (written_in w) w.table d s some-serial
            ∙ ap₂ (λ (xs : List ℕ) (x : Option ℕ). xs ++ written_found w x) (sym equal) (found_is w d s n unique' after same),
      )

-- A block that the domain opens, with the next serial and nothing written: what is kept stays.
pub opened_kept : {d n : ℕ} {v w : Drive} → Changed d n v w → held_by d (block_at v.table n) ≡ false → Holds d w n
    → serial_at w n ≡ suc (domain_at v.table d).last → (domain_at w.table d).last ≡ suc (domain_at v.table d).last
    → view (if_serial (serial_at w n)) d w ≤ 1 → (block_at w.table n).written.0 ≡ 0 → kept w d ≡ kept v d
unfolding by_serial_to
opened_kept {d} {n} {v} {w} c nobodys holds serial last unique nothing =
    let l = (domain_at v.table d).last in
    let none_written : written_in w n ≡ [] = rw nothing in
    let found : block_with w.table d (suc l) ≡ some n =
    ap (λ (s : ℕ). block_with w.table d s) (sym serial) ∙ found_is w d (serial_at w n) n unique holds refl in
    let equal = kept_elsewhere c l (λ s low high. (
      rw nobodys,
      by_test (held_by d (block_at w.table n)) (λ h. rw (h, ne_eqb (serial_at w n) s (λ e. omega (arith, e, serial, high)))) (λ h. rw h),
    )) in
    ap (λ (s : ℕ). kept_to w d s) last
    ∙ ap₂ (λ (xs : List ℕ) (x : Option ℕ). xs ++ written_found w x) (sym equal) found
    ∙ ap (λ (xs : List ℕ). kept v d ++ xs) none_written
    ∙ append-nil (kept v d)

-- The block with the least serial of all that the domain holds is freed: what is written in it goes from the front.
module _ {d n : ℕ} {v w : Drive} (c : Changed d n v w) (before : Holds d v n) (after : held_by d (block_at w.table n) ≡ false)
    (last' : (domain_at w.table d).last ≡ (domain_at v.table d).last)
    (given : (1 ≤ serial_at v n) × (serial_at v n ≤ (domain_at v.table d).last))
    (unique : view (if_serial (serial_at v n)) d v ≤ 1)
    (least : (m : ℕ) → Holds d v m → serial_at v n ≤ serial_at v m) where
  still_least : (m : ℕ) → Holds d w m → (serial_at v n ≤ serial_at w m) × ¬ (serial_at w m ≡ serial_at v n)
  still_least m h =
      by_eq m n
      (λ e. absurd (true≢false (sym h.1 ∙ subst (λ (i : ℕ). held_by d (block_at w.table i) ≡ false) (sym e) after)))
      (λ other.
      let record_stays = c.blocks m other in
      let there : Holds d v m = (
        subst (λ (x : Config). m < x.blocks) c.config h.0,
        subst (λ (b : Block). held_by d b ≡ true) record_stays h.1,
      ) in
      let serial_stays : serial_at w m ≡ serial_at v m = ap (λ (b : Block). b.serial) record_stays in (
        omega (arith, least m there, serial_stays),
        λ e. other (one_block d v (λ x. eqb x.serial (serial_at v n)) unique m n there before
            (eq-eqb (serial_at v m) (serial_at v n) (sym serial_stays ∙ e)) (eq-eqb (serial_at v n) (serial_at v n) refl)),
      ))

  none_below : (u : Drive) → ((m : ℕ) → Holds d u m → serial_at v n ≤ serial_at u m) → (up_to : ℕ) → up_to < serial_at v n → kept_to u d up_to ≡ []
  unfolding by_serial_to
  none_below u all zero l = refl
  none_below u all (suc serial) l =
      ap₂ (λ (xs : List ℕ) (x : Option ℕ). xs ++ written_found u x) (none_below u all serial (omega (arith, l)))
      (found_none u d (suc serial) (λ m h e. omega (arith, all m h, e, l)))

  from_there : (up_to : ℕ) → serial_at v n ≤ up_to → kept_to v d up_to ≡ written_in v n ++ kept_to w d up_to
  unfolding by_serial_to
  from_there zero l = absurd (omega (arith, l, given.0))
  from_there (suc serial) l =
      by_eq (suc serial) (serial_at v n)
      (λ e.
      ap₂ (λ (xs : List ℕ) (x : Option ℕ). xs ++ written_found v x)
      (none_below v least serial (omega (arith, e))) (ap (λ (s : ℕ). block_with v.table d s) e ∙ found_is v d (serial_at v n) n unique before refl)
      ∙ sym (append-nil (written_in v n))
      ∙ sym (ap₂ (λ (xs : List ℕ) (x : Option ℕ). written_in v n ++ (xs ++ written_found w x))
      (none_below w (λ m h. (still_least m h).0) serial (omega (arith, e)))
      (found_none w d (suc serial) (λ m h f. (still_least m h).1 (f ∙ e)))))
      (λ other.
      ap₂ (λ (xs ys : List ℕ). xs ++ ys) (from_there serial (omega (arith, l, other)))
      (changed_elsewhere c (suc serial)
      (by_test (held_by d (block_at v.table n)) (λ h. rw (h, ne_eqb (serial_at v n) (suc serial) (λ e. other (sym e)))) (λ h. rw h))
      (rw after))
      ∙ append_assoc (written_in v n) (kept_to w d serial) (written_found w (block_with w.table d (suc serial))))

  pub freed_kept : kept v d ≡ written_in v n ++ kept w d
  freed_kept =
      from_there (domain_at v.table d).last given.1
      ∙ ap (λ (s : ℕ). written_in v n ++ kept_to w d s) (sym last')
