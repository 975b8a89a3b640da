-- What is seen of a table is so: from what the scan of its blocks and the one of its domains have found.
use Prim.Native.Nat.{ℕ, zero, suc, ◌+◌, ◌-◌, ◌<◌, ◌≤◌}
use mathlib.Core.Bool.{Bool, true, true≢false, ◌&&◌}
use mathlib.Core.List.{List}
use mathlib.Core.Option.{Option, some}
use mathlib.Core.Path.{◌≡◌, refl, sym, ap, ◌∙◌, subst}
use native.Mathlib.Omega.{arith}
use lib.Dec.{leb, ltb}
use lib.ListN.{get_or, length, length-replicate, replicate}
use lib.Seq.{get_or-take, length-take-le}
use Rattle.std.proofs.lemmas.Option.{none-some}
use Rattle.std.specs.Prelude.{Option as Maybe, Some, None}
use Rattle.geometry.proofs.Laws.Shape.{both, by_test, is_between, limits}
use Rattle.geometry.specs.Shape.{within_limits}
use Rattle.model.specs.declared.table.Table.{Table}
use Rattle.rules.proofs.Blocks.{Choice, choice}
use Rattle.rules.proofs.Counting.{all_none, sum_none}
use Rattle.rules.specs.Blocks.{chosen_block, chosen_to}
use Rattle.rules.specs.Drive.{block_at, clear_block, held_count, open_block, open_count, size}
use Rattle.rules.specs.Soundness.{sound}
use Rattle.scan.proofs.Choices.{chosen_found}
use Rattle.scan.proofs.Passing.{Told, none_some, open_inside, open_told, some_same, walked_told}
use Rattle.scan.proofs.Seeing.{all_present}
use Rattle.scan.proofs.Steps.{Fitting, Marked}
use Rattle.scan.proofs.Soundness.{Counts, covers, outside_unsound, scan_sound, sound_blocks}
use Rattle.scan.specs.Clauses.{blocks_sound, last_to}
use Rattle.scan.specs.Marks.{mark, mark_count, no_marks}
use Rattle.scan.specs.Scan.{Walked}
use Rattle.scan.specs.Summary.{Sees, SeesFound, Summarizes, SubjectOf, SummaryGathered, block_about, found_in, found_there, named_by, number_about, present, record_of}
use Rattle.scan.specs.declared.scan.About.{About}
use Rattle.scan.specs.declared.scan.About.TheVariants as about
use Rattle.scan.specs.declared.scan.Subject.{Subject}
use Rattle.scan.specs.declared.summary.Summary.{Summary}
use Rattle.tables.specs.Changing.{present_blocks}

-- ---- Before the first block

zero_mark : (n i : ℕ) → mark (replicate n 0) i ≡ 0
zero_mark zero i = refl
zero_mark (suc n) zero = refl
zero_mark (suc n) (suc i) = zero_mark n i

begun_marked : (t : Table) → Marked t 0 no_marks
unfolding last_to
begun_marked t = record {
  entries = length-replicate {A = ℕ} mark_count 0;
  held_count_lem = λ k l. zero_mark mark_count k ∙ sym (sum_none _);
  open_count_lem = λ k l. zero_mark mark_count (16 + k) ∙ sym (sum_none _);
  taken = λ x l. zero_mark mark_count (32 + x);
  ends = λ k l. zero_mark mark_count (288 + k);
  links = λ j l f. absurd (omega (arith, l));
}

none_tested : (t : Table) → blocks_sound t 0 ≡ true
unfolding blocks_sound
none_tested t = all_none _

-- ---- Behind the last, of a table within the limits

-- The records that the scans go over are those of the drive's blocks.
pub record Present (t : Table) : Type 0 where
  pub most : size t ≤ 256
  pub long : length (present t) ≡ size t
  pub records : (i : ℕ) → i < size t → get_or (present t) i clear_block ≡ block_at t i

pub all_there : (t : Table) → within_limits t.config ≡ true → length t.blocks ≡ 256 → Present t
all_there t e all =
    let most = (limits t.config e).ranges.blocks.most in
    let n = present_blocks t.config in
    let is : n ≡ size t = all_present t.config e in
    record {
      most = most;
      long = length-take-le n t.blocks (omega (arith, all, is, most)) ∙ is;
      records = λ i l. get_or-take n t.blocks i clear_block (omega (arith, l, is));
    }

zero_first : (k : ℕ) → 0 + k ≡ k
zero_first k = omega arith

all_told : (t : Table) (s : Subject) (ok : Bool) (m : List ℕ) → SubjectOf t s → length t.blocks ≡ 256 → within_limits t.config ≡ true
    → Walked s t.domains (present t) 0 (present t) ok no_marks m → Told t (size t) ok m
all_told t s ok m a all e w =
    let q = all_there t e all in
    let about : Fitting t s = record { same_period = a.same_period; same_capacity = a.same_capacity e } in
    let told = walked_told t s (present t) 0 (present t) ok no_marks m about (omega (arith, q.long, q.most)) (omega arith)
    (λ i l. ap (block_at t) (zero_first i) ∙ sym (q.records i (omega (arith, l, q.long))))
    (λ j l. q.records j (omega (arith, l, q.long))) (begun_marked t) (none_tested t) w in
    subst (λ (k : ℕ). Told t k ok m) (zero_first (length (present t)) ∙ q.long) told

-- ---- What is seen

-- The counts in the marks are the table's.
counts : (t : Table) (ms : List ℕ) → Marked t (size t) ms → Counts t (mark ms) (λ i. mark ms (16 + i))
unfolding held_count open_count
counts t ms w = record { held_counted = w.held_count_lem; open_counted = w.open_count_lem }

-- What was read of a table with all its records, for a subject that has its numbers from the table's configuration, and
-- the summary that was made of it.
module _ {t : Table} {s : Subject} {ms : List ℕ} {r : Summary} (a : SubjectOf t s) (all : length t.blocks ≡ 256)
    (p : SummaryGathered t.config s (present t) t.domains no_marks ms r) where
  abbrev chosen : ℕ
  chosen = p.free.number

  abbrev number : Maybe ℕ
  number = block_about s chosen ms

  -- The tests of which the summary's is made.
  sound_is : r.sound ≡ within_limits t.config && p.ok && p.covering.sound && leb p.covering.coverage (size t)
  sound_is = ap (λ (x : Summary). x.sound) p.made

  -- The tests are those of soundness.
  tested_sound : r.sound ≡ sound t
  tested_sound = sound_is ∙ by_test (within_limits t.config)
      (λ e.
      let q = all_told t s p.ok ms a all e p.walked in
      by_test p.ok
      (λ f. rw (e, f, p.covered.clauses, p.covered.sum_is)
      (sym (rw (sym q.tested ∙ f)) ∙ scan_sound t (mark ms) (λ i. mark ms (16 + i)) e (counts t ms (q.marked f))))
      (λ f. rw (e, f) (sym (by_test (sound t)
      (λ y. absurd (true≢false (sym (sound_blocks t y) ∙ sym q.tested ∙ f)))
      (λ y. y)))))
      (λ e. rw e (sym (outside_unsound t e)))

  -- Where the table is sound, the scan went over all of its blocks, and the marks are right.
  sound_marked : r.sound ≡ true → (within_limits t.config ≡ true) × Marked t (size t) ms
  sound_marked y =
      let q3 = both (within_limits t.config && p.ok && p.covering.sound) (leb p.covering.coverage (size t)) (sym sound_is ∙ y) in
      let q2 = both (within_limits t.config && p.ok) p.covering.sound q3.0 in
      let q1 = both (within_limits t.config) p.ok q2.0 in
      (q1.0, (all_told t s p.ok ms a all q1.0 p.walked).marked q1.1)

  there : r.sound ≡ true → Present t
  there y = all_there t (sound_marked y).0 all

  sees_table : Sees t s.domain r
  sees_table = record {
    tested = tested_sound;
    same_config = ap (λ (x : Summary). x.config) p.made;
    same_domain = ap (λ (x : Summary). x.domain) p.made;
    holds = λ y id.
        let l = is_between 1 16 s.domain id in
        let back : s.domain - 1 + 1 ≡ s.domain = omega (arith, l.least) in
        let front : 0 + (s.domain - 1) ≡ s.domain - 1 = omega arith in
        ap (λ (x : Summary). x.held) p.made
        ∙ rw (id, front) ((counts t ms (sound_marked y).1).held_counted (s.domain - 1) (omega (arith, l.least, l.most)) ∙ ap (held_count t) back);
    opens = λ y id.
        let l = is_between 1 16 s.domain id in
        let back : s.domain - 1 + 1 ≡ s.domain = omega (arith, l.least) in
        ap (λ (x : Summary). x.opened) p.made
        ∙ rw id ((counts t ms (sound_marked y).1).open_counted (s.domain - 1) (omega (arith, l.least, l.most)) ∙ ap (open_count t) back);
    covers = λ y. ap (λ (x : Summary). x.coverage) p.made ∙ p.covered.sum_is ∙ covers t (mark ms) (λ i. mark ms (16 + i)) (counts t ms (sound_marked y).1);
  }

  -- The record of the block that the command is about, where it is one of the drive.
  block_there : r.sound ≡ true → (n : ℕ) → number ≡ Some n → n < size t → r.block ≡ block_at t n
  block_there y n is l = ap (λ (x : Summary). x.block) p.made ∙ ap (record_of (present t)) is ∙ (there y).records n l

  -- Its number: that of the placement's open block, ..
  number_is : (x : About) → s.about ≡ x → number ≡ number_about x s.domain chosen ms
  number_is x e = ap (λ (a : About). number_about a s.domain chosen ms) e

  open_is : (n : ℕ) → s.about ≡ about.Placement n → r.sound ≡ true → found_in (found_there number) ≡ open_block t s.domain n
  open_is n e y = ap (λ (o : Maybe ℕ). found_in (found_there o)) (number_is (about.Placement n) e)
      ∙ open_told t s.domain n ms (sym tested_sound ∙ y) (there y).most (sound_marked y).1

  -- .. or that of the chosen one.
  chosen_is : s.about ≡ about.Chosen → r.sound ≡ true → found_in (found_there number) ≡ chosen_block t
  chosen_is e y =
      let q = there y in
      ap (λ (o : Maybe ℕ). found_in (found_there o)) (number_is about.Chosen e)
      ∙ chosen_found t (present t) p.free (omega (arith, q.long, q.most)) (λ i l. sym (q.records i (omega (arith, l, q.long)))) (p.chosen e)
      ∙ ap (chosen_to t) q.long

-- The number of the block that the subject names.
named_is : (x : About) (d free : ℕ) (marks : List ℕ) (n : ℕ) → named_by x ≡ Some n → number_about x d free marks ≡ Some n
named_is (about.Block m) d free marks n e = e
named_is about.Domain d free marks n e = e
named_is (about.Listed which) d free marks n e = e
named_is (about.Placement p) d free marks n e = absurd (none-some n e)
named_is about.Chosen d free marks n e = absurd (none-some n e)

-- ---- All together

-- A number that stands for a block is that block's.
found_number : (f : Maybe ℕ) (n : ℕ) → found_in (found_there f) ≡ some n → f ≡ Some n
found_number None n e = absurd (none_some n e)
found_number (Some f) n e = by_test (ltb f 256)
    (λ l. ap (λ (i : ℕ). Some i) (some_same f n (sym (rw l) ∙ e)))
    (λ l. absurd (none_some n (sym (rw l) ∙ e)))

-- The chosen block is one of the drive's.
chosen_inside : (t : Table) (n : ℕ) → chosen_block t ≡ some n → n < size t
chosen_inside t n e = (subst (Choice t (size t)) e (choice t (size t))).inside

module _ {t : Table} {s : Subject} {ms : List ℕ} {r : Summary} (all : length t.blocks ≡ 256)
    (p : SummaryGathered t.config s (present t) t.domains no_marks ms r) where
  -- A block that is looked for, with its record.
  found_as : SubjectOf t s → (o : Option ℕ) → (r.sound ≡ true → found_in (found_there (block_about s p.free.number ms)) ≡ o)
      → ((n : ℕ) → o ≡ some n → n < size t) → SeesFound t o r
  found_as a o is inside = record {
    same_found = λ y. ap (λ (x : Summary). found_in x.found) p.made ∙ is y;
    found_block = λ y n e. block_there a all p y n (found_number (block_about s p.free.number ms) n (is y ∙ e)) (inside n e);
  }

  pub summary_as : Summarizes t s r
  summary_as = record {
    sees = λ a. sees_table a all p;
    names = λ a n e. record { same_block = λ y l. block_there a all p y n (named_is s.about s.domain p.free.number ms n e) l };
    places = λ a n e. found_as a (open_block t s.domain n) (open_is a all p n e) (λ i. open_inside t s.domain n (size t) i);
    chooses = λ a e. found_as a (chosen_block t) (chosen_is a all p e) (chosen_inside t);
  }
