-- What Erase is asked, the block that it opens, that it may, and what it then hands back.
use Rattle.std.specs.Prelude as std
use Prim.Native.Nat.{ℕ, ◌+◌, ◌<◌, min}
use mathlib.Core.Bool.{true, false}
use mathlib.Core.List.{List, []}
use mathlib.Core.Option.{Option, none, some}
use mathlib.Core.Path.{◌≡◌, refl, sym, ap, subst, ◌∙◌}
use lib.Dec.{eqb}
use lib.ListN.{length}
use borrow.Author.Tests.{leb-true, ltb-true}
use Rattle.buffers.proofs.Stretches.{Stretch, stretch}
use Rattle.blocks.specs.Erasing.{block_questions, erase_questions, erased_of}
use Rattle.blocks.specs.Opening.{MayOpenFor}
use Rattle.geometry.proofs.Laws.Questions.{positive}
use Rattle.geometry.proofs.Laws.Shape.{by_test}
use Rattle.geometry.specs.Address.{is_block, is_domain_id}
use Rattle.geometry.specs.Questions.{first_no, success}
use Rattle.geometry.specs.Shape.{adus_per_block, counted, stretch_start}
use Rattle.geometry.specs.declared.shape.Adus.{Adus}
use Rattle.model.specs.Answers.{outcome_of}
use Rattle.model.specs.declared.answer.Answer.{Answer}
use Rattle.model.specs.declared.answer.Answer.TheVariants as given
use Rattle.model.specs.declared.block.Block.{Block}
use Rattle.model.specs.declared.block.Way.TheVariants as way
use Rattle.model.specs.declared.command.Command.TheVariants.{Erase}
use Rattle.model.specs.declared.table.Domain.{Domain}
use Rattle.model.specs.declared.table.Table.{Table}
use Rattle.rules.proofs.Blocks.{Choice, choice}
use Rattle.rules.proofs.Counting.{the_first}
use Rattle.rules.proofs.Drive.{overwritten_nothing}
use Rattle.rules.proofs.Questions.{yes_in}
use Rattle.rules.specs.Blocks.{any_block, chosen_block, erased_block, opened_for}
use Rattle.rules.specs.Calls.{calling, lending}
use Rattle.rules.specs.Drive.{Drive, block_at, domain_at, overwritten, size, with_block, with_domain}
use Rattle.rules.specs.Effects.{Effect, Serves, effect, erasing}
use Rattle.rules.specs.Questions.{is_erasable, later_questions}
use Rattle.scan.proofs.Outcomes.{begun_entries, begun_limits, begun_sound, begun_yes}
use Rattle.scan.proofs.Seeing.{changed_nothing, changed_opening, sound_limits}
use Rattle.scan.specs.First.{Begins, FirstPassed}
use Rattle.scan.specs.Summary.{Sees, SeesBlock, SeesChoice, found_in}
use Rattle.scan.specs.declared.summary.Summary.{Summary}
use Rattle.tables.proofs.Answering.{accepted_call, then_verdict}
use Rattle.tables.specs.Changing.{leaving, opening_change, outcome_served}
use Rattle.tables.specs.Serving.{ServesCommand, answering, drive, served}

-- ---- The questions

-- The record that is seen is asked for no block but one that is named, and for none of another drive: the range comes first.
pub erase_asked : (t : Table) (store : List ℕ) (entries words bytes d n : ℕ) (x : Summary) → Sees t d x → (eqb n any_block ≡ false → SeesBlock t n x)
    → x.sound ≡ true → is_domain_id d ≡ true
    → first_no (erase_questions t x d n) ≡ first_no (later_questions (Erase d n) (drive t store) (lending (Erase d n) entries words bytes))
unfolding first_no erase_questions block_questions
erase_asked t store entries words bytes d n x s b e id =
    rw (s.same_domain, s.same_config, s.opens e id) (by_test (eqb n any_block)
    (λ any. rw any)
    (λ other. by_test (is_block t.config n)
    (λ q. rw ((b other).same_block e (ltb-true n (size t) q)))
    (λ q. rw (q, other))))

-- ---- The block

-- What Erase is to open, with its record.
abbrev pub Opens : Table → ℕ → Block → std.Option ℕ → Type 0
Opens t n b std.None = erased_block t n ≡ none
Opens t n b (std.Some m) = (erased_block t n ≡ some m) × (block_at t m ≡ b)

chosen_opens : (t : Table) (n : ℕ) (b : Block) (f : std.Option ℕ) → eqb n any_block ≡ true → found_in f ≡ chosen_block t
    → ((m : ℕ) → chosen_block t ≡ some m → b ≡ block_at t m) → Opens t n b f
chosen_opens t n b std.None any same is = rw any (sym same)
chosen_opens t n b (std.Some m) any same is = (rw any (sym same), sym (is m (sym same)))

number_inside : (t : Table) (n : ℕ) → is_erasable t n ≡ true → eqb n any_block ≡ false → n < size t
number_inside t n range other = ltb-true n (size t) (the_first (is_block t.config n) (eqb n any_block) range other)

pub opens : (t : Table) (d n : ℕ) (x : Summary) → Sees t d x → (eqb n any_block ≡ false → SeesBlock t n x)
    → (eqb n any_block ≡ true → SeesChoice t x) → x.sound ≡ true → is_erasable t n ≡ true → Opens t n x.block (erased_of x n)
unfolding erased_of
opens t d n x s b f e range =
    by_test (eqb n any_block)
    (λ any. rw any (chosen_opens t n x.block x.found any ((f any).same_found e) ((f any).found_block e)))
    (λ other. rw other (rw other refl, sym ((b other).same_block e (number_inside t n range other))))

-- It is one of the drive.
abbrev number_in : Option ℕ → ℕ
number_in none = 0
number_in (some n) = n

pub opens_inside : (t : Table) (n m : ℕ) → is_erasable t n ≡ true → erased_block t n ≡ some m → m < size t
opens_inside t n m range e =
    by_test (eqb n any_block)
    (λ any. (subst (Choice t (size t)) (rw any at e) (choice t (size t))).inside)
    (λ other. subst (λ (k : ℕ). k < size t) (ap number_in (rw other at e)) (number_inside t n range other))

-- ---- What it may and does

-- The number of an accepted Erase is in range.
pub erase_range : (t : Table) (d n : ℕ) (x : Summary) → Sees t d x → first_no (erase_questions t x d n) ≡ 0 → is_erasable t n ≡ true
unfolding positive erase_questions block_questions
erase_range t d n x s pass = rw s.same_config at (yes_in 6 (erase_questions t x d n) refl pass)

-- Questions 4 and 12 of a sound table let it be opened.
pub may_open_lem : (t : Table) (entries d n : ℕ) (x : Summary) → Sees t d x → Begins t (Erase d n) entries
    → first_no (erase_questions t x d n) ≡ 0
    → MayOpenFor x.config x.domain d
unfolding positive erase_questions block_questions
may_open_lem t entries d n x s first pass =
    record {
      limits = rw s.same_config (sound_limits t (begun_yes 2 t (Erase d n) entries first));
      id = begun_yes 4 t (Erase d n) entries first;
      serial = rw s.same_domain (leb-true ((domain_at t d).last + 1) 4294967295 (yes_in 12 (erase_questions t x d n) refl pass));
    }

-- The stretch of the block that it opens is cut out of the store.
pub stretch_opened : (t : Table) (d n m : ℕ) (x : Summary) (store : List ℕ) (start capacity : Adus)
    → Sees t d x → (eqb n any_block ≡ false → SeesBlock t n x) → (eqb n any_block ≡ true → SeesChoice t x)
    → FirstPassed (Erase d n) (length store) x → first_no (erase_questions t x d n) ≡ 0
    → erased_of x n ≡ std.Some m
    → start.0 ≡ counted x.config (stretch_start x.config (min m x.config.blocks)).0
    → capacity.0 ≡ counted x.config (adus_per_block x.config).0
    → Stretch x.config store m start.0 capacity.0
stretch_opened t d n m x store start capacity s b f first pass is starts counts =
    let k = Erase d n in
    let range = erase_range t d n x s pass in
    let found = subst (Opens t n x.block) is (opens t d n x s b f (begun_sound k (length store) x (t, s) first) range) in
    stretch x.config store m start capacity (begun_limits k (length store) x (t, s) first)
    (rw s.same_config (opens_inside t n m range found.0))
    (begun_entries k (length store) x refl (t, s) first) starts counts

erasing_fills : (d : ℕ) (found : Option ℕ) (v : Drive) → (erasing d found v).words ≡ []
erasing_fills d none v = refl
erasing_fills d (some n) v = refl

erased_call : (v w : Drive) (words bytes : List ℕ) (d n : ℕ) (found : Option ℕ) (answer : Answer) → Begins v.table (Erase d n) (length v.store)
    → first_no (later_questions (Erase d n) v (calling (Erase d n) v.store words bytes)) ≡ 0
    → erased_block v.table n ≡ found → outcome_of answer ≡ success (erasing d found v).values → w ≡ (erasing d found v).drive
    → Serves v (calling (Erase d n) v.store words bytes) words bytes (served (answering w.table answer) w.store words bytes)
unfolding effect
erased_call v w words bytes d n found answer first pass f says leaves =
    let call = calling (Erase d n) v.store words bytes in
    let does : effect v call ≡ erasing d found v = ap (λ (o : Option ℕ). erasing d o v) f in
    accepted_call v call words bytes (served (answering w.table answer) w.store words bytes) []
    (then_verdict v call first ∙ pass)
    (says ∙ ap (λ (x : Effect). success x.values) (sym does))
    (leaves ∙ ap (λ (x : Effect). x.drive) (sym does))
    (sym (overwritten_nothing words) ∙ ap (λ (filled : List ℕ). overwritten 0 filled words) (sym (ap (λ (x : Effect). x.words) does ∙ erasing_fills d found v)))
    refl
    (sym (overwritten_nothing bytes))

-- An accepted Erase hands back the number of the block that it opens.
pub opened_outcome : (t : Table) (store left words bytes : List ℕ) (d n m : ℕ) (b : Block) (r : Domain) → Begins t (Erase d n) (length store) → m < size t
    → ¬ (d ≡ 0) → first_no (later_questions (Erase d n) (drive t store) (calling (Erase d n) store words bytes)) ≡ 0
    → erased_block t n ≡ some m → drive (with_domain d r (with_block m b t)) left ≡ opened_for d way.Erase m (drive t store)
    → ServesCommand t (Erase d n) store words bytes
    (served (outcome_served t (record { answer = given.Block m; change = opening_change m b d r })) left words bytes)
opened_outcome t store left words bytes d n m b r first l positive-id pass found is =
    rw (changed_opening t m b d r (sound_limits t (begun_yes 2 t (Erase d n) (length store) first)) l positive-id)
    (erased_call (drive t store) (drive (with_domain d r (with_block m b t)) left) words bytes d n (some m) (given.Block m) first pass found refl is)

-- Where none is found, the rules open none. (But the coverage rule leaves one, `erase_finds_free`.)
pub none_outcome : (t : Table) (store words bytes : List ℕ) (d n : ℕ) → Begins t (Erase d n) (length store)
    → first_no (later_questions (Erase d n) (drive t store) (calling (Erase d n) store words bytes)) ≡ 0 → erased_block t n ≡ none
    → ServesCommand t (Erase d n) store words bytes (served (outcome_served t (leaving given.Done)) store words bytes)
none_outcome t store words bytes d n first pass found =
    rw (changed_nothing t) (erased_call (drive t store) (drive t store) words bytes d n none given.Done first pass found refl refl)
