-- What each command sees of the table that was summarized for it.
use Prim.Native.Nat.{ℕ, ◌<◌}
use mathlib.Core.Bool.{Bool, true, false, cond}
use mathlib.Core.List.{List}
use mathlib.Core.Path.{◌≡◌, refl, sym, ap, subst, ◌∙◌}
use lib.Dec.{eqb}
use lib.ListN.{length, length-replicate}
use Rattle.std.specs.Prelude.{Some}
use Rattle.geometry.specs.Address.{fields_of}
use Rattle.geometry.specs.Shape.{within_limits}
use Rattle.geometry.specs.declared.shape.Config.{Config}
use Rattle.manager.specs.Answering.{Dispatched, Summarized, SummaryOf}
use Rattle.manager.specs.Looking.{Looked, list_left}
use Rattle.manager.specs.Subjects.{subject_of, subject_with}
use Rattle.model.specs.declared.answer.Answer.{Answer}
use Rattle.model.specs.declared.command.Command.{Command}
use Rattle.model.specs.declared.command.Command.TheVariants.{ChangeCapacity, Close, Create, Delete, Erase, Free, List as Listing, Page, Pulse, Read}
use Rattle.model.specs.declared.command.Command.TheVariants.{WriteByBlock, WriteByPlacement}
use Rattle.model.specs.declared.command.Listed.{Listed}
use Rattle.model.specs.declared.table.Table.{Table}
use Rattle.rules.specs.Blocks.{any_block}
use Rattle.rules.specs.Calls.{domain_of, profile}
use Rattle.rules.specs.Drive.{block_at, size}
use Rattle.scan.proofs.Listings.{sees_list}
use Rattle.scan.proofs.Outcomes.{left_as_is}
use Rattle.scan.proofs.Passing.{walked_long}
use Rattle.scan.proofs.Seeing.{sound_limits}
use Rattle.scan.proofs.Summaries.{summary_as}
use Rattle.placements.proofs.Accepted.{complete_finishes, complete_may}
use Rattle.placements.specs.Onwards.{complete_of}
use Rattle.placements.specs.declared.rest.Partial.{Partial}
use Rattle.scan.specs.Marks.{mark_count, no_marks}
use Rattle.scan.specs.Summary.{Sees, SeesBlock, SeesChoice, SeesList, SeesPlacement, SubjectOf, named_by, present}
use Rattle.scan.specs.declared.scan.About.{About}
use Rattle.scan.specs.declared.scan.About.TheVariants as about
use Rattle.scan.specs.declared.scan.Subject.{Subject}
use Rattle.scan.specs.declared.summary.Summary.{Summary}
use Rattle.tables.specs.Changing.{leaving, outcome_served}
use Rattle.tables.specs.Serving.{ServesCommand, answering, served}
use Rattle.tables.specs.declared.change.Outcome.{Outcome}
use Rattle.tables.specs.declared.served.Served.{Served}

-- ---- The subject

with_config : (t : Table) (d : ℕ) (x : About) → SubjectOf t (subject_with t.config d x)
with_config t d x = record { same_period = refl; same_capacity = λ e. rw e; same_rated = refl }

-- The subject of every command has its numbers from the configuration.
right_subject : (t : Table) (k : Command) → SubjectOf t (subject_of t.config k)
unfolding subject_of
right_subject t (Create d guarantee quota placements limit) = with_config t d about.Domain
right_subject t (ChangeCapacity d guarantee quota) = with_config t d about.Domain
right_subject t (Delete d) = with_config t d about.Domain
right_subject t (Erase d n) = with_config t d (cond (eqb n any_block) about.Chosen (about.Block n))
right_subject t (Close d n) = with_config t d (about.Block n)
right_subject t (Free d n) = with_config t d (about.Block n)
right_subject t (WriteByPlacement d p start count) = with_config t d (about.Placement p)
right_subject t (WriteByBlock d n start count) = with_config t d (about.Block n)
right_subject t (Read d address count expected) = with_config t d (about.Block (cond (within_limits t.config) (fields_of t.config address).block 0))
right_subject t (Page d n) = with_config t d (about.Block n)
right_subject t (Listing d which) = with_config t d (about.Listed which)
right_subject t (Pulse seconds) = with_config t 0 about.Domain

-- ---- What is seen

-- A table that was looked at so is summarized so.
pub looked_summary : (t : Table) (k : Command) (x : Summary) (marks : List ℕ) → length t.blocks ≡ 256
    → Looked t.config (subject_of t.config k) (present t) t.domains no_marks x marks → SummaryOf t (subject_of t.config k) x marks
looked_summary t k x marks all looked =
    let s = subject_of t.config k in
    let a = right_subject t k in
    let sums = summary_as {t = t} all looked.gathered in
    record {
      summarizes = sums;
      lists = λ which e. sees_list t s which x marks a (sums.sees a) all (
        looked.marks,
        walked_long s t.domains (present t) 0 (present t) looked.gathered.ok no_marks looked.marks looked.gathered.walked
            ∙ length-replicate {A = ℕ} mark_count 0,
        looked.listed ∙ ap (λ (x : About). list_left x s (present t) looked.marks) e,
      );
    }

-- What is seen of a table, with a subject that is right for it.
pub record SeenFor (t : Table) (s : Subject) (marks : List ℕ) (r : Summary) : Type 0 where
  pub sees : Sees t s.domain r
  pub names : (n : ℕ) → named_by s.about ≡ Some n → SeesBlock t n r
  pub places : (p : ℕ) → s.about ≡ about.Placement p → SeesPlacement t s.domain p r
  pub chooses : s.about ≡ about.Chosen → SeesChoice t r
  pub lists : (which : Listed) → s.about ≡ about.Listed which → SeesList t s.domain which r marks

pub seen_for : (t : Table) (k : Command) (marks : List ℕ) (r : Summary) → SummaryOf t (subject_of t.config k) r marks → SeenFor t (subject_of t.config k) marks r
seen_for t k marks r p =
    let a = right_subject t k in
    record {
      sees = p.summarizes.sees a;
      names = p.summarizes.names a;
      places = p.summarizes.places a;
      chooses = p.summarizes.chooses a;
      lists = p.lists;
    }

-- The subject's domain is the one that the command names.
own_subject : (c : Config) (k : Command) → (subject_of c k).domain ≡ domain_of (profile k).own
unfolding subject_of
own_subject c (Create d guarantee quota placements limit) = refl
own_subject c (ChangeCapacity d guarantee quota) = refl
own_subject c (Delete d) = refl
own_subject c (Erase d n) = refl
own_subject c (Close d n) = refl
own_subject c (Free d n) = refl
own_subject c (WriteByPlacement d p start count) = refl
own_subject c (WriteByBlock d n start count) = refl
own_subject c (Read d address count expected) = refl
own_subject c (Page d n) = refl
own_subject c (Listing d which) = refl
own_subject c (Pulse seconds) = refl

pub sees_own : (t : Table) (k : Command) (marks : List ℕ) (r : Summary) → SeenFor t (subject_of t.config k) marks r → Sees t (domain_of (profile k).own) r
sees_own t k marks r s = subst (λ (d : ℕ). Sees t d r) (own_subject t.config k) s.sees

-- There is such a table.
pub some_seen : (k : Command) (marks : List ℕ) (r : Summary) → Summarized r k marks → (t : Table) × SeenFor t (subject_of t.config k) marks r
unfolding Summarized
some_seen k marks r is = (is.0, seen_for is.0 k marks r is.1)

-- An Erase is about the block that it names, or the one that is chosen where it leaves that to the drive.
pub erased_named : (t : Table) (d n : ℕ) (marks : List ℕ) (r : Summary) → SeenFor t (subject_of t.config (Erase d n)) marks r
    → eqb n any_block ≡ false → SeesBlock t n r
unfolding subject_of
erased_named t d n marks r s e = s.names n (ap (λ (any : Bool). named_by (cond any about.Chosen (about.Block n))) e)

pub erased_chosen : (t : Table) (d n : ℕ) (marks : List ℕ) (r : Summary) → SeenFor t (subject_of t.config (Erase d n)) marks r
    → eqb n any_block ≡ true → SeesChoice t r
unfolding subject_of
erased_chosen t d n marks r s e = s.chooses (ap (λ (any : Bool). cond any about.Chosen (about.Block n)) e)

-- A Read names the block of its address, which is in the limits of a sound table.
pub sees_read : (t : Table) (d address : ℕ) (r : Summary) → Sees t d r → SeesBlock t (cond (within_limits t.config) (fields_of t.config address).block 0) r
    → SeesBlock t (fields_of t.config address).block r
sees_read t d address r s b = record {
  same_block = λ y l.
      let n = (fields_of t.config address).block in
      let e : cond (within_limits t.config) n 0 ≡ n = ap (λ (inside : Bool). cond inside n 0) (sound_limits t (sym s.tested ∙ y)) in
      subst (λ (i : ℕ). r.block ≡ block_at t i) e (b.same_block y (subst (λ (i : ℕ). i < size t) (sym e) l));
}

-- An answer that changes nothing, as an outcome.
pub left : (t : Table) (k : Command) (answer : Answer) (o : Outcome) (store words bytes store' words' bytes' : List ℕ) → o ≡ leaving answer
    → ServesCommand t k store words bytes (served (answering t answer) store' words' bytes')
    → ServesCommand t k store words bytes (served (outcome_served t o) store' words' bytes')
left t k answer o store words bytes store' words' bytes' is s =
    subst (λ (z : Served). ServesCommand t k store words bytes (served z store' words' bytes'))
    (sym (ap (outcome_served t) is ∙ left_as_is t answer)) s

-- A command whose outcome leaves nothing to write.
pub complete_answer : (x : Summary) (k : Command) (marks store words bytes : List ℕ) (o : Outcome) (r : Partial) (store' words' bytes' : List ℕ) → r ≡ complete_of o
    → ((t : Table) → SummaryOf t (subject_of t.config k) x marks → ServesCommand t k store words bytes (served (outcome_served t o) store' words' bytes'))
    → Dispatched x k marks store words bytes r store' words' bytes'
unfolding Dispatched
complete_answer x k marks store words bytes o r store' words' bytes' is serves =
    rw is (
      complete_may x.config (length store') (length words') o,
      λ t p. complete_finishes t k store words bytes o store' words' bytes' (serves t p),
    )
