-- What a command's answer is made of: what is seen of the table, and what is changed by it.
use Rattle.std.specs.Prelude.{ℕ, ◌-◌, cond, List, ◌≡◌, eqb, length}
use Rattle.manager.specs.Subjects.{subject_of}
use Rattle.model.specs.declared.command.Command.{Command}
use Rattle.model.specs.declared.command.Listed.{Listed}
use Rattle.model.specs.declared.table.Table.{Table}
use Rattle.placements.specs.Onwards.{Finishes, MayFinish}
use Rattle.placements.specs.declared.rest.Partial.{Partial}
use Rattle.scan.specs.Summary.{SeesList, Summarizes}
use Rattle.scan.specs.declared.scan.About.TheVariants as about
use Rattle.scan.specs.declared.scan.Subject.{Subject}
use Rattle.scan.specs.declared.summary.Summary.{Summary}
use Rattle.tables.specs.declared.change.Change.{Change}

-- The summary is of this table, for what the subject is about; and the marks tell what it lists.
pub record SummaryOf (t : Table) (s : Subject) (x : Summary) (marks : List ℕ) : Type 0 where
  pub summarizes : Summarizes t s x
  pub lists : (which : Listed) → s.about ≡ about.Listed which → SeesList t s.domain which x marks

-- Some table is summarized so for the command.
unfoldable pub Summarized : Summary → Command → List ℕ → Type 0
Summarized x command marks = (t : Table) × SummaryOf t (subject_of t.config command) x marks

-- What is left may be written; and once it is, the command is served, whatever table it was.
unfoldable pub Dispatched : Summary → Command → List ℕ → List ℕ → List ℕ → List ℕ → Partial → List ℕ → List ℕ → List ℕ → Type 0
Dispatched x command marks store words bytes r store' words' bytes' =
    MayFinish x.config (length store') (length words') r
    × ((t : Table) → SummaryOf t (subject_of t.config command) x marks → Finishes t command store words bytes r store' words' bytes')

-- Where a change's domain has its record; 16 is no domain's place.
abbrev pub changed_place : Change → ℕ
changed_place c = cond (eqb c.domain 0) 16 (c.domain - 1)
