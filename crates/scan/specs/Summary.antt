-- What a command sees of a table.
use Rattle.std.specs.Prelude.{ℕ, ◌+◌, ◌-◌, ◌<◌, max, Bool, true, false, ◌&&◌, cond, List, [], ◌≡◌, eqb, leb, ltb, get_or, length, take}
use Rattle.std.specs.Prelude as std
use Rattle.std.proofs.Math.Option.{Option, none, some}
use Rattle.geometry.specs.Address.{is_domain_id}
use Rattle.geometry.specs.Shape.{adus_per_block, within_limits}
use Rattle.geometry.specs.declared.shape.Config.{Config}
use Rattle.scan.specs.Clauses.{covered_to, domains_sound, place_for}
use Rattle.scan.specs.Marks.{mark, mark_count}
use Rattle.scan.specs.Free.{Chosen, no_candidate}
use Rattle.scan.specs.Listing.{byte_told, index_told, listed_from, number_told}
use Rattle.scan.specs.Scan.{Walked}
use Rattle.scan.specs.declared.free.Candidate.{Candidate}
use Rattle.scan.specs.declared.scan.About.{About}
use Rattle.scan.specs.declared.scan.About.TheVariants as about
use Rattle.scan.specs.declared.scan.Subject.{Subject}
use Rattle.scan.specs.declared.summary.Covering.{Covering}
use Rattle.scan.specs.declared.summary.Summary.{Summary}
use Rattle.model.specs.declared.block.Block.{Block}
use Rattle.model.specs.declared.command.Listed.{Listed}
use Rattle.model.specs.declared.table.Domain.{Domain}
use Rattle.model.specs.declared.table.Table.{Table}
use Rattle.rules.specs.Blocks.{chosen_block}
use Rattle.rules.specs.Domains.{coverage, reserved_by}
use Rattle.rules.specs.Drive.{block_at, clear_block, clear_domain, domain_at, held_count, open_block, open_count, size}
use Rattle.rules.specs.LogPages.{list_mark, listed_blocks, wear_index}
use Rattle.rules.specs.Soundness.{domain_sound, sound}
use Rattle.tables.specs.Changing.{present_blocks}

-- A block's number; 256 and above is none.
abbrev pub found_of : ℕ → std.Option ℕ
found_of n = cond (ltb n 256) (std.Some n) std.None

abbrev pub found_there : std.Option ℕ → std.Option ℕ
found_there std.None = std.None
found_there (std.Some n) = found_of n

abbrev pub found_in : std.Option ℕ → Option ℕ
found_in std.None = none
found_in (std.Some n) = some n

-- Of a table and the domain d: whether it is sound; and where it is, the domain's counts and the coverage.
pub record Sees (t : Table) (d : ℕ) (x : Summary) : Type 0 where
  pub tested : x.sound ≡ sound t
  pub same_config : x.config ≡ t.config
  pub same_domain : x.domain ≡ domain_at t d
  pub holds : x.sound ≡ true → is_domain_id d ≡ true → x.held ≡ held_count t d
  pub opens : x.sound ≡ true → is_domain_id d ≡ true → x.opened ≡ open_count t d
  pub covers : x.sound ≡ true → x.coverage ≡ coverage (reserved_by t) (held_count t)

-- The record of block n, where it is one of the drive.
pub record SeesBlock (t : Table) (n : ℕ) (x : Summary) : Type 0 where
  pub same_block : x.sound ≡ true → n < size t → x.block ≡ block_at t n

-- The block that is looked for, if there is one, and its record.
pub record SeesFound (t : Table) (o : Option ℕ) (x : Summary) : Type 0 where
  pub same_found : x.sound ≡ true → found_in x.found ≡ o
  pub found_block : x.sound ≡ true → (n : ℕ) → o ≡ some n → x.block ≡ block_at t n

-- It is the one that a placement has open, or the Free one that is opened next.
abbrev pub SeesPlacement : Table → ℕ → ℕ → Summary → Type 0
SeesPlacement t d p x = SeesFound t (open_block t d p) x

abbrev pub SeesChoice : Table → Summary → Type 0
SeesChoice t x = SeesFound t (chosen_block t) x

-- Some table is seen so.
abbrev pub Seen : ℕ → Summary → Type 0
Seen d x = (t : Table) × Sees t d x

-- What the marks tell of block n at place i.
pub record ToldAt (t : Table) (which : Listed) (n : ℕ) (marks : List ℕ) (i : ℕ) : Type 0 where
  pub number : number_told marks i ≡ n
  pub byte : byte_told marks i ≡ list_mark which (block_at t n)
  pub index : index_told marks i ≡ wear_index t.config.rated (block_at t n).erases

-- What the marks tell of the listed blocks, in their order: each block's number, the byte of its descriptor and its P/E index.
pub record SeesList (t : Table) (d : ℕ) (which : Listed) (x : Summary) (marks : List ℕ) : Type 0 where
  pub told : x.sound ≡ true → is_domain_id d ≡ true → (i : ℕ) → i < length (listed_blocks t d which) → ToldAt t which (get_or (listed_blocks t d which) i 0) marks i

-- ---- From the scans

-- The subject has what the scan needs of the table's configuration.
pub record SubjectOf (t : Table) (s : Subject) : Type 0 where
  pub same_period : s.period ≡ t.config.period
  pub same_capacity : within_limits t.config ≡ true → s.capacity ≡ adus_per_block t.config
  pub same_rated : s.rated ≡ t.config.rated

-- What the scan of the domains has found before the first, with one domain more, and after n of them.
abbrev pub begun_covering : Covering
begun_covering = record { sound = true; coverage = 0 }

abbrev pub covering_with : Covering → ℕ → Domain → ℕ → List ℕ → Covering
covering_with c n r blocks marks = record {
  sound = c.sound && domain_sound blocks (mark marks n) (mark marks (16 + n)) r;
  coverage = c.coverage + max r.reserved (mark marks n);
}

pub record DomainsScanned (rs : List Domain) (blocks : ℕ) (marks : List ℕ) (n : ℕ) (r : Covering) : Type 0 where
  pub clauses : r.sound ≡ domains_sound rs blocks (mark marks) (λ i. mark marks (16 + i)) n
  pub sum_is : r.coverage ≡ covered_to rs (mark marks) n

-- The records of the drive's blocks.
abbrev pub present : Table → List Block
present t = take (present_blocks t.config) t.blocks

-- A domain's entry among the marks, 0 for what is no domain's ID; and the open block of its placement, if it has one.
abbrev pub count_of : List ℕ → ℕ → ℕ → ℕ
count_of marks from d = cond (is_domain_id d) (mark marks (from + (d - 1))) 0

abbrev pub open_at : List ℕ → ℕ → ℕ → std.Option ℕ
open_at marks d p =
    let last = mark marks (32 + place_for d p) in
    cond (is_domain_id d && ltb p 16) (cond (eqb last 0) std.None (std.Some (last - 1))) std.None

-- The block that a subject names; block 0 where it is about a domain alone or a list.
abbrev pub named_by : About → std.Option ℕ
named_by (about.Block n) = std.Some n
named_by about.Domain = std.Some 0
named_by (about.Listed which) = std.Some 0
named_by (about.Placement p) = std.None
named_by about.Chosen = std.None

-- The number of the block that the subject is about, with this one chosen, if there is one.
abbrev pub number_about : About → ℕ → ℕ → List ℕ → std.Option ℕ
number_about (about.Placement p) d chosen marks = open_at marks d p
number_about about.Chosen d chosen marks = std.Some chosen
number_about (about.Block n) d chosen marks = std.Some n
number_about about.Domain d chosen marks = std.Some 0
number_about (about.Listed which) d chosen marks = std.Some 0

abbrev pub block_about : Subject → ℕ → List ℕ → std.Option ℕ
block_about s chosen marks = number_about s.about s.domain chosen marks

-- Its record among these; a clear one where there is none.
abbrev pub record_of : List Block → std.Option ℕ → Block
record_of bs std.None = clear_block
record_of bs (std.Some n) = get_or bs n clear_block

-- The summary of what the scans found, the number of that block, the records of the domain and of the block, and what
-- the marks have counted for the subject's domain.
abbrev pub summary_of : Config → Subject → Bool → Covering → std.Option ℕ → Domain → Block → List ℕ → Summary
summary_of c s ok covering number domain block marks = record {
  sound = within_limits c && ok && covering.sound && leb covering.coverage c.blocks;
  config = c;
  domain = domain;
  held = count_of marks 0 s.domain;
  opened = count_of marks 16 s.domain;
  coverage = covering.coverage;
  found = found_there number;
  block = block;
}

-- The summary was made of these blocks and domains, with marks that were so before and so behind the scans; a Free block
-- was looked for among all of them, if the subject is about it.
pub record SummaryGathered (c : Config) (s : Subject) (bs : List Block) (rs : List Domain) (before marks : List ℕ) (r : Summary) : Type 0 where
  pub ok : Bool
  pub covering : Covering
  pub free : Candidate
  pub walked : Walked s rs bs 0 bs ok before marks
  pub covered : DomainsScanned rs c.blocks marks 16 covering
  pub chosen : s.about ≡ about.Chosen → Chosen 0 bs no_candidate free
  pub made : let number = block_about s free.number marks in
      r ≡ summary_of c s ok covering number (get_or rs (s.domain - 1) clear_domain) (record_of bs number) marks

-- What is seen, of a subject that has its numbers from the table's configuration: the table and the subject's domain, and where the
-- table is sound, the block that the subject is about.
pub record Summarizes (t : Table) (s : Subject) (r : Summary) : Type 0 where
  pub sees : SubjectOf t s → Sees t s.domain r
  pub names : SubjectOf t s → (n : ℕ) → named_by s.about ≡ std.Some n → SeesBlock t n r
  pub places : SubjectOf t s → (p : ℕ) → s.about ≡ about.Placement p → SeesPlacement t s.domain p r
  pub chooses : SubjectOf t s → s.about ≡ about.Chosen → SeesChoice t r

-- The marks of a list, from any before it.
abbrev pub ListGathered : Table → Subject → Listed → List ℕ → Type 0
ListGathered t s which marks = (before : List ℕ) × (length before ≡ mark_count) × (marks ≡ listed_from s which 0 (present t) before)
