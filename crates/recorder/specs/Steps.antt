-- What the recorder's functions come to: the commands that are served, one after the other.
use Rattle.std.specs.Prelude.{ℕ, ◌≤◌, ◌<◌, true, false, ◌&&◌, cond, List, [], ◌≡◌, eqb, leb, length}
use Rattle.geometry.specs.Address.{is_domain_id}
use Rattle.geometry.specs.Questions.{answered, first_no}
use Rattle.geometry.specs.Shape.{store_length}
use Rattle.geometry.specs.declared.shape.Adus.{Adus}
use Rattle.model.specs.Answers.{outcome_of}
use Rattle.model.specs.declared.answer.Answer.{Answer}
use Rattle.model.specs.declared.answer.Answer.TheVariants.{Done, Refused}
use Rattle.model.specs.declared.answer.Refusal.TheVariants.{Extent, Output, Range}
use Rattle.model.specs.declared.command.Command.{Command}
use Rattle.model.specs.declared.table.Domain.{Domain}
use Rattle.model.specs.declared.table.Table.{Table}
use Rattle.rules.specs.Calls.{calling_for, latest}
use Rattle.rules.specs.Drive.{domain_at, overwritten}
use Rattle.rules.specs.Questions.{exists, is_count}
use Rattle.rules.specs.Recorder.{has_recorder_shape, last_of, latest_kept, latest_questions}
use Rattle.rules.specs.Soundness.{sound}
use Rattle.tables.specs.Serving.{ServesCommand, drive, served}
use Rattle.tables.specs.declared.served.Served.{Served}
use Rattle.recorder.specs.Samples.{freeing, is_out_of_range, is_over_quota, no_samples, sample_command}

-- A command that fills no bytes is served.
abbrev pub ServesWords : Table → Command → List ℕ → List ℕ → Served → List ℕ → List ℕ → Type 0
ServesWords t c store words r store' words' = ServesCommand t c store words [] (served r store' words' [])

-- The domain's oldest Closed block is freed, and the command served after that.
pub record Again (t : Table) (d : ℕ) (c : Command) (store words : List ℕ) (r : Served) (store' words' : List ℕ) : Type 0 where
  pub between : Served
  pub store₁ : List ℕ
  pub words₁ : List ℕ
  pub frees : ServesWords t (freeing t d) store words between store₁ words₁
  pub writes : ServesWords between.table c store₁ words₁ r store' words'

-- One sample more: written at once, or, where that would pass the quota, once the oldest block is freed.
pub data Appends (t : Table) (d sample : ℕ) (store words : List ℕ) (r : Served) (store' words' : List ℕ) : Type 0 where
  at_once : ServesWords t (sample_command (domain_at t d) d sample) store words r store' words' → is_over_quota r.answer ≡ false
      → Appends t d sample store words r store' words'
  again : (first : Served) (store₁ words₁ : List ℕ)
      → ServesWords t (sample_command (domain_at t d) d sample) store words first store₁ words₁ → is_over_quota first.answer ≡ true
      → Again first.table d (sample_command (domain_at t d) d sample) store₁ words₁ r store' words'
      → Appends t d sample store words r store' words'

-- A table and a store of which 2 to 5 are answered yes.
pub record Readable (t : Table) (d : ℕ) (store : List ℕ) : Type 0 where
  pub is_sound : sound t ≡ true
  pub whole : length store ≡ (store_length t.config).0
  pub id : is_domain_id d ≡ true
  pub there : exists t d ≡ true

-- 15, and the last of the samples that are kept.
pub record FillsLatest (samples : List ℕ) (count : Adus) (words : List ℕ) (r : Answer) (words' : List ℕ) : Type 0 where
  pub answers : r ≡ cond (leb count.0 (length samples)) Done (Refused Extent)
  pub fills : words' ≡ overwritten 0 (cond (leb count.0 (length samples)) (last_of count.0 samples) []) words

-- 6 and 7 before that, for a domain with this record.
pub data Gives (owner : Domain) (samples : List ℕ) (count : Adus) (words : List ℕ) (r : Answer) (words' : List ℕ) : Type 0 where
  out_of_range : has_recorder_shape owner && is_count count ≡ false → r ≡ Refused Range → words' ≡ words
      → Gives owner samples count words r words'
  no_room : has_recorder_shape owner && is_count count ≡ true → length words < count.0 → r ≡ Refused Output → words' ≡ words
      → Gives owner samples count words r words'
  asked : has_recorder_shape owner && is_count count ≡ true → count.0 ≤ length words → FillsLatest samples count words r words'
      → Gives owner samples count words r words'

-- The last samples of a domain are given, if 6, 7 and 15 are answered yes.
pub record Given (t : Table) (d : ℕ) (count : Adus) (store words : List ℕ) (r : Answer) (words' : List ℕ) : Type 0 where
  pub answers : let v = drive t store in
      let k = calling_for (latest d count) store words [] in
      outcome_of r ≡ answered (latest_questions d count v k) []
  pub fills : let v = drive t store in
      let k = calling_for (latest d count) store words [] in
      words' ≡ overwritten 0 (cond (eqb (first_no (latest_questions d count v k)) 0) (latest_kept d count v) []) words

-- The last samples, where the domain may be asked for them: a write of no samples is refused by its range and by nothing
-- before that.
pub data Latest (t : Table) (d : ℕ) (count : Adus) (store words : List ℕ) (r : Served) (store' words' : List ℕ) : Type 0 where
  refused : ServesWords t (no_samples d) store words r store' words' → is_out_of_range r.answer ≡ false
      → Latest t d count store words r store' words'
  given : (first : Served) (words₁ : List ℕ) → ServesWords t (no_samples d) store words first store' words₁
      → is_out_of_range first.answer ≡ true → Given first.table d count store' words₁ r.answer words'
      → r.table ≡ first.table → Latest t d count store words r store' words'
