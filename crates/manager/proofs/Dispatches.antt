-- What `serve_in` is made of: the table is summarized, the command answered, its change put into the records, and what is
-- left written.
use Rattle.std.proofs.Common.{◌≡◌, ℕ, ◌-◌, Bool, true, false, cond, eqb, List, length, set, take, refl, sym, arith}
use Rattle.std.proofs.Math.Seq.{set_out}
use Rattle.manager.specs.Answering.{Dispatched, Summarized, SummaryOf, changed_place}
use Rattle.manager.specs.Subjects.{subject_of}
use Rattle.manager.proofs.Seeing.{seen_for}
use Rattle.model.specs.declared.block.Block.{Block}
use Rattle.model.specs.declared.command.Command.{Command}
use Rattle.model.specs.declared.table.Domain.{Domain}
use Rattle.model.specs.declared.table.Table.{Table}
use Rattle.placements.specs.Onwards.{MayGoOn, WroteOnwards}
use Rattle.placements.specs.declared.rest.Partial.{Partial}
use Rattle.scan.specs.declared.summary.Summary.{Summary}
use Rattle.tables.specs.Changing.{changed_blocks, present_blocks, table_with, with_owner}
use Rattle.tables.specs.declared.change.Change.{Change}
use Rattle.tables.specs.Serving.{ServesCommand, answering, served}

-- The table is summarized for the command, ..
pub summarized : (t : Table) (k : Command) (v : Summary) (zs : List ℕ) → SummaryOf t (subject_of t.config k) v zs → Summarized v k zs
unfolding Summarized
summarized t k v zs seen = (t, seen)

-- .. and the command is served in the table.
pub serves : (t : Table) (k : Command) (v : Summary) (zs ss ws ys : List ℕ) (r : Partial) (ss' ws' ys' : List ℕ) (bs : List Block) (w : Domain) (ss'' ws'' : List ℕ)
    → SummaryOf t (subject_of t.config k) v zs → length t.domains ≡ 16 → Dispatched v k zs ss ws ys r ss' ws' ys'
    → WroteOnwards t.config r.outcome.change.domain r.rest (changed_blocks r.outcome.change (take (present_blocks t.config) t.blocks)) r.outcome.change.owner
    ss' ws' bs w ss'' ws''
    → ServesCommand t k ss ws ys (served (answering (table_with bs r.outcome.change.domain w t) r.outcome.answer) ss'' ws'' ys')
unfolding Dispatched
serves t k v zs ss ws ys r ss' ws' ys' bs w ss'' ws'' seen sixteen said went =
    said.1 t seen (table_with bs r.outcome.change.domain w t) ss'' ws'' (went.1 t refl sixteen)

-- What is left may be written.
pub may_go_on : (t : Table) (k : Command) (v : Summary) (zs ss ws ys : List ℕ) (r : Partial) (ss' ws' ys' : List ℕ) → SummaryOf t (subject_of t.config k) v zs
    → Dispatched v k zs ss ws ys r ss' ws' ys' → ¬ (r.rest.count.0 ≡ 0)
    → MayGoOn t.config (length ss') (length ws') r.outcome.change.domain r.outcome.change.owner r.rest
unfolding Dispatched
may_go_on t k v zs ss ws ys r ss' ws' ys' seen said = rw (sym (seen_for t k zs v seen).sees.same_config) said.0.1

-- The changed domain's record goes to its place, and to none where no domain is changed.
at_place : (none : Bool) (ds : List Domain) (n : ℕ) (r : Domain) → length ds ≡ 16 → set ds (cond none 16 n) r ≡ cond none ds (set ds n r)
at_place true ds n r all = set_out ds 16 r (omega (arith, all))
at_place false ds n r all = refl

pub new_record : (c : Change) (new : Domain) (ds : List Domain) → length ds ≡ 16 → set ds (changed_place c) new ≡ with_owner c.domain new ds
unfolding with_owner
new_record c new ds all = at_place (eqb c.domain 0) ds (c.domain - 1) new all
