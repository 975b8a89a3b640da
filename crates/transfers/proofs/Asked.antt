-- What is asked of what is seen of a table comes to what the rules ask of the table.
use Prim.Native.Nat.{ℕ, ◌+◌, ◌<◌}
use mathlib.Core.Bool.{true, ◌&&◌}
use mathlib.Core.List.{List, ◌++◌}
use mathlib.Core.Path.{◌≡◌, sym, ◌∙◌}
use native.Mathlib.Omega.{arith}
use lib.Dec.{leb}
use borrow.Author.Tests.{le-leb, leb-true, ltb-true}
use Rattle.geometry.proofs.Laws.Shape.{by_test}
use Rattle.geometry.specs.Address.{fields_of, is_block}
use Rattle.geometry.specs.Questions.{first_no}
use Rattle.geometry.specs.Shape.{adus_per_block}
use Rattle.geometry.specs.declared.shape.Adus.{Adus}
use Rattle.model.specs.declared.command.Command.TheVariants.{Read, WriteByBlock}
use Rattle.model.specs.declared.table.Table.{Table}
use Rattle.rules.proofs.Kept.Facts.{written_most}
use Rattle.rules.proofs.Kept.Tested.{facts_of}
use Rattle.rules.proofs.Questions.{before}
use Rattle.rules.specs.Calls.{lending}
use Rattle.rules.specs.Drive.{block_at, size}
use Rattle.rules.specs.Questions.{later_questions}
use Rattle.rules.specs.Soundness.{sound}
use Rattle.scan.specs.Summary.{Sees, SeesBlock}
use Rattle.scan.specs.declared.summary.Summary.{Summary}
use Rattle.tables.specs.Serving.{drive}
use Rattle.transfers.specs.Transfers.{read_arguments, read_state, write_arguments, write_state}

-- The record that is seen is that of a block of the drive; of another number the range is asked first.
pub write_asked : (t : Table) (store : List ℕ) (entries words bytes d n start : ℕ) (count : Adus) (x : Summary)
    → Sees t d x → SeesBlock t n x → x.sound ≡ true
    → first_no (write_arguments x words n count ++ write_state x d start count)
    ≡ first_no (later_questions (WriteByBlock d n start count) (drive t store) (lending (WriteByBlock d n start count) entries words bytes))
unfolding first_no write_arguments write_state
write_asked t store entries words bytes d n start count x s b e =
    rw s.same_config (by_test (is_block t.config n)
    (λ q. rw (b.same_block e (ltb-true n (size t) q)))
    (λ q. rw q))

-- What ends within the ADUs that a block of a sound table has written ends within the block.
ends_inside : (t : Table) (store : List ℕ) (n end : ℕ) → sound t ≡ true → n < size t
    → leb end (block_at t n).written.0 && leb end (adus_per_block t.config).0 ≡ leb end (block_at t n).written.0
ends_inside t store n end whole l =
    let most = written_most t (block_at t n).state (block_at t n) ((facts_of (drive t store) whole).blocks n l) in
    by_test (leb end (block_at t n).written.0)
    (λ q. rw (q, le-leb end (adus_per_block t.config).0 (omega (arith, most, leb-true end (block_at t n).written.0 q))))
    (λ q. rw q)

pub read_asked : (t : Table) (store : List ℕ) (entries words bytes d address : ℕ) (count : Adus) (expected : ℕ) (x : Summary)
    → Sees t d x → SeesBlock t (fields_of t.config address).block x → x.sound ≡ true
    → first_no (read_arguments x words (fields_of t.config address) count ++ read_state x d (fields_of t.config address) count expected)
    ≡ first_no (before 16 (later_questions (Read d address count expected) (drive t store) (lending (Read d address count expected) entries words bytes)))
unfolding first_no read_arguments read_state
read_asked t store entries words bytes d address count expected x s b e =
    let a = fields_of t.config address in
    rw s.same_config (by_test (is_block t.config a.block)
    (λ q. let l = ltb-true a.block (size t) q in
    rw (b.same_block e l, ends_inside t store a.block (a.offset.0 + count.0) (sym s.tested ∙ e) l))
    (λ q. rw q))
