-- What is asked of a block that a domain names.
use Prim.Native.Nat.{ℕ, ◌<◌}
use mathlib.Core.Bool.{true}
use mathlib.Core.List.{List, [], ◌∷◌}
use mathlib.Core.Path.{◌≡◌, refl, sym, ap, ◌∙◌}
use lib.ListN.{length}
use borrow.Author.Tests.{ltb-true}
use Rattle.geometry.proofs.Laws.Questions.{positive}
use Rattle.geometry.proofs.Laws.Shape.{by_test}
use Rattle.geometry.specs.Address.{is_block}
use Rattle.geometry.specs.Questions.{ask, first_no}
use Rattle.model.specs.declared.answer.Answer.TheVariants as given
use Rattle.model.specs.declared.block.Block.{Block}
use Rattle.model.specs.declared.command.Command.{Command}
use Rattle.model.specs.declared.table.Table.{Table}
use Rattle.rules.proofs.Questions.{yes_in}
use Rattle.rules.specs.Calls.{calling, profile}
use Rattle.rules.specs.Drive.{block_at, held_by, size, with_block}
use Rattle.rules.specs.Effects.{changing, due_bytes, effect}
use Rattle.rules.specs.Questions.{held_block_questions, later_questions}
use Rattle.scan.proofs.Outcomes.{change_outcome}
use Rattle.scan.proofs.Seeing.{changed_block, sound_limits}
use Rattle.scan.specs.First.{Begins}
use Rattle.scan.specs.Summary.{Sees, SeesBlock}
use Rattle.scan.specs.declared.summary.Summary.{Summary}
use Rattle.tables.specs.Changing.{block_change, outcome_served}
use Rattle.tables.specs.Serving.{ServesCommand, drive, served}

-- The record that is seen is asked for no block of another drive: the range comes first.
pub named_asked : (t : Table) (d n : ℕ) (x : Summary) → Sees t d x → SeesBlock t n x → x.sound ≡ true
    → first_no (ask 6 (is_block x.config n) ∷ ask 9 (held_by d x.block) ∷ [])
    ≡ first_no (held_block_questions t d n)
unfolding first_no
named_asked t d n x s b e = rw s.same_config (by_test (is_block t.config n)
    (λ q. rw (b.same_block e (ltb-true n (size t) q)))
    (λ q. rw q))

-- Where all is answered yes the block is one of the drive's.
pub named_inside : (t : Table) (d n : ℕ) → first_no (held_block_questions t d n) ≡ 0 → n < size t
unfolding positive
named_inside t d n e = ltb-true n (size t) (yes_in 6 (held_block_questions t d n) refl e)

-- The block gets its new record, and its number is handed back: what Close and Free do.
pub named_done : (t : Table) (k : Command) (d n : ℕ) (x : Summary) (becomes : Block → Block) (store words bytes : List ℕ)
    → Sees t d x → SeesBlock t n x → x.sound ≡ true → Begins t k (length store)
    → first_no (ask 6 (is_block x.config n) ∷ ask 9 (held_by d x.block) ∷ []) ≡ 0
    → later_questions k (drive t store) (calling k store words bytes) ≡ held_block_questions t d n
    → effect (drive t store) (calling k store words bytes) ≡ changing (n ∷ []) (with_block n (becomes (block_at t n)) t) (drive t store)
    → [] ≡ due_bytes t (profile k).bytes
    → ServesCommand t k store words bytes (served (outcome_served t (record { answer = given.Block n; change = block_change n (becomes x.block) })) store words bytes)
named_done t k d n x becomes store words bytes s b e first pass asks does bytes_are =
    let held = sym (named_asked t d n x s b e) ∙ pass in
    let l = named_inside t d n held in
    rw (b.same_block e l)
    (change_outcome t k (given.Block n) (block_change n (becomes (block_at t n))) (with_block n (becomes (block_at t n)) t) (n ∷ []) store words bytes first
    (ap first_no asks ∙ held)
    (changed_block t n (becomes (block_at t n)) (sound_limits t (sym s.tested ∙ e)) l) does refl bytes_are)
