-- A no among the first questions; or each arm is the contract of the command's function, with what is seen of the table.
use mathlib.Core.Path.{◌≡◌, refl, sym, ap, subst, ◌∙◌}
use lib.ListN.{length}
use Rattle.manager.proofs.Seeing.{SeenFor, complete_answer, erased_chosen, erased_named, left, seen_for, sees_own, sees_read, some_seen}
use Rattle.manager.specs.Answering.{Dispatched, Summarized, SummaryOf}
use Rattle.manager.specs.Subjects.{subject_of}
use Rattle.model.specs.declared.command.Command.{Command}
use Rattle.model.specs.declared.table.Table.{Table}
use Rattle.scan.proofs.Outcomes.{first_outcome}
use Rattle.scan.specs.First.{FirstPassed}
use Rattle.tables.specs.Verdicts.{verdict_number}
use Rattle.manager.proofs.answering.dispatch.Goals as goal

pub first_verdict-requires : goal.first_verdict-requires
first_verdict-requires c =
    let one : (k : Command) → c.args.command ≡ k → (t : Table) × SeenFor t (subject_of t.config k) c.args.marks.now.row c.args.summary =
    λ k told. let z = c in
    some_seen k z.args.marks.now.row z.args.summary (subst (λ (asked : Command). Summarized z.args.summary asked z.args.marks.now.row) told z.requires) in
    let a = c.args in let o = one a.command refl in
    (o.0, sees_own o.0 a.command a.marks.now.row a.summary o.1)

pub create-requires : goal.create-requires
unfolding subject_of
create-requires c =
    let one : (k : Command) → c.args.command ≡ k → (t : Table) × SeenFor t (subject_of t.config k) c.args.marks.now.row c.args.summary =
    λ k told. let z = c in
    some_seen k z.args.marks.now.row z.args.summary (subst (λ (asked : Command). Summarized z.args.summary asked z.args.marks.now.row) told z.requires) in
    let begun : (k : Command) → c.args.command ≡ k → FirstPassed k (length c.args.store.now) c.args.summary =
    λ k told. let a = c.args in
    subst (λ (asked : Command). FirstPassed asked (length a.store.now) a.summary) told
    (λ t s. sym (c.first_verdict.ensures t s) ∙ ap verdict_number c.in-Ok.is) in
    let told = c.in-Create.is in let o = one _ told in let b = begun _ told in ((o.0, o.1.sees), b)

pub change_capacity-requires : goal.change_capacity-requires
unfolding subject_of
change_capacity-requires c =
    let one : (k : Command) → c.args.command ≡ k → (t : Table) × SeenFor t (subject_of t.config k) c.args.marks.now.row c.args.summary =
    λ k told. let z = c in
    some_seen k z.args.marks.now.row z.args.summary (subst (λ (asked : Command). Summarized z.args.summary asked z.args.marks.now.row) told z.requires) in
    let begun : (k : Command) → c.args.command ≡ k → FirstPassed k (length c.args.store.now) c.args.summary =
    λ k told. let a = c.args in
    subst (λ (asked : Command). FirstPassed asked (length a.store.now) a.summary) told
    (λ t s. sym (c.first_verdict.ensures t s) ∙ ap verdict_number c.in-Ok.is) in
    let told = c.in-ChangeCapacity.is in let o = one _ told in let b = begun _ told in ((o.0, o.1.sees), b)

pub erase-requires : goal.erase-requires
unfolding subject_of
erase-requires c =
    let one : (k : Command) → c.args.command ≡ k → (t : Table) × SeenFor t (subject_of t.config k) c.args.marks.now.row c.args.summary =
    λ k told. let z = c in
    some_seen k z.args.marks.now.row z.args.summary (subst (λ (asked : Command). Summarized z.args.summary asked z.args.marks.now.row) told z.requires) in
    let begun : (k : Command) → c.args.command ≡ k → FirstPassed k (length c.args.store.now) c.args.summary =
    λ k told. let a = c.args in
    subst (λ (asked : Command). FirstPassed asked (length a.store.now) a.summary) told
    (λ t s. sym (c.first_verdict.ensures t s) ∙ ap verdict_number c.in-Ok.is) in
    let told = c.in-Erase.is in let o = one _ told in let b = begun _ told in record { sees = (o.0, o.1.sees, erased_named o.0 _ _ _ _ o.1, erased_chosen o.0 _ _ _ _ o.1); first_passed = b }

pub close-requires : goal.close-requires
unfolding subject_of
close-requires c =
    let one : (k : Command) → c.args.command ≡ k → (t : Table) × SeenFor t (subject_of t.config k) c.args.marks.now.row c.args.summary =
    λ k told. let z = c in
    some_seen k z.args.marks.now.row z.args.summary (subst (λ (asked : Command). Summarized z.args.summary asked z.args.marks.now.row) told z.requires) in
    let begun : (k : Command) → c.args.command ≡ k → FirstPassed k (length c.args.store.now) c.args.summary =
    λ k told. let a = c.args in
    subst (λ (asked : Command). FirstPassed asked (length a.store.now) a.summary) told
    (λ t s. sym (c.first_verdict.ensures t s) ∙ ap verdict_number c.in-Ok.is) in
    let told = c.in-Close.is in let o = one _ told in ((o.0, o.1.sees), begun _ told)

pub free-requires : goal.free-requires
unfolding subject_of
free-requires c =
    let one : (k : Command) → c.args.command ≡ k → (t : Table) × SeenFor t (subject_of t.config k) c.args.marks.now.row c.args.summary =
    λ k told. let z = c in
    some_seen k z.args.marks.now.row z.args.summary (subst (λ (asked : Command). Summarized z.args.summary asked z.args.marks.now.row) told z.requires) in
    let begun : (k : Command) → c.args.command ≡ k → FirstPassed k (length c.args.store.now) c.args.summary =
    λ k told. let a = c.args in
    subst (λ (asked : Command). FirstPassed asked (length a.store.now) a.summary) told
    (λ t s. sym (c.first_verdict.ensures t s) ∙ ap verdict_number c.in-Ok.is) in
    let told = c.in-Free.is in let o = one _ told in ((o.0, o.1.sees), begun _ told)

pub write_by_placement-requires : goal.write_by_placement-requires
unfolding subject_of
write_by_placement-requires c =
    let one : (k : Command) → c.args.command ≡ k → (t : Table) × SeenFor t (subject_of t.config k) c.args.marks.now.row c.args.summary =
    λ k told. let z = c in
    some_seen k z.args.marks.now.row z.args.summary (subst (λ (asked : Command). Summarized z.args.summary asked z.args.marks.now.row) told z.requires) in
    let begun : (k : Command) → c.args.command ≡ k → FirstPassed k (length c.args.store.now) c.args.summary =
    λ k told. let a = c.args in
    subst (λ (asked : Command). FirstPassed asked (length a.store.now) a.summary) told
    (λ t s. sym (c.first_verdict.ensures t s) ∙ ap verdict_number c.in-Ok.is) in
    let told = c.in-WriteByPlacement.is in let o = one _ told in let b = begun _ told in record { sees = (o.0, o.1.sees, o.1.places _ refl); first_passed = b }

pub write_by_block-requires : goal.write_by_block-requires
unfolding subject_of
write_by_block-requires c =
    let one : (k : Command) → c.args.command ≡ k → (t : Table) × SeenFor t (subject_of t.config k) c.args.marks.now.row c.args.summary =
    λ k told. let z = c in
    some_seen k z.args.marks.now.row z.args.summary (subst (λ (asked : Command). Summarized z.args.summary asked z.args.marks.now.row) told z.requires) in
    let begun : (k : Command) → c.args.command ≡ k → FirstPassed k (length c.args.store.now) c.args.summary =
    λ k told. let a = c.args in
    subst (λ (asked : Command). FirstPassed asked (length a.store.now) a.summary) told
    (λ t s. sym (c.first_verdict.ensures t s) ∙ ap verdict_number c.in-Ok.is) in
    let told = c.in-WriteByBlock.is in let o = one _ told in let b = begun _ told in ((o.0, o.1.sees), b)

pub read-requires : goal.read-requires
unfolding subject_of
read-requires c =
    let one : (k : Command) → c.args.command ≡ k → (t : Table) × SeenFor t (subject_of t.config k) c.args.marks.now.row c.args.summary =
    λ k told. let z = c in
    some_seen k z.args.marks.now.row z.args.summary (subst (λ (asked : Command). Summarized z.args.summary asked z.args.marks.now.row) told z.requires) in
    let begun : (k : Command) → c.args.command ≡ k → FirstPassed k (length c.args.store.now) c.args.summary =
    λ k told. let a = c.args in
    subst (λ (asked : Command). FirstPassed asked (length a.store.now) a.summary) told
    (λ t s. sym (c.first_verdict.ensures t s) ∙ ap verdict_number c.in-Ok.is) in
    let told = c.in-Read.is in let o = one _ told in let b = begun _ told in ((o.0, o.1.sees), b)

pub page-requires : goal.page-requires
unfolding subject_of
page-requires c =
    let one : (k : Command) → c.args.command ≡ k → (t : Table) × SeenFor t (subject_of t.config k) c.args.marks.now.row c.args.summary =
    λ k told. let z = c in
    some_seen k z.args.marks.now.row z.args.summary (subst (λ (asked : Command). Summarized z.args.summary asked z.args.marks.now.row) told z.requires) in
    let begun : (k : Command) → c.args.command ≡ k → FirstPassed k (length c.args.store.now) c.args.summary =
    λ k told. let a = c.args in
    subst (λ (asked : Command). FirstPassed asked (length a.store.now) a.summary) told
    (λ t s. sym (c.first_verdict.ensures t s) ∙ ap verdict_number c.in-Ok.is) in
    let told = c.in-Page.is in let o = one _ told in let b = begun _ told in ((o.0, o.1.sees), b)

pub list-requires : goal.list-requires
unfolding subject_of
list-requires c =
    let one : (k : Command) → c.args.command ≡ k → (t : Table) × SeenFor t (subject_of t.config k) c.args.marks.now.row c.args.summary =
    λ k told. let z = c in
    some_seen k z.args.marks.now.row z.args.summary (subst (λ (asked : Command). Summarized z.args.summary asked z.args.marks.now.row) told z.requires) in
    let begun : (k : Command) → c.args.command ≡ k → FirstPassed k (length c.args.store.now) c.args.summary =
    λ k told. let a = c.args in
    subst (λ (asked : Command). FirstPassed asked (length a.store.now) a.summary) told
    (λ t s. sym (c.first_verdict.ensures t s) ∙ ap verdict_number c.in-Ok.is) in
    let told = c.in-List.is in let o = one _ told in let b = begun _ told in let z = c in
    record { sees = (o.0, o.1.sees, o.1.lists _ refl); first_passed = b }

pub returns-in-Err : goal.returns-in-Err
returns-in-Err c =
    let made : (k : Command) → c.args.command ≡ k → (t : Table) → SummaryOf t (subject_of t.config k) c.args.summary c.args.marks.now.row → SeenFor t (subject_of t.config k) c.args.marks.now.row c.args.summary =
    λ k told t p. let a = c.args in seen_for t k a.marks.now.row a.summary p in
    let a = c.args in let o = c.refusal.result in
    complete_answer a.summary a.command a.marks.now.row a.store.now a.words.now a.bytes.now o c.complete.result _ _ _ c.complete.ensures (λ t p.
    first_outcome t a.command o c.in-Err.reason a.store.now a.words.now a.bytes.now
    (sym (ap verdict_number c.in-Err.is) ∙ c.first_verdict.ensures t (sees_own t a.command a.marks.now.row a.summary (made a.command refl t p)))
    c.refusal.ensures)

pub returns-in-Create : goal.returns-in-Create
unfolding subject_of
returns-in-Create c =
    let made : (k : Command) → c.args.command ≡ k → (t : Table) → SummaryOf t (subject_of t.config k) c.args.summary c.args.marks.now.row → SeenFor t (subject_of t.config k) c.args.marks.now.row c.args.summary =
    λ k told t p. let a = c.args in seen_for t k a.marks.now.row a.summary p in
    let d = c in let z = d.args in let told = d.in-Create.is in
    rw told (complete_answer z.summary _ z.marks.now.row z.store.now z.words.now z.bytes.now _ c.completed.result _ _ _ c.completed.ensures (λ t p. let s = made _ told t p in d.create.ensures t z.store.now z.words.now z.bytes.now s.sees))

pub returns-in-ChangeCapacity : goal.returns-in-ChangeCapacity
unfolding subject_of
returns-in-ChangeCapacity c =
    let made : (k : Command) → c.args.command ≡ k → (t : Table) → SummaryOf t (subject_of t.config k) c.args.summary c.args.marks.now.row → SeenFor t (subject_of t.config k) c.args.marks.now.row c.args.summary =
    λ k told t p. let a = c.args in seen_for t k a.marks.now.row a.summary p in
    let d = c in let z = d.args in let told = d.in-ChangeCapacity.is in
    rw told (complete_answer z.summary _ z.marks.now.row z.store.now z.words.now z.bytes.now _ c.completed-in-ChangeCapacity.result _ _ _ c.completed-in-ChangeCapacity.ensures (λ t p. let s = made _ told t p in d.change_capacity.ensures t z.store.now z.words.now z.bytes.now s.sees))

pub returns-in-Delete : goal.returns-in-Delete
unfolding subject_of
returns-in-Delete c =
    let made : (k : Command) → c.args.command ≡ k → (t : Table) → SummaryOf t (subject_of t.config k) c.args.summary c.args.marks.now.row → SeenFor t (subject_of t.config k) c.args.marks.now.row c.args.summary =
    λ k told t p. let a = c.args in seen_for t k a.marks.now.row a.summary p in
    let begun : (k : Command) → c.args.command ≡ k → FirstPassed k (length c.args.store.now) c.args.summary =
    λ k told. let a = c.args in
    subst (λ (asked : Command). FirstPassed asked (length a.store.now) a.summary) told
    (λ t s. sym (c.first_verdict.ensures t s) ∙ ap verdict_number c.in-Ok.is) in
    let d = c in let z = d.args in let told = d.in-Delete.is in
    rw told (complete_answer z.summary _ z.marks.now.row z.store.now z.words.now z.bytes.now _ c.complete-in-Delete.result _ _ _ c.complete-in-Delete.ensures (λ t p. let s = made _ told t p in d.delete.ensures t z.store.now z.words.now z.bytes.now (begun _ told t s.sees)))

pub returns-in-Erase : goal.returns-in-Erase
unfolding subject_of
returns-in-Erase c =
    let made : (k : Command) → c.args.command ≡ k → (t : Table) → SummaryOf t (subject_of t.config k) c.args.summary c.args.marks.now.row → SeenFor t (subject_of t.config k) c.args.marks.now.row c.args.summary =
    λ k told t p. let a = c.args in seen_for t k a.marks.now.row a.summary p in
    let d = c in let z = d.args in let told = d.in-Erase.is in
    rw told (complete_answer z.summary _ z.marks.now.row z.store.now z.words.now z.bytes.now _ c.completed-in-Erase.result _ _ _ c.completed-in-Erase.ensures (λ t p. let s = made _ told t p in d.erase.ensures t z.words.now z.bytes.now s.sees (erased_named t _ _ _ _ s) (erased_chosen t _ _ _ _ s)))

pub returns-in-Close : goal.returns-in-Close
unfolding subject_of
returns-in-Close c =
    let made : (k : Command) → c.args.command ≡ k → (t : Table) → SummaryOf t (subject_of t.config k) c.args.summary c.args.marks.now.row → SeenFor t (subject_of t.config k) c.args.marks.now.row c.args.summary =
    λ k told t p. let a = c.args in seen_for t k a.marks.now.row a.summary p in
    let d = c in let z = d.args in let told = d.in-Close.is in
    rw told (complete_answer z.summary _ z.marks.now.row z.store.now z.words.now z.bytes.now _ c.completed-in-Close.result _ _ _ c.completed-in-Close.ensures (λ t p. let s = made _ told t p in d.close.ensures t z.store.now z.words.now z.bytes.now s.sees (s.names _ refl)))

pub returns-in-Free : goal.returns-in-Free
unfolding subject_of
returns-in-Free c =
    let made : (k : Command) → c.args.command ≡ k → (t : Table) → SummaryOf t (subject_of t.config k) c.args.summary c.args.marks.now.row → SeenFor t (subject_of t.config k) c.args.marks.now.row c.args.summary =
    λ k told t p. let a = c.args in seen_for t k a.marks.now.row a.summary p in
    let d = c in let z = d.args in let told = d.in-Free.is in
    rw told (complete_answer z.summary _ z.marks.now.row z.store.now z.words.now z.bytes.now _ c.completed-in-Free.result _ _ _ c.completed-in-Free.ensures (λ t p. let s = made _ told t p in d.free.ensures t z.store.now z.words.now z.bytes.now s.sees (s.names _ refl)))

pub returns-in-WriteByPlacement : goal.returns-in-WriteByPlacement
unfolding subject_of Dispatched
returns-in-WriteByPlacement c =
    let made : (k : Command) → c.args.command ≡ k → (t : Table) → SummaryOf t (subject_of t.config k) c.args.summary c.args.marks.now.row → SeenFor t (subject_of t.config k) c.args.marks.now.row c.args.summary =
    λ k told t p. let a = c.args in seen_for t k a.marks.now.row a.summary p in
    let told = c.in-WriteByPlacement.is in
    let z = c.args in
    let w = c.write_by_placement.ensures in
    rw (told, c.partial_from.ensures) (
      w.1,
      λ t p. let s = made _ told t p in w.2 t z.bytes.now s.sees (s.places _ refl),
    )

pub returns-in-WriteByBlock : goal.returns-in-WriteByBlock
unfolding subject_of
returns-in-WriteByBlock c =
    let made : (k : Command) → c.args.command ≡ k → (t : Table) → SummaryOf t (subject_of t.config k) c.args.summary c.args.marks.now.row → SeenFor t (subject_of t.config k) c.args.marks.now.row c.args.summary =
    λ k told t p. let a = c.args in seen_for t k a.marks.now.row a.summary p in
    let d = c in let z = d.args in let told = d.in-WriteByBlock.is in
    rw told (complete_answer z.summary _ z.marks.now.row z.store.now z.words.now z.bytes.now _ c.completed-in-WriteByBlock.result _ _ _ c.completed-in-WriteByBlock.ensures (λ t p. let s = made _ told t p in d.write_by_block.ensures t z.bytes.now s.sees (s.names _ refl)))

pub returns-in-Read : goal.returns-in-Read
unfolding subject_of
returns-in-Read c =
    let made : (k : Command) → c.args.command ≡ k → (t : Table) → SummaryOf t (subject_of t.config k) c.args.summary c.args.marks.now.row → SeenFor t (subject_of t.config k) c.args.marks.now.row c.args.summary =
    λ k told t p. let a = c.args in seen_for t k a.marks.now.row a.summary p in
    let d = c in let z = d.args in let told = d.in-Read.is in
    rw told (complete_answer z.summary _ z.marks.now.row z.store.now z.words.now z.bytes.now _ c.answered.result _ _ _ c.answered.ensures (λ t p. let s = made _ told t p in
    left t _ _ _ z.store.now z.words.now z.bytes.now _ _ _ refl
    (d.read.ensures t z.bytes.now s.sees (sees_read t _ _ z.summary s.sees (s.names _ refl)))))

pub returns-in-Page : goal.returns-in-Page
unfolding subject_of
returns-in-Page c =
    let made : (k : Command) → c.args.command ≡ k → (t : Table) → SummaryOf t (subject_of t.config k) c.args.summary c.args.marks.now.row → SeenFor t (subject_of t.config k) c.args.marks.now.row c.args.summary =
    λ k told t p. let a = c.args in seen_for t k a.marks.now.row a.summary p in
    let d = c in let z = d.args in let told = d.in-Page.is in
    rw told (complete_answer z.summary _ z.marks.now.row z.store.now z.words.now z.bytes.now _ c.answered-in-Page.result _ _ _ c.answered-in-Page.ensures (λ t p. let s = made _ told t p in
    left t _ _ _ z.store.now z.words.now z.bytes.now _ _ _ refl
    (d.page.ensures t z.store.now z.words.now s.sees (s.names _ refl))))

pub returns-in-List : goal.returns-in-List
unfolding subject_of
returns-in-List c =
    let made : (k : Command) → c.args.command ≡ k → (t : Table) → SummaryOf t (subject_of t.config k) c.args.summary c.args.marks.now.row → SeenFor t (subject_of t.config k) c.args.marks.now.row c.args.summary =
    λ k told t p. let a = c.args in seen_for t k a.marks.now.row a.summary p in
    let d = c in let z = d.args in let told = d.in-List.is in
    rw told (complete_answer z.summary _ z.marks.now.row z.store.now z.words.now z.bytes.now _ c.answered-in-List.result _ _ _ c.answered-in-List.ensures (λ t p. let s = made _ told t p in
    left t _ _ _ z.store.now z.words.now z.bytes.now _ _ _ refl
    (d.list.ensures t z.store.now z.words.now s.sees (s.lists _ refl))))

pub returns-in-Pulse : goal.returns-in-Pulse
unfolding subject_of
returns-in-Pulse c =
    let made : (k : Command) → c.args.command ≡ k → (t : Table) → SummaryOf t (subject_of t.config k) c.args.summary c.args.marks.now.row → SeenFor t (subject_of t.config k) c.args.marks.now.row c.args.summary =
    λ k told t p. let a = c.args in seen_for t k a.marks.now.row a.summary p in
    let begun : (k : Command) → c.args.command ≡ k → FirstPassed k (length c.args.store.now) c.args.summary =
    λ k told. let a = c.args in
    subst (λ (asked : Command). FirstPassed asked (length a.store.now) a.summary) told
    (λ t s. sym (c.first_verdict.ensures t s) ∙ ap verdict_number c.in-Ok.is) in
    let d = c in let z = d.args in let told = d.in-Pulse.is in
    rw told (complete_answer z.summary _ z.marks.now.row z.store.now z.words.now z.bytes.now _ c.completed-in-Pulse.result _ _ _ c.completed-in-Pulse.ensures (λ t p. let s = made _ told t p in d.pulse.ensures t z.store.now z.words.now z.bytes.now (begun _ told t s.sees)))
