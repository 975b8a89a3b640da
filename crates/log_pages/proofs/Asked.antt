-- What Page and List are asked, of what is seen of a table.
use Prim.Native.Nat.{ℕ, ◌<◌, ◌≤◌}
use mathlib.Core.Bool.{true}
use mathlib.Core.List.{List, [], ◌∷◌}
use mathlib.Core.Path.{◌≡◌, refl, sym, ap}
use lib.Dec.{leb}
use borrow.Author.Tests.{leb-true, ltb-true}
use Rattle.geometry.proofs.Laws.Questions.{positive}
use Rattle.geometry.proofs.Laws.Shape.{by_test}
use Rattle.geometry.specs.Address.{is_block, is_domain_id}
use Rattle.geometry.specs.Questions.{ask, first_no}
use Rattle.log_pages.proofs.Holdings.{length_seen_lem}
use Rattle.log_pages.specs.LogPages.{length_seen, page_questions}
use Rattle.model.specs.declared.command.Command.TheVariants.{List as Listing, Page}
use Rattle.model.specs.declared.command.Listed.{Listed}
use Rattle.model.specs.declared.table.Table.{Table}
use Rattle.rules.proofs.Questions.{yes_in}
use Rattle.rules.specs.Calls.{lending}
use Rattle.rules.specs.Drive.{size}
use Rattle.rules.specs.Questions.{later_questions}
use Rattle.scan.specs.Summary.{Sees, SeesBlock}
use Rattle.scan.specs.declared.summary.Summary.{Summary}
use Rattle.tables.specs.Serving.{drive}

-- ---- Page

-- The record that is seen is asked for no block of another drive: the range comes first.
pub page_asked : (t : Table) (d n room : ℕ) (x : Summary) (store : List ℕ) (entries words : ℕ) → Sees t d x → SeesBlock t n x
    → x.sound ≡ true
    → first_no (page_questions x d n room) ≡ first_no (later_questions (Page d n) (drive t store) (lending (Page d n) entries words room))
unfolding first_no
page_asked t d n room x store entries words s b e =
    rw s.same_config
    (by_test (is_block t.config n) (λ q. rw (b.same_block e (ltb-true n (size t) q))) (λ q. rw q))

-- Where all is answered yes the block is one of the drive's, ..
pub page_inside : (x : Summary) (d n room : ℕ) → first_no (page_questions x d n room) ≡ 0 → n < x.config.blocks
unfolding positive
page_inside x d n room e = ltb-true n x.config.blocks (yes_in 6 (page_questions x d n room) refl e)

-- .. and there is room for the page.
pub page_room : (x : Summary) (d n room : ℕ) → first_no (page_questions x d n room) ≡ 0 → 256 ≤ room
unfolding positive
page_room x d n room e = leb-true 256 room (yes_in 7 (page_questions x d n room) refl e)

-- ---- List

-- The bytes alone are asked for.
pub list_asked : (t : Table) (d : ℕ) (which : Listed) (x : Summary) (store : List ℕ) (entries words room : ℕ) → Sees t d x → x.sound ≡ true
    → is_domain_id d ≡ true
    → first_no (later_questions (Listing d which) (drive t store) (lending (Listing d which) entries words room)) ≡ first_no (ask 7 (leb (length_seen x which) room) ∷ [])
list_asked t d which x store entries words room s e id =
    ap (λ (n : ℕ). first_no (ask 7 (leb n room) ∷ [])) (sym (length_seen_lem t d which x s e id))
