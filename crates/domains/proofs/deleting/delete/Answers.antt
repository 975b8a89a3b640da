-- The domain is deleted, with its blocks.
use mathlib.Core.Bool.{true}
use mathlib.Core.List.{[]}
use mathlib.Core.Path.{◌≡◌, refl}
use native.Mathlib.Omega.{arith}
use lib.ListN.{length}
use Rattle.geometry.proofs.Laws.Shape.{is_between}
use Rattle.geometry.specs.Address.{is_domain_id}
use Rattle.geometry.specs.Questions.{first_no}
use Rattle.model.specs.declared.answer.Answer.TheVariants.{Done}
use Rattle.model.specs.declared.command.Command.TheVariants.{Delete}
use Rattle.rules.specs.Effects.{effect}
use Rattle.scan.proofs.Outcomes.{begun_yes, change_outcome}
use Rattle.scan.proofs.Seeing.{changed_deletion, sound_limits}
use Rattle.tables.specs.Changing.{deletion_of}
use Rattle.domains.proofs.deleting.delete.Goals as goal

pub returns : goal.returns
unfolding effect first_no
returns c = let d = c.args.domain in λ t store words bytes first.
    let id : is_domain_id d ≡ true = begun_yes 4 t (Delete d) (length store) first in
    let known : ¬ (d ≡ 0) = λ none. omega (arith, (is_between 1 16 d id).least, none) in
    rw c.deletion.ensures
    (change_outcome t (Delete d) Done (deletion_of d) _ [] store words bytes first refl
    (changed_deletion t d (sound_limits t (begun_yes 2 t (Delete d) (length store) first)) known) refl refl refl)
