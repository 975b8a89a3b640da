-- Too little room, or the list filled in.
use mathlib.Core.Bool.{false, true}
use mathlib.Core.Path.{refl, sym, ap, ◌∙◌, ◌≡◌}
use lib.Dec.{leb}
use lib.ListN.{length}
use borrow.Author.Tests.{le-leb, lt-leb}
use Rattle.geometry.specs.Address.{is_domain_id}
use Rattle.geometry.specs.Questions.{first_no}
use Rattle.log_pages.proofs.Asked.{list_asked}
use Rattle.log_pages.proofs.Holdings.{count_seen_lem, few_open}
use Rattle.log_pages.proofs.Listing.{told_listed}
use Rattle.log_pages.specs.LogPages.{length_seen, told_bytes}
use Rattle.model.specs.declared.answer.Refusal.TheVariants.{Output}
use Rattle.model.specs.declared.command.Command.TheVariants.{List as Listing}
use Rattle.rules.proofs.Drive.{overwritten_nothing}
use Rattle.rules.specs.Calls.{calling}
use Rattle.rules.specs.Effects.{effect}
use Rattle.rules.specs.LogPages.{list, listed_blocks}
use Rattle.scan.proofs.Outcomes.{begun_sound, begun_yes}
use Rattle.scan.proofs.Seeing.{held_seen}
use Rattle.tables.proofs.Answering.{accepted_call, then_refused, then_verdict}
use Rattle.tables.specs.Serving.{drive}
use Rattle.log_pages.proofs.lists.list.Goals as goal

pub listed_count-count-requires : goal.listed_count-count-requires
listed_count-count-requires c =
    let whole : c.args.summary.sound ≡ true =
    begun_sound (Listing c.args.domain c.args.listed) 0 c.args.summary (c.requires.sees.0, c.requires.sees.1) c.requires.first_passed in
    let known-id : is_domain_id c.args.domain ≡ true =
    begun_yes 4 c.requires.sees.0 (Listing c.args.domain c.args.listed) 0 (c.requires.first_passed c.requires.sees.0 c.requires.sees.1) in
    let z = c in let a = z.args in
    let t = z.requires.sees.0 in
    let s = z.requires.sees.1 in
    (few_open t a.domain a.summary s whole known-id, held_seen t a.domain a.summary s whole known-id)

pub returns-then-bytes-count : goal.returns-then-bytes-count
unfolding first_no
returns-then-bytes-count c =
    let whole : c.args.summary.sound ≡ true =
    begun_sound (Listing c.args.domain c.args.listed) 0 c.args.summary (c.requires.sees.0, c.requires.sees.1) c.requires.first_passed in
    let known-id : is_domain_id c.args.domain ≡ true =
    begun_yes 4 c.requires.sees.0 (Listing c.args.domain c.args.listed) 0 (c.requires.first_passed c.requires.sees.0 c.requires.sees.1) in
    let z = c in let a = z.args in λ t store words s l.
    let room = length a.bytes.now in
    let short : leb (length_seen a.summary a.listed) room ≡ false =
    lt-leb (length_seen a.summary a.listed) room (rw (← c.listed_count-count.ensures.0) c.if-bytes-count.true) in
    then_refused (drive t store) (calling (Listing a.domain a.listed) store words a.bytes.now) words a.bytes.now Output (z.requires.first_passed t s)
    (sym (list_asked t a.domain a.listed a.summary store (length store) (length words) room s whole known-id ∙ rw short))

pub returns : goal.returns
unfolding effect first_no
returns c =
    let whole : c.args.summary.sound ≡ true =
    begun_sound (Listing c.args.domain c.args.listed) 0 c.args.summary (c.requires.sees.0, c.requires.sees.1) c.requires.first_passed in
    let known-id : is_domain_id c.args.domain ≡ true =
    begun_yes 4 c.requires.sees.0 (Listing c.args.domain c.args.listed) 0 (c.requires.first_passed c.requires.sees.0 c.requires.sees.1) in
    let z = c in let a = z.args in λ t store words s l.
    let v = drive t store in
    let call = calling (Listing a.domain a.listed) store words a.bytes.now in
    let room = length a.bytes.now in
    let count = c.listed_count-count in
    let fits : leb (length_seen a.summary a.listed) room ≡ true =
    le-leb (length_seen a.summary a.listed) room (rw (← count.ensures.0) c.if-bytes-count.false) in
    let many : count.result ≡ length (listed_blocks t a.domain a.listed) =
    count.ensures.0 ∙ count_seen_lem t a.domain a.listed a.summary s whole known-id in
    let same : told_bytes a.marks.now.row count.result ≡ list t a.domain a.listed =
    ap (told_bytes a.marks.now.row) many ∙ told_listed t a.domain a.listed a.marks.now.row (l.told whole known-id) in
    accepted_call v call words a.bytes.now _ (list t a.domain a.listed)
    (then_verdict v call (z.requires.first_passed t s)
    ∙ list_asked t a.domain a.listed a.summary store (length store) (length words) room s whole known-id
    ∙ rw fits)
    refl refl (sym (overwritten_nothing words)) refl (c.put_list.ensures ∙ rw same)
