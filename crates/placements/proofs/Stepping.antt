-- A write by placement goes block by block: into the open one, and then into one after the other that is chosen.
use Prim.Native.Nat.{ℕ, suc, ◌+◌, ◌-◌, ◌/◌, ◌≤◌, ◌<◌, min}
use mathlib.Core.Bool.{true}
use mathlib.Core.List.{List, ◌++◌}
use mathlib.Core.Option.{Option, none, some}
use mathlib.Core.Path.{◌≡◌, refl, sym, ap, ◌∙◌}
use native.Mathlib.Nat.{add-div_right, div-eq_of_lt}
use native.Mathlib.Numerals.{add-one}
use native.Mathlib.Omega.{arith}
use lib.Dec.{eqb, leb, ltb}
use lib.ListN.{drop, length, take}
use borrow.Author.Tests.{eq-eqb, leb-false, leb-true, ne_eqb}
use Rattle.geometry.proofs.Laws.Shape.{by_test, limits}
use Rattle.geometry.specs.Address.{is_domain_id}
use Rattle.geometry.specs.Shape.{adus_per_block, store_length, within_limits}
use Rattle.geometry.specs.declared.shape.Config.{Config}
use Rattle.model.specs.declared.block.Way.TheVariants.{Placement}
use Rattle.model.specs.declared.table.Domain.{Domain}
use Rattle.model.specs.declared.table.Table.{Table}
use Rattle.rules.proofs.Counting.{by_eq, length_row}
use Rattle.rules.proofs.Writes.{none_written, onwards_zero}
use Rattle.rules.specs.Blocks.{Written, chosen_block, new_blocks, opened_for, room_in, user_address, user_addresses, written_by_placement, written_first, written_into, written_onwards}
use Rattle.rules.specs.Counting.{all_to}
use Rattle.rules.specs.Drive.{Drive, open_block, overwritten}
use Rattle.rules.specs.Questions.{user_addresses_fit}
use Rattle.placements.proofs.Users.{later_fit, users_left, users_taken}
use Rattle.placements.proofs.Words.{overwritten_none, overwritten_two}
use Rattle.placements.specs.Onwards.{GoesOn, MayGoOn, WentOn, blocks_in, nothing_left, nothing_written, onwards, rest_after, rest_after_new, rest_from, rest_written}
use Rattle.placements.specs.declared.rest.Rest.{Rest}

-- ---- The blocks that so many ADUs fill or begin

-- One more than for what the first c ADUs leave.
one_more : (c count : ℕ) → 0 < c → 1 ≤ count → (count + (c - 1)) / c ≡ suc ((count - min count c + (c - 1)) / c)
one_more c count l k =
    by_test (leb count c)
    (λ e.
    let most = leb-true count c e in
    let first : count + (c - 1) ≡ (count - 1) + c = omega arith in
    let rest : count - min count c + (c - 1) ≡ c - 1 = omega arith in
    rw (first, add-div_right (count - 1) l, rest, div-eq_of_lt {n = count - 1} {m = c} (omega arith), div-eq_of_lt {n = c - 1} {m = c} (omega arith)))
    (λ e.
    let more = leb-false count c e in
    let first : count + (c - 1) ≡ (count - min count c + (c - 1)) + c = omega arith in
    rw (first, add-div_right (count - min count c + (c - 1)) l, add-one))

-- A block has ADUs.
pub some_adus : (c : Config) → within_limits c ≡ true → 0 < (adus_per_block c).0
some_adus c e = omega (arith, (limits c e).adus.least)

-- None for nothing, ..
pub blocks_none : (c : Config) → 0 < (adus_per_block c).0 → blocks_in c 0 ≡ 0
unfolding blocks_in
blocks_none c l = let k = (adus_per_block c).0 in div-eq_of_lt {n = 0 + (k - 1)} {m = k} (omega arith)

-- .. and for some one more than for what the first does not take.
pub blocks_more : (c : Config) (count : ℕ) → 0 < (adus_per_block c).0 → 1 ≤ count
    → blocks_in c count ≡ suc (blocks_in c (count - min count (adus_per_block c).0))
unfolding blocks_in
blocks_more c count l k = one_more (adus_per_block c).0 count l k

-- A serial more leaves enough for what is left.
pub more_serials : (c : Config) → within_limits c ≡ true → (last count new : ℕ) → ¬ (count ≡ 0) → new ≡ last + 1
    → new + blocks_in c (count - (adus_per_block c).0) ≤ last + blocks_in c count
more_serials c e last count new ne is =
    let left : count - (adus_per_block c).0 ≡ count - min count (adus_per_block c).0 = omega arith in
    rw left (omega (arith, is, blocks_more c count (some_adus c e) (omega (arith, ne))))

-- ---- One step, and the rest

-- A write, and then another of the user addresses that follow.
abbrev pub and_then : Written → Written → Written
and_then first rest = record { drive = rest.drive; addresses = first.addresses ++ rest.addresses }

-- Nothing is left, ..
pub onwards_none : (d p start : ℕ) (v : Drive) → 0 < (adus_per_block v.table.config).0 → onwards d p start 0 v ≡ nothing_written v
onwards_none d p start v l =
    ap (λ (k : ℕ). written_onwards d p k (user_addresses start 0) v) (blocks_none v.table.config l)
    ∙ onwards_zero v.table.config d p (user_addresses start 0) v

-- .. or no block is Free, ..
pub onwards_no_block : (d p start count : ℕ) (v : Drive) → chosen_block v.table ≡ none → onwards d p start count v ≡ nothing_written v
onwards_no_block d p start count v e = none_written v.table.config d p (blocks_in v.table.config count) (user_addresses start count) v e

-- .. or a block is opened and takes what it can.
onwards_more : (d p more n : ℕ) (users : List ℕ) (v : Drive) → chosen_block v.table ≡ some n
    → let per_block = (adus_per_block v.table.config).0 in
    let first = written_into d n (take per_block users) (opened_for d (Placement p) n v) in
    written_onwards d p (suc more) users v ≡ and_then first (written_onwards d p more (drop per_block users) first.drive)
unfolding written_onwards
onwards_more d p more n users v e = rw e

-- What the block that is chosen takes, once it is opened.
abbrev pub into_next : ℕ → ℕ → ℕ → ℕ → ℕ → Drive → Written
into_next d p n start count v = written_into d n (user_addresses start (min count (adus_per_block v.table.config).0)) (opened_for d (Placement p) n v)

-- Neither opening nor writing changes the configuration.
pub next_config : (d p n start count : ℕ) (v : Drive) → (into_next d p n start count v).drive.table.config ≡ v.table.config
unfolding written_into opened_for
next_config d p n start count v = refl

-- So it is that block, and the rest goes on.
onwards_next : (d p n start count : ℕ) (v : Drive) → 0 < (adus_per_block v.table.config).0 → user_addresses_fit start count ≡ true
    → chosen_block v.table ≡ some n → ¬ (count ≡ 0)
    → let put = min count (adus_per_block v.table.config).0 in
    let first = into_next d p n start count v in
    onwards d p start count v ≡ and_then first (onwards d p (user_address start put) (count - put) first.drive)
onwards_next d p n start count v l fit e ne =
    let c = v.table.config in
    let k = (adus_per_block c).0 in
    let put = min count k in
    let users = user_addresses start count in
    let more = blocks_in c (count - put) in
    let fresh = opened_for d (Placement p) n v in
    let step = into_next d p n start count v in
    let both : List ℕ → List ℕ → Written = λ these those.
    and_then (written_into d n these fresh) (written_onwards d p more those (written_into d n these fresh).drive) in
    let same : blocks_in step.drive.table.config (count - put) ≡ more =
    ap (λ (x : Config). blocks_in x (count - put)) (next_config d p n start count v) in
    ap (λ (j : ℕ). written_onwards d p j users v) (blocks_more c count l (omega (arith, ne)))
    ∙ onwards_more d p more n users v e
    ∙ ap (λ (these : List ℕ). both these (drop k users)) (users_taken start count k)
    ∙ ap (λ (those : List ℕ). both (user_addresses start put) those) (users_left start count k fit)
    ∙ ap (λ (j : ℕ). and_then step (written_onwards d p j (user_addresses (user_address start put) (count - put)) step.drive)) (sym same)

-- ---- What is left

-- It is written as the rules go on, also where nothing is left, ..
pub rest_onwards : (d : ℕ) (r : Rest) (v : Drive) → 0 < (adus_per_block v.table.config).0
    → rest_written d r v ≡ onwards d r.placement r.start r.count.0 v
rest_onwards d r v l = by_eq r.count.0 0
    (λ z. rw (eq-eqb r.count.0 0 z)
    (sym (ap (λ (k : ℕ). onwards d r.placement r.start k v) z ∙ onwards_none d r.placement r.start v l)))
    (λ ne. rw (ne_eqb r.count.0 0 ne))

-- .. and nothing is written where no block is Free.
pub rest_none : (d : ℕ) (r : Rest) (v : Drive) → chosen_block v.table ≡ none → rest_written d r v ≡ nothing_written v
rest_none d r v e = by_test (eqb r.count.0 0)
    (λ z. rw z)
    (λ z. rw z (onwards_no_block d r.placement r.start r.count.0 v e))

-- Nothing left is nothing written.
pub rest_zero : (d : ℕ) (r : Rest) (v : Drive) → r.count.0 ≡ 0 → rest_written d r v ≡ nothing_written v
rest_zero d r v e = rw (eq-eqb r.count.0 0 e)

-- Whoever writes nothing leaves the drive and the words as they are.
pub went_nowhere : (d : ℕ) (r : Rest) (v : Drive) (words : List ℕ) → r.count.0 ≡ 0 → WentOn d r v words v words
went_nowhere d r v words e =
    let nothing = rest_zero d r v e in
    record {
      leaves = ap (λ (x : Written). x.drive) (sym nothing);
      fills = sym (overwritten_none r.done words) ∙ ap (λ (x : Written). overwritten r.done x.addresses words) (sym nothing);
    }

-- Whoever writes what is left after a block writes the ADUs from there on.
pub after_from : (d room : ℕ) (r : Rest) (v : Drive) (words : List ℕ) (u : Drive) (last : List ℕ)
    → WentOn d (rest_after r room) v words u last → WentOn d (rest_from r (min r.count.0 room)) v words u last
after_from d room r v words u last = by_test (leb r.count.0 room)
    (λ e. rw e (λ went.
    let most = leb-true r.count.0 room e in
    let same_words : last ≡ words = went.fills ∙ overwritten_none 0 words in
    rw (went.leaves, same_words) (went_nowhere d (rest_from r (min r.count.0 room)) v words (omega (arith, most)))))
    (λ e. rw e (λ went.
    let more = leb-false r.count.0 room e in
    let is : min r.count.0 room ≡ room = omega (arith, more) in
    rw is went))

-- The next block, and then what is left.
pub goes_on_lem : (d n : ℕ) (r : Rest) (v : Drive) (words : List ℕ)
    → 0 < (adus_per_block v.table.config).0 → user_addresses_fit r.start r.count.0 ≡ true → r.done ≤ length words
    → chosen_block v.table ≡ some n → ¬ (r.count.0 ≡ 0)
    → let put = min r.count.0 (adus_per_block v.table.config).0 in
    let first = into_next d r.placement n r.start r.count.0 v in
    length first.addresses ≡ put
    → GoesOn d r v words (rest_after r (adus_per_block v.table.config).0) first.drive (overwritten r.done first.addresses words)
goes_on_lem d n r v words l fit inside e ne long w last went-after =
    let put = min r.count.0 (adus_per_block v.table.config).0 in
    let first = into_next d r.placement n r.start r.count.0 v in
    let after = rest_from r put in
    let went = after_from d (adus_per_block v.table.config).0 r first.drive (overwritten r.done first.addresses words) w last went-after in
    let rest = onwards d r.placement (user_address r.start put) (r.count.0 - put) first.drive in
    let all : rest_written d r v ≡ and_then first rest =
    rest_onwards d r v l ∙ onwards_next d r.placement n r.start r.count.0 v l fit e ne in
    let is_rest : rest_written d after first.drive ≡ rest = rest_onwards d after first.drive (rw (next_config d r.placement n r.start r.count.0 v) l) in
    record {
      leaves = went.leaves ∙ ap (λ (x : Written). x.drive) is_rest ∙ ap (λ (x : Written). x.drive) (sym all);
      fills = went.fills
          ∙ ap (λ (x : Written). overwritten (r.done + put) x.addresses (overwritten r.done first.addresses words)) is_rest
          ∙ overwritten_two r.done (r.done + put) first.addresses rest.addresses words inside (omega (arith, long))
          ∙ ap (λ (x : Written). overwritten r.done x.addresses words) (sym all);
    }

-- ---- What is left after a block

-- It has its ADUs, ..
pub after_count : (r : Rest) (room : ℕ) → (rest_after r room).count.0 ≡ r.count.0 - room
after_count r room = by_test (leb r.count.0 room)
    (λ e. let most = leb-true r.count.0 room e in rw e (omega (arith, most)))
    (λ e. rw e)

-- .. and there is one value for none.
pub after_one : (r : Rest) (room : ℕ) → (rest_after r room).count.0 ≡ 0 → rest_after r room ≡ nothing_left
after_one r room = by_test (leb r.count.0 room)
    (λ e. rw e (λ _. refl))
    (λ e. let more = leb-false r.count.0 room e in rw e (λ none. absurd (omega (arith, more, none))))

-- A new block takes some of it.
pub new_less : (c : Config) (n : ℕ) (r : Rest) → within_limits c ≡ true → ¬ (r.count.0 ≡ 0) → (rest_after_new c n r).count.0 < r.count.0
new_less c n r within ne = by_test (ltb n c.blocks)
    (λ e. rw e (omega (arith, after_count r (adus_per_block c).0, some_adus c within, ne)))
    (λ e. rw e (omega (arith, ne)))

none_fit : user_addresses_fit 0 0 ≡ true
unfolding user_addresses_fit all_to
none_fit = refl

-- It may be written, if all of it may and the owner has serials for it.
pub may_after : (c : Config) (entries words d : ℕ) (owner : Domain) (r : Rest) (room : ℕ) → within_limits c ≡ true → is_domain_id d ≡ true
    → entries ≡ (store_length c).0 → owner.last + blocks_in c (r.count.0 - room) ≤ 4294967295
    → user_addresses_fit r.start r.count.0 ≡ true → r.done + r.count.0 ≤ words → MayGoOn c entries words d owner (rest_after r room)
may_after c entries words d owner r room within id all serials fit enough = record {
  within = within;
  id = id;
  all_entries = all;
  serials = rw (after_count r room) serials;
  fit = by_test (leb r.count.0 room) (λ e. rw e none_fit) (λ e. rw e (later_fit r.start r.count.0 room fit));
  enough = by_test (leb r.count.0 room)
      (λ e. rw e (omega arith))
      (λ e. let more = leb-false r.count.0 room e in rw e (omega (arith, more, enough)));
}

-- ---- The placement's open block first

-- The blocks that are opened are those that what the open block does not take fills or begins.
pub new_for_lem : (t : Table) (d p count : ℕ) (found : Option ℕ) → open_block t d p ≡ found
    → new_blocks t d p count ≡ blocks_in t.config (count - room_in t found)
unfolding new_blocks blocks_in
new_for_lem t d p count found e = rw e

placed_is : (d p : ℕ) (users : List ℕ) (v : Drive) (found : Option ℕ) → open_block v.table d p ≡ found
    → let first = written_first d found (take (room_in v.table found) users) v in
    written_by_placement d p users v
    ≡ and_then first (written_onwards d p (blocks_in v.table.config (length users - room_in v.table found)) (drop (room_in v.table found) users) first.drive)
unfolding written_by_placement new_blocks blocks_in
placed_is d p users v found e = rw e

pub first_config : (d : ℕ) (found : Option ℕ) (users : List ℕ) (v : Drive) → (written_first d found users v).drive.table.config ≡ v.table.config
unfolding written_into
first_config d none users v = refl
first_config d (some n) users v = refl

-- Into that block what it takes, and onwards.
pub placed_both : (d p start count : ℕ) (v : Drive) (found : Option ℕ) → open_block v.table d p ≡ found → user_addresses_fit start count ≡ true
    → let put = min count (room_in v.table found) in
    let first = written_first d found (user_addresses start put) v in
    written_by_placement d p (user_addresses start count) v ≡ and_then first (onwards d p (user_address start put) (count - put) first.drive)
placed_both d p start count v found e fit =
    let c = v.table.config in
    let room = room_in v.table found in
    let put = min count room in
    let users = user_addresses start count in
    let both : List ℕ → List ℕ → ℕ → Written = λ these those k.
    and_then (written_first d found these v) (written_onwards d p k those (written_first d found these v).drive) in
    let left : length users - room ≡ count - put = ap (λ (k : ℕ). k - room) (length_row (user_address start) count) ∙ omega arith in
    let same : blocks_in c (length users - room) ≡ blocks_in (written_first d found (user_addresses start put) v).drive.table.config (count - put) =
    ap (blocks_in c) left ∙ ap (λ (x : Config). blocks_in x (count - put)) (sym (first_config d found (user_addresses start put) v)) in
    placed_is d p users v found e
    ∙ ap (λ (these : List ℕ). both these (drop room users) (blocks_in c (length users - room))) (users_taken start count room)
    ∙ ap (λ (those : List ℕ). both (user_addresses start put) those (blocks_in c (length users - room))) (users_left start count room fit)
    ∙ ap (λ (k : ℕ). both (user_addresses start put) (user_addresses (user_address start put) (count - put)) k) same
