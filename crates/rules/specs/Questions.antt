-- Document 01, "The questions, in order": what each command is asked. Question 1 is put in Start; 2 is `sound`, 4 is
-- `is_domain_id`; 7, 10, 15 and 16 stand as they are in the lists of the commands that are asked them.
use Rattle.std.specs.Prelude.{ℕ, ◌+◌, ◌-◌, ◌^◌, Bool, true, false, not, ◌&&◌, ◌||◌, cond, List, [], ◌∷◌, ◌++◌, eqb, leb, ltb}
use Rattle.std.proofs.Math.Option.{Option, none, some}
use Rattle.geometry.specs.Address.{fields_of, is_block, is_domain_id, is_offset}
use Rattle.geometry.specs.Questions.{Question, ask}
use Rattle.geometry.specs.Shape.{between, store_length}
use Rattle.geometry.specs.declared.shape.Adus.{Adus}
use Rattle.model.specs.declared.command.Command.{Command}
use Rattle.model.specs.declared.command.Command.TheVariants.{ChangeCapacity, Close, Create, Delete, Erase, Free, List as Listing, Page, Pulse, Read}
use Rattle.model.specs.declared.command.Command.TheVariants.{WriteByBlock, WriteByPlacement}
use Rattle.model.specs.declared.table.Table.{Table}
use Rattle.rules.specs.Blocks.{all_ones, any_block, lba, matches, new_blocks, stored, user_address}
use Rattle.rules.specs.Calls.{Call, Own, existing, missing, nobody, profile_of}
use Rattle.rules.specs.Counting.{all_to, implies}
use Rattle.rules.specs.Domains.{are_plane_counts, changed_domain, covered_with, created_domain}
use Rattle.rules.specs.Drive.{Drive, block_at, capacity, domain_at, held_by, held_count, is_closed, is_free, is_open_by_erase, open_block, open_count}
use Rattle.rules.specs.LogPages.{list_length}
use Rattle.rules.specs.Soundness.{sound}

-- 3. Has the store S × C entries?
abbrev pub store_fits : Table → Call → Bool
store_fits t k = eqb k.lent.store (store_length t.config).0

-- 5. Does the domain exist?
abbrev pub exists : Table → ℕ → Bool
exists t d = (domain_at t d).exists

-- 6. A count of ADUs, and the block that Erase takes, in range.
abbrev pub is_count : Adus → Bool
is_count n = between 1 256 n.0

abbrev pub is_erasable : Table → ℕ → Bool
is_erasable t n = is_block t.config n || eqb n any_block

-- 8. Unless the start is all ones: does no LBA pass 2^40 − 1, and is no user address all ones?
unfoldable pub user_addresses_fit : ℕ → ℕ → Bool
user_addresses_fit start count =
    eqb start all_ones
    || all_to (λ i. leb (lba start + i) (2 ^ 40 - 1) && not (eqb (user_address start i) all_ones)) count

-- 9. Is the block held by this domain (Erase: or Free)? FFFFFFFFh names none.
abbrev pub is_held : Table → ℕ → ℕ → Bool
is_held t d n = held_by d (block_at t n)

abbrev pub may_erase : Table → ℕ → ℕ → Bool
may_erase t d n = eqb n any_block || is_free (block_at t n) || is_held t d n

-- 10, 13 and 14. Does Erase name a block that the domain holds?
abbrev pub is_erased_again : Table → ℕ → ℕ → Bool
is_erased_again t d n = not (eqb n any_block) && is_held t d n

-- 11. If a block opens where the placement has none open, or Erase opens one: are fewer open than the limit?
abbrev pub may_open : Table → ℕ → Bool
may_open t d = ltb (open_count t d) (domain_at t d).limit

abbrev pub may_open_for : Option ℕ → Table → ℕ → Bool
may_open_for none t d = may_open t d
may_open_for (some n) t d = true

-- 12. Do so many new serials stay within 4,294,967,295?
abbrev pub serials_left : Table → ℕ → ℕ → Bool
serials_left t d new = leb ((domain_at t d).last + new) 4294967295

-- 13. Do held plus new blocks stay within quota (a held block opened again isn't new)?
abbrev pub new_of_erase : Table → ℕ → ℕ → ℕ
new_of_erase t d n = cond (is_erased_again t d n) 0 1

abbrev pub within_quota : Table → ℕ → ℕ → Bool
within_quota t d new = leb (held_count t d + new) (domain_at t d).quota

-- 14. Does coverage hold afterwards?
abbrev pub covered_after : Table → ℕ → ℕ → Bool
covered_after t d new = covered_with t d (domain_at t d).reserved (held_count t d + new)

-- ---- What each command is asked

-- 3, of a command that uses the store.
abbrev pub store_questions : Bool → Table → Call → List Question
store_questions true t k = ask 3 (store_fits t k) ∷ []
store_questions false t k = []

-- 4 and 5. Is the domain ID 1 to 16? Does the domain exist (Create: not yet)?
abbrev pub domain_questions : Table → Own → List Question
domain_questions t (existing d) = ask 4 (is_domain_id d) ∷ ask 5 (exists t d) ∷ []
domain_questions t (missing d) = ask 4 (is_domain_id d) ∷ ask 5 (not (exists t d)) ∷ []
domain_questions t nobody = []

-- What every command is asked first, in 01's order: 2; 3 where it uses the store; 4 and 5 where it names a domain.
abbrev pub first_questions : Drive → Call → List Question
first_questions v k =
    let t = v.table in
    let p = profile_of k.asks in
    ask 2 (sound t) ∷ store_questions p.store t k ++ domain_questions t p.own

-- Close and Free are then asked the same.
abbrev pub held_block_questions : Table → ℕ → ℕ → List Question
held_block_questions t d n =
    ask 6 (is_block t.config n)
    ∷ ask 9 (is_held t d n)
    ∷ []

-- Write by placement is then asked this. The first argument is `true` for the manager; the recorder passes on whether the domain has its
-- shape, which is part of 6.
abbrev pub placement_questions : Bool → ℕ → ℕ → ℕ → Adus → Drive → Call → List Question
placement_questions shaped d p start count v k =
    let t = v.table in
    let new = new_blocks t d p count.0 in
    ask 6 (shaped && ltb p (domain_at t d).placements && is_count count)
    ∷ ask 7 (leb count.0 k.lent.words)
    ∷ ask 8 (user_addresses_fit start count.0)
    ∷ ask 11 (may_open_for (open_block t d p) t d)
    ∷ ask 12 (serials_left t d new)
    ∷ ask 13 (within_quota t d new)
    ∷ ask 14 (covered_after t d new)
    ∷ []

-- What each command is asked then, in 01's order. The first argument is the command of the call k.
abbrev pub later_questions : Command → Drive → Call → List Question
later_questions (Create d guarantee quota placements limit) v k =
    let t = v.table in
    let r = created_domain t.config guarantee quota placements limit in
    ask 6 (are_plane_counts t.config guarantee quota && between 1 16 placements && between 0 256 limit)
    ∷ ask 14 (covered_with t d r.reserved (held_count t d))
    ∷ []
later_questions (ChangeCapacity d guarantee quota) v k =
    let t = v.table in
    let r = changed_domain t d guarantee quota in
    ask 6 (are_plane_counts t.config guarantee quota)
    ∷ ask 14 (covered_with t d r.reserved (held_count t d))
    ∷ []
later_questions (Delete d) v k = []
later_questions (Erase d n) v k =
    let t = v.table in
    ask 6 (is_erasable t n)
    ∷ ask 9 (may_erase t d n)
    ∷ ask 10 (implies (is_erased_again t d n) (is_closed (block_at t n)))
    ∷ ask 11 (may_open t d)
    ∷ ask 12 (serials_left t d 1)
    ∷ ask 13 (within_quota t d (new_of_erase t d n))
    ∷ ask 14 (covered_after t d (new_of_erase t d n))
    ∷ []
later_questions (Close d n) v k = held_block_questions v.table d n
later_questions (Free d n) v k = held_block_questions v.table d n
later_questions (WriteByPlacement d p start count) v k = placement_questions true d p start count v k
later_questions (WriteByBlock d n start count) v k =
    let t = v.table in
    ask 6 (is_block t.config n && is_count count)
    ∷ ask 7 (leb count.0 k.lent.words)
    ∷ ask 8 (user_addresses_fit start count.0)
    ∷ ask 9 (is_held t d n)
    ∷ ask 10 (is_open_by_erase (block_at t n))
    ∷ ask 15 (leb ((block_at t n).written.0 + count.0) (capacity t n).0)
    ∷ []
later_questions (Read d address count expected) v k =
    let t = v.table in
    let a = fields_of t.config address in
    ask 6 (is_block t.config a.block && is_offset t.config a.offset && is_count count)
    ∷ ask 7 (leb count.0 k.lent.words)
    ∷ ask 8 (user_addresses_fit expected count.0)
    ∷ ask 9 (is_held t d a.block && eqb a.domain d)
    ∷ ask 15 (leb (a.offset.0 + count.0) (block_at t a.block).written.0)
    ∷ ask 16 (matches expected (stored v a count.0))
    ∷ []
later_questions (Page d n) v k =
    let t = v.table in
    ask 6 (is_block t.config n)
    ∷ ask 7 (leb 256 k.lent.bytes)
    ∷ ask 9 (is_held t d n)
    ∷ []
later_questions (Listing d which) v k = ask 7 (leb (list_length v.table d which) k.lent.bytes) ∷ []
later_questions (Pulse seconds) v k = ask 6 (between 0 65535 seconds) ∷ []
