-- The same Write by placement in two drives that the domain cannot tell apart.
use Prim.Native.Nat.{ℕ, zero, suc, ◌+◌, ◌-◌, ◌/◌, ◌≤◌, ◌<◌}
use mathlib.Core.Bool.{Bool, true, true≢false, ◌&&◌}
use mathlib.Core.List.{List, [], ◌++◌, map}
use mathlib.Core.Option.{Option, none, some}
use mathlib.Core.Path.{◌≡◌, refl, sym, ap, ap₂, ◌∙◌, subst}
use native.Mathlib.Omega.{arith}
use lib.Dec.{ltb}
use lib.ListN.{drop, length, take}
use borrow.Author.Tests.{eqb-true}
use Rattle.geometry.specs.Questions.{first_no}
use Rattle.geometry.specs.Shape.{adus_per_block, within_limits}
use Rattle.geometry.specs.declared.shape.Adus.{Adus}
use Rattle.geometry.specs.declared.shape.Config.{Config}
use Rattle.model.specs.declared.block.Block.{Block}
use Rattle.model.specs.declared.block.Way.TheVariants.{Placement}
use Rattle.model.specs.declared.command.Command.TheVariants.{WriteByPlacement}
use Rattle.model.specs.declared.table.Domain.{Domain}
use Rattle.rules.specs.Blocks.{Written, chosen_block, new_blocks, opened_for, room_in, user_addresses, written_by_placement, written_into, written_onwards}
use Rattle.rules.specs.Calls.{Call, ◌asking◌}
use Rattle.rules.specs.Drive.{Drive, block_at, held_by, is_placed_state, open_block, size}
use Rattle.rules.specs.Effects.{effect, verdict}
use Rattle.rules.specs.Observation.{Address, Holding, Holds, address_of, holding_at, name_of}
use Rattle.rules.specs.Questions.{covered_after, exists, is_count, may_open_for, placement_questions, serials_left, within_quota}
use Rattle.rules.proofs.Kept.Asked.{placement_asked}
use Rattle.rules.proofs.Kept.Calls.{course_fit}
use Rattle.rules.proofs.Kept.Changes.{Writable, opened_changed, written_changed}
use Rattle.rules.proofs.Kept.Facts.{Facts}
use Rattle.rules.proofs.Kept.Onwards.{Onward, OpenTo, fill_config, next_block, next_onward, next_openable, next_writable, onward_sequel, open_to}
use Rattle.rules.proofs.Kept.Placement.{Asked, first_writable, first_of, new_for, none_onward, placement_is, rest_of, some_onward}
use Rattle.rules.proofs.Kept.Views.{Alike, alike_back}
use Rattle.rules.proofs.Noninterference.Addresses.{map-append}
use Rattle.rules.proofs.Noninterference.Blocks.{opened_alike, opened_same, written_alike, written_same}
use Rattle.rules.proofs.Noninterference.Common.{Pair, covered_same, first_same, may_open_same, name_kept, quota_same, same_name, serials_same}
use Rattle.rules.proofs.Noninterference.Pairing.{one_block, partner}
use Rattle.rules.proofs.Noninterference.Twins.{Twin, ask_same, told}
use Rattle.rules.proofs.Noninterference.WriteByBlock.{addresses_told, into_config, into_holds, written_read}
use Rattle.rules.proofs.Writes.{Ready, onwards_some, onwards_zero}

-- ---- The next block in both

module _ {a p k : ℕ} {users : List ℕ} {v w : Drive} (s : Alike a v w) (x : Onward a p (suc k) users v) (y : Onward a p (suc k) users w)
    (n m : ℕ) (chosen : chosen_block v.table ≡ some n) (chosen' : chosen_block w.table ≡ some m) where
  abbrev c : Config
  c = v.table.config

  abbrev these : List ℕ
  these = take (adus_per_block c).0 users

  abbrev opening : Drive
  opening = opened_for a (Placement p) n v

  abbrev opening' : Drive
  opening' = opened_for a (Placement p) m w

  same_opened : holding_at opening n ≡ holding_at opening' m
  same_opened = opened_same s (next_openable x n chosen) (next_openable y m chosen') (Placement p)

  alike_opened : Alike a opening opening'
  alike_opened = opened_alike s (next_openable x n chosen) (next_openable y m chosen') (Placement p)

  next_left : Writable a n these opening
  next_left = next_writable x n chosen

  next_right : Writable a m these opening'
  next_right =
      subst (λ (e : Config). Writable a m (take (adus_per_block e).0 users) opening') (sym s.config) (next_writable y m chosen')

  abbrev filling : Drive
  filling = (written_into a n these opening).drive

  abbrev filling' : Drive
  filling' = (written_into a m these opening').drive

  filled_alike : Alike a filling filling'
  filled_alike = written_alike alike_opened next_left next_right same_opened

  filled_same : holding_at filling n ≡ holding_at filling' m
  filled_same = written_same alike_opened next_left next_right same_opened

  onward_left : Onward a p k (drop (adus_per_block c).0 users) filling
  onward_left = next_onward x n chosen

  onward_right : Onward a p k (drop (adus_per_block c).0 users) filling'
  onward_right =
      subst (λ (e : Config). Onward a p k (drop (adus_per_block e).0 users) (written_into a m (take (adus_per_block e).0 users) opening').drive)
      (sym s.config) (next_onward y m chosen')

  filled_read : (u z : Drive) → u.table.config ≡ opening.table.config → z.table.config ≡ opening'.table.config
      → name_of a u n ≡ name_of a z m
      → map (address_of a u) (written_into a n these opening).addresses ≡ map (address_of a z) (written_into a m these opening').addresses
  filled_read u z =
      written_read alike_opened next_left next_right same_opened u z
      (subst (λ (e : Config). within_limits e ≡ true) (sym (opened_changed (next_openable x n chosen) (Placement p)).config) x.facts.limits)

-- ---- Onwards in both

-- A block that the domain holds keeps its name while others are opened.
onward_name : (a p k : ℕ) (users : List ℕ) (v : Drive) → Onward a p k users v → (n : ℕ) → Holds a v n
    → name_of a (written_onwards a p k users v).drive n ≡ name_of a v n
onward_name a p zero users v o n h =
    ap (λ (x : Written). name_of a x.drive n) (onwards_zero v.table.config a p users v)
onward_name a p (suc k) users v o n h =
    let m = (next_block o).0 in
    let chosen = (next_block o).1 in
    let next = (written_into a m (take (adus_per_block v.table.config).0 users) (opened_for a (Placement p) m v)).drive in
    let apart : ¬ (n ≡ m) = λ same. held_nobody same (next_openable o m chosen).nobody in
    let opened_block = (opened_changed (next_openable o m chosen) (Placement p)).blocks n apart in
    let filled-block = (written_changed (next_writable o m chosen)).blocks n apart in
    ap (λ (x : Written). name_of a x.drive n) (onwards_some v.table.config a p k m users v o.ready chosen)
    ∙ onward_name a p k _ _ (next_onward o m chosen) n (
      subst (λ (e : Config). n < e.blocks) (sym (fill_config o m chosen)) h.0,
      subst (λ (b : Block). held_by a b ≡ true) (sym (filled-block ∙ opened_block)) h.1,
    )
    ∙ name_kept a v next n (fill_config o m chosen) (filled-block ∙ opened_block)
  where
    held_nobody : {m : ℕ} → n ≡ m → (block_at v.table m).holder ≡ 0 → ⊥
    held_nobody {m} same none-holds =
        omega (arith, o.low, eqb-true (block_at v.table n).holder a h.1, subst (λ (i : ℕ). (block_at v.table i).holder ≡ 0) (sym same) none-holds)

-- What two writes leave and hand back: drives that the domain cannot tell apart, and addresses that read the same.
record Same (a : ℕ) (x y : Written) : Type 0 where
  alike : Alike a x.drive y.drive
  read : map (address_of a x.drive) x.addresses ≡ map (address_of a y.drive) y.addresses

abbrev join : Written → Written → Written
join first rest = record { drive = rest.drive; addresses = first.addresses ++ rest.addresses }

-- A write into one block each, and then the same onwards.
joined : (a : ℕ) (first first' rest rest' : Written) → Same a rest rest'
    → map (address_of a rest.drive) first.addresses ≡ map (address_of a rest'.drive) first'.addresses
    → Same a (join first rest) (join first' rest')
joined a first first' rest rest' same here = record {
  alike = same.alike;
  read =
      map-append (address_of a rest.drive) first.addresses rest.addresses
      ∙ ap₂ (λ (l r : List Address). l ++ r) here same.read
      ∙ sym (map-append (address_of a rest'.drive) first'.addresses rest'.addresses);
}

onward_twin : (a p k : ℕ) (users : List ℕ) (v w : Drive) → Alike a v w → Onward a p k users v → Onward a p k users w
    → Same a (written_onwards a p k users v) (written_onwards a p k users w)
onward_twin a p zero users v w s x y =
    subst (λ (z : Written). Same a z (written_onwards a p zero users w)) (sym (onwards_zero v.table.config a p users v))
    (subst (Same a (record { drive = v; addresses = [] })) (sym (onwards_zero w.table.config a p users w))
    (record { alike = s; read = refl }))
onward_twin a p (suc k) users v w s x y =
    let c = v.table.config in
    let n = (next_block x).0 in
    let m = (next_block y).0 in
    let chosen = (next_block x).1 in
    let chosen' = (next_block y).1 in
    let others = drop (adus_per_block c).0 users in
    let left = next_left s x y n m chosen chosen' in
    let right = next_right s x y n m chosen chosen' in
    let first = written_into a n (take (adus_per_block c).0 users) (opened_for a (Placement p) n v) in
    let first' = written_into a m (take (adus_per_block c).0 users) (opened_for a (Placement p) m w) in
    let rest = written_onwards a p k others first.drive in
    let rest' = written_onwards a p k others first'.drive in
    let o = onward_left s x y n m chosen chosen' in
    let o' = onward_right s x y n m chosen chosen' in
    let same = onward_twin a p k others first.drive first'.drive (filled_alike s x y n m chosen chosen') o o' in
    let names =
    onward_name a p k others first.drive o n (into_holds left)
    ∙ same_name a first.drive first'.drive n m (into_holds left) (into_holds right)
    (ap (λ (h : Holding). h.serial) (filled_same s x y n m chosen chosen'))
    ∙ sym (onward_name a p k others first'.drive o' m (into_holds right)) in
    let here =
    filled_read s x y n m chosen chosen' rest.drive rest'.drive
    ((onward_sequel a p k others first.drive o).sequel.config ∙ into_config left)
    ((onward_sequel a p k others first'.drive o').sequel.config ∙ into_config right)
    names in
    subst (λ (z : Written). Same a z (written_onwards a p (suc k) users w)) (sym (onwards_some c a p k n users v x.ready chosen))
    (subst (Same a (join first rest))
    (sym (onwards_some c a p k m users w (subst (λ (e : Config). Ready e w) (sym s.config) y.ready) chosen'))
    (joined a first first' rest rest' same here))

-- The same onwards, by as many blocks and behind as many user addresses.
onward_same : (a p : ℕ) (users : List ℕ) {k k' r r' : ℕ} {v w : Drive} → k ≡ k' → r ≡ r' → Alike a v w
    → Onward a p k (drop r users) v → Onward a p k' (drop r' users) w
    → Same a (written_onwards a p k (drop r users) v) (written_onwards a p k' (drop r' users) w)
onward_same a p users {k} {k'} {r} {r'} {v} {w} e f s o o' =
    let x = written_onwards a p k (drop r users) v in
    subst (λ (z : ℕ). Onward a p z (drop r' users) w → Same a x (written_onwards a p z (drop r' users) w)) e
    (subst (λ (z : ℕ). Onward a p k (drop z users) w → Same a x (written_onwards a p k (drop z users) w)) f
    (λ o''. onward_twin a p k (drop r users) v w s o o''))
    o'

-- ---- The placement's open block in both

-- None is open in both, or one is with the same holding.
abbrev SameOpen : ℕ → Drive → Drive → Option ℕ → Option ℕ → Type 0
SameOpen a v w none none = Unit {0}
SameOpen a v w none (some m) = ⊥
SameOpen a v w (some n) none = ⊥
SameOpen a v w (some n) (some m) = holding_at v n ≡ holding_at w m

same_open : (a p : ℕ) (v w : Drive) → 1 ≤ a → Facts w → Alike a v w → (found found' : Option ℕ)
    → OpenTo v a p (size v.table) found → OpenTo w a p (size w.table) found' → SameOpen a v w found found'
same_open a p v w low f s none none o o' = tt
same_open a p v w low f s none (some m) o o' =
    let x = partner (alike_back s) m (o'.0, o'.1) in
    true≢false
    (sym (ap (λ (h : Holding). is_placed_state p h.state) (sym x.2) ∙ o'.2)
    ∙ o x.0 x.1.0 x.1.1)
same_open a p v w low f s (some n) none o o' =
    let x = partner s n (o.0, o.1) in
    true≢false
    (sym (ap (λ (h : Holding). is_placed_state p h.state) (sym x.2) ∙ o.2)
    ∙ o' x.0 x.1.0 x.1.1)
same_open a p v w low f s (some n) (some m) o o' =
    let x = partner s n (o.0, o.1) in
    let placed = ap (λ (h : Holding). is_placed_state p h.state) (sym x.2) ∙ o.2 in
    subst (λ (i : ℕ). holding_at v n ≡ holding_at w i) (one_block a w (λ h. is_placed_state p h.state) (f.single a p low) x.0 m x.1 (o'.0, o'.1) placed o'.2) x.2

module _ {a : ℕ} {v w : Drive} (p : Pair a v w) (k : ℕ) where
  abbrev found : Option ℕ
  found = open_block v.table a k

  abbrev found' : Option ℕ
  found' = open_block w.table a k

  open_same : SameOpen a v w found found'
  open_same =
      same_open a k v w p.low p.right.facts p.alike found found' (open_to v a k (size v.table)) (open_to w a k (size w.table))

  -- So it has the same room, and as many blocks are opened.
  room_from : (x y : Option ℕ) → SameOpen a v w x y → room_in v.table x ≡ room_in w.table y
  room_from none none same = refl
  room_from none (some m) same = absurd same
  room_from (some n) none same = absurd same
  room_from (some n) (some m) same =
      ap₂ (λ (c : Config) (h : Holding). (adus_per_block c).0 - h.written) p.alike.config same

  may_from : (x y : Option ℕ) → SameOpen a v w x y → may_open_for x v.table a ≡ may_open_for y w.table a
  may_from none none same = may_open_same p
  may_from none (some m) same = absurd same
  may_from (some n) none same = absurd same
  may_from (some n) (some m) same = refl

  new_same : (count : ℕ) → new_blocks v.table a k count ≡ new_blocks w.table a k count
  unfolding new_blocks
  new_same count =
      ap₂ (λ (c : Config) (r : ℕ). (count - r + ((adus_per_block c).0 - 1)) / (adus_per_block c).0)
      p.alike.config (room_from found found' open_same)

  module _ (call : Call) (start : ℕ) (count : Adus) where
    -- The same first no, also where a shape of the domain is asked for besides, ..
    pub later_same : (shaped shaped' : Bool) → shaped ≡ shaped' → exists v.table a ≡ true
        → first_no (placement_questions shaped a k start count v call) ≡ first_no (placement_questions shaped' a k start count w call)
    later_same shaped shaped' same e5 =
        let new = new_blocks v.table a k count.0 in
        let new' = new_blocks w.table a k count.0 in
        let news = new_same count.0 in
        ask_same _ _ _ _ _
        (ap₂ (λ (s : Bool) (r : Domain). s && ltb k r.placements && is_count count) same p.alike.domain) (λ e6.
        ask_same _ _ _ _ _ refl (λ e7.
        ask_same _ _ _ _ _ refl (λ e8.
        ask_same _ _ _ _ _ (may_from found found' open_same) (λ e11.
        ask_same _ _ _ _ _ (serials_same p new ∙ ap (λ (x : ℕ). serials_left w.table a x) news) (λ e12.
        ask_same _ _ _ _ _ (quota_same p new ∙ ap (λ (x : ℕ). within_quota w.table a x) news) (λ e13.
        ask_same _ _ _ _ _ (covered_same p new e5 e13 ∙ ap (λ (x : ℕ). covered_after w.table a x) news) (λ e14.
        refl)))))))

    -- .. so that the write gets the same.
    pub placement_verdicts : verdict v (call asking WriteByPlacement a k start count) ≡ verdict w (call asking WriteByPlacement a k start count)
    placement_verdicts =
        first_same p call (WriteByPlacement a k start count) (WriteByPlacement a k start count) refl refl refl (λ e5.
        later_same true true refl e5)

    abbrev users : List ℕ
    users = user_addresses start count.0

    news : (x y : Option ℕ) → SameOpen a v w x y → new_for v.table x (length users) ≡ new_for w.table y (length users)
    news x y same =
        ap₂ (λ (c : Config) (r : ℕ). (length users - r + ((adus_per_block c).0 - 1)) / (adus_per_block c).0)
        p.alike.config (room_from x y same)

    module _ (e : verdict v (call asking WriteByPlacement a k start count) ≡ 0) (f : verdict w (call asking WriteByPlacement a k start count) ≡ 0) where
      asked : Asked a k users v
      asked = placement_asked v call (course_fit p.left call) a k start count e

      asked' : Asked a k users w
      asked' = placement_asked w call (course_fit p.right call) a k start count f

      whole_none : found ≡ none → found' ≡ none
          → Same a (join (first_of a none users v) (rest_of a k none users v)) (join (first_of a none users w) (rest_of a k none users w))
      whole_none at at' =
          joined a (first_of a none users v) (first_of a none users w) (rest_of a k none users v) (rest_of a k none users w)
          (onward_same a k users {r = 0} {r' = 0} (news none none tt) refl p.alike (none_onward asked at) (none_onward asked' at'))
          refl

      module _ (n m : ℕ) (at : found ≡ some n) (at' : found' ≡ some m) (same : holding_at v n ≡ holding_at w m) where
        abbrev first : Written
        first = first_of a (some n) users v

        abbrev first' : Written
        first' = first_of a (some m) users w

        left : Writable a n (take (room_in v.table (some n)) users) v
        left = first_writable asked n at

        right' : Writable a m (take (room_in w.table (some m)) users) w
        right' = first_writable asked' m at'

        rooms : room_in w.table (some m) ≡ room_in v.table (some n)
        rooms = sym (room_from (some n) (some m) same)

        right : Writable a m (take (room_in v.table (some n)) users) w
        right = subst (λ (r : ℕ). Writable a m (take r users) w) rooms right'

        -- The second drive's first write, of as many user addresses as the first one's.
        abbrev second : Written
        second = written_into a m (take (room_in v.table (some n)) users) w

        second_is : second ≡ first'
        second_is = ap (λ (r : ℕ). written_into a m (take r users) w) (sym rooms)

        rest_same : Same a (rest_of a k (some n) users v) (rest_of a k (some m) users w)
        rest_same =
            onward_same a k users (news (some n) (some m) same) (sym rooms)
            (subst (λ (z : Written). Alike a first.drive z.drive) second_is (written_alike p.alike left right same))
            (some_onward asked n at) (some_onward asked' m at')

        names : name_of a (rest_of a k (some n) users v).drive n ≡ name_of a (rest_of a k (some m) users w).drive m
        names =
            onward_name a k _ _ first.drive (some_onward asked n at) n (into_holds left)
            ∙ same_name a first.drive second.drive n m (into_holds left) (into_holds right)
            (ap (λ (h : Holding). h.serial) (written_same p.alike left right same))
            ∙ ap (λ (z : Written). name_of a z.drive m) second_is
            ∙ sym (onward_name a k _ _ first'.drive (some_onward asked' m at') m (into_holds right'))

        first_read : map (address_of a (rest_of a k (some n) users v).drive) first.addresses
            ≡ map (address_of a (rest_of a k (some m) users w).drive) first'.addresses
        first_read =
            written_read p.alike left right same (rest_of a k (some n) users v).drive (rest_of a k (some m) users w).drive
            p.left.facts.limits
            ((onward_sequel a k _ _ first.drive (some_onward asked n at)).sequel.config ∙ into_config left)
            ((onward_sequel a k _ _ first'.drive (some_onward asked' m at')).sequel.config ∙ into_config right')
            names
            ∙ ap (λ (z : Written). map (address_of a (rest_of a k (some m) users w).drive) z.addresses) second_is

        whole_some : Same a (join first (rest_of a k (some n) users v)) (join first' (rest_of a k (some m) users w))
        whole_some = joined a first first' (rest_of a k (some n) users v) (rest_of a k (some m) users w) rest_same first_read

      by_found : (x y : Option ℕ) → found ≡ x → found' ≡ y → SameOpen a v w x y
          → Same a (join (first_of a x users v) (rest_of a k x users v)) (join (first_of a y users w) (rest_of a k y users w))
      by_found none none at at' same = whole_none at at'
      by_found none (some m) at at' same = absurd same
      by_found (some n) none at at' same = absurd same
      by_found (some n) (some m) at at' same = whole_some n m at at' same

      placement_same : Same a (written_by_placement a k users v) (written_by_placement a k users w)
      placement_same =
          subst (λ (z : Written). Same a z (written_by_placement a k users w)) (sym (placement_is a k users v found refl))
          (subst (Same a (join (first_of a found users v) (rest_of a k found users v))) (sym (placement_is a k users w found' refl))
          (by_found found found' refl refl open_same))

      pub placement_alike : Alike a (effect v (call asking WriteByPlacement a k start count)).drive (effect w (call asking WriteByPlacement a k start count)).drive
      unfolding effect
      placement_alike = placement_same.alike

      pub placement_told : told a v (call asking WriteByPlacement a k start count) ≡ told a w (call asking WriteByPlacement a k start count)
      unfolding effect
      placement_told = ap (λ (l : List Address). addresses_told l) placement_same.read

    pub write_placement_twin : Twin a v w (call asking WriteByPlacement a k start count) (call asking WriteByPlacement a k start count)
    write_placement_twin = record {
      reading = refl;
      verdicts = placement_verdicts;
      after = λ e f. placement_alike e f;
      telling = λ e f. placement_told e f;
    }
