-- What is proved of the rules; each law cites its proof in the file of its subject. P1 to P12 and the wrong turns are tables:
-- `proved_table_lem` in ProvedTable.antt, `no_wrong_turns` in WrongTurns.antt.
use Prim.Native.Nat.{ℕ, ◌+◌, ◌*◌, ◌≤◌, ◌<◌, max}
use mathlib.Core.Bool.{true, false}
use mathlib.Core.List.{List, [], ◌∷◌, ◌++◌}
use mathlib.Core.Option.{none, some}
use mathlib.Core.Path.{◌≡◌, subst}
use lib.ListN.{get_or, length}
use Rattle.geometry.proofs.Laws.Shape.{is_between}
use Rattle.geometry.specs.Address.{is_domain_id}
use Rattle.geometry.specs.Bytes.{little_endian}
use Rattle.geometry.specs.Questions.{refusal, success}
use Rattle.geometry.specs.Shape.{planes, within_limits}
use Rattle.geometry.specs.declared.address.FlashAddress.{FlashAddress}
use Rattle.geometry.specs.declared.shape.Adus.{Adus}
use Rattle.geometry.specs.declared.shape.Config.{Config}
use Rattle.geometry.specs.declared.shape.Planes.{Planes}
use Rattle.model.proofs.Laws.{old_not_rewound}
use Rattle.model.specs.Blocks.{counted_down, has_new_serial}
use Rattle.model.specs.declared.block.Block.{Block}
use Rattle.model.specs.declared.command.Command.TheVariants.{Delete, Erase, Pulse, Read, WriteByBlock, WriteByPlacement}
use Rattle.model.specs.declared.command.Listed.{Listed}
use Rattle.model.specs.declared.table.Table.{Table}
use Rattle.rules.specs.Blocks.{all_ones, chosen_block, stored, user_address, user_addresses}
use Rattle.rules.specs.Calls.{Call, ◌asking◌, list_bytes, own_domain, page_bytes}
use Rattle.rules.specs.Claims.{Chosen, Found, Gone, IndexToTheNearest, Layout, ListsInOrder, Reached, Unchanged, bytes_at, rising}
use Rattle.rules.specs.Domains.{changed_domain, coverage, coverage_from}
use Rattle.rules.specs.Drive.{Drive, block_at, capacity, domain_at, held_count, is_free, is_open, size}
use Rattle.rules.specs.Effects.{Served, Serves, answer_to, bytes_filled, due_bytes, questions, step, verdict, words_filled}
use Rattle.rules.specs.LogPages.{list, list_length, listed_blocks, page, page_fields, wear_index}
use Rattle.rules.specs.Soundness.{sound}
use Rattle.rules.specs.Start.{empty_table, started, table_of_zeros}
use Rattle.rules.proofs.Blocks as blocks
use Rattle.rules.proofs.Domains as domains
use Rattle.rules.proofs.Effects as effects
use Rattle.rules.proofs.Found as found
use Rattle.rules.proofs.Kept.Tested.{facts_of}
use Rattle.rules.proofs.LogPages as pages
use Rattle.rules.proofs.Questions as asked
use Rattle.rules.proofs.Runs as runs
use Rattle.rules.proofs.Start as start

-- A start within the limits gives the table without domains, which is sound; any other is refused with 1 and the table of zeros,
-- which is never sound.
pub start_accepted : (c : Config) → within_limits c ≡ true → started c ≡ record { answer = success []; table = empty_table c }
start_accepted c within = start.start_accepted c within

pub started_sound : (c : Config) → within_limits c ≡ true → sound (started c).table ≡ true
started_sound c within = start.started_sound c within

pub start_refused : (c : Config) → within_limits c ≡ false → started c ≡ record { answer = refusal 1; table = table_of_zeros }
start_refused c outside = start.start_refused c outside

pub zeros_unsound : sound table_of_zeros ≡ false
zeros_unsound = start.zeros_unsound

-- Each call's questions have rising numbers from 2 to 16, which is document 01's order.
pub questions_in_order : (v : Drive) (k : Call) → rising 1 (questions v k) ≡ true
questions_in_order v k = asked.in_order_lem v k

-- Every call has something to hand back.
pub always_answered : (v : Drive) (k : Call) (words bytes : List ℕ) → (r : Served) × Serves v k words bytes r
always_answered v k words bytes = effects.always_answered v k words bytes

-- And nothing else: two calls that both meet the contract hand back the same.
pub handed_back_once : (v : Drive) (k : Call) (words bytes : List ℕ) (r s : Served)
    → Serves v k words bytes r → Serves v k words bytes s → r ≡ s
handed_back_once v k words bytes r s x y = effects.handed_back_once v k words bytes r s x y

-- A refusal is a number alone, and leaves table, store, words and bytes as they were.
pub refused_unchanged : (v : Drive) (k : Call) (words bytes : List ℕ) (r : Served)
    → Serves v k words bytes r
    → ¬ (r.answer.number ≡ 0)
    → Unchanged v words bytes r
refused_unchanged v k words bytes r serves refused = effects.refused_unchanged v k words bytes r serves refused

-- What is filled fits what is lent.
pub words_fit : (v : Drive) (k : Call) → length (words_filled v k) ≤ k.lent.words
words_fit v k = effects.words_fit v k

pub bytes_fit : (v : Drive) (k : Call) → length (bytes_filled v k) ≤ k.lent.bytes
bytes_fit v k = effects.bytes_fit v k

-- Page and List fill as many bytes as question 7 asks for, and each field of the page stands in its place.
pub page_length : (t : Table) (n : ℕ) → length (page t.config n (block_at t n)) ≡ 256
page_length t n = pages.page_length t.config n (block_at t n)

pub page_layout : (c : Config) (n : ℕ) (b : Block) → Layout (page_fields c n b) (page c n b)
page_layout c n b = pages.page_layout c n b

pub list_length_lem : (t : Table) (d : ℕ) (which : Listed) → sound t ≡ true → is_domain_id d ≡ true
    → length (list t d which) ≡ list_length t d which
list_length_lem t d which is_sound id =
    let v : Drive = record { table = t; store = [] } in
    pages.list_length_lem v d (is_between 1 16 d id).least (facts_of v is_sound) which

-- 02, Wish 2: each listed block stands in its list once and nothing else does, and their serials rise strictly.
pub lists_in_order : (t : Table) (d : ℕ) (which : Listed) → sound t ≡ true → is_domain_id d ≡ true
    → ListsInOrder t d which (listed_blocks t d which)
lists_in_order t d which is_sound id =
    let v : Drive = record { table = t; store = [] } in
    pages.lists_in_order v d (is_between 1 16 d id).least (facts_of v is_sound) which

-- 02, Wish 3: for N of at least 1 the P/E index is count × 200 / N to the nearest whole, halves up, and then capped at
-- 255. It is never above 255, and never falls as the count rises.
pub index_nearest : (rated erases : ℕ) → 0 < rated → IndexToTheNearest rated erases (wear_index rated erases)
index_nearest rated erases positive = pages.index_nearest rated erases positive

pub index_most : (rated erases : ℕ) → wear_index rated erases ≤ 255
index_most rated erases = pages.index_most rated erases

pub index_rises : (rated m n : ℕ) → m ≤ n → wear_index rated m ≤ wear_index rated n
index_rises rated m n less = pages.index_rises rated m n less

-- Of what Page fills, byte 12 is the block's P/E index. Of what a List of either kind fills, the descriptor at place i
-- begins with the number of the listed block at place i, in four bytes, and that block's P/E index.
pub index_in_page : (t : Table) (n : ℕ)
    → bytes_at 12 1 (due_bytes t (page_bytes n)) ≡ wear_index t.config.rated (block_at t n).erases ∷ []
index_in_page t n = pages.index_in_page t.config n (block_at t n)

pub index_in_list : (t : Table) (d : ℕ) (which : Listed) (i : ℕ) → i < length (listed_blocks t d which)
    → let n = get_or (listed_blocks t d which) i 0 in
    let index = wear_index t.config.rated (block_at t n).erases in
    bytes_at (8 * i) 5 (due_bytes t (list_bytes d which)) ≡ little_endian 4 n ++ (index ∷ [])
index_in_list t d which i inside = pages.index_in_list t d which i inside

-- The chosen block is Free, has the least P/E count, and is the lowest of those; none is chosen only where none is Free, so
-- that a freed block is given out like any other.
pub chosen_least : (t : Table) (n : ℕ) → chosen_block t ≡ some n → Chosen t (size t) n
chosen_least t n chosen = subst (blocks.Choice t (size t)) chosen (blocks.choice t (size t))

pub none_chosen : (t : Table) → chosen_block t ≡ none → (n : ℕ) → n < size t → is_free (block_at t n) ≡ false
none_chosen t nothing = subst (blocks.Choice t (size t)) nothing (blocks.choice t (size t))

-- Each block goes from state to state only by the changes of a block's record; it is opened for the command's own domain alone,
-- with a new serial of that and for T seconds.
pub only_by_changes : (v : Drive) (k : Call) (n : ℕ)
    → let own = own_domain k.asks in
    Reached own (domain_at v.table own).last v.table.config.period
    (block_at v.table n)
    (block_at (step k v).table n)
only_by_changes v k n = (runs.follows v k).reached n

-- A block without a new serial of the command's own domain has no more seconds left than before: no write, no Close and no
-- refused command winds the countdown up again.
pub never_rewound : (v : Drive) (k : Call) (n : ℕ)
    → let own = own_domain k.asks in
    has_new_serial own (domain_at v.table own).last (block_at (step k v).table n) ≡ false
    → (block_at (step k v).table n).left ≤ (block_at v.table n).left
never_rewound v k n old =
    let by = only_by_changes v k n in
    rw by.1
    (old_not_rewound (own_domain k.asks) _ _ by.0 (block_at v.table n) by.2 (rw by.1 at old))

-- A command leaves every other domain's record alone: its guarantee, its quota, its limits and its last serial.
pub neighbours_unchanged : (v : Drive) (k : Call) (d : ℕ)
    → 0 < d
    → ¬ (own_domain k.asks ≡ d)
    → domain_at (step k v).table d ≡ domain_at v.table d
neighbours_unchanged v k d positive other = (runs.follows v k).others d positive other

-- 02, Wish 4: added up from domain 16 down to 1, the coverage begins with nothing, gains at each domain the larger of its reserved
-- blocks and its held blocks, and ends as the sum of the coverage rule.
pub coverage_begins : (reserved blocks : ℕ → ℕ) → coverage_from 17 reserved blocks ≡ 0
coverage_begins reserved blocks = domains.coverage_begins reserved blocks

pub coverage_adds : (d : ℕ) (reserved blocks : ℕ → ℕ) → d ≤ 16
    → coverage_from d reserved blocks ≡ coverage_from (d + 1) reserved blocks + max (reserved d) (blocks d)
coverage_adds d reserved blocks inside = domains.coverage_adds d reserved blocks inside

pub coverage_total : (reserved blocks : ℕ → ℕ) → coverage_from 1 reserved blocks ≡ coverage reserved blocks
coverage_total reserved blocks = domains.coverage_total reserved blocks

-- A pulse counts down each open block's record, and changes no other.
pub pulse_open : (v : Drive) (k : Call) (seconds n : ℕ)
    → verdict v (k asking Pulse seconds) ≡ 0
    → n < size v.table
    → block_at (step (k asking Pulse seconds) v).table n ≡ counted_down seconds (block_at v.table n)
pulse_open v k seconds n accepted inside = runs.pulse_open v k seconds n accepted inside

pub pulse_others : (v : Drive) (k : Call) (seconds n : ℕ)
    → is_open (block_at v.table n) ≡ false
    → block_at (step (k asking Pulse seconds) v).table n ≡ block_at v.table n
pulse_others v k seconds n not-open = runs.pulse_others v k seconds n not-open

-- Change Capacity leaves no quota below the guarantee or below what is held, and two zeros change nothing.
pub changed_order : (t : Table) (d : ℕ) (guarantee quota : Planes)
    → let r = changed_domain t d guarantee quota in (r.reserved ≤ r.quota) × (held_count t d ≤ r.quota)
changed_order t d guarantee quota = domains.changed_order t d guarantee quota

pub changed_by_zeros : (t : Table) (d : ℕ)
    → (domain_at t d).reserved ≤ (domain_at t d).quota
    → held_count t d ≤ (domain_at t d).quota
    → changed_domain t d (planes 0) (planes 0) ≡ domain_at t d
changed_by_zeros t d order held = domains.changed_by_zeros t d order held

-- An accepted Delete leaves nothing of the domain and all of the others.
pub deleted_gone : (v : Drive) (k : Call) (d : ℕ)
    → verdict v (k asking Delete d) ≡ 0
    → Gone d v.table (step (k asking Delete d) v).table
deleted_gone v k d accepted = runs.deleted_gone v k d accepted

-- An accepted Read gives as many user addresses as it asks for, those that were expected, unless all ones was, which matches
-- anything.
pub read_words_lem : (v : Drive) (k : Call) (d address : ℕ) (count : Adus) (expected : ℕ)
    → length v.store ≡ k.lent.store
    → let c = Read d address count expected in
    verdict v (k asking c) ≡ 0 → length (words_filled v (k asking c)) ≡ count.0
read_words_lem v k d address count expected own accepted = found.read_words_lem v k d address count expected own accepted

pub read_expected : (v : Drive) (k : Call) (d address : ℕ) (count : Adus) (expected : ℕ)
    → let c = Read d address count expected in
    verdict v (k asking c) ≡ 0
    → ¬ (expected ≡ all_ones)
    → (i : ℕ) → i < length (words_filled v (k asking c))
    → get_or (words_filled v (k asking c)) i 0 ≡ user_address expected i
read_expected v k d address count expected accepted told =
    found.read_expected v k d address count expected accepted told

-- In a drive whose table has an entry for each block and whose store is the one that is lent:
module _ (v : Drive) (k : Call) (whole : size v.table ≤ length v.table.blocks) (own : length v.store ≡ k.lent.store) where
  -- Every ADU of a block that an accepted Erase answers holds all ones.
  pub erased_all_ones : (d n m : ℕ)
      → verdict v (k asking Erase d n) ≡ 0
      → (answer_to v (k asking Erase d n)).values ≡ m ∷ []
      → (a : FlashAddress) → a.block ≡ m → a.offset.0 < (capacity v.table m).0
      → stored (step (k asking Erase d n) v) a 1 ≡ all_ones ∷ []
  erased_all_ones d n m accepted answer a same inside = found.erase_found v k whole own d n m accepted answer a same inside

  -- Each flash address that an accepted write hands back holds its user address; Write by block hands back one for each ADU.
  pub written_by_placement_lem : (d p start : ℕ) (count : Adus)
      → let c = WriteByPlacement d p start count in
      verdict v (k asking c) ≡ 0 → Found (step (k asking c) v) (words_filled v (k asking c)) (user_addresses start count.0)
  written_by_placement_lem d p start count accepted = found.placement_found v k whole own d p start count accepted

  pub written_by_block : (d n start : ℕ) (count : Adus)
      → let c = WriteByBlock d n start count in
      verdict v (k asking c) ≡ 0 → Found (step (k asking c) v) (words_filled v (k asking c)) (user_addresses start count.0)
  written_by_block d n start count accepted = found.block_found v k whole own d n start count accepted

pub block_words : (v : Drive) (k : Call) (d n start : ℕ) (count : Adus)
    → let c = WriteByBlock d n start count in
    verdict v (k asking c) ≡ 0 → length (words_filled v (k asking c)) ≡ count.0
block_words v k d n start count accepted = found.block_words v k d n start count accepted
