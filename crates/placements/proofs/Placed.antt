-- A write by placement: into the open block, if there is one, and what is left from the table that this leaves.
use Rattle.std.specs.Prelude as std
use Prim.Native.Nat.{ℕ, zero, suc, ◌+◌, ◌-◌, ◌<◌, min}
use mathlib.Core.Bool.{true}
use mathlib.Core.List.{List, [], ◌∷◌}
use mathlib.Core.Option.{Option, none, some}
use mathlib.Core.Path.{◌≡◌, refl, sym, ap, subst, ◌∙◌}
use native.Mathlib.Omega.{arith}
use lib.ListN.{get_or, length, set}
use Rattle.geometry.proofs.Laws.Shape.{is_between}
use Rattle.geometry.specs.Shape.{adus, adus_per_block, within_limits}
use Rattle.geometry.specs.declared.shape.Config.{Config}
use Rattle.model.specs.declared.block.Block.{Block}
use Rattle.model.specs.declared.table.Domain.{Domain}
use Rattle.model.specs.declared.table.Table.{Table}
use Rattle.placements.proofs.Stepping.{after_from, and_then, first_config, placed_both, rest_onwards, some_adus}
use Rattle.placements.proofs.Words.{overwritten_two}
use Rattle.placements.specs.Onwards.{WentOn, onwards, rest_after, rest_from, rest_written, whole_write}
use Rattle.placements.specs.Placing.{MayFill, MayPlace, Places, into_table, put_change, room_of, room_seen}
use Rattle.placements.specs.declared.rest.Rest.{Rest}
use Rattle.rules.proofs.Counting.{length_row}
use Rattle.rules.proofs.Drive.{overwritten_nothing}
use Rattle.rules.proofs.Effects.{written_length}
use Rattle.rules.specs.Blocks.{Written, room_in, user_address, user_addresses, written_by_placement, written_first, written_into}
use Rattle.rules.specs.Drive.{Drive, block_at, clear_domain, domain_at, open_block, overwritten, with_block, with_domain}
use Rattle.rules.specs.Questions.{user_addresses_fit}
use Rattle.scan.proofs.Seeing.{changed_domain_lem, changed_opening}
use Rattle.scan.specs.Summary.{SeesFound, found_in}
use Rattle.scan.specs.declared.summary.Summary.{Summary}
use Rattle.tables.specs.Changing.{changed_table}
use Rattle.tables.specs.Serving.{drive}
use Rattle.tables.specs.declared.change.Change.{Change}
use Rattle.transfers.specs.Transfers.{Wrote}

-- ---- The open block

-- It may be given what fits it.
pub may_fill : (x : Summary) (entries d count put : ℕ) → MayPlace x entries d count → put ≡ min count (room_seen x) → MayFill x entries d put
may_fill x entries d count put m puts = record {
  whole = m.whole;
  all_entries = m.all_entries;
  writes = λ n f.
      let room : room_seen x ≡ (adus_per_block x.config).0 - x.block.written.0 = ap (λ (o : std.Option ℕ). room_of o x.config x.block) f in
      let l = m.open_room n f in
      record {
        limits = m.within;
        id = m.id;
        inside = m.open_inside n f;
        some_written = omega (arith, puts, room, l, m.some_written);
        fits = omega (arith, puts, room, l);
      };
}

pub into_none : (d : ℕ) (x : Summary) (o : Option ℕ) (users : List ℕ) (b : Block) (t : Table) (store words : List ℕ) → x.sound ≡ true → SeesFound t o x
    → x.found ≡ std.None → Wrote (written_first d o users (drive t store)) words (drive (into_table x.found b t) store) words
into_none d x o users b t store words whole s e =
    let is : o ≡ none = sym (s.same_found whole) ∙ ap found_in e in
    rw (is, e) record { leaves = refl; fills = sym (overwritten_nothing words) }

pub into_one : (d n : ℕ) (x : Summary) (o : Option ℕ) (users : List ℕ) (b : Block) (t : Table) (store after words filled : List ℕ) → x.sound ≡ true → SeesFound t o x
    → x.found ≡ std.Some n
    → (block_at t n ≡ x.block → Wrote (written_into d n users (drive t store)) words (drive (with_block n b t) after) filled)
    → Wrote (written_first d o users (drive t store)) words (drive (into_table x.found b t) after) filled
into_one d n x o users b t store after words filled whole s e writes =
    let is : o ≡ some n = sym (s.same_found whole) ∙ ap found_in e in
    rw (is, e) (writes (sym (s.found_block whole n is)))

-- ---- The change

-- Setting an entry to what it is changes nothing.
set_own : {A : Type 0} (xs : List A) (i : ℕ) (d : A) → set xs i (get_or xs i d) ≡ xs
set_own [] i d = refl
set_own (x ∷ xs) zero d = refl
set_own (x ∷ xs) (suc i) d = ap (λ ys. x ∷ ys) (set_own xs i d)

own_domain_lem : (t : Table) (d : ℕ) → with_domain d (domain_at t d) t ≡ t
own_domain_lem t d = rw (set_own t.domains (d - 1) clear_domain)

-- Whether there is a block or not, the owner's record is changed.
pub put_domain : (o : std.Option ℕ) (b : Block) (d : ℕ) (r : Domain) → (put_change o b d r).domain ≡ d
put_domain std.None b d r = refl
put_domain (std.Some n) b d r = refl

pub put_owner : (o : std.Option ℕ) (b : Block) (d : ℕ) (r : Domain) → (put_change o b d r).owner ≡ r
put_owner std.None b d r = refl
put_owner (std.Some n) b d r = refl

-- The block's new record, and its owner's own.
placed_change : (t : Table) (x : Summary) (d p count entries : ℕ) (b : Block) → Places t d p x → MayPlace x entries d count
    → (o : std.Option ℕ) → x.found ≡ o → changed_table (put_change o b d x.domain) t ≡ into_table o b t
placed_change t x d p count entries b s m std.None f =
    changed_domain_lem t d x.domain (λ z. omega (arith, z, (is_between 1 16 d m.id).least))
    ∙ ap (λ r. with_domain d r t) (sym s.same_owner) ∙ own_domain_lem t d
placed_change t x d p count entries b s m (std.Some n) f =
    changed_opening t n b d x.domain (ap within_limits s.same_config ∙ m.within) (rw s.same_config (m.open_inside n f))
    (λ z. omega (arith, z, (is_between 1 16 d m.id).least))
    ∙ ap (λ r. with_domain d r (with_block n b t)) (sym s.same_owner) ∙ own_domain_lem (with_block n b t) d

-- ---- The whole write

room_same : (t : Table) (x : Summary) (o : Option ℕ) → t.config ≡ x.config → x.sound ≡ true → SeesFound t o x → (f : std.Option ℕ) → x.found ≡ f → room_in t o ≡ room_seen x
room_same t x o same whole s std.None f =
    ap (room_in t) (sym (s.same_found whole) ∙ ap found_in f) ∙ sym (ap (λ (k : std.Option ℕ). room_of k x.config x.block) f)
room_same t x o same whole s (std.Some n) f =
    let is : o ≡ some n = sym (s.same_found whole) ∙ ap found_in f in
    ap (room_in t) is
    ∙ ap (λ (c : Config). (adus_per_block c).0 - (block_at t n).written.0) same
    ∙ ap (λ (b : Block). (adus_per_block x.config).0 - b.written.0) (sym (s.found_block whole n is))
    ∙ sym (ap (λ (k : std.Option ℕ). room_of k x.config x.block) f)

first_long : (d : ℕ) (o : Option ℕ) (start put : ℕ) (v : Drive) → (o ≡ none → put ≡ 0)
    → length (written_first d o (user_addresses start put) v).addresses ≡ put
first_long d none start put v z = sym (z refl)
first_long d (some n) start put v z = written_length d n (user_addresses start put) v ∙ length_row (user_address start) put

-- Whatever writes what the open block leaves has done the whole write.
abbrev pub Leads : Table → ℕ → ℕ → ℕ → ℕ → Rest → Change → List ℕ → List ℕ → List ℕ → List ℕ → Type 0
Leads t d p start count rest change store middle words filled =
    (u : Drive) (last : List ℕ) → WentOn d rest (drive (changed_table change t) middle) filled u last
    → Wrote (written_by_placement d p (user_addresses start count) (drive t store)) words u last

pub placed_wrote : (t : Table) (x : Summary) (d p start count put entries : ℕ) (b : Block) (store middle words filled : List ℕ)
    → Places t d p x → MayPlace x entries d count → user_addresses_fit start count ≡ true → put ≡ min count (room_seen x)
    → Wrote (written_first d (open_block t d p) (user_addresses start put) (drive t store)) words (drive (into_table x.found b t) middle) filled
    → Leads t d p start count (rest_after (whole_write p start (adus count)) (room_seen x)) (put_change x.found b d x.domain) store middle words filled
placed_wrote t x d p start count put entries b store middle words filled s m fit puts first u last went-after =
    let v = drive t store in
    let o = open_block t d p in
    let left = drive (changed_table (put_change x.found b d x.domain) t) middle in
    let rest = rest_from (whole_write p start (adus count)) put in
    let room : room_in t o ≡ room_seen x = room_same t x o s.same_config m.whole s.seen x.found refl in
    let put_is : put ≡ min count (room_in t o) = puts ∙ ap (min count) (sym room) in
    let one = written_first d o (user_addresses start put) v in
    let two = onwards d p (user_address start put) (count - put) one.drive in
    let both : written_by_placement d p (user_addresses start count) v ≡ and_then one two =
    placed_both d p start count v o refl fit
    ∙ ap (λ (k : ℕ). and_then (written_first d o (user_addresses start k) v) (onwards d p (user_address start k) (count - k) (written_first d o (user_addresses start k) v).drive)) (sym put_is) in
    let from : left ≡ one.drive =
    ap (λ (y : Table). drive y middle) (placed_change t x d p count entries b s m x.found refl) ∙ first.leaves in
    let has_adus : 0 < (adus_per_block one.drive.table.config).0 =
    rw (first_config d o (user_addresses start put) v, s.same_config) (some_adus x.config m.within) in
    let is_two : rest_written d rest left ≡ two = ap (rest_written d rest) from ∙ rest_onwards d rest one.drive has_adus in
    let long : length one.addresses ≡ put = first_long d o start put v (λ z. put_is ∙ ap (λ (k : Option ℕ). min count (room_in t k)) z ∙ omega arith) in
    let went : WentOn d rest left filled u last =
    subst (λ (k : ℕ). WentOn d (rest_from (whole_write p start (adus count)) k) left filled u last) (sym puts)
    (after_from d (room_seen x) (whole_write p start (adus count)) left filled u last went-after) in
    record {
      leaves = went.leaves ∙ ap (λ (w : Written). w.drive) is_two ∙ ap (λ (w : Written). w.drive) (sym both);
      fills = went.fills
          ∙ ap (λ (w : Written). overwritten (0 + put) w.addresses filled) is_two
          ∙ ap (λ (row : List ℕ). overwritten (0 + put) two.addresses row) first.fills
          ∙ overwritten_two 0 (0 + put) one.addresses two.addresses words (omega arith) (omega (arith, long))
          ∙ ap (λ (w : Written). overwritten 0 w.addresses words) (sym both);
    }
