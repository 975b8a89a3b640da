-- A block more that is opened for what is left of a write, over the records of the blocks and of the owner.
use Prim.Native.Nat.{ℕ, ◌+◌, ◌-◌, ◌≤◌, ◌<◌}
use mathlib.Core.Bool.{true}
use mathlib.Core.List.{List, []}
use mathlib.Core.Option.{Option, none, some}
use mathlib.Core.Path.{◌≡◌, refl, sym, ap, subst, ◌∙◌}
use native.Mathlib.Omega.{arith}
use lib.Dec.{ltb}
use lib.ListN.{drop, get_or, length, length-append, set, get_or-append}
use lib.Seq.{get_or-set_same, set-append_left}
use borrow.Author.Tests.{lt-ltb, ne_eqb}
use Rattle.geometry.proofs.Laws.Shape.{by_test, is_between, limits}
use Rattle.geometry.specs.Address.{is_domain_id}
use Rattle.geometry.specs.Shape.{no_config, within_limits}
use Rattle.geometry.specs.declared.shape.Config.{Config}
use Rattle.model.specs.declared.block.Block.{Block}
use Rattle.model.specs.declared.table.Domain.{Domain}
use Rattle.model.specs.declared.table.Table.{Table}
use Rattle.placements.proofs.Next.{set_twice}
use Rattle.placements.proofs.Stepping.{new_less, rest_none, went_nowhere}
use Rattle.placements.proofs.Words.{overwritten_none}
use Rattle.placements.specs.Onwards.{GoesOn, MayGoOn, OpenedNext, WroteOnwards, nothing_left, rest_after_new}
use Rattle.placements.specs.declared.filling.Filled.{Filled}
use Rattle.placements.specs.declared.rest.Rest.{Rest}
use Rattle.rules.proofs.Blocks.{Choice, choice}
use Rattle.rules.proofs.Drive.{overwritten_nothing}
use Rattle.rules.specs.Blocks.{Written, chosen_block, chosen_to}
use Rattle.rules.specs.Drive.{block_at, clear_block, clear_domain, domain_at, is_free, overwritten, size, with_block, with_domain}
use Rattle.scan.proofs.Choices.{chosen_found}
use Rattle.scan.specs.Free.{Chosen, no_candidate}
use Rattle.scan.specs.Summary.{found_in, found_of}
use Rattle.scan.specs.declared.free.Candidate.{Candidate}
use Rattle.tables.specs.Changing.{present_blocks, table_with, with_owner}
use Rattle.tables.specs.Serving.{drive}

-- The records bs are those of the drive's blocks, and r is the one of domain d.
module _ (t : Table) (bs : List Block) (d : ℕ) (r : Domain) (long : length bs ≡ size t) where
  abbrev u : Table
  u = table_with bs d r t

  block_in_lem : (i : ℕ) → i < length bs → block_at u i ≡ get_or bs i clear_block
  block_in_lem i l = get_or-append bs _ clear_block i l

  owner_in : is_domain_id d ≡ true → length t.domains ≡ 16 → domain_at u d ≡ r
  unfolding with_owner
  owner_in id all =
      let between = is_between 1 16 d id in
      rw (ne_eqb d 0 (λ z. omega (arith, z, between.least))) (get_or-set_same t.domains (d - 1) r clear_domain (omega (arith, all, between.least, between.most)))

  put_in : is_domain_id d ≡ true → (n : ℕ) (b : Block) (r' : Domain) → n < length bs → with_domain d r' (with_block n b u) ≡ table_with (set bs n b) d r' t
  unfolding with_owner
  put_in id n b r' l =
      let between = is_between 1 16 d id in
      rw (ne_eqb d 0 (λ z. omega (arith, z, between.least)), set-append_left bs (drop _ t.blocks) n b l, set_twice t.domains (d - 1) r r')

  -- What is chosen among them is what the rules choose.
  chosen_in : (c : Candidate) → within_limits t.config ≡ true → Chosen 0 bs no_candidate c → found_in (found_of c.number) ≡ chosen_block u
  chosen_in c within walk =
      chosen_found u bs c (omega (arith, long, (limits t.config within).ranges.blocks.most)) block_in_lem walk ∙ ap (chosen_to u) long

-- The one that is chosen is Free.
pub chosen_free : (bs : List Block) (best : Candidate) → length bs ≤ 256 → Chosen 0 bs no_candidate best → best.number < length bs
    → is_free (get_or bs best.number clear_block) ≡ true
chosen_free bs best few walk l =
    let t : Table = record { config = no_config; domains = []; blocks = bs } in
    let found = chosen_found t bs best few (λ i k. refl) walk in
    let is : chosen_to t (length bs) ≡ some best.number = sym found ∙ rw (lt-ltb best.number 256 (omega (arith, l, few))) in
    (subst (λ (o : Option ℕ). Choice t (length bs) o) is (choice t (length bs))).free

-- The next block is one of the drive: it is opened and filled.
pub next_opened : (c : Config) (d n : ℕ) (r r' : Rest) (bs : List Block) (owner owner' : Domain) (b : Block) (best : Candidate)
    (store words store' words' : List ℕ) (entries word_count : ℕ)
    → MayGoOn c entries word_count d owner r → length bs ≡ c.blocks → Chosen 0 bs no_candidate best → best.number ≡ n → n < length bs
    → ((t : Table) → t.config ≡ c → domain_at t d ≡ owner → block_at t n ≡ get_or bs n clear_block → n < length t.blocks → chosen_block t ≡ some n
    → GoesOn d r (drive t store) words r' (drive (with_domain d owner' (with_block n b t)) store') words')
    → OpenedNext c d r bs owner store words r' (set bs n b) owner' store' words'
next_opened c d n r r' bs owner owner' b best store words store' words' entries word_count m long walk is l fills t same all =
    let whole : length bs ≡ size t = long ∙ ap (λ (x : Config). x.blocks) (sym same) in
    let within : within_limits t.config ≡ true = ap within_limits same ∙ m.within in
    let u = table_with bs d owner t in
    let few = (limits t.config within).ranges.blocks.most in
    let chosen : chosen_block u ≡ some n =
    sym (chosen_in t bs d owner whole best within walk) ∙ rw (is, lt-ltb n 256 (omega (arith, l, whole, few))) in
    let inside : n < length u.blocks = rw (length-append bs (drop _ t.blocks)) (omega (arith, l)) in
    subst (λ (x : Table). GoesOn d r (drive u store) words r' (drive x store') words') (put_in t bs d owner whole m.id n b owner' l)
    (fills u same (owner_in t bs d owner whole m.id all) (block_in_lem t bs d owner whole n l) inside chosen)

-- None is: nothing is written, and nothing is left.
pub next_none : (c : Config) (d : ℕ) (r : Rest) (bs : List Block) (owner : Domain) (best : Candidate) (store words : List ℕ) (entries word_count : ℕ)
    → MayGoOn c entries word_count d owner r → length bs ≡ c.blocks → Chosen 0 bs no_candidate best → length bs ≤ best.number
    → OpenedNext c d r bs owner store words nothing_left bs owner store words
next_none c d r bs owner best store words entries word_count m long walk l t same all w last went =
    let whole : length bs ≡ size t = long ∙ ap (λ (x : Config). x.blocks) (sym same) in
    let within : within_limits t.config ≡ true = ap within_limits same ∙ m.within in
    let u = table_with bs d owner t in
    let found = chosen_in t bs d owner whole best within walk in
    let none_chosen : chosen_block u ≡ none = none_inside (chosen_block u) refl found in
    let nothing = rest_none d r (drive u store) none_chosen in
    record {
      leaves = went.leaves ∙ ap (λ (x : Written). x.drive) (sym nothing);
      fills = went.fills ∙ overwritten_nothing words ∙ sym (overwritten_none r.done words)
          ∙ ap (λ (x : Written). overwritten r.done x.addresses words) (sym nothing);
    }
  where
    -- the number of a block that is found
    value : Option ℕ → ℕ
    value none = 0
    value (some k) = k + 1

    not_found : (n : ℕ) → found_in (found_of best.number) ≡ some n → n < best.number → ⊥
    not_found n e less = by_test (ltb best.number 256)
        (λ q. let is : best.number + 1 ≡ n + 1 = ap value (rw q at e) in omega (arith, is, less))
        (λ q. let is : 0 ≡ n + 1 = ap value (rw q at e) in omega (arith, is))

    none_inside : (o : Option ℕ) → chosen_block (table_with bs d owner t) ≡ o → found_in (found_of best.number) ≡ chosen_block (table_with bs d owner t)
        → chosen_block (table_with bs d owner t) ≡ none
    none_inside none e f = e
    none_inside (some n) e f =
        let chosen = subst (λ (o : Option ℕ). Choice (table_with bs d owner t) (size t) o) e (choice (table_with bs d owner t) (size t)) in
        absurd (not_found n (f ∙ e) (omega (arith, chosen.inside, l, long, ap (λ (x : Config). x.blocks) same)))

-- ---- Block after block

-- What `open_next` ensures of its result f, and of the blocks, the store and the words at the exit.
abbrev pub Opens : Config → ℕ → Domain → Rest → List Block → List ℕ → List ℕ → Filled → List Block → List ℕ → List ℕ → Type 0
Opens c d owner r bs store words f bs' store' words' =
    ((best : Candidate) × Chosen 0 bs no_candidate best × (f.rest ≡ rest_after_new c best.number r))
    × (¬ (f.rest.count.0 ≡ 0) → MayGoOn c (length store') (length words') d f.owner f.rest)
    × OpenedNext c d r bs owner store words f.rest bs' f.owner store' words'

-- Less is left then.
pub opens_less : (c : Config) (d : ℕ) (owner : Domain) (r : Rest) (bs : List Block) (store words : List ℕ) (f : Filled) (bs' : List Block) (store' words' : List ℕ)
    → within_limits c ≡ true → ¬ (r.count.0 ≡ 0) → Opens c d owner r bs store words f bs' store' words' → f.rest.count.0 < r.count.0
opens_less c d owner r bs store words f bs' store' words' within ne opens = rw opens.0.2 (new_less c opens.0.0.number r within ne)

-- Once nothing is left, all is written.
pub all_written : (c : Config) (d : ℕ) (r left : Rest) (bs bs' : List Block) (owner owner' : Domain) (store words store' words' : List ℕ)
    → (r.count.0 ≡ 0 → owner' ≡ owner) → left.count.0 ≡ 0
    → OpenedNext c d r bs owner store words left bs' owner' store' words' → WroteOnwards c d r bs owner store words bs' owner' store' words'
all_written c d r left bs bs' owner owner' store words store' words' same_owner over goes =
    (same_owner, λ t same all. let v = drive (table_with bs' d owner' t) store' in goes t same all v words' (went_nowhere d left v words' over))

-- Within the limits, the blocks that are present are those of the configuration.
pub all_present : (c : Config) → within_limits c ≡ true → present_blocks c ≡ c.blocks
all_present c within = rw within
