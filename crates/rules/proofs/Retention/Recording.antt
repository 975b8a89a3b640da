-- A domain that only the recorder uses: what its blocks are, what it keeps, and that every change leaves it so.
use Prim.Native.Nat.{ℕ, zero, suc, ◌+◌, ◌-◌, ◌*◌, ◌≤◌, ◌<◌, min}
use mathlib.Core.Bool.{true, false, true≢false, ◌&&◌, cond}
use mathlib.Core.List.{List, [], ◌∷◌, ◌++◌, append_assoc}
use mathlib.Core.Option.{none, some}
use mathlib.Core.Path.{◌≡◌, refl, sym, ap, ap₂, ◌∙◌, subst}
use native.Mathlib.Nat.{add-mul, mul-le-mul_right, zero-mul}
use native.Mathlib.Numerals.{add-one}
use native.Mathlib.Omega.{arith}
use lib.Dec.{eqb, ltb}
use lib.ListN.{drop, get_or, length, length-append, length-set, take, take-append-drop}
use lib.Seq.{drop-append-add}
use borrow.Author.Tests.{eq-eqb, eqb-true, ltb-false}
use Rattle.geometry.proofs.Laws.Shape.{by_test}
use Rattle.geometry.specs.Shape.{adus_per_block}
use Rattle.geometry.specs.declared.shape.Adus.{Adus}
use Rattle.geometry.specs.declared.shape.Config.{Config}
use Rattle.model.specs.Blocks.{closed, counted_from, written_on}
use Rattle.model.specs.declared.block.Block.{Block}
use Rattle.model.specs.declared.block.State.{State}
use Rattle.model.specs.declared.block.State.TheVariants as state
use Rattle.model.specs.declared.block.Way.TheVariants as way
use Rattle.model.specs.declared.table.Domain.{Domain}
use Rattle.rules.specs.Blocks.{next_serial, opened_for, with_last, written_into}
use Rattle.rules.specs.Claims.{Oldest}
use Rattle.rules.specs.Counting.{sum_to}
use Rattle.rules.specs.Drive.{Drive, block_at, by_serial_to, clear_domain, domain_at, entries_of, held_by, held_count, is_closed, is_closed_state, is_open, is_open_for, is_open_state, is_placed_state, overwritten, size}
use Rattle.rules.specs.Observation.{Holding, Holds, holding_at, serial_at}
use Rattle.rules.specs.Recorder.{freed_if_any, has_recorder_shape, kept, last_of, written_in}
use Rattle.rules.specs.Retention.{EndsWith, retained}
use Rattle.rules.proofs.Counting.{by_eq}
use Rattle.rules.proofs.Kept.Changes.{HeldBlock, Openable, Writable, freed_changed, freed_facts, freed_not_held, opened_changed, opened_domain, opened_held, opened_record}
use Rattle.rules.proofs.Kept.Changes.{not_held, written_changed, written_domains, written_held}
use Rattle.rules.proofs.Kept.Entries.{entries_length}
use Rattle.rules.proofs.Kept.Facts.{Facts}
use Rattle.rules.proofs.Kept.Holdings.{seen_of, written_holding}
use Rattle.rules.proofs.Kept.Onwards.{OpenTo}
use Rattle.rules.proofs.Kept.Views.{Alike, Changed, alike_back, held_view, one, view, view_changed, weight}
use Rattle.rules.proofs.Noninterference.Blocks.{fill_holding, open_holding}
use Rattle.rules.proofs.Noninterference.Pairing.{partner, same_holdings}
use Rattle.rules.proofs.Noninterference.Samples.{end_changed, freed_kept, kept_length, kept_same, kept_to, opened_kept, serial_same, take_overwritten, written}
use Rattle.rules.proofs.Serials.{serial_given_lem}
use Rattle.rules.proofs.Writes.{Ready}

-- ---- Lists

-- A list that is the end of another, and has all of it or at least m entries, ends with the last m of that.
pub ends_with : (m : ℕ) (dropped end : List ℕ) → (1 ≤ length dropped → m ≤ length end) → EndsWith end (last_of m (dropped ++ end))
ends_with m [] end enough = (take (length end - m) end, sym (take-append-drop (length end - m) end))
ends_with m (x ∷ dropped) end enough =
    let xs = x ∷ dropped in
    let k = length end - m in
    let few : m ≤ length end = enough (omega arith) in
    let cut : length (xs ++ end) - m ≡ length xs + k = rw (length-append xs end) (omega (arith, few)) in
    let same : last_of m (xs ++ end) ≡ drop k end =
    ap (λ (i : ℕ). drop i (xs ++ end)) cut ∙ drop-append-add xs end k in
    (take k end, sym (ap (λ (l : List ℕ). take k end ++ l) same ∙ take-append-drop k end))

-- ---- A domain that only the recorder uses

-- Each of its blocks was opened for placement 0. An open one has the last serial, a Closed one is full.
abbrev StandsAs : ℕ → ℕ → State → Holding → Type 0
StandsAs last c state.Free h = ⊥
StandsAs last c (state.Open way.Erase) h = ⊥
StandsAs last c (state.Open (way.Placement p)) h = (p ≡ 0) × (h.serial ≡ last)
StandsAs last c (state.Closed way) h = h.written ≡ c

abbrev Stands : ℕ → ℕ → Holding → Type 0
Stands last c h = StandsAs last c h.state h

-- The samples so far are those that were dropped and those that are kept; if any was dropped, enough are kept.
pub record Recording (a : ℕ) (xs : List ℕ) (v : Drive) : Type 0 where
  pub there : (domain_at v.table a).exists ≡ true
  pub shaped : has_recorder_shape (domain_at v.table a) ≡ true
  pub each : (n : ℕ) → Holds a v n → Stands (domain_at v.table a).last (adus_per_block v.table.config).0 (holding_at v n)
  pub dropped : List ℕ
  pub all : xs ≡ dropped ++ kept v a
  pub enough : 1 ≤ length dropped → retained a v ≤ length (kept v a)

-- A drive that the domain cannot tell from another.
pub recording_alike : {a : ℕ} {xs : List ℕ} {v w : Drive} → 1 ≤ a → Facts w → Alike a v w → Recording a xs v → Recording a xs w
recording_alike {a} {xs} {v} {w} low facts s r =
    let same = kept_same (same_holdings low facts s) s.domain in
    record {
      there = ap (λ (d : Domain). d.exists) (sym s.domain) ∙ r.there;
      shaped = ap (λ (d : Domain). has_recorder_shape d) (sym s.domain) ∙ r.shaped;
      each = λ n h.
          let x = partner (alike_back s) n h in
          subst (λ (c : Config). Stands (domain_at w.table a).last (adus_per_block c).0 (holding_at w n)) s.config
          (subst (λ (d : Domain). Stands d.last (adus_per_block v.table.config).0 (holding_at w n)) s.domain
          (subst (λ (y : Holding). Stands (domain_at v.table a).last (adus_per_block v.table.config).0 y) (sym x.2)
          (r.each x.0 x.1)));
      dropped = r.dropped;
      all = r.all ∙ ap (λ (l : List ℕ). r.dropped ++ l) same;
      enough = λ some-dropped.
          subst (λ (l : List ℕ). retained a w ≤ length l) same
          (subst (λ (c : Config). ((domain_at w.table a).quota - 1) * (adus_per_block c).0 ≤ length (kept v a)) s.config
          (subst (λ (d : Domain). (d.quota - 1) * (adus_per_block v.table.config).0 ≤ length (kept v a)) s.domain
          (r.enough some-dropped)));
    }

-- ---- A sample is written into the open block

-- An open block has the last serial.
open_last : (last c : ℕ) (s : State) (h : Holding) → is_placed_state 0 s ≡ true → StandsAs last c s h → h.serial ≡ last
open_last last c state.Free h e stands = absurd (true≢false (sym e))
open_last last c (state.Open way.Erase) h e stands = absurd (true≢false (sym e))
open_last last c (state.Open (way.Placement p)) h e stands = stands.1
open_last last c (state.Closed way) h e stands = absurd (true≢false (sym e))

module _ {a n u : ℕ} {v : Drive} (facts : Facts v) (x : Writable a n (u ∷ []) v) (facts' : Facts (written_into a n (u ∷ []) v).drive)
    (opened : is_open_for 0 (block_at v.table n) ≡ true) (serial-is : serial_at v n ≡ (domain_at v.table a).last) where
  abbrev w : Drive
  w = (written_into a n (u ∷ []) v).drive

  abbrev c : ℕ
  c = (adus_per_block v.table.config).0

  abbrev last : ℕ
  last = (domain_at v.table a).last

  holds : Holds a v n
  holds = (x.inside, x.held)

  config_same : w.table.config ≡ v.table.config
  config_same = (written_changed x).config

  domain_same : domain_at w.table a ≡ domain_at v.table a
  domain_same = ap (λ (l : List Domain). get_or l (a - 1) clear_domain) (written_domains x)

  holds' : Holds a w n
  holds' = (subst (λ (k : Config). n < k.blocks) (sym config_same) x.inside, written_held x)

  -- What the block is after the write.
  filled_as : (s : State) (serial written left : ℕ) (entries : List ℕ) → is_placed_state 0 s ≡ true → written + 1 ≤ c → serial ≡ last
      → let h = written_holding (u ∷ []) c (record { serial = serial; state = s; written = written; left = left; entries = entries }) in
      Stands last c h × (h.serial ≡ serial) × (h.written ≡ written + 1) × (h.entries ≡ overwritten written (u ∷ []) entries)
  unfolding written_on closed
  filled_as state.Free serial written left entries e fits is = absurd (true≢false (sym e))
  filled_as (state.Open way.Erase) serial written left entries e fits is = absurd (true≢false (sym e))
  filled_as (state.Open (way.Placement p)) serial written left entries e fits is =
      by_test (ltb (min (written + 1) c) c)
      (λ l. rw l ((eqb-true p 0 e, is), refl, omega (arith, fits), refl))
      (λ l. rw l (omega (arith, fits, ltb-false (min (written + 1) c) c l), refl, omega (arith, fits), refl))
  filled_as (state.Closed way) serial written left entries e fits is = absurd (true≢false (sym e))

  abbrev b : Block
  b = block_at v.table n

  filled : Stands last c (holding_at w n) × (serial_at w n ≡ serial_at v n) × ((block_at w.table n).written.0 ≡ b.written.0 + 1)
      × (entries_of w n ≡ overwritten b.written.0 (u ∷ []) (entries_of v n))
  filled =
      subst (λ (h : Holding). Stands last c h × (h.serial ≡ serial_at v n) × (h.written ≡ b.written.0 + 1)
      × (h.entries ≡ overwritten b.written.0 (u ∷ []) (entries_of v n))) (sym (fill_holding x))
      (filled_as b.state b.serial b.written.0 b.left (entries_of v n) opened x.fits serial-is)

  -- The sample stands at the end of what is kept.
  pub sample_last : kept w a ≡ kept v a ++ (u ∷ [])
  sample_last =
      let given = serial_given_lem v a x.low facts n holds in
      let e = end_changed (written_changed x) holds holds' filled.1 serial-is (ap (λ (d : Domain). d.last) domain_same) given.0
      (facts.unique a (serial_at v n) x.low) (facts'.unique a (serial_at v n) x.low) in
      let at = b.written.0 in
      let room : at ≤ length (entries_of v n) = omega (arith, x.fits, entries_length v.table.config v n x.ready x.inside) in
      let written_more : written_in w n ≡ written_in v n ++ (u ∷ []) =
      ap₂ (λ (k : ℕ) (l : List ℕ). take k l) filled.2 filled.3 ∙ take_overwritten at (u ∷ []) (entries_of v n) room in
      e.2 ∙ ap (λ (l : List ℕ). e.0 ++ l) written_more
      ∙ sym (append_assoc e.0 (written_in v n) (u ∷ [])) ∙ ap (λ (l : List ℕ). l ++ (u ∷ [])) (sym e.1)

  recording_so : (xs : List ℕ) → Recording a xs v → Recording a (xs ++ (u ∷ [])) w
  recording_so xs r = record {
    there = ap (λ (d : Domain). d.exists) domain_same ∙ r.there;
    shaped = ap (λ (d : Domain). has_recorder_shape d) domain_same ∙ r.shaped;
    each = λ m h.
        subst (λ (d : Domain). Stands d.last (adus_per_block w.table.config).0 (holding_at w m)) (sym domain_same)
        (subst (λ (k : Config). Stands last (adus_per_block k).0 (holding_at w m)) (sym config_same)
        (by_eq m n
        (λ e. subst (λ (i : ℕ). Stands last c (holding_at w i)) (sym e) filled.0)
        (λ other.
        let inside : m < size v.table = subst (λ (k : Config). m < k.blocks) config_same h.0 in
        let same_block = (written_changed x).blocks m other in
        let same_holding_lem : holding_at w m ≡ holding_at v m =
        ap₂ (λ (y : Block) (es : List ℕ). seen_of y es) same_block ((written_changed x).entries m inside other) in
        subst (λ (y : Holding). Stands last c y) (sym same_holding_lem)
        (r.each m (inside, subst (λ (y : Block). held_by a y ≡ true) same_block h.1)))));
    dropped = r.dropped;
    all = ap (λ (l : List ℕ). l ++ (u ∷ [])) r.all ∙ append_assoc r.dropped (kept v a) (u ∷ [])
        ∙ ap (λ (l : List ℕ). r.dropped ++ l) (sym sample_last);
    enough = λ some-dropped.
        subst (λ (l : List ℕ). retained a w ≤ length l) (sym sample_last)
        (subst (λ (k : Config). ((domain_at w.table a).quota - 1) * (adus_per_block k).0 ≤ length (kept v a ++ (u ∷ []))) (sym config_same)
        (subst (λ (d : Domain). (d.quota - 1) * c ≤ length (kept v a ++ (u ∷ []))) (sym domain_same)
        (omega (arith, r.enough some-dropped, length-append (kept v a) (u ∷ [])))));
  }

pub recording_written : {a n u : ℕ} {xs : List ℕ} {v : Drive} → Facts v → (x : Writable a n (u ∷ []) v) → Facts (written_into a n (u ∷ []) v).drive
    → is_open_for 0 (block_at v.table n) ≡ true → Recording a xs v → Recording a (xs ++ (u ∷ [])) (written_into a n (u ∷ []) v).drive
recording_written {a} {n} {u} {xs} {v} facts x facts' opened r =
    recording_so facts x facts' opened
    (open_last (domain_at v.table a).last (adus_per_block v.table.config).0 (block_at v.table n).state (holding_at v n) opened (r.each n (x.inside, x.held)))
    xs r

-- Where no block is open for placement 0, all are Closed.
closed_all : (last last' c : ℕ) (s : State) (h : Holding) → is_placed_state 0 s ≡ false → StandsAs last c s h
    → StandsAs last' c s h × (is_closed_state s ≡ true) × (h.written ≡ c)
closed_all last last' c state.Free h e stands = absurd stands
closed_all last last' c (state.Open way.Erase) h e stands = absurd stands
closed_all last last' c (state.Open (way.Placement p)) h e stands = absurd (true≢false (sym (eq-eqb p 0 stands.0) ∙ e))
closed_all last last' c (state.Closed way) h e stands = (stands, refl, stands)

-- ---- A block is opened

module _ {a n : ℕ} {v : Drive} (o : Openable a n v) (facts' : Facts (opened_for a (way.Placement 0) n v)) where
  abbrev opening : Drive
  opening = opened_for a (way.Placement 0) n v

  changed : Changed a n v opening
  changed = opened_changed o (way.Placement 0)

  abbrev most : ℕ
  most = (adus_per_block v.table.config).0

  abbrev final : ℕ
  final = (domain_at v.table a).last

  record_is : domain_at opening.table a ≡ with_last (next_serial v.table a) (domain_at v.table a)
  record_is = opened_domain o (way.Placement 0)

  pub last_is : (domain_at opening.table a).last ≡ final + 1
  last_is = ap (λ (d : Domain). d.last) record_is

  holds_opened : Holds a opening n
  holds_opened = (subst (λ (k : Config). n < k.blocks) (sym changed.config) o.inside, opened_held o (way.Placement 0))

  pub serial_opened : serial_at opening n ≡ final + 1
  serial_opened = ap (λ (y : Block). y.serial) (opened_record o (way.Placement 0))

  pub kept_opened : kept opening a ≡ kept v a
  kept_opened =
      opened_kept changed (not_held o (way.Placement 0)) holds_opened (serial_opened ∙ add-one final) (last_is ∙ add-one final)
      (facts'.unique a (serial_at opening n) o.low) (ap (λ (y : Block). y.written.0) (opened_record o (way.Placement 0)))

  pub recording_opened : {xs : List ℕ} → OpenTo v a 0 (size v.table) none → Recording a xs v → Recording a xs opening
  recording_opened idle r = record {
    there = ap (λ (d : Domain). d.exists) record_is ∙ r.there;
    shaped = ap (λ (d : Domain). has_recorder_shape d) record_is ∙ r.shaped;
    each = λ m h.
        subst (λ (k : Config). Stands (domain_at opening.table a).last (adus_per_block k).0 (holding_at opening m)) (sym changed.config)
        (by_eq m n
        (λ e. subst (λ (i : ℕ). Stands (domain_at opening.table a).last most (holding_at opening i)) (sym e)
        (subst (λ (y : Holding). Stands (domain_at opening.table a).last most y) (sym (open_holding o (way.Placement 0)))
        (refl, sym last_is)))
        (λ other.
        let inside : m < size v.table = subst (λ (k : Config). m < k.blocks) changed.config h.0 in
        let same_block = changed.blocks m other in
        let held : held_by a (block_at v.table m) ≡ true = subst (λ (y : Block). held_by a y ≡ true) same_block h.1 in
        let same_holding_lem : holding_at opening m ≡ holding_at v m =
        ap₂ (λ (y : Block) (es : List ℕ). seen_of y es) same_block (changed.entries m inside other) in
        subst (λ (y : Holding). Stands (domain_at opening.table a).last most y) (sym same_holding_lem)
        (closed_all final (domain_at opening.table a).last most (block_at v.table m).state (holding_at v m) (idle m inside held)
        (r.each m (inside, held))).0));
    dropped = r.dropped;
    all = r.all ∙ ap (λ (l : List ℕ). r.dropped ++ l) (sym kept_opened);
    enough = λ some-dropped.
        subst (λ (l : List ℕ). retained a opening ≤ length l) (sym kept_opened)
        (subst (λ (k : Config). ((domain_at opening.table a).quota - 1) * (adus_per_block k).0 ≤ length (kept v a)) (sym changed.config)
        (subst (λ (d : Domain). (d.quota - 1) * most ≤ length (kept v a)) (sym record_is) (r.enough some-dropped)));
  }

-- ---- A block is freed

-- So much is written in so many full blocks.
all_full : (v : Drive) (a c : ℕ) → ((n : ℕ) → Holds a v n → (block_at v.table n).written.0 ≡ c) → view written a v ≡ held_count v.table a * c
unfolding view held_count sum_to
all_full v a c full = go (size v.table) (λ n l. l)
  where
    go : (k : ℕ) → ((n : ℕ) → n < k → n < size v.table) → sum_to (weight written a v) k ≡ sum_to (λ n. cond (held_by a (block_at v.table n)) 1 0) k * c
    go zero inside = sym (zero-mul c)
    go (suc k) inside =
        by_test (held_by a (block_at v.table k))
        (λ h. rw h (omega (
          arith,
          go k (λ n l. inside n (omega (arith, l))),
          full k (inside k (omega arith), h),
          add-mul (sum_to (λ n. cond (held_by a (block_at v.table n)) 1 0) k) 1 c,
        )))
        (λ h. rw h (omega (
          arith,
          go k (λ n l. inside n (omega (arith, l))),
          add-mul (sum_to (λ n. cond (held_by a (block_at v.table n)) 1 0) k) 0 c,
        )))

module _ {a n : ℕ} {xs : List ℕ} {v : Drive} (facts : Facts v) (ready : Ready v.table.config v) (h : HeldBlock a n v)
    (o : Oldest v.table a (size v.table) n) (idle : OpenTo v a 0 (size v.table) none)
    (full : (domain_at v.table a).quota ≤ held_count v.table a) (r : Recording a xs v) where
  abbrev freed : Drive
  freed = freed_if_any (some n) v

  less : Changed a n v freed
  less = freed_changed h

  abbrev per : ℕ
  per = (adus_per_block v.table.config).0

  all_closed : (m : ℕ) → Holds a v m → (is_closed (block_at v.table m) ≡ true) × ((block_at v.table m).written.0 ≡ per)
  all_closed m x =
      let y = closed_all (domain_at v.table a).last 0 per (block_at v.table m).state (holding_at v m) (idle m x.0 x.1) (r.each m x) in
      (y.1, y.2)

  before_too : (m : ℕ) → Holds a freed m → Holds a v m × (block_at freed.table m ≡ block_at v.table m)
  before_too m x =
      by_eq m n
      (λ e. absurd (true≢false (sym x.1 ∙ subst (λ (i : ℕ). held_by a (block_at freed.table i) ≡ false) (sym e) (freed_not_held h))))
      (λ other. let same = less.blocks m other in ((x.0, subst (λ (y : Block). held_by a y ≡ true) same x.1), same))

  gone : kept v a ≡ written_in v n ++ kept freed a
  gone =
      freed_kept less (h.inside, h.held) (freed_not_held h) refl (serial_given_lem v a h.low facts n (h.inside, h.held))
      (facts.unique a (serial_at v n) h.low)
      (λ m x. o.least m x.0 (rw (x.1, (all_closed m x).0)))

  left_kept : length (kept freed a) ≡ held_count freed.table a * per
  left_kept =
      kept_length freed a h.low (freed_facts h facts) (record { shape = refl; blocks = rw length-set ready.blocks; store = ready.store })
      ∙ all_full freed a per (λ m x.
      let y = before_too m x in ap (λ (b : Block). b.written.0) y.1 ∙ (all_closed m y.0).1)

  one_gone : held_count freed.table a + 1 ≡ held_count v.table a
  one_gone =
      let x = view_changed less one a in
      omega (arith, held_view v a, held_view freed a, rw (h.held, freed_not_held h) at x)

  pub recording_freed : Recording a xs freed
  unfolding entries_of
  recording_freed = record {
    there = r.there;
    shaped = r.shaped;
    each = λ m x.
        let y = before_too m x in
        let same_holding_lem : holding_at freed m ≡ holding_at v m = ap (λ (b : Block). seen_of b (entries_of freed m)) y.1 in
        subst (λ (z : Holding). Stands (domain_at v.table a).last per z) (sym same_holding_lem) (r.each m y.0);
    dropped = r.dropped ++ written_in v n;
    all = r.all ∙ ap (λ (l : List ℕ). r.dropped ++ l) gone ∙ sym (append_assoc r.dropped (written_in v n) (kept freed a));
    enough = λ some-dropped.
        let few : (domain_at v.table a).quota - 1 ≤ held_count freed.table a = omega (arith, full, one_gone) in
        omega (arith, left_kept, mul-le-mul_right per few);
  }

-- ---- A pulse that closes none of its blocks

-- What a pulse leaves of a record that it does not close.
pub record Ticks (b c : Block) : Type 0 where
  state_same : c.state ≡ b.state
  holder : c.holder ≡ b.holder
  written : c.written ≡ b.written
  serial : c.serial ≡ b.serial

pub ticked : (seconds : ℕ) (s : State) (b : Block) → b.state ≡ s → (is_open_state s ≡ true → is_open (counted_from s seconds b) ≡ true)
    → Ticks b (counted_from s seconds b)
unfolding closed
ticked seconds state.Free b e stays = record { state_same = refl; holder = refl; written = refl; serial = refl }
ticked seconds (state.Closed way) b e stays = record { state_same = refl; holder = refl; written = refl; serial = refl }
ticked seconds (state.Open way) b e stays =
    by_test (ltb seconds b.left)
    (λ l. rw l (record { state_same = sym e; holder = refl; written = refl; serial = refl }))
    (λ l. absurd (true≢false (sym (rw l at (stays refl)) ∙ (rw e))))

-- A drive with the same entries in which the domain's blocks have ticked: it keeps the same.
module _ (a : ℕ) (v w : Drive) (config : w.table.config ≡ v.table.config)
    (domain : domain_at w.table a ≡ domain_at v.table a) (store : (n : ℕ) → entries_of w n ≡ entries_of v n)
    (holders : (n : ℕ) → n < size v.table → held_by a (block_at w.table n) ≡ held_by a (block_at v.table n))
    (ticks : (n : ℕ) → Holds a v n → Ticks (block_at v.table n) (block_at w.table n)) where
  same_serials : (n serial : ℕ) → n < size v.table
      → held_by a (block_at v.table n) && eqb (block_at v.table n).serial serial
      ≡ held_by a (block_at w.table n) && eqb (block_at w.table n).serial serial
  same_serials n serial l =
      by_test (held_by a (block_at v.table n))
      (λ h. rw (h, holders n l ∙ h) (ap (λ (s : ℕ). eqb s serial) (sym (ticks n (l, h)).serial)))
      (λ h. rw (h, holders n l ∙ h))

  ticked_to : (up_to_lem : ℕ) → kept_to v a up_to_lem ≡ kept_to w a up_to_lem
  unfolding by_serial_to
  ticked_to zero = refl
  ticked_to (suc serial) =
      ap₂ (λ (l r : List ℕ). l ++ r) (ticked_to serial)
      (serial_same v w a (suc serial) config (λ n l. same_serials n (suc serial) l)
      (λ n l held is. ap₂ (λ (k : Adus) (es : List ℕ). take k.0 es) (sym (ticks n (l, held)).written) (sym (store n))))

  kept_ticked : kept w a ≡ kept v a
  kept_ticked = ap (λ (d : Domain). kept_to w a d.last) domain ∙ sym (ticked_to (domain_at v.table a).last)

  pub recording_ticked : (xs : List ℕ) → Recording a xs v → Recording a xs w
  recording_ticked xs r = record {
    there = ap (λ (d : Domain). d.exists) domain ∙ r.there;
    shaped = ap (λ (d : Domain). has_recorder_shape d) domain ∙ r.shaped;
    each = λ n h.
        let inside : n < size v.table = subst (λ (k : Config). n < k.blocks) config h.0 in
        let held : Holds a v n = (inside, sym (holders n inside) ∙ h.1) in
        let t = ticks n held in
        subst (λ (d : Domain). Stands d.last (adus_per_block w.table.config).0 (holding_at w n)) (sym domain)
        (subst (λ (k : Config). Stands (domain_at v.table a).last (adus_per_block k).0 (holding_at w n)) (sym config)
        (stands_ticked (domain_at v.table a).last (adus_per_block v.table.config).0 (block_at v.table n).state (holding_at v n)
        (holding_at w n) t.state_same t.serial (ap (λ (k : Adus). k.0) t.written) (r.each n held)));
    dropped = r.dropped;
    all = r.all ∙ ap (λ (l : List ℕ). r.dropped ++ l) (sym kept_ticked);
    enough = λ some-dropped.
        subst (λ (l : List ℕ). retained a w ≤ length l) (sym kept_ticked)
        (subst (λ (k : Config). ((domain_at w.table a).quota - 1) * (adus_per_block k).0 ≤ length (kept v a)) (sym config)
        (subst (λ (d : Domain). (d.quota - 1) * (adus_per_block v.table.config).0 ≤ length (kept v a)) (sym domain)
        (r.enough some-dropped)));
  }
    where
      as_before : (last c : ℕ) (s : State) (h k : Holding) → k.serial ≡ h.serial → k.written ≡ h.written → StandsAs last c s h → StandsAs last c s k
      as_before last c state.Free h k e f stands = stands
      as_before last c (state.Open way.Erase) h k e f stands = stands
      as_before last c (state.Open (way.Placement p)) h k e f stands = (stands.0, e ∙ stands.1)
      as_before last c (state.Closed way) h k e f stands = f ∙ stands

      stands_ticked : (last c : ℕ) (s : State) (h k : Holding) → k.state ≡ s → k.serial ≡ h.serial → k.written ≡ h.written
          → StandsAs last c s h → Stands last c k
      stands_ticked last c s h k same e f stands = subst (λ (x : State). StandsAs last c x k) (sym same) (as_before last c s h k e f stands)
