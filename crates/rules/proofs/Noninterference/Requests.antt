-- Two calls of a domain that have the same place: whatever the kind, they are twins.
use Prim.Native.Nat.{ℕ}
use mathlib.Core.Bool.{Bool, true, false, true≢false, not}
use mathlib.Core.List.{List, ◌∷◌}
use mathlib.Core.Option.{Option, none, some}
use mathlib.Core.Path.{◌≡◌, refl, sym, ap, ◌∙◌, subst}
use native.Mathlib.Omega.{arith}
use lib.Dec.{eqb}
use borrow.Author.Tests.{eq-eqb, eqb-true}
use Rattle.geometry.proofs.Laws.Shape.{by_test}
use Rattle.geometry.specs.Questions.{Question, ask, first_no}
use Rattle.geometry.specs.declared.shape.Planes.{Planes}
use Rattle.model.specs.declared.command.Command.TheVariants.{ChangeCapacity, Close, Create, Delete, Erase, Free, List as Listing, Page, Pulse, Read}
use Rattle.model.specs.declared.command.Command.TheVariants.{WriteByBlock, WriteByPlacement}
use Rattle.rules.specs.Calls.{Asked, Call, Lengths, ◌asking◌, ◌for◌, append, command, is_pulse, latest, own_domain, profile_of}
use Rattle.rules.specs.Drive.{Drive}
use Rattle.rules.specs.Effects.{questions, step, verdict}
use Rattle.rules.specs.Noninterference.{names_own, not_uncovered, stays_reserved}
use Rattle.rules.specs.Observation.{Address, Input, Name, Naming, Request, address_of, concerns, input_of, naming_of, request_of}
use Rattle.rules.specs.Observation as seen
use Rattle.rules.specs.Questions.{exists}
use Rattle.rules.proofs.Noninterference.Blocks.{close_twin, free_twin}
use Rattle.rules.proofs.Noninterference.Common.{Pair}
use Rattle.rules.proofs.Noninterference.Domains.{change_twin, create_twin, delete_twin, pulse_twin}
use Rattle.rules.proofs.Noninterference.Erase.{erase_twin}
use Rattle.rules.proofs.Noninterference.Reads.{list_twin, page_twin, read_twin}
use Rattle.rules.proofs.Noninterference.Recorder.{append_twin, latest_twin}
use Rattle.rules.proofs.Noninterference.Twins.{Twin}
use Rattle.rules.proofs.Noninterference.WriteByBlock.{write_block_twin}
use Rattle.rules.proofs.Noninterference.WriteByPlacement.{write_placement_twin}

-- A call of the domain a that is this request; which block it names is not said.
abbrev Requested : ℕ → Request → Asked → Type 0
Requested a (seen.create guarantee quota placements limit) c = c ≡ command (Create a guarantee quota placements limit)
Requested a (seen.change_capacity guarantee quota) c = c ≡ command (ChangeCapacity a guarantee quota)
Requested a seen.delete c = c ≡ command (Delete a)
Requested a seen.erase c = (m : ℕ) × (c ≡ command (Erase a m))
Requested a seen.close c = (m : ℕ) × (c ≡ command (Close a m))
Requested a seen.free c = (m : ℕ) × (c ≡ command (Free a m))
Requested a (seen.write_by_placement placement start count) c = c ≡ command (WriteByPlacement a placement start count)
Requested a (seen.write_by_block start count) c = (m : ℕ) × (c ≡ command (WriteByBlock a m start count))
Requested a (seen.read count expected) c = (y : ℕ) × (c ≡ command (Read a y count expected))
Requested a seen.page c = (m : ℕ) × (c ≡ command (Page a m))
Requested a (seen.list which) c = c ≡ command (Listing a which)
Requested a (seen.pulse seconds) c = c ≡ command (Pulse seconds)
Requested a (seen.append sample) c = c ≡ append a sample
Requested a (seen.latest count) c = c ≡ latest a count

requested : (a : ℕ) (c : Asked) → concerns a c ≡ true → Requested a (request_of c) c
unfolding request_of
requested a (command (Create d guarantee quota placements limit)) e = ap (λ (x : ℕ). command (Create x guarantee quota placements limit)) (eqb-true d a e)
requested a (command (ChangeCapacity d guarantee quota)) e = ap (λ (x : ℕ). command (ChangeCapacity x guarantee quota)) (eqb-true d a e)
requested a (command (Delete d)) e = ap (λ (x : ℕ). command (Delete x)) (eqb-true d a e)
requested a (command (Erase d n)) e = (n, ap (λ (x : ℕ). command (Erase x n)) (eqb-true d a e))
requested a (command (Close d n)) e = (n, ap (λ (x : ℕ). command (Close x n)) (eqb-true d a e))
requested a (command (Free d n)) e = (n, ap (λ (x : ℕ). command (Free x n)) (eqb-true d a e))
requested a (command (WriteByPlacement d p start count)) e = ap (λ (x : ℕ). command (WriteByPlacement x p start count)) (eqb-true d a e)
requested a (command (WriteByBlock d n start count)) e = (n, ap (λ (x : ℕ). command (WriteByBlock x n start count)) (eqb-true d a e))
requested a (command (Read d address count expected)) e = (address, ap (λ (x : ℕ). command (Read x address count expected)) (eqb-true d a e))
requested a (command (Page d n)) e = (n, ap (λ (x : ℕ). command (Page x n)) (eqb-true d a e))
requested a (command (Listing d which)) e = ap (λ (x : ℕ). command (Listing x which)) (eqb-true d a e)
requested a (command (Pulse seconds)) e = refl
requested a (append d sample) e = ap (λ (x : ℕ). append x sample) (eqb-true d a e)
requested a (latest d count) e = ap (λ (x : ℕ). latest x count) (eqb-true d a e)

-- The block, and the address, that is named.
block_in : Naming → Name
block_in seen.names_nothing = seen.other
block_in (seen.names_block name) = name
block_in (seen.names_address address) = address.block

same_block : (n m : Name) → seen.names_block n ≡ seen.names_block m → n ≡ m
unfolding block_in
same_block n m e = ap (λ (r : Naming). block_in r) e

address_in : Address → Naming → Address
address_in default seen.names_nothing = default
address_in default (seen.names_block name) = default
address_in default (seen.names_address address) = address

same_address : (x y : Address) → seen.names_address x ≡ seen.names_address y → x ≡ y
unfolding address_in
same_address x y e = ap (λ (r : Naming). address_in x r) e

-- What is asked of a call of a fully reserved domain.
pub record Proper (a : ℕ) (v : Drive) (k : Call) : Type 0 where
  pub covered : not_uncovered a v k ≡ true
  pub names : names_own a v k.asks ≡ true
  pub stays : stays_reserved a v (step k v) ≡ true

not_that : (n m : ℕ) → not (eqb n m) ≡ true → ¬ (n ≡ m)
not_that n m e same = true≢false (sym e ∙ (rw (eq-eqb n m same)))

-- Where a question's number is not the first no's, its answer is yes.
pub before_no : (n m : ℕ) (b : Bool) (qs : List Question) → ¬ (n ≡ m) → first_no (ask n b ∷ qs) ≡ m → (b ≡ true) × (first_no qs ≡ m)
unfolding first_no
before_no n m true qs other e = (refl, e)
before_no n m false qs other e = absurd (other e)

-- A Create that is refused for coverage is of a missing domain, and such a one is not let in.
missing_let_in : (a : ℕ) (v : Drive) (k : Call) → own_domain k.asks ≡ a → exists v.table a ≡ false → not_uncovered a v k ≡ true
    → ¬ (verdict v k ≡ 14)
missing_let_in a v k own missing e =
    not_that (verdict v k) 14 (rw (eq-eqb (own_domain k.asks) a own, missing) at e)

uncovered : (a : ℕ) (v : Drive) (call : Call) (guarantee quota : Planes) (placements limit : ℕ)
    → let k = call asking Create a guarantee quota placements limit in Proper a v k → ¬ (verdict v k ≡ 14)
unfolding questions
uncovered a v call guarantee quota placements limit o =
    by_test (exists v.table a)
    (λ there e.
    let x2 = before_no 2 14 _ _ (λ z. absurd (omega (arith, z))) e in
    let x4 = before_no 4 14 _ _ (λ z. absurd (omega (arith, z))) x2.1 in
    let x5 = before_no 5 14 (not (exists v.table a)) _ (λ z. absurd (omega (arith, z))) x4.1 in
    true≢false (sym x5.0 ∙ ap (λ (b : Bool). not b) there))
    (λ missing. missing_let_in a v (call asking Create a guarantee quota placements limit) refl missing o.covered)

-- The lengths that a call that is no pulse is lent.
lent_in : Lengths → Option Lengths → Lengths
lent_in default none = default
lent_in default (some lent) = lent

same_lent : (k l : Lengths) → ◌≡◌ {A = Option Lengths} (some k) (some l) → k ≡ l
unfolding lent_in
same_lent k l e = ap (λ (o : Option Lengths). lent_in k o) e

module _ {a : ℕ} {v w : Drive} (p : Pair a v w) where
  -- Two calls of the domain with the same input are twins. It is enough to look at calls of the domain itself, ..
  as_own : (k l : Call) (x y : Asked) → k.asks ≡ x → l.asks ≡ y
      → Proper a v k
      → Proper a w l
      → input_of a v k ≡ input_of a w l
      → (Proper a v (k for x) → Proper a w (l for y) → input_of a v (k for x) ≡ input_of a w (l for y)
      → Twin a v w (k for x) (l for y))
      → Twin a v w k l
  as_own k l x y e f left right same twin =
      subst (λ (z : Asked). Twin a v w (k for z) l) (sym e)
      (subst (λ (z : Asked). Twin a v w (k for x) (l for z)) (sym f)
      (twin (subst (λ (z : Asked). Proper a v (k for z)) e left) (subst (λ (z : Asked). Proper a w (l for z)) f right)
      (subst (λ (z : Asked). input_of a v (k for z) ≡ input_of a w (l for y)) e
      (subst (λ (z : Asked). input_of a v k ≡ input_of a w (l for z)) f same))))

  -- .. and, unless it is a pulse, at calls that are lent the same.
  as_lent : (k l : Call) (x y : Asked) → k.asks ≡ x → l.asks ≡ y
      → is_pulse x ≡ false
      → is_pulse y ≡ false
      → Proper a v k
      → Proper a w l
      → input_of a v k ≡ input_of a w l
      → (Proper a v (k for x) → Proper a w (k for y)
      → naming_of a v (profile_of x).names ≡ naming_of a w (profile_of y).names
      → Twin a v w (k for x) (k for y))
      → Twin a v w k l
  as_lent k l x y e f g h left right same twin =
      as_own k l x y e f left right same (λ left right same.
      let lents : k.lent ≡ l.lent = same_lent k.lent l.lent (rw (g, h) at (ap (λ (i : Input). i.lent) same)) in
      subst (λ (z : Lengths). Twin a v w (k for x) (record { asks = y; lent = z })) lents
      (twin left (subst (λ (z : Lengths). Proper a w (record { asks = y; lent = z })) (sym lents) right)
      (ap (λ (i : Input). i.names) same)))

  twins : (k l : Call) → Proper a v k → Proper a w l → input_of a v k ≡ input_of a w l
      → (r : Request) → Requested a r k.asks → Requested a r l.asks → Twin a v w k l
  twins k l left right same (seen.create guarantee quota placements limit) x y =
      as_lent k l _ _ x y refl refl left right same (λ o u names. create_twin p k guarantee quota placements limit
      (uncovered a v k guarantee quota placements limit o) (uncovered a w k guarantee quota placements limit u))
  twins k l left right same (seen.change_capacity guarantee quota) x y =
      as_lent k l _ _ x y refl refl left right same (λ o u names. change_twin p k guarantee quota o.stays u.stays)
  twins k l left right same seen.delete x y =
      as_lent k l _ _ x y refl refl left right same (λ o u names. delete_twin p k o.stays)
  twins k l left right same seen.erase x y =
      as_lent k l _ _ x.1 y.1 refl refl left right same (λ o u names.
      erase_twin p k x.0 y.0 (same_block _ _ names) o.names)
  twins k l left right same seen.close x y =
      as_lent k l _ _ x.1 y.1 refl refl left right same (λ o u names. close_twin p k x.0 y.0 (same_block _ _ names))
  twins k l left right same seen.free x y =
      as_lent k l _ _ x.1 y.1 refl refl left right same (λ o u names. free_twin p k x.0 y.0 (same_block _ _ names))
  twins k l left right same (seen.write_by_placement placement start count) x y =
      as_lent k l _ _ x y refl refl left right same (λ o u names. write_placement_twin p placement k start count)
  twins k l left right same (seen.write_by_block start count) x y =
      as_lent k l _ _ x.1 y.1 refl refl left right same (λ o u names.
      write_block_twin p k x.0 y.0 start count (same_block _ _ names))
  twins k l left right same (seen.read count expected) x y =
      as_lent k l _ _ x.1 y.1 refl refl left right same (λ o u names.
      let f = same_address (address_of a v x.0) (address_of a w y.0) names in
      read_twin p k x.0 y.0 count expected
      (ap (λ (z : Address). z.block) f) (ap (λ (z : Address). z.domain) f) (ap (λ (z : Address). z.offset) f))
  twins k l left right same seen.page x y =
      as_lent k l _ _ x.1 y.1 refl refl left right same (λ o u names. page_twin p k x.0 y.0 (same_block _ _ names))
  twins k l left right same (seen.list which) x y =
      as_lent k l _ _ x y refl refl left right same (λ o u names. list_twin p k which)
  twins k l left right same (seen.pulse seconds) x y =
      as_own k l _ _ x y left right same (λ o u same. pulse_twin p k l seconds)
  twins k l left right same (seen.append sample) x y =
      as_lent k l _ _ x y refl refl left right same (λ o u names. append_twin p k sample)
  twins k l left right same (seen.latest count) x y =
      as_lent k l _ _ x y refl refl left right same (λ o u names. latest_twin p k count)

  pub same_twins : (k l : Call) → Proper a v k → Proper a w l
      → concerns a k.asks ≡ true
      → concerns a l.asks ≡ true
      → input_of a v k ≡ input_of a w l
      → Twin a v w k l
  same_twins k l left right own own' same =
      twins k l left right same (request_of k.asks) (requested a k.asks own)
      (subst (λ (r : Request). Requested a r l.asks) (sym (ap (λ (i : Input). i.request) same)) (requested a l.asks own'))
