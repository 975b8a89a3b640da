-- A listed block's key comes behind those that there are.
use Rattle.std.proofs.Common.{◌≡◌, ℕ, ◌<◌, Bool, true, false, ◌&&◌, List, [], ◌∷◌, ◌++◌, length, min, sym, ap, ap₂, ◌∙◌, arith}
use Rattle.std.proofs.lemmas.List.{length-take, length-take-le, take_more_set}
use borrow.Author.Tests.{lt-ltb, ltb-true}
use lib.Dec.{ltb}
use Rattle.geometry.proofs.Laws.Shape.{both}
use Rattle.scan.specs.Listing.{is_listed_for, noted_with}
use Rattle.scan.proofs.listing.Keys.note_listed.Goals as goal

pub returns-then-is_listed-self : goal.returns-then-is_listed-self
unfolding noted_with
returns-then-is_listed-self c =
    let a = c.args in
    let k = c.self.inside in
    let keys = a.self.now in
    let key = c.list_key.result in
    let test = both c.is_listed.result (ltb k.count 256) c.if-is_listed-self.true in
    let small : k.count < 256 = ltb-true k.count 256 test.1 in
    let room : k.count < length k.row = omega (arith, small, c.self.told) in
    let long : length keys ≡ k.count = ap length (sym c.self.view_is) ∙ length-take-le k.count k.row (omega (arith, room)) in
    let listed : is_listed_for a.subject.now a.listed a.block ≡ true = sym c.is_listed.ensures ∙ test.0 in
    let few : ltb (length keys) 256 ≡ true = lt-ltb (length keys) 256 (omega (arith, long, small)) in
    let noted : keys ++ key ∷ [] ≡ noted_with a.subject.now a.listed a.n a.block keys = rw (listed, few, c.list_key.ensures) in
    take_more_set k.row k.count key room ∙ ap (λ (l : List ℕ). l ++ key ∷ []) c.self.view_is ∙ noted

pub returns-else-is_listed-self : goal.returns-else-is_listed-self
unfolding noted_with
returns-else-is_listed-self c =
    let a = c.args in
    let k = c.self.inside in
    let keys = a.self.now in
    let long : length keys ≡ min k.count (length k.row) = ap length (sym c.self.view_is) ∙ length-take k.count k.row in
    let few : ltb (length keys) 256 ≡ ltb k.count 256 = grind (arith, long, c.self.told) in
    let test : is_listed_for a.subject.now a.listed a.block && ltb (length keys) 256 ≡ false =
    ap₂ (λ (b f : Bool). b && f) (sym c.is_listed.ensures) few ∙ c.if-is_listed-self.false in
    rw test
