-- The flash addresses that a write hands back, with their block by name.
use Prim.Native.Nat.{ℕ, zero, suc, ◌+◌, ◌≤◌, ◌<◌}
use mathlib.Core.List.{List, [], ◌∷◌, ◌++◌, map}
use mathlib.Core.Path.{◌≡◌, refl, ap, ap₂, ◌∙◌}
use native.Mathlib.Omega.{arith}
use lib.ListN.{length}
use Rattle.geometry.proofs.Laws.Address.{fields, fields_word}
use Rattle.geometry.proofs.Laws.Shape.{Limits}
use Rattle.geometry.specs.Address.{fields_of, word_of}
use Rattle.geometry.specs.Shape.{adus}
use Rattle.geometry.specs.declared.address.FlashAddress.{FlashAddress}
use Rattle.geometry.specs.declared.shape.Config.{Config}
use Rattle.rules.specs.Blocks.{flash_address, written_into}
use Rattle.rules.specs.Counting.{row_to}
use Rattle.rules.specs.Drive.{Drive, block_adus, block_at}
use Rattle.rules.specs.Observation.{Address, Name, address_of, name_of}

-- f 0, .., f (n - 1), of any kind.
unfoldable pub row_of : {A : Type 0} → (ℕ → A) → ℕ → List A
row_of f zero = []
row_of f (suc n) = row_of f n ++ (f n ∷ [])

pub map-append : {A B : Type 0} (h : A → B) (xs ys : List A) → map h (xs ++ ys) ≡ map h xs ++ map h ys
map-append h [] ys = refl
map-append h (x ∷ xs) ys = ap (λ (l : List _). h x ∷ l) (map-append h xs ys)

map_row : {B : Type 0} (h : ℕ → B) (f : ℕ → ℕ) (k : ℕ) → map h (row_to f k) ≡ row_of (λ i. h (f i)) k
unfolding row_to row_of
map_row h f zero = refl
map_row h f (suc k) = map-append h (row_to f k) (f k ∷ []) ∙ ap (λ (l : List _). l ++ (h (f k) ∷ [])) (map_row h f k)

row_same : {A : Type 0} (f g : ℕ → A) (k : ℕ) → ((i : ℕ) → i < k → f i ≡ g i) → row_of f k ≡ row_of g k
unfolding row_of
row_same f g zero h = refl
row_same f g (suc k) h =
    ap₂ (λ (l : List _) (x : _). l ++ (x ∷ [])) (row_same f g k (λ i l. h i (omega arith))) (h k (omega arith))

-- So many addresses of a block with this name, from an offset on.
abbrev pub addresses_as : ℕ → Name → ℕ → ℕ → List Address
addresses_as d name first count = row_of (λ i. record { domain = d; block = name; offset = adus (first + i) }) count

module _ (a : ℕ) (c : Config) (limits : Limits c) where
  read_address : (u : Drive) (d n offset : ℕ) → u.table.config ≡ c → n < c.blocks → offset < (block_adus c n).0
      → address_of a u (word_of c (record { domain = d; block = n; offset = adus offset }))
      ≡ record { domain = d; block = name_of a u n; offset = adus offset }
  read_address u d n offset shape inside small =
      let f : FlashAddress = record { domain = d; block = n; offset = adus offset } in
      let found : fields_of u.table.config (word_of c f) ≡ f =
      ap (λ (x : Config). fields_of x (word_of c f)) shape ∙ fields_word c f (fields c f limits inside small) in
      ap (λ (g : FlashAddress). record { domain = g.domain; block = name_of a u g.block; offset = g.offset }) found

  pub read_written : (u v : Drive) (d n : ℕ) (users : List ℕ) → u.table.config ≡ c → v.table.config ≡ c → n < c.blocks
      → (block_at v.table n).written.0 + length users ≤ (block_adus c n).0
      → map (address_of a u) (written_into d n users v).addresses
      ≡ addresses_as d (name_of a u n) (block_at v.table n).written.0 (length users)
  unfolding written_into
  read_written u v d n users shape shape' inside fits =
      let first = (block_at v.table n).written.0 in
      map_row (address_of a u) (λ i. flash_address v.table d n (first + i)) (length users)
      ∙ row_same _ _ (length users) (λ i k.
      ap (λ (x : Config). address_of a u (word_of x (record { domain = d; block = n; offset = adus (first + i) }))) shape'
      ∙ read_address u d n (first + i) shape inside (omega (arith, k, fits)))
