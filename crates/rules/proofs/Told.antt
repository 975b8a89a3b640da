-- The outputs of specs/Told.antt are told apart: by whether the name is that of a held block, by a byte, or by the serial at a place.
use Prim.Native.Nat.{ℕ, suc, ◌/◌}
use mathlib.Core.Bool.{Bool, true, false, true≢false}
use mathlib.Core.List.{List, [], ◌∷◌, ◌++◌}
use mathlib.Core.Path.{◌≡◌, refl, sym, ap, ap₂, ◌∙◌}
use native.Mathlib.Omega.{arith}
use lib.ListN.{length, length-append}
use lib.Seq.{drop_at, take_at}
use Rattle.geometry.specs.Bytes.{little_endian}
use Rattle.model.specs.declared.command.Listed.{Listed}
use Rattle.model.specs.declared.command.Listed.TheVariants as listed
use Rattle.rules.specs.Observation.{Address, Descriptor, Name, Observation, ReadBytes, ReadValues, descriptor_in, held, no_block, number_in, observed, other, read_descriptors, read_list, read_page}
use Rattle.rules.specs.Observation as seen
use Rattle.rules.specs.Drive.{Drive}
use Rattle.rules.specs.Told.{ToldApart, descriptors_in, list_told, listing}
use Rattle.rules.proofs.Machine.{machine}

abbrev is_own : Name → Bool
is_own (held serial) = true
is_own other = false
is_own (no_block number) = false

abbrev is_blocks : Name → Bool
is_blocks (held serial) = true
is_blocks other = true
is_blocks (no_block number) = false

abbrev first_own : List Name → Bool
first_own [] = false
first_own (name ∷ names) = is_own name

abbrev answers_own : ReadValues → Bool
answers_own (seen.numbers values) = false
answers_own (seen.blocks names) = first_own names

abbrev of_own : ReadBytes → Bool
of_own (seen.plain bytes) = false
of_own (seen.page front name middle rest) = is_own name
of_own (seen.list descriptors) = false

abbrev serial_of : Name → ℕ
serial_of (held serial) = serial
serial_of other = 0
serial_of (no_block number) = 0

abbrev first_serial : List Descriptor → ℕ
first_serial [] = 0
first_serial (x ∷ xs) = serial_of x.block

abbrev second_serial : List Descriptor → ℕ
second_serial [] = 0
second_serial (x ∷ xs) = first_serial xs

order : (which : Listed) → ¬ (list_told which (0 ∷ 1 ∷ []) ≡ list_told which (1 ∷ 0 ∷ []))
unfolding machine number_in little_endian observed read_descriptors listing
order listed.Open e = omega (arith, ap (λ (x : Observation). first_serial (descriptors_in x.bytes)) e)
order listed.Closed e = omega (arith, ap (λ (x : Observation). first_serial (descriptors_in x.bytes)) e)

twice : (which : Listed) → ¬ (list_told which (0 ∷ []) ≡ list_told which (0 ∷ 0 ∷ []))
unfolding machine number_in little_endian observed read_descriptors listing
twice listed.Open e = omega (arith, ap (λ (x : Observation). second_serial (descriptors_in x.bytes)) e)
twice listed.Closed e = omega (arith, ap (λ (x : Observation). second_serial (descriptors_in x.bytes)) e)

-- The first eight bytes are a descriptor, and what follows is read as it would be alone.
read_first : (a : ℕ) (u : Drive) (front rest : List ℕ) → length front ≡ 8
    → read_list a u (front ++ rest) ≡ descriptor_in a u front ∷ read_list a u rest
unfolding read_descriptors
read_first a u front rest long =
    let one_more : length (front ++ rest) / 8 ≡ suc (length rest / 8) = omega (arith, length-append front rest, long) in
    ap (λ (k : ℕ). read_descriptors a u k (front ++ rest)) one_more
    ∙ ap₂ (λ (x y : List ℕ). descriptor_in a u x ∷ read_descriptors a u (length rest / 8) y)
    (take_at front rest 8 long) (drop_at front rest 8 long)

pub told_apart : ToldApart
unfolding machine number_in little_endian observed read_page read_descriptors
told_apart = record {
  end_or_free = λ e. true≢false (sym (ap (λ (x : Descriptor). is_blocks x.block) e));
  end_or_other = λ e. omega (arith, ap (λ (x : Descriptor). x.index) e);
  own_or_neighbours = λ e. true≢false (ap (λ (x : Descriptor). is_own x.block) e);
  address = λ e. true≢false (ap (λ (x : Address). is_own x.block) e);
  page = λ e. true≢false (ap (λ (x : ReadBytes). of_own x) e);
  answer = λ e. true≢false (ap (λ (x : Observation). answers_own x.values) e);
  order = order;
  twice = twice;
  by_descriptor = λ a u d which front rest long. read_first a u front rest long;
  nothing_else = λ a u d which. refl;
  index_left_out = refl;
}
