-- The recorder is lent no bytes: what it serves, it serves with any bytes lent beside, which stay as they were.
use Prim.Native.Nat.{ℕ}
use mathlib.Core.List.{List, []}
use mathlib.Core.Path.{◌≡◌, refl, sym, ap, ◌∙◌}
use Rattle.geometry.specs.declared.shape.Adus.{Adus}
use Rattle.model.specs.declared.table.Table.{Table}
use Rattle.rules.proofs.Drive.{overwritten_nothing}
use Rattle.rules.proofs.Effects.{fills_no_bytes}
use Rattle.rules.specs.Calls.{Asked, append, calling_for, latest, no_bytes, profile_of}
use Rattle.rules.specs.Drive.{overwritten}
use Rattle.rules.specs.Effects.{effect, questions, step, words_filled}
use Rattle.rules.specs.Recorder.{after_freeing}
use Rattle.tables.specs.Serving.{ServesFor, drive, served}
use Rattle.tables.specs.declared.served.Served.{Served}

-- A call that fills no bytes, and whose questions and effect are the same whatever bytes are lent.
module _ (t : Table) (x : Asked) (store words bytes : List ℕ) (r : Served) (store' words' : List ℕ) where
  beside : (profile_of x).bytes ≡ no_bytes
      → questions (drive t store) (calling_for x store words []) ≡ questions (drive t store) (calling_for x store words bytes)
      → effect (drive t store) (calling_for x store words []) ≡ effect (drive t store) (calling_for x store words bytes)
      → ServesFor t x store words [] (served r store' words' [])
      → ServesFor t x store words bytes (served r store' words' bytes)
  unfolding step words_filled
  beside none-due same-questions same_effect s = record {
    answers = rw (same-questions, same_effect) at s.answers;
    leaves = rw (same-questions, same_effect) at s.leaves;
    fills_words = rw (same-questions, same_effect) at s.fills_words;
    fills_bytes =
        sym (overwritten_nothing bytes)
        ∙ ap (λ (l : List ℕ). overwritten 0 l bytes) (sym (fills_no_bytes (drive t store) (calling_for x store words bytes) none-due));
  }

-- Neither of the recorder's calls looks at the bytes.
pub append_beside : (t : Table) (d sample : ℕ) (store words bytes : List ℕ) (r : Served) (store' words' : List ℕ)
    → ServesFor t (append d sample) store words [] (served r store' words' [])
    → ServesFor t (append d sample) store words bytes (served r store' words' bytes)
unfolding questions effect after_freeing
append_beside t d sample store words bytes r store' words' =
    beside t (append d sample) store words bytes r store' words' refl refl refl

pub latest_beside : (t : Table) (d : ℕ) (count : Adus) (store words bytes : List ℕ) (r : Served) (store' words' : List ℕ)
    → ServesFor t (latest d count) store words [] (served r store' words' [])
    → ServesFor t (latest d count) store words bytes (served r store' words' bytes)
unfolding questions effect
latest_beside t d count store words bytes r store' words' =
    beside t (latest d count) store words bytes r store' words' refl refl refl
