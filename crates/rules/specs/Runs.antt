-- Document 01, "Whole runs": the reference machine (01: the plain machine), which is fed with the configuration, the first
-- store and the calls alone.
use Rattle.std.specs.Prelude.{ℕ, List, [], ◌∷◌}
use Rattle.geometry.specs.Questions.{Outcome}
use Rattle.geometry.specs.declared.shape.Config.{Config}
use Rattle.rules.specs.Calls.{Call}
use Rattle.rules.specs.Drive.{Drive}
use Rattle.rules.specs.Effects.{answer_to, step}
use Rattle.rules.specs.Start.{started}

-- The drive with which a run begins.
abbrev pub begun : Config → List ℕ → Drive
begun c store = record { table = (started c).table; store = store }

-- A whole list of calls.
unfoldable pub run : List Call → Drive → Drive
run [] v = v
run (k ∷ ks) v = run ks (step k v)

abbrev pub reference : Config → List ℕ → List Call → Drive
reference c store ks = run ks (begun c store)

-- What each call is answered.
unfoldable pub answers : List Call → Drive → List Outcome
answers [] v = []
answers (k ∷ ks) v = answer_to v k ∷ answers ks (step k v)
