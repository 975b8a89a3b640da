-- Demand 3, about two whole lists of calls: what is asked of a domain A, and what it is then promised. Of the rules it is claimed
-- by the last lines of proofs/Claims.antt, of the program by `Isolation` of the crate `isolation`.
use Rattle.std.specs.Prelude.{ℕ, Bool, true, false, not, ◌&&◌, List, [], ◌∷◌, map, ◌≡◌, eqb}
use Rattle.geometry.specs.Address.{is_block}
use Rattle.rules.specs.Calls.{Asked, Call, Named, block_in_address, held_block, held_or_free, own_domain, profile_of, unnamed}
use Rattle.rules.specs.Counting.{implies}
use Rattle.rules.specs.Drive.{Drive, block_at, domain_at, held_by}
use Rattle.rules.specs.Effects.{step, verdict}
use Rattle.rules.specs.Observation.{Input, Observation, Replies, Reply, SameHoldings, concerns, input_of, observed}
use Rattle.rules.specs.Questions.{exists}
use Rattle.rules.specs.Runs.{run}

-- ---- A fully reserved domain

-- Demand 3 asks that A's first Create is accepted. Less is enough: while A is missing, no command of A is refused for coverage.
abbrev pub not_uncovered : ℕ → Drive → Call → Bool
not_uncovered a v k =
    implies (eqb (own_domain k.asks) a && not (exists v.table a)) (not (eqb (verdict v k) 14))

-- Guarantee and quota are equal in whole blocks ..
abbrev pub reserves_all : ℕ → Drive → Bool
reserves_all a v = let r = domain_at v.table a in implies r.exists (eqb r.reserved r.quota)

-- .. and stay: no Delete of A succeeds, and no Change Capacity alters them.
abbrev pub stays_reserved : ℕ → Drive → Drive → Bool
stays_reserved a before after =
    let r = domain_at before.table a in
    let s = domain_at after.table a in
    implies r.exists (s.exists && eqb s.reserved r.reserved && eqb s.quota r.quota)

-- A names only blocks that it holds. That has to be asked of Erase alone, since a block that A does not hold may be Free or not; any
-- other command is refused alike whichever such block it names.
abbrev pub takes_own : ℕ → Drive → Named → Bool
takes_own a v unnamed = true
takes_own a v (held_block n) = true
takes_own a v (held_or_free n) = implies (is_block v.table.config n) (held_by a (block_at v.table n))
takes_own a v (block_in_address word) = true

abbrev pub names_own : ℕ → Drive → Asked → Bool
names_own a v x = implies (eqb (own_domain x) a) (takes_own a v (profile_of x).names)

-- All that is asked of a call, and of a list of calls. Of a neighbour's call it asks nothing: `neighbours_unasked` in proofs/Claims.antt.
abbrev pub is_allowed : ℕ → Drive → Call → Bool
is_allowed a v k =
    not_uncovered a v k && names_own a v k.asks && reserves_all a (step k v) && stays_reserved a v (step k v)

unfoldable pub fully_reserved : ℕ → List Call → Drive → Bool
fully_reserved a [] v = true
fully_reserved a (k ∷ ks) v = is_allowed a v k && fully_reserved a ks (step k v)

-- ---- Two lists

-- A call and its reply; the calls of a list of them.
pub record Exchange : Type 0 where
  pub call : Call
  pub reply : Reply

abbrev pub calls : List Exchange → List Call
calls xs = map (λ (x : Exchange). x.call) xs

-- Each reply is what the rules give.
unfoldable pub Replied : List Exchange → Drive → Type 0
Replied [] v = Unit {0}
Replied (x ∷ xs) v = Replies v x.call x.reply × Replied xs (step x.call v)

abbrev pub cons_if : {A : Type 0} → Bool → A → List A → List A
cons_if true x xs = x ∷ xs
cons_if false x xs = xs

-- A's own commands and the pulses, the neighbours' struck out.
unfoldable pub inputs : ℕ → List Call → Drive → List Input
inputs a [] v = []
inputs a (k ∷ ks) v = cons_if (concerns a k.asks) (input_of a v k) (inputs a ks (step k v))

-- What A observes of their replies.
unfoldable pub observations : ℕ → List Exchange → Drive → List Observation
observations a [] v = []
observations a (x ∷ xs) v =
    cons_if (concerns a x.call.asks) (observed a v x.call x.reply) (observations a xs (step x.call v))

-- In two lists, from two drives, A has observed the same and holds the same.
pub record Indistinguishable (a : ℕ) (xs ys : List Exchange) (v w : Drive) : Type 0 where
  pub same_observations : observations a xs v ≡ observations a ys w
  pub same_holdings : SameHoldings a (run (calls xs) v) (run (calls ys) w)
