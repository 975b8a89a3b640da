-- What the contracts of `start`, `serve` and `serve_in`, and of the recorder's four functions, say in the rules' terms: word for word the
-- `ensures` of crates/manager/src and crates/recorder/src.
use mathlib.Core.Path.{◌≡◌, refl, sym, subst}
use seplogic.Ra.Ura.{Ura}
use base.Logic.{SProp, emp}
use prog.Memory.{Memory}
use prog.Routine.{Routine}
use types.Logic.{Logic}
use contract.Monad.{Fun, fact}
use contract.Lifetimes.{Lfts}
use denote.Triple.Clauses.{AtExit}
use denote.Triple.Entry.{Args, Res}
use borrow.Fn.Kinds.{Dens}
use Rattle.isolation.specs.Calls.{AppendPost, Given, ServePost, LatestPost, ProgramCall, StartCall, call_of, config_of, given, handed_back}
use Rattle.isolation.specs.Calls.{append_by_value, append_in_place, serve_by_value, serve_in_place, latest_by_value, latest_in_place}
use Rattle.manager.proofs.serve.Kinds as serve-kinds
use Rattle.manager.proofs.serve.Reads as serve
use Rattle.manager.specs.contracts.serve_in as serve_in
use Rattle.manager.proofs.start.Kinds as start-kinds
use Rattle.manager.proofs.start.Reads as start
use Rattle.manager.specs.Starting.{begun}
use Rattle.recorder.proofs.append.Kinds as append-kinds
use Rattle.recorder.proofs.append.Reads as append-by-value
use Rattle.recorder.specs.contracts.append_in as append_in
use Rattle.recorder.proofs.latest.Kinds as latest-kinds
use Rattle.recorder.proofs.latest.Reads as latest-by-value
use Rattle.recorder.specs.contracts.latest_in as latest_in
use Rattle.rules.proofs.Laws as rules
use Rattle.rules.specs.Calls.{calling_for}
use Rattle.rules.specs.Effects.{Serves}
use Rattle.rules.specs.Start.{started}
use Rattle.tables.specs.Serving.{drive}

-- They ask nothing of who calls them: each has no `requires`.
pub start_asks_nothing : (κs : Lfts 0) (x : Dens κs start-kinds.ps) → start.Pre κs x
start_asks_nothing κs x = tt

pub serve_asks_nothing : (κs : Lfts 3) (x : Dens κs serve-kinds.ps) → serve.Pre κs x
serve_asks_nothing κs x = tt

pub append_asks_nothing : (κs : Lfts 2) (x : Dens κs append-kinds.ps) → append-by-value.Pre κs x
append_asks_nothing κs x = tt

pub latest_asks_nothing : (κs : Lfts 2) (x : Dens κs latest-kinds.ps) → latest-by-value.Pre κs x
latest_asks_nothing κs x = tt

pub serve_in_asks_nothing : {M : Type 1} {𝓤 : Ura M} (𝓛 : Logic 𝓤) (mem : Memory → SProp 𝓤) (run : Routine → Fun 𝓤)
    (κs : Lfts 4) (x : Args serve_in.signature κs)
    → (serve_in.clauses 𝓛 mem run κs x).requires tt ≡ emp 𝓤
serve_in_asks_nothing 𝓛 mem run κs x = refl

pub append_in_asks_nothing : {M : Type 1} {𝓤 : Ura M} (𝓛 : Logic 𝓤) (mem : Memory → SProp 𝓤) (run : Routine → Fun 𝓤)
    (κs : Lfts 3) (x : Args append_in.signature κs)
    → (append_in.clauses 𝓛 mem run κs x).requires tt ≡ emp 𝓤
append_in_asks_nothing 𝓛 mem run κs x = refl

pub latest_in_asks_nothing : {M : Type 1} {𝓤 : Ura M} (𝓛 : Logic 𝓤) (mem : Memory → SProp 𝓤) (run : Routine → Fun 𝓤)
    (κs : Lfts 3) (x : Args latest_in.signature κs)
    → (latest_in.clauses 𝓛 mem run κs x).requires tt ≡ emp 𝓤
latest_in_asks_nothing 𝓛 mem run κs x = refl

-- What they promise.
pub start_contract : (s : StartCall) → begun s.result ≡ started (config_of s)
start_contract s = s.meets

pub call_contract : (k : ProgramCall)
    → Serves (drive (given k).table (given k).store) (call_of k) (given k).words (given k).bytes (handed_back k)
call_contract (serve_by_value k) = k.meets
call_contract (serve_in_place k) = k.meets
call_contract (append_by_value k) = k.meets
call_contract (append_in_place k) = k.meets
call_contract (latest_by_value k) = k.meets
call_contract (latest_in_place k) = k.meets

-- Nothing is left to the program: two calls that are given the same, by whichever of the functions, hand back the same.
pub handed_back_once : (k l : ProgramCall) → given k ≡ given l → handed_back k ≡ handed_back l
handed_back_once k l same =
    let g = given k in
    rules.handed_back_once (drive g.table g.store) (call_of k) g.words g.bytes (handed_back k) (handed_back l) (call_contract k)
    (subst (λ (x : Given). Serves (drive x.table x.store) (calling_for x.asks x.store x.words x.bytes) x.words x.bytes (handed_back l))
    (sym same) (call_contract l))

-- The contract of `serve_in` that the toolchain makes, in every model of its logic, is the fact `ServePost`.
pub serve_in_contract : {M : Type 1} {𝓤 : Ura M} (𝓛 : Logic 𝓤) (mem : Memory → SProp 𝓤) (run : Routine → Fun 𝓤)
    (κs : Lfts 4) (x : Args serve_in.signature κs) (r : Res serve_in.signature κs) (e : AtExit serve_in.ended κs)
    → (serve_in.clauses 𝓛 mem run κs x).ensures tt r e ≡ fact 𝓤 (ServePost κs x r e)
serve_in_contract 𝓛 mem run κs x r e = refl

-- So it is of `append_in` and `latest_in`.
pub append_in_contract : {M : Type 1} {𝓤 : Ura M} (𝓛 : Logic 𝓤) (mem : Memory → SProp 𝓤) (run : Routine → Fun 𝓤)
    (κs : Lfts 3) (x : Args append_in.signature κs) (r : Res append_in.signature κs) (e : AtExit append_in.ended κs)
    → (append_in.clauses 𝓛 mem run κs x).ensures tt r e ≡ fact 𝓤 (AppendPost κs x r e)
append_in_contract 𝓛 mem run κs x r e = refl

pub latest_in_contract : {M : Type 1} {𝓤 : Ura M} (𝓛 : Logic 𝓤) (mem : Memory → SProp 𝓤) (run : Routine → Fun 𝓤)
    (κs : Lfts 3) (x : Args latest_in.signature κs) (r : Res latest_in.signature κs) (e : AtExit latest_in.ended κs)
    → (latest_in.clauses 𝓛 mem run κs x).ensures tt r e ≡ fact 𝓤 (LatestPost κs x r e)
latest_in_contract 𝓛 mem run κs x r e = refl
