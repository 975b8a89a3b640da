-- The program's calls: what `start`, `serve` and `serve_in`, and the recorder's `append`, `append_in`, `latest` and `latest_in`, are given
-- and hand back, each meeting the function's own contract. The contract is the `ensures` of crates/manager/src and crates/recorder/src:
-- `started` of the configuration, and `ServesFor` of what is asked for (of a command, `ServesCommand`).
use Rattle.std.specs.Prelude.{ℕ, Bool, true, false, List, []}
use denote.Triple.Clauses.{AtExit}
use denote.Triple.Entry.{Args, Res}
use contract.Lifetimes.{Lfts}
use borrow.Fn.Kinds.{Dens, ended_of, res_t}
use Rattle.geometry.specs.Questions.{Outcome}
use Rattle.geometry.specs.declared.shape.Config.{Config}
use Rattle.manager.proofs.serve.Kinds as serve-kinds
use Rattle.manager.proofs.serve.Reads as serve
use Rattle.manager.specs.contracts.serve_in as serve_in
use Rattle.manager.proofs.start.Kinds as start-kinds
use Rattle.manager.proofs.start.Reads as start
use Rattle.model.specs.Answers.{outcome_of}
use Rattle.model.specs.declared.table.Table.{Table}
use Rattle.recorder.proofs.append.Kinds as append-kinds
use Rattle.recorder.proofs.append.Reads as append-by-value
use Rattle.recorder.specs.contracts.append_in as append_in
use Rattle.recorder.proofs.latest.Kinds as latest-kinds
use Rattle.recorder.proofs.latest.Reads as latest-by-value
use Rattle.recorder.specs.contracts.latest_in as latest_in
use Rattle.rules.specs.Calls.{Asked, Call, append, calling_for, command, latest}
use Rattle.rules.specs.Effects.{Served}
use Rattle.tables.specs.Serving.{ServesCommand, ServesFor, answering, served}

-- ---- start

pub record StartCall : Type 0 where
  pub lifetimes : Lfts 0
  pub arguments : Dens lifetimes start-kinds.ps
  pub result : (res_t start-kinds.r lifetimes).Denot
  pub exit : AtExit (ended_of 0 start-kinds.ps start-kinds.r) lifetimes
  pub meets : start.Post lifetimes arguments result exit

abbrev pub config_of : StartCall → Config
config_of s = s.arguments.0

abbrev pub start_answer : StartCall → Outcome
start_answer s = outcome_of s.result.answer

abbrev pub first_table : StartCall → Table
first_table s = s.result.table

-- ---- serve, with the table by value

-- A lifetime for each of the three lent buffers. `Post` is made by the toolchain from the `ensures`.
pub record ServeByValue : Type 0 where
  pub lifetimes : Lfts 3
  pub arguments : Dens lifetimes serve-kinds.ps
  pub result : (res_t serve-kinds.r lifetimes).Denot
  pub exit : AtExit (ended_of 3 serve-kinds.ps serve-kinds.r) lifetimes
  pub meets : serve.Post lifetimes arguments result exit

-- ---- serve_in, with the table lent

-- What the `ensures` of `serve_in` says of its arguments, result and what it leaves. `serve_in_contract` in proofs/Contracts.antt shows
-- that it is the contract that the toolchain makes from the source.
abbrev pub ServePost : (κs : Lfts 4) (x : Args serve_in.signature κs) (r : Res serve_in.signature κs) (e : AtExit serve_in.ended κs) → Type 0
ServePost κs x r e =
    ServesCommand x.0.now x.1.0 x.1.1.0.now x.1.1.1.0.now x.1.1.1.1.0.now
    (served (answering e.0.now r) e.1.1.0.now e.1.1.1.0.now e.1.1.1.1.0.now)

-- A lifetime for the lent table, too.
pub record ServeInPlace : Type 0 where
  pub lifetimes : Lfts 4
  pub arguments : Args serve_in.signature lifetimes
  pub result : Res serve_in.signature lifetimes
  pub exit : AtExit serve_in.ended lifetimes
  pub meets : ServePost lifetimes arguments result exit

-- ---- The recorder's functions (02, Wish 1), with the table by value

pub record AppendByValue : Type 0 where
  pub lifetimes : Lfts 2
  pub arguments : Dens lifetimes append-kinds.ps
  pub result : (res_t append-kinds.r lifetimes).Denot
  pub exit : AtExit (ended_of 2 append-kinds.ps append-kinds.r) lifetimes
  pub meets : append-by-value.Post lifetimes arguments result exit

pub record LatestByValue : Type 0 where
  pub lifetimes : Lfts 2
  pub arguments : Dens lifetimes latest-kinds.ps
  pub result : (res_t latest-kinds.r lifetimes).Denot
  pub exit : AtExit (ended_of 2 latest-kinds.ps latest-kinds.r) lifetimes
  pub meets : latest-by-value.Post lifetimes arguments result exit

-- ---- The same with the table lent

-- What their `ensures` says, as above; `append_in_contract` and `latest_in_contract` show that it is the toolchain's.
abbrev pub AppendPost : (κs : Lfts 3) (x : Args append_in.signature κs) (r : Res append_in.signature κs) (e : AtExit append_in.ended κs) → Type 0
AppendPost κs x r e =
    ServesFor x.0.now (append x.1.0 x.1.1.0) x.1.1.1.0.now x.1.1.1.1.0.now []
    (served (answering e.0.now r) e.1.1.1.0.now e.1.1.1.1.0.now [])

pub record AppendInPlace : Type 0 where
  pub lifetimes : Lfts 3
  pub arguments : Args append_in.signature lifetimes
  pub result : Res append_in.signature lifetimes
  pub exit : AtExit append_in.ended lifetimes
  pub meets : AppendPost lifetimes arguments result exit

abbrev pub LatestPost : (κs : Lfts 3) (x : Args latest_in.signature κs) (r : Res latest_in.signature κs) (e : AtExit latest_in.ended κs) → Type 0
LatestPost κs x r e =
    ServesFor x.0.now (latest x.1.0 x.1.1.0) x.1.1.1.0.now x.1.1.1.1.0.now []
    (served (answering e.0.now r) e.1.1.1.0.now e.1.1.1.1.0.now [])

pub record LatestInPlace : Type 0 where
  pub lifetimes : Lfts 3
  pub arguments : Args latest_in.signature lifetimes
  pub result : Res latest_in.signature lifetimes
  pub exit : AtExit latest_in.ended lifetimes
  pub meets : LatestPost lifetimes arguments result exit

-- ---- A call of any of them

pub data ProgramCall : Type 0 where
  serve_by_value : ServeByValue → ProgramCall
  serve_in_place : ServeInPlace → ProgramCall
  append_by_value : AppendByValue → ProgramCall
  append_in_place : AppendInPlace → ProgramCall
  latest_by_value : LatestByValue → ProgramCall
  latest_in_place : LatestInPlace → ProgramCall

abbrev pub is_in_place : ProgramCall → Bool
is_in_place (serve_by_value k) = false
is_in_place (serve_in_place k) = true
is_in_place (append_by_value k) = false
is_in_place (append_in_place k) = true
is_in_place (latest_by_value k) = false
is_in_place (latest_in_place k) = true

-- What it is given, ..
pub record Given : Type 0 where
  pub table : Table
  pub asks : Asked
  pub store : List ℕ
  pub words : List ℕ
  pub bytes : List ℕ

-- .. the recorder no bytes, ..
abbrev pub given_samples : Table → Asked → List ℕ → List ℕ → Given
given_samples t x store words = record { table = t; asks = x; store = store; words = words; bytes = [] }

abbrev pub given : ProgramCall → Given
given (serve_by_value k) = record {
  table = k.arguments.0;
  asks = command k.arguments.1.0;
  store = k.arguments.1.1.0.now;
  words = k.arguments.1.1.1.0.now;
  bytes = k.arguments.1.1.1.1.0.now;
}
given (serve_in_place k) = record {
  table = k.arguments.0.now;
  asks = command k.arguments.1.0;
  store = k.arguments.1.1.0.now;
  words = k.arguments.1.1.1.0.now;
  bytes = k.arguments.1.1.1.1.0.now;
}
given (append_by_value k) =
    let x = k.arguments in given_samples x.0 (append x.1.0 x.1.1.0) x.1.1.1.0.now x.1.1.1.1.0.now
given (append_in_place k) =
    let x = k.arguments in given_samples x.0.now (append x.1.0 x.1.1.0) x.1.1.1.0.now x.1.1.1.1.0.now
given (latest_by_value k) =
    let x = k.arguments in given_samples x.0 (latest x.1.0 x.1.1.0) x.1.1.1.0.now x.1.1.1.1.0.now
given (latest_in_place k) =
    let x = k.arguments in given_samples x.0.now (latest x.1.0 x.1.1.0) x.1.1.1.0.now x.1.1.1.1.0.now

-- .. what it hands back, or leaves in the lent table and buffers, ..
abbrev pub handed_back : ProgramCall → Served
handed_back (serve_by_value k) =
    served k.result k.exit.1.1.0.now k.exit.1.1.1.0.now k.exit.1.1.1.1.0.now
handed_back (serve_in_place k) =
    served (answering k.exit.0.now k.result) k.exit.1.1.0.now k.exit.1.1.1.0.now k.exit.1.1.1.1.0.now
handed_back (append_by_value k) = served k.result k.exit.1.1.1.0.now k.exit.1.1.1.1.0.now []
handed_back (append_in_place k) =
    served (answering k.exit.0.now k.result) k.exit.1.1.1.0.now k.exit.1.1.1.1.0.now []
handed_back (latest_by_value k) = served k.result k.exit.1.1.1.0.now k.exit.1.1.1.1.0.now []
handed_back (latest_in_place k) =
    served (answering k.exit.0.now k.result) k.exit.1.1.1.0.now k.exit.1.1.1.1.0.now []

-- .. and what the reference machine is fed with: what it asks for and the lengths that it is lent.
abbrev pub call_of : ProgramCall → Call
call_of k = calling_for (given k).asks (given k).store (given k).words (given k).bytes
