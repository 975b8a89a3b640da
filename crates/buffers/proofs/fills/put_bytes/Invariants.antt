-- After so many turns as many bytes stand, and the bytes of the rest are left.
use Rattle.std.proofs.Common.{◌≡◌, ◌-◌, ◌++◌, length, take}
use Rattle.geometry.specs.Bytes.{little_endian}
use Rattle.buffers.proofs.fills.put_bytes.Given as goal

abbrev pub invariant-loop-byte : goal.invariant-loop-byte
invariant-loop-byte l =
    let long = length l.initial.part in
    little_endian long l.n ≡ take l.byte-index l.part ++ little_endian (long - l.byte-index) l.rest
