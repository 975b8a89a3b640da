-- No refusal has the number 0.
use Prim.Native.Nat.{◌<◌}
use native.Mathlib.Omega.{arith}
use Rattle.model.specs.Answers.{number_of}
use Rattle.model.specs.declared.answer.Refusal.{Refusal}
use Rattle.model.specs.declared.answer.Refusal.TheVariants.{Limits, Unsound, Store, DomainId, Existence, Range, Output, UserAddress}
use Rattle.model.specs.declared.answer.Refusal.TheVariants.{Holder, BlockState, OpenLimit, Serials, Quota, Coverage, Extent, Mismatch}

pub refusal_positive : (reason : Refusal) → 0 < number_of reason
refusal_positive Limits = omega arith
refusal_positive Unsound = omega arith
refusal_positive Store = omega arith
refusal_positive DomainId = omega arith
refusal_positive Existence = omega arith
refusal_positive Range = omega arith
refusal_positive Output = omega arith
refusal_positive UserAddress = omega arith
refusal_positive Holder = omega arith
refusal_positive BlockState = omega arith
refusal_positive OpenLimit = omega arith
refusal_positive Serials = omega arith
refusal_positive Quota = omega arith
refusal_positive Coverage = omega arith
refusal_positive Extent = omega arith
refusal_positive Mismatch = omega arith
