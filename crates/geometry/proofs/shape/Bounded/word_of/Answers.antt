-- The word fits, and so each number on the way to it.
use native.Mathlib.Omega.{arith}
use Rattle.geometry.specs.Address.{word_of}
use Rattle.geometry.proofs.Laws.Answers.{word_fits}
use Rattle.geometry.proofs.shape.Bounded.word_of.Goals as goal

pub overflow_mul-result : goal.overflow_mul-result
overflow_mul-result c = omega (arith, word_fits c.args.self.config c.args.a c.requires)

pub overflow_mul-result-2 : goal.overflow_mul-result-2
overflow_mul-result-2 c = rw c.span.ensures (omega (arith, word_fits c.args.self.config c.args.a c.requires))

pub overflow_add-result : goal.overflow_add-result
overflow_add-result c = rw c.span.ensures (omega (arith, word_fits c.args.self.config c.args.a c.requires))

pub overflow_add-result-2 : goal.overflow_add-result-2
overflow_add-result-2 c = rw c.span.ensures (omega (arith, word_fits c.args.self.config c.args.a c.requires))

pub returns : goal.returns
unfolding word_of
returns c = rw c.span.ensures
