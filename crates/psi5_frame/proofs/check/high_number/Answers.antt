-- One bit more.
use Rattle.std.proofs.Common.{refl, arith}
use Rattle.link_math.specs.Division.{number_of}
use Rattle.psi5_frame.proofs.Numbers.{high_bound, high_fits, high_few, high_more}
use Rattle.psi5_frame.proofs.check.high_number.Goals as goal

pub loop-bit-init : goal.loop-bit-init
unfolding number_of
loop-bit-init c = refl

pub overflow_mul-number : goal.overflow_mul-number
overflow_mul-number c = omega (arith, high_bound c.loop-bit.number c.loop-bit.bit-index c.args.bits.now c.requires c.loop-bit.invariant)

pub overflow_add-number : goal.overflow_add-number
overflow_add-number c = omega (arith, high_fits c.loop-bit.number c.loop-bit.bit-index c.from.result c.args.bits.now c.requires c.loop-bit.invariant c.from.ensures)

pub loop-bit-preserved : goal.loop-bit-preserved
loop-bit-preserved c = high_more c.loop-bit.number c.loop-bit.bit-index c.from.result c.args.bits.now c.loop-bit-test.true c.loop-bit.invariant c.from.ensures

pub returns-clause-few : goal.returns-clause-few
returns-clause-few c = high_few c.loop-bit.number c.loop-bit.bit-index c.args.bits.now c.loop-bit-test.false c.loop-bit.invariant
