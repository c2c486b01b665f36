-- One bit more.
use Rattle.std.proofs.Common.{arith}
use Rattle.psi5_downlink.proofs.Numbers.{number_bound, number_few, number_fits, number_more, number_none}
use Rattle.psi5_downlink.proofs.verdict.number_in.Goals as goal

pub loop-bit-init : goal.loop-bit-init
loop-bit-init c = number_none

pub overflow_mul-number : goal.overflow_mul-number
overflow_mul-number c = omega (arith, number_bound c.loop-bit.number c.loop-bit.bit-index c.args.bits.now c.requires c.loop-bit.invariant)

pub overflow_add-number : goal.overflow_add-number
overflow_add-number c = omega (arith, number_fits c.loop-bit.number c.loop-bit.bit-index c.from.result c.args.bits.now c.requires c.loop-bit.invariant c.from.ensures)

pub loop-bit-preserved : goal.loop-bit-preserved
loop-bit-preserved c = number_more c.loop-bit.number c.loop-bit.bit-index c.from.result c.args.bits.now c.loop-bit-test.true c.loop-bit.invariant c.from.ensures

pub returns-clause-few : goal.returns-clause-few
returns-clause-few c = number_few c.loop-bit.number c.loop-bit.bit-index c.args.bits.now c.loop-bit-test.false c.loop-bit.invariant
