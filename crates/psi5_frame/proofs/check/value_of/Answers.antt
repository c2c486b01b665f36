-- One bit more.
use Rattle.std.proofs.Common.{refl, arith}
use Rattle.psi5_frame.specs.Frames.{low_number}
use Rattle.psi5_frame.proofs.Numbers.{low_few, low_fits, low_more}
use Rattle.psi5_frame.proofs.check.value_of.Goals as goal

pub loop-place-init : goal.loop-place-init
unfolding low_number
loop-place-init c = refl

pub overflow_add-number : goal.overflow_add-number
overflow_add-number c =
    omega (arith, low_fits c.loop-place.number c.loop-place.place c.from.result c.args.bits.now c.requires c.loop-place-test.true c.loop-place.invariant c.from.ensures)

pub loop-place-preserved : goal.loop-place-preserved
loop-place-preserved c = low_more c.loop-place.number c.loop-place.place c.from.result c.args.bits.now c.requires c.loop-place-test.true c.loop-place.invariant c.from.ensures

pub returns-clause-few : goal.returns-clause-few
returns-clause-few c = low_few c.loop-place.number c.loop-place.place c.args.bits.now c.loop-place-test.false c.loop-place.invariant
