-- One bit more.
use Rattle.std.proofs.Common.{◌++◌, arith}
use Rattle.link_math.specs.Division as division
use Rattle.psi5_downlink.proofs.Encoding.{high_all, high_more, pushed_one}
use Rattle.psi5_downlink.proofs.bits.push_high.Goals as goal

pub loop-place-preserved : goal.loop-place-preserved
loop-place-preserved c = record {
  bits = high_more c.loop-place.bits c.push.new.self (c.args.bits.now ++ division.bits_of c.args.width c.args.value) c.args.width c.loop-place.place c.args.value c.loop-place-test.true c.loop-place.invariant.bits c.push.ensures;
  room = omega (arith, c.loop-place.invariant.room, pushed_one c.loop-place.bits c.push.new.self _ c.push.ensures);
}

pub returns-clause-bits : goal.returns-clause-bits
returns-clause-bits c = high_all c.loop-place.bits (c.args.bits.now ++ division.bits_of c.args.width c.args.value) c.args.width c.loop-place.place c.args.value c.loop-place-test.false c.loop-place.invariant.bits
