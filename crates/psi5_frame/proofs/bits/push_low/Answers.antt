-- One bit more.
use Rattle.std.proofs.Common.{◌++◌, arith}
use Rattle.psi5_frame.specs.Frames.{low_bits}
use Rattle.psi5_frame.proofs.Encoding.{bits_more, bits_all}
use Rattle.psi5_frame.proofs.bits.push_low.Goals as goal

pub loop-preserved : goal.loop-preserved
loop-preserved c = record {
  bits = bits_more c.loop.bits.items c.push.new.self.items c.args.width c.loop.counter c.loop.rest (c.args.bits.now.items ++ low_bits c.args.width c.args.value) c.loop-test.true c.loop.invariant.bits c.push.ensures.items;
  room = omega (arith, c.loop.invariant.room, c.push.ensures.len);
}

pub returns-clause-bits : goal.returns-clause-bits
returns-clause-bits c = bits_all c.loop.bits.items (c.args.bits.now.items ++ low_bits c.args.width c.args.value) c.args.width c.loop.counter c.loop.rest c.loop-test.false c.loop.invariant.bits
