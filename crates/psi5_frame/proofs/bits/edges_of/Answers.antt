-- One bit more, and the end.
use Rattle.std.proofs.Common.{ap, ◌∙◌, length, not, get_or, false, arith}
use mathlib.Core.Bool.{beq}
use Rattle.psi5_frame.proofs.Encoding.{places_few, places_pushed, places_all, places_none}
use Rattle.psi5_frame.proofs.bits.edges_of.Goals as goal

pub loop-bit-init : goal.loop-bit-init
loop-bit-init c = record { places = places_none c.new-places.result.items c.args.bits.now c.new-places.ensures; at = omega arith; few = omega (arith, ap length c.new-places.ensures) }

pub loop-bit-preserved : goal.loop-bit-preserved
loop-bit-preserved c = record {
  places = places_pushed c.push.new.self.items c.push_change.new.places.items c.loop-bit.places.items c.loop-bit.place c.loop-bit.bit-index c.loop-bit.level c.args.bits.now c.push_change.ensures c.push.ensures.items c.loop-bit-test.true c.loop-bit.invariant.places;
  at = omega (arith, c.loop-bit.invariant.at);
  few = places_few c.push.new.self.items c.push_change.new.places.items c.loop-bit.places.items c.loop-bit.place c.loop-bit.bit-index (not (beq (get_or c.args.bits.now c.loop-bit.bit-index false) c.loop-bit.level)) c.push_change.ensures c.push.ensures.items c.loop-bit.invariant.few;
}

pub returns : goal.returns
returns c = c.push_change-2.ensures ∙ places_all c.loop-bit.places.items c.loop-bit.place c.loop-bit.bit-index c.loop-bit.level c.args.bits.now c.loop-bit-test.false c.loop-bit.invariant.places
