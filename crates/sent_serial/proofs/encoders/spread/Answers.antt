-- One status more, and all of them.
use Rattle.std.proofs.Common.{length, ◌∙◌, arith}
use Rattle.sent_serial.proofs.SpreadBits.{spread_more, spread_starts, spread_two_bits, spread_values}
use Rattle.sent_serial.proofs.encoders.spread.Goals as goal

pub loop-place-preserved : goal.loop-place-preserved
loop-place-preserved c =
    spread_more c.args.values c.args.starts (length c.args.statuses.now) c.loop-place.place c.status_of.result c.loop-place.statuses (omega (arith, c.loop-place.auto.statuses))
    (record {
      value = c.status_of.ensures.value ∙ c.has_bit.ensures;
      start = c.status_of.ensures.start ∙ c.has_bit-in-loop-place.ensures;
      two_bits = c.status_of.ensures.two_bits;
    })
    c.loop-place.invariant

pub returns-clause-values : goal.returns-clause-values
returns-clause-values c = spread_values c.args.values c.args.starts (length c.args.statuses.now) c.loop-place.statuses c.loop-place.auto.statuses (λ k below. c.loop-place.invariant k (omega arith))

pub returns-clause-starts : goal.returns-clause-starts
returns-clause-starts c = spread_starts c.args.values c.args.starts (length c.args.statuses.now) c.loop-place.statuses c.loop-place.auto.statuses (λ k below. c.loop-place.invariant k (omega arith))

pub returns-clause-two_bits : goal.returns-clause-two_bits
returns-clause-two_bits c = spread_two_bits c.args.values c.args.starts (length c.args.statuses.now) c.loop-place.statuses c.loop-place.auto.statuses (λ k below. c.loop-place.invariant k (omega arith))
