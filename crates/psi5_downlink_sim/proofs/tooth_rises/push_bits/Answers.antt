-- Each bit that is set adds its rise.
use Rattle.std.proofs.Common.{◌<◌, length, ap, ◌∙◌, arith}
use Rattle.psi5_downlink_sim.proofs.PushedBits.{adds-clear, adds-end, adds-same, adds-set, adds-start}
use Rattle.psi5_downlink_sim.proofs.tooth_rises.push_bits.Goals as goal
use Rattle.psi5_downlink_sim.proofs.tooth_rises.push_bits.Goals.{then-bit, else-bit}

pub loop-bit-init : goal.loop-bit-init
loop-bit-init c = record {
  adds = adds-start c.args.period c.args.bits.now c.args.rises.now.items c.args.start;
  room = omega arith;
  in_time = omega arith;
}

pub loop-bit-preserved : goal.loop-bit-preserved
loop-bit-preserved c =
    let bits = c.args.bits.now in
    let place = c.loop-bit.bit-index in
    let within : place < length bits = omega arith in
    elim c.if-bit.branch [
      | then-bit w ↦ record {
        adds = adds-same (adds-set c.args.period bits place within c.loop-bit.rises.items c.loop-bit.last c.loop-bit.time _ _ c.loop-bit.invariant.adds w.if-bit.true)
            (ap (λ r. r.items) w.rises-is ∙ w.push.ensures.items) w.last-is;
        room = omega (arith, ap (λ r. length r.items) w.rises-is, w.push.ensures.len);
        in_time = omega (arith, c.loop-bit.invariant.in_time);
      }
      | else-bit w ↦ record {
        adds = adds-same (adds-clear c.args.period bits place within c.loop-bit.rises.items c.loop-bit.last c.loop-bit.time _ _ c.loop-bit.invariant.adds w.if-bit.false) (ap (λ r. r.items) w.rises-is) w.last-is;
        room = omega (arith, ap (λ r. length r.items) w.rises-is);
        in_time = omega (arith, c.loop-bit.invariant.in_time);
      }
    ]

pub returns-clause-rises : goal.returns-clause-rises
returns-clause-rises c = (adds-end c.args.period c.args.bits.now c.loop-bit.bit-index _ _ _ _ _ (omega arith) c.loop-bit.invariant.adds).0

pub returns-clause-last : goal.returns-clause-last
returns-clause-last c = (adds-end c.args.period c.args.bits.now c.loop-bit.bit-index _ _ _ _ _ (omega arith) c.loop-bit.invariant.adds).1
