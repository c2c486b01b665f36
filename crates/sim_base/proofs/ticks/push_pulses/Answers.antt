-- Each pulse adds its fall.
use Rattle.std.proofs.Common.{◌<◌, ◌*◌, ◌^◌, ◌≤◌, arith}
use Rattle.sim_base.proofs.PushedPulses.{adds-next, adds-end, pulse_short}
use Rattle.sim_base.proofs.ticks.push_pulses.Goals as goal

pub loop-count-preserved : goal.loop-count-preserved
loop-count-preserved g c =
    let few : c.from.result < 2 ^ 16 = omega (arith, c.from.ensures, c.type_inv.counts c.loop-count.count-index) in
    let short : c.from.result * c.own_tick.result ≤ 2 ^ 57 = pulse_short c.args.tick c.from.result c.own_tick.result c.requires.tick few c.own_tick.ensures.range in
    record {
      adds = adds-next c.args.tick c.from.result c.own_tick.result c.args.counts.now c.loop-count.count-index c.loop-count.falls.items c.push.new.self.items c.loop-count.time c.loop-count.wobble c.own_tick.new.wobble _ _ _
          (omega arith) c.loop-count.invariant.adds c.from.ensures c.own_tick.ensures.value c.push.ensures.items c.own_tick.ensures.next;
      room = omega arith;
      in_time = omega (arith, c.loop-count.invariant.in_time, short);
    }

pub returns-clause-falls : goal.returns-clause-falls
returns-clause-falls g c = (adds-end c.args.tick c.args.counts.now c.loop-count.count-index _ _ _ _ _ _ (omega arith) c.loop-count.invariant.adds).0

pub returns-clause-last : goal.returns-clause-last
returns-clause-last g c = (adds-end c.args.tick c.args.counts.now c.loop-count.count-index _ _ _ _ _ _ (omega arith) c.loop-count.invariant.adds).1

pub returns-clause-next : goal.returns-clause-next
returns-clause-next g c = (adds-end c.args.tick c.args.counts.now c.loop-count.count-index _ _ _ _ _ _ (omega arith) c.loop-count.invariant.adds).2
