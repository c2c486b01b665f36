-- Each time adds an edge.
use Rattle.std.proofs.Common.{refl, arith}
use Rattle.psi5_sim.proofs.PushedEdges.{adds-next, adds-end}
use Rattle.psi5_sim.proofs.bursts.push_alternating.Goals as goal

pub loop-ideal-preserved : goal.loop-ideal-preserved
loop-ideal-preserved c = record {
  adds = adds-next c.args.line c.loop-ideal.level c.args.jitter _ c.args.ideals.now c.loop-ideal.ideal-index c.loop-ideal.edges.items c.push.new.self.items c.record-time.result c.loop-ideal.wobble c.record-time.new.wobble _ _
      (omega arith) c.loop-ideal.invariant.adds refl c.record-time.ensures.value c.push.ensures.items c.record-time.ensures.next;
  room = omega arith;
}

pub returns-clause-edges : goal.returns-clause-edges
returns-clause-edges c = (adds-end _ _ _ c.args.ideals.now c.loop-ideal.ideal-index _ _ _ _ (omega arith) c.loop-ideal.invariant.adds).0

pub returns-clause-next : goal.returns-clause-next
returns-clause-next c = (adds-end _ _ _ c.args.ideals.now c.loop-ideal.ideal-index _ _ _ _ (omega arith) c.loop-ideal.invariant.adds).1
