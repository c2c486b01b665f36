-- Each time adds two edges.
use Rattle.std.proofs.Common.{◌+◌, not, [], ◌∷◌, ◌++◌, ap, refl, ◌∙◌, arith}
use Rattle.sim_base.specs.Recordings.{edge_at}
use Rattle.sim_base.proofs.PushedEdges.{adds-next, adds-end}
use Rattle.sim_base.proofs.recording.push_edges.Goals as goal

pub loop-ideal-preserved : goal.loop-ideal-preserved
loop-ideal-preserved c = record {
  adds = adds-next c.args.pulses.now.line c.args.pulses.now.level c.args.pulses.now.width c.args.jitter _ c.args.ideals.now c.loop-ideal.ideal-index c.loop-ideal.edges.items c.push-in-loop-ideal.new.self.items c.record-time.result c.loop-ideal.wobble c.record-time.new.wobble _ _
      (omega arith) c.loop-ideal.invariant.adds refl c.record-time.ensures.value
      (c.push-in-loop-ideal.ensures.items ∙ ap (λ l. l ++ edge_at c.args.pulses.now.line (c.record-time.result + c.args.pulses.now.width) (not c.args.pulses.now.level) ∷ []) c.push.ensures.items) c.record-time.ensures.next;
  room = omega arith;
}

pub returns-clause-edges : goal.returns-clause-edges
returns-clause-edges c = (adds-end _ _ _ _ c.args.ideals.now c.loop-ideal.ideal-index _ _ _ _ (omega arith) c.loop-ideal.invariant.adds).0

pub returns-clause-next : goal.returns-clause-next
returns-clause-next c = (adds-end _ _ _ _ c.args.ideals.now c.loop-ideal.ideal-index _ _ _ _ (omega arith) c.loop-ideal.invariant.adds).1
