use Rattle.std.proofs.Common.{refl}
use Rattle.command_base.proofs.Pulls.{no-memory}
use Rattle.simulate_command.specs.Simulations.{simulation}
use Rattle.simulate_command.proofs.HonestRows.{honest-clean}
use Rattle.simulate_command.proofs.Steady.{simulation-steady, fault-none}
use Rattle.simulate_command.proofs.command.simulate.Goals as goal

pub returns-in-Ok-clause-honest : goal.returns-in-Ok-clause-honest
returns-in-Ok-clause-honest g c =
    honest-clean c.args.setup.now c.args.seed c.run_over.result _ _ _ _ (record {
      all = λ messages none. c.played_edges_are_honest.ensures.all c.args.setup.now c.args.seed messages none;
      honest = λ messages. c.played_edges_are_honest.ensures.honest c.args.setup.now c.args.seed messages c.setups_are_accepted.ensures c.requires;
      orderly = λ messages. c.played_edges_are_honest.ensures.orderly c.args.setup.now c.args.seed messages c.setups_are_accepted.ensures c.requires;
    }) (c.run_over.ensures.ended (simulation c.args.setup.now c.args.seed) (simulation-steady c.args.setup.now c.args.seed) (fault-none c.args.setup.now c.args.seed) (c.args.setup.now, c.args.seed, refl, c.new-run.ensures (λ state messages edges ran. c.simulated_edges_are_honest.ensures.orderly c.args.setup.now state messages edges c.setups_are_accepted.ensures c.requires ran)))

pub returns-in-Err-clause-ended : goal.returns-in-Err-clause-ended
returns-in-Err-clause-ended g c = no-memory (simulation c.args.setup.now c.args.seed) (g.S.Source.left c.args.source.now) (g.K.Sink.got c.args.out.now)

pub run_over-requires-clause-stands : goal.run_over-requires-clause-stands
run_over-requires-clause-stands g c = (
  simulation c.args.setup.now c.args.seed,
  simulation-steady c.args.setup.now c.args.seed,
  fault-none c.args.setup.now c.args.seed,
  (c.args.setup.now, c.args.seed, refl, c.new-run.ensures (λ state messages edges ran. c.simulated_edges_are_honest.ensures.orderly c.args.setup.now state messages edges c.setups_are_accepted.ensures c.requires ran)),
)

pub returns-in-Ok-clause-ended : goal.returns-in-Ok-clause-ended
returns-in-Ok-clause-ended g c =
    c.run_over.ensures.ended (simulation c.args.setup.now c.args.seed) (simulation-steady c.args.setup.now c.args.seed) (fault-none c.args.setup.now c.args.seed)
    (c.args.setup.now, c.args.seed, refl, c.new-run.ensures (λ state messages edges ran. c.simulated_edges_are_honest.ensures.orderly c.args.setup.now state messages edges c.setups_are_accepted.ensures c.requires ran))
