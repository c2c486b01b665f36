use Rattle.simulate_command.proofs.Starting.{reads-nothing}
use Rattle.simulate_command.proofs.run.Run.new.Goals as goal

pub returns : goal.returns
returns c = λ orderly. reads-nothing c.args.setup.now c.args.seed _ c.requires c.new.ensures.stands c.new-2.ensures c.new-3.ensures orderly
