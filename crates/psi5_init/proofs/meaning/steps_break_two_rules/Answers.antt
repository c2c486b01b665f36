-- Each step is one of the table's.
use Rattle.psi5_init.proofs.Rules.{steps-break}
use Rattle.psi5_init.proofs.meaning.steps_break_two_rules.Goals as goal

pub returns : goal.returns
returns c = steps-break
