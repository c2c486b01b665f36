-- Both laws are lemmas.
use Rattle.psi5_downlink_tolerance.proofs.ReadTrains.{says_all, says_last}
use Rattle.psi5_downlink_tolerance.proofs.honest.recorded_gaps_are_read.Goals as goal

pub returns-clause-as_many : goal.returns-clause-as_many
returns-clause-as_many c = says_last

pub returns-clause-all : goal.returns-clause-all
returns-clause-all c = says_all
