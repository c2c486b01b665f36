-- Both laws are lemmas.
use Rattle.psi5_downlink_tolerance.proofs.HeardPeriods.{few_heard, many_heard}
use Rattle.psi5_downlink_tolerance.proofs.intervals.intervals_are_heard.Goals as goal

pub returns-clause-few : goal.returns-clause-few
returns-clause-few c = few_heard

pub returns-clause-many : goal.returns-clause-many
returns-clause-many c = many_heard
