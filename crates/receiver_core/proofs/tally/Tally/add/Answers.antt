-- The tally of reports stays that of the reports.
use Rattle.std.proofs.Common.{arith}
use Rattle.std.proofs.lemmas.Grind.{common_steps}
use Rattle.receiver_core.proofs.Tallies.{counted-whole}
use Rattle.receiver_core.proofs.tally.Tally.add.Goals as goal

pub returns-in-Frame-clause-whole : goal.returns-in-Frame-clause-whole
returns-in-Frame-clause-whole c = λ reports whole. counted-whole _ c.args.self.now c.args.report.now reports (grind (arith, common_steps)) whole

pub returns-in-Fast-clause-whole : goal.returns-in-Fast-clause-whole
returns-in-Fast-clause-whole c = λ reports whole. counted-whole _ c.args.self.now c.args.report.now reports (grind (arith, common_steps)) whole

pub returns-in-Counter-clause-whole : goal.returns-in-Counter-clause-whole
returns-in-Counter-clause-whole c = λ reports whole. counted-whole _ c.args.self.now c.args.report.now reports (grind (arith, common_steps)) whole

pub returns-in-Gap-clause-whole : goal.returns-in-Gap-clause-whole
returns-in-Gap-clause-whole c = λ reports whole. counted-whole _ c.args.self.now c.args.report.now reports (grind (arith, common_steps)) whole
