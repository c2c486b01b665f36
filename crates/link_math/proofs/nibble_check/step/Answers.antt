-- The table's step gives a nibble.
use Rattle.link_math.proofs.CheckTable.{shifted_below}
use Rattle.link_math.proofs.nibble_check.step.Goals as goal

pub returns-clause-is_nibble : goal.returns-clause-is_nibble
returns-clause-is_nibble c = shifted_below c.args.check c.args.nibble c.requires.check_in_range c.requires.nibble_in_range
