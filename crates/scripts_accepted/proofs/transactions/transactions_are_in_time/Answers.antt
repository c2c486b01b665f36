-- The law is a lemma.
use Rattle.scripts_accepted.proofs.SpcMessages.{in-time}
use Rattle.scripts_accepted.proofs.transactions.transactions_are_in_time.Goals as goal

pub returns : goal.returns
returns c = λ line s state messages edges message g accepted nibbles fits few run. in-time line s accepted.0 accepted.1 state messages edges message g nibbles fits few run
