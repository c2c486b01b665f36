-- The law is a lemma.
use Rattle.spc_link.proofs.Windows.{window-asks}
use Rattle.spc_link.proofs.meaning.windows_are_codes.Goals as goal

pub returns : goal.returns
returns c = λ setup code width accepted some window. window-asks setup code width accepted some window
