use Rattle.link_words.proofs.Held.{none_held}
use Rattle.link_words.proofs.setting.Chosen.new.Goals as goal

pub returns : goal.returns
returns c = none_held
