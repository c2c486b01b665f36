use Rattle.link_words.proofs.Held.{one_held}
use Rattle.link_words.proofs.setting.Chosen.put.Goals as goal

pub returns : goal.returns
returns c = λ settings held. rw c.place_of.ensures.value (one_held c.args.self.now.values settings held c.args.setting)
