use Rattle.link_words.proofs.KeptSetups.{kept_push}
use Rattle.link_words.proofs.setups.Setups.push.Goals as goal

pub invariant_of-self : goal.invariant_of-self
invariant_of-self c = kept_push _ _ c.args.setup c.self.invariant (rw c.self.view_is c.requires)
