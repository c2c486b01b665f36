-- A PSI5 and an SPC channel add what they have left to tell.
use Rattle.std.proofs.Common.{[], ◌++◌, ap, sym, subst, ◌∙◌}
use Rattle.receiver_core.specs.declared.receiver.Link.{Link}
use Rattle.receiver_core.specs.Readers.{LinkStandsFor}
use Rattle.receiver_core.specs.OpenStretches.{resumed}
use Rattle.receiver_core.proofs.Links.{end-adds, psi5-end-adds, spc-end-adds, tooth-end-adds, ended-adds, none-added}
use Rattle.receiver_core.proofs.receiver.Link.end.Goals as goal
use Rattle.receiver_core.proofs.receiver.Link.end.Goals.{in-Sent, in-Psi5, in-Spc, in-Tooth, in-Ended}

pub returns-clause-grows : goal.returns-clause-grows
returns-clause-grows c = λ setup number stretch stands. elim c.match-self.branch [
  | in-Sent w ↦ none-added setup number stretch c.match-self.reports.items (end-adds setup number w.in-Sent.field-0 stretch (subst (λ (l : Link). LinkStandsFor setup l stretch) w.in-Sent.is stands)) (ap (λ (r : _). r.items) w.reports-is ∙ c.requires.empty)
  | in-Psi5 w ↦ psi5-end-adds setup number w.in-Psi5.channel stretch _ (subst (λ (l : Link). LinkStandsFor setup l stretch) w.in-Psi5.is stands) w.end.ensures.grows
      ∙ ap (λ (r : _). resumed setup number stretch [] ++ r.items) (sym w.reports-is)
  | in-Spc w ↦ spc-end-adds setup number w.in-Spc.channel stretch _ (subst (λ (l : Link). LinkStandsFor setup l stretch) w.in-Spc.is stands) w.end-in-Spc.ensures.ends
      ∙ ap (λ (r : _). resumed setup number stretch [] ++ r.items) (sym w.reports-is)
  | in-Tooth w ↦ none-added setup number stretch c.match-self.reports.items (tooth-end-adds setup number w.in-Tooth.field-0 stretch (subst (λ (l : Link). LinkStandsFor setup l stretch) w.in-Tooth.is stands)) (ap (λ (r : _). r.items) w.reports-is ∙ c.requires.empty)
  | in-Ended w ↦ none-added setup number stretch c.match-self.reports.items (ended-adds setup number stretch (subst (λ (l : Link). LinkStandsFor setup l stretch) w.in-Ended.is stands)) (ap (λ (r : _). r.items) w.reports-is ∙ c.requires.empty)
]
