-- A gap adds its report.
use Rattle.std.proofs.Common.{◌≢◌, ◌++◌, [], ◌∷◌, ap, sym, subst, ◌∙◌}
use Rattle.line_base.specs.declared.edge.Item.TheVariants as item
use Rattle.receiver_core.specs.declared.receiver.Link.{Link}
use Rattle.receiver_core.specs.declared.receiver.Link.TheVariants as link
use Rattle.receiver_core.specs.Readers.{LinkStandsFor}
use Rattle.receiver_core.specs.OpenStretches.{open_with, resumed}
use Rattle.receiver_core.specs.declared.report.What.TheVariants as what
use Rattle.receiver_core.specs.SentReports.{report}
use Rattle.receiver_core.proofs.Links.{gap-adds, no-sent, no-psi5, no-spc, no-tooth, sent-gap, psi5-gap, spc-gap, tooth-gap}
use Rattle.receiver_core.proofs.receiver.Link.gap.Goals as goal
use Rattle.receiver_core.proofs.receiver.Link.gap.Goals.{in-Sent, in-Psi5, in-Spc, in-Tooth}

pub returns-clause-grows : goal.returns-clause-grows
returns-clause-grows c = λ setup number stretch stands.
    gap-adds setup number c.args.self.now stretch c.args.first c.args.count stands goes_on
    ∙ ap (λ l. resumed setup number stretch [] ++ l) (sym (c.push.ensures.items ∙ ap (λ l. l ++ report c.args.first (what.Gap c.args.count) ∷ []) c.requires))
  where
    goes_on : c.args.self.now ≢ link.Ended
    goes_on = elim c.match-self.branch [
      | in-Sent w ↦ λ ended. no-sent w.in-Sent.channel (sym w.in-Sent.is ∙ ended)
      | in-Psi5 w ↦ λ ended. no-psi5 w.in-Psi5.channel (sym w.in-Psi5.is ∙ ended)
      | in-Spc w ↦ λ ended. no-spc w.in-Spc.channel (sym w.in-Spc.is ∙ ended)
      | in-Tooth w ↦ λ ended. no-tooth w.in-Tooth.channel (sym w.in-Tooth.is ∙ ended)
    ]

pub returns-clause-stands : goal.returns-clause-stands
returns-clause-stands c = λ setup number stretch stands. elim c.match-self.branch [
  | in-Sent w ↦ subst (λ (l : Link). LinkStandsFor setup l (open_with number stretch (item.Gap c.args.first c.args.count))) (sym w.self-is)
      (sent-gap setup number c.args.first c.args.count w.in-Sent.channel w.reset.new.self stretch (subst (λ (l : Link). LinkStandsFor setup l stretch) w.in-Sent.is stands) w.reset.ensures)
  | in-Psi5 w ↦ subst (λ (l : Link). LinkStandsFor setup l (open_with number stretch (item.Gap c.args.first c.args.count))) (sym w.self-is)
      (psi5-gap setup number c.args.first c.args.count w.in-Psi5.channel w.reset-in-Psi5.new.self stretch (subst (λ (l : Link). LinkStandsFor setup l stretch) w.in-Psi5.is stands) w.reset-in-Psi5.ensures)
  | in-Spc w ↦ subst (λ (l : Link). LinkStandsFor setup l (open_with number stretch (item.Gap c.args.first c.args.count))) (sym w.self-is)
      (spc-gap setup number c.args.first c.args.count w.in-Spc.channel w.reset-in-Spc.new.self stretch (subst (λ (l : Link). LinkStandsFor setup l stretch) w.in-Spc.is stands) w.reset-in-Spc.ensures)
  | in-Tooth w ↦ subst (λ (l : Link). LinkStandsFor setup l (open_with number stretch (item.Gap c.args.first c.args.count))) (sym w.self-is)
      (tooth-gap setup number c.args.first c.args.count w.in-Tooth.channel w.reset-in-Tooth.new.self stretch (subst (λ (l : Link). LinkStandsFor setup l stretch) w.in-Tooth.is stands) w.reset-in-Tooth.ensures)
]
