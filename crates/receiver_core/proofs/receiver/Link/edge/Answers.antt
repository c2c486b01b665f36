-- An edge adds what the channel answers.
use Rattle.std.proofs.Common.{subst}
use Rattle.receiver_core.specs.declared.receiver.Link.{Link}
use Rattle.receiver_core.specs.Readers.{LinkStandsFor}
use Rattle.receiver_core.proofs.Links.{edge-adds, psi5-edge-adds, spc-edge-adds, tooth-edge-adds}
use Rattle.receiver_core.proofs.receiver.Link.edge.Goals as goal

pub returns-in-Sent-clause-grows : goal.returns-in-Sent-clause-grows
returns-in-Sent-clause-grows c = λ setup stretch stands.
    edge-adds setup c.args.number c.in-Sent.channel stretch c.args.edge c.push.new.reports.items
    (subst (λ (l : Link). LinkStandsFor setup l stretch) c.in-Sent.is stands) c.push.ensures.grows

pub returns-in-Psi5-clause-grows : goal.returns-in-Psi5-clause-grows
returns-in-Psi5-clause-grows c = λ setup stretch stands.
    psi5-edge-adds setup c.args.number c.in-Psi5.channel stretch c.args.edge c.push-in-Psi5.new.reports.items
    (subst (λ (l : Link). LinkStandsFor setup l stretch) c.in-Psi5.is stands) c.push-in-Psi5.ensures.grows

pub returns-in-Spc-clause-grows : goal.returns-in-Spc-clause-grows
returns-in-Spc-clause-grows c = λ setup stretch stands.
    spc-edge-adds setup c.args.number c.in-Spc.channel stretch c.args.edge c.push-in-Spc.new.reports.items
    (subst (λ (l : Link). LinkStandsFor setup l stretch) c.in-Spc.is stands) c.push-in-Spc.ensures.grows

pub returns-in-Tooth-clause-grows : goal.returns-in-Tooth-clause-grows
returns-in-Tooth-clause-grows c = λ setup stretch stands.
    tooth-edge-adds setup c.args.number c.in-Tooth.channel stretch c.args.edge c.push-in-Tooth.new.reports.items
    (subst (λ (l : Link). LinkStandsFor setup l stretch) c.in-Tooth.is stands) c.push-in-Tooth.ensures.grows
