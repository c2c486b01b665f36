-- One edge more.
use Rattle.std.proofs.Common.{[], refl, rules}
use Rattle.sent_frame.specs.Positions.{steps_of}
use Rattle.sent_frame.proofs.Pushes.{goes-from, pushed, pushed-grows, pushed-means}
use Rattle.sent_frame.proofs.reader.SentReader.push.Goals as goal

pub returns-then-keeps_on-clause-stands : goal.returns-then-keeps_on-clause-stands
returns-then-keeps_on-clause-stands c = λ setup seen before.
    pushed setup c.self.inside.setup c.self.inside.state c.keeps_on.new.state _ seen (record { number = c.args.number; edge = c.args.edge }) []
    c.self.view_is before (record { leads = c.if-keeps_on.ensures.leads (search rules) c.args.number; valid = c.if-keeps_on.ensures.valid })

pub returns-then-keeps_on-clause-grows : goal.returns-then-keeps_on-clause-grows
returns-then-keeps_on-clause-grows c = λ setup seen before.
    pushed-grows setup c.self.inside.setup c.self.inside.state c.keeps_on.new.state _ seen (record { number = c.args.number; edge = c.args.edge }) []
    c.self.view_is before (record { leads = c.if-keeps_on.ensures.leads (search rules) c.args.number; valid = c.if-keeps_on.ensures.valid })

pub returns-clause-stands : goal.returns-clause-stands
returns-clause-stands c = λ setup seen before.
    pushed setup c.self.inside.setup c.self.inside.state c.next_state-state.result.0 _ seen (record { number = c.args.number; edge = c.args.edge }) (steps_of c.next_state-state.result.1)
    c.self.view_is before (goes-from (c.if-keeps_on.ensures.left refl) c.next_state-state.ensures.leads c.next_state-state.ensures.valid)

pub returns-clause-grows : goal.returns-clause-grows
returns-clause-grows c = λ setup seen before.
    pushed-grows setup c.self.inside.setup c.self.inside.state c.next_state-state.result.0 _ seen (record { number = c.args.number; edge = c.args.edge }) (steps_of c.next_state-state.result.1)
    c.self.view_is before (goes-from (c.if-keeps_on.ensures.left refl) c.next_state-state.ensures.leads c.next_state-state.ensures.valid)

pub returns-clause-means : goal.returns-clause-means
returns-clause-means c = λ setup seen before.
    pushed-means setup c.self.inside.setup c.self.inside.state c.next_state-state.result.0 _ seen (record { number = c.args.number; edge = c.args.edge }) (steps_of c.next_state-state.result.1)
    c.self.view_is before (goes-from (c.if-keeps_on.ensures.left refl) c.next_state-state.ensures.leads c.next_state-state.ensures.valid)
