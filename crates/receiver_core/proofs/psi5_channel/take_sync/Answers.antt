-- Only a channel with slots has a sync line.
use Rattle.std.proofs.Common.{[], ◌∷◌, ◌++◌, sym, ◌∙◌}
use Rattle.receiver_core.proofs.Psi5Channels.{where-synced, where-on}
use Rattle.receiver_core.proofs.psi5_channel.take_sync.Goals as goal

pub returns-then-not-has-clause-on : goal.returns-then-not-has-clause-on
returns-then-not-has-clause-on c = λ s slots seen number before.
    where-on s slots c.in-Some.line seen (record { number = number; edge = c.args.edge }) _ (rw c.in-Some.is at before)
    (λ line stands. sym c.if-not-has.true ∙ c.has.ensures s line seen number stands)

pub returns-else-not-has-clause-on : goal.returns-else-not-has-clause-on
returns-else-not-has-clause-on c = λ s slots seen number before.
    where-on s slots c.in-Some.line seen (record { number = number; edge = c.args.edge }) _ (rw c.in-Some.is at before)
    (λ line stands. sym c.if-not-has.false ∙ c.has.ensures s line seen number stands)

pub returns-else-not-has-clause-stands : goal.returns-else-not-has-clause-stands
returns-else-not-has-clause-stands c = λ on s slots seen number before.
    where-synced s slots c.in-Some.line c.push.new.self seen (seen ++ record { number = number; edge = c.args.edge } ∷ []) (record { number = number; edge = c.args.edge }) (rw c.in-Some.is at before)
    (λ line stands. c.push.ensures s line seen number stands (sym (c.has.ensures s line seen number stands) ∙ c.if-not-has.false))
