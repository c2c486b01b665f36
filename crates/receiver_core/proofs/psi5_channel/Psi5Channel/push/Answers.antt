-- An edge of the sync line, one that goes on with a burst, and any other.
use Rattle.std.proofs.Common.{sym, refl}
use Rattle.receiver_core.specs.Psi5Places.{data_edges}
use Rattle.receiver_core.proofs.Psi5Stretches.{quiet-so_far, bursts-synced, passed-read, bursts-pass, pass-so_far}
use Rattle.receiver_core.proofs.psi5_channel.Psi5Channel.push.Goals as goal

pub read-requires-clause-stands : goal.read-requires-clause-stands
read-requires-clause-stands c =
    let given = c.requires.stands in
    (given.0, given.1, given.2, given.3, rw (c.if-take_sync.ensures.left refl, c.if-passes.ensures.left refl) given.4, sym (c.if-take_sync.ensures.on given.0 given.1 given.3 c.args.number given.4.syncs), given.5)

pub returns-then-take_sync-clause-stands : goal.returns-then-take_sync-clause-stands
returns-then-take_sync-clause-stands c = λ s slots repeats seen before.
    bursts-synced s slots repeats c.args.self.now seen (record { number = c.args.number; edge = c.args.edge }) c.take_sync.new.sync before
    (sym (c.if-take_sync.ensures.on s slots seen c.args.number before.syncs)) (c.if-take_sync.ensures.stands refl s slots seen c.args.number before.syncs)

pub returns-then-take_sync-clause-grows : goal.returns-then-take_sync-clause-grows
returns-then-take_sync-clause-grows c = λ s slots repeats seen before.
    quiet-so_far s slots repeats seen (record { number = c.args.number; edge = c.args.edge }) _ c.requires.empty (sym (c.if-take_sync.ensures.on s slots seen c.args.number before.syncs))

pub returns-then-passes-clause-stands : goal.returns-then-passes-clause-stands
returns-then-passes-clause-stands c = λ s slots repeats seen before.
    rw (c.if-take_sync.ensures.left refl)
    (bursts-pass s slots repeats c.args.self.now seen (record { number = c.args.number; edge = c.args.edge }) c.passes.new.self
    (passed-read s slots repeats c.args.self.now seen (record { number = c.args.number; edge = c.args.edge }) c.passes.new.self before
    (sym (c.if-take_sync.ensures.on s slots seen c.args.number before.syncs)) (c.if-passes.ensures.stands refl s (data_edges slots seen) before.reads)
    (c.if-passes.ensures.quiet refl s (data_edges slots seen) before.reads) (c.if-passes.ensures.starts refl s (data_edges slots seen) before.reads)))

pub returns-then-passes-clause-grows : goal.returns-then-passes-clause-grows
returns-then-passes-clause-grows c = λ s slots repeats seen before.
    pass-so_far s slots repeats c.args.self.now seen (record { number = c.args.number; edge = c.args.edge }) c.passes.new.self c.args.reports.now.items
    (passed-read s slots repeats c.args.self.now seen (record { number = c.args.number; edge = c.args.edge }) c.passes.new.self before
    (sym (c.if-take_sync.ensures.on s slots seen c.args.number before.syncs)) (c.if-passes.ensures.stands refl s (data_edges slots seen) before.reads)
    (c.if-passes.ensures.quiet refl s (data_edges slots seen) before.reads) (c.if-passes.ensures.starts refl s (data_edges slots seen) before.reads)) c.requires.empty

pub returns-clause-stands : goal.returns-clause-stands
returns-clause-stands c = λ s slots repeats seen before.
    c.read.ensures.stands s slots repeats seen (rw (c.if-take_sync.ensures.left refl, c.if-passes.ensures.left refl) before) (sym (c.if-take_sync.ensures.on s slots seen c.args.number before.syncs))

pub returns-clause-grows : goal.returns-clause-grows
returns-clause-grows c = λ s slots repeats seen before.
    c.read.ensures.grows s slots repeats seen (rw (c.if-take_sync.ensures.left refl, c.if-passes.ensures.left refl) before) (sym (c.if-take_sync.ensures.on s slots seen c.args.number before.syncs))
