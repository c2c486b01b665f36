-- The last burst.
use Rattle.std.proofs.Common.{[], ◌++◌, ap, sym, ◌∙◌, arith}
use Rattle.receiver_core.specs.Psi5Places.{data_edges}
use Rattle.receiver_core.specs.Psi5Reports.{told_so_far, told_past, psi5_so_far}
use Rattle.receiver_core.specs.Psi5Stretches.{told_ended}
use Rattle.receiver_core.proofs.Psi5Stretches.{told-last, reports-last, since-few, last-fits}
use Rattle.receiver_core.proofs.psi5_channel.Psi5Channel.end.Goals as goal

pub tell-requires-clause-stands : goal.tell-requires-clause-stands
tell-requires-clause-stands c =
    let given = c.requires.stands in
    let line = data_edges given.1 given.3 in (
      given.0,
      given.2,
      told_past [] (told_so_far given.0 given.1 given.3),
      given.4.codes,
      last-fits given.0 line c.finish-last.result (c.finish-last.ensures.ends given.0 line given.4.reads),
      omega (arith, since-few given.0 given.1 given.3, given.5),
    )

pub returns : goal.returns
returns c = record {
  grows = λ s slots repeats seen before.
      reports-last s slots repeats seen (told_ended c.args.self.now.place c.finish-last.result)
      (told-last s slots seen c.args.self.now.place c.finish-last.result (c.finish-last.ensures.ends s (data_edges slots seen) before.reads) before.last)
      ∙ ap (λ l. psi5_so_far s slots repeats seen ++ l) (sym (c.tell.ensures.reports s repeats (told_past [] (told_so_far s slots seen)) before.codes));
}
