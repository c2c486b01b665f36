-- One edge more of the data line: it may end a burst and begin another.
use Rattle.std.proofs.Common.{[], ◌∷◌, ◌++◌, Bool, if◌then◌else◌, ap, sym, ◌∙◌, arith}
use Rattle.psi5_frame.specs.Bursts.{burst_starts}
use Rattle.receiver_core.specs.Psi5Places.{data_edges}
use Rattle.receiver_core.specs.Psi5Reports.{told_so_far, told_past, psi5_so_far}
use Rattle.receiver_core.proofs.Psi5Stretches.{told-read, reports-more, since-few, ended-fits, bursts-begun, bursts-stay}
use Rattle.receiver_core.proofs.psi5_channel.Psi5Channel.read.Goals as goal

pub tell-requires-clause-stands : goal.tell-requires-clause-stands
tell-requires-clause-stands c =
    let given = c.requires.stands in
    let line = data_edges given.1 given.3 in (
      given.0,
      given.2,
      told_past [] (told_so_far given.0 given.1 given.3),
      given.4.codes,
      ended-fits given.0 line (line ++ record { number = c.args.number; edge = c.args.edge } ∷ []) _ (c.push-ended.ensures.grows given.0 line given.4.reads),
      omega (arith, since-few given.0 given.1 given.3, given.6),
    )

pub returns-then-began-clause-stands : goal.returns-then-began-clause-stands
returns-then-began-clause-stands c = λ s slots repeats seen before off.
    let line = data_edges slots seen in
    bursts-begun s slots repeats c.args.self.now seen (record { number = c.args.number; edge = c.args.edge }) c.push-ended.new.self _
    (record {
      before = before;
      off = off;
      reads = c.push-ended.ensures.stands s line before.reads;
      grows = c.push-ended.ensures.grows s line before.reads;
      starts = c.push-ended.ensures.began s line before.reads ∙ ap (λ (b : Bool). burst_starts s line ++ (if b then c.args.number ∷ [] else [])) c.if-began.true;
    }) c.place_of-self.new.sync c.place_of-self.result c.tell.new.init
    (c.place_of-self.ensures.stands s slots seen before.syncs off) (c.place_of-self.ensures.place s slots seen before.syncs) c.place_of-self.ensures.valid
    (c.tell.ensures.stands s repeats (told_past [] (told_so_far s slots seen)) before.codes)

pub returns-then-began-clause-grows : goal.returns-then-began-clause-grows
returns-then-began-clause-grows c = λ s slots repeats seen before off.
    let line = data_edges slots seen in
    reports-more s slots repeats seen (seen ++ record { number = c.args.number; edge = c.args.edge } ∷ []) _
    (told-read s slots repeats c.args.self.now seen (record { number = c.args.number; edge = c.args.edge }) c.push-ended.new.self _ _
    (record {
      before = before;
      off = off;
      reads = c.push-ended.ensures.stands s line before.reads;
      grows = c.push-ended.ensures.grows s line before.reads;
      starts = c.push-ended.ensures.began s line before.reads;
    }))
    ∙ ap (λ l. psi5_so_far s slots repeats seen ++ l) (sym (c.tell.ensures.reports s repeats (told_past [] (told_so_far s slots seen)) before.codes))

pub returns-else-began-clause-stands : goal.returns-else-began-clause-stands
returns-else-began-clause-stands c = λ s slots repeats seen before off.
    let line = data_edges slots seen in
    bursts-stay s slots repeats c.args.self.now seen (record { number = c.args.number; edge = c.args.edge }) c.push-ended.new.self _
    (record {
      before = before;
      off = off;
      reads = c.push-ended.ensures.stands s line before.reads;
      grows = c.push-ended.ensures.grows s line before.reads;
      starts = c.push-ended.ensures.began s line before.reads ∙ ap (λ (b : Bool). burst_starts s line ++ (if b then c.args.number ∷ [] else [])) c.if-began.false;
    }) c.tell.new.init
    (c.tell.ensures.stands s repeats (told_past [] (told_so_far s slots seen)) before.codes)

pub returns-else-began-clause-grows : goal.returns-else-began-clause-grows
returns-else-began-clause-grows c = λ s slots repeats seen before off.
    let line = data_edges slots seen in
    reports-more s slots repeats seen (seen ++ record { number = c.args.number; edge = c.args.edge } ∷ []) _
    (told-read s slots repeats c.args.self.now seen (record { number = c.args.number; edge = c.args.edge }) c.push-ended.new.self _ _
    (record {
      before = before;
      off = off;
      reads = c.push-ended.ensures.stands s line before.reads;
      grows = c.push-ended.ensures.grows s line before.reads;
      starts = c.push-ended.ensures.began s line before.reads;
    }))
    ∙ ap (λ l. psi5_so_far s slots repeats seen ++ l) (sym (c.tell.ensures.reports s repeats (told_past [] (told_so_far s slots seen)) before.codes))
