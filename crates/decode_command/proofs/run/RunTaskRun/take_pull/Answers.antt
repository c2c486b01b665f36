-- A block is taken, and then all that is gathered is put.
use Rattle.std.proofs.Common.{◌∙◌, ap, sym, refl}
use Rattle.decode_command.specs.Channels.{decoding_task}
use Rattle.decode_command.proofs.Runs.{grows-from, towards-from, grows-put, grows-cut_off, reads-same}
use Rattle.decode_command.proofs.run.RunTaskRun.take_pull.Goals as goal

pub take_block-requires : goal.take_block-requires
take_block-requires g c = (c.requires.1, c.requires.2.reads)

pub returns-in-Err-Put-clause-stopped : goal.returns-in-Err-Put-clause-stopped
returns-in-Err-Put-clause-stopped g c = λ task bytes before.
    rw before.decodes (towards-from _ _ _ _ _ before.gathered (rw c.in-Err-Put.field-0-is at (c.in-Err-Put.ensures.stopped bytes before.reads)))

pub returns-in-Err-clause-stopped : goal.returns-in-Err-clause-stopped
returns-in-Err-clause-stopped g c = λ task bytes before.
    rw before.decodes (towards-from _ _ _ _ _ before.gathered (grows-cut_off _ _ _ _ _ (rw c.in-Err-Line.field-0-is at (c.in-Err-Line.ensures.stopped bytes before.reads)).1 c.in-Err.ensures.cut))

pub returns-in-Ok-put-clause-stopped : goal.returns-in-Ok-put-clause-stopped
returns-in-Ok-put-clause-stopped g c = λ task bytes before.
    let line = rw c.in-Err-Line.field-0-is at (c.in-Err-Line.ensures.stopped bytes before.reads) in
    rw before.decodes (line.0, grows-from _ _ _ _ _ before.gathered (grows-put _ _ _ _ _ line.1 c.in-Ok-put.ensures.put))

pub returns-in-Err-put-clause-stopped : goal.returns-in-Err-put-clause-stopped
returns-in-Err-put-clause-stopped g c = λ task bytes before.
    rw before.decodes (towards-from _ _ _ _ _ before.gathered (grows-cut_off _ _ _ _ _ (c.in-Ok.ensures.took bytes before.reads).grows c.in-Err-put.ensures.cut))

pub returns-in-Ok-put-2-clause-took : goal.returns-in-Ok-put-2-clause-took
returns-in-Ok-put-2-clause-took g c = λ task bytes before. record {
  decodes = before.decodes ∙ ap decoding_task (sym c.take_block.ensures.decoding);
  gathered = c.in-Ok-put-2.ensures.none;
  reads = reads-same _ _ _ refl refl (c.in-Ok.ensures.took bytes before.reads).reads;
}

pub returns-in-Ok-put-2-clause-sound : goal.returns-in-Ok-put-2-clause-sound
returns-in-Ok-put-2-clause-sound g c = λ task bytes before. rw before.decodes ((c.in-Ok.ensures.took bytes before.reads).reads.sound)

pub returns-in-Ok-put-2-clause-grows : goal.returns-in-Ok-put-2-clause-grows
returns-in-Ok-put-2-clause-grows g c = λ task bytes before.
    rw before.decodes (grows-from _ _ _ _ _ before.gathered (grows-put _ _ _ _ _ (c.in-Ok.ensures.took bytes before.reads).grows c.in-Ok-put-2.ensures.put))
