-- The last line is taken, and then the end.
use Rattle.std.proofs.Common.{◌∙◌, List, [], ap, arith, sym, append-nil}
use Rattle.receiver_core.specs.declared.setup.ChannelSetup.{ChannelSetup}
use Rattle.edge_trace.specs.Limits.{whole_edges_of}
use Rattle.edge_trace.proofs.OrderedLists.{whole_edges_are_few}
use Rattle.decode_command.specs.Channels.{Decoding, is_marked}
use Rattle.decode_command.specs.Runs.{decoding_of}
use Rattle.command_base.proofs.Growing.{cut-longer}
use Rattle.decode_command.proofs.Fronts.{input-front}
use Rattle.decode_command.proofs.Runs.{towards-from, end-grows, end-cuts, end-refused}
use Rattle.decode_command.proofs.run.RunTaskRun.finish.Goals as goal

pub take_last-requires : goal.take_last-requires
take_last-requires g c = (c.requires.1, c.requires.2.reads)

pub put_end-requires : goal.put_end-requires
put_end-requires g c =
    let bytes = c.requires.1 in
    (whole_edges_of bytes, c.in-Ok.ensures.follow bytes c.requires.2.reads, (let few = whole_edges_are_few bytes in omega arith))

pub returns-in-Err-Put-clause-ends : goal.returns-in-Err-Put-clause-ends
returns-in-Err-Put-clause-ends g c = λ task bytes before.
    let decoding = decoding_of c.args.self.now in
    rw before.decodes (cut-longer _ _ _ _ _ (towards-from _ _ _ _ _ before.gathered (rw c.in-Err-Put.field-0-is at (c.in-Err-Put.ensures.taken bytes before.reads)))
    (input-front decoding bytes (whole_edges_of bytes) [] (sym (append-nil (whole_edges_of bytes)))))

pub returns-in-Err-Line-clause-ends : goal.returns-in-Err-Line-clause-ends
returns-in-Err-Line-clause-ends g c = λ task bytes before.
    let last = rw c.in-Err-Line.field-0-is at (c.in-Err-Line.ensures.taken bytes before.reads) in
    rw before.decodes (last.0, end-refused (decoding_of c.args.self.now) _ _ bytes _ last.0 last.1 last.2)

pub returns-in-Err-clause-ends : goal.returns-in-Err-clause-ends
returns-in-Err-clause-ends g c = λ task bytes before.
    let last = c.in-Ok.ensures.taken bytes before.reads in
    rw before.decodes (end-cuts (decoding_of c.args.self.now) _ _ _ _ _ bytes before.gathered last.0 last.1 c.take_last.ensures.decoding (c.in-Err.ensures.cut (whole_edges_of bytes) (c.in-Ok.ensures.follow bytes before.reads)))

pub returns-then-are_marked-clause-ends : goal.returns-then-are_marked-clause-ends
returns-then-are_marked-clause-ends g c = λ task bytes before.
    let last = c.in-Ok.ensures.taken bytes before.reads in
    rw before.decodes (
      last.0,
      sym (ap (λ (setups : List ChannelSetup). is_marked setups (whole_edges_of bytes)) (c.put_end.ensures.setups ∙ ap (λ (d : Decoding). d.setups) c.take_last.ensures.decoding))
          ∙ sym ((rw c.as_slice.ensures.value at c.are_marked.ensures) (whole_edges_of bytes) (c.in-Ok-put_end.ensures.counted (whole_edges_of bytes) (c.in-Ok.ensures.follow bytes before.reads))) ∙ c.if-are_marked.true,
      end-grows (decoding_of c.args.self.now) _ _ _ _ _ bytes before.gathered last.0 last.1 c.take_last.ensures.decoding (c.in-Ok-put_end.ensures.written (whole_edges_of bytes) (c.in-Ok.ensures.follow bytes before.reads)),
    )

pub returns-else-are_marked-clause-ends : goal.returns-else-are_marked-clause-ends
returns-else-are_marked-clause-ends g c = λ task bytes before.
    let last = c.in-Ok.ensures.taken bytes before.reads in
    rw before.decodes (
      last.0,
      sym (ap (λ (setups : List ChannelSetup). is_marked setups (whole_edges_of bytes)) (c.put_end.ensures.setups ∙ ap (λ (d : Decoding). d.setups) c.take_last.ensures.decoding))
          ∙ sym ((rw c.as_slice.ensures.value at c.are_marked.ensures) (whole_edges_of bytes) (c.in-Ok-put_end.ensures.counted (whole_edges_of bytes) (c.in-Ok.ensures.follow bytes before.reads))) ∙ c.if-are_marked.false,
      end-grows (decoding_of c.args.self.now) _ _ _ _ _ bytes before.gathered last.0 last.1 c.take_last.ensures.decoding (c.in-Ok-put_end.ensures.written (whole_edges_of bytes) (c.in-Ok.ensures.follow bytes before.reads)),
    )
