-- All is sent, both listeners get the end, and the line is put.
use Rattle.std.proofs.Common.{None, ◌+◌, ◌%◌, ◌^◌, ◌∙◌, arith}
use Rattle.sensor_sim.specs.Played.{wobble_of}
use Rattle.line_base.specs.declared.reason.Reason.TheVariants as reason
use Rattle.loop_command.proofs.WrittenLines.{ended-with, line-of}
use Rattle.loop_command.proofs.run.run_loop.Goals as goal

pub send_all-requires : goal.send_all-requires
send_all-requires g c = (c.args.seed, c.args.setup.now, c.new-running.ensures c.args.count)

pub take_end-requires : goal.take_end-requires
take_end-requires g c = (let all = c.send_all.ensures c.args.seed c.args.setup.now (c.new-running.ensures c.args.count) in (c.args.setup.now, all.edges, all.got, omega (arith, all.few)))

pub returns-in-Ok-clause-ended : goal.returns-in-Ok-clause-ended
returns-in-Ok-clause-ended g c =
    let setup = c.args.setup.now in
    let all = c.send_all.ensures c.args.seed setup (c.new-running.ensures c.args.count) in
    ended-with c.args.seed c.args.count setup reason.Clean (g.K.Sink.got c.args.out.now) (g.K.Sink.got c.put.new.self) all.edges c.as_bytes.result.now all.are
    (λ messages scripted. c.scripted_messages_are_all_heard.ensures.sent setup (wobble_of ((c.args.seed + 1) % 2 ^ 64)) c.args.seed c.args.count messages (c.new-running.ensures c.args.count).sent.accepted c.requires.no_fault c.requires.count scripted)
    (λ messages scripted. c.scripted_messages_are_all_heard.ensures.heard setup (wobble_of ((c.args.seed + 1) % 2 ^ 64)) c.args.seed c.args.count messages (c.new-running.ensures c.args.count).sent.accepted c.requires.no_fault c.requires.count scripted)
    (c.as_bytes.ensures.value ∙ c.deref.ensures.0 ∙ c.write_line.ensures
    ∙ line-of c.args.count setup all.edges c.take_end.new.self.all.tally c.take_end.new.self.gaps.receiver.tally c.take_end.new.self.gaps.edges c.take_end.new.self.last (c.take_end.ensures.all setup all.edges all.got) (c.take_end.ensures.thinned setup all.edges all.got) (c.take_end.ensures.edges setup all.edges all.got) (c.take_end.ensures.last setup all.edges all.got))
    c.in-Ok.ensures.bytes

pub returns-in-Err-clause-ended : goal.returns-in-Err-clause-ended
returns-in-Err-clause-ended g c =
    let setup = c.args.setup.now in
    let all = c.send_all.ensures c.args.seed setup (c.new-running.ensures c.args.count) in
    ended-with c.args.seed c.args.count setup (reason.WriteFault None) (g.K.Sink.got c.args.out.now) (g.K.Sink.got c.put.new.self) all.edges c.as_bytes.result.now all.are
    (λ messages scripted. c.scripted_messages_are_all_heard.ensures.sent setup (wobble_of ((c.args.seed + 1) % 2 ^ 64)) c.args.seed c.args.count messages (c.new-running.ensures c.args.count).sent.accepted c.requires.no_fault c.requires.count scripted)
    (λ messages scripted. c.scripted_messages_are_all_heard.ensures.heard setup (wobble_of ((c.args.seed + 1) % 2 ^ 64)) c.args.seed c.args.count messages (c.new-running.ensures c.args.count).sent.accepted c.requires.no_fault c.requires.count scripted)
    (c.as_bytes.ensures.value ∙ c.deref.ensures.0 ∙ c.write_line.ensures
    ∙ line-of c.args.count setup all.edges c.take_end.new.self.all.tally c.take_end.new.self.gaps.receiver.tally c.take_end.new.self.gaps.edges c.take_end.new.self.last (c.take_end.ensures.all setup all.edges all.got) (c.take_end.ensures.thinned setup all.edges all.got) (c.take_end.ensures.edges setup all.edges all.got) (c.take_end.ensures.last setup all.edges all.got))
    c.in-Err.ensures.bytes
