-- What decoding did follows from how it ended.
use Rattle.std.proofs.Common.{sym, true, false}
use Rattle.edge_command.proofs.DecodedTraces.{decoded}
use Rattle.edge_command.proofs.plain.run_command.Goals as goal

pub returns-in-Decode-clause-did : goal.returns-in-Decode-clause-did
returns-in-Decode-clause-did g c =
    rw (c.in-Decode.is, sym c.list.ensures.list) (decoded (record { setups = c.list.result.now; told = true }) c.decode.result (g.S.Source.left c.args.source.now) (g.S.Source.left c.decode.new.source)
    (g.K.Sink.got c.args.out.now) (g.K.Sink.got c.decode.new.out) c.decode.ensures.ended)

pub returns-in-Check-clause-did : goal.returns-in-Check-clause-did
returns-in-Check-clause-did g c =
    rw (c.in-Check.is, sym c.list-in-Check.ensures.list) (decoded (record { setups = c.list-in-Check.result.now; told = false }) c.decode-in-Check.result (g.S.Source.left c.args.source.now) (g.S.Source.left c.decode-in-Check.new.source)
    (g.K.Sink.got c.args.out.now) (g.K.Sink.got c.decode-in-Check.new.out) c.decode-in-Check.ensures.ended)
