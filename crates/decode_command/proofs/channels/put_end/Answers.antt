-- The lines of the end, the total lines, and all that is gathered.
use Rattle.std.proofs.Common.{List, subst}
use Rattle.std.proofs.lemmas.Result.{err_from_is_err_and}
use Rattle.receiver_core.specs.declared.setup.ChannelSetup.{ChannelSetup}
use Rattle.decode_command.specs.Channels.{told_lines, end_lines, total_lines}
use Rattle.decode_command.specs.Writes.{Takes, TakesFront}
use Rattle.decode_command.specs.Followed.{setups_of}
use Rattle.decode_command.proofs.Answers.{on-ok, on-err}
use Rattle.decode_command.proofs.Writing.{takes-then, then-cut, cut-behind, takes-put, takes-cut}
use Rattle.decode_command.proofs.channels.put_end.Goals as goal

pub returns-in_err-take_end-clause-cut : goal.returns-in_err-take_end-clause-cut
returns-in_err-take_end-clause-cut g c =
    let p = err_from_is_err_and c.from_residual.result c.from_residual.ensures.1 in
    rw p.1 (λ edges before.
    cut-behind (record { got = g.K.Sink.got c.args.out.now; gathered = c.args.text.now }) (g.K.Sink.got c.take_end.new.out) (told_lines c.args.told (end_lines 0 (setups_of c.args.channels.now) edges)) (total_lines 0 (setups_of c.args.channels.now) edges)
    (c.in_err-take_end.ensures.cut edges before))

pub returns-in_err-write_totals-clause-cut : goal.returns-in_err-write_totals-clause-cut
returns-in_err-write_totals-clause-cut g c =
    let p = err_from_is_err_and c.from_residual-in_err-write_totals.result c.from_residual-in_err-write_totals.ensures.1 in
    rw p.1 (λ edges before.
    then-cut _ _ _ _ _ (c.in_ok-take_end.ensures.written edges before)
    (subst (λ (setups : List ChannelSetup). TakesFront (record { got = g.K.Sink.got c.take_end.new.out; gathered = c.take_end.new.text }) (g.K.Sink.got c.write_totals.new.out) (total_lines 0 setups edges)) c.take_end.ensures.setups
    (c.in_err-write_totals.ensures.cut edges (c.in_ok-take_end.ensures.counted edges before))))

pub returns-clause-written : goal.returns-clause-written
returns-clause-written g c =
    on-ok c.put.result c.put.ensures.put (λ put edges before.
    takes-put _ _ _ _ (takes-then _ _ _ _ _ (c.in_ok-take_end.ensures.written edges before)
    (subst (λ (setups : List ChannelSetup). Takes (record { got = g.K.Sink.got c.take_end.new.out; gathered = c.take_end.new.text }) (record { got = g.K.Sink.got c.write_totals.new.out; gathered = c.write_totals.new.text }) (total_lines 0 setups edges)) c.take_end.ensures.setups
    (c.in_ok-write_totals.ensures.written edges (c.in_ok-take_end.ensures.counted edges before)))) put)

pub returns-clause-cut : goal.returns-clause-cut
returns-clause-cut g c =
    on-err c.put.result c.put.ensures.cut (λ cut edges before.
    takes-cut _ _ _ _ (takes-then _ _ _ _ _ (c.in_ok-take_end.ensures.written edges before)
    (subst (λ (setups : List ChannelSetup). Takes (record { got = g.K.Sink.got c.take_end.new.out; gathered = c.take_end.new.text }) (record { got = g.K.Sink.got c.write_totals.new.out; gathered = c.write_totals.new.text }) (total_lines 0 setups edges)) c.take_end.ensures.setups
    (c.in_ok-write_totals.ensures.written edges (c.in_ok-take_end.ensures.counted edges before)))) cut)
