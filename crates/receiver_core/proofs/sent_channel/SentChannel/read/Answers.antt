-- One edge more.
use Rattle.std.proofs.Common.{ℕ, List, [], ◌∷◌, ◌++◌, ap, subst, sym, ◌∙◌}
use Rattle.sent_frame.specs.Pulses.{pulses_of}
use Rattle.sent_frame.specs.Reading.{sent_reading}
use Rattle.sent_fast.specs.declared.layout.Layout.{Layout}
use Rattle.receiver_core.specs.SentReports.{sent_reports, statuses_of, frames_past, IsReadable}
use Rattle.receiver_core.specs.Serials.{SerialStandsFor}
use Rattle.receiver_core.proofs.SentReports.{readable}
use Rattle.receiver_core.proofs.SentStretches.{watch-more, statuses-more, reports-more}
use Rattle.receiver_core.proofs.sent_channel.SentChannel.read.Goals as goal

pub push_step-requires-clause-readable : goal.push_step-requires-clause-readable
push_step-requires-clause-readable c =
    let stands = c.requires.stands in
    let s = stands.0 in
    let seen = stands.3 in
    let before = stands.4 in
    subst (λ (l : Layout). IsReadable l c.push-step.result) (sym before.same_layout)
    (readable s stands.1 (pulses_of (seen ++ record { number = c.args.number; edge = c.args.edge } ∷ [])) c.push-step.result before.fits (c.push-step.ensures.means s seen before.reads))

pub returns-clause-stands : goal.returns-clause-stands
returns-clause-stands c = λ setup layout serial seen before. record {
  fits = before.fits;
  same_layout = before.same_layout;
  reads = c.push-step.ensures.stands setup seen before.reads;
  watches = c.push_step.ensures.watch
      ∙ watch-more setup layout serial c.args.self.now seen (record { number = c.args.number; edge = c.args.edge }) c.push-step.result before (c.push-step.ensures.grows setup seen before.reads);
  has_read = subst (λ (statuses : List ℕ). SerialStandsFor serial c.push_step.new.serial statuses)
      (statuses-more setup seen (record { number = c.args.number; edge = c.args.edge }) c.push-step.result (c.push-step.ensures.grows setup seen before.reads))
      (c.push_step.ensures.serial serial (statuses_of (frames_past [] (sent_reading setup seen))) before.has_read);
}

pub returns-clause-grows : goal.returns-clause-grows
returns-clause-grows c = λ setup layout serial seen before.
    reports-more setup layout serial c.args.self.now seen (record { number = c.args.number; edge = c.args.edge }) c.push-step.result before (c.push-step.ensures.grows setup seen before.reads)
    ∙ ap (λ l. sent_reports layout serial [] (sent_reading setup seen) ++ l) (sym (c.push_step.ensures.reports serial (statuses_of (frames_past [] (sent_reading setup seen))) before.has_read))
