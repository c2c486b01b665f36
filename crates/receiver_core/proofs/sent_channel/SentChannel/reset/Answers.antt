-- A channel that forgets all stands for no edges.
use Rattle.std.proofs.Common.{[], List, subst, sym, ap, ◌∙◌}
use Rattle.sent_frame.specs.declared.frame.SentFrame.{SentFrame}
use Rattle.sent_frame.specs.Reading.{sent_reading}
use Rattle.receiver_core.specs.SentReports.{last_counter, statuses_of, frames_past}
use Rattle.receiver_core.specs.Serials.{SerialStandsFor}
use Rattle.receiver_core.proofs.SentStretches.{frames-none}
use Rattle.receiver_core.proofs.sent_channel.SentChannel.reset.Goals as goal

pub returns : goal.returns
returns c = λ setup layout serial seen before. record {
  fits = before.fits;
  same_layout = before.same_layout;
  reads = c.reset.ensures setup seen before.reads;
  watches = c.reset-2.ensures ∙ ap (last_counter layout) (sym (frames-none setup));
  has_read = subst (λ (frames : List SentFrame). SerialStandsFor serial c.reset-3.new.self (statuses_of frames)) (sym (frames-none setup))
      (c.reset-3.ensures serial (statuses_of (frames_past [] (sent_reading setup seen))) before.has_read);
}
