-- A new channel stands for no edges.
use Rattle.std.proofs.Common.{List, refl, subst, sym, ap, ◌∙◌}
use Rattle.sent_frame.specs.declared.frame.SentFrame.{SentFrame}
use Rattle.receiver_core.specs.SentReports.{last_counter, statuses_of}
use Rattle.receiver_core.specs.Serials.{SerialStandsFor}
use Rattle.receiver_core.proofs.SentStretches.{frames-none}
use Rattle.receiver_core.proofs.sent_channel.SentChannel.new.Goals as goal

pub returns : goal.returns
returns c = record {
  fits = c.requires;
  same_layout = refl;
  reads = c.new.ensures;
  watches = c.new-2.ensures ∙ ap (last_counter c.args.layout) (sym (frames-none c.args.setup));
  has_read = subst (λ (frames : List SentFrame). SerialStandsFor c.args.serial c.new-3.result (statuses_of frames)) (sym (frames-none c.args.setup)) c.new-3.ensures;
}
