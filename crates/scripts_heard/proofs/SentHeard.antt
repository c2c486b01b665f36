-- The frames of a script for SENT are heard.
--     turns-good        frames that follow on have their reports, with the serial messages that end with them
--     frames-heard
use Rattle.std.proofs.Common.{◌≡◌, ℕ, suc, ◌+◌, Bool, true, false, Option, None, Some, List, [], ◌∷◌, ◌++◌, cond, length, drop, flat_map, refl, ap, sym, subst, ◌∙◌, if◌then◌else◌, arith}
use Rattle.std.specs.Prelude.{nat_le, slice_index}
use Rattle.sent_frame.specs.declared.frame.SentFrame.{SentFrame}
use Rattle.sent_frame.specs.Setup.{Settings}
use Rattle.sent_fast.specs.Layouts.{fast_of}
use Rattle.sent_fast.specs.declared.layout.Layout.{Layout}
use Rattle.sent_serial.specs.declared.step.SerialStep.{SerialStep}
use Rattle.sent_serial.specs.declared.step.SerialStep.TheVariants as step
use Rattle.sent_serial.specs.Sendings.{ended_by, sent_from, sent_statuses, told_at}
use Rattle.sent_serial.specs.SentStatuses.{statuses_sent}
use Rattle.sent_tolerance.specs.FromFirst.{Heard, heard_from, pulse_count}
use Rattle.receiver_core.specs.declared.message.Message.{Message}
use Rattle.receiver_core.specs.declared.message.Message.TheVariants as message
use Rattle.receiver_core.specs.declared.report.Report.{Report}
use Rattle.receiver_core.specs.declared.report.What.TheVariants as what
use Rattle.receiver_core.specs.declared.setup.ChannelSetup.TheVariants.{Sent as SentSetup}
use Rattle.receiver_core.specs.declared.setup.Serial.{Serial}
use Rattle.receiver_core.specs.SentReports.{counter_of, report, serial_report, value_reports}
use Rattle.receiver_core.specs.SentTraces.{SentTurn, frame_in, heard_reports, sending_in, turns_of}
use Rattle.receiver_core.specs.Traces.{numbered}
use Rattle.sent_sim.specs.SentSims.{sent_next, started}
use Rattle.sent_sim.specs.SentStates.{SentState}
use Rattle.sensor_sim.specs.declared.sim.Sim.TheVariants as sim
use Rattle.sensor_sim.proofs.HonestRuns.{sent-sends}
use Rattle.sensor_sim.proofs.LinkRuns.{link-run}
use Rattle.sensor_script.specs.Scripts.{script_from}
use Rattle.scripts_heard.specs.AllGood.{AllGood}
use Rattle.sensor_script.specs.Counted.{counted_of, first_messages, is_counted}
use Rattle.scripts_heard.specs.Heard.{AreHeard}
use Rattle.scripts_heard.proofs.AddedReports.{added-good, none-good, one-beside, one-good}
use Rattle.scripts_heard.proofs.ScriptedFrames.{FollowOn, frames-follow}
use Rattle.scripts_heard.proofs.ScriptedMessages.{counted-more}
use Rattle.scripts_heard.proofs.SentFalls.{numbers_of, turns-heard}

-- ---- serial messages
-- the step isn't that of a violated rule
abbrev IsNoFault : SerialStep → Type 0
IsNoFault (step.Bad rule) = ⊥
IsNoFault other = Unit {0}

-- a serial message that is told is neither good nor bad
serial-beside : (place : ℕ) (told : SerialStep) → IsNoFault told → AllGood (serial_report place told) 0
serial-beside place step.Nothing fine = none-good
serial-beside place (step.Short id value) fine = one-beside (report place (what.Short id value)) refl refl
serial-beside place (step.Enhanced id value wide) fine = one-beside (report place (what.Enhanced id value wide)) refl refl
serial-beside place (step.Bad rule) fine = absurd fine

-- by whether all its frames are there
told-by : (place : ℕ) (told : SerialStep) (whole : Bool) → IsNoFault told → AllGood (flat_map (serial_report place) (if whole then told ∷ [] else [])) 0
told-by place told true fine = added-good (serial_report place told) [] 0 0 (serial-beside place told fine) none-good
told-by place told false fine = none-good

-- the message that ends with a frame, if one does, isn't bad
told-beside : (place before : ℕ) (told : SerialStep) (left : List ℕ) → IsNoFault told → AllGood (flat_map (serial_report place) (told_at before (ended_by told left))) 0
told-beside place before told [] fine = told-by place told (nat_le (length (statuses_sent told)) (suc before)) fine
told-beside place before told (bits ∷ left) fine = none-good

-- ---- frames
-- a frame that breaks no rule, and what is told with it
group-good : (place : ℕ) (frame : SentFrame) (values told : List Report) → AllGood values 0 → AllGood told 0 → AllGood (report place (what.Frame frame) ∷ (values ++ told)) 1
group-good place frame values told first second =
    added-good (report place (what.Frame frame) ∷ []) (values ++ told) 1 0 (one-good (report place (what.Frame frame)) refl refl) (added-good values told 0 0 first second)

-- reports that are good behind a frame are as many as are counted with it
counted-frame : (frame : SentFrame) (messages : List Message) (reports : List Report) → AllGood reports (1 + counted_of messages) → AllGood reports (counted_of (message.Frame frame ∷ messages))
counted-frame frame messages reports good = subst (AllGood reports) (sym (counted-more (message.Frame frame) messages)) good

-- a serial message isn't counted
counted-same : (m : Message) (messages : List Message) (reports : List Report) → is_counted m ≡ false → AllGood reports (counted_of messages) → AllGood reports (counted_of (m ∷ messages))
counted-same m messages reports none good =
    let more : counted_of (m ∷ messages) ≡ 0 + counted_of messages = counted-more m messages ∙ ap (λ b. cond b 1 0 + counted_of messages) none in
    let same : counted_of messages ≡ counted_of (m ∷ messages) = omega (arith, more) in
    subst (AllGood reports) same good

module _ (s : Settings) (form : Layout) where
  -- the reports of the frames of these messages, behind this frame and so many in all, while these statuses of this serial message are left to send
  abbrev reports_of : Option SentFrame → ℕ → SerialStep → List ℕ → List Message → List ℕ → List Report
  reports_of prior before serial left messages falls = heard_reports form prior before (heard_from s 0 (turns_of (flat_map frame_in messages) (sent_from serial left (flat_map sending_in messages))) falls)

  -- frames that follow on have their reports
  turns-good : (messages : List Message) (serial : SerialStep) (left : List ℕ) (prior : Option SentFrame) (before : ℕ) (falls : List ℕ) → IsNoFault serial → FollowOn form (counter_of form prior) messages
      → AllGood (reports_of prior before serial left messages falls) (counted_of messages)
  unfolding sent_from heard_from heard_reports
  turns-good [] serial left prior before falls fine follow = none-good
  turns-good (message.Frame frame ∷ messages) serial [] prior before falls fine follow =
      let place = slice_index falls (suc (suc (suc s.nibbles))) in
      let sent : SentFrame = record { status = frame.status; nibbles = frame.nibbles } in
      let values = value_reports place (counter_of form prior) (fast_of form frame.nibbles) in
      let later = reports_of (Some sent) (suc before) serial [] messages (drop (pulse_count s) falls) in
      counted-frame frame messages ((report place (what.Frame sent) ∷ (values ++ [])) ++ later)
      (added-good (report place (what.Frame sent) ∷ (values ++ [])) later 1 (counted_of messages) (group-good place sent values [] (follow.0 place) none-good)
      (turns-good messages serial [] (Some sent) (suc before) (drop (pulse_count s) falls) fine follow.1))
  turns-good (message.Frame frame ∷ messages) serial (bits ∷ left) prior before falls fine follow =
      let place = slice_index falls (suc (suc (suc s.nibbles))) in
      let sent : SentFrame = record { status = bits + frame.status; nibbles = frame.nibbles } in
      let values = value_reports place (counter_of form prior) (fast_of form frame.nibbles) in
      let told = flat_map (serial_report place) (told_at before (ended_by serial left)) in
      let later = reports_of (Some sent) (suc before) serial left messages (drop (pulse_count s) falls) in
      counted-frame frame messages ((report place (what.Frame sent) ∷ (values ++ told)) ++ later)
      (added-good (report place (what.Frame sent) ∷ (values ++ told)) later 1 (counted_of messages) (group-good place sent values told (follow.0 place) (told-beside place before serial left fine))
      (turns-good messages serial left (Some sent) (suc before) (drop (pulse_count s) falls) fine follow.1))
  turns-good (message.Short id value ∷ messages) serial [] prior before falls fine follow =
      let next = step.Short id value in
      counted-same (message.Short id value) messages (reports_of prior before next (statuses_sent next) messages falls) refl (turns-good messages next (statuses_sent next) prior before falls tt follow)
  turns-good (message.Short id value ∷ messages) serial (bits ∷ left) prior before falls fine follow =
      let next = step.Short id value in
      counted-same (message.Short id value) messages (reports_of prior before next (statuses_sent next) messages falls) refl (turns-good messages next (statuses_sent next) prior before falls tt follow)
  turns-good (message.Enhanced id value wide ∷ messages) serial [] prior before falls fine follow =
      let next = step.Enhanced id value wide in
      counted-same (message.Enhanced id value wide) messages (reports_of prior before next (statuses_sent next) messages falls) refl (turns-good messages next (statuses_sent next) prior before falls tt follow)
  turns-good (message.Enhanced id value wide ∷ messages) serial (bits ∷ left) prior before falls fine follow =
      let next = step.Enhanced id value wide in
      counted-same (message.Enhanced id value wide) messages (reports_of prior before next (statuses_sent next) messages falls) refl (turns-good messages next (statuses_sent next) prior before falls tt follow)
  turns-good (message.Answer code frame ∷ messages) serial left prior before falls fine follow = absurd follow
  turns-good (message.Silent code ∷ messages) serial left prior before falls fine follow = absurd follow
  turns-good (message.Sync ∷ messages) serial left prior before falls fine follow = absurd follow
  turns-good (message.Burst slot payload ∷ messages) serial left prior before falls fine follow = absurd follow
  turns-good (message.Down down ∷ messages) serial left prior before falls fine follow = absurd follow

-- ---- of a script
-- all messages of a script are heard
pub frames-heard : (line : ℕ) (s : Settings) (form : Layout) (kind : Serial) → AreHeard (SentSetup line s form kind)
frames-heard line s form kind first count state edges run =
    let setup = SentSetup line s form kind in
    let messages = first_messages setup first count in
    let by = link-run SentState sim.Sent sent_next sent-sends (started line s kind) state messages edges run in
    let heard = turns-heard line s kind by.0 messages edges (sent_statuses (flat_map sending_in messages)) by.2 in
    let follow = frames-follow line s form kind count (script_from setup first) None refl tt in
    subst (λ (l : List (Heard SentTurn)). AllGood (heard_reports form None 0 l) (counted_of messages)) (sym heard) (turns-good s form messages step.Nothing [] None 0 (numbers_of (numbered 0 edges)) tt follow)
