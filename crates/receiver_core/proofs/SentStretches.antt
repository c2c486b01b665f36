-- A SENT channel that has taken one edge more stands for one edge more.
use Rattle.std.proofs.Common.{◌≡◌, ℕ, List, [], ◌∷◌, ◌++◌, Option, refl, ap, subst, sym, ◌∙◌}
use Rattle.line_base.specs.Edges.{NumberedEdge}
use Rattle.sent_frame.specs.declared.frame.SentStep.{SentStep}
use Rattle.sent_frame.specs.Setup.{Settings}
use Rattle.line_base.specs.Readings.{read_past}
use Rattle.sent_frame.specs.Reading.{sent_reading}
use Rattle.sent_frame.specs.Positions.{steps_of}
use Rattle.sent_fast.specs.declared.layout.Layout.{Layout}
use Rattle.receiver_core.specs.declared.setup.Serial.{Serial}
use Rattle.receiver_core.specs.declared.sent_channel.SentChannel.{SentChannel}
use Rattle.sent_frame.specs.Readers.{StandsFor}
use Rattle.sent_frame.specs.declared.reader.SentReader.{SentReader}
use Rattle.receiver_core.specs.Serials.{SerialStandsFor}
use Rattle.receiver_core.specs.SentReports.{step_reports, watch_past_step, statuses_past_step, last_counter, statuses_of, frames_with, sent_reports, frames_past}
use Rattle.receiver_core.specs.SentStretches.{StandsForStretch}
use Rattle.receiver_core.proofs.SentReports.{sent_reports-append, frames_past-append, sent_reports-one, frames_past-one, counter-step, statuses-step}

-- no edges leave no frame
pub frames-none : (s : Settings) → frames_past [] (sent_reading s []) ≡ []
unfolding frames_past read_past
frames-none s = refl

-- the steps grow by this one
abbrev pub StepsGrow : Settings → List NumberedEdge → NumberedEdge → SentStep → Type 0
StepsGrow s seen e step = sent_reading s (seen ++ e ∷ []) ≡ sent_reading s seen ++ steps_of step

-- the frames after one step more
pub frames-more : (s : Settings) (seen : List NumberedEdge) (e : NumberedEdge) (step : SentStep) → StepsGrow s seen e step
    → frames_with (frames_past [] (sent_reading s seen)) step ≡ frames_past [] (sent_reading s (seen ++ e ∷ []))
frames-more s seen e step more =
    sym (frames_past-one (frames_past [] (sent_reading s seen)) step)
    ∙ sym (frames_past-append [] (sent_reading s seen) (steps_of step))
    ∙ ap (frames_past []) (sym more)

-- the counter after one step more
pub watch-more : (s : Settings) (layout : Layout) (serial : Serial) (channel : SentChannel) (seen : List NumberedEdge) (e : NumberedEdge) (step : SentStep)
    → StandsForStretch s layout serial channel seen → StepsGrow s seen e step
    → watch_past_step channel.layout channel.watch step ≡ last_counter layout (frames_past [] (sent_reading s (seen ++ e ∷ [])))
watch-more s layout serial channel seen e step stands more =
    ap (λ (l : Layout). watch_past_step l channel.watch step) stands.same_layout
    ∙ ap (λ (b : Option ℕ). watch_past_step layout b step) stands.watches
    ∙ counter-step layout (frames_past [] (sent_reading s seen)) step
    ∙ ap (last_counter layout) (frames-more s seen e step more)

-- the statuses after one step more
pub statuses-more : (s : Settings) (seen : List NumberedEdge) (e : NumberedEdge) (step : SentStep) → StepsGrow s seen e step
    → statuses_past_step (statuses_of (frames_past [] (sent_reading s seen))) step ≡ statuses_of (frames_past [] (sent_reading s (seen ++ e ∷ [])))
statuses-more s seen e step more = statuses-step (frames_past [] (sent_reading s seen)) step ∙ ap statuses_of (frames-more s seen e step more)

-- the reports of one step more
pub reports-more : (s : Settings) (layout : Layout) (serial : Serial) (channel : SentChannel) (seen : List NumberedEdge) (e : NumberedEdge) (step : SentStep)
    → StandsForStretch s layout serial channel seen → StepsGrow s seen e step
    → sent_reports layout serial [] (sent_reading s (seen ++ e ∷ []))
    ≡ sent_reports layout serial [] (sent_reading s seen) ++ step_reports channel.layout serial channel.watch (statuses_of (frames_past [] (sent_reading s seen))) step
reports-more s layout serial channel seen e step stands more =
    let frames = frames_past [] (sent_reading s seen) in
    let all = sent_reports layout serial [] (sent_reading s seen) in
    ap (sent_reports layout serial []) more
    ∙ sent_reports-append layout serial [] (sent_reading s seen) (steps_of step)
    ∙ ap (λ l. all ++ l) (sent_reports-one layout serial frames step
    ∙ ap (λ (b : Option ℕ). step_reports layout serial b (statuses_of frames) step) (sym stands.watches)
    ∙ ap (λ (l : Layout). step_reports l serial channel.watch (statuses_of frames) step) (sym stands.same_layout))

-- a channel whose reader has passed an edge stands for it too
pub passed : (s : Settings) (layout : Layout) (serial : Serial) (channel : SentChannel) (reader : SentReader) (seen : List NumberedEdge) (e : NumberedEdge)
    → StandsForStretch s layout serial channel seen → sent_reading s (seen ++ e ∷ []) ≡ sent_reading s seen → StandsFor s reader (seen ++ e ∷ [])
    → StandsForStretch s layout serial (record channel { reader = reader }) (seen ++ e ∷ [])
passed s layout serial channel reader seen e before same stands = record {
  fits = before.fits;
  same_layout = before.same_layout;
  reads = stands;
  watches = before.watches ∙ ap (λ steps. last_counter layout (frames_past [] steps)) (sym same);
  has_read = subst (λ (statuses : List ℕ). SerialStandsFor serial channel.serial statuses) (ap (λ steps. statuses_of (frames_past [] steps)) (sym same)) before.has_read;
}
