-- The reports of steps, one list after another and one step at a time.
use Rattle.std.proofs.Common.{◌≡◌, ℕ, ◌<◌, List, [], ◌∷◌, ◌++◌, Option, true, length, refl, ap, sym, ◌∙◌, append_assoc, append-nil, eqb-true, lit<, ◌+◌, ◌-◌, ◌*◌, ◌==◌, Bool, false, cond, None, Some, Ok, Err}
use Rattle.std.specs.List.{All, last_or}
use Rattle.std.proofs.lemmas.List.{map-append}
use Rattle.line_base.specs.declared.rule.Rule.TheVariants as rule
use Rattle.sent_frame.specs.declared.frame.SentFrame.{SentFrame}
use Rattle.sent_frame.specs.declared.frame.SentStep.{SentStep}
use Rattle.sent_frame.specs.declared.frame.SentStep.TheVariants.{Nothing, Good, Bad}
use Rattle.sent_frame.specs.Setup.{Settings}
use Rattle.sent_frame.specs.Pulses.{Pulse}
use Rattle.sent_frame.specs.Positions.{steps_of}
use Rattle.sent_frame.specs.Reading.{crc_of}
use Rattle.sent_frame.specs.Frames.{AreCarried, HasFrame, Means}
use Rattle.sent_fast.specs.declared.layout.Layout.{Layout}
use Rattle.sent_fast.specs.declared.layout.Layout.TheVariants as layout
use Rattle.sent_fast.specs.declared.layout.Fast.TheVariants as fast
use Rattle.sent_fast.specs.Layouts.{FitsLayout, fast_of, nibble, value_of_first_three}
use Rattle.receiver_core.specs.declared.setup.Serial.{Serial}
use Rattle.receiver_core.specs.Setups.{nibbles_fit}
use Rattle.receiver_core.specs.SentReports.{step_reports, watch_after, watch_past_step, statuses_past_step, counter_in, counter_of, last_counter, statuses_of, frames_with, sent_reports, frames_past, IsReadable}

-- steps after others are reported behind the frames that those left
pub sent_reports-append : (layout : Layout) (serial : Serial) (frames : List SentFrame) (xs ys : List SentStep)
    → sent_reports layout serial frames (xs ++ ys) ≡ sent_reports layout serial frames xs ++ sent_reports layout serial (frames_past frames xs) ys
unfolding sent_reports frames_past
sent_reports-append layout serial frames [] ys = refl
sent_reports-append layout serial frames (x ∷ xs) ys =
    let here = step_reports layout serial (last_counter layout frames) (statuses_of frames) x in
    let next = frames_with frames x in
    ap (λ l. here ++ l) (sent_reports-append layout serial next xs ys)
    ∙ sym (append_assoc here (sent_reports layout serial next xs) (sent_reports layout serial (frames_past next xs) ys))

-- and leave the frames that they leave after these
pub frames_past-append : (frames : List SentFrame) (xs ys : List SentStep) → frames_past frames (xs ++ ys) ≡ frames_past (frames_past frames xs) ys
unfolding frames_past
frames_past-append frames [] ys = refl
frames_past-append frames (x ∷ xs) ys = frames_past-append (frames_with frames x) xs ys

-- the reports of what one edge ended
pub sent_reports-one : (layout : Layout) (serial : Serial) (frames : List SentFrame) (step : SentStep)
    → sent_reports layout serial frames (steps_of step) ≡ step_reports layout serial (last_counter layout frames) (statuses_of frames) step
unfolding sent_reports
sent_reports-one layout serial frames Nothing = refl
sent_reports-one layout serial frames (Good place frame) = append-nil (step_reports layout serial (last_counter layout frames) (statuses_of frames) (Good place frame))
sent_reports-one layout serial frames (Bad place rule) = refl

-- the frames after what one edge ended
pub frames_past-one : (frames : List SentFrame) (step : SentStep) → frames_past frames (steps_of step) ≡ frames_with frames step
unfolding frames_past
frames_past-one frames Nothing = refl
frames_past-one frames (Good place frame) = refl
frames_past-one frames (Bad place rule) = refl

last-frame : (first : Option SentFrame) (frames : List SentFrame) (frame : SentFrame) → last_or first (frames ++ frame ∷ []) ≡ Some frame
last-frame first [] frame = refl
last-frame first (f ∷ frames) frame = last-frame (Some f) frames frame

secure-counter : (before : Option ℕ) (a counter : ℕ) (t : Bool) → watch_after before (cond t (Ok (fast.Secure a counter)) (Err rule.Copy)) ≡ counter_in (cond t (Ok (fast.Secure a counter)) (Err rule.Copy))
secure-counter before a counter true = refl
secure-counter before a counter false = refl

-- a layout without a counter leaves none behind, and one with a counter leaves the frame's
frame-counter : (l : Layout) (last : Option SentFrame) (frame : SentFrame) → watch_after (counter_of l last) (fast_of l frame.nibbles) ≡ counter_of l (Some frame)
frame-counter layout.Raw None frame = refl
frame-counter layout.Raw (Some last) frame = refl
frame-counter layout.One12 None frame = refl
frame-counter layout.One12 (Some last) frame = refl
frame-counter layout.Two12 None frame = refl
frame-counter layout.Two12 (Some last) frame = refl
frame-counter layout.Split16x8 None frame = refl
frame-counter layout.Split16x8 (Some last) frame = refl
frame-counter layout.Secure12 last frame =
    secure-counter (counter_of layout.Secure12 last) (value_of_first_three frame.nibbles) (16 * nibble frame.nibbles 4 + nibble frame.nibbles 5) (nibble frame.nibbles 6 == 15 - nibble frame.nibbles 1)

-- the watch holds the counter of the last frame
pub counter-step : (l : Layout) (frames : List SentFrame) (step : SentStep) → watch_past_step l (last_counter l frames) step ≡ last_counter l (frames_with frames step)
counter-step l frames Nothing = refl
counter-step l frames (Good place frame) = frame-counter l (last_or None frames) frame ∙ ap (counter_of l) (sym (last-frame None frames frame))
counter-step l frames (Bad place rule) = refl

-- and the statuses are those of the frames
pub statuses-step : (frames : List SentFrame) (step : SentStep) → statuses_past_step (statuses_of frames) step ≡ statuses_of (frames_with frames step)
statuses-step frames Nothing = refl
statuses-step frames (Good place frame) = sym (map-append (λ f. f.status) frames (frame ∷ []))
statuses-step frames (Bad place rule) = refl

nibbles-fit : (l : Layout) (nibbles : List ℕ) (count : ℕ) → nibbles_fit l count ≡ true → length nibbles ≡ count → FitsLayout l nibbles
nibbles-fit layout.Raw nibbles count fits as_many = tt
nibbles-fit layout.One12 nibbles count fits as_many = as_many ∙ eqb-true count 3 fits
nibbles-fit layout.Two12 nibbles count fits as_many = as_many ∙ eqb-true count 6 fits
nibbles-fit layout.Secure12 nibbles count fits as_many = as_many ∙ eqb-true count 6 fits
nibbles-fit layout.Split16x8 nibbles count fits as_many = as_many ∙ eqb-true count 6 fits

-- a value that is carried is below 16
small-status : (calibration : ℕ) (others : List Pulse) (values : List ℕ) (status : ℕ) → AreCarried calibration others (status ∷ values) → status < 16
small-status calibration [] values status carried = absurd carried
small-status calibration (pulse ∷ others) values status carried = carried.0.is_nibble

-- a frame of a setup has a status below 16 and the nibbles of a layout that fits it
pub readable : (s : Settings) (layout : Layout) (pulses : List Pulse) (step : SentStep) → nibbles_fit layout s.nibbles ≡ true → All (Means s pulses) (steps_of step) → IsReadable layout step
readable s layout pulses Nothing fits mean = tt
readable s layout pulses (Good place frame) fits mean =
    let has : HasFrame s pulses place frame = mean 0 (Good place frame) (lit< tt) in
    (small-status has.calibration.length has.others (frame.nibbles ++ crc_of s.crc frame.nibbles ∷ []) frame.status has.sent.carried, nibbles-fit layout frame.nibbles s.nibbles fits has.sent.as_many)
readable s layout pulses (Bad place rule) fits mean = tt
