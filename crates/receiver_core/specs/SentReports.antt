-- Which reports a SENT channel gives of what its reader ends (counter and serial messages: SAE J2716; order and resets: this project's own).
use Rattle.std.specs.Prelude.{ℕ, ◌+◌, ◌%◌, ◌<◌, ◌==◌, flat_map, map, List, [], ◌∷◌, ◌++◌, Option, None, Some, Result, Ok, Err, if◌then◌else◌}
use Rattle.line_base.specs.declared.rule.Rule.{Rule}
use Rattle.std.specs.List.{last_or}
use Rattle.sent_frame.specs.declared.frame.SentFrame.{SentFrame}
use Rattle.sent_frame.specs.declared.frame.SentStep.{SentStep}
use Rattle.sent_frame.specs.declared.frame.SentStep.TheVariants.{Nothing, Good, Bad}
use Rattle.sent_fast.specs.declared.layout.Layout.{Layout}
use Rattle.sent_fast.specs.declared.layout.Fast.{Fast}
use Rattle.sent_fast.specs.declared.layout.Fast.TheVariants as fast
use Rattle.sent_fast.specs.Layouts.{FitsLayout, fast_of}
use Rattle.sent_serial.specs.declared.step.SerialStep.{SerialStep}
use Rattle.sent_serial.specs.declared.step.SerialStep.TheVariants as serial
use Rattle.receiver_core.specs.declared.setup.Serial.{Serial}
use Rattle.receiver_core.specs.Serials.{serial_steps}
use Rattle.receiver_core.specs.declared.report.Report.{Report}
use Rattle.receiver_core.specs.declared.report.What.{What}
use Rattle.receiver_core.specs.declared.report.What.TheVariants as what

-- the report that says this at this place
abbrev pub report : ℕ → What → Report
report place says = record { place = place; what = says }

-- the report of a counter that isn't one more than the counter before, with 0 after 255; none where there was no counter before
abbrev pub counter_reports : ℕ → Option ℕ → ℕ → List Report
counter_reports place None now = []
counter_reports place (Some before) now = if now == (before + 1) % 256 then [] else report place (what.Counter before now) ∷ []

-- the reports of what a frame's nibbles say: the value, or the rule that they break; nothing where the layout is raw; a counter is watched
abbrev pub value_reports : ℕ → Option ℕ → Result Fast Rule → List Report
value_reports place before (Err rule) = report place (what.Bad rule) ∷ []
value_reports place before (Ok fast.Raw) = []
value_reports place before (Ok (fast.One a)) = report place (what.Fast (fast.One a)) ∷ []
value_reports place before (Ok (fast.Two a b)) = report place (what.Fast (fast.Two a b)) ∷ []
value_reports place before (Ok (fast.Secure a counter)) = report place (what.Fast (fast.Secure a counter)) ∷ counter_reports place before counter
value_reports place before (Ok (fast.Split a b)) = report place (what.Fast (fast.Split a b)) ∷ []

-- the counter to hold the next against, after a frame that says this: its own if it has one, none after a broken rule, else the one before
abbrev pub watch_after : Option ℕ → Result Fast Rule → Option ℕ
watch_after before (Err rule) = None
watch_after before (Ok fast.Raw) = before
watch_after before (Ok (fast.One a)) = before
watch_after before (Ok (fast.Two a b)) = before
watch_after before (Ok (fast.Secure a counter)) = Some counter
watch_after before (Ok (fast.Split a b)) = before

-- the report of a step of the serial messages, at this place; nothing where there is none
abbrev pub serial_report : ℕ → SerialStep → List Report
serial_report place serial.Nothing = []
serial_report place (serial.Short id value) = report place (what.Short id value) ∷ []
serial_report place (serial.Enhanced id value wide) = report place (what.Enhanced id value wide) ∷ []
serial_report place (serial.Bad rule) = report place (what.Bad rule) ∷ []

-- the reports of the steps by which the serial messages of these statuses grow with one status more
abbrev pub serial_reports : Serial → ℕ → List ℕ → ℕ → List Report
serial_reports serial place before status = flat_map (serial_report place) (serial_steps serial before status)

-- the reports of one step of the reader, all at its place, behind a frame of this counter and good frames of these statuses: a good frame, then what its nibbles say, then what its status ends; or the rule that is broken
abbrev pub step_reports : Layout → Serial → Option ℕ → List ℕ → SentStep → List Report
step_reports layout serial before statuses Nothing = []
step_reports layout serial before statuses (Good place frame) =
    report place (what.Frame frame) ∷ (value_reports place before (fast_of layout frame.nibbles) ++ serial_reports serial place statuses frame.status)
step_reports layout serial before statuses (Bad place rule) = report place (what.Bad rule) ∷ []

-- the counter to hold the next against, after one step of the reader: none after a broken rule
abbrev pub watch_past_step : Layout → Option ℕ → SentStep → Option ℕ
watch_past_step layout before Nothing = before
watch_past_step layout before (Good place frame) = watch_after before (fast_of layout frame.nibbles)
watch_past_step layout before (Bad place rule) = None

-- the statuses since the last break, after one step of the reader: none after a broken rule
abbrev pub statuses_past_step : List ℕ → SentStep → List ℕ
statuses_past_step statuses Nothing = statuses
statuses_past_step statuses (Good place frame) = statuses ++ frame.status ∷ []
statuses_past_step statuses (Bad place rule) = []

-- the counter that a frame's nibbles say, if they say one
abbrev pub counter_in : Result Fast Rule → Option ℕ
counter_in (Ok (fast.Secure a counter)) = Some counter
counter_in _ = None

-- the counter of a frame, if there is a frame and it says one
abbrev pub counter_of : Layout → Option SentFrame → Option ℕ
counter_of layout None = None
counter_of layout (Some frame) = counter_in (fast_of layout frame.nibbles)

-- the counter of the last of these frames, if it says one
abbrev pub last_counter : Layout → List SentFrame → Option ℕ
last_counter layout frames = counter_of layout (last_or None frames)

-- the statuses of these frames
abbrev pub statuses_of : List SentFrame → List ℕ
statuses_of frames = map (λ frame. frame.status) frames

-- the good frames since the last break, with what one step more ends: a broken rule of frames is a break
abbrev pub frames_with : List SentFrame → SentStep → List SentFrame
frames_with frames Nothing = frames
frames_with frames (Good place frame) = frames ++ frame ∷ []
frames_with frames (Bad place rule) = []

-- the reports of steps of the reader, behind these good frames since the last break: each frame's counter is held against that of the frame before, and its status is read with theirs
unfoldable pub sent_reports : Layout → Serial → List SentFrame → List SentStep → List Report
sent_reports layout serial frames [] = []
sent_reports layout serial frames (step ∷ steps) =
    step_reports layout serial (last_counter layout frames) (statuses_of frames) step ++ sent_reports layout serial (frames_with frames step) steps

-- the good frames since the last break, behind these steps
unfoldable pub frames_past : List SentFrame → List SentStep → List SentFrame
frames_past frames [] = frames
frames_past frames (step ∷ steps) = frames_past (frames_with frames step) steps

-- a frame that the step reports has a status below 16 and as many nibbles as the layout
abbrev pub IsReadable : Layout → SentStep → Type 0
IsReadable layout Nothing = Unit {0}
IsReadable layout (Good place frame) = (frame.status < 16) × FitsLayout layout frame.nibbles
IsReadable layout (Bad place rule) = Unit {0}
