-- What a SENT sensor sends of a message, by which words of a wobble, and which messages are refused (frames and serial messages: SAE J2716; the rest is this project's own).
use Rattle.std.specs.Prelude.{ℕ, suc, ◌+◌, ◌*◌, ◌^◌, Bool, true, false, ◌&&◌, nat_eq, nat_lt, Option, None, Some, List, [], ◌∷◌, ◌++◌, length, drop, sum, if◌then◌else◌}
use Rattle.rand_pcg.specs.Lcg.{Lcg}
use Rattle.line_base.specs.declared.edge.Edge.{Edge}
use Rattle.sent_frame.specs.declared.frame.SentFrame.{SentFrame}
use Rattle.sent_frame.specs.Setup.{Settings}
use Rattle.sent_serial.specs.declared.step.SerialStep.TheVariants as step
use Rattle.sent_serial.specs.SentStatuses.{statuses_sent}
use Rattle.link_tolerance.specs.Pulses.{falls_behind}
use Rattle.sent_tolerance.specs.Trains.{Sending, pulses_sent}
use Rattle.receiver_core.specs.declared.message.Message.{Message}
use Rattle.receiver_core.specs.declared.message.Message.TheVariants as message
use Rattle.receiver_core.specs.declared.setup.Serial.{Serial}
use Rattle.receiver_core.specs.declared.setup.Serial.TheVariants as serial
use Rattle.sim_base.specs.declared.sim_fault.SimFault.TheVariants as fault
use Rattle.sim_base.specs.Wobbles.{behind_word, past, word, words}
use Rattle.sim_base.specs.Recordings.{falls_with_rises, opening_of, recorded_by}
use Rattle.sim_base.specs.DrawnTicks.{next_tick, own_ticks, pause_ticks}
use Rattle.sim_base.specs.FittingNibbles.{fits_nibbles}
use Rattle.sim_base.specs.Outcomes.{Outcome, Sent, Refused}
use Rattle.sent_sim.specs.SentStates.{SentState}

-- ---- the words of a frame
-- how many pauses a frame has
abbrev pub pause_count : Settings → ℕ
pause_count s = if s.pause then 1 else 0

-- how many pulses of a frame have a tick of their own: status, data nibbles, CRC and, where the setup has one, a pause
abbrev pub own_count : Settings → ℕ
own_count s = suc (suc (s.nibbles + pause_count s))

-- the words that a frame draws before those of its falls: one for its tick, one for the length of its pause where it has one, and one for the own tick of each pulse behind the calibration pulse
pub record FrameWords : Type 0 where
  pub tick : ℕ
  pub pause : ℕ
  pub own : List ℕ

-- those words, in the order in which they are drawn
unfoldable pub frame_words : Settings → Lcg → FrameWords
frame_words s g = record {
  tick = word g;
  pause = word (behind_word g);
  own = words (own_count s) (past (pause_count s) (behind_word g));
}

-- the generator behind them
unfoldable pub past_frame : Settings → Lcg → Lcg
past_frame s g = past (own_count s) (past (pause_count s) (behind_word g))

-- ---- a frame as it is sent
-- a frame, behind one of this tick, by these words
unfoldable pub frame_sent : Settings → ℕ → SentFrame → FrameWords → Sending
frame_sent s before frame drawn = record {
  frame = frame;
  pause = if s.pause then pause_ticks drawn.pause else 0;
  tick = next_tick s.tick before drawn.tick;
  own_ticks = own_ticks (next_tick s.tick before drawn.tick) drawn.own;
}

-- the first fall of all, in ps
abbrev pub first_fall : Settings → ℕ
first_fall s = 100000 * s.tick

-- where the calibration pulse of the next frame begins, in ps: at the last fall, or at the first of all
abbrev pub begins_at : Settings → Option ℕ → ℕ
begins_at s None = first_fall s
begins_at s (Some last) = last

-- the fall that the first frame has more than others, before its calibration pulse
abbrev pub first_falls : Settings → Option ℕ → List ℕ
first_falls s None = first_fall s ∷ []
first_falls s (Some last) = []

-- the falls of a frame, in ps: those that end its pulses and, before the first frame, one more
unfoldable pub ideal_of : Settings → Option ℕ → Sending → List ℕ
ideal_of s last f = first_falls s last ++ falls_behind (begins_at s last) (pulses_sent s f)

-- the last of them
unfoldable pub ends_at : Settings → Option ℕ → Sending → ℕ
ends_at s last f = begins_at s last + sum (pulses_sent s f)

-- the edges of a frame, by these words, one for each fall
unfoldable pub frame_edges : SentState → Sending → List ℕ → List Edge
frame_edges state f drawn =
    opening_of state.line true state.last
    ++ falls_with_rises state.line (4 * state.setup.tick) (recorded_by state.setup.jitter (ideal_of state.setup state.last f) drawn)

-- ---- what becomes of a message
-- a sensor that has sent nothing
abbrev pub started : ℕ → Settings → Serial → SentState
started line s form = record { line = line; setup = s; serial = form; last = None; tick = 1000 * s.tick; left = [] }

-- a frame's status with the bits of the serial message that is on its way
abbrev pub completed : List ℕ → SentFrame → SentFrame
completed [] frame = frame
completed (bits ∷ left) frame = record { status = bits + frame.status; nibbles = frame.nibbles }

-- the simulator behind a frame
abbrev pub behind_frame : SentState → Sending → SentState
behind_frame state f = record state { last = Some (ends_at state.setup state.last f); tick = f.tick; left = drop 1 state.left }

-- a frame is sent, but where its last fall is ideal above 9 * 10^17 ps: then the words of its falls aren't drawn
unfoldable pub falls_sent : SentState → Sending → Lcg → Outcome SentState
falls_sent state f g =
    if nat_lt (9 * 10 ^ 17) (ends_at state.setup state.last f) then Refused fault.Late state g
    else Sent (frame_edges state f (words (length (ideal_of state.setup state.last f)) g)) (behind_frame state f) (past (length (ideal_of state.setup state.last f)) g)

-- what becomes of a frame that fits
unfoldable pub frame_next : SentState → SentFrame → Lcg → Outcome SentState
frame_next state frame g = falls_sent state (frame_sent state.setup state.tick (completed state.left frame) (frame_words state.setup g)) (past_frame state.setup g)

-- how many statuses there are: those of 4 bits, with serial messages those of 2
abbrev pub statuses_below : Serial → ℕ
statuses_below serial.Absent = 16
statuses_below serial.Short = 4
statuses_below serial.Enhanced = 4

-- a frame fits that has the setup's nibbles and such a status
abbrev pub fits_frame : Settings → Serial → SentFrame → Bool
fits_frame s form frame = fits_nibbles s frame.nibbles && nat_lt frame.status (statuses_below form)

-- a short message fits: an id of 4 bits and a value of 8
abbrev pub fits_short : ℕ → ℕ → Bool
fits_short id value = nat_lt id 16 && nat_lt value 256

-- an enhanced message fits: an id of 4 bits and a value of 16 where it is wide, else an id of 8 and a value of 12
abbrev pub fits_enhanced : ℕ → ℕ → Bool → Bool
fits_enhanced id value true = nat_lt id 16 && nat_lt value 65536
fits_enhanced id value false = nat_lt id 256 && nat_lt value 4096

-- the serial messages are short
abbrev pub are_short : Serial → Bool
are_short serial.Absent = false
are_short serial.Short = true
are_short serial.Enhanced = false

-- the serial messages are enhanced
abbrev pub are_enhanced : Serial → Bool
are_enhanced serial.Absent = false
are_enhanced serial.Short = false
are_enhanced serial.Enhanced = true

-- what becomes of a serial message that fits: its statuses are sent with the next frames, but while another is on its way it is refused
unfoldable pub begun : SentState → List ℕ → Lcg → Outcome SentState
begun state statuses g = if nat_eq (length state.left) 0 then Sent [] (record state { left = statuses }) g else Refused fault.Order state g

-- what becomes of a message: first it has to be one of the setup, then its values have to fit, and then a serial message has to come in order, and a frame in time
unfoldable pub sent_next : SentState → Message → Lcg → Outcome SentState
sent_next state (message.Frame frame) g = if fits_frame state.setup state.serial frame then frame_next state frame g else Refused fault.Range state g
sent_next state (message.Short id value) g =
    if are_short state.serial then (if fits_short id value then begun state (statuses_sent (step.Short id value)) g else Refused fault.Range state g)
    else Refused fault.Kind state g
sent_next state (message.Enhanced id value wide) g =
    if are_enhanced state.serial then (if fits_enhanced id value wide then begun state (statuses_sent (step.Enhanced id value wide)) g else Refused fault.Range state g)
    else Refused fault.Kind state g
sent_next state other g = Refused fault.Kind state g
