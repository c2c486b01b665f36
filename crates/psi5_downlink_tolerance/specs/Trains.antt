-- What a control unit sends on a sync line: pulses that are there or missing (the method: PSI5 V2.1, base standard). The forms of the frames and all bounds are this project's own.
use Rattle.std.specs.Prelude.{ℕ, zero, suc, ◌+◌, ◌*◌, ◌≤◌, Bool, true, false, List, [], ◌∷◌, ◌++◌, All, flat_map, replicate}
use Rattle.psi5_downlink.specs.declared.down.Form.{Form}
use Rattle.psi5_downlink.specs.declared.down.Down.{Down}
use Rattle.psi5_downlink.specs.Frames.{Fits, frame_of}

-- ---- how many periods lie between the pulses
-- a message that is sent: how many intervals of one period come before its gap, and how many pulses are missing in the gap
pub record Sending : Type 0 where
  pub down : Down
  pub idle : ℕ
  pub missing : ℕ

-- the intervals that these bits stand for, so many 0s before them: one for each 1, of as many periods as there are bits behind the last 1, up to and with this one
unfoldable pub periods_of : ℕ → List Bool → List ℕ
periods_of since [] = []
periods_of since (false ∷ bits) = periods_of (suc since) bits
periods_of since (true ∷ bits) = suc since ∷ periods_of zero bits

-- the intervals of a frame, in periods
abbrev pub frame_periods : Form → Down → List ℕ
frame_periods form down = periods_of zero (frame_of form down)

-- the intervals of a message, in periods: those before its gap, the gap, and those of its frame
abbrev pub message_periods : Form → Sending → List ℕ
message_periods form sending = replicate sending.idle 1 ++ suc sending.missing ∷ frame_periods form sending.down

-- the intervals of messages one after the other, in periods, and so many of one period behind the last message
abbrev pub train_periods : Form → List Sending → ℕ → List ℕ
train_periods form sent idle = flat_map (message_periods form) sent ++ replicate idle 1

-- a message as it may be sent: its values fit their fields, and at least five pulses are missing in its gap
pub record IsSent (form : Form) (sending : Sending) : Type 0 where
  pub fits : Fits form sending.down
  pub gap : 5 ≤ sending.missing

-- messages as they may be sent one after the other: an interval of one period or more comes before each, but for the first, which may also have none
abbrev pub IsTrain : Form → List Sending → Type 0
IsTrain form [] = Unit {0}
IsTrain form (first ∷ later) = IsSent form first × All (λ sending. IsSent form sending × (1 ≤ sending.idle)) later

-- ---- when the pulses come
-- an interval between two neighbouring rises: how many periods it stands for, and how long it lasts in ps
pub record Span : Type 0 where
  pub periods : ℕ
  pub length : ℕ

-- an interval lasts as long as its periods (of this nominal length in ns), up to a twentieth less or more
pub record Lasts (period : ℕ) (span : Span) : Type 0 where
  pub not_too_short : 950 * (span.periods * period) ≤ span.length
  pub not_too_long : span.length ≤ 1050 * (span.periods * period)

-- the rises that end these intervals, which begin at this time in ps
unfoldable pub rises_behind : ℕ → List Span → List ℕ
rises_behind time [] = []
rises_behind time (span ∷ spans) = (time + span.length) ∷ rises_behind (time + span.length) spans

-- the ideal rises of intervals one after the other, in ps: one where they start, and one at the end of each
abbrev pub ideal_rises : ℕ → List Span → List ℕ
ideal_rises start spans = start ∷ rises_behind start spans
