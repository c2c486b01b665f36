-- What a control unit sends of a message by the tooth gap, by which words of a wobble, and which messages are refused (the method: PSI5 V2.1, base standard; the rest is this project's own).
use Rattle.std.specs.Prelude.{◌≡◌, ℕ, suc, ◌+◌, ◌*◌, ◌/◌, ◌%◌, ◌^◌, Bool, false, ◌&&◌, nat_lt, Option, None, Some, List, ◌∷◌, ◌++◌, length, map, sum, if◌then◌else◌}
use Rattle.rand_pcg.specs.Lcg.{Lcg}
use Rattle.line_base.specs.declared.edge.Edge.{Edge}
use Rattle.psi5_downlink.specs.declared.down.Down.{Down}
use Rattle.psi5_downlink.specs.declared.down.Form.{Form}
use Rattle.psi5_downlink.specs.Frames.{wide}
use Rattle.psi5_downlink.specs.Setup.{Settings}
use Rattle.psi5_downlink_tolerance.specs.Trains.{Span, frame_periods, rises_behind}
use Rattle.receiver_core.specs.declared.message.Message.{Message}
use Rattle.receiver_core.specs.declared.message.Message.TheVariants as message
use Rattle.sim_base.specs.declared.sim_fault.SimFault.TheVariants as fault
use Rattle.sim_base.specs.Wobbles.{behind_word, past, word, words}
use Rattle.sim_base.specs.Recordings.{opening_of, recorded_by, rises_with_falls}
use Rattle.sim_base.specs.Outcomes.{Outcome, Sent, Refused}
use Rattle.psi5_downlink_sim.specs.ToothStates.{ToothState}

-- ---- the words of a message
-- the words that a message draws before those of its rises: one for its period, and one for how many pulses are missing in its gap
pub record ToothWords : Type 0 where
  pub period : ℕ
  pub gap : ℕ

-- those words, in the order in which they are drawn
unfoldable pub tooth_words : Lcg → ToothWords
tooth_words g = record { period = word g; gap = word (behind_word g) }

-- the generator behind them
unfoldable pub past_words : Lcg → Lcg
past_words g = behind_word (behind_word g)

-- a period in ps, at this nominal period in ns: up to a twentieth less or more
unfoldable pub period_drawn : ℕ → ℕ → ℕ
period_drawn nominal word = 950 * nominal + word % (100 * nominal + 1)

-- how many pulses are missing in a gap: 5 to 8
unfoldable pub missing_drawn : ℕ → ℕ
missing_drawn word = 5 + word % 4

-- ---- a message as it is sent
-- an interval of so many periods of this length
abbrev pub span_of : ℕ → ℕ → Span
span_of period count = record { periods = count; length = count * period }

-- the intervals behind the pulse before the gap: the gap, and those of the frame
abbrev pub spans_of : Form → Down → ℕ → ℕ → List Span
spans_of form down period missing = map (span_of period) (suc missing ∷ frame_periods form down)

-- the pulse before the gap, in ps: a period behind the last pulse, or a nominal one behind 0
abbrev pub begins_at : Settings → Option ℕ → ℕ → ℕ
begins_at s None period = 1000 * s.period
begins_at s (Some last) period = last + period

-- the rises of a message, in ps, with this period and so many pulses missing
unfoldable pub ideal_of : Settings → Option ℕ → Down → ℕ → ℕ → List ℕ
ideal_of s last down period missing = begins_at s last period ∷ rises_behind (begins_at s last period) (spans_of s.form down period missing)

-- how long these intervals are together
abbrev pub length_of : List Span → ℕ
length_of spans = sum (map (λ (span : Span). span.length) spans)

-- the last of them
unfoldable pub ends_at : Settings → Option ℕ → Down → ℕ → ℕ → ℕ
ends_at s last down period missing = begins_at s last period + length_of (spans_of s.form down period missing)

-- a message by these words has these rises, and this is the last of them
pub record IsDrawnMessage (s : Settings) (last : Option ℕ) (down : Down) (drawn : ToothWords) (rises : List ℕ) (end : ℕ) : Type 0 where
  pub rises_are : rises ≡ ideal_of s last down (period_drawn s.period drawn.period) (missing_drawn drawn.gap)
  pub end_is : end ≡ ends_at s last down (period_drawn s.period drawn.period) (missing_drawn drawn.gap)

-- the edges of a message, by these words, one for each rise: a fall stands a tenth of the nominal period behind it
unfoldable pub message_edges : ToothState → Down → ℕ → ℕ → List ℕ → List Edge
message_edges state down period missing drawn =
    opening_of state.line false state.last
    ++ rises_with_falls state.line (state.setup.period / 10) (recorded_by state.setup.jitter (ideal_of state.setup state.last down period missing) drawn)

-- ---- what becomes of a message
-- a control unit that has sent nothing
abbrev pub started : ℕ → Settings → ToothState
started line s = record { line = line; setup = s; last = None }

-- a message with this period and this gap is sent, but where its last rise is ideal above 9 * 10^17 ps: then the words of its rises aren't drawn
unfoldable pub rises_sent : ToothState → Down → ℕ → ℕ → Lcg → Outcome ToothState
rises_sent state down period missing g =
    if nat_lt (9 * 10 ^ 17) (ends_at state.setup state.last down period missing) then Refused fault.Late state g
    else Sent (message_edges state down period missing (words (length (ideal_of state.setup state.last down period missing)) g))
    (record state { last = Some (ends_at state.setup state.last down period missing) }) (past (length (ideal_of state.setup state.last down period missing)) g)

-- what becomes of a message that fits
unfoldable pub down_next : ToothState → Down → Lcg → Outcome ToothState
down_next state down g = rises_sent state down (period_drawn state.setup.period (tooth_words g).period) (missing_drawn (tooth_words g).gap) (past_words g)

-- a message fits whose values fit the widths of their fields
abbrev pub fits_down : Form → Down → Bool
fits_down form down = nat_lt down.address 8 && (nat_lt down.function 8 && (nat_lt down.register (2 ^ wide form) && nat_lt down.value (2 ^ wide form)))

-- what becomes of a message: first it has to be one of the tooth gap, then its values have to fit, and then it has to come in time
unfoldable pub tooth_next : ToothState → Message → Lcg → Outcome ToothState
tooth_next state (message.Down down) g = if fits_down state.setup.form down then down_next state down g else Refused fault.Range state g
tooth_next state other g = Refused fault.Kind state g
