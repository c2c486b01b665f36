-- What the slots of a PSI5 sync period are set up with (time slots behind a sync pulse: PSI5 V2.1, base standard); the limits are this project's own.
use Rattle.std.specs.Prelude.{◌≡◌, ℕ, ◌+◌, ◌-◌, ◌*◌, Bool, true, false, ◌&&◌, nat_le, nat_lt, if◌then◌else◌, Option, None, Some, List, [], ◌∷◌, length}
use Rattle.line_base.specs.declared.edge.Span.{Span}
use Rattle.line_base.specs.declared.faults.SetupFault.{SetupFault}
use Rattle.line_base.specs.declared.faults.SetupFault.TheVariants as fault
use Rattle.psi5_frame.specs.Setup as frames

-- the windows for the offset of a burst's first edge from the last sync pulse, in ns, and what the data line is set up with
pub record Settings : Type 0 where
  pub windows : List Span
  pub frame : frames.Settings

-- a window is at least a bit time long
abbrev pub is_long : frames.Settings → Span → Bool
is_long frame window = nat_le (window.low + frame.bit) window.high

-- a window begins behind the one before it, by at least 21/20 of the time of a frame and one bit
abbrev pub is_apart : frames.Settings → Span → Span → Bool
is_apart frame before window = nat_lt before.high window.low && nat_le (21 * (frames.bit_count frame + 1) * frame.bit) (20 * (window.low - before.high))

-- each of these windows is long and lies apart from the one before it, the first from this one
abbrev pub are_apart : frames.Settings → Span → List Span → Bool
are_apart frame before [] = true
are_apart frame before (window ∷ windows) = is_apart frame before window && is_long frame window && are_apart frame window windows

-- the greatest offset of the last of these windows, or this one where there is none
abbrev pub last_high : ℕ → List Span → ℕ
last_high high [] = high
last_high high (window ∷ windows) = last_high window.high windows

-- these windows are slots of a line with such frames: 1 to 8 windows, of which the first begins at 4 bit times or later and the last ends at 10,000,000 ns or earlier, all of them long and apart
abbrev pub are_slots : List Span → frames.Settings → Bool
are_slots [] frame = false
are_slots (first ∷ windows) frame =
    nat_lt (length windows) 8 && nat_le (4 * frame.bit) first.low && is_long frame first && are_apart frame first windows && nat_le (last_high first.high windows) 10000000

-- the fault of these windows, if there is one
abbrev pub fault_of : List Span → frames.Settings → Option SetupFault
fault_of windows frame = if are_slots windows frame then None else Some fault.Slots

-- the windows are slots of a line with such frames
pub record InRange (windows : List Span) (frame : frames.Settings) : Type 0 where
  pub slots : are_slots windows frame ≡ true
