-- What an SPC channel is set up with. Windows, delay and quiet time are in tenths of the nominal tick; their ranges are this project's own, and no product's table is meant.
use Rattle.std.specs.Prelude.{ℕ, ◌+◌, Bool, ◌&&◌, ◌||◌, not, nat_le, nat_lt, if◌then◌else◌, List, [], ◌∷◌, length, Option, None, Some}
use Rattle.line_base.specs.declared.edge.Span.{Span}
use Rattle.line_base.specs.declared.faults.SetupFault.{SetupFault}
use Rattle.line_base.specs.declared.faults.SetupFault.TheVariants as fault
use Rattle.sent_frame.specs.declared.crc.Cover.{Cover}
use Rattle.sent_frame.specs.Setup as frame

-- the frame of an answer; the trigger windows, by their codes; the delay between a trigger's rise and its answer; the quiet time before a trigger; and what the CRC covers
pub record Settings : Type 0 where
  pub sent : frame.Settings
  pub windows : List Span
  pub delay : Span
  pub quiet : ℕ
  pub cover : Cover

-- the span begins at a tick or later, and is a tick wide or wider
abbrev pub is_wide : Span → Bool
is_wide span = nat_le 10 span.low && nat_le (span.low + 10) span.high

-- the span is wide enough, and begins above this end
abbrev pub is_behind : ℕ → Span → Bool
is_behind before span = nat_lt before span.low && is_wide span

-- each of these windows, behind one that ends at `before`, begins above the end of the one before and is wide enough, and the last one ends at 2,000 or below
unfoldable pub are_apart : ℕ → List Span → Bool
are_apart before [] = nat_le before 2000
are_apart before (window ∷ windows) = is_behind before window && are_apart window.high windows

-- 1 to 8 windows that are wide enough, each above the one before
abbrev pub are_windows : List Span → Bool
are_windows windows = nat_le 1 (length windows) && (nat_le (length windows) 8 && are_apart 0 windows)

-- the first that is refused: a frame with a pause; other windows than these; a delay that isn't wide enough; a quiet time outside 700 to 10,000, or one that isn't above the delay
abbrev pub fault_of : frame.Settings → List Span → Span → ℕ → Option SetupFault
fault_of sent windows delay quiet =
    if sent.pause then Some fault.Pause
    else (if not (are_windows windows) then Some fault.Windows
    else (if not (is_wide delay) then Some fault.Delay
    else (if nat_lt quiet 700 || (nat_lt 10000 quiet || nat_le quiet delay.high) then Some fault.Quiet
    else None)))
