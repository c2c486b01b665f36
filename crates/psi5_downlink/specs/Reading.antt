-- How the intervals of a sync line are read as downlink frames (the method: PSI5 V2.1, base standard); the frames, the rules and what follows a fault are this project's own.
use Rattle.std.specs.Prelude.{ℕ, suc, ◌-◌, Bool, true, false, nat_eq, if◌then◌else◌, List, [], ◌∷◌, ◌++◌, Option, None, Some, length, replicate, take, drop}
use Rattle.line_base.specs.Readings.{Found, read_past, skipped}
use Rattle.line_base.specs.Readings.Found.{Waiting, Past, Reported}
use Rattle.line_base.specs.declared.rule.Rule.{Rule}
use Rattle.line_base.specs.declared.rule.Rule.TheVariants.{DownCheck, StartPattern, SyncBit}
use Rattle.link_math.specs.Division.{number_of}
use Rattle.link_math.specs.Checks.{crc3_of}
use Rattle.psi5_downlink.specs.declared.down.Form.{Form}
use Rattle.psi5_downlink.specs.declared.step.ToothStep.{ToothStep}
use Rattle.psi5_downlink.specs.declared.step.ToothStep.TheVariants.{Good, Bad}
use Rattle.psi5_downlink.specs.declared.verdict.Verdict.{Verdict}
use Rattle.psi5_downlink.specs.declared.verdict.Verdict.TheVariants.{Unfinished, Whole, Broken}
use Rattle.psi5_downlink.specs.Setup.{Settings}
use Rattle.psi5_downlink.specs.Frames.{down_of, field_width, frame_length, without_ones}
use Rattle.psi5_downlink.specs.Rises.{Interval, Rise, intervals_of}

-- ---- what the bits of a frame come to
-- from an inserted one on, in front of each group and behind the last, one of them is 0
unfoldable pub misses_one : List Bool → Bool
misses_one [] = false
misses_one (false ∷ bits) = true
misses_one (true ∷ a ∷ b ∷ c ∷ bits) = misses_one bits
misses_one (true ∷ []) = false
misses_one (true ∷ a ∷ []) = false
misses_one (true ∷ a ∷ b ∷ []) = false

-- the first of these bits of a frame that is forbidden, by its rule: the first is 0, the second is 1, and then so is each that stands behind a group of three
abbrev pub forbidden : List Bool → Option Rule
forbidden [] = None
forbidden (true ∷ bits) = Some StartPattern
forbidden (false ∷ bits) = if misses_one bits then Some SyncBit else None

-- what these bits of the groups come to, which are all: the CRC behind the fields is theirs or isn't
abbrev pub checked_groups : Form → List Bool → Verdict
checked_groups form groups =
    if nat_eq (number_of (drop (field_width form) groups)) (crc3_of (take (field_width form) groups)) then Whole (down_of form (take (field_width form) groups)) else Broken DownCheck

-- what these bits of a frame come to
abbrev pub judged : Form → List Bool → Option Rule → Verdict
judged form bits (Some rule) = Broken rule
judged form bits None = if nat_eq (length bits) (frame_length form) then checked_groups form (without_ones (drop 2 bits)) else Unfinished bits

-- the bits of an interval of so many periods, at least one: a 0 for each pulse that is missing, and a 1
abbrev pub bits_in : ℕ → List Bool
bits_in periods = replicate (periods - 1) false ++ true ∷ []

-- what an interval of so many periods comes to behind these bits of a frame: one of no period says no bit
unfoldable pub verdict : Form → List Bool → ℕ → Verdict
verdict form bits periods = if nat_eq periods 0 then Broken SyncBit else judged form (bits ++ bits_in periods) (forbidden (bits ++ bits_in periods))

-- ---- what stands in a list of intervals
-- a frame ends whole at the interval of this number, behind so many of the later intervals; or a rule is violated there, and the same interval is read again; or it goes on
abbrev pub frame_on : ℕ → ℕ → Verdict → (List Bool → Found ToothStep (Unit {0})) → Found ToothStep (Unit {0})
frame_on number used (Unfinished bits) later = later bits
frame_on number used (Whole down) later = Reported (Good number down) (Past (suc used) tt)
frame_on number used (Broken rule) later = Reported (Bad number rule) (Past used tt)

-- what comes of a frame of which these bits came in the first so many of the later intervals
unfoldable pub frame_after : Form → List Bool → ℕ → List Interval → Found ToothStep (Unit {0})
frame_after form bits used [] = Waiting []
frame_after form bits used (interval ∷ later) = frame_on interval.number used (verdict form bits interval.periods) (λ more. frame_after form more (suc used) later)

-- what stands at an interval outside a frame: six periods begin one, and anything else is nothing
unfoldable pub found_at : Form → Unit {0} → Interval → List Interval → Found ToothStep (Unit {0})
found_at form due interval later = if nat_eq interval.periods 6 then frame_after form [] 0 later else skipped

-- the frames of a list of intervals, and the rules that are violated
unfoldable pub interval_reading : Form → List Interval → List ToothStep
interval_reading form intervals = read_past (found_at form) 0 tt intervals

-- the frames of a list of rises, and the rules that are violated
unfoldable pub tooth_reading : Settings → List Rise → List ToothStep
tooth_reading setup rises = interval_reading setup.form (intervals_of setup.period rises)
