-- Pulses before the first whole frame are passed.
--     frame_passed        the pulses behind a frame's calibration pulse may be passed
--     passed-drop         and so may the last ones of them
--     heard_behind        what is heard behind so many pulses
--     read_passed         a reading passes them, where a calibration pulse comes behind them
use Rattle.std.proofs.Common.{◌≡◌, ℕ, zero, suc, ◌+◌, ◌*◌, ◌<◌, ◌≤◌, List, [], ◌∷◌, ◌++◌, Bool, true, false, length, drop, refl, sym, ◌∙◌}
use Rattle.std.proofs.lemmas.List.Elements.{All-head, All-tail}
use Rattle.std.specs.List.{All}
use Rattle.sent_frame.specs.Setup.{Settings, InRange}
use Rattle.sent_frame.specs.Pulses.{Pulse}
use Rattle.sent_frame.specs.Reading.{Hunting, may_calibrate}
use Rattle.sent_frame.proofs.SentTicks.{value_ticks}
use Rattle.link_tolerance.specs.Ticks.{IsTick, IsOwnTick}
use Rattle.link_tolerance.proofs.HeardPulses.{never_long, nibble_short}
use Rattle.link_tolerance.specs.Pulses.{lengths_of}
use Rattle.sent_tolerance.proofs.FrameTicks.{pause_ticks}
use Rattle.sent_tolerance.proofs.Steps.{reading, reading_none, over_last, over_pulse, found_false_start, found_none}
use Rattle.sent_tolerance.proofs.HeardFrames.{AreHeard}

-- each of these pulses but the last is far shorter than a calibration pulse
abbrev pub ArePassed : ℕ → List ℕ → Type 0
ArePassed nominal [] = Unit {0}
ArePassed nominal (sent ∷ []) = Unit {0}
ArePassed nominal (sent ∷ next ∷ lengths) = (sent ≤ 33000 * nominal) × ArePassed nominal (next ∷ lengths)

passed-cons : (nominal sent : ℕ) (lengths : List ℕ) → sent ≤ 33000 * nominal → ArePassed nominal lengths → ArePassed nominal (sent ∷ lengths)
passed-cons nominal sent [] short passed = tt
passed-cons nominal sent (next ∷ lengths) short passed = (short, passed)

passed_tail : (nominal sent : ℕ) (lengths : List ℕ) → ArePassed nominal (sent ∷ lengths) → ArePassed nominal lengths
passed_tail nominal sent [] passed = tt
passed_tail nominal sent (next ∷ lengths) passed = passed.1

pub passed-drop : (nominal count : ℕ) (lengths : List ℕ) → ArePassed nominal lengths → ArePassed nominal (drop count lengths)
passed-drop nominal zero lengths passed = passed
passed-drop nominal (suc count) [] passed = tt
passed-drop nominal (suc count) (sent ∷ lengths) passed = passed-drop nominal count lengths (passed_tail nominal sent lengths passed)

last_passed : (nominal pause : ℕ) (paused : Bool) (own : List ℕ) → ArePassed nominal (lengths_of (pause_ticks paused pause) own)
last_passed nominal pause false own = tt
last_passed nominal pause true [] = tt
last_passed nominal pause true (own ∷ owns) = tt

pub frame_passed : (nominal tick pause : ℕ) (paused : Bool) (values own : List ℕ) → IsTick nominal tick → All (λ value. value < 16) values → All (IsOwnTick tick) own
    → ArePassed nominal (lengths_of (value_ticks values ++ pause_ticks paused pause) own)
frame_passed nominal tick pause paused [] own is_tick below are_own = last_passed nominal pause paused own
frame_passed nominal tick pause paused (value ∷ values) [] is_tick below are_own = tt
frame_passed nominal tick pause paused (value ∷ values) (own ∷ owns) is_tick below are_own =
    passed-cons nominal ((12 + value) * own) (lengths_of (value_ticks values ++ pause_ticks paused pause) owns)
    (nibble_short nominal tick own value is_tick (All-head (IsOwnTick tick) own owns are_own) (All-head (λ v. v < 16) value values below))
    (frame_passed nominal tick pause paused values owns is_tick (All-tail (λ v. v < 16) value values below) (All-tail (IsOwnTick tick) own owns are_own))

pub heard_behind : (jitter : ℕ) (lengths more : List ℕ) (pulses : List Pulse) → AreHeard jitter (lengths ++ more) pulses → AreHeard jitter more (drop (length lengths) pulses)
heard_behind jitter [] more pulses heard = heard
heard_behind jitter (sent ∷ lengths) more [] heard = absurd heard
heard_behind jitter (sent ∷ lengths) more (pulse ∷ pulses) heard = heard_behind jitter lengths more pulses heard.1

-- these pulses begin with one that may calibrate, or there are none
abbrev pub BeginsWell : Settings → List Pulse → Type 0
BeginsWell s [] = Unit {0}
BeginsWell s (pulse ∷ pulses) = may_calibrate s pulse ≡ true

over_one : (s : Settings) (pulse : Pulse) (pulses : List Pulse) → BeginsWell s pulses → (test : Bool) → may_calibrate s pulse ≡ test → reading s Hunting (pulse ∷ pulses) ≡ reading s Hunting pulses
over_one s pulse pulses begins false e = over_pulse s Hunting Hunting pulse pulses (found_none s pulse pulses e)
over_one s pulse [] begins true e = over_last s pulse e ∙ sym (reading_none s Hunting)
over_one s pulse (next ∷ pulses) begins true e = over_pulse s Hunting Hunting pulse (next ∷ pulses) (found_false_start s pulse next pulses e begins)

pub read_passed : (s : Settings) → InRange s.tick s.jitter s.nibbles → (lengths more : List ℕ) (pulses : List Pulse) → ArePassed s.tick lengths → AreHeard s.jitter (lengths ++ more) pulses
    → BeginsWell s (drop (length lengths) pulses) → reading s Hunting pulses ≡ reading s Hunting (drop (length lengths) pulses)
read_passed s range [] more pulses passed heard begins = refl
read_passed s range (sent ∷ lengths) more [] passed heard begins = absurd heard
read_passed s range (sent ∷ []) more (pulse ∷ pulses) passed heard begins = over_one s pulse pulses begins (may_calibrate s pulse) refl
read_passed s range (sent ∷ next ∷ lengths) more (pulse ∷ pulses) passed heard begins =
    let never = never_long s.tick s.jitter sent pulse.length range.jitter_low range.jitter_high passed.0 heard.0 in
    over_pulse s Hunting Hunting pulse pulses (found_none s pulse pulses never) ∙ read_passed s range (next ∷ lengths) more pulses passed.1 heard.1 begins
