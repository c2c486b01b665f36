-- The ticks of a frame that is sent, and how many pulses it has.
--     setup_range         the bounds of a setup that is accepted
--     ticks_apart         the ticks of a frame are those of its calibration pulse, its values and its pause
--     values_small        the values of a frame are below 16
--     length_pulses       a frame has as many pulses as the setup says
use Rattle.std.proofs.Common.{◌≡◌, ℕ, suc, ◌+◌, ◌<◌, None, List, [], ◌∷◌, ◌++◌, Bool, true, false, length, if◌then◌else◌, refl, ap, sym, ◌∙◌, append_assoc, arith}
use Rattle.std.proofs.lemmas.Bool.Decides.{nat_tests}
use Rattle.std.proofs.lemmas.List.{length-append, length-map, map-append}
use Rattle.std.proofs.lemmas.List.Elements.{All-append, All-cons, All-nil}
use Rattle.std.specs.List.{All}
use Rattle.link_math.proofs.Nibbles.{crc_small, crc_legacy_small}
use Rattle.sent_frame.specs.declared.frame.SentFrame.{SentFrame}
use Rattle.sent_frame.specs.declared.setup.CrcForm.{CrcForm}
use Rattle.sent_frame.specs.declared.setup.CrcForm.TheVariants as crc
use Rattle.sent_frame.specs.Setup.{Settings, InRange, fault_of}
use Rattle.sent_frame.specs.Reading.{crc_of}
use Rattle.sent_frame.specs.Frames.{ticks_of}
use Rattle.sent_frame.proofs.SentTicks.{value_ticks}
use Rattle.sent_tolerance.specs.FromFirst.{pulse_count}
use Rattle.sent_tolerance.specs.Trains.{FitsSetup, IsSent, Sending, pulses_sent}
use Rattle.link_tolerance.specs.Pulses.{lengths_of}

pub setup_range : (tick jitter nibbles : ℕ) → fault_of tick jitter nibbles ≡ None → InRange tick jitter nibbles
setup_range tick jitter nibbles accepted = grind (arith, nat_tests)

-- the status, the data nibbles and the CRC of a frame
abbrev pub values_in : Settings → SentFrame → List ℕ
values_in s frame = frame.status ∷ (frame.nibbles ++ crc_of s.crc frame.nibbles ∷ [])

-- the ticks of the pause, where there is one
abbrev pub pause_ticks : Bool → ℕ → List ℕ
pause_ticks paused pause = if paused then pause ∷ [] else []

pub ticks_apart : (s : Settings) (frame : SentFrame) (pause : ℕ) → ticks_of s frame pause ≡ 56 ∷ (value_ticks (values_in s frame) ++ pause_ticks s.pause pause)
ticks_apart s frame pause =
    let last = 12 + crc_of s.crc frame.nibbles in
    let after = pause_ticks s.pause pause in
    ap (λ rest. 56 ∷ (12 + frame.status) ∷ rest)
    (sym (append_assoc (value_ticks frame.nibbles) (last ∷ []) after)
    ∙ ap (λ front. front ++ after) (sym (map-append (λ value. 12 + value) frame.nibbles (crc_of s.crc frame.nibbles ∷ []))))

crc_below : (form : CrcForm) (nibbles : List ℕ) → crc_of form nibbles < 16
crc_below crc.New nibbles = crc_small nibbles
crc_below crc.Legacy nibbles = crc_legacy_small nibbles

pub values_small : (s : Settings) (frame : SentFrame) → FitsSetup s frame → All (λ value. value < 16) (values_in s frame)
values_small s frame fits =
    All-cons (λ v. v < 16) frame.status (frame.nibbles ++ crc_of s.crc frame.nibbles ∷ []) fits.status
    (All-append (λ v. v < 16) frame.nibbles (crc_of s.crc frame.nibbles ∷ []) fits.nibbles
    (All-cons (λ v. v < 16) (crc_of s.crc frame.nibbles) [] (crc_below s.crc frame.nibbles) (All-nil (λ v. v < 16))))

pub length_values : (s : Settings) (frame : SentFrame) → FitsSetup s frame → length (values_in s frame) ≡ suc (suc s.nibbles)
length_values s frame fits = omega (arith, fits.as_many, length-append frame.nibbles (crc_of s.crc frame.nibbles ∷ []))

length_pause : (paused : Bool) (pause : ℕ) → length (pause_ticks paused pause) ≡ (if paused then 1 else 0)
length_pause true pause = refl
length_pause false pause = refl

pub length_ticks : (s : Settings) (frame : SentFrame) (pause : ℕ) → FitsSetup s frame → length (ticks_of s frame pause) ≡ pulse_count s
length_ticks s frame pause fits =
    let values = values_in s frame in
    let after = pause_ticks s.pause pause in
    ap length (ticks_apart s frame pause)
    ∙ omega (arith, length-append (value_ticks values) after, length-map values (λ value. 12 + value), length_values s frame fits, length_pause s.pause pause)

length_lengths : (counts ticks : List ℕ) → length ticks ≡ length counts → length (lengths_of counts ticks) ≡ length counts
length_lengths [] ticks e = refl
length_lengths (count ∷ counts) [] e = absurd (omega arith)
length_lengths (count ∷ counts) (tick ∷ ticks) e = ap suc (length_lengths counts ticks (omega arith))

pub length_pulses : (s : Settings) (f : Sending) → IsSent s f → length (pulses_sent s f) ≡ pulse_count s
length_pulses s f sent = length_lengths (ticks_of s f.frame f.pause) (f.tick ∷ f.own_ticks) sent.one_for_each ∙ length_ticks s f.frame f.pause sent.fits
