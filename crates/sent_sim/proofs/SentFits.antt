-- What fits.
--     completed-fits   a frame that fits, with its serial bits
use Rattle.std.proofs.Common.{◌≡◌, ℕ, ◌<◌, Bool, true, false, List, [], ◌∷◌, length, refl, ap, sym, subst, ◌∙◌, ltb, eqb, ltb-true, eqb-true, arith}
use Rattle.std.specs.List.{All}
use Rattle.std.proofs.lemmas.List.Elements.{All-head}
use Rattle.sent_frame.specs.declared.frame.SentFrame.{SentFrame}
use Rattle.sent_frame.specs.Setup.{Settings}
use Rattle.sent_serial.specs.Statuses.{HasTwoBits}
use Rattle.sent_serial.specs.Sendings.{IsEnhanced, IsShort}
use Rattle.sent_serial.specs.declared.step.SerialStep.TheVariants as step
use Rattle.sent_tolerance.specs.Trains.{FitsSetup}
use Rattle.receiver_core.specs.declared.setup.Serial.{Serial}
use Rattle.receiver_core.specs.declared.setup.Serial.TheVariants as serial
use Rattle.sim_base.specs.FittingNibbles.{are_nibbles, fits_nibbles}
use Rattle.sim_base.proofs.FittingNibbles.{are-nibbles, both}
use Rattle.sent_sim.specs.SentSims.{completed, fits_enhanced, fits_frame, fits_short, statuses_below}
use Rattle.sent_sim.specs.SentStates.{MayBeLeft}

-- a status of 2 bits beside the two bits of a serial message
status-below : (form : Serial) (left : List ℕ) (frame : SentFrame) → MayBeLeft form left → frame.status < statuses_below form → (completed left frame).status < 16
status-below serial.Absent [] frame may below = below
status-below serial.Absent (bits ∷ left) frame may below = absurd cc
status-below serial.Short [] frame may below = omega arith
status-below serial.Short (bits ∷ left) frame may below =
    let two : HasTwoBits bits = All-head HasTwoBits bits left may in
    omega arith
status-below serial.Enhanced [] frame may below = omega arith
status-below serial.Enhanced (bits ∷ left) frame may below =
    let two : HasTwoBits bits = All-head HasTwoBits bits left may in
    omega arith

same-nibbles : (left : List ℕ) (frame : SentFrame) → (completed left frame).nibbles ≡ frame.nibbles
same-nibbles [] frame = refl
same-nibbles (bits ∷ left) frame = refl

pub completed-fits : (s : Settings) (form : Serial) (left : List ℕ) (frame : SentFrame) → MayBeLeft form left → fits_frame s form frame ≡ true → FitsSetup s (completed left frame)
completed-fits s form left frame may fits =
    let parts = both (fits_nibbles s frame.nibbles) (ltb frame.status (statuses_below form)) fits in
    let nibbles = both (eqb (length frame.nibbles) s.nibbles) (are_nibbles frame.nibbles) parts.0 in
    record {
      status = status-below form left frame may (ltb-true frame.status (statuses_below form) parts.1);
      as_many = ap length (same-nibbles left frame) ∙ eqb-true (length frame.nibbles) s.nibbles nibbles.0;
      nibbles = subst (λ l. All (λ n. n < 16) l) (sym (same-nibbles left frame)) (are-nibbles frame.nibbles nibbles.1);
    }

pub own-small : (s : Settings) (form : Serial) (frame : SentFrame) → fits_frame s form frame ≡ true → frame.status < statuses_below form
own-small s form frame fits = ltb-true frame.status (statuses_below form) (both (fits_nibbles s frame.nibbles) (ltb frame.status (statuses_below form)) fits).1

-- messages that fit are of their form
pub short-fits : (id value : ℕ) → fits_short id value ≡ true → IsShort (step.Short id value)
short-fits id value fits =
    let parts = both (ltb id 16) (ltb value 256) fits in
    (ltb-true id 16 parts.0, ltb-true value 256 parts.1)

pub enhanced-fits : (id value : ℕ) (wide : Bool) → fits_enhanced id value wide ≡ true → IsEnhanced (step.Enhanced id value wide)
enhanced-fits id value true fits =
    let parts = both (ltb id 16) (ltb value 65536) fits in
    (ltb-true id 16 parts.0, ltb-true value 65536 parts.1)
enhanced-fits id value false fits =
    let parts = both (ltb id 256) (ltb value 4096) fits in
    (ltb-true id 256 parts.0, ltb-true value 4096 parts.1)
