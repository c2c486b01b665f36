-- Messages that fit a channel fit its simulator.
--     frame-fits, short-fits, enhanced-fits, answer-fits, burst-fits
use Rattle.std.proofs.Common.{◌≡◌, ℕ, ◌^◌, Bool, true, Option, None, Some, List, length, refl, ap, ap₂, sym, ◌∙◌, ltb, eqb}
use Rattle.std.specs.Prelude.{◌&&◌}
use Rattle.line_base.specs.Nibbles.{AreNibbles}
use Rattle.psi5_frame.specs.Setup as psi5_frame
use Rattle.psi5_frame.specs.declared.burst.Payload.{Payload}
use Rattle.psi5_frame.specs.declared.setup.Parts.{Parts}
use Rattle.sent_frame.specs.Setup.{Settings}
use Rattle.sent_frame.specs.declared.frame.SentFrame.{SentFrame}
use Rattle.spc_link.specs.Setup as spc_link
use Rattle.receiver_core.specs.declared.setup.Serial.{Serial}
use Rattle.receiver_core.specs.declared.setup.Serial.TheVariants as serial
use Rattle.receiver_core.specs.declared.setup.SyncSlots.{SyncSlots}
use Rattle.message_lines.specs.Messages.{frame_fits, payload_fits, slot_count, slot_fits, status_limit}
use Rattle.sim_base.specs.FittingNibbles.{are_nibbles, fits_nibbles}
use Rattle.sim_base.proofs.FittingNibbles.{both, nibbles-are}
use Rattle.sent_sim.specs.SentSims.{fits_frame, statuses_below}
use Rattle.spc_sim.specs.SpcSims.{fits_answer}
use Rattle.psi5_sim.specs.Psi5Sims.{fits_burst, fits_parts, fits_slot}

-- two tests that pass
pub and-true : (one other : Bool) → one ≡ true → other ≡ true → (one && other) ≡ true
and-true one other first second = ap₂ (λ a b. a && b) first second

-- nibbles that are as many
pub nibbles-fit : (s : Settings) (nibbles : List ℕ) → AreNibbles nibbles → eqb (length nibbles) s.nibbles ≡ true → fits_nibbles s nibbles ≡ true
nibbles-fit s nibbles are many = and-true (eqb (length nibbles) s.nibbles) (are_nibbles nibbles) many (nibbles-are nibbles are.each)

-- a frame with a status below this limit
pub parts-fit : (s : Settings) (limit : ℕ) (frame : SentFrame) → AreNibbles frame.nibbles → frame_fits limit s.nibbles frame ≡ true → (fits_nibbles s frame.nibbles ≡ true) × (ltb frame.status limit ≡ true)
parts-fit s limit frame are fits =
    let parts = both (ltb frame.status limit) (eqb (length frame.nibbles) s.nibbles) fits in
    (nibbles-fit s frame.nibbles are parts.1, parts.0)

-- the limit of a status is the same in both
same-limit : (form : Serial) → status_limit form ≡ statuses_below form
same-limit serial.Absent = refl
same-limit serial.Short = refl
same-limit serial.Enhanced = refl

-- a frame that fits the channel fits the simulator
pub frame-fits : (s : Settings) (form : Serial) (frame : SentFrame) → AreNibbles frame.nibbles → frame_fits (status_limit form) s.nibbles frame ≡ true → fits_frame s form frame ≡ true
frame-fits s form frame are fits =
    let parts = parts-fit s (status_limit form) frame are fits in
    and-true (fits_nibbles s frame.nibbles) (ltb frame.status (statuses_below form)) parts.0 (ap (ltb frame.status) (sym (same-limit form)) ∙ parts.1)

-- the values of a burst
pub payload-fits : (parts : Parts) (p : Payload) → payload_fits parts p ≡ true → fits_parts parts p ≡ true
payload-fits parts p fits =
    let first = both (ltb p.m (2 ^ parts.m)) (ltb p.f (2 ^ parts.f) && (ltb p.s (2 ^ parts.s) && (ltb p.b (2 ^ parts.b) && ltb p.a (2 ^ parts.a)))) fits in
    let second = both (ltb p.f (2 ^ parts.f)) (ltb p.s (2 ^ parts.s) && (ltb p.b (2 ^ parts.b) && ltb p.a (2 ^ parts.a))) first.1 in
    let third = both (ltb p.s (2 ^ parts.s)) (ltb p.b (2 ^ parts.b) && ltb p.a (2 ^ parts.a)) second.1 in
    let fourth = both (ltb p.b (2 ^ parts.b)) (ltb p.a (2 ^ parts.a)) third.1 in
    rw (first.0, second.0, third.0, fourth.0, fourth.1) refl

-- its slot
pub slot-fits : (slots : Option SyncSlots) (slot : Option ℕ) → slot_fits (slot_count slots) slot ≡ true → fits_slot slots slot ≡ true
slot-fits None None fits = refl
slot-fits None (Some slot) fits = absurd cc
slot-fits (Some slots) None fits = absurd cc
slot-fits (Some slots) (Some slot) fits = fits

-- a burst that fits the channel fits the simulator
pub burst-fits : (s : psi5_frame.Settings) (slots : Option SyncSlots) (slot : Option ℕ) (p : Payload) → slot_fits (slot_count slots) slot ≡ true → payload_fits s.parts p ≡ true → fits_burst s slots slot p ≡ true
burst-fits s slots slot p slot_is payload_is = and-true (fits_parts s.parts p) (fits_slot slots slot) (payload-fits s.parts p payload_is) (slot-fits slots slot slot_is)

-- ---- SPC
-- an answer that fits the channel fits the simulator
pub answer-fits : (s : spc_link.Settings) (code : ℕ) (frame : SentFrame) → AreNibbles frame.nibbles → (ltb code (length s.windows) && frame_fits 16 s.sent.nibbles frame) ≡ true → fits_answer s code frame ≡ true
answer-fits s code frame are fits =
    let parts = both (ltb code (length s.windows)) (frame_fits 16 s.sent.nibbles frame) fits in
    let inner = parts-fit s.sent 16 frame are parts.1 in
    and-true (ltb code (length s.windows)) (fits_nibbles s.sent frame.nibbles && ltb frame.status 16) parts.0 (and-true (fits_nibbles s.sent frame.nibbles) (ltb frame.status 16) inner.0 inner.1)
