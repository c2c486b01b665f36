-- Behind a message that isn't counted a script gives one that is: a frame behind a serial message, and a burst behind a sync pulse.
use Rattle.std.proofs.Common.{◌≡◌, ℕ, nat_eq, Bool, true, false, cond, Option, None, Some, length, refl, ap, ◌∙◌}
use Rattle.psi5_frame.specs.Setup as psi5_frame
use Rattle.sent_fast.specs.declared.layout.Layout.{Layout}
use Rattle.sent_frame.specs.Setup as frame
use Rattle.receiver_core.specs.declared.setup.ChannelSetup.{ChannelSetup}
use Rattle.receiver_core.specs.declared.setup.ChannelSetup.TheVariants.{Psi5, Sent, Spc, Tooth}
use Rattle.receiver_core.specs.declared.setup.Serial.TheVariants as serial
use Rattle.receiver_core.specs.declared.setup.SyncSlots.{SyncSlots}
use Rattle.sensor_script.specs.Scripts.{ScriptState, bus_next, enhanced_next, frame_next, next_by, psi5_next, script_next, sent_next, short_next, spc_next, tooth_next}
use Rattle.sensor_script.specs.Counted.{is_counted}

-- the later script has the same setup, and its next message is counted
abbrev IsTurned : ScriptState → ChannelSetup → ScriptState → Type 0
IsTurned state setup later = (later.setup ≡ state.setup) × (is_counted (next_by later setup).message ≡ true)

short-turn : (state : ScriptState) (line : ℕ) (s : frame.Settings) (form : Layout) (fresh : Bool) → is_counted (cond fresh (short_next state) (frame_next state s form 2)).message ≡ false
    → IsTurned state (Sent line s form serial.Short) (cond fresh (short_next state) (frame_next state s form 2)).script
unfolding frame_next sent_next short_next
short-turn state line s form true e = (refl, refl)
short-turn state line s form false e = absurd cc

enhanced-turn : (state : ScriptState) (line : ℕ) (s : frame.Settings) (form : Layout) (fresh : Bool) → is_counted (cond fresh (enhanced_next state) (frame_next state s form 2)).message ≡ false
    → IsTurned state (Sent line s form serial.Enhanced) (cond fresh (enhanced_next state) (frame_next state s form 2)).script
unfolding enhanced_next frame_next sent_next
enhanced-turn state line s form true e = (refl, refl)
enhanced-turn state line s form false e = absurd cc

bus-turn : (state : ScriptState) (line : ℕ) (s : psi5_frame.Settings) (slots : SyncSlots) (init : Option ℕ) (slot : Option ℕ) → is_counted (bus_next state s.parts (length slots.setup.windows) init slot).message ≡ false
    → IsTurned state (Psi5 line s (Some slots) init) (bus_next state s.parts (length slots.setup.windows) init slot).script
unfolding psi5_next
bus-turn state line s slots init None e = (refl, refl)
bus-turn state line s slots init (Some slot) e = absurd cc

turn : (state : ScriptState) (setup : ChannelSetup) → is_counted (next_by state setup).message ≡ false → IsTurned state setup (next_by state setup).script
unfolding frame_next psi5_next sent_next spc_next tooth_next
turn state (Sent line s form serial.Absent) e = absurd cc
turn state (Sent line s form serial.Short) e = short-turn state line s form (nat_eq state.left 0) e
turn state (Sent line s form serial.Enhanced) e = enhanced-turn state line s form (nat_eq state.left 0) e
turn state (Psi5 line s None init) e = absurd cc
turn state (Psi5 line s (Some slots) init) e = bus-turn state line s slots init state.slot e
turn state (Spc line s) e = absurd cc
turn state (Tooth line s) e = absurd cc

-- behind a message that isn't counted comes one that is
pub next-counted : (state : ScriptState) → is_counted (script_next state).message ≡ false → is_counted (script_next (script_next state).script).message ≡ true
unfolding script_next
next-counted state e =
    let turned = turn state state.setup e in
    ap (λ (setup : ChannelSetup). is_counted (next_by (next_by state state.setup).script setup).message) turned.0 ∙ turned.1
