-- Which messages fit a channel: it has messages of this kind, and each value fits; this project's own.
use Rattle.std.specs.Prelude.{ℕ, ◌≤◌, ◌^◌, ◌==◌, ◌&&◌, nat_lt, Bool, true, false, is_some, Option, None, Some, length}
use Rattle.line_base.specs.Nibbles.{AreNibbles}
use Rattle.sent_frame.specs.declared.frame.SentFrame.{SentFrame}
use Rattle.psi5_frame.specs.declared.setup.Parts.{Parts}
use Rattle.psi5_frame.specs.declared.burst.Payload.{Payload}
use Rattle.psi5_downlink.specs.declared.down.Form.{Form}
use Rattle.psi5_downlink.specs.declared.down.Down.{Down}
use Rattle.psi5_downlink.specs.Frames.{wide}
use Rattle.receiver_core.specs.declared.message.Message.{Message}
use Rattle.receiver_core.specs.declared.message.Message.TheVariants.{Frame, Short, Enhanced, Answer, Silent, Sync, Burst, Down as Downlink}
use Rattle.receiver_core.specs.declared.setup.Serial.{Serial}
use Rattle.receiver_core.specs.declared.setup.Serial.TheVariants as serial
use Rattle.receiver_core.specs.declared.setup.SyncSlots.{SyncSlots}
use Rattle.receiver_core.specs.declared.setup.ChannelSetup.{ChannelSetup}
use Rattle.receiver_core.specs.declared.setup.ChannelSetup.TheVariants.{Sent, Psi5, Spc, Tooth}

-- a frame's own status is below this: below 4 where serial messages use the upper bits
abbrev pub status_limit : Serial → ℕ
status_limit serial.Absent = 16
status_limit serial.Short = 4
status_limit serial.Enhanced = 4

-- a frame's status is below this limit, and it has so many nibbles
abbrev pub frame_fits : ℕ → ℕ → SentFrame → Bool
frame_fits limit nibbles frame = nat_lt frame.status limit && (length frame.nibbles == nibbles)

-- the message is one of a SENT sensor with frames of so many nibbles and such serial messages
abbrev pub sent_fits : ℕ → Serial → Message → Bool
sent_fits nibbles form (Frame frame) = frame_fits (status_limit form) nibbles frame
sent_fits nibbles serial.Short (Short id value) = nat_lt id (2 ^ 4) && nat_lt value (2 ^ 8)
sent_fits nibbles serial.Enhanced (Enhanced id value false) = nat_lt id (2 ^ 8) && nat_lt value (2 ^ 12)
sent_fits nibbles serial.Enhanced (Enhanced id value true) = nat_lt id (2 ^ 4) && nat_lt value (2 ^ 16)
sent_fits nibbles form message = false

-- the message is one of SPC with so many windows, and with answers of so many nibbles
abbrev pub spc_fits : ℕ → ℕ → Message → Bool
spc_fits windows nibbles (Answer code frame) = nat_lt code windows && frame_fits 16 nibbles frame
spc_fits windows nibbles (Silent code) = nat_lt code windows
spc_fits windows nibbles message = false

-- each value fits the width of its part
abbrev pub payload_fits : Parts → Payload → Bool
payload_fits parts p = nat_lt p.m (2 ^ parts.m) && (nat_lt p.f (2 ^ parts.f) && (nat_lt p.s (2 ^ parts.s) && (nat_lt p.b (2 ^ parts.b) && nat_lt p.a (2 ^ parts.a))))

-- a burst has a slot where there are windows, and it is the number of one of them
abbrev pub slot_fits : Option ℕ → Option ℕ → Bool
slot_fits None None = true
slot_fits (Some windows) (Some slot) = nat_lt slot windows
slot_fits windows slot = false

-- the message is one of a PSI5 bus with these parts and, where it has slots, so many windows
abbrev pub psi5_fits : Parts → Option ℕ → Message → Bool
psi5_fits parts windows Sync = is_some windows
psi5_fits parts windows (Burst slot payload) = slot_fits windows slot && payload_fits parts payload
psi5_fits parts windows message = false

-- each value fits the width of its field
abbrev pub down_fits : Form → Down → Bool
down_fits form down = nat_lt down.address 8 && (nat_lt down.function 8 && (nat_lt down.register (2 ^ wide form) && nat_lt down.value (2 ^ wide form)))

-- the message is one of a tooth-gap downlink with frames of this form
abbrev pub tooth_fits : Form → Message → Bool
tooth_fits form (Downlink down) = down_fits form down
tooth_fits form message = false

-- how many slots a channel has, if it has any
abbrev pub slot_count : Option SyncSlots → Option ℕ
slot_count None = None
slot_count (Some slots) = Some (length slots.setup.windows)

-- the channel has messages of this kind, and each value fits
abbrev pub message_fits : ChannelSetup → Message → Bool
message_fits (Sent line setup layout form) message = sent_fits setup.nibbles form message
message_fits (Spc line setup) message = spc_fits (length setup.windows) setup.sent.nibbles message
message_fits (Psi5 line setup slots init) message = psi5_fits setup.parts (slot_count slots) message
message_fits (Tooth line setup) message = tooth_fits setup.form message

-- the parts of a frame have at most as many bits as the digits of their fields
pub record HaveShortParts (parts : Parts) : Type 0 where
  pub m : parts.m ≤ 4
  pub f : parts.f ≤ 4
  pub s : parts.s ≤ 4
  pub b : parts.b ≤ 12
  pub a : parts.a ≤ 24

-- there are at most 8 slots
abbrev pub AreFewSlots : Option SyncSlots → Type 0
AreFewSlots None = Unit {0}
AreFewSlots (Some slots) = length slots.setup.windows ≤ 8

-- a setup as it can be made: at most 8 windows, and parts of at most as many bits as the digits of their fields
abbrev pub IsMade : ChannelSetup → Type 0
IsMade (Sent line setup layout form) = Unit {0}
IsMade (Spc line setup) = length setup.windows ≤ 8
IsMade (Psi5 line setup slots init) = HaveShortParts setup.parts × AreFewSlots slots
IsMade (Tooth line setup) = Unit {0}

-- the data nibbles of the message's frame, if it has one, are 1 to 6 numbers below 16
abbrev pub HasNibbles : Message → Type 0
HasNibbles (Frame frame) = AreNibbles frame.nibbles
HasNibbles (Answer code frame) = AreNibbles frame.nibbles
HasNibbles message = Unit {0}
