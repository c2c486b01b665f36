-- Which messages a script has for a channel, one after the other; this project's own.
use Rattle.std.specs.Prelude.{◌≡◌, ℕ, ◌+◌, ◌-◌, ◌*◌, ◌/◌, ◌%◌, ◌<◌, ◌≤◌, IfSome, Bool, true, false, nat_eq, nat_lt, min, Option, None, Some, List, [], ◌∷◌, ◌++◌, get_or, length, if◌then◌else◌}
use Rattle.rand_pcg.specs.Lcg.{Lcg}
use Rattle.sent_fast.specs.declared.layout.Layout.{Layout}
use Rattle.sent_fast.specs.declared.layout.Layout.TheVariants as layout
use Rattle.sent_frame.specs.Setup as frame
use Rattle.spc_link.specs.Setup as spc_link
use Rattle.psi5_frame.specs.Setup as psi5_frame
use Rattle.psi5_frame.specs.declared.burst.Payload.{Payload}
use Rattle.psi5_frame.specs.declared.setup.Parts.{Parts}
use Rattle.psi5_downlink.specs.Setup as downlink
use Rattle.psi5_downlink.specs.Frames.{wide}
use Rattle.psi5_downlink.specs.declared.down.Down.{Down}
use Rattle.psi5_downlink.specs.declared.down.Form.{Form}
use Rattle.receiver_core.specs.declared.message.Message.{Message}
use Rattle.receiver_core.specs.declared.message.Message.TheVariants as message
use Rattle.receiver_core.specs.declared.setup.ChannelSetup.{ChannelSetup}
use Rattle.receiver_core.specs.declared.setup.ChannelSetup.TheVariants.{Sent, Psi5, Spc, Tooth}
use Rattle.receiver_core.specs.declared.setup.Serial.{Serial}
use Rattle.receiver_core.specs.declared.setup.Serial.TheVariants as serial
use Rattle.receiver_core.specs.declared.setup.SyncSlots.{SyncSlots}
use Rattle.receiver_core.specs.Setups.{setup_fault_of}
use Rattle.sim_base.specs.Wobbles.{behind_word, past, word}
use Rattle.sensor_script.specs.Draws.{behind_value, init_code, nibbles_by, signal_code, value}

-- a script for a channel of this setup: its wobble; how many frames of a serial message are left; the counter of the next frame; the slot of the next burst, where no sync pulse comes before it; and how many bursts came before in each slot, or in the channel, counted up to 1,000
pub record ScriptState : Type 0 where
  pub setup : ChannelSetup
  pub wobble : Lcg
  pub left : ℕ
  pub counter : ℕ
  pub slot : Option ℕ
  pub place : ℕ

-- a script may have come to this: its setup has no fault, and slots and bursts are counted within their bounds
pub record IsKept (setup : ChannelSetup) (slot : Option ℕ) (place : ℕ) : Type 0 where
  pub no_fault : setup_fault_of setup ≡ None
  pub few_slots : IfSome slot (λ number. number < 8)
  pub few_bursts : place ≤ 1000

-- a message, and the script behind it
pub record Scripted : Type 0 where
  pub message : Message
  pub script : ScriptState

-- ---- SENT
-- a short serial message: its ID, and then its value
unfoldable pub short_next : ScriptState → Scripted
short_next state = record {
  message = message.Short (value 4 state.wobble) (value 8 (behind_word state.wobble));
  script = record state { wobble = behind_word (behind_word state.wobble); left = 16 };
}

-- an enhanced one: its form, its ID, and then its value
unfoldable pub enhanced_next : ScriptState → Scripted
enhanced_next state = record {
  message =
      if nat_eq (value 1 state.wobble) 1 then message.Enhanced (value 4 (behind_word state.wobble)) (value 16 (behind_word (behind_word state.wobble))) true
      else message.Enhanced (value 8 (behind_word state.wobble)) (value 12 (behind_word (behind_word state.wobble))) false;
  script = record state { wobble = behind_word (behind_word (behind_word state.wobble)); left = 18 };
}

-- how many nibbles of a frame are drawn: those of a value with a counter are three
abbrev pub drawn_count : Layout → ℕ → ℕ
drawn_count layout.Raw nibbles = nibbles
drawn_count layout.One12 nibbles = nibbles
drawn_count layout.Two12 nibbles = nibbles
drawn_count layout.Secure12 nibbles = 3
drawn_count layout.Split16x8 nibbles = nibbles

-- the nibbles behind these, which are drawn: those of a counter, and 15 less the first nibble
abbrev pub nibbles_behind : Layout → ℕ → List ℕ → List ℕ
nibbles_behind layout.Raw counter nibbles = []
nibbles_behind layout.One12 counter nibbles = []
nibbles_behind layout.Two12 counter nibbles = []
nibbles_behind layout.Secure12 counter nibbles = counter / 16 ∷ counter % 16 ∷ (15 - get_or nibbles 0 0) ∷ []
nibbles_behind layout.Split16x8 counter nibbles = []

-- the nibbles of a frame
unfoldable pub frame_nibbles : Layout → ℕ → ℕ → Lcg → List ℕ
frame_nibbles form count counter g = nibbles_by (drawn_count form count) g ++ nibbles_behind form counter (nibbles_by (drawn_count form count) g)

-- a frame whose status has so many bits: its status, and then its nibbles
unfoldable pub frame_next : ScriptState → frame.Settings → Layout → ℕ → Scripted
frame_next state s form width = record {
  message = message.Frame (record { status = value width state.wobble; nibbles = frame_nibbles form s.nibbles state.counter (behind_word state.wobble) });
  script = record state { wobble = past (drawn_count form s.nibbles) (behind_word state.wobble); left = state.left - 1; counter = (state.counter + 1) % 256 };
}

-- a serial message comes where the channel has such, and none has frames left; else a frame, whose status has 2 bits with serial messages and else 4
unfoldable pub sent_next : ScriptState → frame.Settings → Layout → Serial → Scripted
sent_next state s form serial.Absent = frame_next state s form 4
sent_next state s form serial.Short = if nat_eq state.left 0 then short_next state else frame_next state s form 2
sent_next state s form serial.Enhanced = if nat_eq state.left 0 then enhanced_next state else frame_next state s form 2

-- ---- SPC
-- an answer: its code, its status, and then its nibbles
unfoldable pub spc_next : ScriptState → spc_link.Settings → Scripted
spc_next state s = record {
  message = message.Answer (word state.wobble % length s.windows) (record { status = value 4 (behind_word state.wobble); nibbles = nibbles_by s.sent.nibbles (behind_word (behind_word state.wobble)) });
  script = record state { wobble = past s.sent.nibbles (behind_word (behind_word state.wobble)) };
}

-- ---- PSI5
-- the generator behind the messaging bits of a burst; those behind its other values follow
abbrev pub behind_m : Parts → Lcg → Lcg
behind_m parts g = behind_value parts.m g

-- behind frame control
abbrev pub behind_f : Parts → Lcg → Lcg
behind_f parts g = behind_value parts.f (behind_m parts g)

-- behind the status
abbrev pub behind_s : Parts → Lcg → Lcg
behind_s parts g = behind_value parts.s (behind_f parts g)

-- behind data B
abbrev pub behind_b : Parts → Lcg → Lcg
behind_b parts g = behind_value parts.b (behind_s parts g)

-- data A of so many bits: where it has 10, it is the code of a signal
unfoldable pub data_a : ℕ → Lcg → ℕ
data_a width g = if nat_eq width 10 then signal_code (word g) else value width g

-- the initialisation, if there is one, has a code at this place: one of its 32 for each time that a block is sent, or its last
abbrev pub has_code : Option ℕ → ℕ → Bool
has_code None place = false
has_code (Some repeats) place = nat_lt place (32 * repeats + 1)

-- how often each block is sent
abbrev pub repeats_of : Option ℕ → ℕ
repeats_of None = 0
repeats_of (Some repeats) = repeats

-- data A of a burst in a slot: a code of the initialisation, or what is drawn
unfoldable pub burst_a : Parts → Option ℕ → ℕ → ℕ → Lcg → ℕ
burst_a parts init slot place g = if has_code init place then init_code (repeats_of init) slot place else data_a parts.a g

-- the generator behind it: no word is drawn for a code of the initialisation
unfoldable pub behind_a : Parts → Option ℕ → ℕ → Lcg → Lcg
behind_a parts init place g = if has_code init place then g else behind_value parts.a g

-- what a burst in a slot says: messaging, frame control, status, data B, and then data A
unfoldable pub payload_next : Parts → Option ℕ → ℕ → ℕ → Lcg → Payload
payload_next parts init slot place g = record {
  m = value parts.m g;
  f = value parts.f (behind_m parts g);
  s = value parts.s (behind_f parts g);
  b = value parts.b (behind_s parts g);
  a = burst_a parts init slot place (behind_b parts g);
}

-- one burst more in each slot, or in the channel
abbrev pub next_place : ℕ → ℕ
next_place place = min 1000 (place + 1)

-- the script behind a burst of a channel without slots
abbrev pub behind_burst : ScriptState → Parts → Option ℕ → Scripted
behind_burst state parts init = record {
  message = message.Burst None (payload_next parts init 0 state.place state.wobble);
  script = record state { wobble = behind_a parts init state.place (behind_b parts state.wobble); place = next_place state.place };
}

-- a burst in this slot, of so many slots: behind the last a sync pulse comes
abbrev pub slot_next : ScriptState → Parts → ℕ → Option ℕ → ℕ → Scripted
slot_next state parts slots init slot = record {
  message = message.Burst (Some slot) (payload_next parts init slot state.place state.wobble);
  script =
      if nat_lt (slot + 1) slots then record state { wobble = behind_a parts init state.place (behind_b parts state.wobble); slot = Some (slot + 1) }
      else record state { wobble = behind_a parts init state.place (behind_b parts state.wobble); slot = None; place = next_place state.place };
}

-- with slots a sync pulse comes first, then a burst in each slot, and so on
abbrev pub bus_next : ScriptState → Parts → ℕ → Option ℕ → Option ℕ → Scripted
bus_next state parts slots init None = record { message = message.Sync; script = record state { slot = Some 0 } }
bus_next state parts slots init (Some slot) = slot_next state parts slots init slot

-- the next message of a PSI5 channel, with slots and without
unfoldable pub psi5_next : ScriptState → psi5_frame.Settings → Option SyncSlots → Option ℕ → Scripted
psi5_next state s None init = behind_burst state s.parts init
psi5_next state s (Some slots) init = bus_next state s.parts (length slots.setup.windows) init state.slot

-- ---- tooth gap
-- what a downlink frame of a form says: its address, its function, its register, and then its value
unfoldable pub down_drawn : Form → Lcg → Down
down_drawn form g = record {
  address = value 3 g;
  function = value 3 (behind_word g);
  register = value (wide form) (behind_word (behind_word g));
  value = value (wide form) (behind_value (wide form) (behind_word (behind_word g)));
}

-- the generator behind it
unfoldable pub behind_down : Form → Lcg → Lcg
behind_down form g = behind_value (wide form) (behind_value (wide form) (behind_word (behind_word g)))

-- a downlink frame
unfoldable pub tooth_next : ScriptState → downlink.Settings → Scripted
tooth_next state s = record { message = message.Down (down_drawn s.form state.wobble); script = record state { wobble = behind_down s.form state.wobble } }

-- ---- a script
-- the next message, by the channel's link
abbrev pub next_by : ScriptState → ChannelSetup → Scripted
next_by state (Sent line s form serial) = sent_next state s form serial
next_by state (Psi5 line s slots init) = psi5_next state s slots init
next_by state (Spc line s) = spc_next state s
next_by state (Tooth line s) = tooth_next state s

-- the next message of a script, and the script behind it
unfoldable pub script_next : ScriptState → Scripted
script_next state = next_by state state.setup

-- a script whose wobble is this, and that has given no message
abbrev pub script_from : ChannelSetup → Lcg → ScriptState
script_from setup g = record { setup = setup; wobble = g; left = 0; counter = 0; slot = None; place = 0 }
