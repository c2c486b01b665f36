-- Which messages of a script are counted, and which come first; this project's own.
use Rattle.std.specs.Prelude.{ℕ, zero, suc, Bool, true, false, List, [], ◌∷◌, count_by}
use Rattle.rand_pcg.specs.Lcg.{Lcg}
use Rattle.receiver_core.specs.declared.message.Message.{Message}
use Rattle.receiver_core.specs.declared.message.Message.TheVariants as message
use Rattle.receiver_core.specs.declared.setup.ChannelSetup.{ChannelSetup}
use Rattle.sensor_script.specs.Scripts.{ScriptState, script_from, script_next}

-- the message is counted: a frame, an answer, a burst or a downlink frame is, and a serial message, a trigger without an answer or a sync pulse isn't
abbrev pub is_counted : Message → Bool
is_counted (message.Frame frame) = true
is_counted (message.Short id value) = false
is_counted (message.Enhanced id value wide) = false
is_counted (message.Answer code frame) = true
is_counted (message.Silent code) = false
is_counted message.Sync = false
is_counted (message.Burst slot payload) = true
is_counted (message.Down down) = true

-- how many of these messages are counted
abbrev pub counted_of : List Message → ℕ
counted_of messages = count_by is_counted messages

-- the messages that a script in this state gives next, so many
unfoldable pub script_messages : ScriptState → ℕ → List Message
script_messages state zero = []
script_messages state (suc count) = (script_next state).message ∷ script_messages (script_next state).script count

-- the first messages of a script for this setup, whose wobble is this at first
abbrev pub first_messages : ChannelSetup → Lcg → ℕ → List Message
first_messages setup first count = script_messages (script_from setup first) count
