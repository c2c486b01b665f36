-- The messages that a script gives.
--     script-by          the next message of a script is that of its setup
--     each-scripted      what holds of each next message of a setup holds of all messages
--     counted-more       how many are counted, with one before the others
use Rattle.std.proofs.Common.{◌≡◌, ℕ, zero, suc, ◌+◌, List, [], ◌∷◌, cond, ap, sym, subst}
use Rattle.std.proofs.lemmas.List.Sums.{sum_by-cons}
use Rattle.receiver_core.specs.declared.message.Message.{Message}
use Rattle.receiver_core.specs.declared.setup.ChannelSetup.{ChannelSetup}
use Rattle.sensor_script.specs.Scripts.{ScriptState, Scripted, next_by, script_next}
use Rattle.sensor_script.specs.Counted.{counted_of, is_counted, script_messages}

-- this holds of each of these messages
abbrev pub EachIs : (Message → Type 0) → List Message → Type 0
EachIs P [] = Unit {0}
EachIs P (m ∷ messages) = P m × EachIs P messages

-- the next message of a script is that of its setup
pub script-by : (script : ScriptState) (setup : ChannelSetup) → script.setup ≡ setup → script_next script ≡ next_by script setup
unfolding script_next
script-by script setup is = ap (next_by script) is

module _ (P : Message → Type 0) (setup : ChannelSetup) (gives : (script : ScriptState) → P (next_by script setup).message) (keeps : (script : ScriptState) → script.setup ≡ setup → (next_by script setup).script.setup ≡ setup) where
  -- what holds of each next message of this setup holds of all messages
  pub each-scripted : (count : ℕ) (script : ScriptState) → script.setup ≡ setup → EachIs P (script_messages script count)
  unfolding script_messages
  each-scripted zero script is = tt
  each-scripted (suc count) script is =
      let by = script-by script setup is in
      (subst (λ (x : Scripted). P x.message) (sym by) (gives script), each-scripted count (script_next script).script (subst (λ (x : Scripted). x.script.setup ≡ setup) (sym by) (keeps script is)))

-- how many messages are counted, with one before the others
pub counted-more : (m : Message) (messages : List Message) → counted_of (m ∷ messages) ≡ cond (is_counted m) 1 0 + counted_of messages
counted-more m messages = sum_by-cons (λ (message : Message). cond (is_counted message) 1 0) m messages
