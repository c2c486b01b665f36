-- Which messages of a script come up to the counted one of a number; this project's own.
use Rattle.std.specs.Prelude.{◌≡◌, ℕ, zero, suc, true, false, List, [], ◌∷◌}
use Rattle.receiver_core.specs.declared.message.Message.{Message}
use Rattle.sensor_script.specs.Scripts.{ScriptState, script_next}
use Rattle.sensor_script.specs.Counted.{is_counted}

-- a script in this state gives these messages up to the counted one of this number: none for 0; a counted message and then one fewer; or one that isn't counted and then as many
pub data IsScripted : ScriptState → ℕ → List Message → Type 0 where
  Enough : {state : ScriptState} → IsScripted state zero []
  OneFewer : {state : ScriptState} {count : ℕ} {messages : List Message} → is_counted (script_next state).message ≡ true
      → IsScripted (script_next state).script count messages → IsScripted state (suc count) ((script_next state).message ∷ messages)
  AsMany : {state : ScriptState} {count : ℕ} {messages : List Message} → is_counted (script_next state).message ≡ false
      → IsScripted (script_next state).script (suc count) messages → IsScripted state (suc count) ((script_next state).message ∷ messages)
