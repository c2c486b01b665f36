-- A script's messages are all sent, up to the 100,000th counted one.
--     never-refused      by a simulator that has accepted those before
use Rattle.std.proofs.Common.{◌≡◌, ℕ, zero, suc, ◌+◌, ◌≤◌, ◌<◌, Bool, if◌then◌else◌, None, List, ◌∷◌, refl, ap, subst, ◌∙◌, arith}
use Rattle.rand_pcg.specs.Lcg.{Lcg}
use Rattle.receiver_core.specs.declared.message.Message.{Message}
use Rattle.receiver_core.specs.declared.setup.ChannelSetup.{ChannelSetup}
use Rattle.sim_base.specs.Outcomes.{Outcome, Sent, Refused}
use Rattle.sensor_sim.specs.Played.{refusal_from}
use Rattle.sensor_sim.specs.Sims.{SimState, sim_next}
use Rattle.sensor_sim.proofs.PlayedMessages.{refusal-sent}
use Rattle.sensor_script.specs.Scripts.{ScriptState, script_next}
use Rattle.sensor_script.specs.Scripted.{AsMany, Enough, IsScripted, OneFewer}
use Rattle.scripts_accepted.specs.Followed.{HasFollowed, OneMore, counted}
use Rattle.scripts_accepted.specs.Taken.{IsSent}

module _ (setup : ChannelSetup) (first : Lcg) (sends : (script : ScriptState) (state : SimState) (count : ℕ) (g : Lcg) → HasFollowed setup first script state count → count < 100000 → IsSent (sim_next state (script_next script).message g)) where
  -- none of these messages is refused from this state on
  abbrev NoneRefused : SimState → Lcg → ℕ → List Message → Type 0
  NoneRefused state g index messages = refusal_from index state g messages ≡ None

  -- the next message is sent, and so are those behind it
  step : (script : ScriptState) (state : SimState) (count more index : ℕ) (g : Lcg) (messages : List Message) → HasFollowed setup first script state count → counted (script_next script).message ≡ more
      → ((behind : SimState) (later : Lcg) → HasFollowed setup first (script_next script).script behind (count + more) → NoneRefused behind later (suc index) messages)
      → (outcome : Outcome SimState) → sim_next state (script_next script).message g ≡ outcome → IsSent outcome → NoneRefused state g index ((script_next script).message ∷ messages)
  step script state count more index g messages followed is goes_on (Sent edges behind later) came sent =
      refusal-sent state g (script_next script).message messages index edges behind later came
      ∙ goes_on behind later (subst (λ n. HasFollowed setup first (script_next script).script behind (count + n)) is (OneMore followed g later came))
  step script state count more index g messages followed is goes_on (Refused fault behind later) came sent = absurd sent

  -- so many counted messages are left, at most 100,000 in all
  pub never-refused : (script : ScriptState) (state : SimState) (count left index : ℕ) (g : Lcg) (messages : List Message) → HasFollowed setup first script state count → count + left ≤ 100000
      → IsScripted script left messages → NoneRefused state g index messages
  unfolding refusal_from
  never-refused script state count zero index g messages followed few Enough = refl
  never-refused script state count (suc left) index g messages followed few (OneFewer {messages = rest} one scripted) =
      step script state count 1 index g rest followed (ap (λ (c : Bool). if c then 1 else 0) one)
      (λ behind later more. never-refused (script_next script).script behind (count + 1) left (suc index) later rest more (omega (arith, few)) scripted)
      (sim_next state (script_next script).message g) refl (sends script state count g followed (omega (arith, few)))
  never-refused script state count (suc left) index g messages followed few (AsMany {messages = rest} none scripted) =
      step script state count 0 index g rest followed (ap (λ (c : Bool). if c then 1 else 0) none)
      (λ behind later more. never-refused (script_next script).script behind (count + 0) (suc left) (suc index) later rest more (omega (arith, few)) scripted)
      (sim_next state (script_next script).message g) refl (sends script state count g followed (omega (arith, few)))
