-- A simulator that follows a script, by its link.
--     script-by        the next message of a script is that of its setup
--     followed         what holds of both at first, and is kept by each message, holds of both
--     followed-sent    so the next message is sent where that says so
use Rattle.std.proofs.Common.{◌≡◌, ℕ, ◌+◌, ◌<◌, List, ap, sym, subst, ◌∙◌}
use Rattle.rand_pcg.specs.Lcg.{Lcg}
use Rattle.line_base.specs.declared.edge.Edge.{Edge}
use Rattle.receiver_core.specs.declared.message.Message.{Message}
use Rattle.receiver_core.specs.declared.setup.ChannelSetup.{ChannelSetup}
use Rattle.sim_base.specs.declared.sim_fault.SimFault.{SimFault}
use Rattle.sim_base.specs.Outcomes.{Outcome, Sent, Refused}
use Rattle.sensor_sim.specs.Sims.{SimState, outcome_by, sim_next, started_by}
use Rattle.sensor_sim.proofs.LinkRuns.{LinkSends}
use Rattle.sensor_script.specs.Scripts.{ScriptState, Scripted, next_by, script_from, script_next}
use Rattle.scripts_accepted.specs.Taken.{IsSent}
use Rattle.scripts_accepted.specs.Followed.{HasFollowed, NotYet, OneMore, counted}
use Rattle.scripts_accepted.proofs.Outcomes.{Leaves, sent-by}

-- the next message of a script is that of its setup
pub script-by : (script : ScriptState) (setup : ChannelSetup) → script.setup ≡ setup → script_next script ≡ next_by script setup
unfolding script_next
script-by script setup is = ap (next_by script) is

-- what becomes of a script's message leaves both so
abbrev pub LeavesBoth : {A : Type 0} → (ScriptState → A → ℕ → Type 0) → ℕ → (Message → Lcg → Outcome A) → Scripted → Lcg → Type 0
LeavesBoth J count next x g = Leaves (λ behind. J x.script behind (count + counted x.message)) (next x.message g)

module _ (A : Type 0) (link : A → SimState) (next : A → Message → Lcg → Outcome A) (sends : LinkSends A link next) (setup : ChannelSetup) (words : Lcg) (first : A) (is_first : started_by setup ≡ link first)
    (J : ScriptState → A → ℕ → Type 0) (start : J (script_from setup words) first 0) (step : (script : ScriptState) (now : A) (count : ℕ) (g : Lcg) → J script now count → LeavesBoth J count (next now) (script_next script) g) where
  -- the channel's simulator has come to this by the link, and this holds of both
  abbrev Both : ScriptState → SimState → ℕ → Type 0
  Both script state count = (now : A) × (state ≡ link now) × J script now count

  -- what is sent leaves the link's state
  same-state : (edges more : List Edge) (now : A) (behind : SimState) (g later : Lcg) → Sent edges (link now) g ≡ Sent more behind later → behind ≡ link now
  same-state edges more now behind g later same = cc

  -- what is refused isn't sent
  never-sent : (fault : SimFault) (more : List Edge) (now : A) (behind : SimState) (g later : Lcg) {X : Type 0} → Refused fault (link now) g ≡ Sent more behind later → X
  never-sent fault more now behind g later same = absurd cc

  -- both hold behind one message more
  one-more : (script : ScriptState) (count : ℕ) (more : List Edge) (behind : SimState) (later : Lcg) (outcome : Outcome A) → outcome_by link outcome ≡ Sent more behind later → Leaves (λ b. J script b count) outcome → Both script behind count
  one-more script count more behind later (Sent edges b g) same holds = (b, same-state edges more b behind g later same, holds)
  one-more script count more behind later (Refused fault b g) same holds = never-sent fault more b behind g later same

  -- both hold of a script and a simulator that has followed it
  pub followed : (script : ScriptState) (state : SimState) (count : ℕ) → HasFollowed setup words script state count → Both script state count
  followed _ _ _ NotYet = (first, is_first, start)
  followed _ _ _ (OneMore {script} {state} {behind} {count} {edges} run g later same) =
      let so_far = followed script state count run in
      let m = (script_next script).message in
      one-more (script_next script).script (count + counted m) edges behind later (next so_far.0 m g) (sym (sends so_far.0 m g) ∙ ap (λ s. sim_next s m g) (sym so_far.1) ∙ same) (step script so_far.0 count g so_far.2)

  -- so the next message is sent where what holds says so
  pub followed-sent : (most : ℕ) → ((script : ScriptState) (now : A) (count : ℕ) (g : Lcg) → J script now count → count < most → IsSent (next now (script_next script).message g))
      → (script : ScriptState) (state : SimState) (count : ℕ) (g : Lcg) → HasFollowed setup words script state count → count < most → IsSent (sim_next state (script_next script).message g)
  followed-sent most is_sent script state count g run few =
      let so_far = followed script state count run in
      let m = (script_next script).message in
      subst (λ s. IsSent (sim_next s m g)) (sym so_far.1) (subst IsSent (sym (sends so_far.0 m g)) (sent-by link (next so_far.0 m g) (is_sent script so_far.0 count g so_far.2 few)))
