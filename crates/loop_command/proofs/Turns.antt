-- A loop's messages, one after the other.
use Rattle.std.proofs.Common.{◌≡◌, ℕ, zero, suc, ◌+◌, ◌^◌, ◌≤◌, ◌<◌, Bool, true, false, cond, Option, None, Result, Ok, Err, OnOk, OnErr, List, [], ◌∷◌, ◌++◌, length, map, refl, ap, sym, subst, ◌∙◌, arith, append_assoc, append-nil, length-append}
use Rattle.line_base.specs.Orderly.{IsOrderly, IsOrderlyFrom, levels_with}
use Rattle.line_base.specs.declared.edge.Edge.{Edge}
use Rattle.line_base.specs.declared.edge.Item.TheVariants as item
use Rattle.receiver_core.specs.declared.message.Message.{Message}
use Rattle.receiver_core.specs.declared.setup.ChannelSetup.{ChannelSetup}
use Rattle.rand_pcg.specs.Lcg.{Lcg}
use Rattle.sensor_script.specs.Scripts.{ScriptState, script_next}
use Rattle.sensor_sim.specs.Played.{played_from}
use Rattle.receiver_core.specs.Setups.{setup_fault_of}
use Rattle.sensor_sim.specs.Sims.{IsAccepted, SimState, lines_of, sim_next, started_by}
use Rattle.sensor_sim.proofs.PlayedMessages.{played-refused, played-sent}
use Rattle.sim_base.specs.Outcomes.{Sent}
use Rattle.sim_base.specs.Runs.{HasRun, NotYet, OneMore}
use Rattle.loop_command.specs.declared.channel.Channel.{Channel}
use Rattle.loop_command.specs.declared.listeners.Listeners.{Listeners}
use Rattle.loop_command.specs.declared.script_loop.ScriptLoop.{ScriptLoop}
use Rattle.loop_command.specs.Listened.{AreInRange, HaveGot}
use Rattle.loop_command.specs.Running.{AreOfLoop, HasLeft, HasSent, HasSentAll, Refuses, Sends}
use Rattle.sensor_script.specs.Counted.{is_counted}
use Rattle.sensor_script.specs.Scripted.{AsMany, Enough, IsScripted, OneFewer}
use Rattle.loop_command.proofs.ScriptTurns.{next-counted}

-- ---- a script goes on
-- it gives messages up to any counted one
exists-by : (state : ScriptState) (count : ℕ) (counted : Bool) → is_counted (script_next state).message ≡ counted → ((later : ScriptState) → (messages : List Message) × IsScripted later count messages)
    → (messages : List Message) × IsScripted state (suc count) messages
exists-by state count true is later =
    let rest = later (script_next state).script in
    ((script_next state).message ∷ rest.0, OneFewer is rest.1)
exists-by state count false is later =
    let next = (script_next state).script in
    let rest = later (script_next next).script in
    ((script_next state).message ∷ (script_next next).message ∷ rest.0, AsMany is (OneFewer (next-counted state is) rest.1))

pub goes-on : (state : ScriptState) (count : ℕ) → (messages : List Message) × IsScripted state count messages
goes-on state zero = ([], Enough)
goes-on state (suc count) = exists-by state count (is_counted (script_next state).message) refl (λ later. goes-on later count)

-- and these alone
never-both : (counted : Bool) {A : Type 0} → counted ≡ true → counted ≡ false → A
never-both counted one other = absurd cc

pub these-alone : (state : ScriptState) (count : ℕ) (messages others : List Message) → IsScripted state count messages → IsScripted state count others → messages ≡ others
these-alone state zero messages others Enough Enough = refl
these-alone state (suc count) messages others (OneFewer {messages = rest} counted scripted) (OneFewer {messages = rest'} counted' scripted') =
    ap (λ l. (script_next state).message ∷ l) (these-alone (script_next state).script count rest rest' scripted scripted')
these-alone state (suc count) messages others (OneFewer counted scripted) (AsMany other scripted') = never-both (is_counted (script_next state).message) counted other
these-alone state (suc count) messages others (AsMany other scripted) (OneFewer counted scripted') = never-both (is_counted (script_next state).message) counted other
these-alone state (suc count) messages others (AsMany {messages = rest} other scripted) (AsMany {messages = rest'} other' scripted') =
    ap (λ l. (script_next state).message ∷ l) (these-alone (script_next state).script (suc count) rest rest' scripted scripted')

-- ---- edges that were sent
-- orderly edges are in range, and at most 2^40
in-range : (lines : List ℕ) (number time : ℕ) (levels : ℕ → Option Bool) (edges : List Edge) → IsOrderlyFrom lines number time levels (map item.Edge edges) → AreInRange edges
unfolding IsOrderlyFrom
in-range lines number time levels [] orderly = tt
in-range lines number time levels (edge ∷ edges) orderly = (orderly.0.in_range, in-range lines (number + 1) edge.time (levels_with levels edge.line edge.level) edges orderly.1)

few-from : (lines : List ℕ) (number time : ℕ) (levels : ℕ → Option Bool) (edges : List Edge) → number ≤ 2 ^ 40 → IsOrderlyFrom lines number time levels (map item.Edge edges) → number + length edges ≤ 2 ^ 40
unfolding IsOrderlyFrom
few-from lines number time levels [] small orderly = omega (arith, small)
few-from lines number time levels (edge ∷ edges) small orderly =
    let later = few-from lines (number + 1) edge.time (levels_with levels edge.line edge.level) edges orderly.0.numbered orderly.1 in
    omega (arith, later)

range-behind : (edges more : List Edge) → AreInRange (edges ++ more) → AreInRange more
range-behind [] more range = range
range-behind (edge ∷ edges) more range = range-behind edges more range.1

pub orderly-few : (lines : List ℕ) (edges : List Edge) → IsOrderly lines (map item.Edge edges) → length edges ≤ 2 ^ 40
unfolding IsOrderly
orderly-few lines edges orderly = (let few = few-from lines 0 0 (λ _. None) edges (omega arith) orderly in omega (arith, few))

pub orderly-in_range : (lines : List ℕ) (edges more : List Edge) → IsOrderly lines (map item.Edge (edges ++ more)) → AreInRange more
unfolding IsOrderly
orderly-in_range lines edges more orderly = range-behind edges more (in-range lines 0 0 (λ _. None) (edges ++ more) orderly)

-- the edges of a channel's simulator are orderly
abbrev pub AreOrderly : Type 0
AreOrderly = (setup : ChannelSetup) (state : SimState) (messages : List Message) (edges : List Edge) → IsAccepted setup → setup_fault_of setup ≡ None
    → HasRun SimState sim_next (started_by setup) state messages edges → IsOrderly (lines_of setup) (map item.Edge edges)

-- a new channel has sent nothing
pub sent-nothing : (channel : Channel) (setup : ChannelSetup) → setup_fault_of setup ≡ None → IsAccepted setup → channel.sim ≡ started_by setup → HaveGot channel.listeners setup [] → HasSent channel setup []
sent-nothing channel setup no_fault accepted same got = record {
  no_fault = no_fault;
  accepted = accepted;
  messages = [];
  ran = subst (λ (state : SimState). HasRun SimState sim_next (started_by setup) state [] []) (sym same) NotYet;
  few = omega arith;
  got = got;
}

module _ (law : AreOrderly) (old : Channel) (setup : ChannelSetup) (edges : List Edge) (before : HasSent old setup edges) (sent : Message) (sim : SimState) (wobble : Lcg) (more : List Edge) (next : sim_next old.sim sent old.wobble ≡ Sent more sim wobble) where
  runs-more : HasRun SimState sim_next (started_by setup) sim (before.messages ++ sent ∷ []) (edges ++ more)
  runs-more = OneMore before.ran sent old.wobble wobble next

  orderly-more : IsOrderly (lines_of setup) (map item.Edge (edges ++ more))
  orderly-more = law setup sim (before.messages ++ sent ∷ []) (edges ++ more) before.accepted before.no_fault runs-more

  pub few-more : length edges + length more ≤ 2 ^ 40
  few-more = (let few = orderly-few (lines_of setup) (edges ++ more) orderly-more in omega (arith, few, length-append edges more))

  pub range-more : AreInRange more
  range-more = orderly-in_range (lines_of setup) edges more orderly-more

  -- what is sent more is got
  pub sends-more : (listeners : Listeners) → HaveGot listeners setup (edges ++ more) → Sends old (record { sim = sim; wobble = wobble; listeners = listeners }) sent setup edges
  sends-more listeners got = record {
    more = more;
    next = next;
    sent = record {
      no_fault = before.no_fault;
      accepted = before.accepted;
      messages = before.messages ++ sent ∷ [];
      ran = runs-more;
      few = orderly-few (lines_of setup) (edges ++ more) orderly-more;
      got = got;
    };
  }

-- ---- a loop
-- edges of a loop, by whatever they are the same as
of-loop : (seed count : ℕ) (setup : ChannelSetup) (edges other : List Edge) → edges ≡ other → AreOfLoop seed count setup edges → AreOfLoop seed count setup other
of-loop seed count setup edges other same are = subst (AreOfLoop seed count setup) same are

module _ (old : ScriptLoop) (seed count : ℕ) (setup : ChannelSetup) (left : ℕ) (before : HasLeft old seed count setup (suc left)) (channel : Channel) where
  onward : (sends : Sends old.channel channel (script_next old.script).message setup before.edges) (rest : List Message) → IsScripted old.script (suc left) ((script_next old.script).message ∷ rest)
      → AreOfLoop seed count setup ((before.edges ++ sends.more) ++ played_from channel.sim channel.wobble rest)
  onward sends rest scripted =
      of-loop seed count setup _ _
      (ap (λ l. before.edges ++ l) (played-sent old.channel.sim old.channel.wobble (script_next old.script).message rest sends.more channel.sim channel.wobble sends.next)
      ∙ sym (append_assoc before.edges sends.more (played_from channel.sim channel.wobble rest)))
      (before.goes_on ((script_next old.script).message ∷ rest) scripted)

  -- a counted message was sent
  pub left-fewer : Sends old.channel channel (script_next old.script).message setup before.edges → is_counted (script_next old.script).message ≡ true
      → HasLeft (record { script = (script_next old.script).script; channel = channel }) seed count setup left
  left-fewer sends counted = record {
    edges = before.edges ++ sends.more;
    sent = sends.sent;
    goes_on = λ rest scripted. onward sends rest (OneFewer counted scripted);
  }

  -- one that isn't counted was
  pub left-as_many : Sends old.channel channel (script_next old.script).message setup before.edges → is_counted (script_next old.script).message ≡ false
      → HasLeft (record { script = (script_next old.script).script; channel = channel }) seed count setup (suc left)
  left-as_many sends other = record {
    edges = before.edges ++ sends.more;
    sent = sends.sent;
    goes_on = λ rest scripted. onward sends rest (AsMany other scripted);
  }

  -- a message was refused
  refused-by : (messages : List Message) → IsScripted old.script (suc left) ((script_next old.script).message ∷ messages) → Refuses old.channel channel (script_next old.script).message setup before.edges
      → HasSentAll (record { script = (script_next old.script).script; channel = channel }) seed count setup
  refused-by messages scripted refuses = record {
    edges = before.edges;
    few = refuses.few;
    got = refuses.got;
    are =
        of-loop seed count setup _ _
        (ap (λ l. before.edges ++ l) (played-refused old.channel.sim old.channel.wobble (script_next old.script).message messages refuses.fault channel.sim channel.wobble refuses.next) ∙ append-nil before.edges)
        (before.goes_on ((script_next old.script).message ∷ messages) scripted);
  }

  pub all-refused : (counted : Bool) → is_counted (script_next old.script).message ≡ counted → Refuses old.channel channel (script_next old.script).message setup before.edges
      → HasSentAll (record { script = (script_next old.script).script; channel = channel }) seed count setup
  all-refused true is refuses = (let rest = goes-on (script_next old.script).script left in refused-by rest.0 (OneFewer is rest.1) refuses)
  all-refused false is refuses = (let rest = goes-on (script_next old.script).script (suc left) in refused-by rest.0 (AsMany is rest.1) refuses)

  -- ---- the same, of what a call gave
  module _ (given : Message) (script : ScriptState) (is : given ≡ (script_next old.script).message) (behind : script ≡ (script_next old.script).script) where
    sends-it : Sends old.channel channel given setup before.edges → Sends old.channel channel (script_next old.script).message setup before.edges
    sends-it sends = subst (λ (m : Message). Sends old.channel channel m setup before.edges) is sends

    pub counted-sent : Sends old.channel channel given setup before.edges → is_counted given ≡ true → HasLeft (record { script = script; channel = channel }) seed count setup left
    counted-sent sends counted = subst (λ (s : ScriptState). HasLeft (record { script = s; channel = channel }) seed count setup left) (sym behind) (left-fewer (sends-it sends) (ap is_counted (sym is) ∙ counted))

    pub other-sent : Sends old.channel channel given setup before.edges → is_counted given ≡ false → HasLeft (record { script = script; channel = channel }) seed count setup (suc left)
    other-sent sends other = subst (λ (s : ScriptState). HasLeft (record { script = s; channel = channel }) seed count setup (suc left)) (sym behind) (left-as_many (sends-it sends) (ap is_counted (sym is) ∙ other))

    pub given-refused : Refuses old.channel channel given setup before.edges → HasSentAll (record { script = script; channel = channel }) seed count setup
    given-refused refuses =
        subst (λ (s : ScriptState). HasSentAll (record { script = s; channel = channel }) seed count setup) (sym behind)
        (all-refused (is_counted (script_next old.script).message) refl (subst (λ (m : Message). Refuses old.channel channel m setup before.edges) is refuses))

-- a script whose next message isn't counted comes nearer to one that is
pub comes-nearer : (old behind : ScriptState) (given : Message) → given ≡ (script_next old).message → behind ≡ (script_next old).script → is_counted given ≡ false
    → cond (is_counted (script_next behind).message) 0 1 < cond (is_counted (script_next old).message) 0 1
comes-nearer old behind given is later other =
    let here : is_counted (script_next old).message ≡ false = ap is_counted (sym is) ∙ other in
    let there : is_counted (script_next behind).message ≡ true = ap (λ (s : ScriptState). is_counted (script_next s).message) later ∙ next-counted old here in
    rw (here, there) (omega arith)

-- no message is left
pub all-sent : (running : ScriptLoop) (seed count : ℕ) (setup : ChannelSetup) → HasLeft running seed count setup zero → HasSentAll running seed count setup
unfolding played_from
all-sent running seed count setup before = record {
  edges = before.edges;
  few = before.sent.few;
  got = before.sent.got;
  are = of-loop seed count setup _ _ (append-nil before.edges) (before.goes_on [] Enough);
}

-- ---- what holds of a good result, or of a fault
pub on-ok : {T E P Q : Type 0} (result : Result T E) → (P → Q) → OnOk result P → OnOk result Q
on-ok (Ok value) then holds = then holds
on-ok (Err fault) then holds = tt

pub on-err : {T E P Q : Type 0} (result : Result T E) → (P → Q) → OnErr result P → OnErr result Q
on-err (Ok value) then holds = tt
on-err (Err fault) then holds = then holds
