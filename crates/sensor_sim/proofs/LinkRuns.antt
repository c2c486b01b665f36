-- What a channel's simulator has run is what that of its link has run.
--     outcome-by       what becomes of a call by a link
--     LinkSends        a link by which a channel sends
--     link-run         a run of the channel is one of the link
--     link-sent        what the channel sends the link sends
use Rattle.std.proofs.Common.{◌≡◌, Result, Ok, Err, List, [], ◌∷◌, ◌++◌, refl, ap, ap₂, sym, subst, ◌∙◌}
use Rattle.arrayvec.specs.ArrayVec.{ArrayVec}
use Rattle.rand_pcg.specs.Lcg.{Lcg}
use Rattle.line_base.specs.declared.edge.Edge.{Edge}
use Rattle.receiver_core.specs.declared.message.Message.{Message}
use Rattle.sim_base.specs.declared.sim_fault.SimFault.{SimFault}
use Rattle.sim_base.specs.Outcomes.{Outcome, Sent, Refused, outcome_of}
use Rattle.sim_base.specs.Runs.{HasRun, NotYet, OneMore}
use Rattle.sensor_sim.specs.Sims.{SimState, outcome_by, sim_next}

pub outcome-by : {A : Type 0} (link : A → SimState) (result : Result (ArrayVec Edge) SimFault) (state : A) (g : Lcg) → outcome_of result (link state) g ≡ outcome_by link (outcome_of result state g)
outcome-by link (Ok edges) state g = refl
outcome-by link (Err fault) state g = refl

-- a channel sends by this link what becomes of a message by this
abbrev pub LinkSends : (A : Type 0) → (A → SimState) → (A → Message → Lcg → Outcome A) → Type 0
LinkSends A link next = (state : A) (m : Message) (g : Lcg) → sim_next (link state) m g ≡ outcome_by link (next state m g)

module _ (A : Type 0) (link : A → SimState) (next : A → Message → Lcg → Outcome A) (sends : LinkSends A link next) (first : A) where
  -- the channel's simulator has come to this by the link
  abbrev Ran : SimState → List Message → List Edge → Type 0
  Ran state messages edges = (now : A) × (state ≡ link now) × HasRun A next first now messages edges

  -- what is sent is sent by one way alone
  same-sent : (edges more : List Edge) (now : A) (behind : SimState) (g later : Lcg) → Sent edges (link now) g ≡ Sent more behind later → (edges ≡ more) × (behind ≡ link now)
  same-sent edges more now behind g later same = (cc, cc)

  -- what is refused isn't sent
  refused-not : (fault : SimFault) (more : List Edge) (now : A) (behind : SimState) (g later : Lcg) {X : Type 0} → Refused fault (link now) g ≡ Sent more behind later → X
  refused-not fault more now behind g later same = absurd cc

  one-more : (now : A) (messages : List Message) (edges : List Edge) → HasRun A next first now messages edges → (m : Message) (g : Lcg) (more : List Edge) (behind : SimState) (later : Lcg) (outcome : Outcome A) → next now m g ≡ outcome
      → outcome_by link outcome ≡ Sent more behind later → Ran behind (messages ++ m ∷ []) (edges ++ more)
  one-more now messages edges run m g more behind later (Sent sent next_state words) is same =
      let parts = same-sent sent more next_state behind words later same in
      (next_state, parts.1, subst (λ (l : List Edge). HasRun A next first next_state (messages ++ m ∷ []) (edges ++ l)) parts.0 (OneMore run m g words is))
  one-more now messages edges run m g more behind later (Refused fault next_state words) is same = refused-not fault more next_state behind words later same

  pub link-run : (state : SimState) (messages : List Message) (edges : List Edge) → HasRun SimState sim_next (link first) state messages edges → Ran state messages edges
  link-run _ _ _ NotYet = (first, refl, NotYet)
  link-run _ _ _ (OneMore {state} {behind} {messages} {edges} {more} run m g later same) =
      let so_far = link-run state messages edges run in
      one-more so_far.0 messages edges so_far.2 m g more behind later (next so_far.0 m g) refl (sym (sends so_far.0 m g) ∙ ap (λ s. sim_next s m g) (sym so_far.1) ∙ same)

module _ (A : Type 0) (link : A → SimState) (next : A → Message → Lcg → Outcome A) (sends : LinkSends A link next) where
  -- what is sent is sent by one way alone
  all-same : (edges more : List Edge) (now : A) (behind : SimState) (g later : Lcg) → Sent edges (link now) g ≡ Sent more behind later → (edges ≡ more) × (g ≡ later)
  all-same edges more now behind g later same = (cc, cc)

  none-sent : (fault : SimFault) (more : List Edge) (now : A) (behind : SimState) (g later : Lcg) {X : Type 0} → Refused fault (link now) g ≡ Sent more behind later → X
  none-sent fault more now behind g later same = absurd cc

  sent-by : (now : A) (m : Message) (g : Lcg) (more : List Edge) (behind : SimState) (later : Lcg) (outcome : Outcome A) → next now m g ≡ outcome → outcome_by link outcome ≡ Sent more behind later
      → (then : A) × (next now m g ≡ Sent more then later)
  sent-by now m g more behind later (Sent sent then words) is same =
      let parts = all-same sent more then behind words later same in
      (then, is ∙ ap₂ (λ e w. Sent e then w) parts.0 parts.1)
  sent-by now m g more behind later (Refused fault then words) is same = none-sent fault more then behind words later same

  pub link-sent : (state behind : SimState) (now : A) (m : Message) (g : Lcg) (more : List Edge) (later : Lcg) → state ≡ link now → sim_next state m g ≡ Sent more behind later → (then : A) × (next now m g ≡ Sent more then later)
  link-sent state behind now m g more later is same = sent-by now m g more behind later (next now m g) refl (sym (sends now m g) ∙ ap (λ s. sim_next s m g) (sym is) ∙ same)
