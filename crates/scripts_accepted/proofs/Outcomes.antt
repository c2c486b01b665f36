-- What holds of what becomes of a message.
--     Leaves                           where it is sent, this holds of the state behind it
--     late-leaves, fits-leaves, when-leaves     by whether it comes too late, and whether it fits
--     late-of, fits-of                 a message of the setup
--     in_time-sent                     one that is in time
--     kept                             what each message leaves holds of each state of a run
--     of-by, sent-by                   by the link and by the channel
use Rattle.std.proofs.Common.{◌≡◌, ℕ, zero, suc, Bool, true, false, List, [], ◌∷◌, ◌++◌, length, refl, sym, subst, if◌then◌else◌, arith}
use Rattle.std.proofs.lemmas.List.{length-append}
use Rattle.rand_pcg.specs.Lcg.{Lcg}
use Rattle.line_base.specs.declared.edge.Edge.{Edge}
use Rattle.receiver_core.specs.declared.message.Message.{Message}
use Rattle.sim_base.specs.declared.sim_fault.SimFault.{SimFault}
use Rattle.sim_base.specs.declared.sim_fault.SimFault.TheVariants as fault
use Rattle.sim_base.specs.Outcomes.{Outcome, Sent, Refused}
use Rattle.sim_base.specs.Runs.{HasRun, NotYet, OneMore}
use Rattle.sensor_sim.specs.Sims.{SimState, outcome_by}
use Rattle.scripts_accepted.specs.Taken.{IsOfSetup, IsSent}

-- where the message is sent, this holds of the state behind it
abbrev pub Leaves : {A : Type 0} → (A → Type 0) → Outcome A → Type 0
Leaves P (Sent edges state g) = P state
Leaves P (Refused fault state g) = Unit {0}

module _ (A : Type 0) (P : A → Type 0) (state behind : A) (edges : List Edge) (own later : Lcg) where
  -- what holds behind a message holds unless it comes too late
  pub late-leaves : (late : Bool) → P behind → Leaves P (if late then Refused fault.Late state own else Sent edges behind later)
  late-leaves true holds = tt
  late-leaves false holds = holds

  -- a message that may come too late is one of the setup
  pub late-of : (late : Bool) → IsOfSetup (if late then Refused fault.Late state own else Sent edges behind later)
  late-of true = tt
  late-of false = tt

  -- a message that is in time is sent
  pub in_time-sent : (late : Bool) → late ≡ false → IsSent (if late then Refused fault.Late state own else Sent edges behind later)
  in_time-sent late in_time = subst (λ b. IsSent (if b then Refused fault.Late state own else Sent edges behind later)) (sym in_time) tt

-- what a message leaves it leaves, whether it fits or not
pub fits-leaves : {A : Type 0} (P : A → Type 0) (refused : SimFault) (state : A) (g : Lcg) (next : Outcome A) (fits : Bool) → Leaves P next → Leaves P (if fits then next else Refused refused state g)
fits-leaves P refused state g next true leaves = leaves
fits-leaves P refused state g next false leaves = tt

-- what fits may leave more
pub when-leaves : {A : Type 0} (P : A → Type 0) (refused : SimFault) (state : A) (g : Lcg) (next : Outcome A) (fits : Bool) → (fits ≡ true → Leaves P next) → Leaves P (if fits then next else Refused refused state g)
when-leaves P refused state g next true leaves = leaves refl
when-leaves P refused state g next false leaves = tt

-- ---- a run
module _ (A : Type 0) (next : A → Message → Lcg → Outcome A) (first : A) (P : ℕ → A → Type 0) (start : P zero first) (step : (count : ℕ) (state : A) (m : Message) (g : Lcg) → P count state → Leaves (P (suc count)) (next state m g)) where
  -- a count of the messages with one more
  one-more : (messages : List Message) (m : Message) (state : A) → P (suc (length messages)) state → P (length (messages ++ m ∷ [])) state
  one-more messages m state holds =
      let many : suc (length messages) ≡ length (messages ++ m ∷ []) = omega (arith, length-append messages (m ∷ [])) in
      subst (λ n. P n state) many holds

  -- what holds at first and is kept by each message holds behind a run
  pub kept : (state : A) (messages : List Message) (edges : List Edge) → HasRun A next first state messages edges → P (length messages) state
  kept _ _ _ NotYet = start
  kept _ _ _ (OneMore {state} {behind} {messages} {edges} {more} run m g later same) =
      one-more messages m behind (subst (Leaves (P (suc (length messages)))) same (step (length messages) state m g (kept state messages edges run)))

-- ---- the link and the channel
-- a message of the link's setup is one of the channel's
pub of-by : {A : Type 0} (link : A → SimState) (outcome : Outcome A) → IsOfSetup outcome → IsOfSetup (outcome_by link outcome)
of-by link (Sent edges state g) of = of
of-by link (Refused fault state g) of = of

-- what the link sends the channel sends
pub sent-by : {A : Type 0} (link : A → SimState) (outcome : Outcome A) → IsSent outcome → IsSent (outcome_by link outcome)
sent-by link (Sent edges state g) is_sent = is_sent
sent-by link (Refused fault state g) is_sent = is_sent
