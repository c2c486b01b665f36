-- Messages that are refused change nothing, link by link.
--     changes-sent, changes-psi5, changes-spc, changes-tooth
--     changes-by       so by the channel
use Rattle.std.proofs.Common.{ℕ, ◌*◌, ◌^◌, Bool, true, false, not, Option, None, Some, List, [], length, refl, ap, if◌then◌else◌, ltb, eqb}
use Rattle.rand_pcg.specs.Lcg.{Lcg}
use Rattle.line_base.specs.declared.edge.Edge.{Edge}
use Rattle.psi5_downlink.specs.declared.down.Down.{Down}
use Rattle.psi5_tolerance.specs.Trains.{Sending, SyncAt, FrameAt}
use Rattle.sent_tolerance.specs.Trains as sent_trains
use Rattle.sent_serial.specs.declared.step.SerialStep.TheVariants as step
use Rattle.sent_serial.specs.SentStatuses.{statuses_sent}
use Rattle.receiver_core.specs.declared.message.Message.{Message}
use Rattle.receiver_core.specs.declared.message.Message.TheVariants as message
use Rattle.receiver_core.specs.declared.setup.SyncSlots.{SyncSlots}
use Rattle.sim_base.specs.Outcomes.{Outcome, Sent, Refused}
use Rattle.sim_base.specs.declared.sim_fault.SimFault.TheVariants as fault
use Rattle.sim_base.specs.Wobbles.{behind_word, past, word, words}
use Rattle.sent_sim.specs.SentSims as sent
use Rattle.sent_sim.specs.SentSims.{begun, falls_sent, frame_next, sent_next}
use Rattle.sent_sim.specs.SentStates.{SentState}
use Rattle.psi5_sim.specs.Psi5Sims as psi5
use Rattle.psi5_sim.specs.Psi5Sims.{burst_next, edges_sent as psi5_sent, psi5_next}
use Rattle.psi5_sim.specs.Psi5States.{Psi5State}
use Rattle.spc_sim.specs.SpcSims as spc
use Rattle.spc_sim.specs.SpcSims.{answer_next, edges_sent as spc_sent, silent_next, spc_next}
use Rattle.spc_sim.specs.SpcStates.{SpcState}
use Rattle.spc_tolerance.specs.Trains.{Transaction, Answered, Unanswered, ends_at, last_of}
use Rattle.psi5_downlink_sim.specs.ToothSims as tooth
use Rattle.psi5_downlink_sim.specs.ToothSims.{down_next, rises_sent, tooth_next}
use Rattle.psi5_downlink_sim.specs.ToothStates.{ToothState}
use Rattle.sensor_sim.specs.Sims.{SimState, outcome_by}
use Rattle.sensor_sim.specs.Refusals.{ChangesNothing, past_psi5, past_sent, past_spc, past_tooth}

-- what comes too late has drawn its own words, and else it is sent
late-changes : (A : Type 0) (state : A) (g own : Lcg) (edges : List Edge) (behind : A) (later : Lcg) (late : Bool) → ChangesNothing state g own (if late then Refused fault.Late state own else Sent edges behind later)
late-changes A state g own edges behind later true = (refl, refl)
late-changes A state g own edges behind later false = tt

-- what doesn't fit draws nothing
range-changes : (A : Type 0) (state : A) (g own : Lcg) (next : Outcome A) (fits : Bool) → ChangesNothing state g own next → ChangesNothing state g own (if fits then next else Refused fault.Range state g)
range-changes A state g own next true changes = changes
range-changes A state g own next false changes = (refl, refl)

-- ---- SENT
late-sent : (state : SentState) (f : sent_trains.Sending) (g own : Lcg) → ChangesNothing state g own (falls_sent state f own)
unfolding falls_sent
late-sent state f g own =
    let count = length (sent.ideal_of state.setup state.last f) in
    late-changes SentState state g own (sent.frame_edges state f (words count own)) (sent.behind_frame state f) (past count own) (ltb (9 * 10 ^ 17) (sent.ends_at state.setup state.last f))

-- a serial message draws nothing, by whether it is of the form, fits and comes in order
serial-changes : (state : SentState) (statuses : List ℕ) (g : Lcg) (kind fits order : Bool)
    → ChangesNothing state g g (if kind then (if fits then (if order then Sent [] (record state { left = statuses }) g else Refused fault.Order state g) else Refused fault.Range state g) else Refused fault.Kind state g)
serial-changes state statuses g false fits order = (refl, refl)
serial-changes state statuses g true false order = (refl, refl)
serial-changes state statuses g true true false = (refl, refl)
serial-changes state statuses g true true true = tt

pub changes-sent : (state : SentState) (m : Message) (g : Lcg) → ChangesNothing state g (past_sent state m g) (sent_next state m g)
unfolding sent_next frame_next begun
changes-sent state (message.Frame frame) g =
    let own = sent.past_frame state.setup g in
    range-changes SentState state g own (frame_next state frame g) (sent.fits_frame state.setup state.serial frame)
    (late-sent state (sent.frame_sent state.setup state.tick (sent.completed state.left frame) (sent.frame_words state.setup g)) g own)
changes-sent state (message.Short id value) g = serial-changes state (statuses_sent (step.Short id value)) g (sent.are_short state.serial) (sent.fits_short id value) (eqb (length state.left) 0)
changes-sent state (message.Enhanced id value wide) g = serial-changes state (statuses_sent (step.Enhanced id value wide)) g (sent.are_enhanced state.serial) (sent.fits_enhanced id value wide) (eqb (length state.left) 0)
changes-sent state (message.Answer code frame) g = (refl, refl)
changes-sent state (message.Silent code) g = (refl, refl)
changes-sent state message.Sync g = (refl, refl)
changes-sent state (message.Burst slot payload) g = (refl, refl)
changes-sent state (message.Down down) g = (refl, refl)

-- ---- SPC
late-spc : (state : SpcState) (t : Transaction) (g own : Lcg) → ChangesNothing state g own (spc_sent state t own)
unfolding spc_sent
late-spc state t g own =
    let count = length (spc.falls_in state.setup t) in
    let drawn = behind_word (behind_word own) in
    late-changes SpcState state g own (spc.transaction_edges state t (word own) (word (behind_word own)) (words count drawn)) (spc.behind_transaction state t) (past count drawn) (ltb (9 * 10 ^ 17) (ends_at state.setup t))

pub changes-spc : (state : SpcState) (m : Message) (g : Lcg) → ChangesNothing state g (past_spc state m g) (spc_next state m g)
unfolding spc_next answer_next silent_next
changes-spc state (message.Frame frame) g = (refl, refl)
changes-spc state (message.Short id value) g = (refl, refl)
changes-spc state (message.Enhanced id value wide) g = (refl, refl)
changes-spc state (message.Answer code frame) g =
    let own = spc.past_answer state.setup (spc.past_trigger g) in
    let trigger = spc.next_sent state code g in
    range-changes SpcState state g own (answer_next state code frame g) (spc.fits_answer state.setup code frame)
    (late-spc state (Answered trigger (spc.answer_sent state.setup trigger frame (spc.trigger_words g).tick (spc.answer_words state.setup (spc.past_trigger g)))) g own)
changes-spc state (message.Silent code) g =
    let own = spc.past_trigger g in
    range-changes SpcState state g own (silent_next state code g) (spc.fits_code state.setup code) (late-spc state (Unanswered (spc.next_sent state code g)) g own)
changes-spc state message.Sync g = (refl, refl)
changes-spc state (message.Burst slot payload) g = (refl, refl)
changes-spc state (message.Down down) g = (refl, refl)

-- ---- tooth gap
late-tooth : (state : ToothState) (down : Down) (period missing : ℕ) (g own : Lcg) → ChangesNothing state g own (rises_sent state down period missing own)
unfolding rises_sent
late-tooth state down period missing g own =
    let end = tooth.ends_at state.setup state.last down period missing in
    let count = length (tooth.ideal_of state.setup state.last down period missing) in
    late-changes ToothState state g own (tooth.message_edges state down period missing (words count own)) (record state { last = Some end }) (past count own) (ltb (9 * 10 ^ 17) end)

pub changes-tooth : (state : ToothState) (m : Message) (g : Lcg) → ChangesNothing state g (past_tooth m g) (tooth_next state m g)
unfolding tooth_next down_next
changes-tooth state (message.Frame frame) g = (refl, refl)
changes-tooth state (message.Short id value) g = (refl, refl)
changes-tooth state (message.Enhanced id value wide) g = (refl, refl)
changes-tooth state (message.Answer code frame) g = (refl, refl)
changes-tooth state (message.Silent code) g = (refl, refl)
changes-tooth state message.Sync g = (refl, refl)
changes-tooth state (message.Burst slot payload) g = (refl, refl)
changes-tooth state (message.Down down) g =
    let own = tooth.past_words g in
    range-changes ToothState state g own (down_next state down g) (tooth.fits_down state.setup.form down)
    (late-tooth state down (tooth.period_drawn state.setup.period (tooth.tooth_words g).period) (tooth.missing_drawn (tooth.tooth_words g).gap) g own)

-- ---- PSI5
late-psi5 : (state : Psi5State) (sending : Sending) (g own : Lcg) → ChangesNothing state g own (psi5_sent state sending own)
unfolding psi5_sent
late-psi5 state sending g own =
    let times = psi5.times_sent state.setup sending in
    late-changes Psi5State state g own (psi5.message_edges state sending (words (length times) own)) (psi5.behind state sending) (past (length times) own) (ltb (9 * 10 ^ 17) (last_of 0 times))

-- a sync pulse draws no word of its own
sync-changes : (state : Psi5State) (slots : Option SyncSlots) (g : Lcg) → ChangesNothing state g g (psi5.sync_next state slots g)
sync-changes state None g = (refl, refl)
sync-changes state (Some slots) g = late-psi5 state (SyncAt (psi5.next_sync state.setup slots state.before.sync)) g g

-- what doesn't fit, or doesn't come in order, draws nothing
unless-changes : (state : Psi5State) (g own : Lcg) (fits order : Bool) (next : Outcome Psi5State) → ChangesNothing state g own next
    → ChangesNothing state g own (if not fits then Refused fault.Range state g else (if not order then Refused fault.Order state g else next))
unless-changes state g own false order next changes = (refl, refl)
unless-changes state g own true false next changes = (refl, refl)
unless-changes state g own true true next changes = changes

pub changes-psi5 : (state : Psi5State) (m : Message) (g : Lcg) → ChangesNothing state g (past_psi5 m g) (psi5_next state m g)
unfolding psi5_next burst_next
changes-psi5 state (message.Frame frame) g = (refl, refl)
changes-psi5 state (message.Short id value) g = (refl, refl)
changes-psi5 state (message.Enhanced id value wide) g = (refl, refl)
changes-psi5 state (message.Answer code frame) g = (refl, refl)
changes-psi5 state (message.Silent code) g = (refl, refl)
changes-psi5 state message.Sync g = sync-changes state state.slots g
changes-psi5 state (message.Burst slot payload) g =
    let own = behind_word (behind_word g) in
    let frame = psi5.frame_drawn state slot payload g in
    unless-changes state g own (psi5.fits_burst state.setup state.slots slot payload) (psi5.is_in_order state.before slot) (psi5_sent state (FrameAt frame) own) (late-psi5 state (FrameAt frame) g own)
changes-psi5 state (message.Down down) g = (refl, refl)

-- ---- the channel
-- what a link keeps the channel keeps
pub changes-by : {A : Type 0} (link : A → SimState) (state : A) (g own : Lcg) (outcome : Outcome A) → ChangesNothing state g own outcome → ChangesNothing (link state) g own (outcome_by link outcome)
changes-by link state g own (Sent edges behind later) changes = tt
changes-by link state g own (Refused refused behind later) changes = (ap link changes.0, changes.1)
