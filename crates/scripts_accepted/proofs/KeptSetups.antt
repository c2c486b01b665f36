-- A simulator keeps its setup, link by link.
--     IsSentOf, IsPsi5Of, IsSpcOf, IsToothOf
--     sent-kept, psi5-kept, spc-kept, tooth-kept     what each message leaves
use Rattle.std.proofs.Common.{◌≡◌, ℕ, ◌*◌, ◌^◌, Bool, true, false, not, Option, None, Some, List, [], length, if◌then◌else◌, ltb, eqb}
use Rattle.rand_pcg.specs.Lcg.{Lcg}
use Rattle.psi5_downlink.specs.declared.down.Down.{Down}
use Rattle.psi5_downlink.specs.Setup as downlink
use Rattle.psi5_frame.specs.Setup as psi5_frame
use Rattle.psi5_tolerance.specs.Trains.{Sending, SyncAt, FrameAt}
use Rattle.sent_frame.specs.Setup as sent_frame
use Rattle.sent_tolerance.specs.Trains as sent_trains
use Rattle.sent_serial.specs.declared.step.SerialStep.TheVariants as step
use Rattle.sent_serial.specs.SentStatuses.{statuses_sent}
use Rattle.spc_link.specs.Setup as spc_link
use Rattle.spc_tolerance.specs.Trains.{Transaction, Answered, Unanswered, ends_at, last_of}
use Rattle.receiver_core.specs.declared.message.Message.{Message}
use Rattle.receiver_core.specs.declared.message.Message.TheVariants as message
use Rattle.receiver_core.specs.declared.setup.Serial.{Serial}
use Rattle.receiver_core.specs.declared.setup.SyncSlots.{SyncSlots}
use Rattle.sim_base.specs.Outcomes.{Outcome, Sent, Refused}
use Rattle.sim_base.specs.declared.sim_fault.SimFault.TheVariants as fault
use Rattle.sim_base.specs.Wobbles.{behind_word, past, word, words}
use Rattle.sent_sim.specs.SentSims as sent
use Rattle.sent_sim.specs.SentSims.{begun, falls_sent, frame_next, sent_next}
use Rattle.sent_sim.specs.SentStates.{SentState}
use Rattle.psi5_sim.specs.Psi5Sims as psi5
use Rattle.psi5_sim.specs.Psi5Sims.{burst_next, edges_sent as psi5_sent, psi5_next}
use Rattle.psi5_sim.specs.Psi5States.{Psi5State}
use Rattle.spc_sim.specs.SpcSims as spc
use Rattle.spc_sim.specs.SpcSims.{answer_next, edges_sent as spc_sent, silent_next, spc_next}
use Rattle.spc_sim.specs.SpcStates.{SpcState}
use Rattle.psi5_downlink_sim.specs.ToothSims as tooth
use Rattle.psi5_downlink_sim.specs.ToothSims.{down_next, rises_sent, tooth_next}
use Rattle.psi5_downlink_sim.specs.ToothStates.{ToothState}
use Rattle.scripts_accepted.proofs.Outcomes.{Leaves, fits-leaves, late-leaves}

-- ---- SENT
-- the simulator is one of this setup with these serial messages
abbrev pub IsSentOf : sent_frame.Settings → Serial → SentState → Type 0
IsSentOf s form state = (state.setup ≡ s) × (state.serial ≡ form)

module _ (s : sent_frame.Settings) (form : Serial) (state : SentState) (g : Lcg) (is : IsSentOf s form state) where
  -- a frame leaves it so
  falls-kept : (f : sent_trains.Sending) (own : Lcg) → Leaves (IsSentOf s form) (falls_sent state f own)
  unfolding falls_sent
  falls-kept f own =
      let count = length (sent.ideal_of state.setup state.last f) in
      late-leaves SentState (IsSentOf s form) state (sent.behind_frame state f) (sent.frame_edges state f (words count own)) own (past count own) (ltb (9 * 10 ^ 17) (sent.ends_at state.setup state.last f)) is

  -- a serial message leaves it so, by whether it is of the form, fits and comes in order
  serial-kept : (statuses : List ℕ) (kind fits order : Bool)
      → Leaves (IsSentOf s form) (if kind then (if fits then (if order then Sent [] (record state { left = statuses }) g else Refused fault.Order state g) else Refused fault.Range state g) else Refused fault.Kind state g)
  serial-kept statuses false fits order = tt
  serial-kept statuses true false order = tt
  serial-kept statuses true true false = tt
  serial-kept statuses true true true = is

  -- each message leaves it so
  pub sent-kept : (m : Message) → Leaves (IsSentOf s form) (sent_next state m g)
  unfolding sent_next frame_next begun
  sent-kept (message.Frame frame) =
      fits-leaves (IsSentOf s form) fault.Range state g (frame_next state frame g) (sent.fits_frame state.setup state.serial frame)
      (falls-kept (sent.frame_sent state.setup state.tick (sent.completed state.left frame) (sent.frame_words state.setup g)) (sent.past_frame state.setup g))
  sent-kept (message.Short id value) = serial-kept (statuses_sent (step.Short id value)) (sent.are_short state.serial) (sent.fits_short id value) (eqb (length state.left) 0)
  sent-kept (message.Enhanced id value wide) = serial-kept (statuses_sent (step.Enhanced id value wide)) (sent.are_enhanced state.serial) (sent.fits_enhanced id value wide) (eqb (length state.left) 0)
  sent-kept (message.Answer code frame) = tt
  sent-kept (message.Silent code) = tt
  sent-kept message.Sync = tt
  sent-kept (message.Burst slot payload) = tt
  sent-kept (message.Down down) = tt

-- ---- SPC
-- the simulator is one of this setup
abbrev pub IsSpcOf : spc_link.Settings → SpcState → Type 0
IsSpcOf s state = state.setup ≡ s

module _ (s : spc_link.Settings) (state : SpcState) (g : Lcg) (is : IsSpcOf s state) where
  -- a transaction leaves it so
  edges-kept : (t : Transaction) (own : Lcg) → Leaves (IsSpcOf s) (spc_sent state t own)
  unfolding spc_sent
  edges-kept t own =
      let count = length (spc.falls_in state.setup t) in
      let drawn = behind_word (behind_word own) in
      late-leaves SpcState (IsSpcOf s) state (spc.behind_transaction state t) (spc.transaction_edges state t (word own) (word (behind_word own)) (words count drawn)) own (past count drawn) (ltb (9 * 10 ^ 17) (ends_at state.setup t)) is

  -- each message leaves it so
  pub spc-kept : (m : Message) → Leaves (IsSpcOf s) (spc_next state m g)
  unfolding spc_next answer_next silent_next
  spc-kept (message.Frame frame) = tt
  spc-kept (message.Short id value) = tt
  spc-kept (message.Enhanced id value wide) = tt
  spc-kept (message.Answer code frame) =
      let own = spc.past_answer state.setup (spc.past_trigger g) in
      let trigger = spc.next_sent state code g in
      fits-leaves (IsSpcOf s) fault.Range state g (answer_next state code frame g) (spc.fits_answer state.setup code frame)
      (edges-kept (Answered trigger (spc.answer_sent state.setup trigger frame (spc.trigger_words g).tick (spc.answer_words state.setup (spc.past_trigger g)))) own)
  spc-kept (message.Silent code) =
      fits-leaves (IsSpcOf s) fault.Range state g (silent_next state code g) (spc.fits_code state.setup code) (edges-kept (Unanswered (spc.next_sent state code g)) (spc.past_trigger g))
  spc-kept message.Sync = tt
  spc-kept (message.Burst slot payload) = tt
  spc-kept (message.Down down) = tt

-- ---- tooth gap
-- the simulator is one of this setup
abbrev pub IsToothOf : downlink.Settings → ToothState → Type 0
IsToothOf s state = state.setup ≡ s

module _ (s : downlink.Settings) (state : ToothState) (g : Lcg) (is : IsToothOf s state) where
  -- a frame leaves it so
  rises-kept : (down : Down) (period missing : ℕ) (own : Lcg) → Leaves (IsToothOf s) (rises_sent state down period missing own)
  unfolding rises_sent
  rises-kept down period missing own =
      let end = tooth.ends_at state.setup state.last down period missing in
      let count = length (tooth.ideal_of state.setup state.last down period missing) in
      late-leaves ToothState (IsToothOf s) state (record state { last = Some end }) (tooth.message_edges state down period missing (words count own)) own (past count own) (ltb (9 * 10 ^ 17) end) is

  -- each message leaves it so
  pub tooth-kept : (m : Message) → Leaves (IsToothOf s) (tooth_next state m g)
  unfolding tooth_next down_next
  tooth-kept (message.Frame frame) = tt
  tooth-kept (message.Short id value) = tt
  tooth-kept (message.Enhanced id value wide) = tt
  tooth-kept (message.Answer code frame) = tt
  tooth-kept (message.Silent code) = tt
  tooth-kept message.Sync = tt
  tooth-kept (message.Burst slot payload) = tt
  tooth-kept (message.Down down) =
      fits-leaves (IsToothOf s) fault.Range state g (down_next state down g) (tooth.fits_down state.setup.form down)
      (rises-kept down (tooth.period_drawn state.setup.period (tooth.tooth_words g).period) (tooth.missing_drawn (tooth.tooth_words g).gap) (tooth.past_words g))

-- ---- PSI5
-- the simulator is one of this setup with these slots
abbrev pub IsPsi5Of : psi5_frame.Settings → Option SyncSlots → Psi5State → Type 0
IsPsi5Of s slots state = (state.setup ≡ s) × (state.slots ≡ slots)

module _ (s : psi5_frame.Settings) (slots : Option SyncSlots) (state : Psi5State) (g : Lcg) (is : IsPsi5Of s slots state) where
  -- a sync pulse or a frame leaves it so
  times-kept : (sending : Sending) (own : Lcg) → Leaves (IsPsi5Of s slots) (psi5_sent state sending own)
  unfolding psi5_sent
  times-kept sending own =
      let times = psi5.times_sent state.setup sending in
      late-leaves Psi5State (IsPsi5Of s slots) state (psi5.behind state sending) (psi5.message_edges state sending (words (length times) own)) own (past (length times) own) (ltb (9 * 10 ^ 17) (last_of 0 times)) is

  -- a sync pulse leaves it so, by whether there are slots
  sync-kept : (has : Option SyncSlots) → Leaves (IsPsi5Of s slots) (psi5.sync_next state has g)
  sync-kept None = tt
  sync-kept (Some has) = times-kept (SyncAt (psi5.next_sync state.setup has state.before.sync)) g

  -- a burst leaves it so, by whether it fits and comes in order
  unless-kept : (fits order : Bool) (next : Outcome Psi5State) → Leaves (IsPsi5Of s slots) next → Leaves (IsPsi5Of s slots) (if not fits then Refused fault.Range state g else (if not order then Refused fault.Order state g else next))
  unless-kept false order next leaves = tt
  unless-kept true false next leaves = tt
  unless-kept true true next leaves = leaves

  -- each message leaves it so
  pub psi5-kept : (m : Message) → Leaves (IsPsi5Of s slots) (psi5_next state m g)
  unfolding psi5_next burst_next
  psi5-kept (message.Frame frame) = tt
  psi5-kept (message.Short id value) = tt
  psi5-kept (message.Enhanced id value wide) = tt
  psi5-kept (message.Answer code frame) = tt
  psi5-kept (message.Silent code) = tt
  psi5-kept message.Sync = sync-kept state.slots
  psi5-kept (message.Burst slot payload) =
      let own = behind_word (behind_word g) in
      let frame = psi5.frame_drawn state slot payload g in
      unless-kept (psi5.fits_burst state.setup state.slots slot payload) (psi5.is_in_order state.before slot) (psi5_sent state (FrameAt frame) own) (times-kept (FrameAt frame) own)
  psi5-kept (message.Down down) = tt
