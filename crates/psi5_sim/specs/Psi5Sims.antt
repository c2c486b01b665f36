-- What is sent on the lines of a PSI5 channel of a message, by which words of a wobble, and which messages are refused (the frames and the slots: PSI5 V2.1, base standard; the rest is this project's own).
use Rattle.std.specs.Prelude.{ℕ, ◌+◌, ◌-◌, ◌*◌, ◌%◌, ◌^◌, min, max, Bool, true, false, not, ◌&&◌, nat_lt, is_some, Option, None, Some, List, [], ◌∷◌, ◌++◌, length, if◌then◌else◌}
use Rattle.std.specs.Option.{unwrap_or}
use Rattle.rand_pcg.specs.Lcg.{Lcg}
use Rattle.line_base.specs.declared.edge.Edge.{Edge}
use Rattle.line_base.specs.declared.edge.Span.{Span}
use Rattle.psi5_frame.specs.declared.burst.Payload.{Payload}
use Rattle.psi5_frame.specs.declared.setup.Parts.{Parts}
use Rattle.psi5_frame.specs.Setup.{Settings, bit_count}
use Rattle.psi5_slots.specs.Setup.{last_high}
use Rattle.psi5_slots.specs.Meanings.{window_at}
use Rattle.psi5_tolerance.specs.Trains.{FrameSent, Sending, SyncAt, FrameAt, SentBefore, edges_sent as ideal_sent, nothing_sent, sent_with}
use Rattle.psi5_tolerance.specs.Traces.{ideal_times}
use Rattle.spc_tolerance.specs.Trains.{last_of}
use Rattle.receiver_core.specs.declared.message.Message.{Message}
use Rattle.receiver_core.specs.declared.message.Message.TheVariants as message
use Rattle.receiver_core.specs.declared.setup.SyncSlots.{SyncSlots}
use Rattle.sim_base.specs.declared.sim_fault.SimFault.TheVariants as fault
use Rattle.sim_base.specs.Wobbles.{behind_word, past, word, words}
use Rattle.sim_base.specs.Recordings.{edge_at, opening_of, recorded_by, rises_with_falls}
use Rattle.sim_base.specs.Outcomes.{Outcome, Sent, Refused}
use Rattle.psi5_sim.specs.Psi5States.{Psi5State}

-- ---- ideal times, in ps
-- the half-bit of a burst at this nominal bit time in ns, by this word: 95 % to 105 % of half of it
unfoldable pub half_of : ℕ → ℕ → ℕ
half_of bit word = 475 * bit + word % (50 * bit + 1)

-- the start of a burst without slots, behind the end of the frame before or behind 0, by this word: 1.05 to 11.05 nominal bit times later
unfoldable pub free_start : Settings → Option ℕ → ℕ → ℕ
free_start s end word = unwrap_or end 0 + 1050 * s.bit + word % (10000 * s.bit + 1)

-- the first rise of a burst in this window behind a sync pulse, by this word: twice the jitter inside each end
unfoldable pub rise_in : ℕ → Span → ℕ → ℕ → ℕ
rise_in jitter window sync word = sync + 1000 * (window.low + 2 * jitter) + word % (1000 * (window.high - window.low - 4 * jitter) + 1)

-- the start of a burst with this half-bit, in this slot where there are slots: there the first rise comes a half-bit behind it
unfoldable pub start_of : Settings → Option SyncSlots → SentBefore → Option ℕ → ℕ → ℕ → ℕ
start_of s None before slot half word = free_start s before.frame_end word
start_of s (Some slots) before slot half word = rise_in s.jitter (window_at slots.setup.windows (unwrap_or slot 0)) (unwrap_or before.sync 0) word - half

-- the frame of a burst: one word for its half-bit, and then one for its start
unfoldable pub frame_drawn : Psi5State → Option ℕ → Payload → Lcg → FrameSent
frame_drawn state slot payload g = record {
  slot = slot;
  payload = payload;
  start = start_of state.setup state.slots state.before slot (half_of state.setup.bit (word g)) (word (behind_word g));
  half = half_of state.setup.bit (word g);
}

-- the rise of the next sync pulse: two nominal bit times behind 0 for the first, and later than the last one by the end of the last window and the time of a frame and three bits at 105 %
unfoldable pub next_sync : Settings → SyncSlots → Option ℕ → ℕ
next_sync s slots None = 2000 * s.bit
next_sync s slots (Some last) = last + 1000 * last_high 0 slots.setup.windows + 1050 * (bit_count s + 3) * s.bit

-- ---- edges
-- the openings of the lines, low at 0, where nothing was sent on them yet: without slots that of the data line, where no frame has ended; with slots those of both, the lower number first, where no sync pulse was sent
abbrev pub openings : ℕ → Option SyncSlots → Option ℕ → Option ℕ → List Edge
openings line None frame_end sync = opening_of line false frame_end
openings line (Some slots) frame_end sync = opening_of (min line slots.line) false sync ++ opening_of (max line slots.line) false sync

-- edges of this line at these times in ns, the first of them to this level, and each of the others back from the one before
unfoldable pub alternating : ℕ → Bool → List ℕ → List Edge
alternating line level [] = []
alternating line level (time ∷ times) = edge_at line time level ∷ alternating line (not level) times

-- the edges of the sync line, where there is one, for rises at these times: each falls two nominal bit times later
abbrev pub sync_pulses : Settings → Option SyncSlots → List ℕ → List Edge
sync_pulses s None times = []
sync_pulses s (Some slots) times = rises_with_falls slots.line (2 * s.bit) times

-- the edges of a message whose timed edges are recorded at these times
abbrev pub edges_recorded : Psi5State → Sending → List ℕ → List Edge
edges_recorded state (SyncAt time) times = sync_pulses state.setup state.slots times
edges_recorded state (FrameAt f) times = alternating state.line true times

-- the ideal times of a message's timed edges: the rise of a sync pulse, and all edges of a frame
unfoldable pub times_sent : Settings → Sending → List ℕ
times_sent s sending = ideal_times (ideal_sent s sending)

-- the edges of a message, by these words: one for each of its timed edges
unfoldable pub message_edges : Psi5State → Sending → List ℕ → List Edge
message_edges state sending drawn =
    openings state.line state.slots state.before.frame_end state.before.sync ++ edges_recorded state sending (recorded_by state.setup.jitter (times_sent state.setup sending) drawn)

-- ---- what becomes of a message
-- a sender that has sent nothing
abbrev pub started : ℕ → Settings → Option SyncSlots → Psi5State
started line s slots = record { line = line; setup = s; slots = slots; before = nothing_sent }

-- the state behind a message
abbrev pub behind : Psi5State → Sending → Psi5State
behind state sending = record state { before = sent_with state.setup state.before sending }

-- a message is sent, by one word for each of its timed edges, but where the last of these is ideal above 9 * 10^17 ps: then nothing changes, and none of these words is drawn
unfoldable pub edges_sent : Psi5State → Sending → Lcg → Outcome Psi5State
edges_sent state sending g =
    if nat_lt (9 * 10 ^ 17) (last_of 0 (times_sent state.setup sending)) then Refused fault.Late state g
    else Sent (message_edges state sending (words (length (times_sent state.setup sending)) g)) (behind state sending) (past (length (times_sent state.setup sending)) g)

-- what becomes of a sync pulse: it is none of the channel's messages where there are no slots
abbrev pub sync_next : Psi5State → Option SyncSlots → Lcg → Outcome Psi5State
sync_next state None g = Refused fault.Kind state g
sync_next state (Some slots) g = edges_sent state (SyncAt (next_sync state.setup slots state.before.sync)) g

-- each value fits the width of its part
abbrev pub fits_parts : Parts → Payload → Bool
fits_parts parts p = nat_lt p.m (2 ^ parts.m) && nat_lt p.f (2 ^ parts.f) && nat_lt p.s (2 ^ parts.s) && nat_lt p.b (2 ^ parts.b) && nat_lt p.a (2 ^ parts.a)

-- a burst has a slot where there are slots, the number of one of their windows, and else none
abbrev pub fits_slot : Option SyncSlots → Option ℕ → Bool
fits_slot None None = true
fits_slot None (Some slot) = false
fits_slot (Some slots) None = false
fits_slot (Some slots) (Some slot) = nat_lt slot (length slots.setup.windows)

-- a burst fits by its values and its slot
abbrev pub fits_burst : Settings → Option SyncSlots → Option ℕ → Payload → Bool
fits_burst s slots slot payload = fits_parts s.parts payload && fits_slot slots slot

-- a slot is above that of the burst before, if there is one
abbrev pub is_above : Option ℕ → ℕ → Bool
is_above None slot = true
is_above (Some last) slot = nat_lt last slot

-- a burst with a slot comes behind a sync pulse, in a later slot than the burst before since then
abbrev pub is_in_order : SentBefore → Option ℕ → Bool
is_in_order before None = true
is_in_order before (Some slot) = is_some before.sync && is_above before.slot slot

-- what becomes of a burst: its values and its slot have to fit, and it has to come in order; then two words are drawn for its frame
unfoldable pub burst_next : Psi5State → Option ℕ → Payload → Lcg → Outcome Psi5State
burst_next state slot payload g =
    if not (fits_burst state.setup state.slots slot payload) then Refused fault.Range state g
    else (if not (is_in_order state.before slot) then Refused fault.Order state g
    else edges_sent state (FrameAt (frame_drawn state slot payload g)) (behind_word (behind_word g)))

-- what becomes of a message: first it has to be one of this channel, then its values have to fit, then it has to come in order, and then in time
unfoldable pub psi5_next : Psi5State → Message → Lcg → Outcome Psi5State
psi5_next state message.Sync g = sync_next state state.slots g
psi5_next state (message.Burst slot payload) g = burst_next state slot payload g
psi5_next state other g = Refused fault.Kind state g
