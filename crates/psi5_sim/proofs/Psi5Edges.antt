-- The edges of a channel so far, and those of one message more: orderly, and recorded of what was sent.
--     Bounds, bounds-of            what holds of the numbers of a setup
--     reach, FramesEnd             until when the lines are in use, and where frames end
--     Opened, first-opened         lines that are opened
--     sync-opened, frame-opened    and one message more
use Rattle.std.proofs.Common.{◌≡◌, ℕ, suc, ◌+◌, ◌*◌, ◌^◌, ◌<◌, ◌≤◌, ◌⊎◌, min, max, Bool, true, false, not, Option, None, Some, List, [], ◌∷◌, ◌++◌, length, map, refl, ap, subst, sym, ◌∙◌, if◌then◌else◌, eqb, inl, inr, arith}
use Rattle.std.specs.Prelude.{◌||◌, nat_eq, nat_lt}
use Rattle.std.specs.List.{Contains}
use Rattle.std.specs.Option.{unwrap_or}
use Rattle.std.proofs.lemmas.Bool.{eq-eqb, ne_eqb, false≢true}
use Rattle.std.proofs.lemmas.Bool.Decides.{nat_tests}
use Rattle.std.proofs.lemmas.List.{length-append, length-map}
use Rattle.std.proofs.lemmas.Nat.{mul-le}
use Rattle.line_base.specs.declared.edge.Edge.{Edge}
use Rattle.line_base.specs.declared.edge.Span.{Span}
use Rattle.line_base.specs.declared.faults.SetupFault.TheVariants as fault
use Rattle.line_base.specs.Orderly.{IsOrderlyFrom, levels_with}
use Rattle.psi5_frame.specs.Setup.{Settings, are_refused, bit_count, fault_of, payload_width, check_width}
use Rattle.psi5_frame.specs.declared.setup.Check.{Check}
use Rattle.psi5_frame.specs.declared.setup.Check.TheVariants as check
use Rattle.psi5_frame.specs.Frames.{frame_of, waveform}
use Rattle.psi5_slots.specs.Meanings.{window_at}
use Rattle.psi5_tolerance.specs.Trains.{FrameSent, Sending, SyncAt, FrameAt, SentBefore, end_of, nothing_sent, sent_with}
use Rattle.receiver_core.specs.declared.setup.SyncSlots.{SyncSlots}
use Rattle.link_tolerance.specs.Recorded.{AreRecorded, IsRecorded}
use Rattle.sim_base.specs.Recordings.{edge_at, pulses_at, recorded_by, rises_with_falls}
use Rattle.sim_base.proofs.OrderlyEdges.{IsSoFar, has-line, last_time, levels_behind, more_so_far, none_so_far}
use Rattle.sim_base.proofs.PulseEdges.{level-here, pulses-level, pulses-orderly, pulses-other}
use Rattle.sim_base.proofs.RecordedTimes.{are_recorded, length-recorded}
use Rattle.psi5_sim.specs.Psi5Sims.{alternating, openings, times_sent}
use Rattle.psi5_sim.specs.Psi5States.{lines_of}
use Rattle.psi5_sim.proofs.AlternatingEdges.{alternating-level, alternating-orderly, alternating-other, length-alternating, toggled-length, toggled}
use Rattle.psi5_sim.proofs.BurstTimes.{time_at}
use Rattle.psi5_sim.proofs.FramePlaces.{AreWithin, frame-toggled, frame-within, places-last, places-orderly, within-count}
use Rattle.psi5_sim.proofs.Psi5Lines.{LinesSent, lines-opened, lines-push, new-frame, new-sync}
use Rattle.psi5_sim.proofs.Psi5Outcomes.{frame-times}
use Rattle.psi5_sim.proofs.Psi5Setups.{AreTwoLines}

-- ---- the setup
pub record Bounds (s : Settings) : Type 0 where
  pub bit_low : 5300 ≤ s.bit
  pub bit_high : s.bit ≤ 8000
  pub jitter_low : 1 ≤ s.jitter
  pub jitter_high : 16 * s.jitter ≤ s.bit
  pub count : bit_count s ≤ 33

by_tests : (a b c : Bool) → (if a then Some fault.Bit else (if b then Some fault.Parts else (if c then Some fault.Jitter else None))) ≡ None → (a ≡ false) × (b ≡ false) × (c ≡ false)
by_tests true b c e = absurd cc
by_tests false true c e = absurd cc
by_tests false false true e = absurd cc
by_tests false false false e = (refl, refl, refl)

few-checks : (c : Check) → check_width c ≤ 3
few-checks check.Parity = omega arith
few-checks check.Crc = omega arith

last-of-or : (a b : Bool) → (a || b) ≡ false → b ≡ false
last-of-or true b e = absurd cc
last-of-or false b e = e

pub bounds-of : (s : Settings) → fault_of s.bit s.parts s.jitter ≡ None → Bounds s
bounds-of s accepted =
    let tests = by_tests (not (nat_eq s.bit 8000 || nat_eq s.bit 5300)) (are_refused s.parts) (nat_lt s.jitter 1 || nat_lt s.bit (16 * s.jitter)) accepted in
    let bit = tests.0 in
    let jitter = tests.2 in
    let wide : nat_lt 28 (payload_width s.parts) ≡ false = last-of-or _ (nat_lt 28 (payload_width s.parts)) tests.1 in
    let few : payload_width s.parts ≤ 28 = grind (arith, nat_tests, wide) in
    let checks = few-checks s.check in
    record {
      bit_low = grind (arith, nat_tests, bit);
      bit_high = grind (arith, nat_tests, bit);
      jitter_low = grind (arith, nat_tests, jitter);
      jitter_high = grind (arith, nat_tests, jitter);
      count = omega (arith, few, checks);
    }

-- ---- until when the lines are in use, in ps
-- until two bit times behind a sync pulse, or until the end of a frame behind it
abbrev pub reach_behind : Settings → Option ℕ → Option ℕ → ℕ → ℕ
reach_behind s None slot end = 0
reach_behind s (Some sync) None end = sync + 2000 * s.bit
reach_behind s (Some sync) (Some number) end = end

abbrev pub reach : Settings → Option SyncSlots → SentBefore → ℕ
reach s None before = unwrap_or before.frame_end 0
reach s (Some slots) before = reach_behind s before.sync before.slot (unwrap_or before.frame_end 0)

-- the last frame ends before the last sync pulse, or little behind the window of its slot
abbrev pub EndsIn : Settings → List Span → Option ℕ → Option ℕ → ℕ → Type 0
EndsIn s windows None slot end = end ≤ 0
EndsIn s windows (Some sync) None end = end ≤ sync
EndsIn s windows (Some sync) (Some number) end = (number < length windows) × (end + 525 * s.bit + 2000 * s.jitter ≤ sync + 1000 * (window_at windows number).high + 1050 * (bit_count s * s.bit))

abbrev pub FramesEnd : Settings → Option SyncSlots → SentBefore → Type 0
FramesEnd s None before = Unit {0}
FramesEnd s (Some slots) before = EndsIn s slots.setup.windows before.sync before.slot (unwrap_or before.frame_end 0)

-- the sync line, if there is one, is low
abbrev pub SyncLow : Option SyncSlots → (ℕ → Option Bool) → Type 0
SyncLow None levels = Unit {0}
SyncLow (Some slots) levels = levels slots.line ≡ Some false

-- lines that are opened, and what was sent on them
pub record Opened (line : ℕ) (s : Settings) (slots : Option SyncSlots) (before : SentBefore) (train : List Sending) (edges : List Edge) : Type 0 where
  pub time : ℕ
  pub levels : ℕ → Option Bool
  pub so_far : IsSoFar (lines_of line slots) edges time levels
  pub low : levels line ≡ Some false
  pub sync_low : SyncLow slots levels
  pub lines : LinesSent line s slots train edges
  pub in_time : 1000 * time ≤ reach s slots before + 1000 * s.jitter
  pub ends : FramesEnd s slots before
  pub few : 1000000 * length edges ≤ reach s slots before + 2000000

-- ---- openings
either : (b c : Bool) → c ≡ true → (if b then Some false else (if c then Some false else None)) ≡ Some false
either true c is = refl
either false c is = rw is refl

-- the levels behind two openings
abbrev opened_levels : ℕ → ℕ → ℕ → Option Bool
opened_levels first second = levels_with (levels_with (λ _. None) first false) second false

two-orderly : (lines : List ℕ) (first second : ℕ) → Contains lines first → Contains lines second → eqb second first ≡ false → IsSoFar lines (edge_at first 0 false ∷ edge_at second 0 false ∷ []) 0 (opened_levels first second)
unfolding IsOrderlyFrom
two-orderly lines first second has_first has_second differ =
    more_so_far lines [] (edge_at first 0 false ∷ edge_at second 0 false ∷ []) 0 (λ _. None) (none_so_far lines) (
      record { on_a_line = has_first; numbered = omega arith; not_earlier = omega arith; in_range = omega arith; alternates = tt },
      (record { on_a_line = has_second; numbered = omega arith; not_earlier = omega arith; in_range = omega arith; alternates = rw differ tt }, tt),
    )

first-level : (first second : ℕ) → opened_levels first second first ≡ Some false
first-level first second = either (eqb first second) (eqb first first) (eq-eqb first first refl)

second-level : (first second : ℕ) → opened_levels first second second ≡ Some false
second-level first second = ap (λ (b : Bool). if b then Some false else (if eqb second first then Some false else None)) (eq-eqb second second refl)

pub has-first : (a b : ℕ) → Contains (a ∷ b ∷ []) a
has-first a b = (0, omega arith, refl)

pub has-second : (a b : ℕ) → Contains (a ∷ b ∷ []) b
has-second a b = (1, omega arith, refl)

record TwoOpened (line : ℕ) (slots : SyncSlots) (first second : ℕ) : Type 0 where
  pub so_far : IsSoFar (line ∷ slots.line ∷ []) (edge_at first 0 false ∷ edge_at second 0 false ∷ []) 0 (opened_levels first second)
  pub low : opened_levels first second line ≡ Some false
  pub sync_low : opened_levels first second slots.line ≡ Some false

le_cases : (a b : ℕ) → (a ≤ b) ⊎ (b ≤ a)
le_cases a b = grind arith

two-opened : (line : ℕ) (slots : SyncSlots) → nat_eq slots.line line ≡ false → (line ≤ slots.line) ⊎ (slots.line ≤ line) → TwoOpened line slots (min line slots.line) (max line slots.line)
two-opened line slots differ (inl le) =
    let first : line ≡ min line slots.line = omega arith in
    let second : slots.line ≡ max line slots.line = omega arith in
    subst (λ a. TwoOpened line slots a (max line slots.line)) first (subst (λ b. TwoOpened line slots line b) second (record {
      so_far = two-orderly (line ∷ slots.line ∷ []) line slots.line (has-first line slots.line) (has-second line slots.line) differ;
      low = first-level line slots.line;
      sync_low = second-level line slots.line;
    }))
two-opened line slots differ (inr le) =
    let first : slots.line ≡ min line slots.line = omega arith in
    let second : line ≡ max line slots.line = omega arith in
    let other : eqb line slots.line ≡ false = ne_eqb line slots.line (λ same. false≢true (sym differ ∙ eq-eqb slots.line line (sym same))) in
    subst (λ a. TwoOpened line slots a (max line slots.line)) first (subst (λ b. TwoOpened line slots slots.line b) second (record {
      so_far = two-orderly (line ∷ slots.line ∷ []) slots.line line (has-second line slots.line) (has-first line slots.line) other;
      low = second-level slots.line line;
      sync_low = first-level slots.line line;
    }))

pub first-opened : (line : ℕ) (s : Settings) (slots : Option SyncSlots) → AreTwoLines line slots → Opened line s slots nothing_sent [] (openings line slots None None)
unfolding IsOrderlyFrom
first-opened line s None two = record {
  time = 0;
  levels = levels_with (λ _. None) line false;
  so_far = more_so_far (line ∷ []) [] (edge_at line 0 false ∷ []) 0 (λ _. None) (none_so_far (line ∷ []))
      (record { on_a_line = has-line line; numbered = omega arith; not_earlier = omega arith; in_range = omega arith; alternates = tt }, tt);
  low = level-here (λ _. None) line false;
  sync_low = tt;
  lines = lines-opened line s None two;
  in_time = omega arith;
  ends = tt;
  few = omega arith;
}
first-opened line s (Some slots) two =
    let opened = two-opened line slots two (le_cases line slots.line) in
    record {
      time = 0;
      levels = opened_levels (min line slots.line) (max line slots.line);
      so_far = opened.so_far;
      low = opened.low;
      sync_low = opened.sync_low;
      lines = lines-opened line s (Some slots) two;
      in_time = omega arith;
      ends = omega arith;
      few = omega arith;
    }

-- ---- a sync pulse more
pub sync-opened : (line : ℕ) (s : Settings) (slots : SyncSlots) (before : SentBefore) (train : List Sending) (edges : List Edge) (rise time : ℕ) → Bounds s → AreTwoLines line (Some slots)
    → (now : Opened line s (Some slots) before train edges) → reach s (Some slots) before + 2000 * s.jitter ≤ rise → unwrap_or before.frame_end 0 ≤ rise → rise ≤ 9 * 10 ^ 17 → IsRecorded s.jitter rise time
    → Opened line s (Some slots) (sent_with s before (SyncAt rise)) (train ++ SyncAt rise ∷ []) (edges ++ rises_with_falls slots.line (2 * s.bit) (time ∷ []))
unfolding pulses_at
sync-opened line s slots before train edges rise time bounds two now later behind in_time recorded =
    let width = 2 * s.bit in
    let more = rises_with_falls slots.line width (time ∷ []) in
    let lines = line ∷ slots.line ∷ [] in
    let other : eqb line slots.line ≡ false = ne_eqb line slots.line (λ same. false≢true (sym two ∙ eq-eqb slots.line line (sym same))) in
    let after : now.time ≤ time = omega (arith, now.in_time, later, recorded) in
    let short : time + width ≤ 10 ^ 15 = omega (arith, in_time, recorded, bounds) in
    let room : length edges + 2 * 1 ≤ 2 ^ 40 = omega (arith, now.few, later, in_time) in
    let orderly = pulses-orderly lines slots.line true width (has-second line slots.line) (length edges) now.time now.levels (time ∷ []) now.sync_low room (after, short, tt) in
    let lengths = length-append edges more in
    record {
      time = last_time now.time more;
      levels = levels_behind now.levels more;
      so_far = more_so_far lines edges more now.time now.levels now.so_far orderly;
      low = pulses-other slots.line line true width now.levels (time ∷ []) other ∙ now.low;
      sync_low = pulses-level slots.line true width now.levels (time ∷ []) now.sync_low;
      lines = lines-push line s (Some slots) train (SyncAt rise) edges more now.lines (new-sync line s slots rise time (recorded, tt));
      in_time = omega (arith, recorded);
      ends = behind;
      few = omega (arith, now.few, later, lengths, bounds);
    }

-- ---- a frame more
-- a frame comes behind what is in use, and in time
pub record Comes (s : Settings) (slots : Option SyncSlots) (before : SentBefore) (f : FrameSent) : Type 0 where
  pub half_low : 475 * s.bit ≤ f.half
  pub half_high : f.half ≤ 525 * s.bit
  pub behind : reach s slots before ≤ f.start
  pub in_time : f.start ≤ 9 * 10 ^ 17
  pub ends : FramesEnd s slots (sent_with s before (FrameAt f))
  pub reach_is : reach s slots (sent_with s before (FrameAt f)) ≡ end_of s f

-- the sync line keeps its level
keeps-sync : (slots : Option SyncSlots) (line : ℕ) (levels : ℕ → Option Bool) (times : List ℕ) → AreTwoLines line slots → SyncLow slots levels → SyncLow slots (levels_behind levels (alternating line true times))
keeps-sync None line levels times two low = tt
keeps-sync (Some slots) line levels times two low = alternating-other line slots.line true levels times two ∙ low

has-data : (line : ℕ) (slots : Option SyncSlots) → Contains (lines_of line slots) line
has-data line None = has-line line
has-data line (Some slots) = has-first line slots.line

-- how many edges fit into the time of a frame
in_frame : (n half count : ℕ) → 2517500 ≤ half → count ≤ 2 * n → 1000000 * count ≤ 2 * n * half
in_frame n half count long few =
    let least : count * 1000000 ≤ (2 * n) * half = mul-le count 1000000 (2 * n) half few (omega (arith, long)) in
    omega (arith, least)

short_frame : (n half : ℕ) → n ≤ 33 → half ≤ 4200000 → 2 * n * half ≤ 277200000
short_frame n half few short =
    let most : (2 * n) * half ≤ 66 * 4200000 = mul-le (2 * n) half 66 4200000 (omega (arith, few)) short in
    omega (arith, most)

pub frame-opened : (line : ℕ) (s : Settings) (slots : Option SyncSlots) (before : SentBefore) (train : List Sending) (edges : List Edge) (f : FrameSent) (drawn : List ℕ) → Bounds s → AreTwoLines line slots
    → (now : Opened line s slots before train edges) → Comes s slots before f → length drawn ≡ length (times_sent s (FrameAt f))
    → Opened line s slots (sent_with s before (FrameAt f)) (train ++ FrameAt f ∷ []) (edges ++ alternating line true (recorded_by s.jitter (times_sent s (FrameAt f)) drawn))
unfolding times_sent
frame-opened line s slots before train edges f drawn bounds two now comes as_many =
    let n = bit_count s in
    let places = waveform (frame_of s f.payload) in
    let ideals = times_sent s (FrameAt f) in
    let times = recorded_by s.jitter ideals drawn in
    let more = alternating line true times in
    let lines = lines_of line slots in
    let recorded : AreRecorded s.jitter ideals times = are_recorded s.jitter ideals drawn bounds.jitter_low as_many in
    let at_places : AreRecorded s.jitter (map (time_at f.start f.half) places) times = subst (λ l. AreRecorded s.jitter l times) (frame-times s f) recorded in
    let count : length times ≡ length places = length-recorded s.jitter ideals drawn as_many ∙ ap length (frame-times s f) ∙ length-map places (time_at f.start f.half) in
    let within = frame-within s f.payload in
    let within' = subst (λ h. AreWithin 1 h places) (suc-one (2 * n)) within in
    let few : 1 + length places ≤ 2 * n + 1 = within-count 1 (2 * n + 1) places (omega arith) within in
    let few' : length times ≤ 2 * n = omega (arith, few, count) in
    let short : 2 * n * f.half ≤ 277200000 = short_frame n f.half bounds.count (omega (arith, comes.half_high, bounds.bit_high)) in
    let long : 1000000 * length times ≤ 2 * n * f.half = in_frame n f.half (length times) (omega (arith, comes.half_low, bounds.bit_low)) few' in
    let end : f.start + 2 * n * f.half + 1000 * s.jitter ≤ 10 ^ 18 = omega (arith, short, comes.in_time, bounds.bit_high, bounds.jitter_high) in
    let begins : 1000 * now.time ≤ f.start + 0 * f.half + 1000 * s.jitter = omega (arith, now.in_time, comes.behind) in
    let ends : 1000 * now.time ≤ f.start + (2 * n) * f.half + 1000 * s.jitter = omega (arith, now.in_time, comes.behind) in
    let apart = places-orderly s.jitter f.start f.half 0 (2 * n) now.time places times (omega (arith, comes.half_low, bounds.jitter_high)) end within' at_places begins in
    let room : length edges + length times ≤ 2 ^ 40 = omega (arith, now.few, comes.behind, comes.in_time, few', bounds.count) in
    let orderly = alternating-orderly lines line (has-data line slots) true (length edges) now.time now.levels times now.low room apart in
    let last = places-last line true s.jitter f.start f.half 1 (2 * n) now.time places times within' at_places ends in
    let lengths = length-append edges more in
    let lengths' = length-alternating line true times in
    let back : toggled false times ≡ false = toggled-length false times places count ∙ frame-toggled s f.payload in
    record {
      time = last_time now.time more;
      levels = levels_behind now.levels more;
      so_far = more_so_far lines edges more now.time now.levels now.so_far orderly;
      low = alternating-level line false now.levels times now.low ∙ ap (λ b. Some b) back;
      sync_low = keeps-sync slots line now.levels times two now.sync_low;
      lines = lines-push line s slots train (FrameAt f) edges more now.lines (new-frame line s slots f times two recorded count);
      in_time = omega (arith, last, comes.reach_is);
      ends = comes.ends;
      few = omega (arith, now.few, comes.behind, comes.reach_is, long, lengths, lengths');
    }
  where
    suc-one : (k : ℕ) → k + 1 ≡ suc k
    suc-one k = omega arith
