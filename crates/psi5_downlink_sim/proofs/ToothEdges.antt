-- The edges of rises with their falls, added message by message: they are recorded of their ideal times, and orderly.
--     rise_times       the times of the rises among edges
--     RisesSent        what holds of them
--     first-sent       of the opening and the first rise
--     more-sent        with rises behind the last
use Rattle.std.proofs.Common.{◌≡◌, ℕ, ◌+◌, ◌*◌, ◌^◌, ◌≤◌, Bool, true, false, Option, None, Some, List, [], ◌∷◌, ◌++◌, length, map, flat_map, sum, refl, ap, sym, subst, ◌∙◌, add-zero, if◌then◌else◌, arith}
use Rattle.std.proofs.lemmas.List.{length-append}
use Rattle.std.proofs.lemmas.List.Sums.{sum_by-append}
use Rattle.line_base.specs.declared.edge.Edge.{Edge}
use Rattle.line_base.specs.Orderly.{IsOrderlyFrom, levels_with}
use Rattle.psi5_downlink.specs.Rises.{Rise}
use Rattle.link_tolerance.specs.Pulses.{falls_behind}
use Rattle.link_tolerance.specs.Recorded.{AreRecorded}
use Rattle.receiver_core.specs.ToothReports.{rise_at}
use Rattle.receiver_core.specs.Traces.{numbered}
use Rattle.sim_base.specs.Recordings.{edge_at, pulses_at, recorded_at, recorded_by, rises_with_falls}
use Rattle.sim_base.proofs.PulseEdges.{IsBehind, LeaveRoom, pulses-last, pulses-level, pulses-orderly, length-edges, level-here, spaced}
use Rattle.sim_base.proofs.OrderlyEdges.{IsSoFar, has-line, last_time, levels_behind, more_so_far, none_so_far}
use Rattle.sim_base.proofs.RecordedTimes.{are_recorded, falls-append, length-falls, length-recorded, recorded-append, recorded-near}

-- ---- what is heard
-- the times of the rises among these edges
abbrev pub rise_times : List Edge → List ℕ
rise_times [] = []
rise_times (edge ∷ edges) = if edge.level then edge.time ∷ rise_times edges else rise_times edges

pub times-append : (edges more : List Edge) → rise_times (edges ++ more) ≡ rise_times edges ++ rise_times more
times-append [] more = refl
times-append (edge ∷ edges) more =
    elim edge.level as (λ b. (if b then edge.time ∷ rise_times (edges ++ more) else rise_times (edges ++ more)) ≡ (if b then edge.time ∷ rise_times edges else rise_times edges) ++ rise_times more)
    [ true ↦ ap (λ l. edge.time ∷ l) (times-append edges more) | false ↦ times-append edges more ]

pub times-heard : (line high : ℕ) (times : List ℕ) → rise_times (rises_with_falls line high times) ≡ times
unfolding pulses_at
times-heard line high [] = refl
times-heard line high (rise ∷ times) = ap (λ l. rise ∷ l) (times-heard line high times)

-- whatever numbers they have
pub rises-heard : (number : ℕ) (edges : List Edge) → map (λ (rise : Rise). rise.time) (flat_map rise_at (numbered number edges)) ≡ rise_times edges
unfolding numbered
rises-heard number [] = refl
rises-heard number (edge ∷ edges) =
    elim edge.level as (λ b. map (λ (rise : Rise). rise.time) ((if b then record { number = number; time = edge.time } ∷ [] else []) ++ flat_map rise_at (numbered (number + 1) edges)) ≡ (if b then edge.time ∷ rise_times edges else rise_times edges))
    [ true ↦ ap (λ l. edge.time ∷ l) (rises-heard (number + 1) edges) | false ↦ rises-heard (number + 1) edges ]

-- ---- the edges
-- the edges so far are those of rises behind the first, one at the end of each of intervals of these lengths, the last of which is ideal at this time
pub record RisesSent (line jitter high first last : ℕ) (lengths : List ℕ) (edges : List Edge) : Type 0 where
  pub later : List Edge
  pub edges_are : edges ≡ edge_at line 0 false ∷ later
  pub recorded : AreRecorded jitter (first ∷ falls_behind first lengths) (rise_times later)
  pub last_is : last ≡ first + sum lengths
  pub time : ℕ
  pub levels : ℕ → Option Bool
  pub so_far : IsSoFar (line ∷ []) edges time levels
  pub low : levels line ≡ Some false
  pub behind : IsBehind jitter high last time
  pub few : 1000000 * length edges ≤ last

module _ (line jitter high : ℕ) (some : 1 ≤ jitter) (short : jitter + high ≤ 10 ^ 13) where
  -- the opening and the first rise
  pub first-sent : (first word : ℕ) → 3000000 ≤ first → 1000 * jitter ≤ first → first ≤ 9 * 10 ^ 17
      → RisesSent line jitter high first first [] (edge_at line 0 false ∷ rises_with_falls line high (recorded_at jitter first word ∷ []))
  unfolding pulses_at falls_behind IsOrderlyFrom
  first-sent first word late room in_time =
      let time = recorded_at jitter first word in
      let near = recorded-near jitter first word some in
      let opened = levels_with (λ _. None) line false in
      let edges = edge_at line 0 false ∷ rises_with_falls line high (time ∷ []) in
      let opens = level-here (λ _. None) line false in
      let orderly = pulses-orderly (line ∷ []) line true high (has-line line) 1 0 opened (time ∷ []) opens (omega arith) (omega arith, omega arith, tt) in
      record {
        later = rises_with_falls line high (time ∷ []);
        edges_are = refl;
        recorded = (near, tt);
        last_is = sym (add-zero first);
        time = last_time 0 edges;
        levels = levels_behind (λ _. None) edges;
        so_far = more_so_far (line ∷ []) [] edges 0 (λ _. None) (none_so_far (line ∷ []))
            (record { on_a_line = has-line line; numbered = omega arith; not_earlier = omega arith; in_range = omega arith; alternates = tt }, orderly);
        low = pulses-level line true high opened (time ∷ []) opens;
        behind = record { not_late = omega arith };
        few = omega arith;
      }

  -- rises behind the last
  pub more-sent : (first last : ℕ) (lengths : List ℕ) (edges : List Edge) → RisesSent line jitter high first last lengths edges → (more words : List ℕ) → LeaveRoom jitter high more
      → length more * 2000000 ≤ sum more → length words ≡ length more → last + sum more ≤ 9 * 10 ^ 17
      → RisesSent line jitter high first (last + sum more) (lengths ++ more) (edges ++ rises_with_falls line high (recorded_by jitter (falls_behind last more) words))
  more-sent first last lengths edges sent more words room long as_many in_time =
      let times = recorded_by jitter (falls_behind last more) words in
      let enough : length words ≡ length (falls_behind last more) = as_many ∙ sym (length-falls last more) in
      let recorded : AreRecorded jitter (falls_behind last more) times = are_recorded jitter (falls_behind last more) words some enough in
      let count : length times ≡ length more = length-recorded jitter (falls_behind last more) words enough ∙ length-falls last more in
      let whole : first ∷ falls_behind first (lengths ++ more) ≡ (first ∷ falls_behind first lengths) ++ falls_behind last more =
      ap (λ l. first ∷ l) (falls-append first lengths more ∙ ap (λ t. falls_behind first lengths ++ falls_behind t more) (sym sent.last_is)) in
      let heard : rise_times (sent.later ++ rises_with_falls line high times) ≡ rise_times sent.later ++ times =
      times-append sent.later (rises_with_falls line high times) ∙ ap (λ l. rise_times sent.later ++ l) (times-heard line high times) in
      let sums : sum (lengths ++ more) ≡ sum lengths + sum more = sum_by-append (λ n. n) lengths more in
      let longer : length (edges ++ rises_with_falls line high times) ≡ length edges + 2 * length more =
      length-append edges (rises_with_falls line high times) ∙ ap (λ n. length edges + n) (length-edges line true high times ∙ ap (λ n. 2 * n) count) in
      let apart = spaced jitter high sent.time last more times room recorded sent.behind in_time short in
      let orderly = pulses-orderly (line ∷ []) line true high (has-line line) (length edges) sent.time sent.levels times sent.low (omega (arith, count, sent.few)) apart in
      record {
        later = sent.later ++ rises_with_falls line high times;
        edges_are = ap (λ l. l ++ rises_with_falls line high times) sent.edges_are;
        recorded = subst (λ l. AreRecorded jitter l (rise_times (sent.later ++ rises_with_falls line high times))) (sym whole)
            (subst (λ l. AreRecorded jitter ((first ∷ falls_behind first lengths) ++ falls_behind last more) l) (sym heard)
            (recorded-append jitter (first ∷ falls_behind first lengths) (falls_behind last more) (rise_times sent.later) times sent.recorded recorded));
        last_is = omega (arith, sums, sent.last_is);
        time = last_time sent.time (rises_with_falls line high times);
        levels = levels_behind sent.levels (rises_with_falls line high times);
        so_far = more_so_far (line ∷ []) edges (rises_with_falls line high times) sent.time sent.levels sent.so_far orderly;
        low = pulses-level line true high sent.levels times sent.low;
        behind = pulses-last line true jitter high sent.time last more times recorded sent.behind;
        few = omega (arith, longer, sent.few);
      }
