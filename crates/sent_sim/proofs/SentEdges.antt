-- The edges of falls with their rises, added frame by frame: they are recorded of their ideal times, and orderly.
--     FallsSent        what holds of them
--     first-sent       of the opening and the first fall
--     more-sent        with falls behind the last
use Rattle.std.proofs.Common.{◌≡◌, ℕ, ◌+◌, ◌*◌, ◌^◌, ◌≤◌, false, Bool, true, Option, None, Some, List, [], ◌∷◌, ◌++◌, length, sum, refl, ap, sym, subst, ◌∙◌, add-zero, arith}
use Rattle.std.proofs.lemmas.List.{length-append}
use Rattle.std.proofs.lemmas.List.Sums.{sum_by-append}
use Rattle.line_base.specs.declared.edge.Edge.{Edge}
use Rattle.line_base.specs.Orderly.{IsOrderlyFrom, levels_with}
use Rattle.link_tolerance.specs.Pulses.{falls_behind}
use Rattle.link_tolerance.specs.Recorded.{AreRecorded}
use Rattle.sim_base.specs.Recordings.{edge_at, falls_with_rises, pulses_at, recorded_at, recorded_by}
use Rattle.sim_base.proofs.PulseEdges.{IsBehind, LeaveRoom, fall_times, pulses-last, pulses-level, pulses-orderly, length-edges, level-here, spaced, times-append, times-heard}
use Rattle.sim_base.proofs.OrderlyEdges.{IsSoFar, has-line, last_time, levels_behind, more_so_far, none_so_far}
use Rattle.sim_base.proofs.RecordedTimes.{are_recorded, falls-append, length-falls, length-recorded, recorded-append, recorded-near}

-- ---- the edges
-- the edges so far are those of falls behind the first, one at the end of each of these pulses, the last of which is ideal at this time
pub record FallsSent (line jitter low first last : ℕ) (pulses : List ℕ) (edges : List Edge) : Type 0 where
  pub later : List Edge
  pub edges_are : edges ≡ edge_at line 0 true ∷ later
  pub recorded : AreRecorded jitter (first ∷ falls_behind first pulses) (fall_times later)
  pub last_is : last ≡ first + sum pulses
  pub time : ℕ
  pub levels : ℕ → Option Bool
  pub so_far : IsSoFar (line ∷ []) edges time levels
  pub high : levels line ≡ Some true
  pub behind : IsBehind jitter low last time
  pub few : 1000000 * length edges ≤ last

module _ (line jitter low : ℕ) (some : 1 ≤ jitter) (short : jitter + low ≤ 10 ^ 13) where
  -- the opening and the first fall
  pub first-sent : (first word : ℕ) → 3000000 ≤ first → first ≤ 9 * 10 ^ 17
      → FallsSent line jitter low first first [] (edge_at line 0 true ∷ falls_with_rises line low (recorded_at jitter first word ∷ []))
  unfolding pulses_at falls_behind IsOrderlyFrom
  first-sent first word late in_time =
      let time = recorded_at jitter first word in
      let near = recorded-near jitter first word some in
      let opened = levels_with (λ _. None) line true in
      let edges = edge_at line 0 true ∷ falls_with_rises line low (time ∷ []) in
      let opens = level-here (λ _. None) line true in
      let orderly = pulses-orderly (line ∷ []) line false low (has-line line) 1 0 opened (time ∷ []) opens (omega arith) (omega arith, omega arith, tt) in
      record {
        later = falls_with_rises line low (time ∷ []);
        edges_are = refl;
        recorded = (near, tt);
        last_is = sym (add-zero first);
        time = last_time 0 edges;
        levels = levels_behind (λ _. None) edges;
        so_far = more_so_far (line ∷ []) [] edges 0 (λ _. None) (none_so_far (line ∷ []))
            (record { on_a_line = has-line line; numbered = omega arith; not_earlier = omega arith; in_range = omega arith; alternates = tt }, orderly);
        high = pulses-level line false low opened (time ∷ []) opens;
        behind = record { not_late = omega arith };
        few = omega arith;
      }

  -- falls behind the last
  pub more-sent : (first last : ℕ) (pulses : List ℕ) (edges : List Edge) → FallsSent line jitter low first last pulses edges → (more words : List ℕ) → LeaveRoom jitter low more
      → length more * 2000000 ≤ sum more → length words ≡ length more → last + sum more ≤ 9 * 10 ^ 17
      → FallsSent line jitter low first (last + sum more) (pulses ++ more) (edges ++ falls_with_rises line low (recorded_by jitter (falls_behind last more) words))
  more-sent first last pulses edges sent more words room long as_many in_time =
      let times = recorded_by jitter (falls_behind last more) words in
      let enough : length words ≡ length (falls_behind last more) = as_many ∙ sym (length-falls last more) in
      let recorded : AreRecorded jitter (falls_behind last more) times = are_recorded jitter (falls_behind last more) words some enough in
      let count : length times ≡ length more = length-recorded jitter (falls_behind last more) words enough ∙ length-falls last more in
      let whole : first ∷ falls_behind first (pulses ++ more) ≡ (first ∷ falls_behind first pulses) ++ falls_behind last more =
      ap (λ l. first ∷ l) (falls-append first pulses more ∙ ap (λ t. falls_behind first pulses ++ falls_behind t more) (sym sent.last_is)) in
      let heard : fall_times (sent.later ++ falls_with_rises line low times) ≡ fall_times sent.later ++ times =
      times-append sent.later (falls_with_rises line low times) ∙ ap (λ l. fall_times sent.later ++ l) (times-heard line low times) in
      let sums : sum (pulses ++ more) ≡ sum pulses + sum more = sum_by-append (λ n. n) pulses more in
      let lengths : length (edges ++ falls_with_rises line low times) ≡ length edges + 2 * length more =
      length-append edges (falls_with_rises line low times) ∙ ap (λ n. length edges + n) (length-edges line false low times ∙ ap (λ n. 2 * n) count) in
      let apart = spaced jitter low sent.time last more times room recorded sent.behind in_time short in
      let orderly = pulses-orderly (line ∷ []) line false low (has-line line) (length edges) sent.time sent.levels times sent.high (omega (arith, count, sent.few)) apart in
      record {
        later = sent.later ++ falls_with_rises line low times;
        edges_are = ap (λ l. l ++ falls_with_rises line low times) sent.edges_are;
        recorded = subst (λ l. AreRecorded jitter l (fall_times (sent.later ++ falls_with_rises line low times))) (sym whole)
            (subst (λ l. AreRecorded jitter ((first ∷ falls_behind first pulses) ++ falls_behind last more) l) (sym heard)
            (recorded-append jitter (first ∷ falls_behind first pulses) (falls_behind last more) (fall_times sent.later) times sent.recorded recorded));
        last_is = omega (arith, sums, sent.last_is);
        time = last_time sent.time (falls_with_rises line low times);
        levels = levels_behind sent.levels (falls_with_rises line low times);
        so_far = more_so_far (line ∷ []) edges (falls_with_rises line low times) sent.time sent.levels sent.so_far orderly;
        high = pulses-level line false low sent.levels times sent.high;
        behind = pulses-last line false jitter low sent.time last more times recorded sent.behind;
        few = omega (arith, lengths, sent.few);
      }
