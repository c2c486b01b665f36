-- What the first violation by an edge of a burst means, and what it means that there is none.
--     first_wrong      an edge after the first violates a rule
--     are_right        none does
--     is_reached, not_reached      an edge is at a place, or none is
use Rattle.std.proofs.Common.{◌≡◌, ◌≢◌, ℕ, ◌+◌, ◌*◌, ◌%◌, ◌<◌, ◌⊎◌, Bool, true, false, ◌&&◌, ◌||◌, not, nat_eq, nat_lt, if◌then◌else◌, Option, None, Some, List, [], ◌∷◌, ◌++◌, refl, sym, ◌∙◌, ap, ap₂, subst, inl, inr, arith}
use Rattle.std.proofs.lemmas.Bool.Decides.{nat_tests}
use Rattle.std.proofs.lemmas.Bool.{eq-eqb, eqb-true}
use Rattle.line_base.specs.declared.rule.Rule.{Rule}
use Rattle.line_base.specs.declared.rule.Rule.TheVariants as rule
use Rattle.link_math.specs.declared.manchester.Halves.{Halves}
use Rattle.link_math.specs.declared.manchester.Halves.TheVariants.{Short, One, Two, Quiet}
use Rattle.psi5_frame.specs.Intervals.{half_bits, is_quiet}
use Rattle.psi5_frame.specs.Setup.{Settings, bit_count}
use Rattle.psi5_frame.specs.Edges.{Change}
use Rattle.psi5_frame.specs.Bursts.{begins, has_start, is_even, place_after, has_place, fault_at, fault_after, first_of, Violation}
use Rattle.psi5_frame.specs.Meanings.{IsInPhase, IsRight, AreRight, IsFirstWrong, IsFalseStart, IsBeyond, IsReached, Violates}
use Rattle.psi5_frame.proofs.Growing.{unbroken}

-- ---- one edge
-- what is wrong at an edge that violates this rule, and no rule with a lower number
abbrev Wrong : ℕ → Rule → ℕ → Change → Type 0
Wrong bits rule.TooShort before edge = edge.interval ≡ Short
Wrong bits rule.Phase before edge = (edge.interval ≡ Two) × (before % 2 ≡ 0)
Wrong bits rule.StartBit before edge = IsFalseStart before edge
Wrong bits rule.TooLong before edge = IsBeyond bits before edge
Wrong bits _ before edge = ⊥

same_some : (a b : Rule) → Some a ≡ Some b → a ≡ b
same_some a b e = cc

none_some : (r : Rule) {C : Type 0} → None ≡ Some r → C
none_some r e = absurd cc

and_parts : (a b : Bool) → (a && b) ≡ true → (a ≡ true) × (b ≡ true)
and_parts true b e = (refl, e)
and_parts false b e = absurd cc

or_parts : (a b : Bool) → (a || b) ≡ true → (a ≡ true) ⊎ (b ≡ true)
or_parts true b e = inl refl
or_parts false b e = inr e

not_true : (b : Bool) → not b ≡ true → b ≡ false
not_true true e = absurd cc
not_true false e = refl

-- no false start
no_start : (place : ℕ) (level : Bool) → (nat_eq place 3 && not level) ≡ false → place ≡ 3 → level ≡ true
no_start place true e at = refl
no_start place false e at = absurd (differ (sym (ap (λ b. b && true) (eq-eqb place 3 at)) ∙ e))
  where
    differ : true ≡ false → ⊥
    differ h = cc

beyond : (bits place : ℕ) (level : Bool) → (nat_lt (2 * bits) place || (nat_eq place (2 * bits) && level)) ≡ true → (2 * bits < place) ⊎ ((place ≡ 2 * bits) × (level ≡ true))
beyond bits place level e = by_parts (or_parts (nat_lt (2 * bits) place) (nat_eq place (2 * bits) && level) e)
  where
    by_parts : (nat_lt (2 * bits) place ≡ true) ⊎ ((nat_eq place (2 * bits) && level) ≡ true) → (2 * bits < place) ⊎ ((place ≡ 2 * bits) × (level ≡ true))
    by_parts (inl below) = inl (grind (arith, nat_tests))
    by_parts (inr both) = let parts = and_parts (nat_eq place (2 * bits)) level both in inr (eqb-true place (2 * bits) parts.0, parts.1)

-- an edge in phase that violates a rule
late : (bits before place : ℕ) (edge : Change) (r : Rule) → before + half_bits edge.interval ≡ place → IsInPhase before edge
    → (if nat_eq place 3 && not edge.level then Some rule.StartBit else (if nat_lt (2 * bits) place || (nat_eq place (2 * bits) && edge.level) then Some rule.TooLong else None)) ≡ Some r
    → Wrong bits r before edge
late bits before place edge r at phase e =
    by_start (nat_eq place 3 && not edge.level) (nat_lt (2 * bits) place || (nat_eq place (2 * bits) && edge.level)) refl refl e
  where
    by_end : (ends : Bool) → (nat_eq place 3 && not edge.level) ≡ false → (nat_lt (2 * bits) place || (nat_eq place (2 * bits) && edge.level)) ≡ ends
        → (if ends then Some rule.TooLong else None) ≡ Some r → Wrong bits r before edge
    by_end true no_false is e = subst (λ (q : Rule). Wrong bits q before edge) (same_some rule.TooLong r e) (record {
      in_phase = phase;
      no_false_start = λ three. no_start place edge.level no_false (sym at ∙ three);
      beyond = subst (λ (p : ℕ). (2 * bits < p) ⊎ ((p ≡ 2 * bits) × (edge.level ≡ true))) (sym at) (beyond bits place edge.level is);
    })
    by_end false no_false is e = none_some r e

    by_start : (starts ends : Bool) → (nat_eq place 3 && not edge.level) ≡ starts → (nat_lt (2 * bits) place || (nat_eq place (2 * bits) && edge.level)) ≡ ends
        → (if starts then Some rule.StartBit else (if ends then Some rule.TooLong else None)) ≡ Some r → Wrong bits r before edge
    by_start true ends is ends_is e =
        let parts = and_parts (nat_eq place 3) (not edge.level) is in
        subst (λ (q : Rule). Wrong bits q before edge) (same_some rule.StartBit r e)
        (record { in_phase = phase; at_3 = at ∙ eqb-true place 3 parts.0; falls = not_true edge.level parts.1 })
    by_start false ends is ends_is e = by_end ends is ends_is e

not_short_one : (h : Halves) → h ≡ One → h ≢ Short
not_short_one h e short = let q : One ≡ Short = sym e ∙ short in absurd cc

not_short_two : (h : Halves) → h ≡ Two → h ≢ Short
not_short_two h e short = let q : Two ≡ Short = sym e ∙ short in absurd cc

not_two_one : (h : Halves) → h ≡ One → h ≢ Two
not_two_one h e two = let q : One ≡ Two = sym e ∙ two in absurd cc

-- what is wrong at an edge that violates a rule
wrong_by : (bits before : ℕ) (edge : Change) (interval : Halves) (r : Rule) → edge.interval ≡ interval → is_quiet interval ≡ false → fault_at bits before interval edge.level ≡ Some r → Wrong bits r before edge
wrong_by bits before edge Short r is loud e = subst (λ (q : Rule). Wrong bits q before edge) (same_some rule.TooShort r e) is
wrong_by bits before edge One r is loud e =
    late bits before (before + 1) edge r (ap (λ h. before + half_bits h) is)
    (record { long_enough = not_short_one edge.interval is; from_middle = λ two. absurd (not_two_one edge.interval is two) }) e
wrong_by bits before edge Two r is loud e = by_even (is_even before) refl e
  where
    by_even : (even : Bool) → is_even before ≡ even
        → (if even then Some rule.Phase else (if nat_eq (before + 2) 3 && not edge.level then Some rule.StartBit else (if nat_lt (2 * bits) (before + 2) || (nat_eq (before + 2) (2 * bits) && edge.level) then Some rule.TooLong else None))) ≡ Some r
        → Wrong bits r before edge
    by_even true even e = subst (λ (q : Rule). Wrong bits q before edge) (same_some rule.Phase r e) (is, eqb-true (before % 2) 0 even)
    by_even false odd e =
        late bits before (before + 2) edge r (ap (λ h. before + half_bits h) is)
        (record { long_enough = not_short_two edge.interval is; from_middle = λ two. grind (arith, nat_tests) }) e
wrong_by bits before edge Quiet r is loud e = absurd cc

-- ---- an edge that violates no rule
right : (bits before : ℕ) (edge : Change) → is_quiet edge.interval ≡ false → fault_at bits before edge.interval edge.level ≡ None → IsRight bits before edge
right bits before edge loud none =
    let h = unbroken bits before edge.interval edge.level loud none in
    record {
      in_phase = record {
        long_enough = λ short. absurd (omega (arith, h.some, ap half_bits short));
        from_middle = λ two. h.in_phase (ap half_bits two);
      };
      start_bit = h.starts_low;
      within = record { not_later = h.not_long; falls_at_end = h.ends_low };
    }

or_false : (a b : Bool) → (a || b) ≡ false → (a ≡ false) × (b ≡ false)
or_false true b e = absurd cc
or_false false b e = (refl, e)

unfaulted : (number : ℕ) (here : Option Rule) (later : Option Violation) → first_of number here later ≡ None → (here ≡ None) × (later ≡ None)
unfaulted number None later e = (refl, e)
unfaulted number (Some rule) later e = absurd cc

-- each of them does, in its place
right_within : (bits before : ℕ) (front back : List Change) (edge : Change) → has_start (front ++ edge ∷ back) ≡ false → fault_after bits before (front ++ edge ∷ back) ≡ None
    → IsRight bits (place_after before front) edge
unfolding has_start fault_after place_after
right_within bits before [] back edge loud none =
    right bits before edge (or_false (begins edge) (has_start back) loud).0
    (unfaulted edge.number (fault_at bits before edge.interval edge.level) (fault_after bits (before + half_bits edge.interval) back) none).0
right_within bits before (x ∷ front) back edge loud none =
    right_within bits (before + half_bits x.interval) front back edge (or_false (begins x) (has_start (front ++ edge ∷ back)) loud).1
    (unfaulted x.number (fault_at bits before x.interval x.level) (fault_after bits (before + half_bits x.interval) (front ++ edge ∷ back)) none).1

pub are_right : (bits : ℕ) (first : Change) (later : List Change) → first.level ≡ true → has_start later ≡ false → fault_after bits 1 later ≡ None → AreRight bits first later
are_right bits first later rises loud none = record {
  rises = rises;
  each = λ front back edge stands.
      right_within bits 1 front back edge (ap has_start (sym stands) ∙ loud) (ap (fault_after bits 1) (sym stands) ∙ none);
}

-- ---- the first edge that violates one
-- an edge that violates the rule, and none before it that violates any
record IsFound (bits before : ℕ) (later : List Change) (v : Violation) : Type 0 where
  front : List Change
  edge : Change
  back : List Change
  stands : later ≡ front ++ edge ∷ back
  unbroken : fault_after bits before front ≡ None
  here : edge.number ≡ v.place
  fault : fault_at bits (place_after before front) edge.interval edge.level ≡ Some v.rule

same_violation : (v w : Violation) → Some v ≡ Some w → v ≡ w
same_violation v w e = cc

found : (bits before : ℕ) (later : List Change) (v : Violation) → fault_after bits before later ≡ Some v → IsFound bits before later v
unfolding fault_after place_after
found bits before [] v e = absurd cc
found bits before (edge ∷ later) v e = by_fault (fault_at bits before edge.interval edge.level) refl e (λ rest. found bits (before + half_bits edge.interval) later v rest)
  where
    by_fault : (here : Option Rule) → fault_at bits before edge.interval edge.level ≡ here
        → first_of edge.number here (fault_after bits (before + half_bits edge.interval) later) ≡ Some v
        → (fault_after bits (before + half_bits edge.interval) later ≡ Some v → IsFound bits (before + half_bits edge.interval) later v) → IsFound bits before (edge ∷ later) v
    by_fault None is e rest =
        let h = rest e in
        record {
          front = edge ∷ h.front;
          edge = h.edge;
          back = h.back;
          stands = ap (λ l. edge ∷ l) h.stands;
          unbroken = rw is h.unbroken;
          here = h.here;
          fault = h.fault;
        }
    by_fault (Some r) is e rest =
        let same : record { place = edge.number; rule = r } ≡ v = same_violation (record { place = edge.number; rule = r }) v e in
        record {
          front = [];
          edge = edge;
          back = later;
          stands = refl;
          unbroken = refl;
          here = ap (λ w. w.place) same;
          fault = is ∙ ap Some (ap (λ w. w.rule) same);
        }

-- a rule that an edge can violate is one of four
violates_by : (s : Settings) (first : Change) (later : List Change) (number : ℕ) (r : Rule) → IsFirstWrong (bit_count s) first later number (Wrong (bit_count s) r) → Violates s first later number r
violates_by s first later number rule.TooShort h = h
violates_by s first later number rule.Phase h = h
violates_by s first later number rule.StartBit h = h
violates_by s first later number rule.TooLong h = h
violates_by s first later number _ h = absurd h.wrong

has_start-front : (front back : List Change) → has_start (front ++ back) ≡ false → has_start front ≡ false
unfolding has_start
has_start-front [] back none = refl
has_start-front (x ∷ front) back none =
    let parts = or_false (begins x) (has_start (front ++ back)) none in
    ap₂ (λ a b. a || b) parts.0 (has_start-front front back parts.1)

loud_at : (front back : List Change) (edge : Change) → has_start (front ++ edge ∷ back) ≡ false → is_quiet edge.interval ≡ false
unfolding has_start
loud_at [] back edge none = (or_false (begins edge) (has_start back) none).0
loud_at (x ∷ front) back edge none = loud_at front back edge (or_false (begins x) (has_start (front ++ edge ∷ back)) none).1

pub first_wrong : (s : Settings) (first : Change) (later : List Change) (v : Violation) → first.level ≡ true → has_start later ≡ false → fault_after (bit_count s) 1 later ≡ Some v
    → Violates s first later v.place v.rule
first_wrong s first later v rises loud e =
    let h = found (bit_count s) 1 later v e in
    let all_loud : has_start (h.front ++ h.edge ∷ h.back) ≡ false = ap has_start (sym h.stands) ∙ loud in
    violates_by s first later v.place v.rule (record {
      front = h.front;
      edge = h.edge;
      back = h.back;
      stands = h.stands;
      none_before = are_right (bit_count s) first h.front rises (has_start-front h.front (h.edge ∷ h.back) all_loud) h.unbroken;
      here = h.here;
      wrong = wrong_by (bit_count s) (place_after 1 h.front) h.edge h.edge.interval v.rule refl (loud_at h.front h.back h.edge all_loud) h.fault;
    })

-- ---- places
record IsReachedFrom (before place : ℕ) (later : List Change) : Type 0 where
  front : List Change
  edge : Change
  back : List Change
  stands : later ≡ front ++ edge ∷ back
  there : place_after before front + half_bits edge.interval ≡ place

reached_from : (before place : ℕ) (later : List Change) → has_place place before later ≡ true → IsReachedFrom before place later
unfolding has_place place_after
reached_from before place [] e = absurd cc
reached_from before place (edge ∷ later) e = by_here (nat_eq (before + half_bits edge.interval) place) refl e (λ rest. reached_from (before + half_bits edge.interval) place later rest)
  where
    by_here : (b : Bool) → nat_eq (before + half_bits edge.interval) place ≡ b → (b || has_place place (before + half_bits edge.interval) later) ≡ true
        → (has_place place (before + half_bits edge.interval) later ≡ true → IsReachedFrom (before + half_bits edge.interval) place later) → IsReachedFrom before place (edge ∷ later)
    by_here true is e rest = record { front = []; edge = edge; back = later; stands = refl; there = eqb-true (before + half_bits edge.interval) place is }
    by_here false is e rest =
        let h = rest e in
        record { front = edge ∷ h.front; edge = h.edge; back = h.back; stands = ap (λ l. edge ∷ l) h.stands; there = h.there }

pub is_reached : (place : ℕ) (later : List Change) → has_place place 1 later ≡ true → IsReached place later
is_reached place later e =
    let h = reached_from 1 place later e in
    record { front = h.front; edge = h.edge; back = h.back; stands = h.stands; there = h.there }

place_there : (before place : ℕ) (front back : List Change) (edge : Change) → place_after before front + half_bits edge.interval ≡ place → has_place place before (front ++ edge ∷ back) ≡ true
unfolding has_place place_after
place_there before place [] back edge there = ap (λ b. b || has_place place (before + half_bits edge.interval) back) (eq-eqb (before + half_bits edge.interval) place there)
place_there before place (x ∷ front) back edge there =
    on (nat_eq (before + half_bits x.interval) place) (place_there (before + half_bits x.interval) place front back edge there)
  where
    on : (b : Bool) → has_place place (before + half_bits x.interval) (front ++ edge ∷ back) ≡ true → (b || has_place place (before + half_bits x.interval) (front ++ edge ∷ back)) ≡ true
    on true e = refl
    on false e = e

pub not_reached : (place : ℕ) (later : List Change) → has_place place 1 later ≡ false → IsReached place later → ⊥
not_reached place later none h = differ (sym (ap (has_place place 1) h.stands ∙ place_there 1 place h.front h.back h.edge h.there) ∙ none)
  where
    differ : true ≡ false → ⊥
    differ e = cc
