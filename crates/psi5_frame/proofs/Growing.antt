-- A burst grows by one edge.
--     last_of-push, place_after-push, has_place-push, bits_after-push      what its edges say grows
--     edge_fault-stays, edge_fault-push      its first violation stays, or is that of the new edge
--     unbroken      what it means that an edge violates no rule
--     sound-first, sound-middle, sound-boundary      what is kept of a burst with no violation
use Rattle.std.proofs.Common.{◌≡◌, ℕ, zero, suc, ◌+◌, ◌-◌, ◌*◌, ◌%◌, ◌≤◌, Bool, true, false, ◌&&◌, ◌||◌, not, nat_eq, nat_le, nat_lt, if◌then◌else◌, Option, None, Some, List, [], ◌∷◌, ◌++◌, length, refl, sym, ◌∙◌, ap, ap₂, subst, append_assoc, append-nil, arith}
use Rattle.std.proofs.lemmas.Bool.Decides.{nat_tests}
use Rattle.line_base.specs.declared.rule.Rule.{Rule}
use Rattle.line_base.specs.declared.rule.Rule.TheVariants as rule
use Rattle.link_math.specs.declared.manchester.Halves.{Halves}
use Rattle.link_math.specs.declared.manchester.Halves.TheVariants.{Short, One, Two, Quiet}
use Rattle.psi5_frame.specs.Intervals.{half_bits, is_quiet}
use Rattle.psi5_frame.specs.Edges.{Change}
use Rattle.psi5_frame.specs.Bursts.{is_even, last_of, place_after, has_place, bit_at, bits_after, fault_at, Violation, first_of, fault_after, edge_fault}
use Rattle.psi5_frame.specs.Kept.{IsSound}

pub last_of-push : (first : Change) (later : List Change) (edge : Change) → last_of first (later ++ edge ∷ []) ≡ edge
last_of-push first [] edge = refl
last_of-push first (next ∷ later) edge = last_of-push next later edge

pub place_after-push : (before : ℕ) (later : List Change) (edge : Change) → place_after before (later ++ edge ∷ []) ≡ place_after before later + half_bits edge.interval
unfolding place_after
place_after-push before [] edge = refl
place_after-push before (next ∷ later) edge = place_after-push (before + half_bits next.interval) later edge

or_assoc : (a b c : Bool) → (a || (b || c)) ≡ ((a || b) || c)
or_assoc true b c = refl
or_assoc false b c = refl

or_false : (a : Bool) → (a || false) ≡ a
or_false true = refl
or_false false = refl

pub has_place-push : (place before : ℕ) (later : List Change) (edge : Change)
    → has_place place before (later ++ edge ∷ []) ≡ (has_place place before later || nat_eq (place_after before later + half_bits edge.interval) place)
unfolding has_place place_after
has_place-push place before [] edge = or_false (nat_eq (before + half_bits edge.interval) place)
has_place-push place before (next ∷ later) edge =
    let at = before + half_bits next.interval in
    ap (λ b. nat_eq at place || b) (has_place-push place at later edge)
    ∙ or_assoc (nat_eq at place) (has_place place at later) (nat_eq (place_after at later + half_bits edge.interval) place)

pub bits_after-push : (before : ℕ) (later : List Change) (edge : Change)
    → bits_after before (later ++ edge ∷ []) ≡ bits_after before later ++ bit_at (place_after before later + half_bits edge.interval) edge.level
unfolding bits_after place_after
bits_after-push before [] edge = append-nil (bit_at (before + half_bits edge.interval) edge.level)
bits_after-push before (next ∷ later) edge =
    let at = before + half_bits next.interval in
    ap (λ l. bit_at at next.level ++ l) (bits_after-push at later edge)
    ∙ sym (append_assoc (bit_at at next.level) (bits_after at later) (bit_at (place_after at later + half_bits edge.interval) edge.level))

-- the first of two faults
abbrev either : Option Violation → Option Violation → Option Violation
either None other = other
either (Some violation) other = Some violation

first_either : (number : ℕ) (here : Option Rule) (later other : Option Violation) → first_of number here (either later other) ≡ either (first_of number here later) other
first_either number None later other = refl
first_either number (Some violation) later other = refl

fault_after-push : (bits before : ℕ) (later : List Change) (edge : Change)
    → fault_after bits before (later ++ edge ∷ []) ≡ either (fault_after bits before later) (first_of edge.number (fault_at bits (place_after before later) edge.interval edge.level) None)
unfolding fault_after place_after
fault_after-push bits before [] edge = refl
fault_after-push bits before (next ∷ later) edge =
    let at = before + half_bits next.interval in
    let here = fault_at bits before next.interval next.level in
    ap (first_of next.number here) (fault_after-push bits at later edge)
    ∙ first_either next.number here (fault_after bits at later) (first_of edge.number (fault_at bits (place_after at later) edge.interval edge.level) None)

-- the first fault of a burst that goes on
edge_fault-either : (bits : ℕ) (first : Change) (later : List Change) (edge : Change) (level : Bool) (start other : Option Violation)
    → (if level then either (fault_after bits 1 later) other else Some (record { place = first.number; rule = rule.FirstFall })) ≡ either (if level then fault_after bits 1 later else Some (record { place = first.number; rule = rule.FirstFall })) other
edge_fault-either bits first later edge true start other = refl
edge_fault-either bits first later edge false start other = refl

edge_fault-grown : (bits : ℕ) (first : Change) (later : List Change) (edge : Change)
    → edge_fault bits first (later ++ edge ∷ []) ≡ either (edge_fault bits first later) (first_of edge.number (fault_at bits (place_after 1 later) edge.interval edge.level) None)
edge_fault-grown bits first later edge =
    let other = first_of edge.number (fault_at bits (place_after 1 later) edge.interval edge.level) None in
    ap (λ f. if first.level then f else Some (record { place = first.number; rule = rule.FirstFall })) (fault_after-push bits 1 later edge)
    ∙ edge_fault-either bits first later edge first.level None other

pub edge_fault-stays : (bits : ℕ) (first : Change) (later : List Change) (edge : Change) (violation : Violation) → edge_fault bits first later ≡ Some violation → edge_fault bits first (later ++ edge ∷ []) ≡ Some violation
edge_fault-stays bits first later edge violation e =
    let other = first_of edge.number (fault_at bits (place_after 1 later) edge.interval edge.level) None in
    edge_fault-grown bits first later edge ∙ ap (λ f. either f other) e

pub edge_fault-push : (bits place : ℕ) (first : Change) (later : List Change) (edge : Change) (here : Option Rule)
    → edge_fault bits first later ≡ None → place_after 1 later ≡ place → fault_at bits place edge.interval edge.level ≡ here
    → edge_fault bits first (later ++ edge ∷ []) ≡ first_of edge.number here None
edge_fault-push bits place first later edge here e at is =
    let other = first_of edge.number (fault_at bits (place_after 1 later) edge.interval edge.level) None in
    edge_fault-grown bits first later edge ∙ ap (λ f. either f other) e
    ∙ ap (λ p. first_of edge.number (fault_at bits p edge.interval edge.level) None) at
    ∙ ap (λ f. first_of edge.number f None) is

-- ---- an edge that breaks no rule
pub record IsUnbroken (bits before : ℕ) (interval : Halves) (level : Bool) : Type 0 where
  pub some : 1 ≤ half_bits interval
  pub few : half_bits interval ≤ 2
  pub in_phase : half_bits interval ≡ 2 → before % 2 ≡ 1
  pub not_long : before + half_bits interval ≤ 2 * bits
  pub ends_low : before + half_bits interval ≡ 2 * bits → level ≡ false
  pub starts_low : before + half_bits interval ≡ 3 → level ≡ true

record AreClear (bits place : ℕ) (level : Bool) : Type 0 where
  not_long : place ≤ 2 * bits
  ends_low : place ≡ 2 * bits → level ≡ false
  starts_low : place ≡ 3 → level ≡ true

clear : (bits place : ℕ) (level : Bool)
    → (if nat_eq place 3 && not level then Some rule.StartBit else (if nat_lt (2 * bits) place || (nat_eq place (2 * bits) && level) then Some rule.TooLong else None)) ≡ None
    → AreClear bits place level
clear bits place true none = record { not_long = grind (arith, nat_tests); ends_low = λ e. grind (arith, nat_tests); starts_low = λ e. refl }
clear bits place false none = record { not_long = grind (arith, nat_tests); ends_low = λ e. refl; starts_low = λ e. grind (arith, nat_tests) }

phased : (bits before : ℕ) (level : Bool) (even : Bool) → even ≡ is_even before
    → (if even then Some rule.Phase else (if nat_eq (before + 2) 3 && not level then Some rule.StartBit else (if nat_lt (2 * bits) (before + 2) || (nat_eq (before + 2) (2 * bits) && level) then Some rule.TooLong else None))) ≡ None
    → (before % 2 ≡ 1) × AreClear bits (before + 2) level
phased bits before level true e none = absurd cc
phased bits before level false e none = (grind (arith, nat_tests), clear bits (before + 2) level none)

pub unbroken : (bits before : ℕ) (interval : Halves) (level : Bool) → is_quiet interval ≡ false → fault_at bits before interval level ≡ None → IsUnbroken bits before interval level
unbroken bits before Short level loud none = absurd cc
unbroken bits before One level loud none =
    let c = clear bits (before + 1) level none in
    record { some = omega arith; few = omega arith; in_phase = λ e. absurd (omega arith); not_long = c.not_long; ends_low = c.ends_low; starts_low = c.starts_low }
unbroken bits before Two level loud none =
    let p = phased bits before level (is_even before) refl none in
    record { some = omega arith; few = omega arith; in_phase = λ e. p.0; not_long = p.1.not_long; ends_low = p.1.ends_low; starts_low = p.1.starts_low }
unbroken bits before Quiet level loud none = absurd cc

-- ---- what is kept
whole-push : (bits place next : ℕ) (interval : Halves) (level : Bool) → next ≡ place + half_bits interval → IsUnbroken bits place interval level
    → (nat_le (2 * bits - 1) place || nat_eq next (2 * bits - 1)) ≡ nat_le (2 * bits - 1) next
whole-push bits place next interval level e h = grind (arith, nat_tests, h.some, h.few, h.in_phase, h.not_long)

pub sound-push : (bits number place : ℕ) (level : Bool) (said : List Bool) (first : Change) (later : List Change) (edge : Change)
    → IsSound bits number level place said first later → is_quiet edge.interval ≡ false → fault_at bits place edge.interval edge.level ≡ None
    → IsSound bits edge.number edge.level (place + half_bits edge.interval) (said ++ bit_at (place + half_bits edge.interval) edge.level) first (later ++ edge ∷ [])
sound-push bits number place level said first later edge sound loud none =
    let next = place + half_bits edge.interval in
    let at : place_after 1 later + half_bits edge.interval ≡ next = ap (λ p. p + half_bits edge.interval) sound.place_is in
    record {
      unbroken = edge_fault-push bits place first later edge None sound.unbroken sound.place_is none;
      number_is = ap (λ e. e.number) (last_of-push first later edge);
      level_is = ap (λ e. e.level) (last_of-push first later edge);
      place_is = place_after-push 1 later edge ∙ at;
      whole_is = has_place-push (2 * bits - 1) 1 later edge
          ∙ ap₂ (λ a p. a || nat_eq p (2 * bits - 1)) sound.whole_is at
          ∙ whole-push bits place next edge.interval edge.level refl (unbroken bits place edge.interval edge.level loud none);
      bits_are = ap (λ l. not first.level ∷ l) (bits_after-push 1 later edge)
          ∙ ap₂ (λ l p. l ++ bit_at p edge.level) sound.bits_are at;
    }

pub even_bit : (place : ℕ) (level : Bool) → place % 2 ≡ 0 → bit_at place level ≡ []
even_bit place level even = let e : is_even place ≡ true = grind (arith, nat_tests) in rw e refl

pub odd_bit : (place : ℕ) (level : Bool) → place % 2 ≡ 1 → bit_at place level ≡ not level ∷ []
odd_bit place level odd = let e : is_even place ≡ false = grind (arith, nat_tests) in rw e refl

pub length_bit_at : (place : ℕ) (level : Bool) → length (bit_at place level) ≡ place % 2
length_bit_at place level = by_rest (place % 2) refl
  where
    by_rest : (rest : ℕ) → place % 2 ≡ rest → length (bit_at place level) ≡ place % 2
    by_rest zero e = ap length (even_bit place level e) ∙ sym e
    by_rest (suc zero) e = ap length (odd_bit place level e) ∙ sym e
    by_rest (suc (suc rest)) e = absurd (omega (arith, e))

-- the edge is in the middle of a bit, and says it; or it is at the boundary of two
pub sound-middle : (bits number place : ℕ) (level : Bool) (said : List Bool) (first : Change) (later : List Change) (edge : Change)
    → IsSound bits number level place said first later → is_quiet edge.interval ≡ false → fault_at bits place edge.interval edge.level ≡ None → (place + half_bits edge.interval) % 2 ≡ 1
    → IsSound bits edge.number edge.level (place + half_bits edge.interval) (said ++ not edge.level ∷ []) first (later ++ edge ∷ [])
sound-middle bits number place level said first later edge sound loud none odd =
    let next = place + half_bits edge.interval in
    subst (λ (l : List Bool). IsSound bits edge.number edge.level next (said ++ l) first (later ++ edge ∷ [])) (odd_bit next edge.level odd)
    (sound-push bits number place level said first later edge sound loud none)

pub sound-boundary : (bits number place : ℕ) (level : Bool) (said : List Bool) (first : Change) (later : List Change) (edge : Change)
    → IsSound bits number level place said first later → is_quiet edge.interval ≡ false → fault_at bits place edge.interval edge.level ≡ None → ((place + half_bits edge.interval) % 2 ≡ 1 → ⊥)
    → IsSound bits edge.number edge.level (place + half_bits edge.interval) said first (later ++ edge ∷ [])
sound-boundary bits number place level said first later edge sound loud none even =
    let next = place + half_bits edge.interval in
    let zero_rest : next % 2 ≡ 0 = omega (arith, even) in
    subst (λ (l : List Bool). IsSound bits edge.number edge.level next l first (later ++ edge ∷ []))
    (ap (λ l. said ++ l) (even_bit next edge.level zero_rest) ∙ append-nil said)
    (sound-push bits number place level said first later edge sound loud none)

-- ---- the first edge, and the end
pub sound-first : (bits number : ℕ) (interval : Halves) → 13 ≤ bits → IsSound bits number true 1 (false ∷ []) (record { number = number; level = true; interval = interval }) []
unfolding fault_after place_after has_place bits_after
sound-first bits number interval some = record { unbroken = refl; number_is = refl; level_is = refl; place_is = refl; whole_is = grind (arith, nat_tests); bits_are = refl }
