-- What was reported stays when more pulses come.
use Rattle.std.proofs.Common.{◌≡◌, ◌⊎◌, inl, inr, ℕ, zero, suc, List, [], ◌∷◌, ◌++◌, Bool, true, false, not, cond, Option, None, Some, refl, ap, ◌∙◌}
use Rattle.line_base.specs.Edges.{NumberedEdge}
use Rattle.line_base.specs.Streams.{IsFrontOf}
use Rattle.line_base.specs.declared.rule.Rule.TheVariants as rule
use Rattle.line_base.proofs.Fronts.{IsFrontOf-after, IsFrontOf-nil}
use Rattle.line_base.proofs.Readings.{Keeps, KeepsFound, keeps-alike, keeps-cond, keeps-same, keeps-waits, read-front}
use Rattle.line_base.specs.Readings.Found.{Past, Reported}
use Rattle.link_math.specs.Sent.{is_steady, value_of}
use Rattle.sent_frame.specs.declared.frame.SentStep.TheVariants.{Bad}
use Rattle.sent_frame.specs.Setup.{Settings}
use Rattle.sent_frame.specs.Pulses.{Pulse, Fall, falls_in, falls_of, pulses_after, pulses_between, pulses_of}
use Rattle.sent_frame.specs.Reading.{Standing, Hunting, PauseDue, CalibrationDue, Values, Carried, Broken, Short, values_of, with_value, may_calibrate, place_at, checked, due_after, frame_of, frame_from, hunted, found, found_hunting, reports_of, sent_reading}

-- unless there are too few pulses, more of them change no values
abbrev pub StayValues : ℕ → ℕ → List Pulse → List Pulse → Type 0
StayValues c n ps more = (values_of c n ps ≡ Short) ⊎ (values_of c n (ps ++ more) ≡ values_of c n ps)

with_short : (p : Pulse) (v : Option ℕ) (a b : Values) → (a ≡ Short) ⊎ (b ≡ a) → (with_value p v a ≡ Short) ⊎ (with_value p v b ≡ with_value p v a)
with_short p None a b h = inr refl
with_short p (Some v) a b (inl short) = inl (ap (with_value p (Some v)) short)
with_short p (Some v) a b (inr same) = inr (ap (with_value p (Some v)) same)

pub values-stay : (c n : ℕ) (ps more : List Pulse) → StayValues c n ps more
unfolding values_of
values-stay c zero ps more = inr refl
values-stay c (suc n) [] more = inl refl
values-stay c (suc n) (p ∷ ps) more = with_short p (value_of p.length c) (values_of c n ps) (values_of c n (ps ++ more)) (values-stay c n ps more)

-- the pulse is there
abbrev pub HasPulse : ℕ → List Pulse → List Pulse → Type 0
HasPulse k ps more = place_at (ps ++ more) k ≡ place_at ps k

pub carried_rest : (p : Pulse) (v : Option ℕ) (w : Values) (vs : List ℕ) → with_value p v w ≡ Carried vs → (us : List ℕ) × (w ≡ Carried us)
carried_rest p None w vs e = absurd (cc)
carried_rest p (Some v) (Carried us) vs e = (us, refl)
carried_rest p (Some v) (Broken count broken) vs e = absurd (cc)
carried_rest p (Some v) Short vs e = absurd (cc)

pub places-stay : (c k : ℕ) (ps more : List Pulse) (vs : List ℕ) → values_of c (suc k) ps ≡ Carried vs → HasPulse k ps more
unfolding values_of
places-stay c k [] more vs e = absurd (cc)
places-stay c zero (p ∷ ps) more vs e = refl
places-stay c (suc k) (p ∷ ps) more vs e =
    let rest = carried_rest p (value_of p.length c) (values_of c (suc k) ps) vs e in places-stay c k ps more rest.0 rest.1

frame_keeps : (s : Settings) (c : ℕ) (ps more : List Pulse) (v w : Values) → values_of c (suc (suc s.nibbles)) ps ≡ v → (v ≡ Short) ⊎ (w ≡ v) → Keeps (frame_of s c ps v) (frame_of s c (ps ++ more) w)
frame_keeps s c ps more v w e (inl short) = keeps-waits (frame_of s c ps v) (frame_of s c (ps ++ more) w) [] (ap (frame_of s c ps) short)
frame_keeps s c ps more (Carried vs) w e (inr same) =
    let now = frame_of s c ps (Carried vs) in
    keeps-alike now (frame_of s c (ps ++ more) w) now refl
    (ap (frame_of s c (ps ++ more)) same ∙ ap (λ place. Reported (checked s place vs) (Past (suc (suc s.nibbles)) (due_after s c))) (places-stay c (suc s.nibbles) ps more vs e))
frame_keeps s c ps more (Broken count broken) w e (inr same) =
    let now = frame_of s c ps (Broken count broken) in keeps-alike now (frame_of s c (ps ++ more) w) now refl (ap (frame_of s c (ps ++ more)) same)
frame_keeps s c ps more Short w e (inr same) = tt

frame-keeps : (s : Settings) (c : ℕ) (ps more : List Pulse) → Keeps (frame_from s c ps) (frame_from s c (ps ++ more))
frame-keeps s c ps more = frame_keeps s c ps more (values_of c (suc (suc s.nibbles)) ps) (values_of c (suc (suc s.nibbles)) (ps ++ more)) refl (values-stay c (suc (suc s.nibbles)) ps more)

hunted-keeps : (s : Settings) (p : Pulse) (ps more : List Pulse) → Keeps (hunted s p ps) (hunted s p (ps ++ more))
hunted-keeps s p [] more = tt
hunted-keeps s p (q ∷ ps) more = keeps-cond (may_calibrate s q) (Past 0 Hunting) _ _ _ refl (frame-keeps s p.length (q ∷ ps) more)

hunting-keeps : (s : Settings) (p : Pulse) (ps more : List Pulse) → Keeps (found_hunting s p ps) (found_hunting s p (ps ++ more))
hunting-keeps s p ps more = keeps-cond (may_calibrate s p) (hunted s p ps) (hunted s p (ps ++ more)) _ _ (hunted-keeps s p ps more) refl

found_keeps : (s : Settings) (standing : Standing) (p : Pulse) (ps more : List Pulse) → Keeps (found s standing p ps) (found s standing p (ps ++ more))
unfolding found
found_keeps s Hunting p ps more = hunting-keeps s p ps more
found_keeps s (PauseDue c) p ps more = keeps-same (found s (PauseDue c) p ps)
found_keeps s (CalibrationDue c) p ps more =
    keeps-cond (not (may_calibrate s p)) (Reported (Bad p.place rule.NoCalibration) (Past 0 Hunting)) _ _ _ (keeps-same (Reported (Bad p.place rule.NoCalibration) (Past 0 Hunting)))
    (keeps-cond (is_steady c p.length) (frame_from s p.length ps) (frame_from s p.length (ps ++ more)) _ _ (frame-keeps s p.length ps more) (found_hunting s p (ps ++ more), refl, hunting-keeps s p ps more))

-- what is found stays when more pulses come
pub found-keeps : (s : Settings) → KeepsFound (found s)
found-keeps s = record { each = λ standing p ps more. found_keeps s standing p ps more }

falls_more : (b : Bool) (f : Fall) (xs ys zs : List Fall) → zs ≡ xs ++ ys → cond b zs (f ∷ zs) ≡ cond b xs (f ∷ xs) ++ ys
falls_more true f xs ys zs e = e
falls_more false f xs ys zs e = ap (λ l. f ∷ l) e

pub falls_in-append : (es more : List NumberedEdge) → falls_in (es ++ more) ≡ falls_in es ++ falls_in more
falls_in-append [] more = refl
falls_in-append (e ∷ es) more = falls_more e.edge.level (record { number = e.number; time = e.edge.time }) (falls_in es) (falls_in more) (falls_in (es ++ more)) (falls_in-append es more)

pub pulses_after-front : (before : ℕ) (fs more : List Fall) → IsFrontOf (pulses_after before fs) (pulses_after before (fs ++ more))
pulses_after-front before [] more = IsFrontOf-nil _
pulses_after-front before (f ∷ fs) more = IsFrontOf-after (_ ∷ []) (pulses_after-front f.time fs more)

pulses_between-front : (fs more : List Fall) → IsFrontOf (pulses_between fs) (pulses_between (fs ++ more))
pulses_between-front [] more = IsFrontOf-nil _
pulses_between-front (f ∷ fs) more = pulses_after-front f.time fs more

falls_of-front : (es more : List NumberedEdge) → IsFrontOf (falls_of es) (falls_of (es ++ more))
falls_of-front [] more = IsFrontOf-nil _
falls_of-front (opening ∷ es) more = record { rest = falls_in more; is = falls_in-append es more }

-- the pulses of some edges are a front of those of these and more
pub pulses-front : (es more : List NumberedEdge) → IsFrontOf (pulses_of es) (pulses_of (es ++ more))
pulses-front es more =
    let falls = falls_of-front es more in
    let pulses = pulses_between-front (falls_of es) falls.rest in
    record { rest = pulses.rest; is = ap pulses_between falls.is ∙ pulses.is }

-- the reports of some edges are a front of those of these and more
pub reading-front : (s : Settings) (es more : List NumberedEdge) → IsFrontOf (sent_reading s es) (sent_reading s (es ++ more))
reading-front s es more =
    let pulses = pulses-front es more in
    let reports = read-front (found s) (found-keeps s) 0 Hunting (pulses_of es) pulses.rest in
    record { rest = reports.rest; is = ap (reports_of s) pulses.is ∙ reports.is }
