-- How many edges stand before a fall.
--     edges-stay      more edges behind that fall change nothing
--     edges-here      before the first fall behind some edges stand these edges
use Rattle.std.proofs.Common.{◌≡◌, ℕ, zero, suc, ◌<◌, List, [], ◌∷◌, ◌++◌, Bool, true, false, cond, length, refl, ap, ◌∙◌, arith}
use Rattle.line_base.specs.Edges.{NumberedEdge}
use Rattle.sent_frame.specs.Pulses.{Fall, falls_in, pulses_after}
use Rattle.spc_link.specs.Reading.{edges_before}

stay_first : (level : Bool) (a b : ℕ) (f : Fall) (fs : List Fall) → 0 < length (cond level fs (f ∷ fs)) → (0 < length fs → a ≡ b) → cond level (suc a) 0 ≡ cond level (suc b) 0
stay_first true a b f fs there same = ap suc (same there)
stay_first false a b f fs there same = refl

stay_later : (level : Bool) (k a b a' b' : ℕ) (f : Fall) (fs : List Fall) → suc k < length (cond level fs (f ∷ fs)) → (suc k < length fs → a ≡ b) → (k < length fs → a' ≡ b')
    → cond level (suc a) (suc a') ≡ cond level (suc b) (suc b')
stay_later true k a b a' b' f fs there same same' = ap suc (same there)
stay_later false k a b a' b' f fs there same same' = ap suc (same' (omega (arith, there)))

pub edges-stay : (k : ℕ) (es more : List NumberedEdge) → k < length (falls_in es) → edges_before k (es ++ more) ≡ edges_before k es
edges-stay k [] more there = absurd (omega (arith, there))
edges-stay zero (e ∷ es) more there = stay_first e.edge.level (edges_before 0 (es ++ more)) (edges_before 0 es) (record { number = e.number; time = e.edge.time }) (falls_in es) there (edges-stay 0 es more)
edges-stay (suc k) (e ∷ es) more there =
    stay_later e.edge.level k (edges_before (suc k) (es ++ more)) (edges_before (suc k) es) (edges_before k (es ++ more)) (edges_before k es) (record { number = e.number; time = e.edge.time }) (falls_in es) there (edges-stay (suc k) es more) (edges-stay k es more)

past_rise : (k : ℕ) (e : NumberedEdge) (es : List NumberedEdge) → e.edge.level ≡ true → edges_before k (e ∷ es) ≡ suc (edges_before k es)
past_rise zero e es up = rw up refl
past_rise (suc k) e es up = rw up refl

past_fall : (k : ℕ) (e : NumberedEdge) (es : List NumberedEdge) → e.edge.level ≡ false → edges_before (suc k) (e ∷ es) ≡ suc (edges_before k es)
past_fall k e es down = rw down refl

here_behind : (x : NumberedEdge) (later : List NumberedEdge) (es : List NumberedEdge) (level : Bool) → x.edge.level ≡ level → edges_before (length (falls_in later)) es ≡ length later → edges_before (length (falls_in (x ∷ later))) (x ∷ es) ≡ suc (length later)
here_behind x later es true up here =
    ap (λ b. edges_before (length (cond b (falls_in later) (record { number = x.number; time = x.edge.time } ∷ falls_in later))) (x ∷ es)) up ∙ past_rise (length (falls_in later)) x es up ∙ ap suc here
here_behind x later es false down here =
    ap (λ b. edges_before (length (cond b (falls_in later) (record { number = x.number; time = x.edge.time } ∷ falls_in later))) (x ∷ es)) down ∙ past_fall (length (falls_in later)) x es down ∙ ap suc here

pub edges-here : (later : List NumberedEdge) (e : NumberedEdge) (more : List NumberedEdge) → e.edge.level ≡ false → edges_before (length (falls_in later)) (later ++ e ∷ more) ≡ length later
edges-here [] e more down = rw down refl
edges-here (x ∷ later) e more down = here_behind x later (later ++ e ∷ more) x.edge.level refl (edges-here later e more down)

-- as many pulses end at some falls as there are
pub as-many-pulses : (before : ℕ) (falls : List Fall) → length (pulses_after before falls) ≡ length falls
as-many-pulses before [] = refl
as-many-pulses before (f ∷ falls) = ap suc (as-many-pulses f.time falls)
