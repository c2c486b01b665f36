use Rattle.std.proofs.Common.{◌≡◌, ℕ, ◌<◌, ◌≤◌, List, length, get_or, take, inl, inr, sym, ◌∙◌, arith}
use Rattle.std.proofs.lemmas.Bool.{eq-eqb, eqb-true}
use Rattle.std.proofs.lemmas.List.{get_or-take, length-take-le}
use Rattle.memchr.specs.Find.{Nowhere, Passes, is_byte}
use Rattle.edge_trace.proofs.texts.length_before.Goals as goal

no_mark : (text : List ℕ) (mark most count : ℕ) → count ≤ most → Nowhere (Passes (is_byte mark) (take most text)) 0 count → (k : ℕ) → k < count → get_or text k 0 ≡ mark → ⊥
no_mark text mark most count le nowhere k h e = nowhere k (omega arith) h (eq-eqb (get_or (take most text) k 0) mark (get_or-take most text k 0 (omega arith) ∙ e))

pub returns-in-None-clause-none : goal.returns-in-None-clause-none
returns-in-None-clause-none c =
    let most = c.min.ensures in
    let long : length (take c.min.result c.args.text.now) ≡ c.min.result = length-take-le c.min.result c.args.text.now (omega arith) in
    no_mark c.args.text.now c.args.mark c.min.result _ (omega (arith, long)) c.in-None.ensures

pub returns-in-Some-clause-none : goal.returns-in-Some-clause-none
returns-in-Some-clause-none c =
    let most = c.min.ensures in
    let long : length (take c.min.result c.args.text.now) ≡ c.min.result = length-take-le c.min.result c.args.text.now (omega arith) in
    no_mark c.args.text.now c.args.mark c.min.result c.in-Some.place (omega (arith, long, c.in-Some.ensures.0.high)) c.in-Some.ensures.0.before

pub returns-in-None-clause-stops : goal.returns-in-None-clause-stops
returns-in-None-clause-stops c = λ less.
    let most = c.min.ensures in
    let long : length (take c.min.result c.args.text.now) ≡ c.min.result = length-take-le c.min.result c.args.text.now (omega arith) in
    inr (omega (arith, long, less))

pub returns-in-Some-clause-stops : goal.returns-in-Some-clause-stops
returns-in-Some-clause-stops c = λ less.
    let most = c.min.ensures in
    let long : length (take c.min.result c.args.text.now) ≡ c.min.result = length-take-le c.min.result c.args.text.now (omega arith) in
    inl (sym (get_or-take c.min.result c.args.text.now c.in-Some.place 0 (omega (arith, long, c.in-Some.ensures.0.high))) ∙ eqb-true _ _ c.in-Some.ensures.1)
