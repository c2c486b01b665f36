use Rattle.std.proofs.Common.{◌≡◌, ℕ, ◌+◌, ◌-◌, ◌*◌, ◌%◌, List, length, get_or, take, drop, sym, ap, subst, ◌∙◌, arith, length-drop}
use Rattle.std.proofs.lemmas.List.{get_or-take, length-take-le, take_all}
use Rattle.edge_trace.specs.PlainRows.{BeginsWithNumber}
use Rattle.edge_trace.proofs.PlainRows.{NumberSoFar, one_more_digit, wrapped_digit, digit_fits, number_found}
use Rattle.edge_trace.proofs.plain.number_before.Goals as goal

pub returns-then-i-gt0-clause-begins : goal.returns-then-i-gt0-clause-begins
returns-then-i-gt0-clause-begins c =
    let text = c.args.text.now in
    let i : ℕ = c.loop-i.i in
    let most = c.min.ensures in
    let long : length (take c.min.result text) ≡ c.min.result = length-take-le c.min.result text (omega arith) in
    let e : get_or (take c.min.result text) i 0 ≡ get_or text i 0 = get_or-take c.min.result text i 0 (omega (arith, long, c.loop-i-test.true)) in
    subst (λ (rest : List ℕ). BeginsWithNumber c.args.mark text c.loop-i.number rest) (sym (take_all (length text - (i + 1)) (drop (i + 1) text) (omega (arith, length-drop (i + 1) text))))
    (number_found c.args.mark text i c.loop-i.number c.loop-i.invariant (omega (arith, long, c.loop-i-test.true)) c.if-i-gt0.true (sym e ∙ c.if-byte-mark.true))

pub returns-then-i-gt0-clause-small : goal.returns-then-i-gt0-clause-small
returns-then-i-gt0-clause-small c =
    let text = c.args.text.now in
    let most = c.min.ensures in
    let long : length (take c.min.result text) ≡ c.min.result = length-take-le c.min.result text (omega arith) in
    digit_fits c.args.mark text c.loop-i.i c.loop-i.number c.loop-i.invariant (omega (arith, long, c.loop-i-test.true))

pub overflow_mul-number : goal.overflow_mul-number
overflow_mul-number c =
    let text = c.args.text.now in
    let most = c.min.ensures in
    let long : length (take c.min.result text) ≡ c.min.result = length-take-le c.min.result text (omega arith) in
    let fits = digit_fits c.args.mark text c.loop-i.i c.loop-i.number c.loop-i.invariant (omega (arith, long, c.loop-i-test.true)) in
    omega arith

pub overflow_add-number : goal.overflow_add-number
overflow_add-number c =
    let text = c.args.text.now in
    let most = c.min.ensures in
    let long : length (take c.min.result text) ≡ c.min.result = length-take-le c.min.result text (omega arith) in
    let fits = digit_fits c.args.mark text c.loop-i.i c.loop-i.number c.loop-i.invariant (omega (arith, long, c.loop-i-test.true)) in
    let high = c.if-value-gt9.false in
    omega arith

pub loop-i-preserved : goal.loop-i-preserved
loop-i-preserved c =
    let text = c.args.text.now in
    let i : ℕ = c.loop-i.i in
    let most = c.min.ensures in
    let long : length (take c.min.result text) ≡ c.min.result = length-take-le c.min.result text (omega arith) in
    let e : get_or (take c.min.result text) i 0 ≡ get_or text i 0 = get_or-take c.min.result text i 0 (omega (arith, long, c.loop-i-test.true)) in
    let byte : c.from-value.result ≡ get_or text i 0 = c.from-value.ensures ∙ e in
    let digit = wrapped_digit (get_or text i 0) ((c.from-value.result + 18446744073709551568) % 18446744073709551616) (omega (arith, c.type_inv.text i)) (ap (λ (n : ℕ). (n + 18446744073709551568) % 18446744073709551616) byte) c.if-value-gt9.false in
    subst (λ (value : ℕ). NumberSoFar c.args.mark text (i + 1) (c.loop-i.number * 10 + value)) (sym digit.value_is)
    (one_more_digit c.args.mark text i c.loop-i.number c.requires c.loop-i.invariant (omega (arith, long, c.loop-i-test.true)) digit.low digit.high)
