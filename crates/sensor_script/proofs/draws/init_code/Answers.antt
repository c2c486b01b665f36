-- The code is the one of what is sent at its place.
use Rattle.std.proofs.Common.{◌≡◌, ◌+◌, ◌%◌, ◌<◌, Some, slice_get, ap, sym, ◌∙◌, arith}
use Rattle.std.specs.List.{range_with_len}
use Rattle.std.specs.Option.{option_map}
use Rattle.std.proofs.lemmas.List.Elements.{All-map}
use Rattle.std.proofs.lemmas.Nat.{mod_below}
use Rattle.psi5_init.specs.Codes.{class_in}
use Rattle.psi5_init.specs.Phases.{phase}
use Rattle.sensor_script.specs.Draws.{code_or_none, init_code, init_nibbles}
use Rattle.sensor_script.proofs.DrawnValues.{code-back, phase-sends}
use Rattle.sensor_script.proofs.draws.init_code.Goals as goal

pub code_at-requires-clause-nibbles : goal.code_at-requires-clause-nibbles
code_at-requires-clause-nibbles c = All-map (λ nibble. nibble < 16) (λ place. (place + c.args.slot) % 16) (range_with_len 0 16) (λ k d within. mod_below _ 16 (omega arith))

pub returns-in-None : goal.returns-in-None
unfolding init_code
returns-in-None c =
    ap code_or_none (ap (option_map class_in) (sym c.in-None.is) ∙ c.code_at.ensures.class) ∙ ap (λ place. code_or_none (slice_get (phase c.args.repeats (init_nibbles c.args.slot)) place)) c.from.ensures

pub returns-in-Some : goal.returns-in-Some
unfolding init_code
returns-in-Some c =
    let code = c.in-Some.code in
    let sent : Some (class_in code) ≡ slice_get (phase c.args.repeats (init_nibbles c.args.slot)) c.args.place =
    ap (option_map class_in) (sym c.in-Some.is) ∙ c.code_at.ensures.class ∙ ap (λ place. slice_get (phase c.args.repeats (init_nibbles c.args.slot)) place) c.from.ensures in
    c.from-in-Some.ensures ∙ sym (code-back code (phase-sends c.args.repeats (init_nibbles c.args.slot) c.args.place (class_in code) sent)) ∙ ap code_or_none sent
