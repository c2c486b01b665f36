-- The steps of codes violate no rules but those of an initialisation.
--     steps-break      all steps
--     last-breaks      the last of them
use Rattle.std.proofs.Common.{◌≡◌, ℕ, suc, Bool, true, false, ◌||◌, nat_eq, nat_lt, if◌then◌else◌, Some, List, [], ◌∷◌, ◌++◌}
use Rattle.std.specs.List.{All}
use Rattle.std.proofs.lemmas.List.Elements.{All-cons, All-nil, All-pop}
use Rattle.line_base.specs.declared.rule.Rule.TheVariants.{InitOrder, InitRepeat}
use Rattle.psi5_init.specs.declared.code.Code.{Code}
use Rattle.psi5_init.specs.declared.code.Code.TheVariants as code
use Rattle.psi5_init.specs.declared.step.InitStep.{InitStep}
use Rattle.psi5_init.specs.Standings.{BlockRead, Led, Standing, quietly, begun, again, after_idle, with_pair, after_id, may_end, next_id, after_value, led_by, steps_from}
use Rattle.psi5_init.specs.Readings.{init_reading}
use Rattle.psi5_init.proofs.LookingBack.{reading-stands}
use Rattle.psi5_init.specs.Standings.Standing.{Fresh, Idle, AwaitsValue, AwaitsId}
use Rattle.psi5_init.specs.Meanings.{IsInitStep}

-- one of two
either : (b : Bool) (x y : Led) → IsInitStep x.step → IsInitStep y.step → IsInitStep (if b then x else y).step
either true x y one other = one
either false x y one other = other

idle-breaks : (c : Code) → IsInitStep (after_idle c).step
idle-breaks (code.Block id) = either (nat_eq id 1) (quietly (begun 1 false 0)) (again InitOrder (code.Block id)) tt tt
idle-breaks (code.Value value) = tt
idle-breaks (code.Signal n) = tt
idle-breaks code.Ready = tt
idle-breaks code.Busy = tt
idle-breaks code.Defect = tt
idle-breaks (code.Reserved n) = tt

pair-breaks : (repeats : ℕ) (b : BlockRead) (value : ℕ) → IsInitStep (with_pair repeats b value).step
pair-breaks repeats b value = either (nat_eq (suc b.pairs) repeats) _ _ tt tt

value-breaks : (repeats : ℕ) (b : BlockRead) (c : Code) → IsInitStep (after_id repeats b c).step
value-breaks repeats b (code.Value value) =
    either (nat_eq b.pairs 0 || nat_eq value b.value) (with_pair repeats b value) (again InitRepeat (code.Value value)) (pair-breaks repeats b value) tt
value-breaks repeats b (code.Block id) = tt
value-breaks repeats b (code.Signal n) = tt
value-breaks repeats b code.Ready = tt
value-breaks repeats b code.Busy = tt
value-breaks repeats b code.Defect = tt
value-breaks repeats b (code.Reserved n) = tt

id-breaks : (repeats : ℕ) (b : BlockRead) (c : Code) → IsInitStep (after_value repeats b c).step
id-breaks repeats b (code.Block id) =
    either (nat_eq id b.id) _ _ (either (nat_lt b.pairs repeats) (quietly (AwaitsValue b)) (again InitRepeat (code.Block id)) tt tt)
    (either (nat_eq id (next_id b.id)) _ _ (either (may_end repeats b) (quietly (begun id false b.blocks)) (again InitRepeat (code.Block id)) tt tt) tt)
id-breaks repeats b code.Ready = either (may_end repeats b) _ (again InitRepeat code.Ready) tt tt
id-breaks repeats b (code.Value value) = tt
id-breaks repeats b (code.Signal n) = tt
id-breaks repeats b code.Busy = tt
id-breaks repeats b code.Defect = tt
id-breaks repeats b (code.Reserved n) = tt

led-breaks : (repeats : ℕ) (standing : Standing) (c : Code) → IsInitStep (led_by repeats standing c).step
unfolding led_by
led-breaks repeats Fresh c = tt
led-breaks repeats Idle c = idle-breaks c
led-breaks repeats (AwaitsValue b) c = value-breaks repeats b c
led-breaks repeats (AwaitsId b) c = id-breaks repeats b c

from-break : (repeats : ℕ) (standing : Standing) (codes : List Code) → All IsInitStep (steps_from repeats standing codes)
unfolding steps_from
from-break repeats standing [] = All-nil IsInitStep
from-break repeats standing (c ∷ codes) =
    All-cons IsInitStep (led_by repeats standing c).step (steps_from repeats (led_by repeats standing c).next codes) (led-breaks repeats standing c) (from-break repeats (led_by repeats standing c).next codes)

pub steps-break : (repeats : ℕ) (codes : List Code) → All IsInitStep (init_reading repeats codes)
steps-break repeats codes = rw (reading-stands repeats codes) (from-break repeats Fresh codes)

pub last-breaks : (repeats : ℕ) (codes : List Code) (steps : List InitStep) (says : InitStep) → init_reading repeats codes ≡ steps ++ says ∷ [] → IsInitStep says
last-breaks repeats codes steps says is = (All-pop IsInitStep (init_reading repeats codes) steps (Some says) is (steps-break repeats codes)).1
