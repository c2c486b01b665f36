-- What follows from steps that didn't fail.
use Rattle.std.proofs.Common.{◌≡◌, Bool, true, false, Option, Some, None, Result, Ok, Err, ok_or, refl}
use Rattle.report_text.specs.declared.fault.TextFault.{TextFault}
use Rattle.line_base.specs.Steps.{◌>>=◌, check}

-- the value of a step that did not fail
pub bind_ok : {A B : Type 0} (r : Result A TextFault) (next : A → Result B TextFault) (y : B) → (r >>= next) ≡ Ok y → (x : A) × (r ≡ Ok x) × (next x ≡ Ok y)
bind_ok (Ok x) next y e = (x, refl, e)
bind_ok (Err fault) next y e = absurd cc

-- a test that did not fail
pub check_ok : {B : Type 0} (t : Bool) (fault : TextFault) (r : Result B TextFault) (y : B) → (check t fault >>= λ _. r) ≡ Ok y → (t ≡ true) × (r ≡ Ok y)
check_ok true fault r y e = (refl, e)
check_ok false fault r y e = absurd cc

-- a value that was there
pub some_ok : {A : Type 0} (o : Option A) (fault : TextFault) (x : A) → ok_or o fault ≡ Ok x → o ≡ Some x
some_ok None fault x e = absurd cc
some_ok (Some y) fault x e = cc

done : {A : Type 0} → A → Result A TextFault
done x = Ok x

-- two good answers that are one
pub ok_is : {A : Type 0} (x y : A) → ◌≡◌ {A = Result A TextFault} (Ok x) (Ok y) → x ≡ y
ok_is x y e = cc
