-- Fronts of lists.
use Rattle.std.proofs.Common.{◌≡◌, List, [], ◌++◌, refl, sym, ap, ◌∙◌, append_assoc, append-nil}
use Rattle.line_base.specs.Streams.{IsFrontOf}

-- a list is a front of itself
pub IsFrontOf-refl : {A : Type 0} (xs : List A) → IsFrontOf xs xs
IsFrontOf-refl xs = record { rest = []; is = sym (append-nil xs) }

-- the empty list is a front of each list
pub IsFrontOf-nil : {A : Type 0} (xs : List A) → IsFrontOf [] xs
IsFrontOf-nil xs = record { rest = xs; is = refl }

-- the left part is a front of the whole
pub IsFrontOf-append : {A : Type 0} (front rest : List A) → IsFrontOf front (front ++ rest)
IsFrontOf-append front rest = record { rest = rest; is = refl }

-- a longer list has the same fronts
pub IsFrontOf-longer : {A : Type 0} {front whole : List A} (more : List A) → IsFrontOf front whole → IsFrontOf front (whole ++ more)
IsFrontOf-longer {front = front} more h =
    record { rest = h.rest ++ more; is = ap (λ l. l ++ more) h.is ∙ append_assoc front h.rest more }

-- what a front begins with is a front too
pub IsFrontOf-shorter : {A : Type 0} {whole : List A} (front more : List A) → IsFrontOf (front ++ more) whole → IsFrontOf front whole
IsFrontOf-shorter front more h = record { rest = more ++ h.rest; is = h.is ∙ append_assoc front more h.rest }

-- a front, and the elements after it, are a front too
pub IsFrontOf-extended : {A : Type 0} {front whole : List A} (more rest : List A) (h : IsFrontOf front whole) → h.rest ≡ more ++ rest → IsFrontOf (front ++ more) whole
IsFrontOf-extended {front = front} more rest h follows =
    record { rest = rest; is = h.is ∙ ap (λ l. front ++ l) follows ∙ sym (append_assoc front more rest) }

-- a front of a front is a front
pub IsFrontOf-trans : {A : Type 0} {xs ys zs : List A} → IsFrontOf xs ys → IsFrontOf ys zs → IsFrontOf xs zs
IsFrontOf-trans {xs = xs} {zs = zs} p q =
    record { rest = p.rest ++ q.rest; is = q.is ∙ ap (λ l. l ++ q.rest) p.is ∙ append_assoc xs p.rest q.rest }

-- the same elements before both
pub IsFrontOf-after : {A : Type 0} {xs ys : List A} (before : List A) → IsFrontOf xs ys → IsFrontOf (before ++ xs) (before ++ ys)
IsFrontOf-after {xs = xs} before h =
    record { rest = h.rest; is = ap (λ l. before ++ l) h.is ∙ sym (append_assoc before xs h.rest) }
