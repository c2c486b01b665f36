-- How a reader that is fed one element after another, or several at once, goes on.
use Rattle.std.proofs.Common.{◌≡◌, List, [], ◌∷◌, ◌++◌, sym, ap, ◌∙◌, append_assoc, append-nil}
use Rattle.line_base.specs.Readers.{GoesOn}

-- the answers grow by those to the new elements
pub grows_by : {X Y : Type 0} {so_far : List X → List Y} {seen : List X} {g : List X → List Y}
    → (xs : List X) (answers : List Y) (h : List X → List Y) → GoesOn so_far seen g
    → ((more : List X) → g (xs ++ more) ≡ answers ++ h more) → h [] ≡ []
    → so_far (seen ++ xs) ≡ so_far seen ++ answers
grows_by {so_far = so_far} {seen = seen} {g = g} xs answers h before step none =
    before.each xs ∙ ap (λ l. so_far seen ++ l)
    (ap g (sym (append-nil xs)) ∙ step [] ∙ ap (λ l. answers ++ l) none ∙ append-nil answers)

-- and whatever comes after them is answered from the new standing
pub goes_on_by : {X Y : Type 0} {so_far : List X → List Y} {seen : List X} {g : List X → List Y}
    → (xs : List X) (answers : List Y) (h : List X → List Y) → GoesOn so_far seen g
    → ((more : List X) → g (xs ++ more) ≡ answers ++ h more) → h [] ≡ []
    → GoesOn so_far (seen ++ xs) h
goes_on_by {so_far = so_far} {seen = seen} {g = g} xs answers h before step none = record {
  each = λ more.
      ap so_far (append_assoc seen xs more) ∙ before.each (xs ++ more)
      ∙ ap (λ l. so_far seen ++ l) (step more)
      ∙ sym (append_assoc (so_far seen) answers (h more))
      ∙ ap (λ l. l ++ h more) (sym (grows_by xs answers h before step none));
}

-- the answers grow by those to the new element
pub grows : {X Y : Type 0} {so_far : List X → List Y} {seen : List X} {g : List X → List Y}
    → (x : X) (answers : List Y) (h : List X → List Y) → GoesOn so_far seen g
    → ((more : List X) → g (x ∷ more) ≡ answers ++ h more) → h [] ≡ []
    → so_far (seen ++ x ∷ []) ≡ so_far seen ++ answers
grows x answers h before step none = grows_by (x ∷ []) answers h before step none

-- and whatever comes after it is answered from the new standing
pub goes_on : {X Y : Type 0} {so_far : List X → List Y} {seen : List X} {g : List X → List Y}
    → (x : X) (answers : List Y) (h : List X → List Y) → GoesOn so_far seen g
    → ((more : List X) → g (x ∷ more) ≡ answers ++ h more) → h [] ≡ []
    → GoesOn so_far (seen ++ x ∷ []) h
goes_on x answers h before step none = goes_on_by (x ∷ []) answers h before step none
