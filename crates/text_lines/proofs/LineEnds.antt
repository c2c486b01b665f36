-- Lines without their CR.
use Rattle.std.proofs.Common.{◌≡◌, ℕ, ◌==◌, Bool, true, false, cond, List, [], ◌∷◌, ◌++◌, length, refl, sym, ◌∙◌, ap, arith}
use Rattle.std.proofs.lemmas.Bool.{ne_eqb, eq-eqb}
use Rattle.text_lines.specs.Lines.{without_cr}

cons_cond : {A : Type 0} (t : Bool) (x : A) (xs ys : List A) → x ∷ cond t xs ys ≡ cond t (x ∷ xs) (x ∷ ys)
cons_cond true x xs ys = refl
cons_cond false x xs ys = refl

-- what a last byte gives: a CR is dropped, any other byte stays
pub without_cr_push : (front : List ℕ) (byte : ℕ) → without_cr (front ++ byte ∷ []) ≡ cond (byte == 13) front (front ++ byte ∷ [])
without_cr_push [] byte = refl
without_cr_push (first ∷ []) byte = cons_cond (byte == 13) first [] (byte ∷ [])
without_cr_push (first ∷ next ∷ front) byte = ap (λ line. first ∷ line) (without_cr_push (next ∷ front) byte) ∙ cons_cond (byte == 13) first (next ∷ front) (next ∷ (front ++ byte ∷ []))

-- a line that ends in a CR, and one that ends in another byte
pub drops_cr : (line front : List ℕ) (byte : ℕ) → line ≡ front ++ byte ∷ [] → byte ≡ 13 → front ≡ without_cr line
drops_cr line front byte e cr = sym (ap without_cr e ∙ without_cr_push front byte ∙ ap (λ t. cond t front (front ++ byte ∷ [])) (eq-eqb byte 13 cr))

pub keeps_line : (line front : List ℕ) (byte : ℕ) → line ≡ front ++ byte ∷ [] → (byte ≡ 13 → ⊥) → line ≡ without_cr line
keeps_line line front byte e other = sym (ap without_cr e ∙ without_cr_push front byte ∙ ap (λ t. cond t front (front ++ byte ∷ [])) (ne_eqb byte 13 other) ∙ sym e)

pub empty_line : (line : List ℕ) → length line ≡ 0 → line ≡ without_cr line
empty_line [] e = refl
empty_line (byte ∷ bytes) e = absurd (omega arith)
