-- What is read of fields is told by those fields alone, however many they are.
use Rattle.std.proofs.Common.{◌≡◌, ℕ, Bool, true, false, cond, Option, Some, Result, Ok, ok_or, List, [], ◌∷◌, ◌++◌, bytes_eq, refl, sym, ◌∙◌, ap, subst}
use Rattle.std.specs.List.{list_all}
use Rattle.std.proofs.lemmas.Slice.Eq.{bytes_eq-Decides}
use Rattle.std.proofs.lemmas.Bool.{and_from}
use Rattle.std.proofs.lemmas.List.{append_assoc}
use Rattle.report_text.specs.declared.fault.TextFault.{TextFault}
use Rattle.report_text.specs.declared.fault.TextFault.TheVariants.{Word}
use Rattle.line_base.specs.Steps.{◌>>=◌}
use Rattle.line_base.specs.Texts.{looked_up}
use Rattle.report_text.specs.Fields.{field_read, value_read}
use Rattle.report_text.proofs.Steps.{bind_ok, some_ok, ok_is}
use Rattle.report_text.proofs.Cutting.{is_other, are_free, field_taken}
use Rattle.report_text.proofs.Spellings.{Spells, value_taken}

-- the fields before and those that a value is read from are the fields of the value, which fits
pub record TakenAs {A : Type 0} (told : A → List (List ℕ)) (Fits : A → Type 0) (before : List (List ℕ)) (read : List (List ℕ) → Result (A × List (List ℕ)) TextFault) : Type 0 where
  pub taken : (fields : List (List ℕ)) (found : A × List (List ℕ)) → read fields ≡ Ok found → (before ++ fields ≡ told found.0 ++ found.1) × Fits found.0

-- nothing more is read
pub at_end : {A : Type 0} (told : A → List (List ℕ)) (Fits : A → Type 0) (before : List (List ℕ)) (x : A) → before ≡ told x → Fits x → TakenAs told Fits before (λ fields. Ok (x, fields))
at_end {A} told Fits before x e fits = record {
  taken = λ fields found read. (let made : A × List (List ℕ) = (x, fields) in
      subst (λ (f : A × List (List ℕ)). (before ++ fields ≡ told f.0 ++ f.1) × Fits f.0) (ok_is made found read) (ap (λ (b : List (List ℕ)). b ++ fields) e, fits));
}

-- a value of some fields is read, and then more
pub after_read : {A B : Type 0} (told : A → List (List ℕ)) (Fits : A → Type 0) (before : List (List ℕ)) (told' : B → List (List ℕ)) (Fits' : B → Type 0) (read' : List (List ℕ) → Result (B × List (List ℕ)) TextFault)
    → TakenAs told' Fits' [] read' → (next : B → List (List ℕ) → Result (A × List (List ℕ)) TextFault)
    → ((x : B) → Fits' x → TakenAs told Fits (before ++ told' x) (next x)) → TakenAs told Fits before (λ fields. read' fields >>= λ x. next x.0 x.1)
after_read told Fits before told' Fits' read' t next later = record {
  taken = λ fields found e. (let x = bind_ok (read' fields) (λ x. next x.0 x.1) found e in
      let first = t.taken fields x.0 x.1 in
      let rest = (later x.0.0 first.1).taken x.0.1 found x.2 in
      (ap (λ (fs : List (List ℕ)). before ++ fs) first.0 ∙ sym (append_assoc before (told' x.0.0) x.0.1) ∙ rest.0, rest.1));
}

-- a value of one field
pub one_field : {A : Type 0} (text : A → List ℕ) (spelled : List ℕ → Result A TextFault) (Fits : A → Type 0) → Spells text spelled Fits → TakenAs (λ x. text x ∷ []) Fits [] (value_read spelled)
one_field text spelled Fits s = record { taken = λ fields found e. value_taken text spelled Fits s fields found e }

-- a value of one field is read, and then more
pub after_field : {A B : Type 0} (told : A → List (List ℕ)) (Fits : A → Type 0) (before : List (List ℕ)) (text : B → List ℕ) (spelled : List ℕ → Result B TextFault) (Fits' : B → Type 0)
    → Spells text spelled Fits' → (next : B → List (List ℕ) → Result (A × List (List ℕ)) TextFault)
    → ((x : B) → Fits' x → TakenAs told Fits (before ++ text x ∷ []) (next x)) → TakenAs told Fits before (λ fields. value_read spelled fields >>= λ x. next x.0 x.1)
after_field told Fits before text spelled Fits' s next later = after_read told Fits before (λ x. text x ∷ []) Fits' (value_read spelled) (one_field text spelled Fits' s) next later

-- ---- tables of words

-- a row of a table: a word, and what is read behind it
abbrev pub Row : Type 0 → Type 0
Row A = List ℕ × (List (List ℕ) → Result (A × List (List ℕ)) TextFault)

-- each row of a table is told by its word and the fields behind it
abbrev pub AreTaken : {A : Type 0} → (A → List (List ℕ)) → (A → Type 0) → List (Row A) → Type 0
AreTaken told Fits [] = Unit {0}
AreTaken told Fits (row ∷ rows) = TakenAs told Fits (row.0 ∷ []) row.1 × AreTaken told Fits rows

row_found : {A : Type 0} (told : A → List (List ℕ)) (Fits : A → Type 0) (t : Bool) (word : List ℕ) (row : Row A) (others : Option (List (List ℕ) → Result (A × List (List ℕ)) TextFault)) (read : List (List ℕ) → Result (A × List (List ℕ)) TextFault)
    → bytes_eq word row.0 ≡ t → TakenAs told Fits (row.0 ∷ []) row.1 → (others ≡ Some read → TakenAs told Fits (word ∷ []) read) → cond t (Some row.1) others ≡ Some read → TakenAs told Fits (word ∷ []) read
row_found {A} told Fits true word row others read here line later e =
    let same : word ≡ row.0 = (bytes_eq-Decides word row.0).0 here in
    let own : row.1 ≡ read = cc in
    subst (λ (r : List (List ℕ) → Result (A × List (List ℕ)) TextFault). TakenAs told Fits (word ∷ []) r) own (subst (λ (w : List ℕ). TakenAs told Fits (w ∷ []) row.1) (sym same) line)
row_found told Fits false word row others read here line later e = later e

found_row : {A : Type 0} (told : A → List (List ℕ)) (Fits : A → Type 0) (rows : List (Row A)) → AreTaken told Fits rows → (word : List ℕ) (read : List (List ℕ) → Result (A × List (List ℕ)) TextFault) → looked_up rows word ≡ Some read → TakenAs told Fits (word ∷ []) read
found_row told Fits [] lines word read e = absurd cc
found_row told Fits (row ∷ rows) lines word read e = row_found told Fits (bytes_eq word row.0) word row (looked_up rows word) read refl lines.0 (found_row told Fits rows lines.1 word read) e

-- what is read by a table is told by its word and the fields behind it
pub table_taken : {A : Type 0} (told : A → List (List ℕ)) (Fits : A → Type 0) (rows : List (Row A)) → AreTaken told Fits rows → TakenAs told Fits [] (λ fields. field_read fields >>= λ word. ok_or (looked_up rows word.0) Word >>= λ read. read word.1)
table_taken told Fits rows lines = record {
  taken = λ fields found e. (let word = bind_ok (field_read fields) (λ word. ok_or (looked_up rows word.0) Word >>= λ read. read word.1) found e in
      let row = bind_ok (ok_or (looked_up rows word.0.0) Word) (λ read. read word.0.1) found word.2 in
      let line = found_row told Fits rows lines word.0.0 row.0 (some_ok (looked_up rows word.0.0) Word row.0 row.1) in
      let t = line.taken word.0.1 found row.2 in
      (field_taken fields word.0.0 word.0.1 word.1 ∙ t.0, t.1));
}

-- ---- spaces

-- no space stands in a field of a value that fits
pub field_free : {A : Type 0} (text : A → List ℕ) (spelled : List ℕ → Result A TextFault) (Fits : A → Type 0) (s : Spells text spelled Fits) (x : A) (others : List (List ℕ)) → Fits x → are_free others ≡ true → are_free (text x ∷ others) ≡ true
field_free text spelled Fits s x others fits free = and_from (list_all is_other (text x)) (are_free others) (s.free x fits) free
