-- The steps by which a row is judged.
use Rattle.std.proofs.Common.{◌≡◌, ℕ, ◌+◌, ◌*◌, ◌^◌, ◌<◌, ◌≤◌, Bool, true, false, nat_le, is_some, Option, Some, None, Result, Ok, Err, List, [], ◌∷◌, length, refl, sym, ◌∙◌, ap, subst, arith, zero-add}
use Rattle.std.specs.Option.{option_map, ok_or}
use Rattle.std.proofs.lemmas.Bool.{false≢true, le-leb, lt-leb, eq-eqb, ne_eqb}
use Rattle.line_base.specs.declared.faults.LineFault.{LineFault}
use Rattle.line_base.specs.declared.faults.LineFault.TheVariants.{Field, Number, Level, TimeBack, TooLarge}
use Rattle.line_base.specs.Texts.{cut_at, number_in}
use Rattle.edge_trace.specs.Fields.{fields, without_blanks, seconds_in, level_in}
use Rattle.line_base.specs.Steps.{◌>>=◌, check}
use Rattle.edge_trace.specs.Rows.{Form, Narrow, Units, Wide, unit_of, Stamp, Absolute, Step, steps_in, stamp_in, time_field, line_field, Row, narrow_row}
use Rattle.edge_trace.specs.Readings.{form_of, stamp_time, time_behind, seen_by, IsStamped}
use Rattle.edge_trace.specs.declared.form.Form as code
use Rattle.edge_trace.specs.declared.form.Form.TheVariants as variant
use denote.Ref.{Bor}
use Rattle.std.specs.Option.{option_copied}
use Rattle.edge_trace.proofs.FieldCuts.{fields_last, fields_more, has_first_field}

module _ {A B C : Type 0} (view : A → B) where
  -- a fault that is seen is the fault of what goes on from there
  pub bind_err : (r : Result A LineFault) (fault : LineFault) (next : A → Result C LineFault) → Err fault ≡ seen_by view r → (r >>= next) ≡ Err fault
  bind_err (Ok x) fault next e = cc
  bind_err (Err other) fault next e = cc

-- the value that is seen
pub record Found {A B : Type 0} (view : A → B) (r : Result A LineFault) (seen : B) : Type 0 where
  pub value : A
  pub is : r ≡ Ok value
  pub seen_is : seen ≡ view value

pub found : {A B : Type 0} (view : A → B) (r : Result A LineFault) (seen : B) → Ok seen ≡ seen_by view r → Found view r seen
found view (Ok x) seen e = record { value = x; is = refl; seen_is = cc }
found view (Err fault) seen e = cc

-- the time of a stamp
checked : (time_at : Stamp → ℕ) (stamp : Stamp) (time : ℕ) (t : Bool) → time ≡ time_at stamp → (check t TooLarge >>= λ _. Ok time) ≡ seen_by time_at (check t TooLarge >>= λ _. Ok stamp)
checked time_at stamp time true e = ap (λ x. Ok x) e
checked time_at stamp time false e = refl

timed : (time_at : Stamp → ℕ) (make : ℕ → Stamp) (before unit : ℕ) → ((n : ℕ) → before + unit * n ≡ time_at (make n)) → (count : Option ℕ) → time_behind before unit count ≡ seen_by time_at (ok_or (option_map make count) Number >>= λ stamp. check (nat_le (time_at stamp) (10 ^ 15)) TooLarge >>= λ _. Ok stamp)
timed time_at make before unit same None = refl
timed time_at make before unit same (Some n) =
    checked time_at (make n) (before + unit * n) (nat_le (before + unit * n) (10 ^ 15)) (same n)
    ∙ ap (λ t. seen_by time_at (check (nat_le t (10 ^ 15)) TooLarge >>= λ _. Ok (make n))) (same n)

pub narrow_time : (before : ℕ) (field : List ℕ) → time_behind 0 1 (number_in field) ≡ seen_by (stamp_time 1 before) (time_field Narrow (stamp_time 1 before) field)
unfolding stamp_in
narrow_time before field = timed (stamp_time 1 before) (λ n. Absolute n) 0 1 (λ n. zero-add (1 * n)) (number_in field)

pub wide_time : (columns before : ℕ) (field : List ℕ) → time_behind 0 1 (seconds_in field) ≡ seen_by (stamp_time 1 before) (time_field (Wide columns) (stamp_time 1 before) field)
unfolding stamp_in
wide_time columns before field = timed (stamp_time 1 before) (λ n. Absolute n) 0 1 (λ n. zero-add (1 * n)) (seconds_in field)

pub step_time : (unit before : ℕ) (field digits : List ℕ) (first : ℕ) → field ≡ first ∷ digits → first ≡ 43 → time_behind before unit (number_in digits) ≡ seen_by (stamp_time unit before) (time_field (Units unit) (stamp_time unit before) field)
unfolding stamp_in
step_time unit before field digits first e plus =
    rw (e, eq-eqb first 43 plus) (timed (stamp_time unit before) (λ n. Step n) before unit (λ n. refl) (number_in digits))

absolute_at : (unit before : ℕ) (field : List ℕ) → steps_in field ≡ option_map Absolute (number_in field) → time_behind 0 unit (number_in field) ≡ seen_by (stamp_time unit before) (time_field (Units unit) (stamp_time unit before) field)
unfolding stamp_in
absolute_at unit before field e =
    timed (stamp_time unit before) (λ n. Absolute n) 0 unit (λ n. zero-add (unit * n)) (number_in field)
    ∙ ap (λ s. seen_by (stamp_time unit before) (ok_or s Number >>= λ stamp. check (nat_le (stamp_time unit before stamp) (10 ^ 15)) TooLarge >>= λ _. Ok stamp)) (sym e)

no_digits : None ≡ number_in []
unfolding number_in
no_digits = refl

pub no_field_time : (unit before : ℕ) (field : List ℕ) → length field ≡ 0 → time_behind 0 unit (number_in field) ≡ seen_by (stamp_time unit before) (time_field (Units unit) (stamp_time unit before) field)
no_field_time unit before [] e = absolute_at unit before [] (ap (option_map Absolute) no_digits)
no_field_time unit before (byte ∷ bytes) e = absurd (omega arith)

pub absolute_time : (unit before : ℕ) (field digits : List ℕ) (first : ℕ) → field ≡ first ∷ digits → (first ≡ 43 → ⊥) → time_behind 0 unit (number_in field) ≡ seen_by (stamp_time unit before) (time_field (Units unit) (stamp_time unit before) field)
absolute_time unit before field digits first e other = absolute_at unit before field (rw (e, ne_eqb first 43 other) refl)

-- a line that hasn't three fields
pub one_field : (content before : List ℕ) → (before, None) ≡ cut_at 44 content → (form : Form) (time_at : Stamp → ℕ) (last : ℕ) → narrow_row form time_at last (fields content) ≡ Err Field
unfolding narrow_row
one_field content before e form time_at last = ap (narrow_row form time_at last) (fields_last content before e)

pub two_fields : (content before rest line : List ℕ) → (before, Some rest) ≡ cut_at 44 content → (line, None) ≡ cut_at 44 rest → (form : Form) (time_at : Stamp → ℕ) (last : ℕ) → narrow_row form time_at last (fields content) ≡ Err Field
unfolding narrow_row
two_fields content before rest line e f form time_at last =
    ap (narrow_row form time_at last) (fields_more content before rest e ∙ ap (λ fs. without_blanks before ∷ fs) (fields_last rest line f))

pub many_fields : (content before rest line others level more : List ℕ) → (before, Some rest) ≡ cut_at 44 content → (line, Some others) ≡ cut_at 44 rest → (level, Some more) ≡ cut_at 44 others → (form : Form) (time_at : Stamp → ℕ) (last : ℕ) → narrow_row form time_at last (fields content) ≡ Err Field
unfolding narrow_row
many_fields content before rest line others level more e f g form time_at last =
    let h = has_first_field more in
    ap (narrow_row form time_at last) (fields_more content before rest e ∙ ap (λ fs. without_blanks before ∷ fs) (fields_more rest line others f
    ∙ ap (λ fs. without_blanks line ∷ fs) (fields_more others level more g ∙ ap (λ fs. without_blanks level ∷ fs) h.is)))

pub all_three : (content before rest line others level : List ℕ) → (before, Some rest) ≡ cut_at 44 content → (line, Some others) ≡ cut_at 44 rest → (level, None) ≡ cut_at 44 others → fields content ≡ without_blanks before ∷ without_blanks line ∷ without_blanks level ∷ []
all_three content before rest line others level e f g =
    fields_more content before rest e ∙ ap (λ fs. without_blanks before ∷ fs) (fields_more rest line others f ∙ ap (λ fs. without_blanks line ∷ fs) (fields_last others level g))

-- a narrow row, by what its fields spell
module _ (form : Form) (time_at : Stamp → ℕ) (before : ℕ) (time line level : List ℕ) where
  pub time_fault : (fault : LineFault) → Err fault ≡ seen_by time_at (time_field form time_at time) → narrow_row form time_at before (time ∷ line ∷ level ∷ []) ≡ Err fault
  unfolding narrow_row
  time_fault fault e = bind_err time_at (time_field form time_at time) fault _ e

  pub line_fault : (stamp : Stamp) (fault : LineFault) → time_field form time_at time ≡ Ok stamp → Err fault ≡ line_field line → narrow_row form time_at before (time ∷ line ∷ level ∷ []) ≡ Err fault
  unfolding narrow_row
  line_fault stamp fault e f = rw (e, sym f) refl

  pub level_fault : (stamp : Stamp) (number : ℕ) → time_field form time_at time ≡ Ok stamp → Ok number ≡ line_field line → None ≡ level_in level → narrow_row form time_at before (time ∷ line ∷ level ∷ []) ≡ Err Level
  unfolding narrow_row
  level_fault stamp number e f g = rw (e, sym f, sym g) refl

  pub back_fault : (stamp : Stamp) (number : ℕ) (high : Bool) → time_field form time_at time ≡ Ok stamp → Ok number ≡ line_field line → Some high ≡ level_in level → time_at stamp < before → narrow_row form time_at before (time ∷ line ∷ level ∷ []) ≡ Err TimeBack
  unfolding narrow_row
  back_fault stamp number high e f g back = rw (e, sym f, sym g, lt-leb before (time_at stamp) back) refl

  pub good_row : (stamp : Stamp) (number : ℕ) (high : Bool) → time_field form time_at time ≡ Ok stamp → Ok number ≡ line_field line → Some high ≡ level_in level → before ≤ time_at stamp → narrow_row form time_at before (time ∷ line ∷ level ∷ []) ≡ Ok (record { stamp = stamp; said = record { line = number; time = time_at stamp; level = high } ∷ [] })
  unfolding narrow_row
  good_row stamp number high e f g later = rw (e, sym f, sym g, le-leb before (time_at stamp) later) refl

-- the same where the form is known by an equation
pub narrow_form_time : (form : code.Form) (before : ℕ) (field : List ℕ) → form ≡ variant.Narrow → time_behind 0 1 (number_in field) ≡ seen_by (stamp_time (unit_of (form_of form)) before) (time_field (form_of form) (stamp_time (unit_of (form_of form)) before) field)
narrow_form_time form before field e = subst (λ (f : code.Form). time_behind 0 1 (number_in field) ≡ seen_by (stamp_time (unit_of (form_of f)) before) (time_field (form_of f) (stamp_time (unit_of (form_of f)) before) field)) (sym e) (narrow_time before field)

pub wide_form_time : (form : code.Form) (columns before : ℕ) (field : List ℕ) → form ≡ variant.Wide columns → time_behind 0 1 (seconds_in field) ≡ seen_by (stamp_time (unit_of (form_of form)) before) (time_field (form_of form) (stamp_time (unit_of (form_of form)) before) field)
wide_form_time form columns before field e = subst (λ (f : code.Form). time_behind 0 1 (seconds_in field) ≡ seen_by (stamp_time (unit_of (form_of f)) before) (time_field (form_of f) (stamp_time (unit_of (form_of f)) before) field)) (sym e) (wide_time columns before field)

-- what a cut found
pub cut_without : (mark : ℕ) (text before : List ℕ) (rest : Option (Bor (List ℕ))) → (before, option_copied rest) ≡ cut_at mark text → rest ≡ None → (before, None) ≡ cut_at mark text
cut_without mark text before rest e f = ap (λ (r : Option (Bor (List ℕ))). (before, option_copied r)) (sym f) ∙ e

pub cut_with : (mark : ℕ) (text before : List ℕ) (rest : Option (Bor (List ℕ))) (found : Bor (List ℕ)) → (before, option_copied rest) ≡ cut_at mark text → rest ≡ Some found → (before, Some found.now) ≡ cut_at mark text
cut_with mark text before rest found e f = ap (λ (r : Option (Bor (List ℕ))). (before, option_copied r)) (sym f) ∙ e

-- whether there is more behind a field
pub record HasMore {A : Type 0} (o : Option A) : Type 0 where
  pub rest : A
  pub is : o ≡ Some rest

pub more_there : {A : Type 0} (o : Option A) → is_some o ≡ true → HasMore o
more_there None e = absurd (false≢true e)
more_there (Some rest) e = record { rest = rest; is = refl }

pub no_more : {A : Type 0} (o : Option A) → is_some o ≡ false → o ≡ None
no_more None e = refl
no_more (Some rest) e = absurd (false≢true (sym e))

-- what a narrow row is, by what is known of its three fields
pub judged : (form : Form) (time_at : Stamp → ℕ) (before : ℕ) (content time line level : List ℕ) (r : Result Row LineFault) → fields content ≡ time ∷ line ∷ level ∷ [] → narrow_row form time_at before (time ∷ line ∷ level ∷ []) ≡ r → narrow_row form time_at before (fields content) ≡ r
judged form time_at before content time line level r e f = ap (narrow_row form time_at before) e ∙ f

-- a narrow row without a fault
pub stamped : (form : Form) (time_at : Stamp → ℕ) (before : ℕ) (content time line level : List ℕ) (seen number : ℕ) (high : Bool) → fields content ≡ time ∷ line ∷ level ∷ [] → Ok seen ≡ seen_by time_at (time_field form time_at time) → Ok number ≡ line_field line → Some high ≡ level_in level → before ≤ seen → IsStamped time_at (narrow_row form time_at before (fields content)) seen (record { line = number; time = seen; level = high } ∷ [])
stamped form time_at before content time line level seen number high parts e f g later =
    let t = found time_at (time_field form time_at time) seen e in
    let seen_is : seen ≡ time_at t.value = t.seen_is in
    record {
      stamp = t.value;
      is = judged form time_at before content time line level _ parts (good_row form time_at before time line level t.value number high t.is f g (omega arith))
          ∙ ap (λ (k : ℕ). Ok (record { stamp = t.value; said = record { line = number; time = k; level = high } ∷ [] })) (sym seen_is);
      time_is = seen_is;
    }
