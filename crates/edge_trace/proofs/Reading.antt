-- What a row gives behind the rows before it, by the time of the last one and the levels that are kept.
use Rattle.std.proofs.Common.{◌≡◌, ℕ, zero, suc, ◌+◌, ◌^◌, ◌<◌, ◌≤◌, ◌==◌, Bool, false, cond, nat_lt, Option, Some, None, Result, Ok, Err, List, [], ◌∷◌, ◌++◌, length, get_or, filter, refl, sym, ◌∙◌, ap, subst, inl, inr, arith, codes}
use Rattle.std.proofs.lemmas.Bool.{lt-ltb, le-ltb, eq-eqb, ne_eqb, cases_lt}
use Rattle.line_base.specs.declared.edge.Edge.{Edge}
use Rattle.line_base.specs.declared.faults.LineFault.{LineFault}
use Rattle.std.specs.Option.{ok_or}
use Rattle.line_base.specs.declared.faults.LineFault.TheVariants.{Field}
use Rattle.line_base.specs.Texts.{after_front}
use Rattle.edge_trace.specs.Fields.{fields}
use Rattle.line_base.specs.Steps.{◌>>=◌}
use Rattle.edge_trace.specs.Rows.{Form, Narrow, Units, Wide, unit_of, Stamp, Absolute, Step, units_of, time_of, Row, row_in, narrow_row, wide_row, said_from}
use Rattle.edge_trace.specs.EdgeLists.{is_new, level_before, edges_among, row_read, Standing, InRows, columns_in, header_read, narrow_form, forming_read, option_else, without_row, is_skipped, content_read}
use Rattle.edge_trace.specs.Readings.{form_of, IsForm, stamp_time, IsStamped, HasLevels, HasRead, IsInRows, IsAt}
use Rattle.edge_trace.specs.declared.form.Form as code
use Rattle.edge_trace.specs.declared.form.Form.TheVariants as variant
use Rattle.edge_trace.specs.declared.state.State.{State}
use Rattle.edge_trace.specs.declared.state.State.TheVariants as state

-- the time of one more row
pub time_same : (form : Form) (stamps : List Stamp) (stamp : Stamp) → time_of form (stamp ∷ stamps) ≡ stamp_time (unit_of form) (time_of form stamps) stamp
unfolding units_of
time_same form stamps (Absolute units) = refl
time_same form stamps (Step units) = omega arith

times_same : (form : Form) (stamps : List Stamp) → (λ (stamp : Stamp). time_of form (stamp ∷ stamps)) ≡ stamp_time (unit_of form) (time_of form stamps)
times_same form stamps = λ i stamp. time_same form stamps stamp i

narrow_same : (form : Form) (stamps : List Stamp) (before : ℕ) (content : List ℕ) → before ≡ time_of form stamps → narrow_row form (λ stamp. time_of form (stamp ∷ stamps)) (time_of form stamps) (fields content) ≡ narrow_row form (stamp_time (unit_of form) before) before (fields content)
narrow_same form stamps before content e =
    ap (λ (f : Stamp → ℕ). narrow_row form f (time_of form stamps) (fields content)) (times_same form stamps)
    ∙ ap (λ (b : ℕ). narrow_row form (stamp_time (unit_of form) b) b (fields content)) (sym e)

pub row_narrow : (form : code.Form) → ((columns : ℕ) → form ≡ variant.Wide columns → ⊥) → (stamps : List Stamp) (before : ℕ) (content : List ℕ) → before ≡ time_of (form_of form) stamps → row_in (form_of form) stamps content ≡ narrow_row (form_of form) (stamp_time (unit_of (form_of form)) before) before (fields content)
row_narrow variant.Narrow other stamps before content e = narrow_same Narrow stamps before content e
row_narrow (variant.Units unit) other stamps before content e = narrow_same (Units unit) stamps before content e
row_narrow (variant.Wide columns) other stamps before content e = absurd (other columns refl)

pub row_wide : (columns : ℕ) (stamps : List Stamp) (before : ℕ) (content : List ℕ) → before ≡ time_of (Wide columns) stamps → row_in (Wide columns) stamps content ≡ wide_row columns (stamp_time 1 before) before (fields content)
row_wide columns stamps before content e =
    ap (λ (f : Stamp → ℕ). wide_row columns f (time_of (Wide columns) stamps) (fields content)) (times_same (Wide columns) stamps)
    ∙ ap (λ (b : ℕ). wide_row columns (stamp_time 1 b) b (fields content)) (sym e)

-- what a row gives, by what was read of it
pub row_read_ok : (form : Form) (stamps : List Stamp) (rows : List Edge) (content : List ℕ) (stamp : Stamp) (said : List Edge) → row_in form stamps content ≡ Ok (record { stamp = stamp; said = said }) → row_read form stamps rows content ≡ Ok (record { standing = InRows form (stamp ∷ stamps) (said ++ rows); edges = edges_among rows said })
row_read_ok form stamps rows content stamp said e = ap (λ (r : Result Row LineFault). r >>= λ row. Ok (record { standing = InRows form (row.stamp ∷ stamps) (row.said ++ rows); edges = edges_among rows row.said })) e

pub row_read_fault : (form : Form) (stamps : List Stamp) (rows : List Edge) (content : List ℕ) (fault : LineFault) → row_in form stamps content ≡ Err fault → row_read form stamps rows content ≡ Err fault
row_read_fault form stamps rows content fault e = ap (λ (r : Result Row LineFault). r >>= λ row. Ok (record { standing = InRows form (row.stamp ∷ stamps) (row.said ++ rows); edges = edges_among rows row.said })) e

-- the levels that are kept tell the edges
pub kept_edges : (levels : List (Option Bool)) (rows said : List Edge) → HasLevels levels rows → filter (λ (row : Edge). is_new (get_or levels row.line None) row.level) said ≡ edges_among rows said
unfolding HasLevels
kept_edges levels rows said has = λ i. filter (λ (row : Edge). is_new (has row.line i) row.level) said

-- the levels behind a narrow row
pub levels_more : (levels new : List (Option Bool)) (rows : List Edge) (edge : Edge) → HasLevels levels rows → ((line : ℕ) → get_or new line None ≡ cond (edge.line == line) (Some edge.level) (get_or levels line None)) → HasLevels new (edge ∷ rows)
unfolding HasLevels
levels_more levels new rows edge has kept = λ line. kept line ∙ ap (cond (edge.line == line) (Some edge.level)) (has line)

-- the levels behind a wide row
-- a line below the columns, a line of a column, and a line above
wide_below : (line from time : ℕ) (row : List Bool) (rows : List Edge) → line < from → level_before line (said_from from time row ++ rows) ≡ level_before line rows
wide_below line from time [] rows below = refl
wide_below line from time (level ∷ row) rows below =
    ap (λ t. cond t (Some level) (level_before line (said_from (from + 1) time row ++ rows))) (ne_eqb from line (λ e. omega (arith, e)))
    ∙ wide_below line (from + 1) time row rows (omega arith)

wide_inside : (line from time : ℕ) (row : List Bool) (rows : List Edge) (k : ℕ) → line ≡ from + k → k < length row → level_before line (said_from from time row ++ rows) ≡ Some (get_or row k false)
wide_inside line from time [] rows k e within = absurd (omega arith)
wide_inside line from time (level ∷ row) rows zero e within =
    let same : from ≡ line = omega arith in
    ap (λ t. cond t (Some level) (level_before line (said_from (from + 1) time row ++ rows))) (eq-eqb from line same)
wide_inside line from time (level ∷ row) rows (suc k) e within =
    ap (λ t. cond t (Some level) (level_before line (said_from (from + 1) time row ++ rows))) (ne_eqb from line (λ f. omega (arith, e, f)))
    ∙ wide_inside line (from + 1) time row rows k (omega arith) (omega arith)

wide_above : (line from time : ℕ) (row : List Bool) (rows : List Edge) → from + length row ≤ line → level_before line (said_from from time row ++ rows) ≡ level_before line rows
wide_above line from time [] rows above = refl
wide_above line from time (level ∷ row) rows above =
    ap (λ t. cond t (Some level) (level_before line (said_from (from + 1) time row ++ rows))) (ne_eqb from line (λ e. omega (arith, e)))
    ∙ wide_above line (from + 1) time row rows (omega arith)

pub wide_level : (line time : ℕ) (row : List Bool) (rows : List Edge) → level_before line (said_from 0 time row ++ rows) ≡ cond (nat_lt line (length row)) (Some (get_or row line false)) (level_before line rows)
wide_level line time row rows = elim (cases_lt line (length row)) [
  | inl within ↦ wide_inside line 0 time row rows line (omega arith) within ∙ ap (λ t. cond t (Some (get_or row line false)) (level_before line rows)) (sym (lt-ltb line (length row) within))
  | inr above ↦ wide_above line 0 time row rows (omega arith) ∙ ap (λ t. cond t (Some (get_or row line false)) (level_before line rows)) (sym (le-ltb line (length row) above))
]

pub levels_wide : (levels new : List (Option Bool)) (rows : List Edge) (time : ℕ) (row : List Bool) → HasLevels levels rows → ((line : ℕ) → get_or new line None ≡ cond (nat_lt line (length row)) (Some (get_or row line false)) (get_or levels line None)) → HasLevels new (said_from 0 time row ++ rows)
unfolding HasLevels
levels_wide levels new rows time row has kept = λ line. kept line ∙ ap (cond (nat_lt line (length row)) (Some (get_or row line false))) (has line) ∙ sym (wide_level line time row rows)

module _ (stamps : List Stamp) (rows : List Edge) (before time : ℕ) (content : List ℕ) (levels new : List (Option Bool)) (edges : List Edge) where
  pub narrow_read : (form : code.Form) (edge : Edge) → ((columns : ℕ) → form ≡ variant.Wide columns → ⊥) → before ≡ time_of (form_of form) stamps → HasLevels levels rows → IsStamped (stamp_time (unit_of (form_of form)) before) (narrow_row (form_of form) (stamp_time (unit_of (form_of form)) before) before (fields content)) edge.time (edge ∷ [])
      → edges ≡ filter (λ (row : Edge). is_new (get_or levels row.line None) row.level) (edge ∷ []) → ((line : ℕ) → get_or new line None ≡ cond (edge.line == line) (Some edge.level) (get_or levels line None)) → edge.time ≤ 10 ^ 15 → IsForm form
      → HasRead (state.Rows form edge.time) new edges (row_read (form_of form) stamps rows content)
  narrow_read form edge other e has stamped told kept range is_form = record {
    next = record { standing = InRows (form_of form) (stamped.stamp ∷ stamps) (edge ∷ rows); edges = edges_among rows (edge ∷ []) };
    is = row_read_ok (form_of form) stamps rows content stamped.stamp (edge ∷ []) (row_narrow form other stamps before content e ∙ stamped.is);
    at = record {
      stamps = stamped.stamp ∷ stamps;
      rows = edge ∷ rows;
      is = refl;
      time_is = stamped.time_is ∙ ap (λ b. stamp_time (unit_of (form_of form)) b stamped.stamp) e ∙ sym (time_same (form_of form) stamps stamped.stamp);
      in_range = range;
      form_is = is_form;
      levels_are = levels_more levels new rows edge has kept;
    };
    edges_are = told ∙ kept_edges levels rows (edge ∷ []) has;
  }

  pub wide_read : (columns : ℕ) (row : List Bool) → before ≡ time_of (Wide columns) stamps → HasLevels levels rows → IsStamped (stamp_time 1 before) (wide_row columns (stamp_time 1 before) before (fields content)) time (said_from 0 time row)
      → edges ≡ filter (λ (row : Edge). is_new (get_or levels row.line None) row.level) (said_from 0 time row) → ((line : ℕ) → get_or new line None ≡ cond (nat_lt line (length row)) (Some (get_or row line false)) (get_or levels line None)) → time ≤ 10 ^ 15 → IsForm (variant.Wide columns)
      → HasRead (state.Rows (variant.Wide columns) time) new edges (row_read (Wide columns) stamps rows content)
  wide_read columns row e has stamped told kept range is_form = record {
    next = record { standing = InRows (Wide columns) (stamped.stamp ∷ stamps) (said_from 0 time row ++ rows); edges = edges_among rows (said_from 0 time row) };
    is = row_read_ok (Wide columns) stamps rows content stamped.stamp (said_from 0 time row) (row_wide columns stamps before content e ∙ stamped.is);
    at = record {
      stamps = stamped.stamp ∷ stamps;
      rows = said_from 0 time row ++ rows;
      is = refl;
      time_is = stamped.time_is ∙ ap (λ b. stamp_time 1 b stamped.stamp) e ∙ sym (time_same (Wide columns) stamps stamped.stamp);
      in_range = range;
      form_is = is_form;
      levels_are = levels_wide levels new rows time row has kept;
    };
    edges_are = told ∙ kept_edges levels rows (said_from 0 time row) has;
  }

-- before the first row the time is 0
pub no_time : (form : Form) → 0 ≡ time_of form []
unfolding units_of
no_time form = omega arith

-- a wide header
pub good_header : (unit : Option ℕ) (names : List ℕ) (columns : ℕ) (levels : List (Option Bool)) → unit ≡ None → Some columns ≡ columns_in names → HasLevels levels [] → (1 ≤ columns) × (columns ≤ 16) → HasRead (state.Rows (variant.Wide columns) 0) levels [] (header_read unit names)
good_header unit names columns levels e f has range = record {
  next = record { standing = InRows (Wide columns) [] []; edges = [] };
  is = ap (λ u. header_read u names) e ∙ ap (λ o. ok_or o Field >>= λ found. without_row (InRows (Wide found) [] [])) (sym f);
  at = record {
    stamps = [];
    rows = [];
    is = refl;
    time_is = no_time (Wide columns);
    in_range = omega arith;
    form_is = range;
    levels_are = has;
  };
  edges_are = refl;
}

pub first_row : (unit : Option ℕ) (content : List ℕ) (form : Form) → None ≡ after_front (codes "Time [s]") content → form ≡ narrow_form unit → row_read form [] [] content ≡ forming_read unit content
first_row unit content form e f =
    ap (λ k. row_read k [] [] content) f
    ∙ ap (λ o. option_else o (header_read unit) (row_read (narrow_form unit) [] [] content)) e

-- a row behind others, where the list is as far as the reader
pub record IsLaterRow (form : code.Form) (before : ℕ) (levels : List (Option Bool)) (standing : Standing) (content : List ℕ) : Type 0 where
  pub stamps : List Stamp
  pub rows : List Edge
  pub same : row_read (form_of form) stamps rows content ≡ content_read standing content
  pub time_is : before ≡ time_of (form_of form) stamps
  pub form_is : IsForm form
  pub levels_are : HasLevels levels rows

row_among : (form : code.Form) (before : ℕ) (levels : List (Option Bool)) (standing : Standing) (content : List ℕ) → IsInRows form before levels standing → is_skipped content ≡ false → IsLaterRow form before levels standing content
row_among form before levels standing content at kept = record {
  stamps = at.stamps;
  rows = at.rows;
  same = sym (ap (λ s. content_read s content) at.is ∙ ap (λ t. cond t (without_row (InRows (form_of form) at.stamps at.rows)) (row_read (form_of form) at.stamps at.rows content)) kept);
  time_is = at.time_is;
  form_is = at.form_is;
  levels_are = at.levels_are;
}

pub later_row : (now : State) (form : code.Form) (before : ℕ) (levels : List (Option Bool)) (standing : Standing) (content : List ℕ) → now ≡ state.Rows form before → IsAt now levels standing → is_skipped content ≡ false → IsLaterRow form before levels standing content
later_row now form before levels standing content e at kept = row_among form before levels standing content (subst (λ (s : State). IsAt s levels standing) e at) kept
