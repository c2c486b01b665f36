-- Edge lists are ordered, line by line.
use Rattle.std.proofs.Common.{◌≡◌, ℕ, suc, ◌+◌, ◌-◌, ◌*◌, ◌^◌, ◌≤◌, ◌==◌, ◌&&◌, nat_le, nat_lt, Bool, true, false, cond, Option, Some, None, Result, Ok, Err, List, [], ◌∷◌, ◌++◌, length, take, filter_map, flat_map, count_by, codes, is_some, refl, sym, ◌∙◌, ap, subst, arith, length-append}
use Rattle.std.specs.Option.{ok_or}
use Rattle.std.specs.Result.{result_ok}
use Rattle.std.specs.List.{list_all}
use Rattle.std.proofs.lemmas.Bool.{leb-true, eqb-true, ltb-true, ltb-false}
use Rattle.std.proofs.lemmas.List.{length_push, length-take-le}
use Rattle.std.proofs.lemmas.List.Sums.{length-filter, count_by-le-length}
use Rattle.line_base.specs.declared.edge.Edge.{Edge}
use Rattle.line_base.specs.declared.faults.LineFault.{LineFault}
use Rattle.line_base.specs.declared.faults.LineFault.TheVariants.{Field, Level, TimeBack, Version, LineTooLong, InputTooLong}
use Rattle.line_base.specs.Orderly.{levels_with}
use Rattle.text_lines.specs.Lines.{without_cr, ended_lines, open_line}
use Rattle.line_base.specs.Texts as texts
use Rattle.line_base.specs.Texts.{after_front}
use Rattle.edge_trace.specs.Fields.{fields, level_in, levels_in}
use Rattle.line_base.specs.Steps.{◌>>=◌, check}
use Rattle.edge_trace.specs.Rows.{Form, Narrow, Units, Wide, Stamp, time_field, time_of, units_of, Row, said_from, wide_row, row_in}
use Rattle.edge_trace.specs.EdgeLists.{level_before, edges_among, is_new, option_else, without_row, Standing, AtStart, Formless, InRows, Read, is_skipped, is_name_byte, unit_in, columns_in, narrow_form, header_read, forming_read, version_read, row_read, content_read, line_read, Told, told_row, told_with, told_from}
use Rattle.edge_trace.specs.Limits.{told_within, told_past, told_of, whole_told_of, fault_in, rows_of, edges_of, whole_rows_of, whole_edges_of}
use Rattle.text_lines.specs.Inputs.{input_limit, long_line, last_line}
use Rattle.edge_trace.specs.Ordered.{AreOrdered}
use Rattle.text_lines.proofs.Cutting.{lines_joined}
use Rattle.edge_trace.proofs.Ordering.{bound, checked, found, same_levels, one_said, all_said, levels_behind, behind_same, eqb_sym, filter_cons, RowSays, NarrowSays, WideSays, time_in_range, narrow_says}

-- the levels of a wide row are as many as its fields
level_step : (o : Option Bool) (rest : Option (List Bool)) (n : ℕ) (high : List Bool) → ((more : List Bool) → rest ≡ Some more → length more ≡ n) → texts.◌>>=◌ o (λ level. texts.◌>>=◌ rest (λ levels. Some (level ∷ levels))) ≡ Some high → length high ≡ suc n
level_step None rest n high each e = cc
level_step (Some level) None n high each e = cc
level_step (Some level) (Some more) n high each e =
    let same : level ∷ more ≡ high = cc in
    sym (ap length same) ∙ ap suc (each more refl)

levels_count : (parts : List (List ℕ)) (high : List Bool) → levels_in parts ≡ Some high → length high ≡ length parts
unfolding levels_in
levels_count [] high e = let same : [] ≡ high = cc in sym (ap length same)
levels_count (part ∷ parts) high e = level_step (level_in part) (levels_in parts) (length parts) high (λ more f. levels_count parts more f) e

module _ (columns : ℕ) (time_at : Stamp → ℕ) (before : ℕ) (row : Row) where
  behind_levels : Stamp → List Bool → Result Row LineFault
  behind_levels stamp high = check (nat_le before (time_at stamp)) TimeBack >>= λ _. Ok (record { stamp = stamp; said = said_from 0 (time_at stamp) high })

  behind_wide_time : List (List ℕ) → Stamp → Result Row LineFault
  behind_wide_time levels stamp = ok_or (levels_in levels) Level >>= behind_levels stamp

  behind_count : List ℕ → List (List ℕ) → Unit {0} → Result Row LineFault
  behind_count time levels u = time_field (Wide columns) time_at time >>= behind_wide_time levels

  some_say : (time : List ℕ) (levels : List (List ℕ)) → wide_row columns time_at before (time ∷ levels) ≡ Ok row → RowSays time_at before row × WideSays columns time_at row
  unfolding wide_row behind_count behind_wide_time behind_levels
  some_say time levels e =
      let zeroth = bound (check (length levels == columns) Field) (behind_count time levels) row e in
      let first = bound (time_field (Wide columns) time_at time) (behind_wide_time levels) row zeroth.then in
      let second = bound (ok_or (levels_in levels) Level) (behind_levels first.value) row first.then in
      let third = bound (check (nat_le before (time_at first.value)) TimeBack) (λ _. Ok (record { stamp = first.value; said = said_from 0 (time_at first.value) second.value })) row second.then in
      let same : record { stamp = first.value; said = said_from 0 (time_at first.value) second.value } ≡ row = (let f : Ok (record { stamp = first.value; said = said_from 0 (time_at first.value) second.value }) ≡ Ok row = third.then in cc) in
      let later = leb-true before (time_at first.value) (checked (nat_le before (time_at first.value)) TimeBack third.value third.is) in
      let range = time_in_range (Wide columns) time_at time first.value first.is in
      let count = eqb-true (length levels) columns (checked (length levels == columns) Field zeroth.value zeroth.is) in
      let few = levels_count levels second.value (found (levels_in levels) Level second.value second.is) ∙ count in
      subst (λ (r : Row). RowSays time_at before r × WideSays columns time_at r) same
      (record { later = later; range = range }, record { high = second.value; few = few; said_is = refl })

  wide_says : (parts : List (List ℕ)) → wide_row columns time_at before parts ≡ Ok row → RowSays time_at before row × WideSays columns time_at row
  unfolding wide_row
  wide_says [] e = cc
  wide_says (time ∷ levels) e = some_say time levels e

-- a wide list has at most 16 columns
FewColumns : Form → Type 0
FewColumns Narrow = Unit {0}
FewColumns (Units unit) = Unit {0}
FewColumns (Wide columns) = columns ≤ 16

said_count : (line time : ℕ) (high : List Bool) → length (said_from line time high) ≡ length high
said_count line time [] = refl
said_count line time (level ∷ high) = ap suc (said_count (line + 1) time high)

-- the edges of a row, at most 16, and more behind them
record RowOrdered (time before : ℕ) (rows said : List Edge) : Type 0 where
  few : length said ≤ 16
  ordered : (more : List Edge) → AreOrdered time (λ line. level_before line (said ++ rows)) more → AreOrdered before (λ line. level_before line rows) (edges_among rows said ++ more)

narrow_ordered : (time_at : Stamp → ℕ) (before : ℕ) (rows : List Edge) (row : Row) → RowSays time_at before row → NarrowSays time_at row → RowOrdered (time_at row.stamp) before rows row.said
narrow_ordered time_at before rows row says narrow =
    let edge : Edge = record { line = narrow.line; time = time_at row.stamp; level = narrow.level } in
    subst (RowOrdered (time_at row.stamp) before rows) (sym narrow.said_is) (record {
      few = omega arith;
      ordered = λ more ordered. subst (AreOrdered before (λ line. level_before line rows)) (sym (filter_cons (λ (e : Edge). is_new (level_before e.line rows) e.level) edge [] more (is_new (level_before narrow.line rows) narrow.level)))
          (one_said (time_at row.stamp) before narrow.line narrow.level (λ line. level_before line rows) (level_before narrow.line rows) more (is_new (level_before narrow.line rows) narrow.level) refl refl narrow.low says.later says.range
          (same_levels (time_at row.stamp) (λ line. level_before line (edge ∷ rows)) (levels_with (λ line. level_before line rows) narrow.line narrow.level) more
          (λ other. ap (λ t. cond t (Some narrow.level) (level_before other rows)) (eqb_sym narrow.line other)) ordered));
    })

wide_ordered : (columns : ℕ) (time_at : Stamp → ℕ) (before : ℕ) (rows : List Edge) (row : Row) → columns ≤ 16 → RowSays time_at before row → WideSays columns time_at row → RowOrdered (time_at row.stamp) before rows row.said
wide_ordered columns time_at before rows row few says wide =
    subst (RowOrdered (time_at row.stamp) before rows) (sym wide.said_is) (record {
      few = (let count = wide.few in omega (arith, said_count 0 (time_at row.stamp) wide.high));
      ordered = λ more ordered. all_said (time_at row.stamp) before 0 wide.high (λ line. level_before line rows) (λ line. level_before line rows) more (λ other h. refl) (let count = wide.few in omega arith) says.later says.range
          (same_levels (time_at row.stamp) (λ line. level_before line (said_from 0 (time_at row.stamp) wide.high ++ rows)) (levels_behind (λ line. level_before line rows) 0 wide.high) more (λ other. behind_same (time_at row.stamp) wide.high rows other) ordered);
    })

row_ordered : (form : Form) (stamps : List Stamp) (rows : List Edge) (content : List ℕ) (row : Row) → FewColumns form → row_in form stamps content ≡ Ok row → RowOrdered (time_of form (row.stamp ∷ stamps)) (time_of form stamps) rows row.said
unfolding FewColumns
row_ordered Narrow stamps rows content row few e =
    let says = narrow_says Narrow (λ stamp. time_of Narrow (stamp ∷ stamps)) (time_of Narrow stamps) row (fields content) e in
    narrow_ordered (λ stamp. time_of Narrow (stamp ∷ stamps)) (time_of Narrow stamps) rows row says.0 says.1
row_ordered (Units unit) stamps rows content row few e =
    let says = narrow_says (Units unit) (λ stamp. time_of (Units unit) (stamp ∷ stamps)) (time_of (Units unit) stamps) row (fields content) e in
    narrow_ordered (λ stamp. time_of (Units unit) (stamp ∷ stamps)) (time_of (Units unit) stamps) rows row says.0 says.1
row_ordered (Wide columns) stamps rows content row few e =
    let says = wide_says columns (λ stamp. time_of (Wide columns) (stamp ∷ stamps)) (time_of (Wide columns) stamps) row (fields content) e in
    wide_ordered columns (λ stamp. time_of (Wide columns) (stamp ∷ stamps)) (time_of (Wide columns) stamps) rows row few says.0 says.1

-- the time and the levels where a list has come so far
time_at_standing : Standing → ℕ
time_at_standing AtStart = 0
time_at_standing (Formless unit) = 0
time_at_standing (InRows form stamps rows) = time_of form stamps

levels_at_standing : Standing → ℕ → Option Bool
levels_at_standing AtStart line = None
levels_at_standing (Formless unit) line = None
levels_at_standing (InRows form stamps rows) line = level_before line rows

Fits : Standing → Type 0
Fits AtStart = Unit {0}
Fits (Formless unit) = Unit {0}
Fits (InRows form stamps rows) = FewColumns form

-- the edges of a line, at most 16, and more behind them
record LineOrdered (standing : Standing) (read : Read) : Type 0 where
  fits : Fits read.standing
  few : length read.edges ≤ 16
  ordered : (more : List Edge) → AreOrdered (time_at_standing read.standing) (levels_at_standing read.standing) more → AreOrdered (time_at_standing standing) (levels_at_standing standing) (read.edges ++ more)

-- a line without a row
quiet : (standing next : Standing) (read : Read) → Fits next → time_at_standing next ≡ time_at_standing standing → ((line : ℕ) → levels_at_standing next line ≡ levels_at_standing standing line) → without_row next ≡ Ok read → LineOrdered standing read
quiet standing next read fits times levels e =
    let same : record { standing = next; edges = [] } ≡ read = (let f : Ok (record { standing = next; edges = [] }) ≡ Ok read = e in cc) in
    subst (LineOrdered standing) same (record {
      fits = fits;
      few = omega arith;
      ordered = λ more ordered. subst (λ (time : ℕ). AreOrdered time (levels_at_standing standing) more) times (same_levels (time_at_standing next) (levels_at_standing next) (levels_at_standing standing) more levels ordered);
    })

row_line : (standing : Standing) (form : Form) (stamps : List Stamp) (rows : List Edge) (content : List ℕ) (read : Read) → FewColumns form → time_of form stamps ≡ time_at_standing standing → ((line : ℕ) → level_before line rows ≡ levels_at_standing standing line) → row_read form stamps rows content ≡ Ok read → LineOrdered standing read
unfolding Fits time_at_standing levels_at_standing
row_line standing form stamps rows content read few times levels e =
    let step = bound (row_in form stamps content) (λ row. Ok (record { standing = InRows form (row.stamp ∷ stamps) (row.said ++ rows); edges = edges_among rows row.said })) read e in
    let same : record { standing = InRows form (step.value.stamp ∷ stamps) (step.value.said ++ rows); edges = edges_among rows step.value.said } ≡ read = (let f : Ok (record { standing = InRows form (step.value.stamp ∷ stamps) (step.value.said ++ rows); edges = edges_among rows step.value.said }) ≡ Ok read = step.then in cc) in
    let row = row_ordered form stamps rows content step.value few step.is in
    subst (LineOrdered standing) same (record {
      fits = few;
      few = (let said = row.few in let kept = length-filter (λ (edge : Edge). is_new (level_before edge.line rows) edge.level) step.value.said in let no_more = count_by-le-length (λ (edge : Edge). is_new (level_before edge.line rows) edge.level) step.value.said in omega arith);
      ordered = λ more ordered. subst (λ (time : ℕ). AreOrdered time (levels_at_standing standing) (edges_among rows step.value.said ++ more)) times
          (same_levels (time_of form stamps) (λ line. level_before line rows) (levels_at_standing standing) (edges_among rows step.value.said ++ more) levels (row.ordered more ordered));
    })

no_rows : (form : Form) → time_of form [] ≡ 0
unfolding units_of
no_rows form = omega arith

few_if : (t : Bool) (count columns : ℕ) → nat_le count 16 ≡ t → cond t (Some count) None ≡ Some columns → columns ≤ 16
few_if true count columns f e = let same : count ≡ columns = cc in let h = leb-true count 16 f in omega arith
few_if false count columns f e = cc

few_cond : (t : Bool) (count columns : ℕ) → cond (t && nat_le count 16) (Some count) None ≡ Some columns → columns ≤ 16
few_cond true count columns e = few_if (nat_le count 16) count columns refl e
few_cond false count columns e = cc

columns_few : (names : List ℕ) (columns : ℕ) → columns_in names ≡ Some columns → columns ≤ 16
unfolding columns_in
columns_few [] columns e = cc
columns_few (byte ∷ bytes) columns e = few_cond (byte == 44 && list_all is_name_byte bytes) (1 + count_by (λ b. b == 44) bytes) columns e

narrow_few : (unit : Option ℕ) → FewColumns (narrow_form unit)
unfolding FewColumns
narrow_few None = tt
narrow_few (Some unit) = tt

header_line : (standing : Standing) (unit : Option ℕ) (names : List ℕ) (read : Read) → 0 ≡ time_at_standing standing → ((line : ℕ) → None ≡ levels_at_standing standing line) → header_read unit names ≡ Ok read → LineOrdered standing read
unfolding Fits FewColumns time_at_standing levels_at_standing
header_line standing (Some unit) names read times levels e = cc
header_line standing None names read times levels e =
    let step = bound (ok_or (columns_in names) Field) (λ columns. without_row (InRows (Wide columns) [] [])) read e in
    quiet standing (InRows (Wide step.value) [] []) read (columns_few names step.value (found (columns_in names) Field step.value step.is)) (no_rows (Wide step.value) ∙ times) levels step.then

forming_line : (standing : Standing) (unit : Option ℕ) (content : List ℕ) (read : Read) (o : Option (List ℕ)) → 0 ≡ time_at_standing standing → ((line : ℕ) → None ≡ levels_at_standing standing line) → option_else o (header_read unit) (row_read (narrow_form unit) [] [] content) ≡ Ok read → LineOrdered standing read
forming_line standing unit content read (Some names) times levels e = header_line standing unit names read times levels e
forming_line standing unit content read None times levels e = row_line standing (narrow_form unit) [] [] content read (narrow_few unit) (no_rows (narrow_form unit) ∙ times) levels e

version_line : (standing : Standing) (rest : List ℕ) (read : Read) → 0 ≡ time_at_standing standing → ((line : ℕ) → None ≡ levels_at_standing standing line) → version_read rest ≡ Ok read → LineOrdered standing read
unfolding Fits time_at_standing levels_at_standing
version_line standing rest read times levels e =
    let step = bound (ok_or (unit_in rest) Version) (λ unit. without_row (Formless (Some unit))) read e in
    quiet standing (Formless (Some step.value)) read tt times levels step.then

skip_or : (standing next : Standing) (read : Read) (other : Result Read LineFault) (t : Bool) → Fits next → time_at_standing next ≡ time_at_standing standing → ((line : ℕ) → levels_at_standing next line ≡ levels_at_standing standing line) → (other ≡ Ok read → LineOrdered standing read) → cond t (without_row next) other ≡ Ok read → LineOrdered standing read
skip_or standing next read other true fits times levels rest e = quiet standing next read fits times levels e
skip_or standing next read other false fits times levels rest e = rest e

start_line : (content : List ℕ) (read : Read) (o : Option (List ℕ)) → option_else o version_read (cond (is_skipped content) (without_row (Formless None)) (forming_read None content)) ≡ Ok read → LineOrdered AtStart read
unfolding Fits time_at_standing levels_at_standing
start_line content read (Some rest) e = version_line AtStart rest read refl (λ line. refl) e
start_line content read None e = skip_or AtStart (Formless None) read (forming_read None content) (is_skipped content) tt refl (λ line. refl) (λ f. forming_line AtStart None content read (after_front (codes "Time [s]") content) refl (λ line. refl) f) e

content_ordered : (standing : Standing) (content : List ℕ) (read : Read) → Fits standing → content_read standing content ≡ Ok read → LineOrdered standing read
unfolding Fits time_at_standing levels_at_standing
content_ordered AtStart content read fits e = start_line content read (after_front (codes "# version 2 ") content) e
content_ordered (Formless unit) content read fits e = skip_or (Formless unit) (Formless unit) read (forming_read unit content) (is_skipped content) tt refl (λ line. refl) (λ f. forming_line (Formless unit) unit content read (after_front (codes "Time [s]") content) refl (λ line. refl) f) e
content_ordered (InRows form stamps rows) content read fits e = skip_or (InRows form stamps rows) (InRows form stamps rows) read (row_read form stamps rows content) (is_skipped content) fits refl (λ line. refl) (λ f. row_line (InRows form stamps rows) form stamps rows content read fits refl (λ line. refl) f) e

long_or : (standing : Standing) (content : List ℕ) (read : Read) (t : Bool) → Fits standing → cond t (Err LineTooLong) (content_read standing content) ≡ Ok read → LineOrdered standing read
long_or standing content read true fits e = cc
long_or standing content read false fits e = content_ordered standing content read fits e

line_ordered : (standing : Standing) (line : List ℕ) (read : Read) → Fits standing → line_read standing line ≡ Ok read → LineOrdered standing read
unfolding line_read
line_ordered standing line read fits e = long_or standing (without_cr line) read (nat_lt 512 (length line)) fits e

-- the edges that are told
edges_told : List Told → List Edge
edges_told told = flat_map (λ row. row) (filter_map (λ t. result_ok t.1) told)

told_edges : (number : ℕ) (edges : List Edge) (told : List Told) → edges_told (told_row number edges ++ told) ≡ edges ++ edges_told told
unfolding edges_told
told_edges number [] told = refl
told_edges number (edge ∷ edges) told = refl

told_step : (number : ℕ) (standing : Standing) (r : Result Read LineFault) (lines : List (List ℕ)) → ((read : Read) → r ≡ Ok read → LineOrdered standing read) → ((next : Standing) → Fits next → AreOrdered (time_at_standing next) (levels_at_standing next) (edges_told (told_from (number + 1) next lines)))
    → AreOrdered (time_at_standing standing) (levels_at_standing standing) (edges_told (told_with number r (λ next. told_from (number + 1) next lines)))
unfolding edges_told AreOrdered
told_step number standing (Err fault) lines line later = tt
told_step number standing (Ok read) lines line later =
    let here = line read refl in
    subst (AreOrdered (time_at_standing standing) (levels_at_standing standing)) (sym (told_edges number read.edges (told_from (number + 1) read.standing lines))) (here.ordered _ (later read.standing here.fits))

told_ordered : (number : ℕ) (standing : Standing) (lines : List (List ℕ)) → Fits standing → AreOrdered (time_at_standing standing) (levels_at_standing standing) (edges_told (told_from number standing lines))
unfolding told_from edges_told AreOrdered
told_ordered number standing [] fits = tt
told_ordered number standing (line ∷ lines) fits = told_step number standing (line_read standing line) lines (λ read e. line_ordered standing line read fits e) (λ next f. told_ordered (number + 1) next lines f)

start_ordered : (lines : List (List ℕ)) → AreOrdered 0 (λ _. None) (edges_told (told_from 1 AtStart lines))
unfolding Fits time_at_standing levels_at_standing
start_ordered lines = told_ordered 1 AtStart lines tt

-- each line has at most 16 edges
count_step : (number : ℕ) (standing : Standing) (r : Result Read LineFault) (lines : List (List ℕ)) → ((read : Read) → r ≡ Ok read → LineOrdered standing read) → ((next : Standing) → Fits next → length (edges_told (told_from (number + 1) next lines)) ≤ 16 * length lines)
    → length (edges_told (told_with number r (λ next. told_from (number + 1) next lines))) ≤ 16 * suc (length lines)
unfolding edges_told
count_step number standing (Err fault) lines line later = omega arith
count_step number standing (Ok read) lines line later =
    let here = line read refl in
    let few = here.few in
    let others = later read.standing here.fits in
    let all = ap length (told_edges number read.edges (told_from (number + 1) read.standing lines)) in
    let both = length-append read.edges (edges_told (told_from (number + 1) read.standing lines)) in
    omega arith

told_count : (number : ℕ) (standing : Standing) (lines : List (List ℕ)) → Fits standing → length (edges_told (told_from number standing lines)) ≤ 16 * length lines
unfolding told_from edges_told
told_count number standing [] fits = omega arith
told_count number standing (line ∷ lines) fits = count_step number standing (line_read standing line) lines (λ read e. line_ordered standing line read fits e) (λ next f. told_count (number + 1) next lines f)

-- each line has at least a byte
line_bytes : (lines : List (List ℕ)) → length lines ≤ length (flat_map (λ line. line ++ 10 ∷ []) lines)
line_bytes [] = omega arith
line_bytes (line ∷ lines) =
    let others = line_bytes lines in
    let both = length-append (line ++ 10 ∷ []) (flat_map (λ line. line ++ 10 ∷ []) lines) in
    let ended = length_push line 10 in
    omega arith

few_lines : (bytes : List ℕ) → length (ended_lines bytes) + length (open_line bytes) ≤ length bytes
few_lines bytes =
    let each = line_bytes (ended_lines bytes) in
    let whole = ap length (lines_joined bytes) in
    let both = length-append (flat_map (λ line. line ++ 10 ∷ []) (ended_lines bytes)) (open_line bytes) in
    omega arith

long_count : (t : Bool) (line : List ℕ) → nat_lt 512 (length line) ≡ t → length (cond t (line ∷ []) []) ≤ length line
long_count true line e = let long = ltb-true 512 (length line) e in omega arith
long_count false line e = omega arith

last_count : (line : List ℕ) → length (last_line line) ≤ length line
last_count [] = omega arith
last_count (byte ∷ bytes) = omega arith

-- edges that are ordered, and fewer than 2^40
record IsOrderedList (edges : List Edge) : Type 0 where
  ordered : AreOrdered 0 (λ _. None) edges
  few : length edges ≤ 2 ^ 40

limit_is : input_limit ≡ 2 ^ 36 - 1
unfolding input_limit
limit_is = refl

lines_listed : (bytes : List ℕ) (last : List (List ℕ)) → length bytes ≤ input_limit → length last ≤ length (open_line bytes) → IsOrderedList (edges_told (told_from 1 AtStart (ended_lines bytes ++ last)))
unfolding Fits
lines_listed bytes last within fits = record {
  ordered = start_ordered (ended_lines bytes ++ last);
  few = (
      let count = told_count 1 AtStart (ended_lines bytes ++ last) tt in
      let both = length-append (ended_lines bytes) last in
      let lines = few_lines bytes in
      let limit = limit_is in
      omega arith
      );
}

-- a fault adds no edge
no_edge : (told : List Told) (number : ℕ) (fault : LineFault) → edges_told (told ++ (number, Err fault) ∷ []) ≡ edges_told told
unfolding edges_told
no_edge [] number fault = refl
no_edge ((other, Ok row) ∷ told) number fault = ap (λ edges. row ++ edges) (no_edge told number fault)
no_edge ((other, Err own) ∷ told) number fault = no_edge told number fault

within_listed : (bytes : List ℕ) → length bytes ≤ input_limit → IsOrderedList (edges_told (told_within bytes))
unfolding told_within
within_listed bytes within = lines_listed bytes (long_line (open_line bytes)) within (long_count (nat_lt 512 (length (open_line bytes))) (open_line bytes) refl)

past_listed : (bytes : List ℕ) (told : List Told) (t : Bool) → IsOrderedList (edges_told told) → IsOrderedList (edges_told (cond t told (told ++ (length (ended_lines bytes) + 1, Err InputTooLong) ∷ [])))
past_listed bytes told true listed = listed
past_listed bytes told false listed = subst IsOrderedList (sym (no_edge told (length (ended_lines bytes) + 1) InputTooLong)) listed

limit_listed : (bytes : List ℕ) (t : Bool) → nat_lt input_limit (length bytes) ≡ t → IsOrderedList (edges_told (cond t (told_past (take input_limit bytes) (told_within (take input_limit bytes))) (told_within bytes)))
limit_listed bytes true e =
    past_listed (take input_limit bytes) (told_within (take input_limit bytes)) (is_some (fault_in (told_within (take input_limit bytes))))
    (within_listed (take input_limit bytes) (let long = ltb-true input_limit (length bytes) e in let taken = length-take-le input_limit bytes (omega arith) in omega arith))
limit_listed bytes false e = within_listed bytes (ltb-false input_limit (length bytes) e)

so_far_listed : (bytes : List ℕ) → IsOrderedList (edges_of bytes)
unfolding edges_of rows_of told_of edges_told
so_far_listed bytes = limit_listed bytes (nat_lt input_limit (length bytes)) refl

whole_or : (bytes : List ℕ) (t : Bool) → nat_lt input_limit (length bytes) ≡ t → IsOrderedList (edges_told (cond t (told_of bytes) (told_from 1 AtStart (ended_lines bytes ++ last_line (open_line bytes)))))
unfolding told_of
whole_or bytes true e = limit_listed bytes (nat_lt input_limit (length bytes)) refl
whole_or bytes false e = lines_listed bytes (last_line (open_line bytes)) (ltb-false input_limit (length bytes) e) (last_count (open_line bytes))

whole_listed : (bytes : List ℕ) → IsOrderedList (whole_edges_of bytes)
unfolding whole_edges_of whole_rows_of whole_told_of edges_told
whole_listed bytes = whole_or bytes (nat_lt input_limit (length bytes)) refl

-- the edges of an edge list are ordered: on lines 0 to 15, with times that don't go back and are at most 10^15 ns, and with levels that alternate on each line
pub edges_are_ordered : (bytes : List ℕ) → AreOrdered 0 (λ _. None) (edges_of bytes)
edges_are_ordered bytes = (so_far_listed bytes).ordered

pub whole_edges_are_ordered : (bytes : List ℕ) → AreOrdered 0 (λ _. None) (whole_edges_of bytes)
whole_edges_are_ordered bytes = (whole_listed bytes).ordered

-- and there are at most 2^40 of them
pub edges_are_few : (bytes : List ℕ) → length (edges_of bytes) ≤ 2 ^ 40
edges_are_few bytes = (so_far_listed bytes).few

pub whole_edges_are_few : (bytes : List ℕ) → length (whole_edges_of bytes) ≤ 2 ^ 40
whole_edges_are_few bytes = (whole_listed bytes).few
