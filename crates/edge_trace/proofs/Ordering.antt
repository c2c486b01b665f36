-- The edges of an edge list are ordered: times don't go back, and levels alternate on each line.
use Rattle.std.proofs.Common.{◌≡◌, ℕ, zero, suc, ◌+◌, ◌^◌, ◌<◌, ◌≤◌, ◌==◌, nat_le, Bool, true, false, cond, Option, Some, None, Result, Ok, Err, List, [], ◌∷◌, ◌++◌, length, get_or, filter, refl, sym, ◌∙◌, ap, subst, inl, inr, arith}
use Rattle.std.specs.Option.{ok_or}
use Rattle.std.proofs.lemmas.Bool.{false≢true, leb-true, eqb-true, lt-ltb, le-ltb, eq-eqb, ne_eqb, cases_lt, cases_eq}
use Rattle.line_base.specs.declared.edge.Edge.{Edge}
use Rattle.line_base.specs.declared.faults.LineFault.{LineFault}
use Rattle.line_base.specs.declared.faults.LineFault.TheVariants.{Number, Line, Level, TimeBack, TooLarge}
use Rattle.line_base.specs.Orderly.{Alternates, levels_with}
use Rattle.line_base.specs.Texts.{number_in}
use Rattle.edge_trace.specs.Fields.{level_in}
use Rattle.line_base.specs.Steps.{◌>>=◌, check}
use Rattle.edge_trace.specs.Rows.{Form, Stamp, stamp_in, time_field, line_field, Row, said_from, narrow_row}
use Rattle.edge_trace.specs.EdgeLists.{is_new, level_before}
use Rattle.edge_trace.specs.Ordered.{AreOrdered}
use Rattle.edge_trace.proofs.Reading.{wide_level}

-- what a step that went well came from
pub record Bound {A B : Type 0} (r : Result A LineFault) (next : A → Result B LineFault) (y : B) : Type 0 where
  pub value : A
  pub is : r ≡ Ok value
  pub then : next value ≡ Ok y

pub bound : {A B : Type 0} (r : Result A LineFault) (next : A → Result B LineFault) (y : B) → (r >>= next) ≡ Ok y → Bound r next y
bound (Ok x) next y e = record { value = x; is = refl; then = e }
bound (Err fault) next y e = cc

pub checked : (t : Bool) (fault : LineFault) (u : Unit {0}) → check t fault ≡ Ok u → t ≡ true
checked true fault u e = refl
checked false fault u e = cc

pub found : {A : Type 0} (o : Option A) (fault : LineFault) (x : A) → ok_or o fault ≡ Ok x → o ≡ Some x
found None fault x e = cc
found (Some y) fault x e = let same : y ≡ x = cc in ap (λ z. Some z) same

-- a later time before edges
earlier : (time before : ℕ) (levels : ℕ → Option Bool) (edges : List Edge) → before ≤ time → AreOrdered time levels edges → AreOrdered before levels edges
unfolding AreOrdered
earlier time before levels [] h ordered = ordered
earlier time before levels (edge ∷ edges) h ordered = (
  record {
    on_a_line = ordered.0.on_a_line;
    not_earlier = (let later = ordered.0.not_earlier in omega arith);
    in_range = ordered.0.in_range;
    alternates = ordered.0.alternates;
  },
  ordered.1,
)

pub same_levels : (time : ℕ) (levels other : ℕ → Option Bool) (edges : List Edge) → ((line : ℕ) → levels line ≡ other line) → AreOrdered time levels edges → AreOrdered time other edges
same_levels time levels other edges same ordered = subst (λ (l : ℕ → Option Bool). AreOrdered time l edges) (λ i line. same line i) ordered

-- a level that is new alternates, and one that isn't leaves the levels as they were
new_alternates : (before : Option Bool) (level : Bool) → is_new before level ≡ true → Alternates before level
new_alternates None level e = tt
new_alternates (Some true) true e = absurd (false≢true e)
new_alternates (Some true) false e = λ f. false≢true (sym f)
new_alternates (Some false) true e = λ f. false≢true f
new_alternates (Some false) false e = absurd (false≢true e)

old_same : (before : Option Bool) (level : Bool) → is_new before level ≡ false → before ≡ Some level
old_same None level e = absurd (false≢true (sym e))
old_same (Some true) true e = refl
old_same (Some true) false e = absurd (false≢true (sym e))
old_same (Some false) true e = absurd (false≢true (sym e))
old_same (Some false) false e = refl

unchanged_at : (levels : ℕ → Option Bool) (line : ℕ) (level : Bool) (other : ℕ) (t : Bool) → other == line ≡ t → levels line ≡ Some level → cond t (Some level) (levels other) ≡ levels other
unchanged_at levels line level other true e f = sym (ap levels (eqb-true other line e) ∙ f)
unchanged_at levels line level other false e f = refl

-- one thing said of a line, where its level before is known
pub one_said : (time before line : ℕ) (level : Bool) (levels : ℕ → Option Bool) (known : Option Bool) (more : List Edge) (t : Bool) → levels line ≡ known → is_new known level ≡ t → line ≤ 15 → before ≤ time → time ≤ 10 ^ 15 → AreOrdered time (levels_with levels line level) more
    → AreOrdered before levels (cond t (record { line = line; time = time; level = level } ∷ []) [] ++ more)
unfolding AreOrdered
one_said time before line level levels known more true e f low later range ordered = (
  record {
    on_a_line = low;
    not_earlier = later;
    in_range = range;
    alternates = subst (λ (o : Option Bool). Alternates o level) (sym e) (new_alternates known level f);
  },
  ordered,
)
one_said time before line level levels known more false e f low later range ordered =
    earlier time before levels more later (same_levels time (levels_with levels line level) levels more (λ other. unchanged_at levels line level other (other == line) refl (e ∙ old_same known level f)) ordered)

-- the levels behind what a wide row says
unfoldable pub levels_behind : (ℕ → Option Bool) → ℕ → List Bool → ℕ → Option Bool
levels_behind levels line [] = levels
levels_behind levels line (level ∷ row) = levels_behind (levels_with levels line level) (line + 1) row

pub filter_cons : (test : Edge → Bool) (edge : Edge) (edges more : List Edge) (t : Bool) → cond t (edge ∷ filter test edges) (filter test edges) ++ more ≡ cond t (edge ∷ []) [] ++ (filter test edges ++ more)
filter_cons test edge edges more true = refl
filter_cons test edge edges more false = refl

-- what a wide row says from this line on
pub all_said : (time before line : ℕ) (row : List Bool) (known levels : ℕ → Option Bool) (more : List Edge) → ((other : ℕ) → line ≤ other → levels other ≡ known other) → line + length row ≤ 16 → before ≤ time → time ≤ 10 ^ 15 → AreOrdered time (levels_behind levels line row) more
    → AreOrdered before levels (filter (λ (edge : Edge). is_new (known edge.line) edge.level) (said_from line time row) ++ more)
unfolding levels_behind
all_said time before line [] known levels more same few later range ordered = earlier time before levels more later ordered
all_said time before line (level ∷ row) known levels more same few later range ordered =
    subst (AreOrdered before levels) (sym (filter_cons (λ (edge : Edge). is_new (known edge.line) edge.level) (record { line = line; time = time; level = level }) (said_from (line + 1) time row) more (is_new (known line) level)))
    (one_said time before line level levels (known line) _ (is_new (known line) level) (same line (omega arith)) refl (omega arith) later range
    (all_said time time (line + 1) row known (levels_with levels line level) more
    (λ other h. ap (λ t. cond t (Some level) (levels other)) (ne_eqb other line (λ e. omega (arith, e, h))) ∙ same other (omega arith))
    (omega arith) (omega arith) range ordered))

behind_below : (levels : ℕ → Option Bool) (line : ℕ) (row : List Bool) (other : ℕ) → other < line → levels_behind levels line row other ≡ levels other
unfolding levels_behind
behind_below levels line [] other below = refl
behind_below levels line (level ∷ row) other below =
    behind_below (levels_with levels line level) (line + 1) row other (omega arith)
    ∙ ap (λ t. cond t (Some level) (levels other)) (ne_eqb other line (λ e. omega (arith, e, below)))

behind_inside : (levels : ℕ → Option Bool) (line : ℕ) (row : List Bool) (other k : ℕ) → other ≡ line + k → k < length row → levels_behind levels line row other ≡ Some (get_or row k false)
unfolding levels_behind
behind_inside levels line [] other k e within = absurd (omega arith)
behind_inside levels line (level ∷ row) other zero e within =
    let same : other ≡ line = omega arith in
    behind_below (levels_with levels line level) (line + 1) row other (omega arith)
    ∙ ap (λ t. cond t (Some level) (levels other)) (eq-eqb other line same)
behind_inside levels line (level ∷ row) other (suc k) e within = behind_inside (levels_with levels line level) (line + 1) row other k (omega arith) (omega arith)

behind_above : (levels : ℕ → Option Bool) (line : ℕ) (row : List Bool) (other : ℕ) → line + length row ≤ other → levels_behind levels line row other ≡ levels other
unfolding levels_behind
behind_above levels line [] other above = refl
behind_above levels line (level ∷ row) other above =
    behind_above (levels_with levels line level) (line + 1) row other (omega arith)
    ∙ ap (λ t. cond t (Some level) (levels other)) (ne_eqb other line (λ e. omega (arith, e, above)))

pub behind_same : (time : ℕ) (row : List Bool) (rows : List Edge) (other : ℕ) → level_before other (said_from 0 time row ++ rows) ≡ levels_behind (λ line. level_before line rows) 0 row other
behind_same time row rows other = wide_level other time row rows ∙ elim (cases_lt other (length row)) [
  | inl within ↦ ap (λ t. cond t (Some (get_or row other false)) (level_before other rows)) (lt-ltb other (length row) within) ∙ sym (behind_inside (λ line. level_before line rows) 0 row other other (omega arith) within)
  | inr above ↦ ap (λ t. cond t (Some (get_or row other false)) (level_before other rows)) (le-ltb other (length row) above) ∙ sym (behind_above (λ line. level_before line rows) 0 row other (omega arith))
]

pub eqb_sym : (a b : ℕ) → a == b ≡ b == a
eqb_sym a b = elim (cases_eq a b) [
  | inl e ↦ eq-eqb a b e ∙ sym (eq-eqb b a (sym e))
  | inr ne ↦ ne_eqb a b ne ∙ sym (ne_eqb b a (λ f. ne (sym f)))
]

-- what a row says, by its form
pub record RowSays (time_at : Stamp → ℕ) (before : ℕ) (row : Row) : Type 0 where
  pub later : before ≤ time_at row.stamp
  pub range : time_at row.stamp ≤ 10 ^ 15

pub record NarrowSays (time_at : Stamp → ℕ) (row : Row) : Type 0 where
  pub line : ℕ
  pub level : Bool
  pub low : line ≤ 15
  pub said_is : row.said ≡ record { line = line; time = time_at row.stamp; level = level } ∷ []

pub record WideSays (columns : ℕ) (time_at : Stamp → ℕ) (row : Row) : Type 0 where
  pub high : List Bool
  pub few : length high ≡ columns
  pub said_is : row.said ≡ said_from 0 (time_at row.stamp) high

pub time_in_range : (form : Form) (time_at : Stamp → ℕ) (field : List ℕ) (stamp : Stamp) → time_field form time_at field ≡ Ok stamp → time_at stamp ≤ 10 ^ 15
time_in_range form time_at field stamp e =
    let first = bound (ok_or (stamp_in form field) Number) (λ s. check (nat_le (time_at s) (10 ^ 15)) TooLarge >>= λ _. Ok s) stamp e in
    let second = bound (check (nat_le (time_at first.value) (10 ^ 15)) TooLarge) (λ _. Ok first.value) stamp first.then in
    let fits = leb-true (time_at first.value) (10 ^ 15) (checked (nat_le (time_at first.value) (10 ^ 15)) TooLarge second.value second.is) in
    let same : first.value ≡ stamp = (let e : Ok first.value ≡ Ok stamp = second.then in cc) in
    subst (λ (s : Stamp). time_at s ≤ 10 ^ 15) same fits

line_low : (field : List ℕ) (line : ℕ) → line_field field ≡ Ok line → line ≤ 15
line_low field line e =
    let first = bound (ok_or (number_in field) Number) (λ n. check (nat_le n 15) Line >>= λ _. Ok n) line e in
    let second = bound (check (nat_le first.value 15) Line) (λ _. Ok first.value) line first.then in
    let fits = leb-true first.value 15 (checked (nat_le first.value 15) Line second.value second.is) in
    let same : first.value ≡ line = (let e : Ok first.value ≡ Ok line = second.then in cc) in
    omega arith

module _ (form : Form) (time_at : Stamp → ℕ) (before : ℕ) (row : Row) where
  behind_level : Stamp → ℕ → Bool → Result Row LineFault
  behind_level stamp number high = check (nat_le before (time_at stamp)) TimeBack >>= λ _. Ok (record { stamp = stamp; said = record { line = number; time = time_at stamp; level = high } ∷ [] })

  behind_line : List ℕ → Stamp → ℕ → Result Row LineFault
  behind_line level stamp number = ok_or (level_in level) Level >>= behind_level stamp number

  behind_time : List ℕ → List ℕ → Stamp → Result Row LineFault
  behind_time line level stamp = line_field line >>= behind_line level stamp

  three_say : (time line level : List ℕ) → narrow_row form time_at before (time ∷ line ∷ level ∷ []) ≡ Ok row → RowSays time_at before row × NarrowSays time_at row
  unfolding narrow_row behind_time behind_line behind_level
  three_say time line level e =
      let first = bound (time_field form time_at time) (behind_time line level) row e in
      let second = bound (line_field line) (behind_line level first.value) row first.then in
      let third = bound (ok_or (level_in level) Level) (behind_level first.value second.value) row second.then in
      let fourth = bound (check (nat_le before (time_at first.value)) TimeBack) (λ _. Ok (record { stamp = first.value; said = record { line = second.value; time = time_at first.value; level = third.value } ∷ [] })) row third.then in
      let same : record { stamp = first.value; said = record { line = second.value; time = time_at first.value; level = third.value } ∷ [] } ≡ row = (let f : Ok (record { stamp = first.value; said = record { line = second.value; time = time_at first.value; level = third.value } ∷ [] }) ≡ Ok row = fourth.then in cc) in
      let later = leb-true before (time_at first.value) (checked (nat_le before (time_at first.value)) TimeBack fourth.value fourth.is) in
      let range = time_in_range form time_at time first.value first.is in
      subst (λ (r : Row). RowSays time_at before r × NarrowSays time_at r) same
      (record { later = later; range = range }, record { line = second.value; level = third.value; low = line_low line second.value second.is; said_is = refl })

  pub narrow_says : (parts : List (List ℕ)) → narrow_row form time_at before parts ≡ Ok row → RowSays time_at before row × NarrowSays time_at row
  unfolding narrow_row
  narrow_says [] e = cc
  narrow_says (time ∷ []) e = cc
  narrow_says (time ∷ line ∷ []) e = cc
  narrow_says (time ∷ line ∷ level ∷ []) e = three_say time line level e
  narrow_says (time ∷ line ∷ level ∷ more ∷ others) e = cc
