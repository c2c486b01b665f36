-- The levels of a wide row, read field by field, and its edges, told column by column.
use Rattle.std.proofs.Common.{◌≡◌, ℕ, suc, ◌+◌, ◌<◌, ◌≤◌, ◌==◌, Bool, true, false, cond, nat_lt, Option, Some, None, Result, Ok, Err, List, [], ◌∷◌, ◌++◌, length, get_or, set, drop, filter, count_by, refl, sym, ◌∙◌, ap, subst, inl, inr, arith}
use denote.Ref.{Bor}
use Rattle.std.specs.Option.{option_map, option_copied}
use Rattle.std.specs.List.{slice_split}
use Rattle.std.proofs.lemmas.Bool.{le-leb, lt-leb, lt-ltb, le-ltb, eq-eqb, ne_eqb, cases_lt, cases_eq}
use Rattle.std.proofs.lemmas.List.{append_assoc, append-nil, length_push, length-map, drop_more, get_or-set_same, get_or-set_other, length-set}
use Rattle.std.proofs.lemmas.List.Splits.{length-slice_split}
use Rattle.line_base.specs.declared.edge.Edge.{Edge}
use Rattle.line_base.specs.declared.faults.LineFault.{LineFault}
use Rattle.line_base.specs.declared.faults.LineFault.TheVariants.{Field, Level, TimeBack}
use Rattle.line_base.specs.Texts as texts
use Rattle.line_base.specs.Texts.{cut_at}
use Rattle.edge_trace.specs.Fields.{fields, without_blanks, level_in, levels_in}
use Rattle.edge_trace.specs.Rows.{Wide, Stamp, time_field, Row, said_from, wide_row}
use Rattle.edge_trace.specs.EdgeLists.{is_new}
use Rattle.edge_trace.specs.Readings.{seen_by, IsStamped}
use Rattle.edge_trace.specs.RowEdges.{AreBelow}
use Rattle.edge_trace.proofs.KeptEdges.{none_below, below_higher, below_push}
use Rattle.edge_trace.proofs.FieldCuts.{fields_last, fields_more, has_first_field}
use Rattle.edge_trace.proofs.Judging.{bind_err, found}

-- the fields of what is left, if anything is
abbrev pub fields_left : Option (List ℕ) → List (List ℕ)
fields_left None = []
fields_left (Some rest) = fields rest

pub fields_cut : (text field : List ℕ) (others : Option (List ℕ)) → (field, others) ≡ cut_at 44 text → fields text ≡ without_blanks field ∷ fields_left others
fields_cut text field None e = fields_last text field e
fields_cut text field (Some rest) e = fields_more text field rest e

-- the levels so far, and those of what is left, are those of all fields
pub record LevelsSoFar (text : List ℕ) (levels : List Bool) (rest : Option (List ℕ)) : Type 0 where
  pub all : option_map (λ more. levels ++ more) (levels_in (fields_left rest)) ≡ levels_in (fields text)
  pub few : length levels + length (fields_left rest) ≤ 16

unchanged : (o : Option (List Bool)) (level : Bool) → texts.◌>>=◌ o (λ levels. Some (level ∷ levels)) ≡ option_map (λ more. level ∷ more) o
unchanged None level = refl
unchanged (Some levels) level = refl

pub levels_cons : (field : List ℕ) (others : List (List ℕ)) (level : Bool) → level_in field ≡ Some level → levels_in (field ∷ others) ≡ option_map (λ more. level ∷ more) (levels_in others)
unfolding levels_in
levels_cons field others level e = rw e (unchanged (levels_in others) level)

levels_stop : (field : List ℕ) (others : List (List ℕ)) → None ≡ level_in field → levels_in (field ∷ others) ≡ None
unfolding levels_in
levels_stop field others e = rw (sym e) refl

pushed : (levels : List Bool) (level : Bool) (o : Option (List Bool)) → option_map (λ more. (levels ++ level ∷ []) ++ more) o ≡ option_map (λ more. levels ++ more) (option_map (λ more. level ∷ more) o)
pushed levels level None = refl
pushed levels level (Some more) = ap (λ (ls : List Bool). Some ls) (append_assoc levels (level ∷ []) more)

-- one more field
pub one_more_level : (text here field : List ℕ) (others : Option (List ℕ)) (levels : List Bool) (level : Bool) → LevelsSoFar text levels (Some here) → (field, others) ≡ cut_at 44 here → Some level ≡ level_in (without_blanks field) → LevelsSoFar text (levels ++ level ∷ []) others
one_more_level text here field others levels level so_far e f =
    let parts = fields_cut here field others e in
    let longer : length (levels ++ level ∷ []) ≡ length levels + 1 = length_push levels level in
    let counted : length (fields here) ≡ suc (length (fields_left others)) = ap length parts in
    record {
      all = pushed levels level (levels_in (fields_left others))
          ∙ ap (option_map (λ more. levels ++ more)) (sym (ap levels_in parts ∙ levels_cons (without_blanks field) (fields_left others) level (sym f)))
          ∙ so_far.all;
      few = let few : length levels + length (fields here) ≤ 16 = so_far.few in omega arith;
    }

pub bad_level : (text here field : List ℕ) (others : Option (List ℕ)) (levels : List Bool) → LevelsSoFar text levels (Some here) → (field, others) ≡ cut_at 44 here → None ≡ level_in (without_blanks field) → None ≡ levels_in (fields text)
bad_level text here field others levels so_far e f =
    let parts = fields_cut here field others e in
    sym (ap (option_map (λ more. levels ++ more)) (ap levels_in parts ∙ levels_stop (without_blanks field) (fields_left others) f)) ∙ so_far.all

pub room_for_level : (text here : List ℕ) (levels : List Bool) → LevelsSoFar text levels (Some here) → length levels < 16
room_for_level text here levels so_far =
    let h = has_first_field here in
    let counted : length (fields here) ≡ suc (length h.others) = ap length h.is in
    let few : length levels + length (fields here) ≤ 16 = so_far.few in
    omega arith

no_more : levels_in [] ≡ Some []
unfolding levels_in
no_more = refl

pub all_levels : (text : List ℕ) (levels : List Bool) → LevelsSoFar text levels None → Some levels ≡ levels_in (fields text)
all_levels text levels so_far = ap (λ (ls : List Bool). Some ls) (sym (append-nil levels)) ∙ sym (ap (option_map (λ more. levels ++ more)) no_more) ∙ so_far.all

pub so_far_at : (text : List ℕ) (levels : List Bool) (rest after : Option (Bor (List ℕ))) → LevelsSoFar text levels (option_copied rest) → rest ≡ after → LevelsSoFar text levels (option_copied after)
so_far_at text levels rest after so_far e = subst (λ (r : Option (Bor (List ℕ))). LevelsSoFar text levels (option_copied r)) e so_far

-- the edges so far, and those of the columns that are left, are those of all columns; lines up to here have their new level
pub record KeptSoFar (before levels : List (Option Bool)) (time : ℕ) (row : List Bool) (edges : List Edge) (i : ℕ) : Type 0 where
  pub told : edges ++ filter (λ edge. is_new (get_or before edge.line None) edge.level) (said_from i time (drop i row)) ≡ filter (λ edge. is_new (get_or before edge.line None) edge.level) (said_from 0 time row)
  pub below : AreBelow i time edges
  pub long : length levels ≡ 16
  pub kept : (line : ℕ) → get_or levels line None ≡ cond (nat_lt line i) (Some (get_or row line false)) (get_or before line None)

pub none_kept : (before : List (Option Bool)) (time : ℕ) (row : List Bool) (edges : List Edge) → length before ≡ 16 → edges ≡ [] → KeptSoFar before before time row edges 0
none_kept before time row edges long e = record {
  told = ap (λ (es : List Edge). es ++ filter (λ edge. is_new (get_or before edge.line None) edge.level) (said_from 0 time row)) e;
  below = none_below 0 time edges e;
  long = long;
  kept = λ line. sym (ap (λ t. cond t (Some (get_or row line false)) (get_or before line None)) (le-ltb line 0 (omega arith)));
}

module _ (before levels : List (Option Bool)) (time : ℕ) (row : List Bool) (edges : List Edge) (i : ℕ) (so_far : KeptSoFar before levels time row edges i) (within : i < length row) (few : length row ≤ 16) where
  here : Edge
  here = record { line = i; time = time; level = get_or row i false }

  rest : List Edge
  rest = filter (λ edge. is_new (get_or before edge.line None) edge.level) (said_from (i + 1) time (drop (i + 1) row))

  next_said : filter (λ edge. is_new (get_or before edge.line None) edge.level) (said_from i time (drop i row)) ≡ cond (is_new (get_or before i None) (get_or row i false)) (here ∷ rest) rest
  unfolding here rest
  next_said = ap (λ ls. filter (λ edge. is_new (get_or before edge.line None) edge.level) (said_from i time ls)) (drop_more row i false within)

  same_before : get_or levels i None ≡ get_or before i None
  same_before = so_far.kept i ∙ ap (λ t. cond t (Some (get_or row i false)) (get_or before i None)) (le-ltb i i (omega arith))

  same_test : (line : ℕ) → (line ≡ i → ⊥) → nat_lt line i ≡ nat_lt line (i + 1)
  same_test line ne = elim (cases_lt line i) [
    | inl below ↦ lt-ltb line i below ∙ sym (lt-ltb line (i + 1) (omega arith))
    | inr above ↦ le-ltb line i above ∙ sym (le-ltb line (i + 1) (omega arith))
  ]

  kept_at : (line : ℕ) → get_or (set levels i (Some (get_or row i false))) line None ≡ cond (nat_lt line (i + 1)) (Some (get_or row line false)) (get_or before line None)
  kept_at line = elim (cases_eq line i) [
    | inl e ↦ (let long = so_far.long in let inside : i < length levels = omega arith in
        ap (λ k. get_or (set levels i (Some (get_or row i false))) k None) e ∙ get_or-set_same levels i (Some (get_or row i false)) None inside
        ∙ ap (λ k. Some (get_or row k false)) (sym e)
        ∙ ap (λ t. cond t (Some (get_or row line false)) (get_or before line None)) (sym (lt-ltb line (i + 1) (omega arith))))
    | inr ne ↦ (get_or-set_other levels i line (Some (get_or row i false)) None ne ∙ so_far.kept line
        ∙ ap (λ t. cond t (Some (get_or row line false)) (get_or before line None)) (same_test line ne))
  ]

  pub one_more_told : is_new (get_or levels i None) (get_or row i false) ≡ true → KeptSoFar before (set levels i (Some (get_or row i false))) time row (edges ++ record { line = i; time = time; level = get_or row i false } ∷ []) (i + 1)
  unfolding here rest
  one_more_told new = record {
    told = append_assoc edges (here ∷ []) rest
        ∙ ap (λ (es : List Edge). edges ++ es) (sym (next_said ∙ ap (λ t. cond t (here ∷ rest) rest) (sym (ap (λ o. is_new o (get_or row i false)) same_before) ∙ new)))
        ∙ so_far.told;
    below = below_push i time edges (get_or row i false) so_far.below;
    long = length-set {A = Option Bool} levels i (Some (get_or row i false)) ∙ so_far.long;
    kept = kept_at;
  }

  pub one_more_same : is_new (get_or levels i None) (get_or row i false) ≡ false → KeptSoFar before (set levels i (Some (get_or row i false))) time row edges (i + 1)
  unfolding here rest
  one_more_same old = record {
    told = ap (λ (es : List Edge). edges ++ es) (sym (next_said ∙ ap (λ t. cond t (here ∷ rest) rest) (sym (ap (λ o. is_new o (get_or row i false)) same_before) ∙ old)))
        ∙ so_far.told;
    below = below_higher i time edges so_far.below;
    long = length-set {A = Option Bool} levels i (Some (get_or row i false)) ∙ so_far.long;
    kept = kept_at;
  }

-- the number of fields
pub count_fields : (text : List ℕ) → length (fields text) ≡ count_by (λ b. b == 44) text + 1
unfolding fields
count_fields text = length-map (slice_split (λ b. b == 44) text) without_blanks ∙ length-slice_split (λ b. b == 44) text

-- a wide row, by what its fields spell
wide_count : (columns : ℕ) (time_at : Stamp → ℕ) (before : ℕ) (time : List ℕ) (levels : List (List ℕ)) → (length levels ≡ columns → ⊥) → wide_row columns time_at before (time ∷ levels) ≡ Err Field
unfolding wide_row
wide_count columns time_at before time levels ne = rw (ne_eqb (length levels) columns ne) refl

pub wrong_count : (columns : ℕ) (time_at : Stamp → ℕ) (before : ℕ) (content : List ℕ) → (count_by (λ b. b == 44) content ≡ columns → ⊥) → wide_row columns time_at before (fields content) ≡ Err Field
wrong_count columns time_at before content ne =
    let h = has_first_field content in
    let counted : suc (length h.others) ≡ count_by (λ b. b == 44) content + 1 = sym (ap length h.is) ∙ count_fields content in
    ap (wide_row columns time_at before) h.is ∙ wide_count columns time_at before h.first h.others (λ e. ne (omega arith))

-- the fields behind the first one are as many as the columns
pub record HasColumns (columns : ℕ) (content time : List ℕ) (rest : Option (List ℕ)) : Type 0 where
  pub parts : fields content ≡ without_blanks time ∷ fields_left rest
  pub counted : length (fields_left rest) ≡ columns

pub has_columns : (columns : ℕ) (content time : List ℕ) (rest : Option (List ℕ)) → (time, rest) ≡ cut_at 44 content → count_by (λ b. b == 44) content ≡ columns → HasColumns columns content time rest
has_columns columns content time rest e f =
    let parts = fields_cut content time rest e in
    let counted : suc (length (fields_left rest)) ≡ count_by (λ b. b == 44) content + 1 = sym (ap length parts) ∙ count_fields content in
    record { parts = parts; counted = omega arith }

module _ (columns : ℕ) (time_at : Stamp → ℕ) (before : ℕ) (time : List ℕ) (levels : List (List ℕ)) (counted : length levels ≡ columns) where
  pub wide_time_fault : (fault : LineFault) → Err fault ≡ seen_by time_at (time_field (Wide columns) time_at time) → wide_row columns time_at before (time ∷ levels) ≡ Err fault
  unfolding wide_row
  wide_time_fault fault e = rw (eq-eqb (length levels) columns counted) (bind_err time_at (time_field (Wide columns) time_at time) fault _ e)

  pub wide_level_fault : (stamp : Stamp) → time_field (Wide columns) time_at time ≡ Ok stamp → None ≡ levels_in levels → wide_row columns time_at before (time ∷ levels) ≡ Err Level
  unfolding wide_row
  wide_level_fault stamp e f = rw (eq-eqb (length levels) columns counted, e, sym f) refl

  pub wide_back_fault : (stamp : Stamp) (high : List Bool) → time_field (Wide columns) time_at time ≡ Ok stamp → Some high ≡ levels_in levels → time_at stamp < before → wide_row columns time_at before (time ∷ levels) ≡ Err TimeBack
  unfolding wide_row
  wide_back_fault stamp high e f back = rw (eq-eqb (length levels) columns counted, e, sym f, lt-leb before (time_at stamp) back) refl

  pub good_wide_row : (stamp : Stamp) (high : List Bool) → time_field (Wide columns) time_at time ≡ Ok stamp → Some high ≡ levels_in levels → before ≤ time_at stamp → wide_row columns time_at before (time ∷ levels) ≡ Ok (record { stamp = stamp; said = said_from 0 (time_at stamp) high })
  unfolding wide_row
  good_wide_row stamp high e f later = rw (eq-eqb (length levels) columns counted, e, sym f, le-leb before (time_at stamp) later) refl

-- what a wide row is, by what is known of its fields
pub judged_wide : (columns : ℕ) (time_at : Stamp → ℕ) (before : ℕ) (content time : List ℕ) (levels : List (List ℕ)) (r : Result Row LineFault) → fields content ≡ time ∷ levels → wide_row columns time_at before (time ∷ levels) ≡ r → wide_row columns time_at before (fields content) ≡ r
judged_wide columns time_at before content time levels r e f = ap (wide_row columns time_at before) e ∙ f

-- a wide row without a fault
pub stamped_wide : (columns : ℕ) (time_at : Stamp → ℕ) (before : ℕ) (content time : List ℕ) (levels : List (List ℕ)) (seen : ℕ) (high : List Bool) → fields content ≡ time ∷ levels → length levels ≡ columns → Ok seen ≡ seen_by time_at (time_field (Wide columns) time_at time) → Some high ≡ levels_in levels → before ≤ seen → IsStamped time_at (wide_row columns time_at before (fields content)) seen (said_from 0 seen high)
stamped_wide columns time_at before content time levels seen high parts counted e f later =
    let t = found time_at (time_field (Wide columns) time_at time) seen e in
    let seen_is : seen ≡ time_at t.value = t.seen_is in
    record {
      stamp = t.value;
      is = judged_wide columns time_at before content time levels _ parts (good_wide_row columns time_at before time levels counted t.value high t.is f (omega arith))
          ∙ ap (λ (k : ℕ). Ok (record { stamp = t.value; said = said_from 0 k high })) (sym seen_is);
      time_is = seen_is;
    }
