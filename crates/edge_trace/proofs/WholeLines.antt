-- The reader that takes a whole line at the front of a block.
use Rattle.std.proofs.Common.{◌≡◌, ℕ, nat_lt, false, Bool, ◌^◌, ◌==◌, cond, filter, Ok, ◌+◌, ◌-◌, ◌<◌, ◌≤◌, min, Option, Some, None, List, [], ◌∷◌, ◌++◌, length, take, get_or, refl, sym, ◌∙◌, ap, subst, arith}
use Rattle.std.proofs.lemmas.List.{take_more, append_assoc, length-take-le, get_or-take}
use Rattle.text_lines.specs.Lines.{without_cr}
use Rattle.edge_trace.specs.EdgeLists.{content_read, Read, is_new, row_read}
use Rattle.edge_trace.specs.Limits.{answers_of}
use Rattle.edge_trace.specs.Rows.{Stamp, time_of, said_from}
use Rattle.edge_trace.specs.Readings.{HasRead, HasLevels, IsForm, form_of}
use Rattle.edge_trace.specs.Readers.{answers_with, answers_of_row, answers_of_read, StandsFor, IsBehind}
use Rattle.edge_trace.specs.declared.reader.EdgeReader.{EdgeReader}
use Rattle.edge_trace.proofs.StandingFor.{going_of}
use Rattle.edge_trace.proofs.Runs.{takes_front}
use Rattle.edge_trace.proofs.Feeding.{lf_is_behind, lf_answers}
use Rattle.std.specs.Option.{option_to_list}
use Rattle.line_base.specs.declared.edge.Edge.{Edge}
use Rattle.edge_trace.specs.declared.form.Form as code
use Rattle.edge_trace.specs.declared.form.Form.TheVariants as form
use Rattle.edge_trace.specs.declared.state.State.TheVariants as state
use Rattle.edge_trace.specs.PlainRows.{IsLineFront, IsRowFront}
use Rattle.edge_trace.specs.WideFronts.{IsWideFront}
use Rattle.edge_trace.proofs.PlainFronts.{no_low, no_cr, not_skipped}
use Rattle.edge_trace.proofs.Reading.{later_row, narrow_read, wide_read}

joined : (seen block : List ℕ) (count : ℕ) → count < length block → get_or block count 0 ≡ 10 → (seen ++ take count block) ++ 10 ∷ [] ≡ seen ++ take (count + 1) block
joined seen block count less lf =
    append_assoc seen (take count block) (10 ∷ [])
    ∙ ap (λ byte. seen ++ (take count block ++ byte ∷ [])) (sym lf)
    ∙ ap (λ line. seen ++ line) (sym (take_more block count 0 less))

empty_line : (line : List ℕ) → length line ≡ 0 → line ≡ []
empty_line [] e = refl
empty_line (byte ∷ bytes) e = absurd (omega arith)

-- the reader took a row: it stands for the bytes with it, and answered what they tell more
pub record TakesRow (reader : EdgeReader) (seen line : List ℕ) (edges : List Edge) : Type 0 where
  pub stands : StandsFor reader (seen ++ line)
  pub grows : answers_of (seen ++ line) ≡ answers_of seen ++ answers_of_row edges

answers_row : (read : Read) (edges : List Edge) → edges ≡ read.edges → answers_of_read (Ok read) ≡ answers_of_row edges
answers_row read [] e = ap (λ es. answers_of_read (Ok (record { standing = read.standing; edges = es }))) (sym e)
answers_row read (edge ∷ edges) e = ap (λ es. answers_of_read (Ok (record { standing = read.standing; edges = es }))) (sym e)

module _ (old new : EdgeReader) (kind : code.Form) (before time : ℕ) (seen block : List ℕ) (count : ℕ) (edges : List Edge) (front : IsLineFront block count) where
  pub takes_line : StandsFor old seen → old.state ≡ Some (state.Rows kind before) → length old.line ≡ 0 → count < old.room
      → new.state ≡ Some (state.Rows kind time) → new.room ≡ min 512 new.left → new.line ≡ [] → new.ended ≡ min (old.ended + 1) 18446744073709551615 → new.left ≡ old.left - (count + 1)
      → ((stamps : List Stamp) (rows : List Edge) → before ≡ time_of (form_of kind) stamps → HasLevels old.levels rows → IsForm kind → HasRead (state.Rows kind time) new.levels edges (row_read (form_of kind) stamps rows (take count block)))
      → TakesRow new seen (take (count + 1) block) edges
  takes_line stands state_is empty less new_state room_is line_is ended_is left_is reads =
      let text : List ℕ = take count block in
      let long : length text ≡ count = length-take-le count block (let w = front.within in omega arith) in
      let mid : EdgeReader = record old { line = text } in
      let none_before = empty_line old.line empty in
      let own = going_of old (state.Rows kind before) seen stands state_is in
      let own_room = own.room_is in
      let no_lf : (k : ℕ) → k < count → get_or block k 0 ≡ 10 → ⊥ = λ k few lf. (let h = no_low text k front.high (omega arith) in let same = get_or-take count block k 0 few in omega arith) in
      let run = takes_front old mid seen block count stands (let w = front.within in omega arith) (omega arith) no_lf refl refl (ap (λ line. line ++ text) (sym none_before)) refl refl refl in
      let going = going_of mid (state.Rows kind before) (seen ++ text) run.stands state_is in
      let row = later_row (state.Rows kind before) kind before old.levels going.standing text refl going.at (not_skipped text (let s = front.some in omega arith) front.high) in
      let has = reads row.stamps row.rows row.time_is row.levels_are row.form_is in
      let read : content_read going.standing (without_cr text) ≡ Ok has.next = ap (content_read going.standing) (no_cr text front.high) ∙ sym row.same ∙ has.is in
      let some : length text < old.left = omega arith in
      let same = joined seen block count front.within front.ends in
      record {
        stands = subst (StandsFor new) same (lf_is_behind mid (state.Rows kind before) (seen ++ text) going new some
            (subst (IsBehind new) (sym read) (state.Rows kind time, new_state, has.at, room_is)) line_is ended_is (left_is ∙ ap (λ n. old.left - (n + 1)) (sym long)));
        grows = ap answers_of (sym same) ∙ lf_answers mid (state.Rows kind before) (seen ++ text) going some
            ∙ ap (λ r. answers_of (seen ++ text) ++ answers_of_read r) read
            ∙ ap (λ answers. answers_of (seen ++ text) ++ answers) (answers_row has.next edges has.edges_are)
            ∙ ap (λ answers. answers ++ answers_of_row edges) run.quiet;
      }

-- the reader took a row of one edge or none
pub record TakesEdge (reader : EdgeReader) (seen line : List ℕ) (told : Option Edge) : Type 0 where
  pub stands : StandsFor reader (seen ++ line)
  pub grows : answers_of (seen ++ line) ≡ answers_of seen ++ answers_with told

answers_edge : (told : Option Edge) → answers_of_row (option_to_list told) ≡ answers_with told
answers_edge None = refl
answers_edge (Some edge) = refl

module _ (old new : EdgeReader) (kind : code.Form) (before : ℕ) (seen block : List ℕ) (count : ℕ) (edge : Edge) (told : Option Edge) (front : IsRowFront (form_of kind) before block edge count) where
  pub takes_row : StandsFor old seen → old.state ≡ Some (state.Rows kind before) → length old.line ≡ 0 → ((columns : ℕ) → kind ≡ form.Wide columns → ⊥) → edge.time ≤ 10 ^ 15 → count < old.room
      → new.state ≡ Some (state.Rows kind edge.time) → new.room ≡ min 512 new.left → new.line ≡ [] → new.ended ≡ min (old.ended + 1) 18446744073709551615 → new.left ≡ old.left - (count + 1)
      → filter (λ (row : Edge). is_new (get_or old.levels row.line None) row.level) (edge ∷ []) ≡ option_to_list told
      → ((line : ℕ) → get_or new.levels line None ≡ cond (edge.line == line) (Some edge.level) (get_or old.levels line None))
      → TakesEdge new seen (take (count + 1) block) told
  takes_row stands state_is empty other in_range less new_state room_is line_is ended_is left_is edges levels =
      let row = takes_line old new kind before edge.time seen block count (option_to_list told) front.front stands state_is empty less new_state room_is line_is ended_is left_is
      (λ stamps rows e has is_form. narrow_read stamps rows before edge.time (take count block) old.levels new.levels (option_to_list told) kind edge other e has front.row (sym edges) levels in_range is_form) in
      record {
        stands = row.stands;
        grows = row.grows ∙ ap (λ answers. answers_of seen ++ answers) (answers_edge told);
      }

module _ (old new : EdgeReader) (columns before time : ℕ) (levels : List Bool) (seen block : List ℕ) (count : ℕ) (edges : List Edge) (front : IsWideFront columns before block time levels count) where
  pub takes_wide_row : StandsFor old seen → old.state ≡ Some (state.Rows (form.Wide columns) before) → length old.line ≡ 0 → time ≤ 10 ^ 15 → count < old.room
      → new.state ≡ Some (state.Rows (form.Wide columns) time) → new.room ≡ min 512 new.left → new.line ≡ [] → new.ended ≡ min (old.ended + 1) 18446744073709551615 → new.left ≡ old.left - (count + 1)
      → edges ≡ filter (λ (row : Edge). is_new (get_or old.levels row.line None) row.level) (said_from 0 time levels)
      → ((line : ℕ) → get_or new.levels line None ≡ cond (nat_lt line (length levels)) (Some (get_or levels line false)) (get_or old.levels line None))
      → TakesRow new seen (take (count + 1) block) edges
  takes_wide_row stands state_is empty in_range less new_state room_is line_is ended_is left_is told kept =
      takes_line old new (form.Wide columns) before time seen block count edges front.front stands state_is empty less new_state room_is line_is ended_is left_is
      (λ stamps rows e has is_form. wide_read stamps rows before time (take count block) old.levels new.levels edges columns levels e has front.row told kept in_range is_form)
