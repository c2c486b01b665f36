-- The edges of a row, kept as a level for each line.
use Rattle.std.proofs.Common.{◌≡◌, ℕ, zero, suc, ◌+◌, ◌<◌, ◌≤◌, ◌==◌, Bool, cond, Option, None, Some, List, [], ◌∷◌, ◌++◌, length, set, get_or, filter, refl, sym, ◌∙◌, ap, subst, arith}
use Rattle.std.specs.Option.{option_map, option_to_list}
use Rattle.std.proofs.lemmas.Bool.{eq-eqb, ne_eqb}
use Rattle.line_base.specs.declared.edge.Edge.{Edge}
use Rattle.edge_trace.specs.RowEdges.{edges_from, AreBelow}

-- there are at most as many edges as lines
pub few_edges : (line time : ℕ) (levels : List (Option Bool)) → length (edges_from line time levels) ≤ length levels
unfolding edges_from
few_edges line time [] = omega arith
few_edges line time (None ∷ levels) = omega (arith, few_edges (line + 1) time levels)
few_edges line time (Some level ∷ levels) = omega (arith, few_edges (line + 1) time levels)

-- where edges from a line on are below it, there are none
nothing_below : (base told time line at : ℕ) (levels : List (Option Bool)) → line ≤ base → AreBelow line at (edges_from base told levels) → edges_from base time levels ≡ []
unfolding edges_from AreBelow
nothing_below base told time line at [] le below = refl
nothing_below base told time line at (None ∷ levels) le below = nothing_below (base + 1) told time line at levels (omega arith) below
nothing_below base told time line at (Some level ∷ levels) le below = (let lt : base < line = below.0 in absurd (omega arith))

-- one more edge, of a line behind those that have one
pub put_level : (base told time line k : ℕ) (level : Bool) (levels : List (Option Bool)) → line ≡ base + k → k < length levels → AreBelow line time (edges_from base told levels) → edges_from base time (set levels k (Some level)) ≡ edges_from base told levels ++ record { line = line; time = time; level = level } ∷ []
unfolding edges_from AreBelow
put_level base told time line k level [] e within below = absurd (omega arith)
put_level base told time line zero level (None ∷ levels) e within below =
    let base_is : base ≡ line = omega arith in
    ap (λ es. record { line = base; time = time; level = level } ∷ es) (nothing_below (base + 1) told time line time levels (omega arith) below)
    ∙ ap (λ (n : ℕ). record { line = n; time = time; level = level } ∷ []) base_is
    ∙ ap (λ es. es ++ record { line = line; time = time; level = level } ∷ []) (sym (nothing_below (base + 1) told told line time levels (omega arith) below))
put_level base told time line zero level (Some old ∷ levels) e within below = (let lt : base < line = below.0 in absurd (omega arith))
put_level base told time line (suc k) level (None ∷ levels) e within below = put_level (base + 1) told time line k level levels (omega arith) (omega arith) below
put_level base told time line (suc k) level (Some old ∷ levels) e within below =
    ap (λ es. record { line = base; time = time; level = old } ∷ es) (put_level (base + 1) told time line k level levels (omega arith) (omega arith) below.2)
    ∙ ap (λ (t : ℕ). record { line = base; time = t; level = old } ∷ (edges_from (base + 1) told levels ++ record { line = line; time = time; level = level } ∷ [])) (sym below.1)

-- the edge of a line
none_on : (base time line : ℕ) (levels : List (Option Bool)) → line < base → filter (λ edge. edge.line == line) (edges_from base time levels) ≡ []
unfolding edges_from
none_on base time line [] lt = refl
none_on base time line (None ∷ levels) lt = none_on (base + 1) time line levels (omega arith)
none_on base time line (Some level ∷ levels) lt =
    let ne : base ≡ line → ⊥ = λ e. omega arith in
    ap (λ t. cond t (record { line = base; time = time; level = level } ∷ filter (λ edge. edge.line == line) (edges_from (base + 1) time levels)) (filter (λ edge. edge.line == line) (edges_from (base + 1) time levels))) (ne_eqb base line ne)
    ∙ none_on (base + 1) time line levels (omega arith)

pub one_on : (base time line k : ℕ) (levels : List (Option Bool)) → line ≡ base + k → filter (λ edge. edge.line == line) (edges_from base time levels) ≡ option_to_list (option_map (λ level. record { line = line; time = time; level = level }) (get_or levels k None))
unfolding edges_from
one_on base time line k [] e = refl
one_on base time line zero (None ∷ levels) e = none_on (base + 1) time line levels (omega arith)
one_on base time line zero (Some level ∷ levels) e =
    let same : base ≡ line = omega arith in
    ap (λ t. cond t (record { line = base; time = time; level = level } ∷ filter (λ edge. edge.line == line) (edges_from (base + 1) time levels)) (filter (λ edge. edge.line == line) (edges_from (base + 1) time levels))) (eq-eqb base line same)
    ∙ ap (λ es. record { line = base; time = time; level = level } ∷ es) (none_on (base + 1) time line levels (omega arith))
    ∙ ap (λ (n : ℕ). record { line = n; time = time; level = level } ∷ []) same
one_on base time line (suc k) (None ∷ levels) e = one_on (base + 1) time line k levels (omega arith)
one_on base time line (suc k) (Some level ∷ levels) e =
    let ne : base ≡ line → ⊥ = λ f. omega arith in
    ap (λ t. cond t (record { line = base; time = time; level = level } ∷ filter (λ edge. edge.line == line) (edges_from (base + 1) time levels)) (filter (λ edge. edge.line == line) (edges_from (base + 1) time levels))) (ne_eqb base line ne)
    ∙ one_on (base + 1) time line k levels (omega arith)

past_end : (levels : List (Option Bool)) (k : ℕ) → length levels ≤ k → get_or levels k None ≡ None
past_end [] k le = refl
past_end (level ∷ levels) zero le = absurd (omega arith)
past_end (level ∷ levels) (suc k) le = past_end levels k (omega arith)

pub no_edge_on : (time line : ℕ) (levels : List (Option Bool)) → length levels ≤ line → [] ≡ filter (λ edge. edge.line == line) (edges_from 0 time levels)
no_edge_on time line levels past = sym (one_on 0 time line line levels (omega arith) ∙ ap (λ o. option_to_list (option_map (λ level. record { line = line; time = time; level = level }) o)) (past_end levels line past))

pub edge_on_line : (time line : ℕ) (levels : List (Option Bool)) (o : Option Bool) → get_or levels line None ≡ o → option_to_list (option_map (λ level. record { line = line; time = time; level = level }) o) ≡ filter (λ edge. edge.line == line) (edges_from 0 time levels)
edge_on_line time line levels o e = sym (one_on 0 time line line levels (omega arith) ∙ ap (λ o. option_to_list (option_map (λ level. record { line = line; time = time; level = level }) o)) e)

-- edges below a line
pub none_below : (line time : ℕ) (edges : List Edge) → edges ≡ [] → AreBelow line time edges
unfolding AreBelow
none_below line time edges e = subst (AreBelow line time) (sym e) tt

pub below_higher : (line time : ℕ) (edges : List Edge) → AreBelow line time edges → AreBelow (line + 1) time edges
unfolding AreBelow
below_higher line time [] below = tt
below_higher line time (edge ∷ edges) below = ((let lt = below.0 in omega arith), below.1, below_higher line time edges below.2)

pub below_push : (line time : ℕ) (edges : List Edge) (level : Bool) → AreBelow line time edges → AreBelow (line + 1) time (edges ++ record { line = line; time = time; level = level } ∷ [])
unfolding AreBelow
below_push line time [] level below = (omega arith, refl, tt)
below_push line time (edge ∷ edges) level below = ((let lt = below.0 in omega arith), below.1, below_push line time edges level below.2)
