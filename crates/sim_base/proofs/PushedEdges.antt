-- Edges that are added one by one, each with the edge back.
--     AddsEdges        what is there so far, and what the edges that are left come to
--     adds-next        one more
--     adds-end         none is left
use Rattle.std.proofs.Common.{◌≡◌, ℕ, ◌+◌, ◌<◌, ◌≤◌, Bool, not, List, [], ◌∷◌, ◌++◌, length, drop, get_or, refl, sym, subst, ◌∙◌, append_assoc, append-nil, add-one, drop-cons}
use Rattle.std.proofs.lemmas.List.{drop_all}
use Rattle.rand_pcg.specs.Lcg.{Lcg}
use Rattle.line_base.specs.declared.edge.Edge.{Edge}
use Rattle.sim_base.specs.Recordings.{edge_at, pulses_at, recorded_at, recorded_by}
use Rattle.sim_base.specs.Wobbles.{behind_word, past, word, words}

-- the edges that are ideal at these times, by the words of a generator
abbrev pub drawn_edges : ℕ → Bool → ℕ → ℕ → List ℕ → Lcg → List Edge
drawn_edges line level width jitter ideals g = pulses_at line level width (recorded_by jitter ideals (words (length ideals) g))

pub record AddsEdges (line : ℕ) (level : Bool) (width jitter : ℕ) (ideals : List ℕ) (edges : List Edge) (g : Lcg) (all : List Edge) (end : Lcg) : Type 0 where
  pub edges_are : edges ++ drawn_edges line level width jitter ideals g ≡ all
  pub ends : past (length ideals) g ≡ end

adds-one : (line : ℕ) (level : Bool) (width jitter ideal : ℕ) (ideals : List ℕ) (edges : List Edge) (g : Lcg) (all : List Edge) (end : Lcg) → AddsEdges line level width jitter (ideal ∷ ideals) edges g all end
    → AddsEdges line level width jitter ideals ((edges ++ edge_at line (recorded_at jitter ideal (word g)) level ∷ []) ++ edge_at line (recorded_at jitter ideal (word g) + width) (not level) ∷ []) (behind_word g) all end
unfolding words past pulses_at recorded_by
adds-one line level width jitter ideal ideals edges g all end so_far =
    let first = edge_at line (recorded_at jitter ideal (word g)) level in
    let second = edge_at line (recorded_at jitter ideal (word g) + width) (not level) in
    let others = drawn_edges line level width jitter ideals (behind_word g) in
    record {
      edges_are = append_assoc (edges ++ first ∷ []) (second ∷ []) others ∙ append_assoc edges (first ∷ []) (second ∷ others) ∙ so_far.edges_are;
      ends = so_far.ends;
    }

adds-all : (line : ℕ) (level : Bool) (width jitter : ℕ) (edges : List Edge) (g : Lcg) (all : List Edge) (end : Lcg) → AddsEdges line level width jitter [] edges g all end → (edges ≡ all) × (g ≡ end)
unfolding words past pulses_at recorded_by
adds-all line level width jitter edges g all end so_far = (sym (append-nil edges) ∙ so_far.edges_are, so_far.ends)

-- the edge at this place of a list
pub adds-next : (line : ℕ) (level : Bool) (width jitter ideal : ℕ) (ideals : List ℕ) (place : ℕ) (edges more : List Edge) (time : ℕ) (g behind : Lcg) (all : List Edge) (end : Lcg) → place < length ideals
    → AddsEdges line level width jitter (drop place ideals) edges g all end → ideal ≡ get_or ideals place 0
    → time ≡ recorded_at jitter ideal (word g) → more ≡ (edges ++ edge_at line time level ∷ []) ++ edge_at line (time + width) (not level) ∷ [] → behind ≡ behind_word g
    → AddsEdges line level width jitter (drop (place + 1) ideals) more behind all end
adds-next line level width jitter ideal ideals place edges more time g behind all end within so_far ideal_is time_is more_is behind_is =
    let here : drop place ideals ≡ ideal ∷ drop (place + 1) ideals = rw (add-one, drop-cons ideals place 0, ideal_is) refl in
    let next = adds-one line level width jitter ideal (drop (place + 1) ideals) edges g all end (subst (λ l. AddsEdges line level width jitter l edges g all end) here so_far) in
    let to_time = subst (λ t. AddsEdges line level width jitter (drop (place + 1) ideals) ((edges ++ edge_at line t level ∷ []) ++ edge_at line (t + width) (not level) ∷ []) (behind_word g) all end) (sym time_is) next in
    let to_edges = subst (λ l. AddsEdges line level width jitter (drop (place + 1) ideals) l (behind_word g) all end) (sym more_is) to_time in
    subst (λ b. AddsEdges line level width jitter (drop (place + 1) ideals) more b all end) (sym behind_is) to_edges

-- at the end of a list
pub adds-end : (line : ℕ) (level : Bool) (width jitter : ℕ) (ideals : List ℕ) (place : ℕ) (edges : List Edge) (g : Lcg) (all : List Edge) (end : Lcg) → length ideals ≤ place
    → AddsEdges line level width jitter (drop place ideals) edges g all end → (edges ≡ all) × (g ≡ end)
adds-end line level width jitter ideals place edges g all end past_all so_far =
    adds-all line level width jitter edges g all end (subst (λ l. AddsEdges line level width jitter l edges g all end) (drop_all place ideals past_all) so_far)
