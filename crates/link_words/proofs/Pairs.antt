-- The pairs of a SPEC, read from the left.
use Rattle.std.proofs.Common.{◌≡◌, ℕ, Option, Some, None, Result, Ok, Err, List, [], ◌∷◌, refl, sym, ◌∙◌, ap, subst}
use denote.Ref.{Bor}
use Rattle.std.specs.Option.{option_copied}
use Rattle.line_base.specs.declared.faults.WordFault.{WordFault}
use Rattle.line_base.specs.Texts.{cut_at}
use Rattle.line_base.proofs.Cuts.{split_none, split_some}
use Rattle.link_words.specs.declared.setting.Chosen.{Chosen}
use Rattle.link_words.specs.declared.setting.Setting.{Setting}
use Rattle.link_words.specs.Choices.{Holds}
use Rattle.link_words.specs.declared.spec.Kind.{Kind}
use Rattle.line_base.specs.Steps as step
use Rattle.link_words.specs.Specs.{pair_read, pairs_read, pairs_in}

-- the pairs of what is left, if anything is
abbrev pub pairs_left : Option (List ℕ) → List (List ℕ)
pairs_left None = []
pairs_left (Some rest) = pairs_in rest

pairs_cut : (text pair : List ℕ) (others : Option (List ℕ)) → (pair, others) ≡ cut_at 44 text → pairs_in text ≡ pair ∷ pairs_left others
pairs_cut text pair None e = split_none 44 text pair e
pairs_cut text pair (Some rest) e = split_some 44 text pair rest e

-- what was chosen is what the pairs so far say, and reading what is left behind them reads all
pub record ReadSoFar (kind : Kind) (text : List ℕ) (chosen : Chosen) (rest : Option (List ℕ)) : Type 0 where
  pub settings : List Setting
  pub held : Holds chosen settings
  pub all : pairs_read kind settings (pairs_left rest) ≡ pairs_read kind [] (pairs_in text)

pub so_far_at : (kind : Kind) (text : List ℕ) (chosen : Chosen) (rest after : Option (Bor (List ℕ))) → ReadSoFar kind text chosen (option_copied rest) → rest ≡ after → ReadSoFar kind text chosen (option_copied after)
so_far_at kind text chosen rest after so_far e = subst (λ (r : Option (Bor (List ℕ))). ReadSoFar kind text chosen (option_copied r)) e so_far

pub none_read : (kind : Kind) (text : List ℕ) (chosen : Chosen) → Holds chosen [] → ReadSoFar kind text chosen (Some text)
none_read kind text chosen held = record { settings = []; held = held; all = refl }

read_cons : (kind : Kind) (before : List Setting) (pair : List ℕ) (pairs : List (List ℕ)) (setting : Setting) → Ok setting ≡ pair_read kind before pair → pairs_read kind before (pair ∷ pairs) ≡ pairs_read kind (setting ∷ before) pairs
unfolding pairs_read
read_cons kind before pair pairs setting e = ap (λ (r : Result Setting WordFault). step.◌>>=◌ r (λ s. pairs_read kind (s ∷ before) pairs)) (sym e)

read_stop : (kind : Kind) (before : List Setting) (pair : List ℕ) (pairs : List (List ℕ)) (fault : WordFault) → Err fault ≡ pair_read kind before pair → pairs_read kind before (pair ∷ pairs) ≡ Err fault
unfolding pairs_read
read_stop kind before pair pairs fault e = ap (λ (r : Result Setting WordFault). step.◌>>=◌ r (λ s. pairs_read kind (s ∷ before) pairs)) (sym e)

no_more : (kind : Kind) (before : List Setting) → pairs_read kind before [] ≡ Ok before
unfolding pairs_read
no_more kind before = refl

-- one more pair
pub one_more : (kind : Kind) (text here pair : List ℕ) (others : Option (List ℕ)) (chosen after : Chosen) (setting : Setting) → (so_far : ReadSoFar kind text chosen (Some here)) → (pair, others) ≡ cut_at 44 here → ((before : List Setting) → Holds chosen before → Ok setting ≡ pair_read kind before pair) → ((settings : List Setting) → Holds chosen settings → Holds after (setting ∷ settings)) → ReadSoFar kind text after others
one_more kind text here pair others chosen after setting so_far e f put = record {
  settings = setting ∷ so_far.settings;
  held = put so_far.settings so_far.held;
  all = sym (ap (pairs_read kind so_far.settings) (pairs_cut here pair others e) ∙ read_cons kind so_far.settings pair (pairs_left others) setting (f so_far.settings so_far.held)) ∙ so_far.all;
}

-- a pair with a fault
pub bad_pair : (kind : Kind) (text here pair : List ℕ) (others : Option (List ℕ)) (chosen : Chosen) (fault : WordFault) → (so_far : ReadSoFar kind text chosen (Some here)) → (pair, others) ≡ cut_at 44 here → ((before : List Setting) → Holds chosen before → Err fault ≡ pair_read kind before pair) → pairs_read kind [] (pairs_in text) ≡ Err fault
bad_pair kind text here pair others chosen fault so_far e f =
    sym so_far.all ∙ ap (pairs_read kind so_far.settings) (pairs_cut here pair others e) ∙ read_stop kind so_far.settings pair (pairs_left others) fault (f so_far.settings so_far.held)

-- all pairs
pub all_read : (kind : Kind) (text : List ℕ) (chosen : Chosen) → ReadSoFar kind text chosen None → (settings : List Setting) × Holds chosen settings × (pairs_read kind [] (pairs_in text) ≡ Ok settings)
all_read kind text chosen so_far = (so_far.settings, so_far.held, sym so_far.all ∙ no_more kind so_far.settings)
