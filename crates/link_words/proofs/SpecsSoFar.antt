-- The SPECs of a command, read from the left.
use Rattle.std.proofs.Common.{◌≡◌, ℕ, suc, ◌+◌, ◌-◌, ◌<◌, ◌≤◌, Bool, nat_le, Result, Ok, Err, List, [], ◌∷◌, ◌++◌, All, None, length, take, refl, sym, ap, ◌∙◌, append_assoc, append-nil, length-append, arith, rules}
use Rattle.std.proofs.Math.Seq.{take-append_seam, take-append-add}
use Rattle.std.proofs.lemmas.List.{take_all}
use Rattle.std.proofs.lemmas.List.Elements.{All-append}
use Rattle.std.proofs.lemmas.Bool.{le-leb, lt-leb}
use Rattle.line_base.specs.declared.faults.WordFault.TheVariants as fault
use Rattle.receiver_core.specs.declared.setup.ChannelSetup.{ChannelSetup}
use Rattle.receiver_core.specs.Setups.{setup_fault_of}
use Rattle.link_words.specs.declared.command.WordsFault.{WordsFault}
use Rattle.line_base.specs.Steps as step
use Rattle.link_words.specs.Commands.{fault_at, refused, spec_at, specs_at, setups_read}

-- these setups before those that are read later
abbrev pub onto : List ChannelSetup → Result (List ChannelSetup) WordsFault → Result (List ChannelSetup) WordsFault
onto setups later = step.◌>>=◌ later (λ others. Ok (setups ++ others))

-- the setups are those of the SPECs so far, and whatever comes behind them is read as it is alone, by its own number
pub record ReadSoFar (words : List (List ℕ)) (setups : List ChannelSetup) (rest : List (List ℕ)) : Type 0 where
  pub done : List (List ℕ)
  pub split : words ≡ done ++ rest
  pub counted : length setups ≡ length done
  pub some : 1 ≤ length setups
  pub few : length setups ≤ 16
  pub faultless : All (λ setup. setup_fault_of setup ≡ None) setups
  pub goes_on : (more : List (List ℕ)) → specs_at 2 (done ++ more) ≡ onto setups (specs_at (length setups + 2) more)

read_cons : (place : ℕ) (spec : List ℕ) (specs : List (List ℕ)) (setup : ChannelSetup) → Ok setup ≡ spec_at place spec → specs_at place (spec ∷ specs) ≡ onto (setup ∷ []) (specs_at (place + 1) specs)
unfolding specs_at
read_cons place spec specs setup e = ap (λ (r : Result ChannelSetup WordsFault). step.◌>>=◌ r (λ first. step.◌>>=◌ (specs_at (place + 1) specs) (λ others. Ok (first ∷ others)))) (sym e)

read_stop : (place : ℕ) (spec : List ℕ) (specs : List (List ℕ)) (fault : WordsFault) → Err fault ≡ spec_at place spec → specs_at place (spec ∷ specs) ≡ Err fault
unfolding specs_at
read_stop place spec specs fault e = ap (λ (r : Result ChannelSetup WordsFault). step.◌>>=◌ r (λ first. step.◌>>=◌ (specs_at (place + 1) specs) (λ others. Ok (first ∷ others)))) (sym e)

no_more : (place : ℕ) → specs_at place [] ≡ Ok []
unfolding specs_at
no_more place = refl

onto_append : (setups : List ChannelSetup) (setup : ChannelSetup) (later : Result (List ChannelSetup) WordsFault) → onto setups (onto (setup ∷ []) later) ≡ onto (setups ++ setup ∷ []) later
onto_append setups setup (Ok others) = ap (λ (l : List ChannelSetup). Ok l) (sym (append_assoc setups (setup ∷ []) others))
onto_append setups setup (Err fault) = refl

All-one : (setup : ChannelSetup) → setup_fault_of setup ≡ None → All (λ s. setup_fault_of s ≡ None) (setup ∷ [])
All-one setup good = search (rules, good)

-- the first SPEC
pub first_read : (spec : List ℕ) (rest : List (List ℕ)) (setup : ChannelSetup) → Ok setup ≡ spec_at 2 spec → setup_fault_of setup ≡ None → ReadSoFar (spec ∷ rest) (setup ∷ []) rest
first_read spec rest setup e good = record {
  done = spec ∷ [];
  split = refl;
  counted = refl;
  some = omega arith;
  few = omega arith;
  faultless = All-one setup good;
  goes_on = λ more. read_cons 2 spec more setup e;
}

-- one more SPEC
pub one_more : (words : List (List ℕ)) (setups : List ChannelSetup) (spec : List ℕ) (rest : List (List ℕ)) (setup : ChannelSetup) → ReadSoFar words setups (spec ∷ rest) → length setups < 16 → Ok setup ≡ spec_at (length setups + 2) spec → setup_fault_of setup ≡ None → ReadSoFar words (setups ++ setup ∷ []) rest
one_more words setups spec rest setup so_far room e good =
    let longer : length (setups ++ setup ∷ []) ≡ length setups + 1 = length-append setups (setup ∷ []) in
    let next : (length setups + 2) + 1 ≡ length (setups ++ setup ∷ []) + 2 = omega arith in
    record {
      done = so_far.done ++ spec ∷ [];
      split = so_far.split ∙ sym (append_assoc so_far.done (spec ∷ []) rest);
      counted = longer ∙ ap (λ (n : ℕ). n + 1) so_far.counted ∙ sym (length-append so_far.done (spec ∷ []));
      some = omega arith;
      few = omega arith;
      faultless = All-append (λ s. setup_fault_of s ≡ None) setups (setup ∷ []) so_far.faultless (All-one setup good);
      goes_on = λ more.
          ap (specs_at 2) (append_assoc so_far.done (spec ∷ []) more)
          ∙ so_far.goes_on (spec ∷ more)
          ∙ ap (onto setups) (read_cons (length setups + 2) spec more setup e)
          ∙ onto_append setups setup (specs_at ((length setups + 2) + 1) more)
          ∙ ap (λ (n : ℕ). onto (setups ++ setup ∷ []) (specs_at n more)) next;
    }

-- what is read of the first sixteen words, where there are no more
abbrev pub bounded : List (List ℕ) → Result (List ChannelSetup) WordsFault → Result (List ChannelSetup) WordsFault
bounded words read = step.◌>>=◌ read (λ setups. step.◌>>=◌ (step.check (nat_le (length words) 16) (fault_at 18 fault.Channels)) (λ _. Ok setups))

there_are : (words : List (List ℕ)) → 1 ≤ length words → setups_read words ≡ bounded words (specs_at 2 (take 16 words))
unfolding setups_read
there_are words some = ap (λ (t : Bool). step.◌>>=◌ (step.check t (fault_at 2 fault.Missing)) (λ _. bounded words (specs_at 2 (take 16 words)))) (le-leb _ _ some)

at_most : (words : List (List ℕ)) (setups : List ChannelSetup) → length words ≤ 16 → bounded words (Ok setups) ≡ Ok setups
at_most words setups few = ap (λ (t : Bool). step.◌>>=◌ (step.check t (fault_at 18 fault.Channels)) (λ _. Ok setups)) (le-leb _ _ few)

too_long : (words : List (List ℕ)) (setups : List ChannelSetup) → 16 < length words → bounded words (Ok setups) ≡ refused 18 fault.Channels
too_long words setups many = ap (λ (t : Bool). step.◌>>=◌ (step.check t (fault_at 18 fault.Channels)) (λ _. Ok setups)) (lt-leb _ _ many)

-- there is no SPEC
pub none_read : (words : List (List ℕ)) → length words ≡ 0 → setups_read words ≡ refused 2 fault.Missing
unfolding setups_read
none_read [] none = refl
none_read (word ∷ words) none = absurd (omega arith)

-- the first SPEC has a fault
pub bad_first : (spec : List ℕ) (rest : List (List ℕ)) (fault : WordsFault) → Err fault ≡ spec_at 2 spec → setups_read (spec ∷ rest) ≡ Err fault
bad_first spec rest fault e = there_are (spec ∷ rest) (omega arith) ∙ ap (bounded (spec ∷ rest)) (read_stop 2 spec (take 15 rest) fault e)

module _ (words : List (List ℕ)) (setups : List ChannelSetup) (rest : List (List ℕ)) (so_far : ReadSoFar words setups rest) where
  length_words : length words ≡ length setups + length rest
  length_words = ap length so_far.split ∙ length-append so_far.done rest ∙ ap (λ (n : ℕ). n + length rest) (sym so_far.counted)

  -- the SPECs so far
  read_so_far : specs_at 2 so_far.done ≡ Ok setups
  read_so_far =
      ap (specs_at 2) (sym (append-nil so_far.done)) ∙ so_far.goes_on [] ∙ ap (onto setups) (no_more (length setups + 2))
      ∙ ap (λ (l : List ChannelSetup). Ok l) (append-nil setups)

-- a SPEC with a fault, among the first sixteen
pub bad_spec : (words : List (List ℕ)) (setups : List ChannelSetup) (spec : List ℕ) (rest : List (List ℕ)) (fault : WordsFault) → ReadSoFar words setups (spec ∷ rest) → length setups < 16 → Err fault ≡ spec_at (length setups + 2) spec → setups_read words ≡ Err fault
bad_spec words setups spec rest fault so_far room e =
    let counted : length setups ≡ length so_far.done = so_far.counted in
    let left : 16 ≡ length so_far.done + suc (15 - length so_far.done) = omega arith in
    let taken : take 16 words ≡ so_far.done ++ spec ∷ take (15 - length so_far.done) rest =
    ap (take 16) so_far.split ∙ ap (λ (n : ℕ). take n (so_far.done ++ spec ∷ rest)) left ∙ take-append-add so_far.done (spec ∷ rest) (suc (15 - length so_far.done)) in
    let total : length words ≡ length setups + suc (length rest) = length_words words setups (spec ∷ rest) so_far in
    there_are words (omega arith)
    ∙ ap (λ (l : List (List ℕ)). bounded words (specs_at 2 l)) taken
    ∙ ap (bounded words) (so_far.goes_on (spec ∷ take (15 - length so_far.done) rest) ∙ ap (onto setups) (read_stop (length setups + 2) spec (take (15 - length so_far.done) rest) fault e))

-- the seventeenth SPEC
pub too_many : (words : List (List ℕ)) (setups : List ChannelSetup) (spec : List ℕ) (rest : List (List ℕ)) → ReadSoFar words setups (spec ∷ rest) → length setups ≡ 16 → setups_read words ≡ refused 18 fault.Channels
too_many words setups spec rest so_far full =
    let total : length words ≡ length setups + suc (length rest) = length_words words setups (spec ∷ rest) so_far in
    let left : 16 ≡ length so_far.done = sym full ∙ so_far.counted in
    let taken : take 16 words ≡ so_far.done =
    ap (take 16) so_far.split ∙ ap (λ (n : ℕ). take n (so_far.done ++ spec ∷ rest)) left ∙ take-append_seam so_far.done (spec ∷ rest) in
    there_are words (omega arith)
    ∙ ap (bounded words) (ap (specs_at 2) taken ∙ read_so_far words setups (spec ∷ rest) so_far)
    ∙ too_long words setups (omega arith)

-- all SPECs
pub all_read : (words : List (List ℕ)) (setups : List ChannelSetup) (rest : List (List ℕ)) → ReadSoFar words setups rest → length rest ≡ 0 → setups_read words ≡ Ok setups
all_read words setups (spec ∷ rest) so_far none = absurd (omega arith)
all_read words setups [] so_far none =
    let some : 1 ≤ length setups = so_far.some in
    let few : length setups ≤ 16 = so_far.few in
    let total : length words ≡ length setups + 0 = length_words words setups [] so_far in
    let taken : take 16 words ≡ so_far.done = take_all 16 words (omega arith) ∙ so_far.split ∙ append-nil so_far.done in
    there_are words (omega arith)
    ∙ ap (bounded words) (ap (specs_at 2) taken ∙ read_so_far words setups [] so_far)
    ∙ at_most words setups (omega arith)
