-- A listener that gets edges with gaps.
use Rattle.std.proofs.Common.{◌≡◌, ◌≢◌, ℕ, ◌+◌, ◌-◌, ◌%◌, ◌<◌, Bool, true, false, List, [], ◌∷◌, ◌++◌, length, map, refl, ap, sym, subst, ◌∙◌, arith, length-append}
use Rattle.std.proofs.lemmas.List.{map-append}
use Rattle.line_base.specs.Thinned.{thinned}
use Rattle.line_base.specs.declared.edge.Edge.{Edge}
use Rattle.line_base.specs.declared.edge.Item.{Item}
use Rattle.line_base.specs.declared.edge.Item.TheVariants as item
use Rattle.receiver_core.specs.declared.setup.ChannelSetup.{ChannelSetup}
use Rattle.line_base.specs.Items.{edges_counted}
use Rattle.receiver_core.specs.Channels.{final, so_far}
use Rattle.loop_command.specs.declared.gaps.GapListener.{GapListener}
use Rattle.receiver_core.specs.declared.counted_receiver.CountedReceiver.{CountedReceiver}
use Rattle.receiver_core.specs.Tallies.{tally_of}
use Rattle.loop_command.specs.declared.listeners.Listeners.{Listeners}
use Rattle.loop_command.specs.Listened.{HasGot, HasGotThinned, HaveGot}
use Rattle.loop_command.specs.Loops.{last_time}
use Rattle.loop_command.specs.LostRuns.{lost_runs}
use Rattle.loop_command.proofs.LostEdges.{is_lost, lost-at, nothing-thinned, thinned-closed, thinned-open, thins-kept, thins-lost, thins-whole}

-- the listener gets an item more
abbrev pub Gets : CountedReceiver → CountedReceiver → Item → Type 0
Gets old new next = (setup : ChannelSetup) (items : List Item) → HasGot old setup items → HasGot new setup (items ++ next ∷ [])

-- a new one has got nothing
pub got-none : (receiver : CountedReceiver) (setup : ChannelSetup) → HasGot receiver setup [] → HasGotThinned (record { receiver = receiver; edges = 0 }) setup []
got-none receiver setup got = record {
  items = [];
  made = nothing-thinned;
  got = got;
  counted = refl;
}

module _ (old : GapListener) (setup : ChannelSetup) (edges : List Edge) (before : HasGotThinned old setup edges) where
  at-number : (here : Bool) → is_lost old.edges ≡ here → is_lost (length edges) ≡ here
  at-number here is = ap is_lost (sym before.counted) ∙ is

  one-more : (edge : Edge) → old.edges + 1 ≡ length (edges ++ edge ∷ [])
  one-more edge = (let was = before.counted in let longer = length-append edges (edge ∷ []) in omega (arith, was, longer))

  -- an edge that isn't lost
  pub got-kept : (new : CountedReceiver) (edge : Edge) → is_lost old.edges ≡ false → Gets old.receiver new (item.Edge edge) → HasGotThinned (record { receiver = new; edges = old.edges + 1 }) setup (edges ++ edge ∷ [])
  got-kept new edge here gets = record {
    items = before.items ++ item.Edge edge ∷ [];
    made = thins-kept edges before.items before.made edge (at-number false here);
    got = gets setup before.items before.got;
    counted = one-more edge;
  }

  -- one that is lost, of a run that stays open
  pub got-lost : (edge : Edge) → is_lost old.edges ≡ true → old.edges % 1000 ≢ 49 → HasGotThinned (record { receiver = old.receiver; edges = old.edges + 1 }) setup (edges ++ edge ∷ [])
  got-lost edge here early = record {
    items = before.items;
    made =
        thins-lost edges before.items before.made edge (at-number true here)
        (let at = lost-at old.edges here in let small : old.edges % 1000 < 49 = omega (arith, at.1, early) in subst (λ (n : ℕ). n % 1000 < 49) before.counted small);
    got = before.got;
    counted = one-more edge;
  }

  -- the last one of a run
  pub got-whole : (new : CountedReceiver) (edge : Edge) → is_lost old.edges ≡ true → old.edges % 1000 ≡ 49 → Gets old.receiver new (item.Gap (old.edges - 49) 50)
      → HasGotThinned (record { receiver = new; edges = old.edges + 1 }) setup (edges ++ edge ∷ [])
  got-whole new edge here last gets = record {
    items = before.items ++ item.Gap (length edges - 49) 50 ∷ [];
    made = thins-whole edges before.items before.made edge (at-number true here) (subst (λ (n : ℕ). n % 1000 ≡ 49) before.counted last);
    got = subst (λ (n : ℕ). HasGot new setup (before.items ++ item.Gap (n - 49) 50 ∷ [])) before.counted (gets setup before.items before.got);
    counted = one-more edge;
  }

  -- at the end a run is open
  pub got-open : (new : CountedReceiver) → is_lost old.edges ≡ true → 0 < old.edges % 1000 → Gets old.receiver new (item.Gap (old.edges - old.edges % 1000) (old.edges % 1000))
      → HasGot new setup (thinned edges (lost_runs (length edges)))
  got-open new here some gets =
      subst (HasGot new setup) (sym (thinned-open edges before.items before.made (at-number true here) (subst (λ (n : ℕ). 0 < n % 1000) before.counted some)))
      (subst (λ (n : ℕ). HasGot new setup (before.items ++ item.Gap (n - n % 1000) (n % 1000) ∷ [])) before.counted (gets setup before.items before.got))

  -- or none is
  pub got-closed : (here : Bool) → is_lost old.edges ≡ here → (here ≡ true → old.edges % 1000 ≡ 0) → HasGot old.receiver setup (thinned edges (lost_runs (length edges)))
  got-closed here is none =
      subst (HasGot old.receiver setup) (sym (thinned-closed edges before.items before.made here (at-number here is) (λ e. subst (λ (n : ℕ). n % 1000 ≡ 0) before.counted (none e)))) before.got

-- ---- all edges
pub counted-map : (edges : List Edge) → edges_counted (map item.Edge edges) ≡ length edges
counted-map [] = refl
counted-map (edge ∷ edges) = (let before = counted-map edges in omega (arith, before))

pub never-both : {A : Type 0} → false ≡ true → A
never-both e = absurd cc

last-more : (edges : List Edge) (edge : Edge) → last_time (edges ++ edge ∷ []) ≡ edge.time
last-more [] edge = refl
last-more (first ∷ []) edge = refl
last-more (first ∷ next ∷ edges) edge = last-more (next ∷ edges) edge

-- both listeners get an edge more
pub both-got : (old : Listeners) (all : CountedReceiver) (gaps : GapListener) (setup : ChannelSetup) (edges : List Edge) (edge : Edge) → HaveGot old setup edges → Gets old.all all (item.Edge edge)
    → HasGotThinned gaps setup (edges ++ edge ∷ []) → HaveGot (record { all = all; gaps = gaps; last = edge.time }) setup (edges ++ edge ∷ [])
both-got old all gaps setup edges edge before gets thinned_too = record {
  all = subst (HasGot all setup) (sym (map-append item.Edge edges (edge ∷ []))) (gets setup (map item.Edge edges) before.all);
  thinned = thinned_too;
  last = sym (last-more edges edge);
}

-- a receiver that has got the end has counted all reports
pub counts-final : (receiver : CountedReceiver) (setup : ChannelSetup) (items : List Item) → HasGot receiver setup (items ++ item.End ∷ []) → receiver.tally ≡ tally_of (final setup items)
unfolding final
counts-final receiver setup items got = got.taken.counted_are ∙ ap (λ (s : ChannelSetup). tally_of (so_far s (items ++ item.End ∷ []))) got.is_of
