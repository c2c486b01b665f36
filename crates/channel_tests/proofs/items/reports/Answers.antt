-- Each item is handed to a receiver that stands for those before it.
use Rattle.std.proofs.Common.{◌≡◌, ℕ, ◌+◌, ◌<◌, List, [], ◌∷◌, ◌++◌, length, take, get_or, false, sym, ap, subst, ◌∙◌}
use Rattle.std.proofs.lemmas.List.{take_more}
use Rattle.line_base.specs.declared.edge.Item.{Item}
use Rattle.line_base.specs.declared.edge.Item.TheVariants as item
use Rattle.receiver_core.specs.declared.setup.ChannelSetup.{ChannelSetup}
use Rattle.receiver_core.specs.declared.receiver.Receiver.{Receiver}
use Rattle.line_base.specs.Items.{edges_counted}
use Rattle.receiver_core.specs.Readers.{StandsFor, IsTakeable}
use Rattle.receiver_core.proofs.OpenStretches.{counted-more}
use Rattle.channel_tests.proofs.items.reports.Goals as goal

-- what stands in the place of an item that isn't there
no_item : Item
no_item = item.Edge (record { line = 0; time = 0; level = false })

one-more : (setup : ChannelSetup) (new : Receiver) (number next : ℕ) (items : List Item) (i : ℕ) (d : Item) → i < length items → StandsFor setup new (take i items ++ get_or items i d ∷ [])
    → number ≡ edges_counted (take i items) → next ≡ number + edges_counted (get_or items i d ∷ [])
    → StandsFor setup new (take (i + 1) items) × (next ≡ edges_counted (take (i + 1) items))
one-more setup new number next items i d below stands before told =
    rw (take_more items i d below) (stands, told ∙ ap (λ n. n + edges_counted (get_or items i d ∷ [])) before ∙ sym (counted-more (take i items) (get_or items i d)))

pub push-answers-requires : goal.push-answers-requires
unfolding no_item
push-answers-requires c =
    let seen = take c.loop-item.item-index c.args.items.now in
    (c.args.setup, seen, c.loop-item.invariant.0, subst (λ (n : ℕ). IsTakeable n (get_or c.args.items.now c.loop-item.item-index no_item)) c.loop-item.invariant.1 c.in-Some.ensures.0)

pub loop-item-preserved : goal.loop-item-preserved
unfolding no_item
loop-item-preserved c =
    one-more c.args.setup c.push-answers.new.self c.loop-item.number c.in-Some.next c.args.items.now c.loop-item.item-index no_item c.loop-item-test.true
    (c.push-answers.ensures.stands c.args.setup (take c.loop-item.item-index c.args.items.now) c.loop-item.invariant.0) c.loop-item.invariant.1 c.in-Some.ensures.1
