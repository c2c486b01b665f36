-- The first edge of a row is taken, and then the others.
use Rattle.std.proofs.Common.{rules, ◌≡◌, ◌≤◌, ◌^◌, ◌++◌, ◌∷◌, [], ℕ, List, All, length, length-append, ap, refl, sym, subst, arith}
use Rattle.std.proofs.lemmas.Result.{err_from_is_err_and}
use Rattle.std.proofs.lemmas.List.Elements.{All-tail}
use Rattle.line_base.specs.declared.edge.Edge.{Edge}
use Rattle.receiver_core.specs.declared.setup.ChannelSetup.{ChannelSetup}
use Rattle.decode_command.specs.Channels.{lines_behind, told_lines}
use Rattle.decode_command.specs.Followed.{setups_of}
use Rattle.decode_command.specs.Writes.{Takes, TakesFront}
use Rattle.decode_command.proofs.Answers.{on-ok, on-err}
use Rattle.decode_command.proofs.Writing.{takes-nothing}
use Rattle.decode_command.proofs.Taking.{both-written, second-cut, first-cut}
use Rattle.decode_command.proofs.Rows.{row-none, row-parts}
use Rattle.decode_command.proofs.run.+take_edges.Goals as goal

pub returns-in-None-clause-written : goal.returns-in-None-clause-written
returns-in-None-clause-written g t c = λ edges before.
    both-written _ _ _ _ _ _ (row-parts c.args.told (setups_of c.args.channels.now) edges (c.args.edge ∷ c.args.others) c.args.others c.args.edge refl) (c.in_ok-take_edge.ensures.written edges before)
    (subst (λ (text : List ℕ). Takes (record { got = g.K.Sink.got c.take_edge.new.out; gathered = c.take_edge.new.text }) (record { got = g.K.Sink.got c.take_edge.new.out; gathered = c.take_edge.new.text }) text)
    (row-none c.args.told (setups_of c.args.channels.now) (edges ++ c.args.edge ∷ []) c.args.others c.in-None.ensures.taken) (takes-nothing _))

pub returns-in_err-take_edge-clause-cut : goal.returns-in_err-take_edge-clause-cut
returns-in_err-take_edge-clause-cut g t c =
    let p = err_from_is_err_and c.from_residual.result c.from_residual.ensures.1 in
    rw p.1 (λ edges before.
    first-cut _ _ _ _ _ (row-parts c.args.told (setups_of c.args.channels.now) edges (c.args.edge ∷ c.args.others) c.args.others c.args.edge refl) (c.in_err-take_edge.ensures.cut edges before))

pub returns-in-Some-clause-written : goal.returns-in-Some-clause-written
returns-in-Some-clause-written g t c =
    on-ok c.take_edges.result c.take_edges.ensures.written (λ written edges before.
    both-written _ _ _ _ _ _ (row-parts c.args.told (setups_of c.args.channels.now) edges (c.args.edge ∷ c.args.others) c.args.others c.args.edge refl) (c.in_ok-take_edge.ensures.written edges before)
    (subst (λ (row : List Edge). Takes (record { got = g.K.Sink.got c.take_edge.new.out; gathered = c.take_edge.new.text }) (record { got = g.K.Sink.got c.take_edges.new.out; gathered = c.take_edges.new.text }) (told_lines c.args.told (lines_behind (setups_of c.args.channels.now) (edges ++ c.args.edge ∷ []) row))) (sym c.in-Some.ensures.taken)
    (subst (λ (setups : List ChannelSetup). Takes (record { got = g.K.Sink.got c.take_edge.new.out; gathered = c.take_edge.new.text }) (record { got = g.K.Sink.got c.take_edges.new.out; gathered = c.take_edges.new.text }) (told_lines c.args.told (lines_behind setups (edges ++ c.args.edge ∷ []) (c.in-Some.next ∷ c.take.new.self)))) c.take_edge.ensures.setups
    (written (edges ++ c.args.edge ∷ []) (c.in_ok-take_edge.ensures.follow edges before)))))

pub returns-in-Some-clause-cut : goal.returns-in-Some-clause-cut
returns-in-Some-clause-cut g t c =
    on-err c.take_edges.result c.take_edges.ensures.cut (λ cut edges before.
    second-cut _ _ _ _ _ _ (row-parts c.args.told (setups_of c.args.channels.now) edges (c.args.edge ∷ c.args.others) c.args.others c.args.edge refl) (c.in_ok-take_edge.ensures.written edges before)
    (subst (λ (row : List Edge). TakesFront (record { got = g.K.Sink.got c.take_edge.new.out; gathered = c.take_edge.new.text }) (g.K.Sink.got c.take_edges.new.out) (told_lines c.args.told (lines_behind (setups_of c.args.channels.now) (edges ++ c.args.edge ∷ []) row))) (sym c.in-Some.ensures.taken)
    (subst (λ (setups : List ChannelSetup). TakesFront (record { got = g.K.Sink.got c.take_edge.new.out; gathered = c.take_edge.new.text }) (g.K.Sink.got c.take_edges.new.out) (told_lines c.args.told (lines_behind setups (edges ++ c.args.edge ∷ []) (c.in-Some.next ∷ c.take.new.self)))) c.take_edge.ensures.setups
    (cut (edges ++ c.args.edge ∷ []) (c.in_ok-take_edge.ensures.follow edges before)))))

pub take_edges-requires : goal.take_edges-requires
take_edges-requires g t c = λ κs sub.
    let edges = c.requires.follow.0 in
    let parts : c.args.others ≡ c.in-Some.next ∷ c.take.new.self = c.in-Some.ensures.taken in
    let long : length c.args.others ≡ length (c.in-Some.next ∷ c.take.new.self) = ap length parts in
    let all : All (λ (edge : Edge). edge.time ≤ 10 ^ 15) c.args.others = All-tail (λ (edge : Edge). edge.time ≤ 10 ^ 15) c.args.edge c.args.others c.requires.in_range in (
      omega (arith, long),
      (
        search rules,
        (
          search rules,
          (
            subst (λ (row : List Edge). All (λ (edge : Edge). edge.time ≤ 10 ^ 15) row) parts all,
            (
              c.take_edge.ensures.empty,
              (
                edges ++ c.args.edge ∷ [],
                c.in_ok-take_edge.ensures.follow edges c.requires.follow.1,
                (let room = c.requires.follow.2 in let one = length-append edges (c.args.edge ∷ []) in omega arith),
              ),
            ),
          ),
        ),
      ),
    )
