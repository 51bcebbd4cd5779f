use Rattle.std.proofs.Common.{◌≡◌, List, map, Bor, Some, ap, ◌∙◌, subst}
use Rattle.xdg_names.specs.Closing.{IsClosing}
use Rattle.xdg_names.specs.First.{Tells as TellsFault}
use Rattle.xdg_types.specs.Written.{tree}
use Rattle.xdg_types.specs.Parts.{TypeTerm}
use Rattle.xdg_types.specs.Graph.{uses_in}
use Rattle.xdg_typing.proofs.Joined.{InOrder, graph_right, graph_is, lent_order}
use Rattle.xdg_typing.proofs.following.resolved.Goals.{After-as_slice-order}
use Rattle.xdg_typing.proofs.following.resolved.Goals as goal

pub components-requires-clause-graph : goal.components-requires-clause-graph
components-requires-clause-graph c =
    graph_right c.args.statements.now c.requires c.in_ok-names.names c.in_ok-names.ensures.same c.in_ok-bodies.bodies.items c.in_ok-bodies.ensures c.as_slice-2.result.now
    (c.as_slice-2.ensures.value ∙ c.in_ok-graph.ensures ∙ ap (map (λ (b : Bor TypeTerm). uses_in c.in_ok-names.names (tree b.now.kind))) c.as_slice.ensures.value)

pub returns-in-Some-clause-tells : goal.returns-in-Some-clause-tells
returns-in-Some-clause-tells c =
    subst (λ g. TellsFault (IsClosing g) (Some c.in-Some.fault))
    (graph_is c.args.statements.now c.requires c.in_ok-names.names c.in_ok-names.ensures.same c.in_ok-bodies.bodies.items c.in_ok-bodies.ensures c.as_slice-3.result.now
    (c.as_slice-3.ensures.value ∙ c.in_ok-graph.ensures ∙ ap (map (λ (b : Bor TypeTerm). uses_in c.in_ok-names.names (tree b.now.kind))) c.as_slice.ensures.value))
    c.in-Some.ensures

-- the order, for the bodies as they are lent
lent : (c : After-as_slice-order) (bodies : List (Bor TypeTerm)) → bodies ≡ c.in_ok-bodies.bodies.items → InOrder c.args.statements.now c.in_ok-names.names bodies c.as_slice-order.result.now
lent c bodies is = lent_order c.args.statements.now c.requires c.in_ok-names.names c.in_ok-names.ensures.same c.in_ok-bodies.bodies.items _ bodies c.in_ok-bodies.ensures c.as_slice.ensures.value is
    _ _ _ c.in_ok-graph.ensures c.as_slice-2.ensures.value c.as_slice-3.ensures.value _ _ _ c.in_ok-components.ensures c.in-None.ensures c.as_slice-order.ensures

pub heads-requires : goal.heads-requires
heads-requires c =
    let known = lent (goal.at.heads-requires c).After-as_slice-order _ c.as_slice-in-None-2.ensures.value in
    record { within = known.within; first = known.after_name }

pub returns-clause-tells : goal.returns-clause-tells
returns-clause-tells c =
    let known = lent (goal.at.returns-clause-tells c).After-as_slice-order _ c.as_slice-in-None-2.ensures.value in
    known.right_heads c.in_ok-heads-in-None.heads.items c.in_ok-heads-in-None.ensures.len c.in_ok-heads-in-None.ensures.right

pub weights-requires : goal.weights-requires
weights-requires c =
    let known = lent (goal.at.weights-requires c).After-as_slice-order _ c.as_slice-in-None.ensures.value in
    record { within = known.within; first = known.after_uses }

pub returns-clause-weighs : goal.returns-clause-weighs
returns-clause-weighs c =
    let known = lent (goal.at.returns-clause-weighs c).After-as_slice-order _ c.as_slice-in-None.ensures.value in
    known.right_weights c.in_ok-weights-in-None.weights.items c.in_ok-weights-in-None.ensures
