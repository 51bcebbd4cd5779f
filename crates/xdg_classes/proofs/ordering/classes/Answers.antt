use Rattle.std.proofs.Common.{map, sym, ap, ◌∙◌, subst, Some}
use Rattle.xdg_names.specs.Closing.{IsClosing}
use Rattle.xdg_types.specs.Answers.{None_of}
use Rattle.xdg_types.specs.NameFaults.{with_all}
use Rattle.xdg_classes.specs.Definitions.{class_names}
use Rattle.xdg_classes.specs.Graph.{class_uses}
use Rattle.xdg_classes.specs.Lent.{class_def}
use Rattle.xdg_classes.proofs.Ordered.{graph_right, closes, orders}
use Rattle.xdg_classes.proofs.ordering.classes.Goals as goal

pub components-requires-clause-graph : goal.components-requires-clause-graph
components-requires-clause-graph c =
    let all = c.in_ok-classes_again.ensures.seen ∙ ap (λ ds. with_all c.new-names.result (class_names (map class_def ds))) c.as_slice.ensures in
    let made = c.as_slice-3.ensures.value ∙ c.in_ok-graph.ensures ∙ ap (λ ds. map (class_uses c.classes_again.new.seen) (map class_def ds)) c.as_slice-2.ensures in
    graph_right c.args.statements.now c.requires c.in_ok-definitions.definitions c.in_ok-definitions.ensures c.new-names.result c.classes_again.new.seen c.new-names.ensures all c.as_slice-3.result.now made

pub returns-in-Some : goal.returns-in-Some
returns-in-Some c =
    let all = c.in_ok-classes_again.ensures.seen ∙ ap (λ ds. with_all c.new-names.result (class_names (map class_def ds))) c.as_slice.ensures in
    let made = c.as_slice-4.ensures.value ∙ c.in_ok-graph.ensures ∙ ap (λ ds. map (class_uses c.classes_again.new.seen) (map class_def ds)) c.as_slice-2.ensures in
    closes c.args.statements.now c.requires c.in_ok-definitions.definitions c.in_ok-definitions.ensures c.new-names.result c.classes_again.new.seen c.new-names.ensures all c.as_slice-4.result.now made
    (Some c.in-Some.fault) c.in-Some.ensures

pub returns : goal.returns
returns c =
    let all = c.in_ok-classes_again.ensures.seen ∙ ap (λ ds. with_all c.new-names.result (class_names (map class_def ds))) c.as_slice.ensures in
    let made = c.as_slice-3.ensures.value ∙ c.in_ok-graph.ensures ∙ ap (λ ds. map (class_uses c.classes_again.new.seen) (map class_def ds)) c.as_slice-2.ensures in
    let none = subst (λ g. None_of (IsClosing g)) (c.as_slice-4.ensures.value ∙ sym c.as_slice-3.ensures.value) c.in-None.ensures in
    orders c.args.statements.now c.requires c.in_ok-definitions.definitions c.in_ok-definitions.ensures c.new-names.result c.classes_again.new.seen c.new-names.ensures all c.as_slice-3.result.now made
    c.in_ok-components.components.numbers c.in_ok-components.components.order c.in_ok-components.ensures none
