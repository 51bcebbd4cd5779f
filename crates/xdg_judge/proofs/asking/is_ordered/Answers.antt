use Rattle.std.proofs.Common.{◌≡◌, ◌∙◌, sym, true, get_or}
use Rattle.std.proofs.lemmas.Bool.{false≢true}
use Rattle.std.proofs.lemmas.List.{get_or_default}
use Rattle.xdg_problem.specs.Arguments.{first_dim}
use Rattle.xdg_problem.specs.Asking.{IsInItem}
use Rattle.xdg_problem.specs.Paths.{edges_on}
use Rattle.xdg_judge.proofs.Asked.{zero_label, ordering_broken, ordering_seen, ordering_same}
use Rattle.xdg_judge.proofs.asking.is_ordered.Goals as goal
use Rattle.xdg_judge.proofs.asking.is_ordered.Goals.{else-seen-via-then-seen+else-is_in_item, else-seen-via-else-seen, then-is_in_item-2, else-is_in_item-2}

pub returns-then-is_in_item : goal.returns-then-is_in_item
returns-then-is_in_item c =
    let newest = get_or c.args.labels.now c.loop-label.label-index zero_label in
    let at = get_or_default c.args.labels.now c.loop-label.label-index zero_label newest c.loop-label-test.true in
    ordering_broken (λ label. IsInItem (edges_on (first_dim c.args.view.now.group.now) c.args.view.now.analysis.now.edges) (c.args.yields ≡ true) c.args.own c.args.u label c.args.x) (λ label. IsInItem (edges_on (first_dim c.args.view.now.group.now) c.args.view.now.analysis.now.edges) (c.args.yields ≡ true) c.args.own c.args.u label c.args.y) c.args.labels.now c.loop-label.label-index c.loop-label.seen newest c.loop-label-test.true at c.loop-label.invariant c.if-seen.true (c.is_in_item.ensures.0 c.if-is_in_item.true)

pub loop-label-preserved : goal.loop-label-preserved
loop-label-preserved c =
    let newest = get_or c.args.labels.now c.loop-label.label-index zero_label in
    let at = get_or_default c.args.labels.now c.loop-label.label-index zero_label newest c.loop-label-test.true in
    elim c.if-is_in_item-2.branch [
      | then-is_in_item-2 w ↦ rw w.seen-is (ordering_seen (λ label. IsInItem (edges_on (first_dim c.args.view.now.group.now) c.args.view.now.analysis.now.edges) (c.args.yields ≡ true) c.args.own c.args.u label c.args.x) (λ label. IsInItem (edges_on (first_dim c.args.view.now.group.now) c.args.view.now.analysis.now.edges) (c.args.yields ≡ true) c.args.own c.args.u label c.args.y) c.args.labels.now c.loop-label.label-index c.loop-label.seen newest c.loop-label-test.true at c.loop-label.invariant
          (λ s y. elim c.else-seen.branch [
            | else-seen-via-then-seen+else-is_in_item v ↦ false≢true (sym v.if-is_in_item.false ∙ v.is_in_item.ensures.1 y)
            | else-seen-via-else-seen v ↦ false≢true (sym v.if-seen.false ∙ s)
          ])
          (c.is_in_item-in-loop-label.ensures.0 w.if-is_in_item-2.true))
      | else-is_in_item-2 w ↦ rw w.seen-is (ordering_same (λ label. IsInItem (edges_on (first_dim c.args.view.now.group.now) c.args.view.now.analysis.now.edges) (c.args.yields ≡ true) c.args.own c.args.u label c.args.x) (λ label. IsInItem (edges_on (first_dim c.args.view.now.group.now) c.args.view.now.analysis.now.edges) (c.args.yields ≡ true) c.args.own c.args.u label c.args.y) c.args.labels.now c.loop-label.label-index c.loop-label.seen newest c.loop-label-test.true at c.loop-label.invariant
          (λ s y. elim c.else-seen.branch [
            | else-seen-via-then-seen+else-is_in_item v ↦ false≢true (sym v.if-is_in_item.false ∙ v.is_in_item.ensures.1 y)
            | else-seen-via-else-seen v ↦ false≢true (sym v.if-seen.false ∙ s)
          ])
          (λ x. false≢true (sym w.if-is_in_item-2.false ∙ c.is_in_item-in-loop-label.ensures.1 x)))
    ]
