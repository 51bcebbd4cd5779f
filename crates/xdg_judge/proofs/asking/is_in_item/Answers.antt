use Rattle.std.proofs.Common.{◌≡◌, ◌∙◌, sym, subst, true, []}
use Rattle.std.specs.Prelude.{IsTrue, ◌↔◌, ◌∷◌}
use Rattle.std.proofs.lemmas.Bool.{false≢true}
use Rattle.xdg_problem.specs.Arguments.{first_dim}
use Rattle.xdg_problem.specs.Paths.{edges_on}
use Rattle.xdg_judge.specs.declared.paths.Way.TheVariants as ways
use Rattle.xdg_judge.specs.Joining.{IsLed}
use Rattle.xdg_judge.proofs.Meeting.{led_exact}
use Rattle.xdg_judge.proofs.Ways.{item_yield}
use Rattle.xdg_facts.proofs.Facts.{both_steps}
use Rattle.xdg_judge.proofs.asking.is_in_item.Goals as goal
use Rattle.xdg_judge.proofs.asking.is_in_item.Goals.{else-own-from-via-then-own-from+else-x-u, else-own-from-via-else-own-from}

pub returns : goal.returns
returns c =
    let edges = edges_on (first_dim c.args.view.now.group.now) c.args.view.now.analysis.now.edges in
    item_yield edges (c.args.yields ≡ true) c.args.own c.args.u c.args.label c.args.x c.is_joined.result
    (λ s. elim c.else-own-from.branch [
      | else-own-from-via-then-own-from+else-x-u w ↦ w.if-x-u.false s.1
      | else-own-from-via-else-own-from w ↦ w.if-own-from.false (s.0 ∙ sym c.from.ensures)
    ])
    (λ d. false≢true (c.if-is_daughter_by.ensures.1 d))
    c.if-not-yields.false
    (both_steps (subst (λ i. IsTrue c.is_joined.result ↔ IsLed ways.First c.args.view.now.first (i ∷ []) c.args.u c.args.x) c.from-2.ensures c.is_joined.ensures)
    (led_exact edges c.args.view.now.first (c.args.label ∷ []) c.requires.view.first_links ways.First c.args.u c.args.x))
