use Rattle.std.proofs.Common.{◌≡◌, ◌∙◌, true, arith, below_more, refl, sym}
use Rattle.std.proofs.lemmas.Bool.{false≢true}
use Rattle.xdg_problem.specs.Boxes.{Has, entry_decision}
use Rattle.xdg_problem.specs.Truths.{says, HasTruth}
use Rattle.xdg_graph.proofs.Remaining.{entry_end}
use Rattle.xdg_formula_value.proofs.Told.{has_truth, truth_is}
use Rattle.xdg_formula_value.proofs.atoms.entries_told.Goals as goal
use Rattle.xdg_facts.proofs.Truths.{alike, differ}

pub returns-then-says-truth-clause-exact : goal.returns-then-says-truth-clause-exact
returns-then-says-truth-clause-exact c = (λ t. absurd (false≢true t), λ each. absurd (differ c.says.result c.args.truth c.if-says-truth.true (c.says.ensures ∙ truth_is c.args.truth (says c.args.table.now c.args.node.0 c.loop-place.place) (each c.loop-place.place (c.if-not-entry_in.ensures.exact.0 refl)))))

pub loop-place-preserved : goal.loop-place-preserved
loop-place-preserved c = below_more (λ k. Has c.args.store.now.now (entry_decision c.args.node.0) k → HasTruth c.args.truth (says c.args.table.now c.args.node.0 k ≡ true)) c.loop-place.place c.loop-place.invariant (λ has. has_truth c.args.truth (says c.args.table.now c.args.node.0 c.loop-place.place) (sym c.says.ensures ∙ alike c.says.result c.args.truth c.if-says-truth.false))

pub returns-clause-exact : goal.returns-clause-exact
returns-clause-exact c = (
  λ t k has. c.loop-place.invariant k (entry_end c.args.store.now c.problem.result.now c.parts.result.now c.args.node.0 k c.entry_count-place-end.result c.loop-place.place c.problem.ensures.known c.requires c.parts.ensures.same c.problem.ensures.parts c.entry_count-place-end.ensures.count (let n = c.loop-place-test.false in omega (arith, n)) has) has,
  λ each. refl,
)
