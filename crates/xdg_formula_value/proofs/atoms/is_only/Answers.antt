use Rattle.std.proofs.Common.{◌≡◌, ◌∙◌, arith, below_more, refl, sym}
use Rattle.std.proofs.lemmas.Bool.{false≢true}
use Rattle.xdg_problem.specs.Boxes.{Has, attr_decision}
use Rattle.xdg_formula_value.proofs.Ending.{value_end}
use Rattle.xdg_formula_value.proofs.atoms.is_only.Goals as goal

pub loop-other-preserved-then-other-value : goal.loop-other-preserved-then-other-value
loop-other-preserved-then-other-value c = below_more (λ x. Has c.args.store.now.now (attr_decision c.args.store.now.parts c.args.dim.0 c.args.node.0 c.args.attr.0) x → x ≡ c.args.value) c.loop-other.other c.loop-other.invariant (λ has. c.if-other-value.true)

pub returns-then-attr_in-clause-exact : goal.returns-then-attr_in-clause-exact
returns-then-attr_in-clause-exact c = (λ t. absurd (false≢true t), λ only. absurd (c.if-other-value.false (only c.loop-other.other (c.attr_in.ensures.exact.0 c.if-attr_in.true))))

pub loop-other-preserved : goal.loop-other-preserved
loop-other-preserved c = below_more (λ x. Has c.args.store.now.now (attr_decision c.args.store.now.parts c.args.dim.0 c.args.node.0 c.args.attr.0) x → x ≡ c.args.value) c.loop-other.other c.loop-other.invariant (λ has. absurd (false≢true (sym c.if-attr_in.false ∙ c.attr_in.ensures.exact.1 has)))

pub returns-clause-exact : goal.returns-clause-exact
returns-clause-exact c = (
  λ t k has. c.loop-other.invariant k (value_end c.args.store.now c.problem.result.now c.parts.result.now c.args.node.0 c.args.dim.0 c.args.attr.0 c.args.value k c.value_count-other-end.result c.loop-other.other c.problem.ensures.known c.requires c.parts.ensures.same c.problem.ensures.parts c.value_count-other-end.ensures.count (let n = c.loop-other-test.false in omega (arith, n)) has) has,
  λ only. refl,
)
