use Rattle.std.proofs.Common.{map, rules, ◌++◌, ◌≤◌, length, length-append, ap, ap₂, sym, ◌∙◌, subst, arith, [], ◌∷◌}
use Rattle.std.proofs.lemmas.List.{length-map}
use Rattle.std.proofs.lemmas.Result.{IfOk-weaker}
use Rattle.xdg_problem.specs.declared.formula.Formula.TheVariants as y
use Rattle.xdg_formula.specs.Rules.{RuleTerm}
use Rattle.xdg_formula.specs.Tables.{used_dims}
use Rattle.xdg_formula.specs.Written.{tree}
use Rattle.xdg_formula.specs.declared.tree.RuleKind.TheViews.{the_lemmas}
use Rattle.xdg_formula.proofs.Treed.{tree_or, tree_and, tree_not, tree_every, tree_any, tree_edge, tree_above, tree_left, tree_same, tree_attr, tree_feat}
use Rattle.xdg_build.specs.Formulas.{formula_in, signed}
use Rattle.xdg_build.specs.Right.{IsRight}
use Rattle.xdg_build.proofs.Compiled.{each_made, items_right, made_by, right_by}
use Rattle.xdg_build.proofs.Rightly.{binding_right}
use Rattle.xdg_build.proofs.formulas.+formula.Goals as goal

pub formula_of-formulas_of-requires : goal.formula_of-formulas_of-requires
formula_of-formulas_of-requires t c =
    let right = right_by _ _ _ _ _ c.requires.right c.in-Or.is (tree_or c.in-Or.members) in
    (search (rules, the_lemmas), (c.requires.fits, (items_right (used_dims c.args.types.now) (map (λ text. text.now) c.args.bound.now) _ _ right.1 c.as_slice.ensures, c.requires.few)))

pub formula_of-returns-in_ok-made-in-Or : goal.formula_of-returns-in_ok-made-in-Or
formula_of-returns-in_ok-made-in-Or t c =
    made_by c.args.types.now c.args.packed.now c.args.problem.now (map (λ text. text.now) c.args.bound.now) _ _ _ _ c.in-Or.is (tree_or c.in-Or.members)
    (ap y.Or (c.in_ok-made-in-Or.ensures ∙ ap (map (λ (term : RuleTerm). formula_in c.args.types.now c.args.packed.now c.args.problem.now (map (λ text. text.now) c.args.bound.now) (tree term.kind))) c.as_slice.ensures ∙ sym (each_made c.args.types.now c.args.packed.now c.args.problem.now (map (λ text. text.now) c.args.bound.now) c.in-Or.members)))

pub formula_of-formulas_of-requires-in-And : goal.formula_of-formulas_of-requires-in-And
formula_of-formulas_of-requires-in-And t c =
    let right = right_by _ _ _ _ _ c.requires.right c.in-And.is (tree_and c.in-And.members) in
    (search (rules, the_lemmas), (c.requires.fits, (items_right (used_dims c.args.types.now) (map (λ text. text.now) c.args.bound.now) _ _ right.1 c.as_slice-in-And.ensures, c.requires.few)))

pub formula_of-returns-in_ok-made-in-And : goal.formula_of-returns-in_ok-made-in-And
formula_of-returns-in_ok-made-in-And t c =
    made_by c.args.types.now c.args.packed.now c.args.problem.now (map (λ text. text.now) c.args.bound.now) _ _ _ _ c.in-And.is (tree_and c.in-And.members)
    (ap y.And (c.in_ok-made-in-And.ensures ∙ ap (map (λ (term : RuleTerm). formula_in c.args.types.now c.args.packed.now c.args.problem.now (map (λ text. text.now) c.args.bound.now) (tree term.kind))) c.as_slice-in-And.ensures ∙ sym (each_made c.args.types.now c.args.packed.now c.args.problem.now (map (λ text. text.now) c.args.bound.now) c.in-And.members)))

pub formula_of-formula_of-requires : goal.formula_of-formula_of-requires
formula_of-formula_of-requires t c =
    let right = right_by _ _ _ _ _ c.requires.right c.in-Not.is (tree_not c.in-Not.signs c.in-Not.body) in
    let inside : IsRight (used_dims c.args.types.now) (map (λ text. text.now) c.args.bound.now) (tree c.in-Not.body.kind) = (c.in-Not.body.span.start, right.1) in
    (search (rules, the_lemmas), (c.requires.fits, (subst (λ (term : RuleTerm). IsRight (used_dims c.args.types.now) (map (λ text. text.now) c.args.bound.now) (tree term.kind)) (sym c.get.ensures) inside, c.requires.few)))

pub formula_of-returns-then-not-denies : goal.formula_of-returns-then-not-denies
formula_of-returns-then-not-denies t c =
    made_by c.args.types.now c.args.packed.now c.args.problem.now (map (λ text. text.now) c.args.bound.now) _ _ _ _ c.in-Not.is (tree_not c.in-Not.signs c.in-Not.body)
    (c.in_ok-inside-in-Not.ensures ∙ ap (λ (term : RuleTerm). formula_in c.args.types.now c.args.packed.now c.args.problem.now (map (λ text. text.now) c.args.bound.now) (tree term.kind)) c.get.ensures ∙ ap (λ b. signed b (formula_in c.args.types.now c.args.packed.now c.args.problem.now (map (λ text. text.now) c.args.bound.now) (tree c.in-Not.body.kind))) c.if-not-denies.ensures)

pub formula_of-returns-in_ok-boxed-in-Not : goal.formula_of-returns-in_ok-boxed-in-Not
formula_of-returns-in_ok-boxed-in-Not t c =
    made_by c.args.types.now c.args.packed.now c.args.problem.now (map (λ text. text.now) c.args.bound.now) _ _ _ _ c.in-Not.is (tree_not c.in-Not.signs c.in-Not.body)
    (ap y.Not (c.in_ok-boxed-in-Not.ensures ∙ c.in_ok-inside-in-Not.ensures ∙ ap (λ (term : RuleTerm). formula_in c.args.types.now c.args.packed.now c.args.problem.now (map (λ text. text.now) c.args.bound.now) (tree term.kind)) c.get.ensures) ∙ ap (λ b. signed b (formula_in c.args.types.now c.args.packed.now c.args.problem.now (map (λ text. text.now) c.args.bound.now) (tree c.in-Not.body.kind))) c.if-not-denies.ensures)

pub formula_of-under-requires : goal.formula_of-under-requires
formula_of-under-requires t c =
    let right = right_by _ _ _ _ _ c.requires.right c.in-Every.is (tree_every c.in-Every.name c.in-Every.body) in
    let free = binding_right (used_dims c.args.types.now) (map (λ text. text.now) c.args.bound.now) right.0 c.in-Every.name c.in-Every.body.span.start (tree c.in-Every.body.kind) right.1 in
    let inside = subst (λ (term : RuleTerm). IsRight (used_dims c.args.types.now) ((map (λ text. text.now) c.args.bound.now) ++ c.in-Every.name.text ∷ []) (tree term.kind)) (sym c.get-in-Every.ensures) free.inside in
    (search (rules, the_lemmas), (c.requires.fits, (inside, omega (arith, free.room, c.requires.few, length-map c.args.bound.now (λ text. text.now)))))

pub formula_of-returns-in_ok-boxed-in-Every : goal.formula_of-returns-in_ok-boxed-in-Every
formula_of-returns-in_ok-boxed-in-Every t c =
    made_by c.args.types.now c.args.packed.now c.args.problem.now (map (λ text. text.now) c.args.bound.now) _ _ _ _ c.in-Every.is (tree_every c.in-Every.name c.in-Every.body)
    (ap₂ y.Every (sym (length-map c.args.bound.now (λ text. text.now)))
    (c.in_ok-boxed-in-Every.ensures ∙ ap (λ (term : RuleTerm). formula_in c.args.types.now c.args.packed.now c.args.problem.now ((map (λ text. text.now) c.args.bound.now) ++ c.in-Every.name.text ∷ []) (tree term.kind)) c.get-in-Every.ensures))

pub formula_of-under-requires-in-Any : goal.formula_of-under-requires-in-Any
formula_of-under-requires-in-Any t c =
    let right = right_by _ _ _ _ _ c.requires.right c.in-Any.is (tree_any c.in-Any.name c.in-Any.body) in
    let free = binding_right (used_dims c.args.types.now) (map (λ text. text.now) c.args.bound.now) right.0 c.in-Any.name c.in-Any.body.span.start (tree c.in-Any.body.kind) right.1 in
    let inside = subst (λ (term : RuleTerm). IsRight (used_dims c.args.types.now) ((map (λ text. text.now) c.args.bound.now) ++ c.in-Any.name.text ∷ []) (tree term.kind)) (sym c.get-in-Any.ensures) free.inside in
    (search (rules, the_lemmas), (c.requires.fits, (inside, omega (arith, free.room, c.requires.few, length-map c.args.bound.now (λ text. text.now)))))

pub formula_of-returns-in_ok-boxed-in-Any : goal.formula_of-returns-in_ok-boxed-in-Any
formula_of-returns-in_ok-boxed-in-Any t c =
    made_by c.args.types.now c.args.packed.now c.args.problem.now (map (λ text. text.now) c.args.bound.now) _ _ _ _ c.in-Any.is (tree_any c.in-Any.name c.in-Any.body)
    (ap₂ y.Any (sym (length-map c.args.bound.now (λ text. text.now)))
    (c.in_ok-boxed-in-Any.ensures ∙ ap (λ (term : RuleTerm). formula_in c.args.types.now c.args.packed.now c.args.problem.now ((map (λ text. text.now) c.args.bound.now) ++ c.in-Any.name.text ∷ []) (tree term.kind)) c.get-in-Any.ensures))

pub formula_of-edge-requires-clause-right : goal.formula_of-edge-requires-clause-right
formula_of-edge-requires-clause-right t c = right_by _ _ _ _ _ c.requires.right c.in-Edge.is (tree_edge c.in-Edge.dim c.in-Edge.mother c.in-Edge.label c.in-Edge.daughter)

pub formula_of-returns-in-Edge : goal.formula_of-returns-in-Edge
formula_of-returns-in-Edge t c = made_by c.args.types.now c.args.packed.now c.args.problem.now (map (λ text. text.now) c.args.bound.now) _ _ _ _ c.in-Edge.is (tree_edge c.in-Edge.dim c.in-Edge.mother c.in-Edge.label c.in-Edge.daughter) c.edge.ensures

pub formula_of-returns-in-Above : goal.formula_of-returns-in-Above
formula_of-returns-in-Above t c = made_by c.args.types.now c.args.packed.now c.args.problem.now (map (λ text. text.now) c.args.bound.now) _ _ _ _ c.in-Above.is (tree_above c.in-Above.dim c.in-Above.upper c.in-Above.lower) c.above.ensures

pub formula_of-returns-in-Left : goal.formula_of-returns-in-Left
formula_of-returns-in-Left t c = made_by c.args.types.now c.args.packed.now c.args.problem.now (map (λ text. text.now) c.args.bound.now) _ _ _ _ c.in-Left.is (tree_left c.in-Left.first c.in-Left.second) (ap₂ y.Left c.node_number.ensures c.node_number-in-Left.ensures)

pub formula_of-returns-in-Same : goal.formula_of-returns-in-Same
formula_of-returns-in-Same t c = made_by c.args.types.now c.args.packed.now c.args.problem.now (map (λ text. text.now) c.args.bound.now) _ _ _ _ c.in-Same.is (tree_same c.in-Same.first c.in-Same.second) (ap₂ y.Same c.node_number-in-Same.ensures c.node_number-in-Same-2.ensures)

pub formula_of-attr-requires-clause-right : goal.formula_of-attr-requires-clause-right
formula_of-attr-requires-clause-right t c = right_by _ _ _ _ _ c.requires.right c.in-Attr.is (tree_attr c.in-Attr.node c.in-Attr.dim c.in-Attr.attr c.in-Attr.value)

pub formula_of-returns-in-Attr : goal.formula_of-returns-in-Attr
formula_of-returns-in-Attr t c = IfOk-weaker c.attr.result _ _ (λ f. made_by c.args.types.now c.args.packed.now c.args.problem.now (map (λ text. text.now) c.args.bound.now) _ _ _ f c.in-Attr.is (tree_attr c.in-Attr.node c.in-Attr.dim c.in-Attr.attr c.in-Attr.value)) c.attr.ensures

pub formula_of-feat-requires-clause-right : goal.formula_of-feat-requires-clause-right
formula_of-feat-requires-clause-right t c = right_by _ _ _ _ _ c.requires.right c.in-Feat.is (tree_feat c.in-Feat.node c.in-Feat.dim c.in-Feat.feature c.in-Feat.value)

pub formula_of-returns-in-Feat : goal.formula_of-returns-in-Feat
formula_of-returns-in-Feat t c = IfOk-weaker c.feat.result _ _ (λ f. made_by c.args.types.now c.args.packed.now c.args.problem.now (map (λ text. text.now) c.args.bound.now) _ _ _ f c.in-Feat.is (tree_feat c.in-Feat.node c.in-Feat.dim c.in-Feat.feature c.in-Feat.value)) c.feat.ensures

pub formulas_of-formula_of-requires : goal.formulas_of-formula_of-requires
formulas_of-formula_of-requires t c =
    let right = subst (λ (term : RuleTerm). IsRight (used_dims c.args.types.now) (map (λ text. text.now) c.args.bound.now) (tree term.kind)) (sym c.member-item.is) (c.requires.right c.loop-member.member-index c.member-item.result c.loop-member-test.true) in
    (search (rules, the_lemmas), (c.requires.fits, (right, c.requires.few)))

pub under-formula_of-requires : goal.under-formula_of-requires
under-formula_of-requires t c =
    let scoped = ap (map (λ text. text.now)) c.as_slice.ensures.value ∙ c.in_ok-scope.ensures in
    let long = ap length scoped in
    let few : length c.as_slice.result.now ≤ 3 = omega (arith, long, c.requires.few, length-append (map (λ text. text.now) c.args.bound.now) (c.args.name.now.text ∷ []), length-map c.as_slice.result.now (λ text. text.now), length-map c.args.bound.now (λ text. text.now)) in
    (search (rules, the_lemmas), (c.requires.fits, (subst (λ names. IsRight (used_dims c.args.types.now) names (tree c.args.body.now.kind)) (sym scoped) c.requires.right, few)))

pub under-returns : goal.under-returns
under-returns t c =
    let scoped = ap (map (λ text. text.now)) c.as_slice.ensures.value ∙ c.in_ok-scope.ensures in
    IfOk-weaker c.new.result _ _ (λ f is. is ∙ c.in_ok-inside.ensures ∙ ap (λ names. formula_in c.args.types.now c.args.packed.now c.args.problem.now names (tree c.args.body.now.kind)) scoped) c.new.ensures
