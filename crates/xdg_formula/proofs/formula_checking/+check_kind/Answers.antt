use Rattle.std.proofs.Common.{◌≡◌, ap, map, refl, subst, ◌∙◌}
use Rattle.std.specs.List.{flat_map}
use Rattle.std.specs.Prelude.{IfOk}
use Rattle.xdg_names.specs.First.{first}
use Rattle.xdg_names.proofs.First.{first_turn, found_all}
use Rattle.xdg_formula.specs.Formulas.{formula_faults}
use Rattle.xdg_formula.specs.Tables.{used_dims}
use Rattle.xdg_formula.proofs.Formed.{told_or, told_and, faults_not, told_every, told_any, told_edge, told_above, told_left, told_same, told_attr, told_feat}
use Rattle.xdg_formula.proofs.formula_checking.+check_kind.Goals as goal

pub loop-member-preserved : goal.loop-member-preserved
loop-member-preserved t c =
    let u = formula_faults (used_dims c.args.types.now) (map (λ text. text.now) c.args.bound.now) in
    let item = c.member-item.result in
    first_turn (λ xs. flat_map u xs) (u item) item (λ xs. refl) _ _ _ _ _ _ c.loop-member-test.true c.member-item.is c.in_ok-inside-in-Or.ensures c.earlier-found.ensures c.loop-member.invariant

pub loop-part-preserved : goal.loop-part-preserved
loop-part-preserved t c =
    let u = formula_faults (used_dims c.args.types.now) (map (λ text. text.now) c.args.bound.now) in
    let item = c.part-item.result in
    first_turn (λ xs. flat_map u xs) (u item) item (λ xs. refl) _ _ _ _ _ _ c.loop-part-test.true c.part-item.is c.in_ok-inside-in-And.ensures c.earlier-found-in-loop-part.ensures c.loop-part.invariant

pub returns-after-loop-member : goal.returns-after-loop-member
returns-after-loop-member t c =
    let names = map (λ text. text.now) c.args.bound.now in
    let dims = used_dims c.args.types.now in
    told_or dims names c.args.place c.args.kind.now c.in-Or.members c.as_slice-member-items.result.now c.loop-member.found c.in-Or.is c.as_slice-member-items.ensures
    (found_all (λ xs. flat_map (formula_faults dims names) xs) refl c.as_slice-member-items.result.now c.loop-member.member-index _ _ c.loop-member-test.false c.loop-member.invariant)

pub returns-after-loop-part : goal.returns-after-loop-part
returns-after-loop-part t c =
    let names = map (λ text. text.now) c.args.bound.now in
    let dims = used_dims c.args.types.now in
    told_and dims names c.args.place c.args.kind.now c.in-And.members c.as_slice-part-items.result.now c.loop-part.found c.in-And.is c.as_slice-part-items.ensures
    (found_all (λ xs. flat_map (formula_faults dims names) xs) refl c.as_slice-part-items.result.now c.loop-part.part-index _ _ c.loop-part-test.false c.loop-part.invariant)

pub returns-in-Not : goal.returns-in-Not
returns-in-Not t c =
    let names = map (λ text. text.now) c.args.bound.now in
    subst (λ fs. IfOk c.check_kind-in-Not.result (λ found. found ≡ first fs))
    (faults_not (used_dims c.args.types.now) names c.args.place c.args.kind.now c.in-Not.field-0 c.in-Not.body c.get-body.result.now c.in-Not.is c.get-body.ensures)
    c.check_kind-in-Not.ensures

pub returns-in_ok-inside-in-Every : goal.returns-in_ok-inside-in-Every
returns-in_ok-inside-in-Every t c =
    told_every (used_dims c.args.types.now) (map (λ text. text.now) c.args.bound.now) c.args.place c.args.kind.now (map (λ text. text.now) c.as_slice.result.now) c.in-Every.name c.in-Every.body c.get-body-in-Every.result.now _ _ _
    c.in-Every.is c.get-body-in-Every.ensures (ap (map (λ text. text.now)) c.as_slice.ensures.value ∙ c.in_ok-scope-in-Every.ensures) c.check_binding.ensures c.in_ok-inside-in-Every.ensures c.earlier.ensures

pub returns-in_ok-inside-in-Any : goal.returns-in_ok-inside-in-Any
returns-in_ok-inside-in-Any t c =
    told_any (used_dims c.args.types.now) (map (λ text. text.now) c.args.bound.now) c.args.place c.args.kind.now (map (λ text. text.now) c.as_slice-in-Any.result.now) c.in-Any.name c.in-Any.body c.get-body-in-Any.result.now _ _ _
    c.in-Any.is c.get-body-in-Any.ensures (ap (map (λ text. text.now)) c.as_slice-in-Any.ensures.value ∙ c.in_ok-scope-in-Any.ensures) c.check_binding-in-Any.ensures c.in_ok-inside-in-Any.ensures c.earlier-in-Any.ensures

pub returns-in-Edge : goal.returns-in-Edge
returns-in-Edge t c =
    told_edge (used_dims c.args.types.now) (map (λ text. text.now) c.args.bound.now) c.args.place c.args.kind.now c.in-Edge.dim c.in-Edge.mother c.in-Edge.label c.in-Edge.daughter _ _ _
    c.in-Edge.is c.check_edge.ensures c.check_nodes.ensures c.earlier-in-Edge.ensures

pub returns-in-Above : goal.returns-in-Above
returns-in-Above t c =
    told_above (used_dims c.args.types.now) (map (λ text. text.now) c.args.bound.now) c.args.place c.args.kind.now c.in-Above.dim c.in-Above.upper c.in-Above.lower _ _ _
    c.in-Above.is c.check_dim.ensures c.check_nodes-in-Above.ensures c.earlier-in-Above.ensures

pub returns-in-Left : goal.returns-in-Left
returns-in-Left t c = told_left (used_dims c.args.types.now) (map (λ text. text.now) c.args.bound.now) c.args.place c.args.kind.now c.in-Left.first c.in-Left.second _ c.in-Left.is c.check_nodes-in-Left.ensures

pub returns-in-Same : goal.returns-in-Same
returns-in-Same t c = told_same (used_dims c.args.types.now) (map (λ text. text.now) c.args.bound.now) c.args.place c.args.kind.now c.in-Same.first c.in-Same.second _ c.in-Same.is c.check_nodes-in-Same.ensures

pub returns-in-Attr : goal.returns-in-Attr
returns-in-Attr t c =
    told_attr (used_dims c.args.types.now) (map (λ text. text.now) c.args.bound.now) c.args.place c.args.kind.now c.in-Attr.node c.in-Attr.dim c.in-Attr.attr c.in-Attr.value _ _ _
    c.in-Attr.is c.check_node.ensures c.check_attr.ensures c.earlier-in-Attr.ensures

pub returns-in-Feat : goal.returns-in-Feat
returns-in-Feat t c =
    told_feat (used_dims c.args.types.now) (map (λ text. text.now) c.args.bound.now) c.args.place c.args.kind.now c.in-Feat.node c.in-Feat.dim c.in-Feat.feature c.in-Feat.value _ _ _
    c.in-Feat.is c.check_node-in-Feat.ensures c.check_feature.ensures c.earlier-in-Feat.ensures
