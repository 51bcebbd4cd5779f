use Rattle.std.proofs.Common.{◌≡◌, [], get_or, map, refl, sym, ap, ◌∙◌, subst, arith}
use Rattle.std.specs.Prelude.{length, slice_get}
use Rattle.xdg_domain.specs.Shapes.{shape, IsSmall}
use Rattle.xdg_domain.specs.declared.types.Ty.{Ty}
use Rattle.xdg_formula.specs.Formulas.{value_faults}
use Rattle.xdg_types.specs.Table.{typed}
use Rattle.xdg_build.specs.Formulas.{number_of}
use Rattle.xdg_build.proofs.AtomLaws.{typed_at}
use Rattle.xdg_build.proofs.Atomic.{IsHere, here_is, member_here, own_within}
use Rattle.xdg_build.proofs.Compiled.{attr_made, shape_at}
use Rattle.xdg_build.proofs.Planned.{attribute_right}
use Rattle.xdg_build.proofs.Rightly.{attr_right}
use Rattle.xdg_build.proofs.atoms.attr.Goals.{After-type_place-own}
use Rattle.xdg_build.proofs.atoms.attr.Goals as goal

pub dim_type-requires : goal.dim_type-requires
dim_type-requires c =
    let within = (attr_right c.args.types.now (map (λ text. text.now) c.args.bound.now) c.args.node.now c.args.dim.now c.args.attribute.now c.args.value.now c.requires.right).dim_at.within in
    omega (arith, within, c.dim_number-place.ensures.at)

-- what is found of the attribute
here : (c : After-type_place-own) → IsHere c.dim_type.result.now c.as_slice-attrs.result.now c.args.attribute.now.text c.type_place-own.result (λ type. value_faults (shape type) c.args.value.now)
here c =
    member_here c.args.types.now c.args.packed.now c.dim_number-place.ensures.keeps (λ one. one.attrs) (λ type. value_faults (shape type) c.args.value.now) c.args.dim.now c.args.attribute.now
    (attr_right c.args.types.now (map (λ text. text.now) c.args.bound.now) c.args.node.now c.args.dim.now c.args.attribute.now c.args.value.now c.requires.right)
    _ _ _ _ c.dim_number-place.ensures.at c.dim_type.ensures c.as_slice-attrs.ensures c.type_place-own.ensures

pub bounds-attrs-own : goal.bounds-attrs-own
bounds-attrs-own c = own_within _ _ _ _ _ (here (goal.at.bounds-attrs-own c).After-type_place-own)

pub offset_bounds-attrs-own : goal.offset_bounds-attrs-own
offset_bounds-attrs-own c = (let l = own_within _ _ _ _ _ (here (goal.at.offset_bounds-attrs-own c).After-type_place-own) in omega (arith, l))

pub value_number-requires-clause-small : goal.value_number-requires-clause-small
value_number-requires-clause-small c =
    let h = here (goal.at.value_number-requires-clause-small c).After-type_place-own in
    subst (λ (type : Ty). IsSmall (shape type)) (sym (here_is _ _ _ _ _ h (get_or c.as_slice-attrs.result.now c.type_place-own.result c.index-attrs-own.result) _ refl))
    (attribute_right (typed c.dim_type.result.now.attrs) c.type_place-own.result c.args.attribute.now.text (shape h.type) h.kept.attributes (typed_at c.dim_type.result.now.attrs c.type_place-own.result c.args.attribute.now.text h.type (ap (λ attrs. slice_get attrs c.type_place-own.result) (sym c.as_slice-attrs.ensures) ∙ h.stands))).0

pub value_number-requires-clause-right : goal.value_number-requires-clause-right
value_number-requires-clause-right c =
    let h = here (goal.at.value_number-requires-clause-right c).After-type_place-own in
    subst (λ (type : Ty). value_faults (shape type) c.args.value.now ≡ []) (sym (here_is _ _ _ _ _ h (get_or c.as_slice-attrs.result.now c.type_place-own.result c.index-attrs-own.result) _ refl)) h.right

pub overflow_cast-result : goal.overflow_cast-result
overflow_cast-result c =
    let h = here (goal.at.overflow_cast-result c).After-type_place-own in
    omega (arith, own_within _ _ _ _ _ h, h.kept.few_attrs, ap length c.as_slice-attrs.ensures)

pub returns : goal.returns
returns c =
    let h = here (goal.at.returns c).After-type_place-own in
    let type = ap shape (here_is _ _ _ _ _ h (get_or c.as_slice-attrs.result.now c.type_place-own.result c.index-attrs-own.result) _ refl) ∙ sym (shape_at c.as_slice-attrs.result.now c.type_place-own.result c.args.attribute.now.text h.type h.stands) in
    attr_made c.args.types.now c.args.packed.now c.args.problem.now (map (λ text. text.now) c.args.bound.now) c.args.node.now c.args.dim.now c.args.attribute.now c.args.value.now _ _ _ _ c.dim_type.result.now c.as_slice-attrs.result.now
    c.node_number.ensures c.dim_number-place.ensures.at c.dim_type.ensures c.as_slice-attrs.ensures c.type_place-own.ensures (c.in_ok-number.ensures ∙ ap (λ s. number_of s c.args.value.now) type)
