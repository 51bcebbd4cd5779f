use Rattle.std.proofs.Common.{◌≡◌, ◌<◌, All, [], Some, get_or, length, map, refl, sym, ap, ap₂, ◌∙◌, subst, arith}
use Rattle.std.specs.Prelude.{slice_get}
use Rattle.std.proofs.lemmas.List.{length-map}
use Rattle.xdg_base.specs.declared.ids.EntryNo.{EntryNo}
use Rattle.xdg_domain.specs.Shapes.{Shape, shape, IsSmall}
use Rattle.xdg_domain.specs.declared.types.Ty.{Ty}
use Rattle.xdg_problem.specs.declared.parts.Parts.{Parts}
use Rattle.xdg_formula.specs.Formulas.{feature_faults, value_faults}
use Rattle.xdg_formula.specs.Tables.{member_shape, no_dim}
use Rattle.xdg_types.specs.Table.{typed}
use Rattle.xdg_build.specs.Formulas.{member_number}
use Rattle.xdg_build.specs.Readings.{type_at}
use Rattle.xdg_build.specs.Tables.{table_of}
use Rattle.xdg_build.proofs.AtomLaws.{typed_at}
use Rattle.xdg_build.proofs.Atomic.{IsHere, here_is, member_here, members_found, own_within}
use Rattle.xdg_build.proofs.Compiled.{feat_made, member_small, shape_at}
use Rattle.xdg_build.proofs.Planned.{feature_right}
use Rattle.xdg_build.proofs.Rightly.{feat_right, members_by}
use Rattle.xdg_packed.proofs.OfTable.{entry_at}
use Rattle.xdg_build.proofs.atoms.feat.Goals.{After-type_place-own, After-member_type}
use Rattle.xdg_build.proofs.atoms.feat.Goals as goal

pub dim_type-requires : goal.dim_type-requires
dim_type-requires c =
    let within = (feat_right c.args.types.now (map (λ text. text.now) c.args.bound.now) c.args.node.now c.args.dim.now c.args.feature.now c.args.value.now c.requires.right).dim_at.within in
    omega (arith, within, c.dim_number-place.ensures.at)

-- what is found of the feature
here : (c : After-type_place-own) → IsHere c.dim_type.result.now c.as_slice-fields.result.now c.args.feature.now.text c.type_place-own.result (λ type. feature_faults c.args.feature.now c.args.value.now (shape type))
here c =
    member_here c.args.types.now c.args.packed.now c.dim_number-place.ensures.keeps (λ one. one.fields) (λ type. feature_faults c.args.feature.now c.args.value.now (shape type)) c.args.dim.now c.args.feature.now
    (feat_right c.args.types.now (map (λ text. text.now) c.args.bound.now) c.args.node.now c.args.dim.now c.args.feature.now c.args.value.now c.requires.right)
    _ _ _ _ c.dim_number-place.ensures.at c.dim_type.ensures c.as_slice-fields.ensures c.type_place-own.ensures

pub bounds-fields-own : goal.bounds-fields-own
bounds-fields-own c = own_within _ _ _ _ _ (here (goal.at.bounds-fields-own c).After-type_place-own)

pub offset_bounds-fields-own : goal.offset_bounds-fields-own
offset_bounds-fields-own c = (let l = own_within _ _ _ _ _ (here (goal.at.offset_bounds-fields-own c).After-type_place-own) in omega (arith, l))

-- the type of its members
members : (c : After-member_type) → IsHere c.dim_type.result.now c.as_slice-fields.result.now c.args.feature.now.text c.type_place-own.result (λ type. feature_faults c.args.feature.now c.args.value.now (shape type))
    → (member_shape (shape (get_or c.as_slice-fields.result.now c.type_place-own.result c.index-fields-own.result).1) ≡ Some (shape c.member_type.result.now)) × (value_faults (shape c.member_type.result.now) c.args.value.now ≡ []) × IsSmall (shape c.member_type.result.now)
members c h =
    let one = here_is _ _ _ _ _ h (get_or c.as_slice-fields.result.now c.type_place-own.result c.index-fields-own.result) _ refl in
    let of = members_by c.args.feature.now c.args.value.now (member_shape (shape h.type)) h.right in
    let shown : member_shape (shape (get_or c.as_slice-fields.result.now c.type_place-own.result c.index-fields-own.result).1) ≡ Some of.0 = ap (λ (type : Ty). member_shape (shape type)) one ∙ of.1 in
    let same = members_found (shape (get_or c.as_slice-fields.result.now c.type_place-own.result c.index-fields-own.result).1) of.0 (shape c.member_type.result.now) shown c.member_type.ensures in
    let type = feature_right (typed c.dim_type.result.now.fields) c.type_place-own.result c.args.feature.now.text (shape h.type) h.kept.features (typed_at c.dim_type.result.now.fields c.type_place-own.result c.args.feature.now.text h.type (ap (λ fields. slice_get fields c.type_place-own.result) (sym c.as_slice-fields.ensures) ∙ h.stands)) in
    (shown ∙ ap (λ (s : Shape). Some s) same, subst (λ s. value_faults s c.args.value.now ≡ []) same of.2, subst IsSmall same (member_small (shape h.type) of.0 of.1 type))

pub value_number-requires-clause-small : goal.value_number-requires-clause-small
value_number-requires-clause-small c = (members (goal.at.value_number-requires-clause-small c).After-member_type (here (goal.at.value_number-requires-clause-small c).After-type_place-own)).2

pub value_number-requires-clause-right : goal.value_number-requires-clause-right
value_number-requires-clause-right c = (members (goal.at.value_number-requires-clause-right c).After-member_type (here (goal.at.value_number-requires-clause-right c).After-type_place-own)).1

pub feat_table-requires-clause-entries : goal.feat_table-requires-clause-entries
feat_table-requires-clause-entries c =
    subst (λ all. All (All (λ (no : EntryNo). no.0 < length c.args.packed.now.entries)) all) (sym (c.as_slice-candidates.ensures ∙ ap (λ (parts : Parts). parts.candidates) c.parts.ensures.same)) c.requires.fits.candidates

pub feat_table-requires-clause-dim : goal.feat_table-requires-clause-dim
feat_table-requires-clause-dim c = λ e l.
    let within = (feat_right c.args.types.now (map (λ text. text.now) c.args.bound.now) c.args.node.now c.args.dim.now c.args.feature.now c.args.value.now c.requires.right).dim_at.within in
    let long = (entry_at c.args.types.now c.args.packed.now.entries e _ c.requires.fits.entries l refl).count in
    let same : c.from.result ≡ c.dim_number-place.result = cc in
    omega (arith, within, long, same, c.dim_number-place.ensures.at, length-map c.args.types.now.used (λ k. get_or c.args.types.now.dims k no_dim))

pub returns : goal.returns
returns c =
    let h = here (goal.at.returns c).After-type_place-own in
    let m = members (goal.at.returns c).After-member_type h in
    let type : member_shape (type_at (typed c.as_slice-fields.result.now) c.type_place-own.result) ≡ Some (shape c.member_type.result.now) =
    ap member_shape (shape_at c.as_slice-fields.result.now c.type_place-own.result c.args.feature.now.text h.type h.stands ∙ sym (ap shape (here_is _ _ _ _ _ h (get_or c.as_slice-fields.result.now c.type_place-own.result c.index-fields-own.result) _ refl))) ∙ m.0 in
    let table = c.in_ok-table.ensures ∙ ap₂ (λ all k. table_of c.args.packed.now.entries all k c.type_place-own.result c.in_ok-number.number) (c.as_slice-candidates.ensures ∙ ap (λ (parts : Parts). parts.candidates) c.parts.ensures.same)
    (let same : c.from.result ≡ c.dim_number-place.result = cc in same) in
    feat_made c.args.types.now c.args.packed.now c.args.problem.now (map (λ text. text.now) c.args.bound.now) c.args.node.now c.args.dim.now c.args.feature.now c.args.value.now _ _ _ _ c.dim_type.result.now c.as_slice-fields.result.now _
    c.node_number.ensures c.dim_number-place.ensures.at c.dim_type.ensures c.as_slice-fields.ensures c.type_place-own.ensures (c.in_ok-number.ensures ∙ ap (λ o. member_number o c.args.value.now) (sym type)) table
