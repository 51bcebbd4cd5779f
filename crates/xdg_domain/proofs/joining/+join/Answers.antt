use Rattle.std.proofs.Common.{◌++◌, arith, ap, ap₂, sym, ◌∙◌, inl, inr}
use Rattle.xdg_domain.specs.Shapes.{shape}
use Rattle.xdg_domain.specs.Joined.{joined, joined_field, fields_in}
use Rattle.xdg_domain.proofs.Merged.{take_all}
use Rattle.xdg_domain.proofs.Opened.{map_told, record_told, field_beyond, field_told}
use Rattle.xdg_domain.proofs.joining.+join.Goals.{join_entries-then-loop-i-test+else-j-theirs, join_entries-else-loop-i-test, join_fields-then-loop-i-test+else-j-theirs, join_fields-else-loop-i-test}
use Rattle.xdg_domain.proofs.joining.+join.Goals as goal

pub join_entries-returns : goal.join_entries-returns
join_entries-returns t c = take_all (λ key. joined (shape c.args.ty.now)) _ _ c.loop-i.made _ c.loop-i.i c.loop-i.j
    (elim c.loop-i-test.branch [ join_entries-then-loop-i-test+else-j-theirs w ↦ inr (omega (arith, w.if-j-theirs)) | join_entries-else-loop-i-test w ↦ inl (omega (arith, w.loop-i-test)) ])
    (c.in_ok-add_entries-2.ensures ∙ ap₂ (λ s t. s ++ t) (c.in_ok-add_entries.ensures ∙ ap (λ t. c.loop-i.made ++ t) c.split_at.ensures.back) c.split_at-2.ensures.back)
    c.loop-i.invariant.2

pub join_fields-returns : goal.join_fields-returns
join_fields-returns t c = take_all (joined_field (fields_in c.args.types.now)) _ _ c.loop-i.made _ c.loop-i.i c.loop-i.j
    (elim c.loop-i-test.branch [ join_fields-then-loop-i-test+else-j-theirs w ↦ inr (omega (arith, w.if-j-theirs)) | join_fields-else-loop-i-test w ↦ inl (omega (arith, w.loop-i-test)) ])
    (c.in_ok-add_fields-2.ensures ∙ ap₂ (λ s t. s ++ t) (c.in_ok-add_fields.ensures ∙ ap (λ t. c.loop-i.made ++ t) c.split_at.ensures.back) c.split_at-2.ensures.back)
    c.loop-i.invariant.2

pub join_field-returns-then-at-types : goal.join_field-returns-then-at-types
join_field-returns-then-at-types t c = field_beyond c.args.types.now c.args.place c.args.one.now c.args.other.now c.if-at-types.true

pub join_field-returns : goal.join_field-returns
join_field-returns t c = field_told c.args.types.now c.args.place c.index-types-at.result c.args.one.now c.args.other.now c.join_values.result c.if-at-types.false c.join_values.ensures

pub join_values-returns-in-None-3 : goal.join_values-returns-in-None-3
join_values-returns-in-None-3 t c = map_told _ _ _ _ _ _ _ _ _ _ _ c.in-Map-Map-Map.is-0 c.in-Map-Map-Map.is-1 c.in-Map-Map-Map.is-2 c.get.ensures c.as_slice.ensures c.as_slice-in-Map-Map-Map.ensures (sym c.in-None-3.is ∙ c.in_ok-join_entries-in-Map-Map-Map.ensures)

pub join_values-returns-in-Some-3 : goal.join_values-returns-in-Some-3
join_values-returns-in-Some-3 t c = map_told _ _ _ _ _ _ _ _ _ _ _ c.in-Map-Map-Map.is-0 c.in-Map-Map-Map.is-1 c.in-Map-Map-Map.is-2 c.get.ensures c.as_slice.ensures c.as_slice-in-Map-Map-Map.ensures (sym c.in-Some-3.is ∙ c.in_ok-join_entries-in-Map-Map-Map.ensures)

pub join_values-returns-in-None-4 : goal.join_values-returns-in-None-4
join_values-returns-in-None-4 t c = record_told _ _ _ _ _ _ _ _ _ _ c.in-Rec-Rec-Rec.is-0 c.in-Rec-Rec-Rec.is-1 c.in-Rec-Rec-Rec.is-2 c.as_slice-in-Rec-Rec-Rec.ensures c.as_slice-in-Rec-Rec-Rec-2.ensures c.as_slice-in-Rec-Rec-Rec-3.ensures (sym c.in-None-4.is ∙ c.in_ok-join_fields-in-Rec-Rec-Rec.ensures)

pub join_values-returns-in-Some-4 : goal.join_values-returns-in-Some-4
join_values-returns-in-Some-4 t c = record_told _ _ _ _ _ _ _ _ _ _ c.in-Rec-Rec-Rec.is-0 c.in-Rec-Rec-Rec.is-1 c.in-Rec-Rec-Rec.is-2 c.as_slice-in-Rec-Rec-Rec.ensures c.as_slice-in-Rec-Rec-Rec-2.ensures c.as_slice-in-Rec-Rec-Rec-3.ensures (sym c.in-Some-4.is ∙ c.in_ok-join_fields-in-Rec-Rec-Rec.ensures)
