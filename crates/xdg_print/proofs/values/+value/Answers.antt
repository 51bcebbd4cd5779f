use Rattle.std.proofs.Common.{◌<◌, length, ◌∙◌, ap, sym, subst, arith, rules}
use Rattle.xdg_domain.specs.declared.types.Ty.TheViews.{the_lemmas}
use Rattle.xdg_domain.specs.declared.values.Value.{out-Value}
use Rattle.xdg_domain.specs.Shapes.{shape, fields_of, count, IsType}
use Rattle.xdg_domain.specs.Values.{IsValue, IsFieldOf}
use Rattle.xdg_types.specs.Table.{typed}
use Rattle.xdg_print.proofs.Put.{finish}
use Rattle.xdg_print.specs.Defaulted.{is_default}
use Rattle.xdg_print.proofs.Layered.{said_each, valency_said, map_types, map_entry, record_types, record_said}
use Rattle.xdg_print.proofs.Keyed.{entry_put, field_at, field_there, type_at, feature_put, map_done, record_done}
use Rattle.xdg_print.proofs.values.+value.Goals as goal

pub put_value-put_valency-requires-clause-said : goal.put_value-put_valency-requires-clause-said
put_value-put_valency-requires-clause-said t c =
    rw c.get-in-Valency-Valency.ensures
    (valency_said c.args.ty.now c.in-Valency-Valency.key c.args.value.now c.in-Valency-Valency.said c.as_slice-in-Valency-Valency.result.now c.in-Valency-Valency.is-0 c.in-Valency-Valency.is-1 c.requires.value c.as_slice-in-Valency-Valency.ensures.same)

pub put_value-put_member-requires-in-loop-entry-clause-below : goal.put_value-put_member-requires-in-loop-entry-clause-below
put_value-put_member-requires-in-loop-entry-clause-below t c =
    let entry = map_entry c.args.ty.now c.in-Map-Map.key c.in-Map-Map.of c.args.value.now c.in-Map-Map.said c.as_slice-entry-items.result.now c.loop-entry.entry-index c.entry-item.result c.in-Map-Map.is-0 c.in-Map-Map.is-1 c.requires.value
    c.as_slice-entry-items.ensures c.loop-entry-test.true c.entry-item.is in
    let same = ap (λ k. count (shape k)) c.get-in-loop-entry-2.ensures in
    omega (arith, entry.0, same, c.from-in-loop-entry.ensures)

pub put_value-put_value-requires : goal.put_value-put_value-requires
put_value-put_value-requires t c =
    let entry = map_entry c.args.ty.now c.in-Map-Map.key c.in-Map-Map.of c.args.value.now c.in-Map-Map.said c.as_slice-entry-items.result.now c.loop-entry.entry-index c.entry-item.result c.in-Map-Map.is-0 c.in-Map-Map.is-1 c.requires.value
    c.as_slice-entry-items.ensures c.loop-entry-test.true c.entry-item.is in (
      search (rules, the_lemmas),
      (
        subst (λ of. IsType (shape of)) (sym c.get-in-loop-entry-3.ensures) (map_types c.args.ty.now c.in-Map-Map.key c.in-Map-Map.of c.in-Map-Map.is-0 c.requires.right).1.1,
        subst (λ of. IsValue (shape of) c.entry-item.result.1) (sym c.get-in-loop-entry-3.ensures) entry.1,
      ),
    )

pub put_value-loop-entry-preserved : goal.put_value-loop-entry-preserved
put_value-loop-entry-preserved t c =
    entry_put (shape c.in-Map-Map.key) (shape c.in-Map-Map.of) c.as_slice-entry-items.result.now c.loop-entry.entry-index c.entry-item.result c.from-in-loop-entry.result c.loop-entry.printer c.put_member-in-loop-entry.new.printer
    c.mark-in-loop-entry.new.self c.put_value.new.printer _ c.loop-entry-test.true c.entry-item.is
    (ap (λ of. is_default (shape of) (out-Value c.entry-item.result.1)) (sym c.get-in-loop-entry.ensures) ∙ sym c.is_default.ensures.value ∙ c.if-is_default.false)
    c.from-in-loop-entry.ensures
    (rw c.get-in-loop-entry-2.ensures at c.in_ok-put_member-in-Map-Map.ensures) c.in_ok-mark-in-Map-Map-2.ensures
    (rw c.get-in-loop-entry-3.ensures at c.in_ok-put_value-in-Map-Map.ensures) c.loop-entry.invariant

pub put_value-returns-after-loop-entry : goal.put_value-returns-after-loop-entry
put_value-returns-after-loop-entry t c =
    finish c.mark-in-Map-Map.result c.mark-in-Map-Map.new.self
    (map_done c.args.ty.now c.in-Map-Map.key c.in-Map-Map.of c.args.value.now c.in-Map-Map.said c.as_slice-entry-items.result.now c.loop-entry.entry-index c.args.printer.now c.mark.new.self c.loop-entry.printer
    c.in-Map-Map.is-0 c.in-Map-Map.is-1 c.as_slice-entry-items.ensures (omega (arith, c.loop-entry-test.false)) c.in_ok-mark-in-Map-Map.ensures c.loop-entry.invariant)
    c.mark-in-Map-Map.ensures

pub put_value-put_features-requires : goal.put_value-put_features-requires
put_value-put_features-requires t c = (
  search (rules, the_lemmas),
  (
    record_types c.args.ty.now c.in-Rec-Rec.types c.as_slice-types.result.now c.in-Rec-Rec.is-0 c.as_slice-types.ensures c.requires.right,
    record_said c.args.ty.now c.in-Rec-Rec.types c.as_slice-types.result.now c.args.value.now c.in-Rec-Rec.said c.as_slice-said.result.now
        c.in-Rec-Rec.is-0 c.as_slice-types.ensures c.in-Rec-Rec.is-1 c.requires.value c.as_slice-said.ensures,
  ),
)

pub put_value-returns-in_ok-put_features-in-Rec-Rec : goal.put_value-returns-in_ok-put_features-in-Rec-Rec
put_value-returns-in_ok-put_features-in-Rec-Rec t c =
    finish c.mark-in-Rec-Rec-2.result c.mark-in-Rec-Rec-2.new.self
    (record_done c.args.ty.now c.in-Rec-Rec.types c.as_slice-types.result.now c.args.value.now c.in-Rec-Rec.said c.as_slice-said.result.now c.args.printer.now c.mark-in-Rec-Rec.new.self c.put_features.new.printer
    c.in-Rec-Rec.is-0 c.as_slice-types.ensures c.in-Rec-Rec.is-1 c.as_slice-said.ensures c.in_ok-mark-in-Rec-Rec.ensures c.in_ok-put_features-in-Rec-Rec.ensures)
    c.mark-in-Rec-Rec-2.ensures

-- ---- features

pub put_features-bounds-types-feature : goal.put_features-bounds-types-feature
put_features-bounds-types-feature t c =
    field_there c.args.types.now c.feature-item.result.0 c.feature-item.result.1
    (said_each (IsFieldOf (fields_of (typed c.args.types.now))) c.args.said.now c.loop-feature.feature-index c.feature-item.result c.requires.said c.loop-feature-test.true c.feature-item.is)

pub put_features-put_value-requires : goal.put_features-put_value-requires
put_features-put_value-requires t c =
    let entry = said_each (IsFieldOf (fields_of (typed c.args.types.now))) c.args.said.now c.loop-feature.feature-index c.feature-item.result c.requires.said c.loop-feature-test.true c.feature-item.is in
    let there : c.feature-item.result.0 < length c.args.types.now = field_there c.args.types.now c.feature-item.result.0 c.feature-item.result.1 entry in (
      search (rules, the_lemmas),
      (
        type_at c.args.types.now c.feature-item.result.0 c.index-types-feature.result c.requires.right there c.index-types-feature.is,
        field_at c.args.types.now c.feature-item.result.0 c.feature-item.result.1 c.index-types-feature.result entry c.index-types-feature.is,
      ),
    )

pub put_features-loop-feature-preserved : goal.put_features-loop-feature-preserved
put_features-loop-feature-preserved t c =
    let entry = said_each (IsFieldOf (fields_of (typed c.args.types.now))) c.args.said.now c.loop-feature.feature-index c.feature-item.result c.requires.said c.loop-feature-test.true c.feature-item.is in
    feature_put c.args.types.now c.args.said.now c.loop-feature.feature-index c.feature-item.result c.index-types-feature.result c.as_str.result.now c.loop-feature.printer
    c.constant.new.self c.mark.new.self c.put_value.new.printer _ c.loop-feature-test.true c.feature-item.is
    (field_there c.args.types.now c.feature-item.result.0 c.feature-item.result.1 entry) c.index-types-feature.is c.as_str.ensures
    c.in_ok-constant.ensures c.in_ok-mark.ensures c.in_ok-put_value.ensures c.loop-feature.invariant
