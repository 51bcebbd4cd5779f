use Rattle.std.proofs.Common.{◌≡◌, rules, ap, sym, ◌∙◌, subst}
use Rattle.xdg_domain.specs.declared.types.Ty.TheViews.{the_lemmas}
use Rattle.xdg_terms.specs.Fitting.{FitsField}
use Rattle.xdg_domain.specs.Joined.{fields_in}
use Rattle.xdg_terms.specs.Built.{first_for}
use Rattle.xdg_terms.specs.Forms.{bound, keyed_elem}
use Rattle.xdg_terms.proofs.Saying.{type_at, field_types, record_built, field_some, each_pushed, field_fits, record_fits}
use Rattle.xdg_terms.proofs.building.+build.Goals as goal

pub by_field-value_of-requires : goal.by_field-value_of-requires
by_field-value_of-requires t c = (search (rules, the_lemmas), type_at c.args.fields.now c.loop-place.place c.index-fields-place.result c.loop-place-test.true c.index-fields-place.is c.requires)

pub value_of-by_field-requires : goal.value_of-by_field-requires
value_of-by_field-requires t c = (search (rules, the_lemmas), field_types c.args.ty.now c.in-Rec.fields c.as_slice-in-Rec.result.now c.in-Rec.is c.as_slice-in-Rec.ensures c.requires)

pub value_of-returns-in_ok-by_field-in-Rec-clause-value : goal.value_of-returns-in_ok-by_field-in-Rec-clause-value
value_of-returns-in_ok-by_field-in-Rec-clause-value t c =
    record_built c.args.ty.now c.in-Rec.fields c.as_slice-in-Rec.result.now c.args.bindings.now c.args.term.now c.bound-term.result.now c.elems-in-Rec.result.now c.in_ok-by_field-in-Rec.field-0 c.in-Rec.is c.as_slice-in-Rec.ensures (c.bound-term.ensures ∙ ap (λ bs. bound bs c.args.term.now) c.as_slice.ensures) c.elems-in-Rec.ensures c.in_ok-by_field-in-Rec.ensures.value

pub by_field-loop-place-preserved : goal.by_field-loop-place-preserved
by_field-loop-place-preserved t c =
    let find = first_for keyed_elem c.args.elems.now in
    let all = c.args.fields.now in
    let k = c.loop-place.place in
    let field = c.index-fields-place.result in
    let value = c.in_ok-value_of-in-Some.field-0 in
    let same : c.in-Ok.key ≡ k = search (rules, c.in-Ok.ensures) in (
      field_some c.args.bindings.now c.args.elems.now all k field c.loop-place.made _ c.in-Some.term.now value c.in-Ok.key c.push.new.self c.loop-place-test.true c.index-fields-place.is (ap find (sym c.as_str.ensures) ∙ sym c.in-Some.ensures) c.in_ok-value_of-in-Some.ensures.value same c.in_ok-push-in-Some.ensures.ok c.loop-place.invariant.0,
      each_pushed (FitsField (fields_in all)) c.loop-place.made c.push.new.self c.in-Ok.key value c.in_ok-push-in-Some.ensures.ok c.loop-place.invariant.1 (subst (λ j. FitsField (fields_in all) j value) (sym same) (field_fits all k field value c.loop-place-test.true c.index-fields-place.is c.in_ok-value_of-in-Some.ensures.fits)),
    )

pub value_of-returns-in_ok-by_field-in-Rec-clause-fits : goal.value_of-returns-in_ok-by_field-in-Rec-clause-fits
value_of-returns-in_ok-by_field-in-Rec-clause-fits t c = record_fits c.args.ty.now c.in-Rec.fields c.as_slice-in-Rec.result.now c.in_ok-by_field-in-Rec.field-0 c.in-Rec.is c.as_slice-in-Rec.ensures c.in_ok-by_field-in-Rec.ensures.fits
