use Rattle.std.proofs.Common.{◌≡◌, rules, sym, ap, ◌∙◌}
use Rattle.xdg_domain.specs.declared.types.Ty.TheVariants as y
use Rattle.xdg_domain.specs.Shapes.{shape}
use Rattle.xdg_names.specs.First.{first}
use Rattle.xdg_terms.specs.Faults as spec
use Rattle.xdg_terms.specs.Readings.{look_of}
use Rattle.xdg_terms.proofs.Loops.{each_turn}
use Rattle.xdg_domain.proofs.Shaped.{shape_rec}
use Rattle.xdg_terms.proofs.Formed.{mapping_told, mapping_wrong, record_told, record_wrong}
use Rattle.xdg_terms.proofs.checking.+check_term.Goals as goal

pub check_map-returns-then-not-each_keyed : goal.check_map-returns-then-not-each_keyed
check_map-returns-then-not-each_keyed t c = c.wrong_kind-then-not-each_keyed.ensures ∙ ap first (mapping_wrong (look_of c.args.reading.now) c.args.texts.now (shape c.args.value.now) c.args.term.now c.as_slice-elems.result.now (cc) (search rules))

pub check_map-returns : goal.check_map-returns
check_map-returns t c = mapping_told (look_of c.args.reading.now) c.args.texts.now (shape c.args.value.now) c.args.term.now c.as_slice-elems.result.now (cc) (search rules) _ _ _ c.check_keys.ensures c.check_values.ensures c.earlier.ensures

pub check_record-returns-then-not-each_keyed : goal.check_record-returns-then-not-each_keyed
check_record-returns-then-not-each_keyed t c = c.wrong_kind-then-not-each_keyed.ensures ∙ ap first (record_wrong (look_of c.args.reading.now) (spec.fields_in c.args.fields.now) c.args.term.now c.as_slice-elems.result.now (cc) (search rules))

pub check_record-returns : goal.check_record-returns
check_record-returns t c = record_told (look_of c.args.reading.now) (spec.fields_in c.args.fields.now) c.args.term.now c.as_slice-elems.result.now (cc) (search rules) _ _ _ c.check_fields.ensures c.check_parts.ensures c.earlier.ensures

pub check_values-loop-elem-preserved : goal.check_values-loop-elem-preserved
check_values-loop-elem-preserved t c = each_turn (spec.value_faults (look_of c.args.reading.now) (shape c.args.value.now)) _ _ _ _ _ _ _ c.loop-elem-test.true c.elem-item.is c.check_value.ensures c.earlier-found.ensures c.loop-elem.invariant

pub check_parts-loop-elem-preserved : goal.check_parts-loop-elem-preserved
check_parts-loop-elem-preserved t c = each_turn (spec.elem_faults (look_of c.args.reading.now) (spec.fields_in c.args.fields.now)) _ _ _ _ _ _ _ c.loop-elem-test.true c.elem-item.is c.check_part.ensures c.earlier-found.ensures c.loop-elem.invariant

pub check_seen-returns-in-Rec : goal.check_seen-returns-in-Rec
unfolding spec.record_faults
check_seen-returns-in-Rec t c =
    let look = look_of c.args.reading.now in
    let written = c.args.term.now in
    let all = c.as_slice-in-Rec.result.now in
    let is : y.Rec all ≡ c.args.ty.now = cc in
    c.check_record.ensures ∙ ap (λ s. first (spec.faults_in look s written)) (sym (shape_rec all) ∙ ap shape is)
