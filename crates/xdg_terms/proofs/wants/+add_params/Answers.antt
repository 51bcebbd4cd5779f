use Rattle.std.proofs.Common.{rules, ◌≡◌, ◌++◌, sym, ap, ◌∙◌, subst}
use Rattle.std.specs.Prelude.{IfOk, true, bytes_eq}
use Rattle.xdg_domain.specs.declared.types.Ty.TheVariants as y
use Rattle.xdg_domain.specs.Shapes.{shape, mapping}
use Rattle.xdg_terms.specs.Faults.{fields_in}
use Rattle.xdg_terms.specs.Wanted as spec
use Rattle.xdg_domain.proofs.Shaped.{shape_rec}
use Rattle.xdg_terms.proofs.Wanting.{inside_map, inside_record, under_here}
use Rattle.xdg_terms.proofs.wants.+add_params.Goals as goal
use Rattle.xdg_domain.proofs.Opened.{shape_map}

pub add_inside-returns-in-Map : goal.add_inside-returns-in-Map
add_inside-returns-in-Map t c =
    subst (λ us. IfOk c.add_values.result (λ _. spec.wants_of c.add_values.new.found.items ≡ spec.wants_of c.args.found.now.items ++ us))
    (inside_map c.args.params.now (shape c.args.ty.now) (shape c.in-Map.field-0) (shape c.get.result.now) c.args.term.now c.keyed.result.now (ap shape c.in-Map.is ∙ shape_map c.in-Map.field-0 c.in-Map.value ∙ ap (λ z. mapping (shape c.in-Map.field-0) (shape z)) (sym c.get.ensures)) c.keyed.ensures)
    c.add_values.ensures

pub add_inside-returns-in-Rec : goal.add_inside-returns-in-Rec
add_inside-returns-in-Rec t c =
    let all = c.as_slice.result.now in
    let is : c.args.ty.now ≡ y.Rec all = cc in
    subst (λ us. IfOk c.add_parts.result (λ _. spec.wants_of c.add_parts.new.found.items ≡ spec.wants_of c.args.found.now.items ++ us))
    (inside_record c.args.params.now (shape c.args.ty.now) (fields_in all) c.args.term.now c.keyed-in-Rec.result.now (ap shape is ∙ shape_rec all) c.keyed-in-Rec.ensures)
    c.add_parts.ensures

pub add_under-returns-then-eq : goal.add_under-returns-then-eq
add_under-returns-then-eq t c =
    let free = c.args.params.now in
    let field = c.loop-name-item.result in
    let same : true ≡ bytes_eq field.0 c.args.key.now.text = search rules in
    subst (λ us. IfOk c.add_params.result (λ _. spec.wants_of c.add_params.new.found.items ≡ spec.wants_of c.args.found.now.items ++ us))
    (under_here free c.args.fields.now c.loop-name.name-index field c.args.key.now c.args.term.now _ c.loop-name-test.true c.loop-name-item.is same c.loop-name.invariant.0)
    (subst (λ fs. IfOk c.add_params.result (λ _. spec.wants_of c.add_params.new.found.items ≡ spec.wants_of fs ++ spec.params_in free (shape field.1) c.args.term.now)) c.loop-name.invariant.1 c.add_params.ensures)
