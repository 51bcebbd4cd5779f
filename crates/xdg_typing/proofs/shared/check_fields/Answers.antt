use Rattle.std.proofs.Common.{◌≡◌, refl, ap, ◌∙◌}
use Rattle.xdg_domain.specs.Shapes.{constants}
use Rattle.xdg_names.proofs.First.{first_change}
use Rattle.xdg_types.specs.Written.{tree}
use Rattle.xdg_types.specs.Meaning.{meaning, as_domain}
use Rattle.xdg_typing.specs.KindFaults.{trees, add_texts, field_faults, shared_in}
use Rattle.xdg_typing.proofs.shared.check_fields.Goals as goal

pub loop-ty-preserved : goal.loop-ty-preserved
loop-ty-preserved c = λ names known.
    let type = c.ty-item.result in
    let before = c.loop-ty.seen in
    let after = add_texts before (constants (as_domain (meaning names (tree type.kind)))) in
    let e : c.add_constants.new.seen ≡ after = c.in_ok-add_constants.ensures ∙ ap (add_texts before) (c.constants_of.ensures names known) in
    rw e (first_change (λ ts. shared_in names before (trees ts)) (λ ts. shared_in names after (trees ts)) (field_faults names before type.span.start (tree type.kind)) type (λ xs. refl)
    _ _ _ _ _ _ c.loop-ty-test.true c.ty-item.is (c.check_field.ensures names known) c.earlier-found.ensures (c.loop-ty.invariant names known))
