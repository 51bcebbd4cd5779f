use Rattle.std.proofs.Common.{map, sym, ap, ◌∙◌}
use Rattle.xdg_domain.specs.Shapes as shapes
use Rattle.xdg_domain.specs.Shapes.{shape, shapes_of}
use Rattle.xdg_names.specs.Texts.{has_text}
use Rattle.xdg_terms.proofs.Loops.{found_here, passed_here, row_texts}
use Rattle.xdg_terms.proofs.sets.is_in_a_row.Goals as goal

pub returns-then-has_text : goal.returns-then-has_text
returns-then-has_text c = found_here (λ ty. shapes.constants (shape ty)) (λ tys. shapes.in_a_row (shapes.constants_of (shapes_of (map shape tys)))) row_texts c.args.types.now c.loop-ty.ty-index c.ty-item.result c.args.text.now _ c.loop-ty-test.true c.ty-item.is (ap (λ ts. has_text ts c.args.text.now) (sym c.constants.ensures) ∙ sym c.has_text.ensures ∙ c.if-has_text.true) c.loop-ty.invariant

pub loop-ty-preserved : goal.loop-ty-preserved
loop-ty-preserved c = passed_here (λ ty. shapes.constants (shape ty)) (λ tys. shapes.in_a_row (shapes.constants_of (shapes_of (map shape tys)))) row_texts c.args.types.now c.loop-ty.ty-index c.ty-item.result c.args.text.now _ c.loop-ty-test.true c.ty-item.is (ap (λ ts. has_text ts c.args.text.now) (sym c.constants.ensures) ∙ sym c.has_text.ensures ∙ c.if-has_text.false) c.loop-ty.invariant
