use Rattle.std.proofs.Common.{◌≡◌, sym, ap, ◌∙◌, subst}
use Rattle.std.specs.Prelude.{Some}
use Rattle.xdg_domain.specs.Shapes.{shape}
use Rattle.xdg_names.specs.First.{Tells}
use Rattle.xdg_classes.specs.Collected.{feature_of, shape_of}
use Rattle.xdg_classes.specs.Wrong as wrong
use Rattle.xdg_classes.proofs.checking.check_feature.Goals as goal

pub returns-in-Some : goal.returns-in-Some
returns-in-Some c =
    let look = feature_of c.args.features.now c.args.dim.now in
    let is : Some (shape c.in-Some.ty.now) ≡ look c.args.pair.now.key.text = sym (ap shape_of c.in-Some.is) ∙ c.get.ensures ∙ ap look c.as_str.ensures in
    subst (λ o. Tells (wrong.FeatureWrong o c.args.params.now c.args.pair.now) c.check_open.result) is c.check_open.ensures
