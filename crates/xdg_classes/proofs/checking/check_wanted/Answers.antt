use Rattle.std.proofs.Common.{◌≡◌, sym, ap, ◌∙◌, subst}
use Rattle.std.specs.Prelude.{Some}
use Rattle.std.specs.Option.{option_copied}
use Rattle.xdg_names.specs.First.{Tells}
use Rattle.xdg_classes.specs.Given.{shapes, shapes_of, given_in, of_class}
use Rattle.xdg_classes.specs.Wrong as wrong
use Rattle.xdg_classes.proofs.checking.check_wanted.Goals as goal

pub returns-in-Some-of : goal.returns-in-Some-of
returns-in-Some-of c =
    let class = of_class c.args.classes.now.names c.args.known.now c.args.class.now in
    let one : Some c.in-Some.wanted.now ≡ class = sym (ap option_copied c.in-Some.is) ∙ c.of_class.ensures in
    let is : shapes c.as_slice.result.now ≡ given_in class c.args.param.now = ap shapes c.as_slice.ensures ∙ sym (ap shapes_of c.in-Some-of.is) ∙ c.of.ensures ∙ ap (λ o. given_in o c.args.param.now) one in
    subst (λ l. Tells (wrong.TypesWrong l c.args.params.now c.args.term.now) c.check_types.result) is c.check_types.ensures
