use Rattle.std.proofs.Common.{[], sym, subst}
use Rattle.xdg_names.specs.First.{Tells}
use Rattle.xdg_classes.specs.Given.{told}
use Rattle.xdg_classes.specs.Wrong as wrong
use Rattle.xdg_classes.proofs.checking.check_preset.Goals as goal

pub returns-in-Some : goal.returns-in-Some
returns-in-Some c =
    let tell = told c.args.classes.now.names c.args.known.now c.args.class.now in
    let found = c.check_value.result in
    let free : Tells (wrong.ValueWrong (tell c.as_str.result.now) [] c.in-Some.term) found = subst (λ ps. Tells (wrong.ValueWrong (tell c.as_str.result.now) ps c.in-Some.term) found) c.requires c.check_value.ensures in
    let name : Tells (wrong.ValueWrong (tell c.args.param.now.name.text) [] c.in-Some.term) found = subst (λ n. Tells (wrong.ValueWrong (tell n) [] c.in-Some.term) found) c.as_str.ensures free in
    subst (λ o. Tells (wrong.GivenWrong (tell c.args.param.now.name.text) o) found) (sym c.in-Some.is) name
