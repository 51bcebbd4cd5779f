use Rattle.std.proofs.Common.{[], sym, ap, ◌∙◌, subst}
use Rattle.std.specs.Prelude.{IfOk}
use Rattle.std.specs.Option.{option_copied}
use Rattle.xdg_classes.specs.Given as spec
use Rattle.xdg_classes.proofs.Growing.{grows_none, grows_as, called_some, called_none}
use Rattle.xdg_classes.proofs.collecting.add_call.Goals as goal

pub returns-in-None : goal.returns-in-None
returns-in-None c =
    grows_as c.args.wants.now c.args.wants.now [] _ (called_none (spec.of_class c.args.classes.now.names c.args.known.now c.args.call.now.name.now.text) c.args.params.now c.args.call.now.args.now (sym (ap option_copied c.in-None.is) ∙ c.of_class.ensures ∙ ap (spec.of_class c.args.classes.now.names c.args.known.now) c.as_str.ensures)) (grows_none c.args.wants.now)

pub returns-in-Some : goal.returns-in-Some
returns-in-Some c =
    subst (λ ws. IfOk c.add_args.result (λ _. spec.Grows c.args.wants.now c.add_args.new.wants ws))
    (called_some (spec.of_class c.args.classes.now.names c.args.known.now c.args.call.now.name.now.text) c.args.params.now c.args.call.now.args.now c.in-Some.used.now (sym (ap option_copied c.in-Some.is) ∙ c.of_class.ensures ∙ ap (spec.of_class c.args.classes.now.names c.args.known.now) c.as_str.ensures))
    c.add_args.ensures
