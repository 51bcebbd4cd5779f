use Rattle.std.proofs.Common.{◌≡◌, ◌∙◌, None, Some, ap, map, sym, subst}
use Rattle.std.proofs.lemmas.Result.{IfOk-weaker}
use Rattle.std.specs.String.{string_bytes}
use Rattle.xdg_command.specs.Answers.{IsExactly}
use Rattle.xdg_command.specs.Commands.{IsCommand}
use Rattle.xdg_command.specs.Verbs.{verb_of}
use Rattle.xdg_command.proofs.Naming.{by_verb, no_verb, one_command}
use Rattle.xdg_command.proofs.reading.command.Goals as goal

pub returns-in-Some-verb_of-clause-exact : goal.returns-in-Some-verb_of-clause-exact
returns-in-Some-verb_of-clause-exact c =
    let spelled : verb_of (string_bytes c.in-Some.name.now) ≡ Some c.in-Some-verb_of.verb = ap verb_of (sym c.as_str.ensures.value) ∙ sym c.in-Some-verb_of.ensures in
    IfOk-weaker c.with_name.result _ _ (λ answer exact.
    subst (λ words. IsExactly (IsCommand words) answer) (sym (ap (map string_bytes) c.in-Some.ensures.cases.0))
    (by_verb (string_bytes c.in-Some.name.now) (map string_bytes c.in-Some.later.now) c.in-Some-verb_of.verb answer spelled exact)) c.with_name.ensures

pub returns-in-Some-verb_of-clause-one : goal.returns-in-Some-verb_of-clause-one
returns-in-Some-verb_of-clause-one c = one_command (map string_bytes c.args.words.now)

pub returns-in-None-clause-exact : goal.returns-in-None-clause-exact
returns-in-None-clause-exact c =
    let spelled : verb_of (string_bytes c.in-Some.name.now) ≡ None = ap verb_of (sym c.as_str.ensures.value) ∙ sym c.in-None.ensures in
    subst (λ words. (command : _) → IsCommand words command → ⊥) (sym (ap (map string_bytes) c.in-Some.ensures.cases.0))
    (no_verb (string_bytes c.in-Some.name.now) (map string_bytes c.in-Some.later.now) spelled)

pub returns-in-None-clause-one : goal.returns-in-None-clause-one
returns-in-None-clause-one c = one_command (map string_bytes c.args.words.now)
