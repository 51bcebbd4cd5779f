use Rattle.std.proofs.Common.{◌≡◌, ap, ◌∙◌, subst}
use Rattle.xdg_names.specs.First.{Tells}
use Rattle.xdg_classes.specs.Bodies.{body}
use Rattle.xdg_classes.specs.Definitions.{param_names}
use Rattle.xdg_ast.specs.Grammar.{params_of}
use Rattle.xdg_classes.specs.Given.{told}
use Rattle.xdg_classes.specs.Collected.{feature_of}
use Rattle.xdg_classes.specs.Wrong as wrong
use Rattle.xdg_facts.proofs.Options.{if_ok}
use Rattle.xdg_classes.proofs.Telling.{tells_sum}
use Rattle.xdg_classes.proofs.Growing.{names_of_params}
use Rattle.xdg_classes.proofs.ValueLaw.{class_wrong, entry_wrong}
use Rattle.xdg_classes.proofs.checking.check_statement.Goals as goal
use Rattle.xdg_ast.specs.Texts.{texts}

pub returns-in-DefClass : goal.returns-in-DefClass
returns-in-DefClass c =
    let look = feature_of c.args.features.now in
    let tell = told c.args.classes.now.names c.args.known.now in
    let params = c.in-DefClass.params in
    let free : c.in_ok-open-in-DefClass.open ≡ texts (param_names params) = c.in_ok-open-in-DefClass.ensures ∙ ap params_of c.as_slice.ensures ∙ names_of_params params in
    let inside : Tells (wrong.BodyWrong look tell (texts (param_names params)) (body c.in-DefClass.body.kind)) c.in_ok-inside-in-DefClass.inside =
    subst (λ ps. Tells (wrong.BodyWrong look tell ps (body c.in-DefClass.body.kind)) c.in_ok-inside-in-DefClass.inside) free c.in_ok-inside-in-DefClass.ensures in
    let presets : Tells (wrong.SomeOf params (wrong.PresetWrong tell c.in-DefClass.name.text)) c.check_presets-presets.result =
    subst (λ n. Tells (wrong.SomeOf params (wrong.PresetWrong tell n)) c.check_presets-presets.result) c.as_str.ensures
    (subst (λ ps. Tells (wrong.SomeOf ps (wrong.PresetWrong tell c.as_str.result.now)) c.check_presets-presets.result) c.as_slice-in-DefClass.ensures c.check_presets-presets.ensures) in
    class_wrong look tell c.args.statement.now c.in-DefClass.name params c.in-DefClass.body c.earlier.result c.in-DefClass.is
    (tells_sum (wrong.BodyWrong look tell (texts (param_names params)) (body c.in-DefClass.body.kind)) (wrong.SomeOf params (wrong.PresetWrong tell c.in-DefClass.name.text)) _ _ _ inside presets c.earlier.ensures)

pub returns-in-DefEntry : goal.returns-in-DefEntry
returns-in-DefEntry c =
    let look = feature_of c.args.features.now in
    let tell = told c.args.classes.now.names c.args.known.now in
    let b = body c.in-DefEntry.body.kind in
    if_ok (Tells (wrong.BodyWrong look tell c.none-nothing.result b)) (Tells (wrong.StatementWrong look tell c.args.statement.now)) c.check_body-in-DefEntry.result
    (λ found h. entry_wrong look tell c.args.statement.now c.in-DefEntry.body found c.in-DefEntry.is (subst (λ ps. Tells (wrong.BodyWrong look tell ps b) found) c.none-nothing.ensures h))
    c.check_body-in-DefEntry.ensures
