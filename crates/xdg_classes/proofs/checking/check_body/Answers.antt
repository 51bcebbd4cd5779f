use Rattle.std.proofs.Common.{subst, rules}
use Rattle.xdg_names.specs.First.{Tells}
use Rattle.xdg_classes.specs.Bodies.{body, records, calls}
use Rattle.xdg_classes.specs.Given.{told}
use Rattle.xdg_classes.specs.Collected.{feature_of}
use Rattle.xdg_classes.specs.Wrong as wrong
use Rattle.xdg_classes.proofs.Telling.{tells_sum}
use Rattle.xdg_classes.proofs.checking.check_body.Goals as goal

pub returns : goal.returns
returns c =
    let b = body c.args.expr.now.kind in
    tells_sum (wrong.SomeOf (records b) (wrong.RecordWrong (feature_of c.args.features.now) c.args.params.now)) (wrong.SomeOf (calls b) (wrong.CallWrong (told c.args.classes.now.names c.args.known.now) c.args.params.now)) _ _ _
    (subst (λ rs. Tells (wrong.SomeOf rs (wrong.RecordWrong (feature_of c.args.features.now) c.args.params.now)) c.in_ok-said.said) (search rules) c.in_ok-said.ensures)
    (subst (λ cs. Tells (wrong.SomeOf cs (wrong.CallWrong (told c.args.classes.now.names c.args.known.now) c.args.params.now)) c.check_calls.result) (search rules) c.check_calls.ensures) c.earlier.ensures
