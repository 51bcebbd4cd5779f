use Rattle.std.proofs.Common.{subst}
use Rattle.xdg_names.specs.First.{Tells}
use Rattle.xdg_ast.specs.Misnamed.{IsAgain}
use Rattle.xdg_types.specs.Parts.{keys}
use Rattle.xdg_classes.specs.Collected.{feature_of}
use Rattle.xdg_classes.specs.Wrong as wrong
use Rattle.xdg_classes.proofs.Telling.{tells_sum}
use Rattle.xdg_classes.proofs.checking.check_record.Goals as goal

pub returns : goal.returns
returns c =
    let pairs = c.args.one.now.pairs.now in
    tells_sum (IsAgain (keys pairs)) (wrong.SomeOf pairs (wrong.PairWrong (feature_of c.args.features.now) c.args.params.now c.args.one.now.dim.now.text)) _ _ _ c.in_ok-again.ensures
    (subst (λ d. Tells (wrong.SomeOf pairs (wrong.PairWrong (feature_of c.args.features.now) c.args.params.now d)) c.check_pairs.result) c.as_str.ensures c.check_pairs.ensures) c.earlier.ensures
