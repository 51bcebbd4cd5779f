use Rattle.std.proofs.Common.{◌∙◌, ap₂}
use Rattle.std.proofs.lemmas.Result.{IfOk-weaker}
use Rattle.clap.specs.Simple.{with_rule}
use Rattle.xdg_command.proofs.syntax.best.Goals as goal

pub returns : goal.returns
returns c =
    let grammar = c.in_ok-arg.ensures.shape c.operand.ensures.local ∙ ap₂ with_rule c.bare.ensures c.operand.ensures.rule in
    let costs = c.in_ok-arg-2.ensures.shape c.operand-2.ensures.local ∙ ap₂ with_rule grammar c.operand-2.ensures.rule in
    let budget = c.in_ok-arg-3.ensures.shape c.option_with_value.ensures.local ∙ ap₂ with_rule costs c.option_with_value.ensures.rule in
    IfOk-weaker c.arg-4.result _ _ (λ made added. added.shape c.flag.ensures.local ∙ ap₂ with_rule budget c.flag.ensures.rule) c.arg-4.ensures
