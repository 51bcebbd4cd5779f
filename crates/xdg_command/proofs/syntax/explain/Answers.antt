use Rattle.std.proofs.Common.{◌∙◌, ap₂}
use Rattle.std.proofs.lemmas.Result.{IfOk-weaker}
use Rattle.clap.specs.Simple.{with_rule}
use Rattle.xdg_command.proofs.syntax.explain.Goals as goal

pub returns : goal.returns
returns c =
    let grammar = c.in_ok-arg.ensures.shape c.operand.ensures.local ∙ ap₂ with_rule c.bare.ensures c.operand.ensures.rule in
    let analysis = c.in_ok-arg-2.ensures.shape c.operand-2.ensures.local ∙ ap₂ with_rule grammar c.operand-2.ensures.rule in
    IfOk-weaker c.arg-3.result _ _ (λ made added. added.shape c.option_with_value.ensures.local ∙ ap₂ with_rule analysis c.option_with_value.ensures.rule) c.arg-3.ensures
