use Rattle.std.proofs.Common.{◌∙◌, ap₂}
use Rattle.std.proofs.lemmas.Result.{IfOk-weaker}
use Rattle.clap.specs.Simple.{with_rule}
use Rattle.xdg_command.proofs.syntax.parse.Goals as goal

pub returns : goal.returns
returns c =
    let grammar = c.in_ok-arg.ensures.shape c.operand.ensures.local ∙ ap₂ with_rule c.bare.ensures c.operand.ensures.rule in
    let budget = c.in_ok-arg-2.ensures.shape c.option_with_value.ensures.local ∙ ap₂ with_rule grammar c.option_with_value.ensures.rule in
    let first = c.in_ok-arg-3.ensures.shape c.option_with_value-2.ensures.local ∙ ap₂ with_rule budget c.option_with_value-2.ensures.rule in
    let text = c.in_ok-arg-4.ensures.shape c.option_with_value-3.ensures.local ∙ ap₂ with_rule first c.option_with_value-3.ensures.rule in
    let rules = c.in_ok-arg-5.ensures.shape c.option_with_value-4.ensures.local ∙ ap₂ with_rule text c.option_with_value-4.ensures.rule in
    let segment = c.in_ok-arg-6.ensures.shape c.flag.ensures.local ∙ ap₂ with_rule rules c.flag.ensures.rule in
    IfOk-weaker c.arg-7.result _ _ (λ made added. added.shape c.flag-2.ensures.local ∙ ap₂ with_rule segment c.flag-2.ensures.rule) c.arg-7.ensures
