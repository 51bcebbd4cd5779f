use Rattle.std.proofs.Common.{◌∙◌, ap₂}
use Rattle.std.proofs.lemmas.Result.{IfOk-weaker}
use Rattle.clap.specs.Simple.{with_rule}
use Rattle.xdg_command.proofs.syntax.one_file.Goals as goal

pub returns : goal.returns
returns c = IfOk-weaker c.arg.result _ _ (λ made added. added.shape c.operand.ensures.local ∙ ap₂ with_rule c.bare.ensures c.operand.ensures.rule) c.arg.ensures
