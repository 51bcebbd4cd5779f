use Rattle.std.proofs.Common.{ap₂, ◌∙◌}
use Rattle.xdg_domain.specs.Joined.{same_list}
use Rattle.xdg_domain.proofs.Numbers.{pointwise_is}
use Rattle.xdg_domain.proofs.joining.is_same.Goals as goal

pub returns : goal.returns
returns c = c.eq.ensures ∙ pointwise_is c.as_str.result.now c.as_str-2.result.now ∙ ap₂ same_list c.as_str.ensures c.as_str-2.ensures
