use Rattle.std.proofs.Common.{arith}
use Rattle.xdg_build.proofs.Turns.{small_at}
use Rattle.xdg_build.proofs.plans.attr_plans.Goals as goal

pub attr_plan-requires : goal.attr_plan-requires
attr_plan-requires c = small_at c.args.attrs.now c.loop-attr.attr-index c.attr-item.result (omega arith) c.attr-item.is c.requires
