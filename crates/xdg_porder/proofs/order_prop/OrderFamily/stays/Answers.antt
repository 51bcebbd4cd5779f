use Rattle.xdg_problem.specs.declared.principles.PrincipleFamily.TheVariants as families
use Rattle.xdg_propcore.proofs.ByRules.{family_stays}
use Rattle.xdg_porder.proofs.order_prop.OrderFamily.stays.Goals as goal

pub returns : goal.returns
returns c = family_stays families.Order tt
