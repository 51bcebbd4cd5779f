use Rattle.xdg_problem.specs.declared.principles.PrincipleFamily.TheVariants as families
use Rattle.xdg_propcore.proofs.ByRules.{family_stays}
use Rattle.xdg_plink.proofs.link_prop.LinkFamily.stays.Goals as goal

pub returns : goal.returns
returns c = family_stays families.Link tt
