use Rattle.xdg_problem.specs.declared.principles.PrincipleFamily.TheVariants as families
use Rattle.xdg_propcore.proofs.ByRules.{family_stays}
use Rattle.xdg_pagree.proofs.agree_prop.AgreeFamily.stays.Goals as goal

pub returns : goal.returns
returns c = family_stays families.Agree tt
