use Rattle.xdg_problem.specs.declared.parts.Linking.TheVariants as linkings
use Rattle.xdg_judge.proofs.Ways.{linked_as}
use Rattle.xdg_judge.proofs.asking.is_linked.Goals as goal

pub returns-in-End : goal.returns-in-End
returns-in-End c = linked_as _ linkings.End _ _ _ _ _ _ c.in-End.is c.requires.view.second_links c.is_joined.ensures

pub returns-in-Daughter : goal.returns-in-Daughter
returns-in-Daughter c = linked_as _ linkings.Daughter _ _ _ _ _ _ c.in-Daughter.is c.requires.view.second_links c.is_joined-in-Daughter.ensures

pub returns-in-Mother : goal.returns-in-Mother
returns-in-Mother c = linked_as _ linkings.Mother _ _ _ _ _ _ c.in-Mother.is c.requires.view.second_links c.is_joined-in-Mother.ensures

pub returns-in-BelowStart : goal.returns-in-BelowStart
returns-in-BelowStart c = linked_as _ linkings.BelowStart _ _ _ _ _ _ c.in-BelowStart.is c.requires.view.second_links c.is_joined-in-BelowStart.ensures

pub returns-in-AboveStart : goal.returns-in-AboveStart
returns-in-AboveStart c = linked_as _ linkings.AboveStart _ _ _ _ _ _ c.in-AboveStart.is c.requires.view.second_links c.is_joined-in-AboveStart.ensures

pub returns-in-Sisters : goal.returns-in-Sisters
returns-in-Sisters c = linked_as _ linkings.Sisters _ _ _ _ _ _ c.in-Sisters.is c.requires.view.second_links c.is_joined-in-Sisters.ensures
