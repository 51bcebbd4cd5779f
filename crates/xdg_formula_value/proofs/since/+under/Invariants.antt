use Rattle.xdg_formula_value.proofs.since.+under.Given as goal

abbrev pub decreases-false_under : goal.decreases-false_under
decreases-false_under l = goal.size-false_under l
