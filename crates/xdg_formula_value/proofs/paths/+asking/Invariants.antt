use Rattle.xdg_formula_value.proofs.paths.+asking.Given as goal

abbrev pub decreases-note : goal.decreases-note
decreases-note l = goal.size-note l
