use Rattle.xdg_classes.proofs.same.has_type.Given as goal

abbrev pub invariant-loop-one : goal.invariant-loop-one
invariant-loop-one l = Unit {0}
