use Rattle.xdg_pgraph.proofs.allowances.Row.find.Given as goal

abbrev pub invariant-loop-at : goal.invariant-loop-at
invariant-loop-at l = Unit {0}
