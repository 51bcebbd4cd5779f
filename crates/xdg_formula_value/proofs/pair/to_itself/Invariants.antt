use Rattle.xdg_formula_value.specs.Pairs.{Relates}
use Rattle.xdg_formula_value.specs.Rows.{HasFirst}
use Rattle.xdg_formula_value.proofs.pair.to_itself.Given as goal

abbrev pub invariant-loop-node : goal.invariant-loop-node
invariant-loop-node l = HasFirst l.node (λ v. Relates l.pair l.which l.store.parts l.store.now v v) l.row
