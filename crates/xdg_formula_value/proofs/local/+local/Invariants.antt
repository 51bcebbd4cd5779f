use Rattle.std.proofs.Common.{take}
use Rattle.xdg_propcore.specs.Standing.{box_at}
use Rattle.xdg_formula_value.specs.Lost.{LosesOne}
use Rattle.xdg_formula_value.proofs.Locals.{AllAskIf}
use Rattle.xdg_formula_value.proofs.local.+local.Given as goal

abbrev pub invariant-are_local-loop-formula : goal.invariant-are_local-loop-formula
invariant-are_local-loop-formula l = AllAskIf (LosesOne l.store.parts (box_at l.store l.fn.since) l.store.now) (take l.formula-index l.formulas)
