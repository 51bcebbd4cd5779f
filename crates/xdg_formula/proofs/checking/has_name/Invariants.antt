use Rattle.std.proofs.Common.{◌≡◌, drop}
use Rattle.xdg_terms.specs.Faults.{texts_of}
use Rattle.xdg_formula.specs.Formulas.{names_of}
use Rattle.xdg_formula.proofs.checking.has_name.Given as goal
use Rattle.xdg_names.specs.Texts.{has_text}

abbrev pub invariant-loop-rule : goal.invariant-loop-rule
invariant-loop-rule l = has_text (texts_of (names_of (drop l.rule-index l.rules))) l.name ≡ has_text (texts_of (names_of l.rules)) l.name
