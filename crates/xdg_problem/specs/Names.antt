-- What principles are called in grammar texts.
use Rattle.std.specs.Prelude.{ℕ, List, [], ◌∷◌, Option, None, Some, bytes_eq, if◌then◌else◌}
use Rattle.xdg_problem.specs.declared.parts.Principle.{Principle}
use Rattle.xdg_problem.specs.declared.parts.Principle.TheVariants as principles
use Rattle.xdg_problem.specs.Principles.{name_of, all_principles}

-- grammar texts can use the principle
abbrev pub IsOfTexts : Principle → Type 0
IsOfTexts (principles.Rule formula) = ⊥
IsOfTexts (principles.Bound costs bound) = ⊥
IsOfTexts principle = Unit {0}

-- the first of these principles with the name
abbrev pub named_in : List Principle → List ℕ → Option Principle
named_in [] name = None
named_in (principle ∷ more) name = if bytes_eq name (name_of principle) then Some principle else named_in more name

-- the principle of grammar texts that has the name, where there is one
unfoldable pub named : List ℕ → Option Principle
named name = named_in all_principles name
