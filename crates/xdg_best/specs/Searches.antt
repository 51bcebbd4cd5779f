-- What the search of one round comes to.
use Rattle.std.specs.Prelude.{ℕ, true, false, List}
use Rattle.xdg_best.specs.declared.searching.Round.{Round}
use Rattle.xdg_best.specs.declared.searching.Round.TheVariants as rounds
use Rattle.xdg_best.specs.Rounds.{Finds, FindsNone}
use Rattle.xdg_problem.specs.declared.parts.Parts.{Parts}

abbrev pub IsRound : Parts → List ℕ → ℕ → Round → Type 0
IsRound parts start budget (rounds.Found found charged) = Finds parts start budget found charged
IsRound parts start budget rounds.End = FindsNone parts start budget false
IsRound parts start budget rounds.Spent = FindsNone parts start budget true
