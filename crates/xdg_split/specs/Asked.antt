-- What a job asks for.
use Rattle.std.specs.Prelude.{ℕ, ◌≤◌, List, Option}
use Rattle.xdg_split.specs.Written.{IsSome}
use Rattle.xdg_problem.specs.declared.parts.Parts.{Parts}
use Rattle.xdg_propcore.specs.Uses.{AllStandIn}

-- the analyses of a sentence, within a budget of boxed prefixes: so many of them, or all
pub record Asked : Type 0 where
  pub parts : Parts
  pub budget : ℕ
  pub first : Option ℕ

-- asked by these
abbrev pub asked : Parts → ℕ → Option ℕ → Asked
asked parts budget first = record { parts = parts; budget = budget; first = first }

-- what a job keeps: its propagators stand for the principle uses of its sentence, its budget is in range, and where a number of
-- analyses is given, it is at least one
pub record IsJob {P : Type 0} (stands : P → Parts → ℕ → Type 0) (props : List P) (job : Asked) : Type 0 where
  pub stand : AllStandIn stands props job.parts
  pub some : 1 ≤ job.budget
  pub most : job.budget ≤ 1000000000
  pub first : IsSome job.first
