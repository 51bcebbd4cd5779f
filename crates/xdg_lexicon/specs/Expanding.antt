-- What is kept while one `defentry` after the other is expanded.
use Rattle.std.specs.Prelude.{◌≤◌}
use Rattle.xdg_types.specs.Table.{Table}
use Rattle.xdg_lexicon.specs.declared.expanding.Expanding.{Expanding}
use Rattle.xdg_lexicon.specs.Lexicon.{SoFar}
use Rattle.xdg_lexicon.specs.Growing.{IsRightGrowing, entries_in}

-- the lexicon so far is right, and the sums are within the limits
pub record IsRight (table : Table) (expanding : Expanding) : Type 0 where
  pub growing : IsRightGrowing table expanding.growing
  pub few_uses : expanding.uses ≤ 1048576
  pub few_combos : expanding.combos ≤ 1048576

-- what the statements so far came to
abbrev pub so_far : Expanding → SoFar
so_far expanding = record { uses = expanding.uses; combos = expanding.combos; entries = entries_in expanding.growing }
