-- What sentences are compiled with.
use Rattle.std.specs.Prelude.{ℕ, suc, ◌==◌, Bool, List, [], ◌∷◌, cond}
use Rattle.std.specs.List.{list_any}
use Rattle.xdg_types.specs.Table.{Table}
use Rattle.xdg_principles.specs.declared.building.PrincipleUse.{PrincipleUse}
use Rattle.xdg_check.specs.Checked.{Parts}
use Rattle.xdg_packed.specs.Lexicon.{Lexicon}

-- the types, the principle uses and the expanded lexicon of a grammar, and where its entries say their words
pub record Grammar : Type 0 where
  pub table : Table
  pub uses : List PrincipleUse
  pub lexicon : Lexicon

abbrev pub grammar_of : Parts → Lexicon → Grammar
grammar_of checked lexicon = record { table = checked.types; uses = checked.principles; lexicon = lexicon }

-- ---- used dimensions

-- the dimension with that place among all is used
abbrev pub is_used : Table → ℕ → Bool
is_used table k = list_any (λ used. used == k) table.used

-- the place of a number in a list, and the list's length where it doesn't stand there
abbrev pub place_of_used : List ℕ → ℕ → ℕ
place_of_used [] k = 0
place_of_used (used ∷ more) k = cond (used == k) 0 (suc (place_of_used more k))

-- the place of a dimension among the used ones, by its place among all
abbrev pub used_place : Table → ℕ → ℕ
used_place table k = place_of_used table.used k
