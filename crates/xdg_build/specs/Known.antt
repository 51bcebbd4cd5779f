-- What is compiled of the records of a grammar already.
use Rattle.std.specs.Prelude.{ℕ, List, get_or, flat_map}
use Rattle.std.specs.List.{AllZip}
use Rattle.xdg_problem.specs.declared.parts.Feat.{Feat}
use Rattle.xdg_principles.specs.declared.building.PrincipleUse.{PrincipleUse}
use Rattle.xdg_build.specs.declared.records.Records.{Records}
use Rattle.xdg_build.specs.Grammars.{Grammar, used_place}
use Rattle.xdg_build.specs.Groups.{features_in}
use Rattle.xdg_build.specs.Rows.{AreKept}
use Rattle.xdg_problem.specs.Principles.{feature_dim}

-- the place among the used ones of the dimension that has the features of a principle use
abbrev pub features_dim : Grammar → PrincipleUse → ℕ
features_dim g u = used_place g.table (get_or u.dims (feature_dim u.principle) 0)

-- under each of these numbers stand the features that the principle use takes of the entry with that number
abbrev pub IsKnownFor : Grammar → PrincipleUse → List (ℕ × List Feat) → Type 0
IsKnownFor g u kept = AreKept g.lexicon.entries (features_dim g u) (flat_map features_in u.args) kept

-- so it is for each principle use of the grammar
abbrev pub AreRecords : Grammar → Records → Type 0
AreRecords g records = AllZip (λ u known. IsKnownFor g u known.entries) g.uses records.kept.items
