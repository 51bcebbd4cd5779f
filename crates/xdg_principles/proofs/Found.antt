-- What is made of each use with its principle is made of the use.
use Rattle.std.proofs.Common.{◌≡◌, ℕ, List, map, Option, ap, ◌∙◌}
use Rattle.std.specs.List.{flat_map}
use Rattle.std.proofs.lemmas.List.Folds.{flat_map-map}
use Rattle.xdg_facts.proofs.Lists.{fused}
use Rattle.xdg_problem.specs.declared.parts.Principle.{Principle}
use Rattle.xdg_types.specs.NameFaults.{different}
use Rattle.xdg_types.specs.Parts.{Statement, dim_names, used_names}
use Rattle.xdg_types.specs.declared.table.DimType.{DimType}
use Rattle.xdg_principles.specs.declared.using.FoundUse.{FoundUse}
use Rattle.xdg_principles.specs.declared.using.Uses.{Uses}
use Rattle.xdg_principles.specs.ArgumentFaults as arguments
use Rattle.xdg_principles.specs.Made.{built, built_found}
use Rattle.xdg_principles.specs.NameFaults as names
use Rattle.xdg_principles.specs.Uses.{Use, principle_uses, told, with_principle, AreUsesOf}

faults_told : {A : Type 0} (faults : Use × Option Principle → List A) (statements : List Statement) (uses : Uses) → AreUsesOf statements uses
    → flat_map faults (map told uses.found) ≡ flat_map (λ one. faults (with_principle one)) (principle_uses statements)
faults_told faults statements uses are = ap (flat_map faults) are ∙ flat_map-map faults with_principle (principle_uses statements)

pub names_told : (statements : List Statement) (uses : Uses) (defined used : List (List ℕ)) (lent : List FoundUse) → AreUsesOf statements uses
    → defined ≡ different (dim_names statements) → used ≡ different (used_names statements) → lent ≡ uses.found → flat_map (names.found_faults defined used) (map told lent) ≡ names.name_faults statements
names_told statements uses defined used lent are d u l =
    ap (λ xs. flat_map (names.found_faults defined used) (map told xs)) l ∙ faults_told (names.found_faults defined used) statements uses are
    ∙ ap (λ ns. flat_map (names.use_faults ns used) (principle_uses statements)) d ∙ ap (λ ns. flat_map (names.use_faults (different (dim_names statements)) ns) (principle_uses statements)) u

pub arguments_told : (statements : List Statement) (uses : Uses) (dims : List DimType) → AreUsesOf statements uses
    → flat_map (arguments.found_faults dims) (map told uses.found) ≡ arguments.argument_faults statements dims
arguments_told statements uses dims are = faults_told (arguments.found_faults dims) statements uses are

pub built_told : (statements : List Statement) (uses : Uses) (dims : List DimType) → AreUsesOf statements uses → map (built_found dims) (map told uses.found) ≡ map (built dims) (principle_uses statements)
built_told statements uses dims are = ap (map (built_found dims)) are ∙ fused (built_found dims) with_principle (principle_uses statements)
