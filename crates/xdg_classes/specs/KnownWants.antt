-- What is known of the wanted types of all classes.
use Rattle.std.specs.Prelude.{◌≡◌, ℕ, ◌<◌, ◌↔◌, List, [], map, slice_get, slice_index_or}
use Rattle.xdg_domain.specs.Shapes.{Shape}
use Rattle.xdg_names.specs.Leads.{number}
use Rattle.xdg_types.specs.Answers.{None_of}
use Rattle.xdg_ast.specs.Misnamed.{IsTwice}
use Rattle.xdg_types.specs.Parts.{Statement}
use Rattle.xdg_types.specs.Table.{Table}
use Rattle.xdg_classes.specs.Names as sites
use Rattle.xdg_classes.specs.Ordered.{OrdersClasses}
use Rattle.xdg_classes.specs.declared.lookup.Classes.{Classes}
use Rattle.xdg_classes.specs.declared.features.Features.{Features}
use Rattle.xdg_classes.specs.declared.wanted.WantedTypes.{WantedTypes}
use Rattle.xdg_classes.specs.Given.{given_in, told}
use Rattle.xdg_classes.specs.Wants.{Wants, named_bodies}
use Rattle.xdg_facts.specs.Membership.{In}

-- The classes are those of the grammar, and the features those of its table; no name stands twice where it may stand once.
pub record Fits (statements : List Statement) (table : Table) (features : Features) (classes : Classes) : Type 0 where
  pub dims : features.dims.now ≡ table.dims
  pub names : features.names ≡ map (λ dim. dim.name) table.dims
  pub orders : OrdersClasses statements classes
  pub once : None_of (IsTwice (sites.once statements))

-- of the class at a place exactly the wanted types are known
abbrev pub IsRightAt : List Statement → Table → List (List ℕ) → List WantedTypes → ℕ → Type 0
IsRightAt statements table names all k =
    (param : List ℕ) (s : Shape) → In (given_in (slice_get all k) param) s ↔ Wants table (named_bodies statements) (slice_index_or names k []) param s

-- of the first classes in order
abbrev pub AreRightUpTo : List Statement → Table → Classes → List WantedTypes → ℕ → Type 0
AreRightUpTo statements table classes all i = (j : ℕ) → j < i → IsRightAt statements table classes.names all (number classes.order j)

-- of each class with each name
abbrev pub IsKnown : List Statement → Table → List (List ℕ) → List WantedTypes → Type 0
IsKnown statements table names all =
    (class param : List ℕ) (s : Shape) → In (told names all class param) s ↔ Wants table (named_bodies statements) class param s
