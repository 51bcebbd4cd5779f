-- What is known once no type leads back to itself.
use Rattle.std.specs.Prelude.{◌≡◌, ℕ, ◌<◌, List, map, Result, Ok, Err, Some}
use Rattle.xdg_ast.specs.declared.names.Name.{Name}
use Rattle.xdg_base.specs.declared.faults.Stop.{Stop}
use Rattle.xdg_base.specs.declared.faults.Stop.TheVariants as stops
use Rattle.xdg_domain.specs.Shapes.{Shape}
use Rattle.xdg_names.specs.First.{Tells as TellsFault}
use Rattle.xdg_typing.specs.declared.definitions.Definitions.{Definitions}
use Rattle.xdg_types.specs.Written.{tree, uses}
use Rattle.xdg_types.specs.Parts.{TypeTerm, Statement, Definition, definitions, defined_names}
use Rattle.xdg_types.specs.Meaning.{Resolves}
use Rattle.xdg_typing.specs.Heads.{Knows}
use Rattle.xdg_types.specs.Answers.{CycleOffends, None_of}
use Rattle.xdg_facts.specs.Membership.{In}
use Rattle.xdg_ast.specs.Texts.{texts}

-- Each name of a type stands above those that its definition uses.
abbrev pub IsRanked : List Statement → (List ℕ → ℕ) → Type 0
IsRanked statements rank =
    (d : Definition) (u : Name) → In (definitions statements) d → In (uses (tree d.body.kind)) u → In (texts (defined_names statements)) u.text
    → rank u.text < rank d.name.text

-- What is known once the names are right and no type leads back to itself: what the names mean, which is one thing, and
-- that the types at the places of the names mean it.
pub record IsResolved (statements : List Statement) (known : List (List ℕ)) (heads : List TypeTerm) : Type 0 where
  pub acyclic : None_of (CycleOffends statements)
  pub names : List ℕ → Shape
  pub resolves : Resolves statements names
  pub only : (others : List ℕ → Shape) → Resolves statements others → (name : List ℕ) → others name ≡ names name
  pub rank : List ℕ → ℕ
  pub ranked : IsRanked statements rank
  pub knows : Knows names known heads

abbrev pub TellsResolved : List Statement → Result Definitions Stop → Type 0
TellsResolved statements (Ok made) = IsResolved statements made.names (map (λ head. head.now) made.heads.items)
TellsResolved statements (Err (stops.Fault f)) = TellsFault (CycleOffends statements) (Some f)
TellsResolved statements (Err stops.OutOfMemory) = Unit {0}
