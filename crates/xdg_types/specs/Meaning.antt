-- What written types mean.
use Rattle.std.specs.Prelude.{◌≡◌, ℕ, List, []}
use Rattle.xdg_domain.specs.Shapes.{Shape, domain, tuple, truth, integer, text, set, iset, card, valency, mapping, fields, Shapes, no_shape, shape_then, Fields, no_field, field_then}
use Rattle.xdg_types.specs.Written.{Tree, nothing, listed, recorded, tupled, set_of, iset_of, valency_of, map_of, a_card, a_bool, an_int, a_string, named, Trees, no_tree, tree_then, Members, no_member, member_then, tree}
use Rattle.xdg_types.specs.Parts.{Statement, Definition, definitions, defined_names}
use Rattle.xdg_facts.specs.Membership.{In}
use Rattle.xdg_ast.specs.Texts.{texts}

-- empty braces are the domain without constants where a domain is wanted, and else the record without fields
abbrev pub as_domain : Shape → Shape
as_domain (fields no_field) = domain []
as_domain s = s

-- what a type means where the names of types mean this
abbrev mutual
  pub meaning : (List ℕ → Shape) → Tree → Shape
  meaning names nothing = fields no_field
  meaning names (listed constants) = domain (texts constants)
  meaning names (recorded ms) = fields (fields_meaning names ms)
  meaning names (tupled ts) = tuple (domains_meaning names ts)
  meaning names (set_of at t) = set (as_domain (meaning names t))
  meaning names (iset_of at t) = iset (as_domain (meaning names t))
  meaning names (valency_of at t) = valency (as_domain (meaning names t))
  meaning names (map_of at t there u) = mapping (as_domain (meaning names t)) (meaning names u)
  meaning names a_card = card
  meaning names a_bool = truth
  meaning names an_int = integer
  meaning names a_string = text
  meaning names (named name) = names name.text

  pub domains_meaning : (List ℕ → Shape) → Trees → Shapes
  domains_meaning names no_tree = no_shape
  domains_meaning names (tree_then at t ts) = shape_then (as_domain (meaning names t)) (domains_meaning names ts)

  pub fields_meaning : (List ℕ → Shape) → Members → Fields
  fields_meaning names no_member = no_field
  fields_meaning names (member_then name at t ms) = field_then name.text (meaning names t) (fields_meaning names ms)

-- The names mean what their definitions say. A name that no definition has means `bool`; no right grammar has one.
pub record Resolves (statements : List Statement) (names : List ℕ → Shape) : Type 0 where
  pub defined : (d : Definition) → In (definitions statements) d → names d.name.text ≡ meaning names (tree d.body.kind)
  pub undefined : (name : List ℕ) → (In (texts (defined_names statements)) name → ⊥) → names name ≡ truth

-- The type is no name, or a name that means `bool` since no definition has it.
abbrev pub IsHead : (List ℕ → Shape) → Tree → Type 0
IsHead names (named name) = names name.text ≡ truth
IsHead names _ = Unit {0}
