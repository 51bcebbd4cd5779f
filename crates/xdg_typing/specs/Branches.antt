-- What the parts of written types mean, one by one.
use Rattle.std.specs.Prelude.{ℕ, List}
use Rattle.xdg_ast.specs.declared.names.Pair.{Pair}
use Rattle.xdg_domain.specs.Shapes.{Shape}
use Rattle.xdg_types.specs.Written.{tree}
use Rattle.xdg_types.specs.Parts.{TypeTerm}
use Rattle.xdg_types.specs.Meaning.{meaning, as_domain}

-- what each name of a type means
abbrev pub Naming : Type 0
Naming = List ℕ → Shape

-- a type where a domain is wanted
abbrev pub domain_meaning : Naming → TypeTerm → Shape
domain_meaning names t = as_domain (meaning names (tree t.kind))

-- a field with its name
abbrev pub field_meaning : Naming → Pair TypeTerm → List ℕ × Shape
field_meaning names p = (p.key.text, meaning names (tree p.value.kind))

-- a field where a domain is wanted
abbrev pub attribute_meaning : Naming → Pair TypeTerm → List ℕ × Shape
attribute_meaning names p = (p.key.text, as_domain (meaning names (tree p.value.kind)))
