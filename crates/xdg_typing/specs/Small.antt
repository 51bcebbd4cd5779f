-- How many parts the types of a grammar have together, names followed.
use Rattle.std.specs.Prelude.{ℕ, ◌≤◌, ◌+◌, List, [], ◌∷◌, flat_map}
use Rattle.xdg_ast.specs.declared.grammar.DimPartKind.{DimPartKind}
use Rattle.xdg_ast.specs.declared.grammar.DimPartKind.TheVariants as p
use Rattle.xdg_ast.specs.declared.grammar.StatementKind.{StatementKind}
use Rattle.xdg_ast.specs.declared.grammar.StatementKind.TheVariants as s
use Rattle.xdg_types.specs.Written.{tree}
use Rattle.xdg_types.specs.Parts.{TypeTerm, DimPart, Statement}
use Rattle.xdg_types.specs.Meaning.{meaning}
use Rattle.xdg_typing.specs.Weights.{parts}
use Rattle.xdg_facts.specs.Capped.{capped}
use Rattle.xdg_typing.specs.Branches.{Naming}

-- the type of labels, attributes or features that a part of a dimension gives
abbrev pub given : DimPartKind → List TypeTerm
given (p.LabelType type) = type ∷ []
given (p.AttrsType type) = type ∷ []
given (p.EntryType type) = type ∷ []
given _ = []

abbrev pub given_in : List DimPart → List TypeTerm
given_in parts = flat_map (λ part. given part.kind) parts

abbrev pub given_by : StatementKind → List TypeTerm
given_by (s.DefDim name parts) = given_in parts
given_by _ = []

-- those of all dimensions, in the order of the text
abbrev pub given_types : List Statement → List TypeTerm
given_types statements = flat_map (λ statement. given_by statement.kind) statements

-- how many parts these types have together
abbrev pub all_parts : Naming → List TypeTerm → ℕ
all_parts names [] = 0
all_parts names (type ∷ types) = parts (meaning names (tree type.kind)) + all_parts names types

abbrev pub weight_of_all : Naming → List TypeTerm → ℕ
weight_of_all names types = capped (all_parts names types)

-- The types of all dimensions have few enough parts together.
abbrev pub AreSmall : Naming → List Statement → Type 0
AreSmall names statements = all_parts names (given_types statements) ≤ 16777216
