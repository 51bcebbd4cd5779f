-- The offences of the names of a grammar as a list, in the order in which the code comes to them.
use Rattle.std.specs.Prelude.{ℕ, Bool, true, false, if◌then◌else◌, List, [], ◌∷◌, ◌++◌, map, flat_map, Option, None, Some}
use Rattle.xdg_base.specs.Faults.{fault_at}
use Rattle.xdg_base.specs.declared.faults.Cause.TheVariants as causes
use Rattle.xdg_base.specs.declared.faults.Fault.{Fault}
use Rattle.xdg_ast.specs.declared.names.Name.{Name}
use Rattle.xdg_ast.specs.declared.grammar.StatementKind.{StatementKind}
use Rattle.xdg_ast.specs.declared.grammar.DimPartKind.{DimPartKind}
use Rattle.xdg_typing.specs.declared.singles.Stood.{Stood}
use Rattle.xdg_types.specs.Written.{tree, uses, lists}
use Rattle.xdg_types.specs.Parts.{TypeTerm, DimPart, Statement, Dimension, dimension, dimensions, definition, definitions_in, dim_names, used_names, defined_names, in_parts, type_in}
use Rattle.xdg_types.specs.Names.{Single, the_labels, the_attributes, the_features, single}
use Rattle.xdg_types.specs.NameFaults.{unknown, repeats, different}

-- ---- where names stand

-- the names of the types that a part of a dimension defines
abbrev pub named_in : DimPartKind → List Name
named_in kind = map (λ d. d.name) (definition kind)

-- the names of the types that these parts define
abbrev pub named_by : List DimPart → List Name
named_by parts = map (λ d. d.name) (definitions_in parts)

-- the names of the types that a statement defines
abbrev pub defined_name : StatementKind → List Name
defined_name kind = map (λ d. d.name) (flat_map (λ dim. definitions_in dim.1) (dimension kind))

-- ---- types

-- in a type
abbrev pub in_type : List (List ℕ) → TypeTerm → List Fault
in_type known type = flat_map (unknown known) (uses (tree type.kind)) ++ flat_map (repeats []) (lists (tree type.kind))

-- ---- parts of a dimension

abbrev pub has_stood : Stood → Option Single → Bool
has_stood stood None = false
has_stood stood (Some the_labels) = stood.labels
has_stood stood (Some the_attributes) = stood.attributes
has_stood stood (Some the_features) = stood.features

abbrev pub with_part : Stood → Option Single → Stood
with_part stood None = stood
with_part stood (Some the_labels) = record { labels = true; attributes = stood.attributes; features = stood.features }
with_part stood (Some the_attributes) = record { labels = stood.labels; attributes = true; features = stood.features }
with_part stood (Some the_features) = record { labels = stood.labels; attributes = stood.attributes; features = true }

-- a part that may stand once and has stood
abbrev pub part_again : Stood → DimPart → List Fault
part_again stood part = if has_stood stood (single part.kind) then fault_at causes.Twice part.span.start ∷ [] else []

-- the parts that may stand once and stand again
abbrev pub parts_again : Stood → List DimPart → List Fault
parts_again stood [] = []
parts_again stood (part ∷ parts) = part_again stood part ++ parts_again (with_part stood (single part.kind)) parts

abbrev pub none_stood : Stood
none_stood = record { labels = false; attributes = false; features = false }

-- ---- all

-- in the parts of a dimension
abbrev pub in_definition : List (List ℕ) → List DimPart → List Fault
in_definition known parts = flat_map (in_type known) (in_parts type_in parts) ++ parts_again none_stood parts

abbrev pub in_dimension : List (List ℕ) → Dimension → List Fault
in_dimension known dim = in_definition known dim.1

-- all of them
abbrev pub name_faults : List Statement → List Fault
name_faults statements =
    flat_map (unknown (different (dim_names statements))) (used_names statements)
    ++ (repeats [] (dim_names statements)
    ++ (repeats [] (used_names statements)
    ++ (repeats [] (defined_names statements)
    ++ flat_map (in_dimension (different (defined_names statements))) (dimensions statements))))
