-- What a principle use and an analysis say in words of the grammar: dimensions by their places among all, arguments by their keys,
-- labels by their names, and values by their constants, as the types of the grammar list them.
use Rattle.std.specs.Prelude.{◌≡◌, ℕ, ◌+◌, ◌*◌, ◌==◌, cond, bytes_eq, List, [], ◌∷◌, length, filter, get_or, slice_get, Contains, Option, None, Some, MatchOption}
use Rattle.xdg_domain.specs.Shapes.{Shape, domain, tuple, text, set, iset, valency, mapping}
use Rattle.xdg_domain.specs.Valencies.{said_at}
use Rattle.xdg_domain.specs.declared.values.Value.{Value, out-Value}
use Rattle.xdg_domain.specs.declared.values.Value.TheOpen.{Value-F}
use Rattle.xdg_packed.specs.Lexicon.{Record, Entry}
use Rattle.xdg_problem.specs.declared.analysis.Analysis.{Analysis}
use Rattle.xdg_problem.specs.declared.analysis.Edge.{Edge}
use Rattle.xdg_terms.specs.Means.{tuple_texts}
use Rattle.xdg_types.specs.declared.table.DimType.{DimType}
use Rattle.xdg_types.specs.Table.{Typed, typed}
use Rattle.xdg_principles.specs.declared.building.Arg.{Arg}
use Rattle.xdg_principles.specs.declared.building.Arg.TheVariants as arg
use Rattle.xdg_principles.specs.declared.building.PrincipleUse.{PrincipleUse}
use Rattle.xdg_problem.specs.declared.forms.Parameter.{Parameter}
use Rattle.xdg_problem.specs.Forms.{form_of, parameters, key_text}
use Rattle.xdg_build.specs.Grammars.{Grammar}
use Rattle.xdg_formula.specs.Tables.{no_dim}

-- ---- values of types

-- the constants of the value with that number: the one of a domain, those of a tuple field by field
abbrev pub value_texts : Shape → ℕ → List (List ℕ)
value_texts (domain cs) n = get_or cs n [] ∷ []
value_texts (tuple ss) n = tuple_texts ss n
value_texts s n = []

-- the value with these constants is in a set
abbrev pub IsMember : Shape → Value-F Value → List (List ℕ) → Type 0
IsMember (set s) (Value-F.Set ns) texts = (n : ℕ) × Contains ns n × (value_texts s n ≡ texts)
IsMember (iset s) (Value-F.Set ns) texts = (n : ℕ) × Contains ns n × (value_texts s n ≡ texts)
IsMember s v texts = ⊥

-- the value with these constants is in the set that a map has at a key
abbrev pub IsMemberAt : Shape → Value-F Value → List ℕ → List (List ℕ) → Type 0
IsMemberAt (mapping (domain keys) s) (Value-F.Map m) key texts =
    (k : ℕ) × (v : Value) × (slice_get keys k ≡ Some key) × (said_at m k ≡ Some v) × IsMember s (out-Value v) texts
IsMemberAt s v key texts = ⊥

-- the number is one of the cardinality that a valency has at a key
abbrev pub IsAllowedAt : Shape → Value-F Value → List ℕ → ℕ → Type 0
IsAllowedAt (valency (domain keys)) (Value-F.Valency m) key number =
    (k : ℕ) × (numbers : List ℕ) × (slice_get keys k ≡ Some key) × (said_at m k ≡ Some numbers) × Contains numbers number
IsAllowedAt s v key number = ⊥

-- ---- the arguments of a use

-- the argument under a key: there is one for each parameter, in the order of the table of principles
abbrev pub argument_among : List Parameter → List Arg → List ℕ → Option Arg
argument_among (p ∷ ps) (x ∷ xs) key = cond (bytes_eq (key_text p.key) key) (Some x) (argument_among ps xs key)
argument_among _ _ key = None

abbrev pub argument : PrincipleUse → List ℕ → Option Arg
argument u key = argument_among (parameters (form_of u.principle)) u.args key

-- the place of a feature, or of an attribute, among those of its dimension
abbrev pub feature_place : Option Arg → Option ℕ
feature_place (Some (arg.Feature k)) = Some k
feature_place _ = None

abbrev pub attribute_place : Option Arg → Option ℕ
attribute_place (Some (arg.Attr k)) = Some k
attribute_place _ = None

-- the places of labels among those of their dimension
abbrev pub label_places : Option Arg → List ℕ
label_places (Some (arg.Labels ks)) = ks
label_places _ = []

-- ---- dimensions

-- the dimension with that place among all
abbrev pub dimension : Grammar → ℕ → DimType
dimension g k = get_or g.table.dims k no_dim

-- the type of the feature or the attribute with that place
abbrev pub type_at : Typed → ℕ → Shape
type_at all k = (get_or all k ([], text)).1

-- the name of the label with that number
abbrev pub label_text : Grammar → ℕ → ℕ → List ℕ
label_text g k l = get_or (dimension g k).labels l []

-- ---- analyses

-- the edges of an analysis on the dimension with that place among all: an edge names a used one
abbrev pub edges_in : Grammar → Analysis → ℕ → List Edge
edges_in g a k = filter (λ e. get_or g.table.used e.dim.0 0 == k) a.edges

-- what an entry says of a dimension: it has a record for each used one, in their order
abbrev pub record_for : List ℕ → Entry → ℕ → Record
record_for (j ∷ used) (r ∷ entry) k = cond (j == k) r (record_for used entry k)
record_for _ _ k = []

-- the entry of the lexicon that a node has
abbrev pub entry_at : Grammar → Analysis → ℕ → Entry
entry_at g a v = get_or g.lexicon.entries (get_or a.entries v (record { 0 = 0 })).0 []

-- what it says for the feature with that place of a dimension
abbrev pub said_for : Grammar → Analysis → ℕ → ℕ → ℕ → Option Value
said_for g a k v place = said_at (record_for g.table.used (entry_at g a v) k) place

-- what holds of the type of the feature with that place, and of the value that a node's entry says for it
abbrev pub OnFeature : Grammar → Analysis → ℕ → ℕ → Option ℕ → (Shape → Value-F Value → Type 0) → Type 0
OnFeature g a k v None P = ⊥
OnFeature g a k v (Some place) P =
    MatchOption (said_for g a k v place) ⊥ (λ x. P (type_at (typed (dimension g k).fields) place) (out-Value x))

-- How many values of attributes stand before those of a dimension: each used one has, for each of n nodes, a value for each of
-- its attributes.
abbrev pub values_before : Grammar → ℕ → List ℕ → ℕ → ℕ
values_before g n [] k = 0
values_before g n (j ∷ used) k = cond (j == k) 0 (n * length (dimension g j).attrs + values_before g n used k)

-- the number of the value that a node has for the attribute with that place of a dimension
abbrev pub value_number : Grammar → ℕ → Analysis → ℕ → ℕ → ℕ → ℕ
value_number g n a k v place = get_or a.attrs (values_before g n g.table.used k + (v * length (dimension g k).attrs + place)) 0

-- its constants
abbrev pub value_of : Grammar → ℕ → Analysis → ℕ → ℕ → Option ℕ → List (List ℕ)
value_of g n a k v None = []
value_of g n a k v (Some place) = value_texts (type_at (typed (dimension g k).attrs) place) (value_number g n a k v place)
