-- What is wrong with rules where a table of types is given: a line for each thing that may be wrong.
use Rattle.std.specs.Prelude.{ℕ, ◌==◌, List, [], ◌∷◌, ◌++◌, length, map, slice_get, Option, Some, None, if◌then◌else◌}
use Rattle.std.specs.List.{flat_map}
use Rattle.xdg_base.specs.Faults.{fault_at}
use Rattle.xdg_base.specs.declared.faults.Cause.TheVariants as causes
use Rattle.xdg_base.specs.declared.faults.Fault.{Fault}
use Rattle.xdg_ast.specs.declared.names.Name.{Name}
use Rattle.xdg_domain.specs.declared.types.Ty.{Ty}
use Rattle.xdg_domain.specs.Shapes.{Shape, shape}
use Rattle.xdg_terms.specs.Faults.{missing, all_twice, faults}
use Rattle.xdg_terms.specs.Forms.{Term, with_open}
use Rattle.xdg_types.specs.declared.table.DimType.{DimType}
use Rattle.xdg_types.specs.Table.{Table, dim_named}
use Rattle.xdg_formula.specs.declared.tree.Rule.{Rule}
use Rattle.xdg_formula.specs.Rules.{RuleTerm}
use Rattle.xdg_formula.specs.Written.{Tree, negation, conjunction, disjunction, every, any, edge, above, left, same, attr, feat, Trees, no_tree, tree_then, tree}
use Rattle.xdg_formula.specs.Tables.{used_dims, type_named, member_shape}
use Rattle.xdg_names.specs.Texts.{has_text}

-- ---- names

-- the names of nodes that are bound, the inmost last
abbrev pub Bound : Type 0
Bound = List (List ℕ)

-- a node that isn't bound
abbrev pub unbound : Bound → Name → List Fault
unbound bound node = missing causes.UnknownName bound node

-- one of two
abbrev pub unbound_nodes : Bound → Name → Name → List Fault
unbound_nodes bound one other = unbound bound one ++ unbound bound other

-- what is looked for under a name: where there is no such thing, the name is unknown
abbrev pub under_name : {A : Type 0} → Name → Option A → (A → List Fault) → List Fault
under_name name None rule = fault_at causes.UnknownName name.span.start ∷ []
under_name name (Some found) rule = rule found

-- what is asked of a used dimension
abbrev pub in_dim : List DimType → Name → (DimType → List Fault) → List Fault
in_dim dims name rule = under_name name (dim_named dims name.text) rule

-- ---- values

-- a value where one of a type is wanted: its form, and its constants
abbrev pub value_faults : Shape → Term → List Fault
value_faults wanted value = faults (with_open []) wanted value

-- a value of a feature, whose type has to have single values or members
abbrev pub member_faults : Name → Term → Option Shape → List Fault
member_faults feature value None = fault_at causes.WrongKind feature.span.start ∷ []
member_faults feature value (Some wanted) = value_faults wanted value

abbrev pub feature_faults : Name → Term → Shape → List Fault
feature_faults feature value of = member_faults feature value (member_shape of)

-- ---- atoms

-- a dimension, and a label of it
abbrev pub edge_faults : List DimType → Name → Name → List Fault
edge_faults dims dim label = in_dim dims dim (λ found. missing causes.NotMember found.labels label)

abbrev pub dim_faults : List DimType → Name → List Fault
dim_faults dims dim = in_dim dims dim (λ found. [])

-- an attribute among these, and a value of it
abbrev pub attribute_faults : List (List ℕ × Ty) → Name → Term → List Fault
attribute_faults attrs attribute value = under_name attribute (type_named attrs attribute.text) (λ (type : Ty). value_faults (shape type) value)

-- a dimension, an attribute of it, and a value of that
abbrev pub attr_faults : List DimType → Name → Name → Term → List Fault
attr_faults dims dim attribute value = in_dim dims dim (λ found. attribute_faults found.attrs attribute value)

-- a feature among these, and a value of it
abbrev pub field_faults : List (List ℕ × Ty) → Name → Term → List Fault
field_faults fields feature value = under_name feature (type_named fields feature.text) (λ (type : Ty). feature_faults feature value (shape type))

-- a dimension, a feature of it, and a value of that
abbrev pub feat_faults : List DimType → Name → Name → Term → List Fault
feat_faults dims dim feature value = in_dim dims dim (λ found. field_faults found.fields feature value)

-- ---- quantifiers

-- how many quantifiers may stand open
abbrev pub most_open : ℕ
most_open = 3

-- the quantifier whose word stands at a place is the fourth that stands open
abbrev pub nested : Bound → ℕ → List Fault
nested bound place = if length bound == most_open then record { cause = causes.TooNested; at = place; reached = 4 } ∷ [] else []

-- the name is bound already
abbrev pub bound_again : Bound → Name → List Fault
bound_again bound name = if has_text bound name.text then fault_at causes.Twice name.span.start ∷ [] else []

abbrev pub binding_faults : Bound → ℕ → Name → List Fault
binding_faults bound place name = nested bound place ++ bound_again bound name

-- ---- formulas

abbrev mutual
  -- what is wrong with a formula that stands at a place, where these names are bound
  pub faults_in : List DimType → Bound → ℕ → Tree → List Fault
  faults_in dims bound place (negation signs at t) = faults_in dims bound at t
  faults_in dims bound place (conjunction ts) = faults_each dims bound ts
  faults_in dims bound place (disjunction ts) = faults_each dims bound ts
  faults_in dims bound place (every name at t) = binding_faults bound place name ++ faults_in dims (bound ++ name.text ∷ []) at t
  faults_in dims bound place (any name at t) = binding_faults bound place name ++ faults_in dims (bound ++ name.text ∷ []) at t
  faults_in dims bound place (edge dim mother label daughter) = edge_faults dims dim label ++ unbound_nodes bound mother daughter
  faults_in dims bound place (above dim upper lower) = dim_faults dims dim ++ unbound_nodes bound upper lower
  faults_in dims bound place (left first second) = unbound_nodes bound first second
  faults_in dims bound place (same first second) = unbound_nodes bound first second
  faults_in dims bound place (attr node dim attribute value) = unbound bound node ++ attr_faults dims dim attribute value
  faults_in dims bound place (feat node dim feature value) = unbound bound node ++ feat_faults dims dim feature value

  pub faults_each : List DimType → Bound → Trees → List Fault
  faults_each dims bound no_tree = []
  faults_each dims bound (tree_then at t ts) = faults_in dims bound at t ++ faults_each dims bound ts

-- what is wrong with a formula
abbrev pub formula_faults : List DimType → Bound → RuleTerm → List Fault
formula_faults dims bound term = faults_in dims bound term.span.start (tree term.kind)

-- ---- rules

-- how many rules a text may have
abbrev pub most_rules : ℕ
most_rules = 32

-- the rule behind the greatest number of them is one too many
abbrev pub too_many : Option Rule → List Fault
too_many None = []
too_many (Some rule) = record { cause = causes.TooManyRules; at = rule.at; reached = 33 } ∷ []

abbrev pub names_of : List Rule → List Name
names_of rules = map (λ rule. rule.name) rules

-- what is wrong with rules
abbrev pub rules_faults : Table → List Rule → List Fault
rules_faults table rules =
    too_many (slice_get rules most_rules) ++ (all_twice [] (names_of rules) ++ flat_map (λ rule. formula_faults (used_dims table) [] rule.body) rules)
