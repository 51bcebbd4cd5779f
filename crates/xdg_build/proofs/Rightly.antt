-- What is there where nothing is wrong.
use Rattle.std.proofs.Common.{◌≡◌, ◌≢◌, ℕ, Bool, true, false, List, [], ◌∷◌, ◌++◌, length, map, Option, None, Some, inl, refl, ap, ◌∙◌}
use Rattle.std.specs.Prelude.{◌==◌, All, if◌then◌else◌, slice_get}
use Rattle.std.specs.List.{flat_map}
use Rattle.std.proofs.lemmas.Bool.{eqb-false}
use Rattle.std.proofs.lemmas.List.Elements.{All-nil, All-cons}
use Rattle.xdg_base.specs.declared.faults.Cause.{Cause}
use Rattle.xdg_base.specs.declared.faults.Fault.{Fault}
use Rattle.xdg_ast.specs.declared.names.Name.{Name}
use Rattle.xdg_ast.specs.Grammar.{Term}
use Rattle.xdg_domain.specs.Shapes.{Shape, shape}
use Rattle.xdg_domain.specs.declared.types.Ty.{Ty}
use Rattle.xdg_terms.specs.Faults.{all_twice, missing}
use Rattle.xdg_terms.specs.Means.{IsAt}
use Rattle.xdg_types.specs.declared.table.DimType.{DimType}
use Rattle.xdg_types.specs.Table.{Table, dim_named, firsts}
use Rattle.xdg_formula.specs.Formulas.{under_name, in_dim, unbound, unbound_nodes, attr_faults, feat_faults, feature_faults, member_faults, value_faults, edge_faults, faults_in, faults_each, formula_faults, binding_faults, most_rules, names_of, nested, rules_faults, too_many}
use Rattle.xdg_formula.specs.Answers.{Offends}
use Rattle.xdg_formula.specs.Tables.{type_named, used_dims}
use Rattle.xdg_formula.specs.declared.tree.Rule.{Rule}
use Rattle.xdg_formula.specs.Rules.{RuleTerm}
use Rattle.xdg_formula.specs.Written as w
use Rattle.xdg_formula.specs.Written.{tree, trees_of}
use Rattle.xdg_formula.proofs.Treed.{treed}
use Rattle.xdg_build.specs.Formulas.{place_or_zero}
use Rattle.xdg_build.specs.Places.{names_at}
use Rattle.xdg_build.specs.Right.{IsRight}
use Rattle.xdg_build.proofs.Standing.{IsDimAt, dim_found, dim_of, text_at, type_found}
use Rattle.xdg_facts.specs.Membership.{In}
use Rattle.xdg_names.specs.Texts.{has_text}
use Rattle.xdg_facts.proofs.Fronts.{first_none, second_none}

-- ---- lists without a fault

if_none : (b : Bool) (f : Fault) → (if b then [] else f ∷ []) ≡ [] → b ≡ true
if_none true f h = refl
if_none false f h = absurd (cc)

unless_none : (b : Bool) (f : Fault) → (if b then f ∷ [] else []) ≡ [] → b ≡ false
unless_none true f h = absurd (cc)
unless_none false f h = refl

is_there : (cause : Cause) (texts : List (List ℕ)) (name : Name) → missing cause texts name ≡ [] → has_text texts name.text ≡ true
unfolding missing
is_there cause texts name h = if_none (has_text texts name.text) _ h

found_by : {A : Type 0} (name : Name) (o : Option A) (rule : A → List Fault) → under_name name o rule ≡ [] → (found : A) × (o ≡ Some found) × (rule found ≡ [])
found_by name None rule h = absurd (cc)
found_by name (Some found) rule h = (found, refl, h)

-- ---- names

pub node_at : (scope : List (List ℕ)) (node : Name) → unbound scope node ≡ [] → IsAt scope (place_or_zero scope node.text) node.text
node_at scope node h = text_at scope node.text (is_there _ scope node h)

-- a dimension, of which a rule finds nothing wrong
pub dim_right : (table : Table) (dim : Name) (rule : DimType → List Fault) → in_dim (used_dims table) dim rule ≡ []
    → IsDimAt table dim.text (place_or_zero (names_at table.dims table.used) dim.text) × (rule (dim_of table dim.text) ≡ [])
dim_right table dim rule h =
    let here = found_by dim (dim_named (used_dims table) dim.text) rule h in
    let at = dim_found table dim.text here.0 here.1 in
    (at.0, ap rule at.1 ∙ here.2)

-- an attribute or a feature of a dimension, of whose type a rule finds nothing wrong
pub record IsMemberAt (table : Table) (all : DimType → List (List ℕ × Ty)) (rule : Ty → List Fault) (dim name : Name) : Type 0 where
  pub dim_at : IsDimAt table dim.text (place_or_zero (names_at table.dims table.used) dim.text)
  pub type : Ty
  pub stands : slice_get (all (dim_of table dim.text)) (place_or_zero (firsts (all (dim_of table dim.text))) name.text) ≡ Some (name.text, type)
  pub right : rule type ≡ []

pub member_right : (table : Table) (all : DimType → List (List ℕ × Ty)) (rule : Ty → List Fault) (dim name : Name) → in_dim (used_dims table) dim (λ found. under_name name (type_named (all found) name.text) rule) ≡ []
    → IsMemberAt table all rule dim name
member_right table all rule dim name h =
    let at = dim_right table dim (λ found. under_name name (type_named (all found) name.text) rule) h in
    let here = found_by name (type_named (all (dim_of table dim.text)) name.text) rule at.1 in
    record { dim_at = at.0; type = here.0; stands = type_found (all (dim_of table dim.text)) name.text here.0 here.1; right = here.2 }

-- ---- atoms

module _ (table : Table) (scope : List (List ℕ)) where
  pub edge_dim : (dim mother label daughter : Name) → IsRight (used_dims table) scope (w.edge dim mother label daughter)
      → IsDimAt table dim.text (place_or_zero (names_at table.dims table.used) dim.text) × (has_text (dim_of table dim.text).labels label.text ≡ true)
  edge_dim dim mother label daughter right =
      let at = dim_right table dim (λ found. missing _ found.labels label) (first_none (edge_faults (used_dims table) dim label) (unbound_nodes scope mother daughter) right.1) in
      (at.0, is_there _ (dim_of table dim.text).labels label at.1)

  pub attr_right : (node dim attribute : Name) (value : Term) → IsRight (used_dims table) scope (w.attr node dim attribute value)
      → IsMemberAt table (λ one. one.attrs) (λ type. value_faults (shape type) value) dim attribute
  attr_right node dim attribute value right = member_right table (λ one. one.attrs) (λ type. value_faults (shape type) value) dim attribute (second_none (unbound scope node) (attr_faults (used_dims table) dim attribute value) right.1)

  pub feat_right : (node dim feature : Name) (value : Term) → IsRight (used_dims table) scope (w.feat node dim feature value)
      → IsMemberAt table (λ one. one.fields) (λ type. feature_faults feature value (shape type)) dim feature
  feat_right node dim feature value right = member_right table (λ one. one.fields) (λ type. feature_faults feature value (shape type)) dim feature (second_none (unbound scope node) (feat_faults (used_dims table) dim feature value) right.1)

-- of a feature a value of its type, or of its members
pub members_by : (feature : Name) (value : Term) (o : Option Shape) → member_faults feature value o ≡ [] → (of : Shape) × (o ≡ Some of) × (value_faults of value ≡ [])
members_by feature value None h = absurd (cc)
members_by feature value (Some of) h = (of, refl, h)

-- ---- formulas

module _ (dims : List DimType) (scope : List (List ℕ)) where
  pub record IsBindingRight (name : Name) (t : w.Tree) : Type 0 where
    pub fresh : has_text scope name.text ≡ false
    pub room : length scope ≢ 3
    pub inside : IsRight dims (scope ++ name.text ∷ []) t

  pub binding_right : (place : ℕ) (name : Name) (at : ℕ) (t : w.Tree) → binding_faults scope place name ++ faults_in dims (scope ++ name.text ∷ []) at t ≡ [] → IsBindingRight name t
  binding_right place name at t h =
      let own = first_none (binding_faults scope place name) (faults_in dims (scope ++ name.text ∷ []) at t) h in
      record {
        fresh = unless_none (has_text scope name.text) _ (second_none (nested scope place) _ own);
        room = eqb-false (length scope) 3 (unless_none (length scope == 3) _ (first_none (nested scope place) _ own));
        inside = (at, second_none (binding_faults scope place name) (faults_in dims (scope ++ name.text ∷ []) at t) h);
      }

  pub each_right : (members : List RuleTerm) → faults_each dims scope (trees_of (map treed members)) ≡ [] → All (λ term. IsRight dims scope (tree term.kind)) members
  each_right [] none = All-nil (λ (term : RuleTerm). IsRight dims scope (tree term.kind))
  each_right (first ∷ more) none =
      All-cons (λ (term : RuleTerm). IsRight dims scope (tree term.kind)) first more
      (first.span.start, first_none (formula_faults dims scope first) (faults_each dims scope (trees_of (map treed more))) none)
      (each_right more (second_none (formula_faults dims scope first) (faults_each dims scope (trees_of (map treed more))) none))

-- ---- rules

none_in : (fs : List Fault) → ((f : Fault) → In fs f → ⊥) → fs ≡ []
none_in [] nothing = refl
none_in (f ∷ fs) nothing = absurd (nothing f (inl refl))

bodies_right : (dims : List DimType) (rules : List Rule) → flat_map (λ (one : Rule). formula_faults dims [] one.body) rules ≡ [] → All (λ rule. formula_faults dims [] rule.body ≡ []) rules
bodies_right dims [] none = All-nil (λ (rule : Rule). formula_faults dims [] rule.body ≡ [])
bodies_right dims (one ∷ rules) none =
    let more = flat_map (λ (other : Rule). formula_faults dims [] other.body) rules in
    All-cons (λ (rule : Rule). formula_faults dims [] rule.body ≡ []) one rules (first_none (formula_faults dims [] one.body) more none) (bodies_right dims rules (second_none (formula_faults dims [] one.body) more none))

pub rules_right : (table : Table) (rules : List Rule) → ((f : Fault) → Offends table rules f → ⊥) → All (λ rule. formula_faults (used_dims table) [] rule.body ≡ []) rules
rules_right table rules nothing =
    let many = too_many (slice_get rules most_rules) in
    let names = all_twice [] (names_of rules) in
    let bodies = flat_map (λ (one : Rule). formula_faults (used_dims table) [] one.body) rules in
    let none : many ++ (names ++ bodies) ≡ [] = none_in (rules_faults table rules) nothing in
    bodies_right (used_dims table) rules (second_none names bodies (second_none many (names ++ bodies) none))
