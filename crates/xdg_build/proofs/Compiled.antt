-- What the formulas that are made say: what the rules say of which they are made.
use Rattle.std.proofs.Common.{◌≡◌, ℕ, Bool, List, [], ◌∷◌, ◌++◌, get_or, map, Some, refl, sym, ap, ◌∙◌, subst, arith}
use Rattle.std.specs.Prelude.{All, slice_get}
use Rattle.std.proofs.lemmas.List.Elements.{All-head, All-tail}
use Rattle.std.proofs.lemmas.Option.{get_or_from_slice_get}
use Rattle.xdg_ast.specs.declared.names.Name.{Name}
use Rattle.xdg_ast.specs.Grammar.{Term}
use Rattle.xdg_domain.specs.Shapes.{Shape, domain, tuple, set, iset, text, shape, IsSmall, IsType}
use Rattle.xdg_domain.specs.declared.types.Ty.{Ty}
use Rattle.xdg_packed.specs.Lexicon.{Lexicon}
use Rattle.xdg_problem.specs.declared.formula.Formula.{Formula}
use Rattle.xdg_problem.specs.declared.formula.Formula.TheVariants as y
use Rattle.xdg_problem.specs.declared.parts.Parts.{Parts}
use Rattle.xdg_problem.specs.Claims.{claim, claims_of}
use Rattle.xdg_problem.specs.Problems.{IsProblem}
use Rattle.xdg_problem.specs.Truths.{unbound}
use Rattle.xdg_problem.proofs.Claimed.{claim_and, claim_or, claim_every, claim_any, claim_edge, claim_above, claim_left, claim_same, claim_attr, claim_feat}
use Rattle.xdg_types.specs.declared.table.DimType.{DimType}
use Rattle.xdg_types.specs.Table.{Table, IsTable, KeepsDim, firsts, typed}
use Rattle.xdg_formula.specs.Formulas.{edge_faults, dim_faults, attr_faults, feat_faults, faults_in, faults_each, formula_faults, unbound_nodes}
use Rattle.xdg_formula.specs.Formulas as faults
use Rattle.xdg_formula.specs.Tables.{member_shape, no_dim, used_dims}
use Rattle.xdg_formula.specs.declared.tree.Rule.{Rule}
use Rattle.xdg_formula.specs.Rules.{RuleTerm}
use Rattle.xdg_formula.specs.Written as w
use Rattle.xdg_formula.specs.Written.{Trees, no_tree, tree_then, tree, trees_of}
use Rattle.xdg_formula.specs.declared.tree.RuleKind.{RuleKind}
use Rattle.xdg_formula.proofs.Treed.{treed}
use Rattle.xdg_build.specs.Formulas.{formula_in, formulas_in, formulas_of, member_number, number_of, place_or_zero}
use Rattle.xdg_build.specs.Places.{names_at}
use Rattle.xdg_build.specs.Problems.{IsFor}
use Rattle.xdg_build.specs.Readings.{type_at}
use Rattle.xdg_build.specs.Right.{IsRight}
use Rattle.xdg_build.specs.Says.{Keeps, KeepsEach, Says}
use Rattle.xdg_build.specs.Tables.{table_of}
use Rattle.xdg_build.proofs.AtomLaws.{typed_at, says_left, says_same, says_above, says_edge, says_attr}
use Rattle.xdg_build.proofs.FeatLaws.{says_feat}
use Rattle.xdg_build.proofs.FormulaLaws.{SaysEach, says_none, says_then, says_conjunction, says_disjunction, says_signed, says_every, says_any}
use Rattle.xdg_build.proofs.Numbers.{number_right}
use Rattle.xdg_build.proofs.Planned.{attribute_right, feature_right}
use Rattle.xdg_build.proofs.Rightly.{attr_right, binding_right, each_right, edge_dim, dim_right, feat_right, members_by, node_at}
use Rattle.xdg_build.proofs.Standing.{IsDimAt, dim_of, text_at}
use Rattle.xdg_build.proofs.Used.{used_is, dim_kept}
use Rattle.xdg_facts.proofs.Fronts.{first_none, second_none}

-- ---- what code makes

pub each_made : (table : Table) (lexicon : Lexicon) (parts : Parts) (scope : List (List ℕ)) (members : List RuleTerm) → formulas_in table lexicon parts scope (trees_of (map treed members)) ≡ map (λ term. formula_in table lexicon parts scope (tree term.kind)) members
each_made table lexicon parts scope [] = refl
each_made table lexicon parts scope (first ∷ more) = ap (λ (fs : List Formula). formula_in table lexicon parts scope (tree first.kind) ∷ fs) (each_made table lexicon parts scope more)

-- of the form that it has
pub made_by : (table : Table) (lexicon : Lexicon) (parts : Parts) (scope : List (List ℕ)) (kind form : RuleKind) (t : w.Tree) (f : Formula) → kind ≡ form → tree form ≡ t → f ≡ formula_in table lexicon parts scope t → f ≡ formula_in table lexicon parts scope (tree kind)
made_by table lexicon parts scope kind form t f is trees made = made ∙ ap (formula_in table lexicon parts scope) (sym (ap tree is ∙ trees))

pub right_by : (dims : List DimType) (scope : List (List ℕ)) (kind form : RuleKind) (t : w.Tree) → IsRight dims scope (tree kind) → kind ≡ form → tree form ≡ t → IsRight dims scope t
right_by dims scope kind form t right is trees = subst (IsRight dims scope) (ap tree is ∙ trees) right

pub items_right : (dims : List DimType) (scope : List (List ℕ)) (members items : List RuleTerm) → faults_each dims scope (trees_of (map treed members)) ≡ [] → items ≡ members → All (λ term. IsRight dims scope (tree term.kind)) items
items_right dims scope members items none same = subst (All (λ (term : RuleTerm). IsRight dims scope (tree term.kind))) (sym same) (each_right dims scope members none)

pub attr_made : (table : Table) (lexicon : Lexicon) (parts : Parts) (scope : List (List ℕ)) (node dim attribute : Name) (value : Term) (m d i n : ℕ) (found : DimType) (lent : List (List ℕ × Ty))
    → m ≡ place_or_zero scope node.text → d ≡ place_or_zero (names_at table.dims table.used) dim.text → found ≡ get_or (used_dims table) d no_dim → lent ≡ found.attrs → i ≡ place_or_zero (firsts lent) attribute.text
    → n ≡ number_of (type_at (typed lent) i) value → y.Attr m (record { 0 = d }) (record { 0 = i }) n ≡ formula_in table lexicon parts scope (w.attr node dim attribute value)
attr_made table lexicon parts scope node dim attribute value m d i n found lent e_m e_d e_found e_lent e_i e_n = rw (e_m, e_n, e_i, e_lent, e_found, e_d) refl

pub feat_made : (table : Table) (lexicon : Lexicon) (parts : Parts) (scope : List (List ℕ)) (node dim feature : Name) (value : Term) (m d i n : ℕ) (found : DimType) (lent : List (List ℕ × Ty)) (made : List (List Bool))
    → m ≡ place_or_zero scope node.text → d ≡ place_or_zero (names_at table.dims table.used) dim.text → found ≡ get_or (used_dims table) d no_dim → lent ≡ found.fields → i ≡ place_or_zero (firsts lent) feature.text
    → n ≡ member_number (member_shape (type_at (typed lent) i)) value → made ≡ table_of lexicon.entries parts.candidates d i n → y.Feat m made ≡ formula_in table lexicon parts scope (w.feat node dim feature value)
feat_made table lexicon parts scope node dim feature value m d i n found lent made e_m e_d e_found e_lent e_i e_n e_made = rw (e_m, e_made, e_n, e_i, e_lent, e_found, e_d) refl

-- ---- types

pub shape_at : (all : List (List ℕ × Ty)) (i : ℕ) (name : List ℕ) (type : Ty) → slice_get all i ≡ Some (name, type) → type_at (typed all) i ≡ shape type
shape_at all i name type stands = ap (λ (one : List ℕ × Shape). one.1) (get_or_from_slice_get (typed all) i (name, shape type) ([], text) (typed_at all i name type stands))

pub member_small : (s of : Shape) → member_shape s ≡ Some of → IsType s → IsSmall of
member_small (domain cs) of h type = subst IsSmall (let e : domain cs ≡ of = cc in e) type
member_small (tuple ss) of h type = subst IsSmall (let e : tuple ss ≡ of = cc in e) type
member_small (set s) of h type = subst IsSmall (let e : s ≡ of = cc in e) type
member_small (iset s) of h type = subst IsSmall (let e : s ≡ of = cc in e) type
member_small other of h type = absurd (cc)

-- ---- what is made says what was written

module _ (table : Table) (lexicon : Lexicon) (parts : Parts) (is : IsTable table) (for_it : IsFor table lexicon parts) (problem : IsProblem parts) where
  abbrev dims : List DimType
  dims = used_dims table

  abbrev number : Name → ℕ
  number dim = place_or_zero (names_at table.dims table.used) dim.text

  abbrev MadeSays : List (List ℕ) → w.Tree → Type 0
  MadeSays scope t = Says table lexicon parts scope t (claim (formula_in table lexicon parts scope t))

  same_dim : (dim : Name) → IsDimAt table dim.text (number dim) → get_or dims (number dim) no_dim ≡ dim_of table dim.text
  same_dim dim at = used_is table lexicon is (number dim) at.within

  mutual
    made_says : (scope : List (List ℕ)) (place : ℕ) (t : w.Tree) → faults_in dims scope place t ≡ [] → MadeSays scope t
    made_says scope place (w.negation signs at t) right = says_signed table lexicon parts scope signs at t (formula_in table lexicon parts scope t) (made_says scope at t right)
    made_says scope place (w.conjunction ts) right = rw claim_and (says_conjunction table lexicon parts scope ts _ (each_says scope ts right))
    made_says scope place (w.disjunction ts) right = rw claim_or (says_disjunction table lexicon parts scope ts _ (each_says scope ts right))
    made_says scope place (w.every name at t) right =
        let free = binding_right dims scope place name at t right in
        rw claim_every (says_every table lexicon parts scope name free.fresh at t _ (made_says (scope ++ name.text ∷ []) free.inside.0 t free.inside.1))
    made_says scope place (w.any name at t) right =
        let free = binding_right dims scope place name at t right in
        rw claim_any (says_any table lexicon parts scope name free.fresh at t _ (made_says (scope ++ name.text ∷ []) free.inside.0 t free.inside.1))
    made_says scope place (w.edge dim mother label daughter) right =
        let at = edge_dim table scope dim mother label daughter (place, right) in
        let nodes : unbound_nodes scope mother daughter ≡ [] = second_none (edge_faults dims dim label) _ right in
        rw (same_dim dim at.0, claim_edge) (says_edge table lexicon parts is for_it scope dim (number dim) at.0 mother label daughter _ _ _ (node_at scope mother (first_none _ _ nodes)) (text_at _ label.text at.1) (node_at scope daughter (second_none (faults.unbound scope mother) _ nodes)))
    made_says scope place (w.above dim upper lower) right =
        let at = dim_right table dim (λ found. []) (first_none _ (unbound_nodes scope upper lower) right) in
        let nodes : unbound_nodes scope upper lower ≡ [] = second_none (dim_faults dims dim) _ right in
        rw claim_above (says_above table lexicon parts is for_it scope dim (number dim) at.0 upper lower _ _ (node_at scope upper (first_none _ _ nodes)) (node_at scope lower (second_none (faults.unbound scope upper) _ nodes)))
    made_says scope place (w.left one other) right =
        rw claim_left (says_left table lexicon parts scope one other _ _ (node_at scope one (first_none _ _ right)) (node_at scope other (second_none (faults.unbound scope one) _ right)))
    made_says scope place (w.same one other) right =
        rw claim_same (says_same table lexicon parts scope one other _ _ (node_at scope one (first_none _ _ right)) (node_at scope other (second_none (faults.unbound scope one) _ right)))
    made_says scope place (w.attr node dim attribute value) right =
        let m = attr_right table scope node dim attribute value (place, right) in
        let all = (dim_of table dim.text).attrs in
        let i : ℕ = place_or_zero (firsts all) attribute.text in
        let kept : KeepsDim (dim_of table dim.text) = dim_kept table lexicon is (number dim) m.dim_at.within in
        let small = (attribute_right (typed all) i attribute.text (shape m.type) kept.attributes (typed_at all i attribute.text m.type m.stands)).0 in
        let meant = number_right (shape m.type) value small m.right in
        rw (same_dim dim m.dim_at, claim_attr, shape_at all i attribute.text m.type m.stands)
        (says_attr table lexicon parts is for_it scope dim (number dim) m.dim_at node attribute value _ i _ m.type (node_at scope node (first_none _ (attr_faults dims dim attribute value) right)) m.stands meant.0 meant.1)
    made_says scope place (w.feat node dim feature value) right =
        let m = feat_right table scope node dim feature value (place, right) in
        let of = members_by feature value (member_shape (shape m.type)) m.right in
        let all = (dim_of table dim.text).fields in
        let i : ℕ = place_or_zero (firsts all) feature.text in
        let kept : KeepsDim (dim_of table dim.text) = dim_kept table lexicon is (number dim) m.dim_at.within in
        let type = feature_right (typed all) i feature.text (shape m.type) kept.features (typed_at all i feature.text m.type m.stands) in
        let meant = number_right of.0 value (member_small (shape m.type) of.0 of.1 type) of.2 in
        rw (same_dim dim m.dim_at, claim_feat, shape_at all i feature.text m.type m.stands, of.1)
        (says_feat table lexicon parts problem is for_it scope dim (number dim) m.dim_at feature value i (number_of of.0 value) m.type of.0 m.stands of.1 meant.0 meant.1 node _ (node_at scope node (first_none _ (feat_faults dims dim feature value) right)))

    each_says : (scope : List (List ℕ)) (ts : Trees) → faults_each dims scope ts ≡ [] → SaysEach table lexicon parts scope ts (claims_of (map claim (formulas_in table lexicon parts scope ts)))
    each_says scope no_tree right = says_none table lexicon parts scope
    each_says scope (tree_then at t ts) right =
        says_then table lexicon parts scope at t ts _ _ (made_says scope at t (first_none _ (faults_each dims scope ts) right)) (each_says scope ts (second_none (faults_in dims scope at t) _ right))

  -- ---- rules

  keeps : (rule : Rule) → formula_faults dims [] rule.body ≡ [] → Keeps table lexicon parts rule (formula_in table lexicon parts [] (tree rule.body.kind))
  keeps rule right =
      let says = made_says [] rule.body.span.start (tree rule.body.kind) right in
      record {
        suits = record { is_of = says.is_of; bound = says.bound [] (λ i l. absurd (omega (arith, l))) };
        same = λ a fits. says.same a fits (λ name. 0) unbound (λ i l. absurd (omega (arith, l)));
      }

  pub keeps_each : (rules : List Rule) → All (λ rule. formula_faults dims [] rule.body ≡ []) rules → KeepsEach table lexicon parts rules (formulas_of table lexicon parts rules)
  keeps_each [] right = tt
  keeps_each (rule ∷ rules) right =
      (keeps rule (All-head (λ (one : Rule). formula_faults dims [] one.body ≡ []) rule rules right), keeps_each rules (All-tail (λ (one : Rule). formula_faults dims [] one.body ≡ []) rule rules right))
