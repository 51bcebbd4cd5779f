-- What is wrong with a formula, form by form, as the first of a list of faults.
use Rattle.std.proofs.Common.{◌≡◌, ℕ, List, [], ◌∷◌, ◌++◌, map, Option, refl, sym, ap, ap₂, ◌∙◌}
use Rattle.std.specs.List.{flat_map}
use Rattle.xdg_base.specs.declared.faults.Fault.{Fault}
use Rattle.xdg_base.specs.declared.places.Span.{Span}
use Rattle.xdg_ast.specs.declared.names.Name.{Name}
use Rattle.xdg_ast.specs.Grammar.{Term}
use Rattle.xdg_names.specs.First.{first, earlier}
use Rattle.xdg_names.proofs.First.{first_append}
use Rattle.xdg_types.specs.declared.table.DimType.{DimType}
use Rattle.xdg_formula.specs.declared.tree.RuleKind.{RuleKind}
use Rattle.xdg_formula.specs.declared.tree.RuleKind.TheVariants as r
use Rattle.xdg_formula.specs.Rules.{RuleTerm}
use Rattle.xdg_formula.specs.Written.{Tree, tree, trees_of}
use Rattle.xdg_formula.proofs.Treed.{treed, tree_or, tree_and, tree_not, tree_every, tree_any, tree_edge, tree_above, tree_left, tree_same, tree_attr, tree_feat}
use Rattle.xdg_formula.specs.Formulas.{Bound, faults_in, faults_each, formula_faults, binding_faults, edge_faults, dim_faults, attr_faults, feat_faults, unbound, unbound_nodes}

-- what is wrong with the parts of a formula, one after another
each_listed : (dims : List DimType) (bound : Bound) (members : List RuleTerm) → faults_each dims bound (trees_of (map treed members)) ≡ flat_map (formula_faults dims bound) members
each_listed dims bound [] = refl
each_listed dims bound (term ∷ terms) = ap (λ fs. formula_faults dims bound term ++ fs) (each_listed dims bound terms)

module _ (dims : List DimType) (bound : Bound) (place : ℕ) (kind : RuleKind) where
  -- what is wrong with a form is wrong with the formula
  by_form : (form : RuleKind) (t : Tree) (fs : List Fault) (found : Option Fault) → kind ≡ form → tree form ≡ t → faults_in dims bound place t ≡ fs → found ≡ first fs → found ≡ first (faults_in dims bound place (tree kind))
  by_form form t fs found is trees listed told =
      told ∙ ap first (sym listed) ∙ ap (λ u. first (faults_in dims bound place u)) (sym trees) ∙ ap (λ k. first (faults_in dims bound place (tree k))) (sym is)

  -- of two parts
  both : (xs ys : List Fault) (a b found : Option Fault) → a ≡ first xs → b ≡ first ys → found ≡ earlier a b → found ≡ first (xs ++ ys)
  both xs ys a b found left right sum = sum ∙ ap₂ earlier left right ∙ sym (first_append xs ys)

  pub told_or : (members items : List RuleTerm) (found : Option Fault) → kind ≡ r.Or members → items ≡ members → found ≡ first (flat_map (formula_faults dims bound) items) → found ≡ first (faults_in dims bound place (tree kind))
  told_or members items found is same told =
      by_form (r.Or members) _ _ found is (tree_or members) (each_listed dims bound members) (told ∙ ap (λ ms. first (flat_map (formula_faults dims bound) ms)) same)

  pub told_and : (members items : List RuleTerm) (found : Option Fault) → kind ≡ r.And members → items ≡ members → found ≡ first (flat_map (formula_faults dims bound) items) → found ≡ first (faults_in dims bound place (tree kind))
  told_and members items found is same told =
      by_form (r.And members) _ _ found is (tree_and members) (each_listed dims bound members) (told ∙ ap (λ ms. first (flat_map (formula_faults dims bound) ms)) same)

  pub faults_not : (signs : List Span) (body item : RuleTerm) → kind ≡ r.Not signs body → item ≡ body → formula_faults dims bound item ≡ faults_in dims bound place (tree kind)
  faults_not signs body item is same =
      ap (formula_faults dims bound) same ∙ ap (faults_in dims bound place) (sym (tree_not signs body)) ∙ ap (λ k. faults_in dims bound place (tree k)) (sym is)

  -- the names that are bound inside a quantifier
  inside : (scope : Bound) (name : Name) (body item : RuleTerm) (b : Option Fault) → item ≡ body → scope ≡ bound ++ name.text ∷ [] → b ≡ first (formula_faults dims scope item) → b ≡ first (formula_faults dims (bound ++ name.text ∷ []) body)
  inside scope name body item b same scoped told = told ∙ ap₂ (λ (names : Bound) (term : RuleTerm). first (formula_faults dims names term)) scoped same

  pub told_every : (scope : Bound) (name : Name) (body item : RuleTerm) (a b found : Option Fault) → kind ≡ r.Every name body → item ≡ body → scope ≡ bound ++ name.text ∷ []
      → a ≡ first (binding_faults bound place name) → b ≡ first (formula_faults dims scope item) → found ≡ earlier a b → found ≡ first (faults_in dims bound place (tree kind))
  told_every scope name body item a b found is same scoped own inner sum =
      by_form (r.Every name body) _ _ found is (tree_every name body) refl (both (binding_faults bound place name) (formula_faults dims (bound ++ name.text ∷ []) body) a b found own (inside scope name body item b same scoped inner) sum)

  pub told_any : (scope : Bound) (name : Name) (body item : RuleTerm) (a b found : Option Fault) → kind ≡ r.Any name body → item ≡ body → scope ≡ bound ++ name.text ∷ []
      → a ≡ first (binding_faults bound place name) → b ≡ first (formula_faults dims scope item) → found ≡ earlier a b → found ≡ first (faults_in dims bound place (tree kind))
  told_any scope name body item a b found is same scoped own inner sum =
      by_form (r.Any name body) _ _ found is (tree_any name body) refl (both (binding_faults bound place name) (formula_faults dims (bound ++ name.text ∷ []) body) a b found own (inside scope name body item b same scoped inner) sum)

  pub told_edge : (dim mother label daughter : Name) (a b found : Option Fault) → kind ≡ r.Edge dim mother label daughter
      → a ≡ first (edge_faults dims dim label) → b ≡ first (unbound_nodes bound mother daughter) → found ≡ earlier a b → found ≡ first (faults_in dims bound place (tree kind))
  told_edge dim mother label daughter a b found is left right sum =
      by_form (r.Edge dim mother label daughter) _ _ found is (tree_edge dim mother label daughter) refl (both (edge_faults dims dim label) (unbound_nodes bound mother daughter) a b found left right sum)

  pub told_above : (dim upper lower : Name) (a b found : Option Fault) → kind ≡ r.Above dim upper lower
      → a ≡ first (dim_faults dims dim) → b ≡ first (unbound_nodes bound upper lower) → found ≡ earlier a b → found ≡ first (faults_in dims bound place (tree kind))
  told_above dim upper lower a b found is left right sum =
      by_form (r.Above dim upper lower) _ _ found is (tree_above dim upper lower) refl (both (dim_faults dims dim) (unbound_nodes bound upper lower) a b found left right sum)

  pub told_left : (one other : Name) (found : Option Fault) → kind ≡ r.Left one other → found ≡ first (unbound_nodes bound one other) → found ≡ first (faults_in dims bound place (tree kind))
  told_left one other found is told = by_form (r.Left one other) _ _ found is (tree_left one other) refl told

  pub told_same : (one other : Name) (found : Option Fault) → kind ≡ r.Same one other → found ≡ first (unbound_nodes bound one other) → found ≡ first (faults_in dims bound place (tree kind))
  told_same one other found is told = by_form (r.Same one other) _ _ found is (tree_same one other) refl told

  pub told_attr : (node dim attribute : Name) (value : Term) (a b found : Option Fault) → kind ≡ r.Attr node dim attribute value
      → a ≡ first (unbound bound node) → b ≡ first (attr_faults dims dim attribute value) → found ≡ earlier a b → found ≡ first (faults_in dims bound place (tree kind))
  told_attr node dim attribute value a b found is left right sum =
      by_form (r.Attr node dim attribute value) _ _ found is (tree_attr node dim attribute value) refl (both (unbound bound node) (attr_faults dims dim attribute value) a b found left right sum)

  pub told_feat : (node dim feature : Name) (value : Term) (a b found : Option Fault) → kind ≡ r.Feat node dim feature value
      → a ≡ first (unbound bound node) → b ≡ first (feat_faults dims dim feature value) → found ≡ earlier a b → found ≡ first (faults_in dims bound place (tree kind))
  told_feat node dim feature value a b found is left right sum =
      by_form (r.Feat node dim feature value) _ _ found is (tree_feat node dim feature value) refl (both (unbound bound node) (feat_faults dims dim feature value) a b found left right sum)
