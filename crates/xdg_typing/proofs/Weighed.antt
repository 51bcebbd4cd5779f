-- The weights of written types, form by form.
use Rattle.std.proofs.Common.{◌≡◌, ℕ, ◌≤◌, List, length, drop, sym, ap, ◌∙◌}
use Rattle.std.proofs.lemmas.List.{drop_all}
use Rattle.xdg_ast.specs.declared.names.Name.{Name}
use Rattle.xdg_ast.specs.declared.names.Pair.{Pair}
use Rattle.xdg_ast.specs.declared.types.TypeKind.{TypeKind}
use Rattle.xdg_ast.specs.declared.types.TypeKind.TheVariants as y
use Rattle.xdg_types.specs.Written.{tree}
use Rattle.xdg_types.specs.Parts.{TypeTerm}
use Rattle.xdg_types.proofs.Treed.{trees, members, tree_named, tree_domain, tree_set, tree_iset, tree_valency, tree_map, tree_tuple, tree_rec}
use Rattle.xdg_typing.specs.Weights.{weighed, beside_trees, beside_members, beside, held, of_constants}

module _ (at : Name → ℕ) where
  pub of_set : (t : TypeTerm) → weighed at (tree (y.Set t)) ≡ held (weighed at (tree t.kind))
  of_set t = ap (weighed at) (tree_set t)

  pub of_iset : (t : TypeTerm) → weighed at (tree (y.ISet t)) ≡ held (weighed at (tree t.kind))
  of_iset t = ap (weighed at) (tree_iset t)

  pub of_valency : (t : TypeTerm) → weighed at (tree (y.Valency t)) ≡ held (weighed at (tree t.kind))
  of_valency t = ap (weighed at) (tree_valency t)

  pub of_map : (t u : TypeTerm) → weighed at (tree (y.Map t u)) ≡ held (beside (weighed at (tree t.kind)) (weighed at (tree u.kind)))
  of_map t u = ap (weighed at) (tree_map t u)

  pub of_named : (name : Name) → weighed at (tree (y.Named name)) ≡ at name
  of_named name = ap (weighed at) (tree_named name)

  pub of_domain : (names : List Name) → weighed at (tree (y.Domain names)) ≡ of_constants (length names)
  of_domain names = ap (weighed at) (tree_domain names)

  -- ---- fields

  pub tuple_weighed : (kind : TypeKind) (ts items : List TypeTerm) (i : ℕ) (all : ℕ) → kind ≡ y.Tuple ts → items ≡ ts → length items ≤ i
      → beside_trees at all (trees (drop i items)) ≡ beside_trees at 0 (trees items) → held all ≡ weighed at (tree kind)
  tuple_weighed kind ts items i all is same past so_far =
      ap held (ap (λ (us : List TypeTerm). beside_trees at all (trees us)) (sym (drop_all i items past)) ∙ so_far ∙ ap (λ (us : List TypeTerm). beside_trees at 0 (trees us)) same)
      ∙ sym (ap (λ k. weighed at (tree k)) is ∙ ap (weighed at) (tree_tuple ts))

  pub record_weighed : (kind : TypeKind) (ps items : List (Pair TypeTerm)) (i : ℕ) (all : ℕ) → kind ≡ y.Rec ps → items ≡ ps → length items ≤ i
      → beside_members at all (members (drop i items)) ≡ beside_members at 0 (members items) → held all ≡ weighed at (tree kind)
  record_weighed kind ps items i all is same past so_far =
      ap held (ap (λ (qs : List (Pair TypeTerm)). beside_members at all (members qs)) (sym (drop_all i items past)) ∙ so_far ∙ ap (λ (qs : List (Pair TypeTerm)). beside_members at 0 (members qs)) same)
      ∙ sym (ap (λ k. weighed at (tree k)) is ∙ ap (weighed at) (tree_rec ps))

-- what each form of a type weighs
pub ruleset weight_steps = (of_set, of_iset, of_valency, of_map, of_named, of_domain)
