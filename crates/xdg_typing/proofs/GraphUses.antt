-- The uses that stand in types, form by form.
use Rattle.std.proofs.Common.{◌≡◌, ◌≤◌, ℕ, List, [], ◌∷◌, ◌++◌, length, take, flat_map, append_assoc, refl, sym, ap, ap₂, ◌∙◌}
use Rattle.std.proofs.lemmas.Grind.{flat_map-append}
use Rattle.std.proofs.lemmas.List.{append-nil, take_all}
use Rattle.xdg_ast.specs.declared.names.Name.{Name}
use Rattle.xdg_ast.specs.declared.names.Pair.{Pair}
use Rattle.xdg_ast.specs.declared.types.TypeKind.{TypeKind}
use Rattle.xdg_ast.specs.declared.types.TypeKind.TheVariants as y
use Rattle.xdg_names.specs.declared.graph.Use.{Use}
use Rattle.xdg_types.specs.Written.{tree, uses, uses_in_trees, uses_in_members, tupled, recorded}
use Rattle.xdg_types.specs.Parts.{TypeTerm}
use Rattle.xdg_types.specs.Graph.{use_of, uses_in}
use Rattle.xdg_types.proofs.Treed.{trees, members, tree_named, tree_set, tree_iset, tree_valency, tree_map, tree_tuple, tree_rec}

module _ (known : List (List ℕ)) where
  pub in_set : (t : TypeTerm) → uses_in known (tree (y.Set t)) ≡ uses_in known (tree t.kind)
  in_set t = ap (uses_in known) (tree_set t)

  pub in_iset : (t : TypeTerm) → uses_in known (tree (y.ISet t)) ≡ uses_in known (tree t.kind)
  in_iset t = ap (uses_in known) (tree_iset t)

  pub in_valency : (t : TypeTerm) → uses_in known (tree (y.Valency t)) ≡ uses_in known (tree t.kind)
  in_valency t = ap (uses_in known) (tree_valency t)

  pub in_map : (t u : TypeTerm) → uses_in known (tree (y.Map t u)) ≡ uses_in known (tree t.kind) ++ uses_in known (tree u.kind)
  in_map t u = ap (uses_in known) (tree_map t u) ∙ flat_map-append (use_of known) (uses (tree t.kind)) (uses (tree u.kind))

  pub in_named : (name : Name) → uses_in known (tree (y.Named name)) ≡ use_of known name
  in_named name = ap (uses_in known) (tree_named name) ∙ append-nil (use_of known name)

  all_fields : (ts : List TypeTerm) → uses_in known (tupled (trees ts)) ≡ flat_map (λ t. uses_in known (tree t.kind)) ts
  all_fields [] = refl
  all_fields (t ∷ ts) = flat_map-append (use_of known) (uses (tree t.kind)) (uses_in_trees (trees ts)) ∙ ap (λ us. uses_in known (tree t.kind) ++ us) (all_fields ts)

  pub in_tuple : (ts : List TypeTerm) → uses_in known (tree (y.Tuple ts)) ≡ flat_map (λ t. uses_in known (tree t.kind)) ts
  in_tuple ts = ap (uses_in known) (tree_tuple ts) ∙ all_fields ts

  all_pairs : (ps : List (Pair TypeTerm)) → uses_in known (recorded (members ps)) ≡ flat_map (λ p. uses_in known (tree p.value.kind)) ps
  all_pairs [] = refl
  all_pairs (p ∷ ps) = flat_map-append (use_of known) (uses (tree p.value.kind)) (uses_in_members (members ps)) ∙ ap (λ us. uses_in known (tree p.value.kind) ++ us) (all_pairs ps)

  pub in_record : (ps : List (Pair TypeTerm)) → uses_in known (tree (y.Rec ps)) ≡ flat_map (λ p. uses_in known (tree p.value.kind)) ps
  in_record ps = ap (uses_in known) (tree_rec ps) ∙ all_pairs ps

  -- ---- what the walk over a type adds

  pub walked_map : (kind : TypeKind) (k u key value : TypeTerm) (old made : List Use) → kind ≡ y.Map k u → key ≡ k → value ≡ u → made ≡ old ++ uses_in known (tree key.kind)
      → made ++ uses_in known (tree value.kind) ≡ old ++ uses_in known (tree kind)
  walked_map kind k u key value old made is at there front =
      let whole : uses_in known (tree kind) ≡ uses_in known (tree key.kind) ++ uses_in known (tree value.kind) =
      ap (λ x. uses_in known (tree x)) is ∙ in_map k u ∙ ap₂ (λ (a b : TypeTerm). uses_in known (tree a.kind) ++ uses_in known (tree b.kind)) (sym at) (sym there) in
      ap (λ us. us ++ uses_in known (tree value.kind)) front ∙ append_assoc old (uses_in known (tree key.kind)) (uses_in known (tree value.kind)) ∙ ap (λ us. old ++ us) (sym whole)

  pub walked_tuple : (kind : TypeKind) (ts items : List TypeTerm) (i : ℕ) (old made : List Use) → kind ≡ y.Tuple ts → items ≡ ts → length items ≤ i
      → made ≡ old ++ flat_map (λ t. uses_in known (tree t.kind)) (take i items) → made ≡ old ++ uses_in known (tree kind)
  walked_tuple kind ts items i old made is same past sum =
      let whole : uses_in known (tree kind) ≡ flat_map (λ t. uses_in known (tree t.kind)) items = ap (λ x. uses_in known (tree x)) is ∙ in_tuple ts ∙ ap (flat_map (λ t. uses_in known (tree t.kind))) (sym same) in
      sum ∙ ap (λ xs. old ++ flat_map (λ t. uses_in known (tree t.kind)) xs) (take_all i items past) ∙ ap (λ us. old ++ us) (sym whole)

  pub walked_record : (kind : TypeKind) (ps items : List (Pair TypeTerm)) (i : ℕ) (old made : List Use) → kind ≡ y.Rec ps → items ≡ ps → length items ≤ i
      → made ≡ old ++ flat_map (λ p. uses_in known (tree p.value.kind)) (take i items) → made ≡ old ++ uses_in known (tree kind)
  walked_record kind ps items i old made is same past sum =
      let whole : uses_in known (tree kind) ≡ flat_map (λ p. uses_in known (tree p.value.kind)) items = ap (λ x. uses_in known (tree x)) is ∙ in_record ps ∙ ap (flat_map (λ p. uses_in known (tree p.value.kind))) (sym same) in
      sum ∙ ap (λ xs. old ++ flat_map (λ p. uses_in known (tree p.value.kind)) xs) (take_all i items past) ∙ ap (λ us. old ++ us) (sym whole)

-- what each form of a type uses
pub ruleset use_steps = (in_set, in_iset, in_valency, in_map, in_named, in_tuple, in_record)
