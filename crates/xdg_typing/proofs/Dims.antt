-- What the dimensions that are made have.
use Rattle.std.proofs.Common.{◌≡◌, ℕ, ◌+◌, ◌<◌, List, [], ◌∷◌, ◌++◌, length, take, get_or, map, Some, add-one, ap, sym, ◌∙◌, refl, subst, append-nil}
use Rattle.std.specs.Prelude.{slice_get}
use Rattle.std.proofs.Math.Seq.{take-suc}
use Rattle.std.proofs.lemmas.Grind.{flat_map-append}
use Rattle.xdg_ast.specs.declared.grammar.StatementKind.{StatementKind}
use Rattle.xdg_ast.specs.declared.grammar.StatementKind.TheVariants as v
use Rattle.xdg_ast.specs.declared.names.Name.{Name}
use Rattle.xdg_ast.specs.declared.names.Pair.{Pair}
use Rattle.xdg_ast.specs.declared.types.TypeKind.TheVariants as y
use Rattle.xdg_types.specs.declared.table.DimType.{DimType}
use Rattle.xdg_types.specs.Written.{tree}
use Rattle.xdg_types.specs.Parts.{TypeTerm, DimPart, Statement, Dimension, dimension, dimensions}
use Rattle.xdg_types.specs.Meaning.{meaning, fields_meaning, as_domain}
use Rattle.xdg_typing.specs.Heads.{IsHeadOf}
use Rattle.xdg_types.specs.Table.{typed_fields, fields_in, first_meaning, IsDim, AreDims}
use Rattle.xdg_typing.specs.Branches.{Naming, field_meaning, attribute_meaning}
use Rattle.xdg_types.proofs.Treed.{members, tree_rec}

-- ---- fields

module _ (names : Naming) where
  typed_are : (ps : List (Pair TypeTerm)) → map (field_meaning names) ps ≡ typed_fields (fields_meaning names (members ps))
  typed_are [] = refl
  typed_are (p ∷ ps) = ap (λ fs. field_meaning names p ∷ fs) (typed_are ps)

  first_is : (types : List TypeTerm) (ty : TypeTerm) → Some ty ≡ slice_get types 0 → meaning names (tree ty.kind) ≡ first_meaning names types
  first_is [] ty h = absurd cc
  first_is (t ∷ ts) ty h = let e : ty ≡ t = cc in ap (λ (u : TypeTerm). meaning names (tree u.kind)) e

  pub features_are : (types : List TypeTerm) (ty head : TypeTerm) (all written : List (Pair TypeTerm)) → Some ty ≡ slice_get types 0 → IsHeadOf names ty.kind head.kind → head.kind ≡ y.Rec all → written ≡ all
      → map (field_meaning names) written ≡ fields_in (first_meaning names types)
  features_are types ty head all written first leads is same =
      ap (map (field_meaning names)) same ∙ typed_are all ∙ ap fields_in (sym (ap (meaning names) (ap tree is ∙ tree_rec all)) ∙ leads.0 ∙ first_is types ty first)

  each_domain : (ps : List (Pair TypeTerm)) → map (attribute_meaning names) ps ≡ map (λ one. (one.0, as_domain one.1)) (map (field_meaning names) ps)
  each_domain [] = refl
  each_domain (p ∷ ps) = ap (λ fs. attribute_meaning names p ∷ fs) (each_domain ps)

  pub attributes_are : (types : List TypeTerm) (ty head : TypeTerm) (all written : List (Pair TypeTerm)) → Some ty ≡ slice_get types 0 → IsHeadOf names ty.kind head.kind → head.kind ≡ y.Rec all → written ≡ all
      → map (attribute_meaning names) written ≡ map (λ one. (one.0, as_domain one.1)) (fields_in (first_meaning names types))
  attributes_are types ty head all written first leads is same = each_domain written ∙ ap (map (λ one. (one.0, as_domain one.1))) (features_are types ty head all written first leads is same)

  -- ---- dimensions

  dims_append : (ds es : List Dimension) (ms ns : List DimType) → AreDims names ds ms → AreDims names es ns → AreDims names (ds ++ es) (ms ++ ns)
  dims_append [] es [] ns h k = k
  dims_append (d ∷ ds) es (m ∷ ms) ns h k = (h.0, dims_append ds es ms ns h.1 k)
  dims_append _ es _ ns h k = absurd h

  pub dims_more : (ss : List Statement) (i : ℕ) (s : Statement) (all made next : List DimType) → i < length ss → s ≡ get_or ss i s → AreDims names (dimension s.kind) made → next ≡ all ++ made
      → AreDims names (dimensions (take i ss)) all → AreDims names (dimensions (take (i + 1) ss)) next
  dims_more ss i s all made next within at here grown before =
      let front : take (i + 1) ss ≡ take i ss ++ s ∷ [] = rw add-one (take-suc ss i s within ∙ ap (λ z. take i ss ++ z ∷ []) (sym at)) in
      let parts : dimensions (take i ss ++ s ∷ []) ≡ dimensions (take i ss) ++ dimension s.kind = flat_map-append (λ (z : Statement). dimension z.kind) (take i ss) (s ∷ []) ∙ ap (λ ds. dimensions (take i ss) ++ ds) (append-nil (dimension s.kind)) in
      subst (λ ds. AreDims names ds next) (sym (ap dimensions front ∙ parts)) (subst (AreDims names (dimensions (take i ss) ++ dimension s.kind)) (sym grown) (dims_append (dimensions (take i ss)) (dimension s.kind) all made before here))

  pub dim_added : (ss : List Statement) (i : ℕ) (s : Statement) (name : Name) (parts written : List DimPart) (all pushed next : List DimType) (made : DimType) → i < length ss → s ≡ get_or ss i s → s.kind ≡ v.DefDim name parts → written ≡ parts
      → IsDim names (name, written) made → pushed ≡ all ++ made ∷ [] → next ≡ pushed → AreDims names (dimensions (take i ss)) all → AreDims names (dimensions (take (i + 1) ss)) next
  dim_added ss i s name parts written all pushed next made within at is same here grown last before =
      dims_more ss i s all (made ∷ []) next within at (subst (λ kind. AreDims names (dimension kind) (made ∷ [])) (sym is) (subst (λ (ps : List DimPart). IsDim names (name, ps) made) same here, tt)) (last ∙ grown) before

  no_dimension : (kind : StatementKind) → ((name : Name) (parts : List DimPart) → kind ≡ v.DefDim name parts → ⊥) → dimension kind ≡ []
  no_dimension (v.DefDim name parts) h = absurd (h name parts refl)
  no_dimension other h = refl

  pub dim_passed : (ss : List Statement) (i : ℕ) (s : Statement) (all next : List DimType) → i < length ss → s ≡ get_or ss i s → ((name : Name) (parts : List DimPart) → s.kind ≡ v.DefDim name parts → ⊥)
      → next ≡ all → AreDims names (dimensions (take i ss)) all → AreDims names (dimensions (take (i + 1) ss)) next
  dim_passed ss i s all next within at other last before =
      dims_more ss i s all [] next within at (subst (λ ds. AreDims names ds []) (sym (no_dimension s.kind other)) tt) (last ∙ sym (append-nil all)) before
