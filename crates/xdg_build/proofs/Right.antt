-- The compiled principle uses are right over parts that suit them.
use Rattle.std.proofs.Common.{◌≡◌, ℕ, ◌<◌, Bool, true, List, [], length, get_or, map, filter, refl, sym, ap, ap₂, ◌∙◌, subst, arith}
use Rattle.std.specs.Prelude.{All, flat_map, Result, Ok, Err, IfOk}
use Rattle.std.proofs.lemmas.List.{get_or_default}
use Rattle.std.proofs.lemmas.List.Elements.{All-map}
use Rattle.xdg_base.specs.declared.ids.AttrId.{AttrId}
use Rattle.xdg_base.specs.declared.ids.DimId.{DimId}
use Rattle.xdg_base.specs.declared.ids.EntryNo.{EntryNo}
use Rattle.xdg_base.specs.declared.ids.LabelId.{LabelId}
use Rattle.xdg_packed.specs.Entries.{IsRightLexicon, IsEntry}
use Rattle.xdg_principles.specs.declared.building.Arg.{Arg}
use Rattle.xdg_principles.specs.declared.building.PrincipleUse.{PrincipleUse}
use Rattle.xdg_principles.specs.Typed.{IsTypedUse}
use Rattle.xdg_problem.specs.declared.parts.Feat.{Feat}
use Rattle.xdg_problem.specs.declared.parts.Group.{Group}
use Rattle.xdg_problem.specs.declared.parts.Parts.{Parts}
use Rattle.xdg_problem.specs.declared.parts.Principle.{Principle}
use Rattle.xdg_problem.specs.Problems.{IsGroup}
use Rattle.xdg_build.specs.Grammars.{Grammar, is_used, place_of_used}
use Rattle.xdg_build.specs.Groups.{attrs_in, labels_in, truths_in, features_in, dims_of, group_of, groups_of}
use Rattle.xdg_build.specs.Known.{features_dim}
use Rattle.xdg_build.specs.Rows.{features_by_number}
use Rattle.xdg_build.specs.Suits.{Suits}
use Rattle.xdg_build.proofs.Dimensions.{below_at}
use Rattle.xdg_build.proofs.Forms.{which_within}
use Rattle.xdg_packed.proofs.OfTable.{entry_at}
use Rattle.xdg_build.proofs.Taken.{dim_id, group_right}
use Rattle.xdg_facts.specs.Membership.{In}
use Rattle.xdg_facts.proofs.In.{in_get, in_filter}
use Rattle.xdg_problem.specs.Principles.{feature_dim}

pub groups_right : (g : Grammar) (candidates : List (List EntryNo)) (parts : Parts) (uses : List PrincipleUse) → ((u : PrincipleUse) → In uses u → IsTypedUse g.table u) → IsRightLexicon g.table g.lexicon.entries → All (All (λ entry. entry.0 < length g.lexicon.entries)) candidates
    → Suits g candidates parts → All (IsGroup parts) (map (group_of g candidates) (filter (λ u. is_used g.table u.home) uses))
groups_right g candidates parts uses typed_all lexicon within suits =
    let used_ones : List PrincipleUse = filter (λ u. is_used g.table u.home) uses in
    All-map (IsGroup parts) (group_of g candidates) used_ones (λ k d less.
    let is = in_filter (λ u. is_used g.table u.home) uses (get_or used_ones k d) (in_get used_ones k d less) in
    group_right g candidates parts (get_or used_ones k d) (typed_all (get_or used_ones k d) is.0) is.1 suits lexicon within)

-- ---- what the code asks

-- the dimension of a use's features stands in every entry
pub wide : (g : Grammar) (u : PrincipleUse) (dim : ℕ) → IsTypedUse g.table u → is_used g.table u.home ≡ true → IsRightLexicon g.table g.lexicon.entries → dim ≡ features_dim g u → All (λ entry. dim < length entry) g.lexicon.entries
wide g u dim typed_so used lexicon is n d less = subst (λ x. dim < length x) (get_or_default g.lexicon.entries n [] d less) (omega (arith, is, below, entry.count))
  where
    place : ℕ
    place = get_or u.dims (feature_dim u.principle) 0

    below : features_dim g u < length g.table.used
    below = below_at g.table u typed_so used place (in_get u.dims (feature_dim u.principle) 0 (omega (arith, typed_so.count, which_within u.principle)))

    entry : IsEntry g.table (get_or g.lexicon.entries n [])
    entry = entry_at g.table g.lexicon.entries n _ lexicon.entries less refl

-- the group that was made of its parts
pub made_group : (g : Grammar) (candidates : List (List EntryNo)) (u : PrincipleUse) (q : Principle) (dims places : List ℕ) (args : List Arg) (used : List ℕ) (dim : ℕ)
    (made : List DimId) (attrs : List AttrId) (order : List LabelId) (truths : List Bool) (feats : List (List (List Feat)))
    → q ≡ u.principle → used ≡ g.table.used → dims ≡ u.dims → args ≡ u.args → dim ≡ features_dim g u
    → made ≡ map (λ k. dim_id (place_of_used used k)) dims → attrs ≡ flat_map attrs_in args → order ≡ flat_map labels_in args → truths ≡ flat_map truths_in args → places ≡ flat_map features_in args
    → feats ≡ map (features_by_number g.lexicon.entries dim places) candidates
    → ◌≡◌ {A = Group} (record { principle = q; dims = made; attrs = attrs; order = order; truths = truths; feats = feats }) (group_of g candidates u)
made_group g candidates u q dims places args used dim made attrs order truths feats e_q e_used e_dims e_args e_dim e_made e_attrs e_order e_truths e_places e_feats =
    let a : made ≡ dims_of g u = e_made ∙ ap₂ (λ us ds. map (λ k. dim_id (place_of_used us k)) ds) e_used e_dims in
    let b : attrs ≡ flat_map attrs_in u.args = e_attrs ∙ ap (flat_map attrs_in) e_args in
    let c : order ≡ flat_map labels_in u.args = e_order ∙ ap (flat_map labels_in) e_args in
    let f : truths ≡ flat_map truths_in u.args = e_truths ∙ ap (flat_map truths_in) e_args in
    let h : feats ≡ (group_of g candidates u).feats =
    e_feats ∙ ap₂ (λ n ks. map (features_by_number g.lexicon.entries n ks) candidates) e_dim (e_places ∙ ap (flat_map features_in) e_args) in
    λ i. record { principle = e_q i; dims = a i; attrs = b i; order = c i; truths = f i; feats = h i }

pub if_made : {E : Type 0} (g : Grammar) (candidates : List (List EntryNo)) (uses : List PrincipleUse) (r : Result (List Group) E) → uses ≡ g.uses → IfOk r (λ made. made ≡ map (group_of g candidates) (filter (λ u. is_used g.table u.home) uses))
    → ((parts : Parts) → Suits g candidates parts → All (IsGroup parts) (groups_of g candidates)) → IfOk r (λ made. (parts : Parts) → Suits g candidates parts → All (IsGroup parts) made)
if_made g candidates uses (Ok made) same h right_all = λ parts suits. subst (All (IsGroup parts)) (sym (h ∙ ap (λ us. map (group_of g candidates) (filter (λ u. is_used g.table u.home) us)) same)) (right_all parts suits)
if_made g candidates uses (Err e) same h right_all = tt
