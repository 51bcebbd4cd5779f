-- A problem stays one with further principle uses, and what its own uses ask stays the same.
use Rattle.std.proofs.Common.{◌≡◌, ◌↔◌, ℕ, ◌<◌, zero, suc, List, [], ◌∷◌, ◌++◌, length, map, refl, ◌∙◌}
use Rattle.std.specs.Prelude.{All, slice_index_or}
use Rattle.std.proofs.lemmas.List.{length-map}
use Rattle.std.proofs.lemmas.List.Elements.{All-map, All-nil, All-append, All-weaker}
use Rattle.xdg_base.specs.declared.ids.EntryNo.{EntryNo}
use Rattle.xdg_problem.specs.declared.analysis.Analysis.{Analysis}
use Rattle.xdg_problem.specs.declared.formula.Formula.{Formula}
use Rattle.xdg_problem.specs.declared.parts.Feat.{Feat}
use Rattle.xdg_problem.specs.declared.parts.Group.{Group}
use Rattle.xdg_problem.specs.declared.parts.Parts.{Parts}
use Rattle.xdg_problem.specs.declared.parts.Principle.{Principle}
use Rattle.xdg_problem.specs.declared.parts.Principle.TheVariants as principles
use Rattle.xdg_problem.specs.Analyses.{IsAnalysis}
use Rattle.xdg_problem.specs.Claims.{Suits}
use Rattle.xdg_problem.specs.Conditions.{conditions_of}
use Rattle.xdg_problem.specs.Costs.{CostLists}
use Rattle.xdg_problem.specs.Further.{no_features, use_of, with_uses}
use Rattle.xdg_problem.specs.Problems.{IsGroup, IsProblem, IsSuited}
use Rattle.xdg_problem.specs.Relations.{Relation}
use Rattle.xdg_problem.specs.Vectors.{entry_places}
use Rattle.xdg_problem.proofs.BranchAsks.{relation_alike}
use Rattle.xdg_problem.proofs.OtherTruths.{analysis_still}
use Rattle.xdg_problem.proofs.FurtherTruths.{suited_still, whole_still}
use Rattle.xdg_problem.specs.Principles.{dim_arguments, attr_arguments, truth_arguments, IsOrderFor, AreFeatures}
use Rattle.xdg_problem.specs.Arguments.{first_dim, label_count}

-- no features

abbrev nothing : EntryNo → List Feat
nothing entry = []

none_each : (candidates : List (List EntryNo)) (v : ℕ) → length (slice_index_or (no_features candidates) v []) ≡ length (slice_index_or candidates v [])
none_each [] v = refl
none_each (entries ∷ candidates) zero = length-map entries nothing
none_each (entries ∷ candidates) (suc v) = none_each candidates v

all_none : (entries : List EntryNo) → All (λ features. length features ≡ 0) (map nothing entries)
all_none entries = All-map (λ features. length features ≡ 0) nothing entries (λ k d l. refl)

none_at : (candidates : List (List EntryNo)) (v : ℕ) → All (λ features. length features ≡ 0) (slice_index_or (no_features candidates) v [])
none_at [] v = All-nil (λ features. length features ≡ 0)
none_at (entries ∷ candidates) zero = all_none entries
none_at (entries ∷ candidates) (suc v) = none_at candidates v

-- the uses of rules and bounds are uses

-- a use of a principle that takes nothing
bare_is : (parts : Parts) → IsProblem parts → (principle : Principle) → 0 ≡ dim_arguments principle → 0 ≡ attr_arguments principle → IsOrderFor principle (label_count parts (first_dim (use_of parts principle))) []
    → 0 ≡ truth_arguments principle
    → ((features : List Feat) → length features ≡ 0 → AreFeatures principle parts (use_of parts principle) features) → IsSuited principle parts → IsGroup parts (use_of parts principle)
bare_is parts is principle dims attrs order truths none suits = record {
  dims_count = dims;
  dims = All-nil (λ dim. dim.0 < length parts.dims);
  attrs_count = attrs;
  attrs = All-nil _;
  order = order;
  truths_count = truths;
  feats = length-map parts.candidates (map nothing) ∙ is.candidates_each;
  feats_each = λ v l. none_each parts.candidates v;
  features = λ v l. All-weaker (λ features. length features ≡ 0) (AreFeatures principle parts (use_of parts principle)) none (slice_index_or (no_features parts.candidates) v []) (none_at parts.candidates v);
  suits = suits;
}

pub rule_is : (parts : Parts) → IsProblem parts → (formula : Formula) → Suits parts formula → IsGroup parts (use_of parts (principles.Rule formula))
rule_is parts is formula suits = bare_is parts is (principles.Rule formula) refl refl refl refl (λ features none. none) suits

pub bound_is : (parts : Parts) → IsProblem parts → (costs : CostLists) (bound : ℕ) → IsGroup parts (use_of parts (principles.Bound costs bound))
bound_is parts is costs bound = bare_is parts is (principles.Bound costs bound) refl refl refl refl (λ features none. none) tt

module _ (parts : Parts) (uses : List Group) where
  -- the features that a principle takes are the same
  features_still : (principle : Principle) (group : Group) (features : List Feat) → AreFeatures principle parts group features → AreFeatures principle (with_uses parts uses) group features
  features_still principles.Graph group features are = are
  features_still principle group features are = are

  group_still : (group : Group) → IsGroup parts group → IsGroup (with_uses parts uses) group
  group_still group g = record {
    dims_count = g.dims_count;
    dims = g.dims;
    attrs_count = g.attrs_count;
    attrs = g.attrs;
    order = g.order;
    truths_count = g.truths_count;
    feats = g.feats;
    feats_each = g.feats_each;
    features = λ v l. All-weaker (AreFeatures group.principle parts group) (AreFeatures group.principle (with_uses parts uses) group) (features_still group.principle group) (slice_index_or group.feats v []) (g.features v l);
    suits = suited_still parts uses group.principle g.suits;
  }

  pub problem_still : IsProblem parts → All (IsGroup parts) uses → IsProblem (with_uses parts uses)
  problem_still is more = record {
    some = is.some;
    most = is.most;
    candidates_each = is.candidates_each;
    candidates = is.candidates;
    dims_most = is.dims_most;
    dims_differ = is.dims_differ;
    dims = is.dims;
    groups = All-weaker (IsGroup parts) (IsGroup (with_uses parts uses)) group_still (parts.groups ++ uses) (All-append (IsGroup parts) parts.groups uses is.groups more);
  }

  -- the same analyses fit

  pub fits_still : (analysis : Analysis) → IsAnalysis (with_uses parts uses) analysis ↔ IsAnalysis parts analysis
  fits_still analysis = (
    λ is. analysis_still (with_uses parts uses) parts.candidates parts.groups analysis is.entries is,
    λ is. analysis_still parts parts.candidates (parts.groups ++ uses) analysis is.entries is,
  )

  -- and a principle use asks the same
  pub relation_still : (group : Group) (analysis : Analysis) → Relation (with_uses parts uses) group analysis ↔ Relation parts group analysis
  relation_still group analysis =
      let entries = entry_places parts.candidates analysis.entries in
      relation_alike group.principle group.principle group group.feats group.feats (λ h c es u l v. (λ t. t, λ t. t)) parts parts.candidates parts.candidates
      (parts.groups ++ uses) parts.groups entries entries analysis.attrs analysis.edges (λ node argument label. refl)
      (whole_still parts uses entries analysis.attrs analysis.edges group.principle) (conditions_of group)
