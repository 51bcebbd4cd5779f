-- A branch of a problem is a problem.
use Rattle.std.proofs.Common.{◌≡◌, ℕ, ◌<◌, List, [], ◌∷◌, length, get_or, refl, sym, ◌∙◌, subst, arith}
use Rattle.std.proofs.lemmas.List.Elements.{All-nil, All-cons, All-map, All-weaker}
use Rattle.xdg_base.specs.declared.ids.EntryNo.{EntryNo}
use Rattle.xdg_base.specs.declared.ids.LabelId.{LabelId}
use Rattle.xdg_problem.specs.declared.formula.Formula.{Formula}
use Rattle.xdg_problem.specs.declared.parts.Feat.{Feat}
use Rattle.xdg_problem.specs.declared.parts.Group.{Group}
use Rattle.xdg_problem.specs.declared.parts.Parts.{Parts}
use Rattle.xdg_problem.specs.declared.parts.Principle.{Principle}
use Rattle.xdg_problem.specs.declared.parts.Principle.TheVariants as principles
use Rattle.xdg_problem.specs.Arguments.{first_dim, label_count}
use Rattle.xdg_problem.specs.Branches.{branch_formula, branch_group, branch_of, branch_principle, first_alone, first_candidates, no_entry}
use Rattle.xdg_problem.specs.Places.{nodes}
use Rattle.xdg_problem.specs.Problems.{AreCandidates, IsGroup, IsProblem, IsSuited}
use Rattle.xdg_problem.proofs.BranchLists.{each_alone, length_alone, members_alone, same_lengths}
use Rattle.xdg_problem.proofs.BranchTruths.{suits_cut}
use Rattle.xdg_problem.specs.Principles.{dim_arguments, attr_arguments, truth_arguments, IsOrderFor, AreFeatures}

one_candidate : (candidates : List EntryNo) (place : ℕ) → AreCandidates candidates → place < length candidates → AreCandidates (get_or candidates place no_entry ∷ [])
one_candidate candidates place are within = record {
  some = omega arith;
  most = omega arith;
  rising = λ i j d before inside. absurd (omega (arith, before, inside));
  small = All-cons (λ (entry : EntryNo). entry.0 < 4294967295) (get_or candidates place no_entry) [] (are.small place no_entry within) (All-nil (λ (entry : EntryNo). entry.0 < 4294967295));
}

-- what a principle takes is the same in a branch
pub same_column : {X : Type 0} (column : Principle → X) → ((f g : Formula) → column (principles.Rule f) ≡ column (principles.Rule g)) → (principle : Principle) (place : ℕ) → column (branch_principle place principle) ≡ column principle
same_column column rules (principles.Rule formula) place = rules (branch_formula place formula) formula
same_column column rules principle place = refl

same_order : (principle : Principle) (place labels : ℕ) (order : List LabelId) → IsOrderFor principle labels order → IsOrderFor (branch_principle place principle) labels order
same_order (principles.Rule formula) place labels order is = is
same_order principle place labels order is = is

same_features : (principle : Principle) (parts : Parts) (group : Group) (place : ℕ) (features : List Feat) → AreFeatures principle parts group features → AreFeatures (branch_principle place principle) (branch_of parts place) (branch_group place group) features
same_features (principles.Rule formula) parts group place features are = are
same_features principle parts group place features are = are

same_suits : (principle : Principle) (parts : Parts) (place : ℕ) → IsProblem parts → IsSuited principle parts → IsSuited (branch_principle place principle) (branch_of parts place)
same_suits (principles.Rule formula) parts place is suits = suits_cut parts place is formula suits
same_suits principle parts place is suits = tt

module _ (parts : Parts) (place : ℕ) (is : IsProblem parts) (within : place < length (first_candidates parts)) where
  branch_is_group : (group : Group) → IsGroup parts group → IsGroup (branch_of parts place) (branch_group place group)
  branch_is_group group g =
      let inside : place < length (get_or group.feats 0 []) = subst (λ n. place < n) (sym (g.feats_each 0 is.some)) within in
      record {
        dims_count = g.dims_count ∙ sym (same_column dim_arguments (λ f g. refl) group.principle place);
        dims = g.dims;
        attrs_count = g.attrs_count ∙ sym (same_column attr_arguments (λ f g. refl) group.principle place);
        attrs = g.attrs;
        order = same_order group.principle place (label_count parts (first_dim group)) group.order g.order;
        truths_count = g.truths_count ∙ sym (same_column truth_arguments (λ f g. refl) group.principle place);
        feats = length_alone [] place group.feats ∙ g.feats;
        feats_each = λ v l. same_lengths [] no_entry place group.feats parts.candidates v (g.feats ∙ sym is.candidates_each) (g.feats_each v l);
        features = λ v l. All-weaker (AreFeatures group.principle parts group) (AreFeatures (branch_principle place group.principle) (branch_of parts place) (branch_group place group)) (same_features group.principle parts group place) (get_or (first_alone [] place group.feats) v [])
            (members_alone (AreFeatures group.principle parts group) group.feats place (nodes parts) v is.some inside g.features l);
        suits = same_suits group.principle parts place is g.suits;
      }

  pub branch_problem : IsProblem (branch_of parts place)
  branch_problem = record {
    some = is.some;
    most = is.most;
    candidates_each = length_alone no_entry place parts.candidates ∙ is.candidates_each;
    candidates = each_alone AreCandidates no_entry place parts.candidates (one_candidate (first_candidates parts) place (is.candidates 0 [] (subst (λ n. 0 < n) (sym is.candidates_each) is.some)) within) is.candidates;
    dims_most = is.dims_most;
    dims_differ = is.dims_differ;
    dims = is.dims;
    groups = All-map (IsGroup (branch_of parts place)) (branch_group place) parts.groups (All-weaker (IsGroup parts) (λ group. IsGroup (branch_of parts place) (branch_group place group)) branch_is_group parts.groups is.groups);
  }
