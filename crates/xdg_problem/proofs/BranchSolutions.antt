-- The solutions of a branch are those of the problem that begin with its candidate.
use Rattle.std.proofs.Common.{◌≡◌, ◌↔◌, ℕ, ◌<◌, List, [], ◌∷◌, length, map, refl, sym, subst}
use Rattle.std.specs.Prelude.{All}
use Rattle.xdg_base.specs.declared.ids.EntryNo.{EntryNo}
use Rattle.xdg_problem.specs.declared.analysis.Analysis.{Analysis}
use Rattle.xdg_problem.specs.declared.analysis.Edge.{Edge}
use Rattle.xdg_problem.specs.declared.parts.Group.{Group}
use Rattle.xdg_problem.specs.declared.parts.Parts.{Parts}
use Rattle.xdg_problem.specs.declared.parts.Principle.{Principle}
use Rattle.xdg_problem.specs.declared.parts.Principle.TheVariants as principles
use Rattle.xdg_problem.specs.Analyses.{IsAnalysis}
use Rattle.xdg_problem.specs.Asking.{AsksWhole}
use Rattle.xdg_problem.specs.Branches.{BeginsAt, branch_group, branch_of, branch_principle, first_alone, first_candidates, no_entry}
use Rattle.xdg_problem.specs.BranchLaws.{BranchLaws}
use Rattle.xdg_problem.specs.Claims.{claim}
use Rattle.xdg_problem.specs.Conditions.{conditions_of}
use Rattle.xdg_problem.specs.Costs.{total_cost}
use Rattle.xdg_problem.specs.Problems.{IsProblem}
use Rattle.xdg_problem.specs.Relations.{IsKept, Relation}
use Rattle.xdg_problem.specs.Solutions.{IsSolution}
use Rattle.xdg_problem.specs.Truths.{IsTrueOf, unbound}
use Rattle.xdg_problem.specs.Vectors.{entries_at}
use Rattle.xdg_facts.proofs.Each.{all_mapped}
use Rattle.xdg_problem.proofs.BranchAsks.{alone_rows, branch_links, relation_alike}
use Rattle.xdg_problem.proofs.BranchParts.{branch_problem, same_column}
use Rattle.xdg_problem.proofs.BranchTruths.{claim_cut, true_cut}
use Rattle.xdg_problem.proofs.BranchVectors.{branch_entries, branch_fits, branch_order, branch_vectors}
use Rattle.xdg_problem.specs.Principles.{conditions_for}

module _ (parts : Parts) (place : ℕ) (is : IsProblem parts) (within : place < length (first_candidates parts)) where
  abbrev branch : Parts
  branch = branch_of parts place

  abbrev Kept : Parts → Analysis → Group → Type 0
  Kept of a group = Relation of group a

  same_entries : (candidates : List (List EntryNo)) (more : List ℕ) → entries_at (first_alone no_entry place candidates) (0 ∷ more) ≡ entries_at candidates (place ∷ more)
  same_entries [] more = refl
  same_entries (c ∷ candidates) more = refl

  whole_cut : (principle : Principle) (more attrs : List ℕ) (edges : List Edge) → AsksWhole (branch_principle place principle) branch (0 ∷ more) attrs edges ↔ AsksWhole principle parts (place ∷ more) attrs edges
  whole_cut (principles.Rule formula) more attrs edges = subst (λ c. IsTrueOf branch (0 ∷ more) attrs edges c unbound ↔ IsTrueOf parts (place ∷ more) attrs edges (claim formula) unbound) (sym (claim_cut place formula))
      (true_cut parts place more attrs edges (claim formula) unbound)
  whole_cut (principles.Bound costs most) more attrs edges = subst (λ es. (total_cost costs (entries_at (first_alone no_entry place parts.candidates) (0 ∷ more)) edges < most) ↔ (total_cost costs es edges < most))
      (same_entries parts.candidates more) (λ t. t, λ t. t)
  whole_cut principle more attrs edges = (λ t. t, λ t. t)

  branch_relation : (group : Group) (a : Analysis) → IsAnalysis branch a → Relation branch (branch_group place group) a ↔ Relation parts group a
  branch_relation group a fits =
      let differ = branch_entries parts place is within a fits in
      let alone = first_alone no_entry place parts.candidates in
      let feats = first_alone [] place group.feats in
      let asked = conditions_of group in
      let same = relation_alike (branch_principle place group.principle) group.principle group feats group.feats (branch_links group.principle place) parts alone parts.candidates
      (map (branch_group place) parts.groups) parts.groups (0 ∷ differ.more) (place ∷ differ.more) a.attrs a.edges
      (alone_rows group group.feats place differ.more) (whole_cut group.principle differ.more a.attrs a.edges) asked in
      subst (λ xs. All (IsKept branch (branch_group place group) xs a.attrs a.edges) (conditions_of (branch_group place group)) ↔ Relation parts group a) (sym differ.branch)
      (subst (λ xs. All (IsKept branch (branch_group place group) (0 ∷ differ.more) a.attrs a.edges) (conditions_of (branch_group place group)) ↔ All (IsKept parts group xs a.attrs a.edges) asked) (sym differ.whole)
      (subst (λ cs. All (IsKept branch (branch_group place group) (0 ∷ differ.more) a.attrs a.edges) cs ↔ All (IsKept parts group (place ∷ differ.more) a.attrs a.edges) asked)
      (sym (same_column (λ principle. conditions_for principle group.truths) (λ f g. refl) group.principle place)) same))

  all_relations : (groups : List Group) (a : Analysis) → IsAnalysis branch a → All (Kept branch a) (map (branch_group place) groups) ↔ All (Kept parts a) groups
  all_relations groups a fits = all_mapped (Kept branch a) (Kept parts a) (branch_group place) groups (λ group. branch_relation group a fits)

  branch_solutions : (a : Analysis) → IsSolution branch a ↔ (IsSolution parts a × BeginsAt parts place a)
  branch_solutions a = (
    λ s.
        let fits = (branch_fits parts place is within a).0 s.fits in
        (record { fits = fits.0; each = (all_relations parts.groups a s.fits).0 s.each }, fits.1),
    λ s.
        let fits = (branch_fits parts place is within a).1 (s.0.fits, s.1) in
        record { fits = fits; each = (all_relations parts.groups a fits).1 s.0.each },
  )

  pub branch_laws : BranchLaws parts place
  branch_laws = record {
    problem = branch_problem parts place is within;
    fits = branch_fits parts place is within;
    vectors = branch_vectors parts place is within;
    relations = branch_relation;
    solutions = branch_solutions;
    order = branch_order parts place is within;
  }
