-- What a find tells of the solutions of its round, and what no find does.
use Rattle.std.proofs.Common.{◌≡◌, ◌∙◌, ℕ, inl, inr, true, false, List, ◌∷◌, length, refl, take, sym, ap, subst, eq-eqb}
use Rattle.std.specs.Prelude.{filter}
use Rattle.std.proofs.lemmas.Bool.{ltb-false}
use Rattle.std.proofs.lemmas.List.{take_all}
use Rattle.xdg_best.specs.Rounds.{Finds, FindsNone}
use Rattle.xdg_facts.specs.Fits.{Fits}
use Rattle.xdg_facts.specs.Order.{Less}
use Rattle.xdg_facts.specs.Whole.{is_whole}
use Rattle.xdg_facts.proofs.Ordered.{less_irreflexive, less_transitive}
use Rattle.xdg_facts.proofs.Unique.{rises_above, behind_item}
use Rattle.xdg_problem.specs.declared.analysis.Analysis.{Analysis}
use Rattle.xdg_problem.specs.declared.parts.Parts.{Parts}
use Rattle.xdg_problem.specs.Analyses.{IsAnalysis}
use Rattle.xdg_problem.specs.Problems.{IsProblem}
use Rattle.xdg_problem.specs.Solutions.{IsSolution}
use Rattle.xdg_problem.specs.Vectors.{shape, vector}
use Rattle.xdg_problem.proofs.OneToOne.{one_to_one}
use Rattle.xdg_rules.specs.Boxed.{Boxed}
use Rattle.xdg_rules.proofs.RuleLaws.{boxed_laws}
use Rattle.xdg_facts.proofs.In.{in_right, in_around}
use Rattle.xdg_facts.proofs.Each.{each_in}
use Rattle.xdg_facts.proofs.Filters.{no_member}

-- the vector of an analysis is whole
pub vector_whole : (parts : Parts) → IsProblem parts → (a : Analysis) → IsAnalysis parts a → is_whole (shape parts) (vector parts a) ≡ true
vector_whole parts is a fits = eq-eqb (length (vector parts a)) (length (shape parts)) ((one_to_one parts is).whole a fits)

module _ (parts : Parts) (is : IsProblem parts) (start : List ℕ) (budget : ℕ) where
  pub find_solves : (a : Analysis) (k : ℕ) → Finds parts start budget a k → IsSolution parts a
  find_solves a k f =
      let one = one_to_one parts is in
      let stands = each_in (λ x. Fits (shape parts) x × Boxed parts x) _ (vector parts a) f.counted.each (in_right f.before (vector parts a ∷ f.behind) (vector parts a) (inl refl)) in
      subst (IsSolution parts) (one.forth a f.fits) (((boxed_laws parts is).whole (vector parts a) stands.0 (one.whole a f.fits)).0 stands.1)

  -- no solution stands between the start and the find
  pub find_first : (a : Analysis) (k : ℕ) → Finds parts start budget a k → (other : Analysis) → IsSolution parts other → Less start (vector parts other) → Less (vector parts other) (vector parts a) → ⊥
  find_first a k f other solution after before =
      let one = one_to_one parts is in
      let stands = f.counted.all (vector parts other) (one.fits other solution.fits) ((boxed_laws parts is).solutions other solution) after in
      elim (in_around f.before (vector parts a) f.behind (vector parts other) stands) [
        | inl m ↦ no_member (is_whole (shape parts)) f.before (vector parts other) f.first m (vector_whole parts is other solution.fits)
        | inr m ↦ elim m [
          | inl e ↦ less_irreflexive (vector parts a) (subst (λ z. Less z (vector parts a)) (sym e) before)
          | inr n ↦ less_irreflexive (vector parts a) (less_transitive (vector parts a) (vector parts other) (vector parts a) (rises_above (vector parts a) (vector parts other) f.behind (behind_item start f.before (vector parts a) f.behind f.counted.rises) n) before)
        ]
      ]

  -- where there is no find and nothing is left, no solution stands behind the start
  pub none_solves : FindsNone parts start budget false → (other : Analysis) → IsSolution parts other → Less start (vector parts other) → ⊥
  none_solves f other solution after =
      let one = one_to_one parts is in
      let stands = f.counted_are.all (vector parts other) (one.fits other solution.fits) ((boxed_laws parts is).solutions other solution) after in
      let whole : take budget f.counted ≡ f.counted = take_all budget f.counted (ltb-false budget (length f.counted) (sym f.spent_is)) in
      no_member (is_whole (shape parts)) f.counted (vector parts other) (sym (ap (filter (is_whole (shape parts))) whole) ∙ f.none) stands (vector_whole parts is other solution.fits)
