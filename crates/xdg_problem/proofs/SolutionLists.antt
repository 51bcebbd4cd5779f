-- The solutions in order are the analyses of the whole live vectors in order.
use Rattle.std.proofs.Common.{◌≡◌, ℕ, inl, inr, List, [], ◌∷◌, map, refl, sym, ap, ◌∙◌, subst}
use Rattle.std.specs.Prelude.{All, Contains}
use Rattle.std.specs.List.{AllByRecursion}
use Rattle.std.proofs.lemmas.List.Elements.{All-nil, All-cons, All-head, All-tail}
use Rattle.xdg_facts.specs.Order.{Less}
use Rattle.xdg_facts.specs.Fits.{Fits}
use Rattle.xdg_facts.specs.Listing.{RisesFrom, IsListing}
use Rattle.xdg_facts.specs.Whole.{Whole}
use Rattle.xdg_facts.proofs.Unique.{listing_unique}
use Rattle.xdg_problem.specs.declared.analysis.Analysis.{Analysis}
use Rattle.xdg_problem.specs.declared.parts.Parts.{Parts}
use Rattle.xdg_problem.specs.Vectors.{shape, vector, analysis_of}
use Rattle.xdg_problem.specs.Relations.{Relation}
use Rattle.xdg_problem.specs.Problems.{IsProblem}
use Rattle.xdg_problem.specs.Live.{Live}
use Rattle.xdg_problem.specs.Solutions.{IsSolution, SolutionsRise, IsSolutionList}
use Rattle.xdg_facts.proofs.Contained.{contains_head, contains_cases, contains_none}
use Rattle.xdg_problem.proofs.VectorFacts.{analysis_fits, vector_analysis, vector_fits, length_vector, analysis_vector}
use Rattle.xdg_problem.proofs.WholeTests.{whole_live, relations_live}
use Rattle.xdg_facts.proofs.Lists.{contains_more}
use Rattle.xdg_facts.specs.Membership.{In}

contains_mapped : (parts : Parts) (xs : List (List ℕ)) (x : List ℕ) → In xs x → Contains (map (analysis_of parts) xs) (analysis_of parts x)
contains_mapped parts [] x m = absurd m
contains_mapped parts (y ∷ ys) x (inl e) = subst (λ z. Contains (map (analysis_of parts) (y ∷ ys)) (analysis_of parts z)) e (contains_head (analysis_of parts y) (map (analysis_of parts) ys))
contains_mapped parts (y ∷ ys) x (inr m) = contains_more (analysis_of parts y) (map (analysis_of parts) ys) (analysis_of parts x) (contains_mapped parts ys x m)

member_mapped : (parts : Parts) (list : List Analysis) (a : Analysis) → Contains list a → In (map (vector parts) list) (vector parts a)
member_mapped parts [] a c = contains_none a c
member_mapped parts (b ∷ list) a c = elim (contains_cases b list a c) [ inl e ↦ inl (ap (vector parts) e) | inr later ↦ inr (member_mapped parts list a later) ]

vectors_rise : (parts : Parts) (after : List ℕ) (list : List Analysis) → SolutionsRise parts after list → RisesFrom after (map (vector parts) list)
vectors_rise parts after [] rises = tt
vectors_rise parts after (a ∷ list) rises = (rises.0, vectors_rise parts (vector parts a) list rises.1)

module _ (parts : Parts) (is : IsProblem parts) where
  -- the analysis of a whole live vector is a solution
  pub solution_of : (x : List ℕ) → Fits (shape parts) x → Whole (shape parts) (Live parts) x → IsSolution parts (analysis_of parts x)
  solution_of x fits whole = record {
    fits = analysis_fits parts x is fits whole.1;
    each = whole_live parts x is fits whole.1 whole.0;
  }

  -- the vector of a solution is whole and live
  pub vector_whole : (a : Analysis) → IsSolution parts a → Whole (shape parts) (Live parts) (vector parts a)
  vector_whole a solves =
      let fits = vector_fits parts a is solves.fits in
      let long = length_vector parts a is solves.fits in
      (relations_live parts (vector parts a) is fits long (subst (λ b. All (λ group. Relation parts group b) parts.groups) (sym (analysis_vector parts a is solves.fits)) solves.each), long)

  solutions_rise : (after : List ℕ) (xs : List (List ℕ)) → AllByRecursion (λ x. Fits (shape parts) x × Whole (shape parts) (Live parts) x) xs → RisesFrom after xs → SolutionsRise parts after (map (analysis_of parts) xs)
  solutions_rise after [] each rises = tt
  solutions_rise after (x ∷ xs) each rises =
      let back = sym (vector_analysis parts x is each.0.0 each.0.1.1) in
      (subst (Less after) back rises.0, subst (λ v. SolutionsRise parts v (map (analysis_of parts) xs)) back (solutions_rise x xs each.1 rises.1))

  solutions_each : (xs : List (List ℕ)) → AllByRecursion (λ x. Fits (shape parts) x × Whole (shape parts) (Live parts) x) xs → All (IsSolution parts) (map (analysis_of parts) xs)
  solutions_each [] each = All-nil (IsSolution parts)
  solutions_each (x ∷ xs) each = All-cons (IsSolution parts) (analysis_of parts x) (map (analysis_of parts) xs) (solution_of x each.0.0 each.0.1) (solutions_each xs each.1)

  pub solutions_of : (after : List ℕ) (xs : List (List ℕ)) → IsListing (shape parts) (Whole (shape parts) (Live parts)) after xs → IsSolutionList parts after (map (analysis_of parts) xs)
  solutions_of after xs listing = record {
    rises = solutions_rise after xs listing.each listing.rises;
    each = solutions_each xs listing.each;
    all = λ a solves above. subst (Contains (map (analysis_of parts) xs)) (analysis_vector parts a is solves.fits) (contains_mapped parts xs (vector parts a) (listing.all (vector parts a) (vector_fits parts a is solves.fits) (vector_whole a solves) above));
  }

  vectors_each : (list : List Analysis) → All (IsSolution parts) list → AllByRecursion (λ x. Fits (shape parts) x × Whole (shape parts) (Live parts) x) (map (vector parts) list)
  vectors_each [] each = tt
  vectors_each (a ∷ list) each =
      let solves = All-head (IsSolution parts) a list each in
      ((vector_fits parts a is solves.fits, vector_whole a solves), vectors_each list (All-tail (IsSolution parts) a list each))

  pub solution_listing : (after : List ℕ) (list : List Analysis) → IsSolutionList parts after list → IsListing (shape parts) (Whole (shape parts) (Live parts)) after (map (vector parts) list)
  solution_listing after list solutions = record {
    rises = vectors_rise parts after list solutions.rises;
    each = vectors_each list solutions.each;
    all = λ x fits whole above. (let back = vector_analysis parts x is fits whole.1 in subst (In (map (vector parts) list)) back (member_mapped parts list (analysis_of parts x) (solutions.all (analysis_of parts x) (solution_of x fits whole) (subst (Less after) (sym back) above))));
  }

  pub analyses_back : (list : List Analysis) → All (IsSolution parts) list → map (analysis_of parts) (map (vector parts) list) ≡ list
  analyses_back [] each = refl
  analyses_back (a ∷ list) each =
      let here = analysis_vector parts a is (All-head (IsSolution parts) a list each).fits in
      let rest = analyses_back list (All-tail (IsSolution parts) a list each) in
      cc

  -- there is no other list of the solutions
  pub solutions_unique : (after : List ℕ) (some other : List Analysis) → IsSolutionList parts after some → IsSolutionList parts after other → some ≡ other
  solutions_unique after some other one two =
      let same = listing_unique (shape parts) (Whole (shape parts) (Live parts)) after (map (vector parts) some) (map (vector parts) other) (solution_listing after some one) (solution_listing after other two) in
      sym (analyses_back some one.each) ∙ (ap (map (analysis_of parts)) same ∙ analyses_back other two.each)
