-- The solutions in order are the analyses of the whole boxed vectors in order.
use Rattle.std.proofs.Common.{ℕ, List, map}
use Rattle.xdg_facts.specs.Fits.{Fits}
use Rattle.xdg_facts.specs.Listing.{IsListing}
use Rattle.xdg_facts.specs.Whole.{Whole}
use Rattle.xdg_problem.specs.declared.analysis.Analysis.{Analysis}
use Rattle.xdg_problem.specs.declared.parts.Parts.{Parts}
use Rattle.xdg_problem.specs.Live.{Live}
use Rattle.xdg_problem.specs.Problems.{IsProblem}
use Rattle.xdg_problem.specs.Solutions.{IsSolutionList}
use Rattle.xdg_problem.specs.Vectors.{shape, vector}
use Rattle.xdg_problem.proofs.SolutionLists.{solution_of, solution_listing}
use Rattle.xdg_rules.specs.Boxed.{Boxed}
use Rattle.xdg_rules.proofs.RuleLaws.{boxed_laws}
use Rattle.xdg_facts.proofs.Each.{each_weaker}

-- a whole vector is boxed exactly where it is live
pub boxed_listing : (parts : Parts) → IsProblem parts → (after : List ℕ) (list : List Analysis) → IsSolutionList parts after list → IsListing (shape parts) (Whole (shape parts) (Boxed parts)) after (map (vector parts) list)
boxed_listing parts is after list solutions =
    let live = solution_listing parts is after list solutions in
    let laws = boxed_laws parts is in
    record {
      rises = live.rises;
      each = each_weaker (λ x. Fits (shape parts) x × Whole (shape parts) (Live parts) x) (λ x. Fits (shape parts) x × Whole (shape parts) (Boxed parts) x) (map (vector parts) list) (λ x h. (h.0, ((laws.whole x h.0 h.1.1).1 (solution_of parts is x h.0 h.1), h.1.1))) live.each;
      all = λ x fits whole. live.all x fits (laws.live x whole.0, whole.1);
    }
