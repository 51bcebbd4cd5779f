-- The rounds that are still to come, and what they answer.
use Rattle.std.proofs.Common.{◌≡◌, ℕ, ◌-◌, ◌<◌, ◌≤◌, Bool, true, arith, refl, subst, Some, None}
use Rattle.std.specs.Prelude.{Option}
use Rattle.xdg_best.specs.declared.searching.Round.{Round}
use Rattle.xdg_best.specs.Best.{IsAnswer}
use Rattle.xdg_best.specs.Rounds.{Finds, FindsNone, Rounds, used_up, ends, goes_on, found_cost, round_parts}
use Rattle.xdg_best.specs.Searches.{IsRound}
use Rattle.xdg_best.proofs.LastFound.{rounds_best, rounds_solve}
use Rattle.xdg_best.proofs.Reached.{passed_none, rounds_reached}
use Rattle.xdg_problem.specs.declared.analysis.Analysis.{Analysis}
use Rattle.xdg_problem.specs.declared.parts.Parts.{Parts}
use Rattle.xdg_problem.specs.Analyses.{IsAnalysis}
use Rattle.xdg_problem.specs.Costs.{CostLists, cost_of}
use Rattle.xdg_problem.specs.Further.{bound_of, FurtherLaws}
use Rattle.xdg_problem.specs.Problems.{IsProblem}
use Rattle.xdg_problem.proofs.FurtherLawful.{bound_lawful}
use Rattle.xdg_stream.specs.Streamed.{IsStart, start_vector}

abbrev BoundLaws : Parts → CostLists → Type 0
BoundLaws parts costs = (bound : ℕ) → FurtherLaws parts (bound_of parts costs bound) (λ analysis. cost_of costs analysis < bound)

pub bound_laws : (parts : Parts) (costs : CostLists) → IsProblem parts → BoundLaws parts costs
bound_laws parts costs is bound = bound_lawful parts costs bound is

-- what the search of a round came to, by other names
pub round_as : (parts : Parts) (costs : CostLists) (last found : Option Analysis) (left : ℕ) (round other : Round) → last ≡ found → round ≡ other → IsRound (round_parts parts costs last) (start_vector parts last) left round
    → IsRound (round_parts parts costs found) (start_vector parts found) left other
round_as parts costs last found left round other same is r =
    subst (λ z. IsRound (round_parts parts costs z) (start_vector parts z) left other) same (subst (IsRound (round_parts parts costs last) (start_vector parts last) left) is r)

-- the rounds behind what was found last are those behind nothing, with the whole budget
pub record Going (parts : Parts) (costs : CostLists) (budget : ℕ) (found : Option Analysis) (cost left : ℕ) : Type 0 where
  pub fits : IsStart parts found
  pub cost_is : cost ≡ found_cost costs found
  pub within : left ≤ budget
  pub rest : (end : Option Analysis) (spent : Bool) → Rounds parts costs end spent found left → Rounds parts costs end spent None budget

-- the find of a round fits the problem without the bound
pub find_fits : (parts : Parts) (costs : CostLists) (laws : BoundLaws parts costs) (last : Option Analysis) (left : ℕ) (a : Analysis) (k : ℕ) → Finds (round_parts parts costs last) (start_vector parts last) left a k → IsAnalysis parts a
find_fits parts costs laws None left a k f = f.fits
find_fits parts costs laws (Some last) left a k f = ((laws (cost_of costs last)).fits a).0 f.fits

pub going_on : (parts : Parts) (costs : CostLists) (budget : ℕ) (laws : BoundLaws parts costs) (found : Option Analysis) (cost left : ℕ) → Going parts costs budget found cost left → (a : Analysis) (k : ℕ)
    → Finds (round_parts parts costs found) (start_vector parts found) left a k → (new : ℕ) → new ≡ cost_of costs a → Going parts costs budget (Some a) new (left - k)
going_on parts costs budget laws found cost left g a k f new is = record {
  fits = find_fits parts costs laws found left a k f;
  cost_is = is;
  within = let w = g.within in omega (arith, w);
  rest = λ end spent rounds. g.rest end spent (goes_on found left a k f rounds);
}

module _ (parts : Parts) (costs : CostLists) (budget : ℕ) (is : IsProblem parts) (laws : BoundLaws parts costs) (found : Option Analysis) (cost left : ℕ) (g : Going parts costs budget found cost left) where
  answer_of : (spent : Bool) → Rounds parts costs found spent found left → IsAnswer parts costs budget (record { found = found; cost = cost; spent = spent })
  answer_of spent rounds =
      let all = g.rest found spent rounds in
      record {
        rounds = all;
        cost = g.cost_is;
        solution = rounds_solve parts costs is laws found spent budget all;
        best = λ not_spent. rounds_best parts costs is laws found spent None budget all not_spent tt;
        reached = λ was_spent counted listing. let n = rounds_reached parts costs found spent None budget 0 all was_spent (passed_none parts costs) counted listing in omega (arith, n);
      }

  pub answer_none : (spent : Bool) → 0 < left → FindsNone (round_parts parts costs found) (start_vector parts found) left spent → IsAnswer parts costs budget (record { found = found; cost = cost; spent = spent })
  answer_none spent some f = answer_of spent (ends found left some f refl)

  pub answer_used : left ≤ 0 → IsAnswer parts costs budget (record { found = found; cost = cost; spent = true })
  answer_used none = answer_of true (used_up found left (omega (arith, none)) refl refl)
