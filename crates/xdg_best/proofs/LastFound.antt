-- What is found last is the cheapest, where the rounds aren't spent.
use Rattle.std.proofs.Common.{◌≡◌, ◌∙◌, ℕ, ◌-◌, ◌<◌, ◌≤◌, ◌⊎◌, inl, inr, Bool, true, false, List, [], ◌++◌, length, map, arith, sym, ap, subst, length-append, Some, None}
use Rattle.std.specs.Prelude.{Option}
use Rattle.std.proofs.lemmas.List.{length-map}
use Rattle.std.proofs.lemmas.Bool.{cases_lt}
use Rattle.xdg_best.specs.Best.{IsBest, Solves}
use Rattle.xdg_best.specs.Rounds.{Finds, FindsNone, Rounds, used_up, ends, goes_on, round_parts}
use Rattle.xdg_best.proofs.Found.{find_first, find_solves, none_solves}
use Rattle.xdg_facts.specs.Order.{Less}
use Rattle.xdg_facts.proofs.Ordered.{less_total, after_none}
use Rattle.xdg_base.specs.declared.ids.EntryNo.{EntryNo}
use Rattle.xdg_problem.specs.declared.analysis.Analysis.{Analysis}
use Rattle.xdg_problem.specs.declared.parts.Parts.{Parts}
use Rattle.xdg_problem.specs.Analyses.{IsAnalysis}
use Rattle.xdg_problem.specs.Costs.{CostLists, cost_of}
use Rattle.xdg_problem.specs.Further.{bound_of, with_uses, FurtherLaws}
use Rattle.xdg_problem.specs.Problems.{IsProblem}
use Rattle.xdg_problem.specs.Solutions.{IsSolution}
use Rattle.xdg_problem.specs.Places.{nodes, places}
use Rattle.xdg_problem.specs.Vectors.{analysis_of, attr_sizes, vector}
use Rattle.xdg_problem.proofs.OneToOne.{one_to_one}
use Rattle.xdg_stream.specs.Streamed.{start_vector}

module _ (parts : Parts) (costs : CostLists) (is : IsProblem parts) (laws : (bound : ℕ) → FurtherLaws parts (bound_of parts costs bound) (λ analysis. cost_of costs analysis < bound)) where
  -- a vector has an item
  vector_some : (a : Analysis) → IsAnalysis parts a → Less [] (vector parts a)
  vector_some a fits =
      let whole = (one_to_one parts is).whole a fits in
      let sizes : List ℕ = map (λ (entries : List EntryNo). length entries) parts.candidates in
      let n = length-append sizes (attr_sizes (nodes parts) parts.dims ++ map (λ place. 2) (places parts)) in
      let m : length sizes ≡ length parts.candidates = length-map parts.candidates (λ (entries : List EntryNo). length entries) in
      let some = is.some in
      let each = is.candidates_each in
      after_none (vector parts a) (omega (arith, whole, n, m, some, each))

  -- analyses of one vector are one
  same_analysis : (a b : Analysis) → IsAnalysis parts a → IsAnalysis parts b → vector parts a ≡ vector parts b → a ≡ b
  same_analysis a b fits other same = let one = one_to_one parts is in sym (one.forth a fits) ∙ ap (analysis_of parts) same ∙ one.forth b other

  -- what was found last is a solution, and each before it costs more
  abbrev pub Cheap : Option Analysis → Type 0
  Cheap None = Unit {0}
  Cheap (Some a) = IsSolution parts a × ((other : Analysis) → IsSolution parts other → Less (vector parts other) (vector parts a) → cost_of costs a < cost_of costs other)

  -- the first find is the first solution
  first_cheap : (budget : ℕ) (a : Analysis) (k : ℕ) → Finds parts [] budget a k → Cheap (Some a)
  first_cheap budget a k f = (
    find_solves parts is [] budget a k f,
    λ other solution before. absurd (find_first parts is [] budget a k f other solution (vector_some other solution.fits) before),
  )

  -- a solution costs no less than what was found last, or it comes later and is cheaper
  no_cheaper_or : (last : Analysis) → Cheap (Some last) → (other : Analysis) → IsSolution parts other → (cost_of costs last ≤ cost_of costs other) ⊎ (Less (vector parts last) (vector parts other) × (cost_of costs other < cost_of costs last))
  no_cheaper_or last cheap other solution = elim (less_total (vector parts other) (vector parts last)) [
    | inl earlier ↦ let more = cheap.1 other solution earlier in inl (omega (arith, more))
    | inr (inl same) ↦ let e = ap (cost_of costs) (same_analysis other last solution.fits cheap.0.fits same) in inl (omega (arith, e))
    | inr (inr later) ↦ elim (cases_lt (cost_of costs other) (cost_of costs last)) [ inl less ↦ inr (later, less) | inr more ↦ inl more ]
  ]

  -- a find behind another one costs less, and is the first behind it that does
  next_cheap : (last : Analysis) (budget : ℕ) (a : Analysis) (k : ℕ) → Cheap (Some last) → Finds (with_uses parts (bound_of parts costs (cost_of costs last))) (vector parts last) budget a k → Cheap (Some a)
  next_cheap last budget a k cheap f =
      let bounded = with_uses parts (bound_of parts costs (cost_of costs last)) in
      let law = laws (cost_of costs last) in
      let solved = (law.solutions a).0 (find_solves bounded law.problem (vector parts last) budget a k f) in
      let below = solved.1 in (
        solved.0,
        λ other solution before. elim (no_cheaper_or last cheap other solution) [
          | inl more ↦ omega (arith, more, below)
          | inr (later, less) ↦ absurd (find_first bounded law.problem (vector parts last) budget a k f other ((law.solutions other).1 (solution, less)) (subst (Less (vector parts last)) (sym (law.vectors other)) later)
              (subst (λ z. Less z (vector bounded a)) (sym (law.vectors other)) (subst (Less (vector parts other)) (sym (law.vectors a)) before)))
        ],
      )

  pub find_cheap : (last : Option Analysis) (budget : ℕ) (a : Analysis) (k : ℕ) → Cheap last → Finds (round_parts parts costs last) (start_vector parts last) budget a k → Cheap (Some a)
  find_cheap None budget a k cheap f = first_cheap budget a k f
  find_cheap (Some last) budget a k cheap f = next_cheap last budget a k cheap f

  -- where a round finds nothing more, what was found last is the cheapest
  none_cheap : (last : Option Analysis) (budget : ℕ) → Cheap last → FindsNone (round_parts parts costs last) (start_vector parts last) budget false → IsBest parts costs last
  none_cheap None budget cheap f = λ a solution. none_solves parts is [] budget f a solution (vector_some a solution.fits)
  none_cheap (Some last) budget cheap f =
      let bounded = with_uses parts (bound_of parts costs (cost_of costs last)) in
      let law = laws (cost_of costs last) in
      record {
        solution = cheap.0;
        least = λ other solution. elim (no_cheaper_or last cheap other solution) [
          | inl more ↦ more
          | inr (later, less) ↦ absurd (none_solves bounded law.problem (vector parts last) budget f other ((law.solutions other).1 (solution, less)) (subst (Less (vector parts last)) (sym (law.vectors other)) later))
        ];
        first = cheap.1;
      }

  -- rounds that aren't spent find the cheapest
  pub rounds_best : (found : Option Analysis) (spent : Bool) (last : Option Analysis) (left : ℕ) → Rounds parts costs found spent last left → spent ≡ false → Cheap last → IsBest parts costs found
  rounds_best found spent last left (used_up _ _ none same used) not_spent cheap = absurd (let bad : true ≡ false = sym used ∙ not_spent in cc)
  rounds_best found spent last left (ends _ _ some none same) not_spent cheap =
      subst (IsBest parts costs) (sym same) (none_cheap last left cheap (subst (FindsNone (round_parts parts costs last) (start_vector parts last) left) not_spent none))
  rounds_best found spent last left (goes_on _ _ next place f more) not_spent cheap = rounds_best found spent (Some next) (left - place) more not_spent (find_cheap last left next place cheap f)

  -- rounds find a solution, or nothing, whether they are spent or not
  rounds_cheap : (found : Option Analysis) (spent : Bool) (last : Option Analysis) (left : ℕ) → Rounds parts costs found spent last left → Cheap last → Cheap found
  rounds_cheap found spent last left (used_up _ _ none same used) cheap = subst Cheap (sym same) cheap
  rounds_cheap found spent last left (ends _ _ some none same) cheap = subst Cheap (sym same) cheap
  rounds_cheap found spent last left (goes_on _ _ next place f more) cheap = rounds_cheap found spent (Some next) (left - place) more (find_cheap last left next place cheap f)

  solves : (found : Option Analysis) → Cheap found → Solves parts found
  solves None cheap = tt
  solves (Some a) cheap = cheap.0

  pub rounds_solve : (found : Option Analysis) (spent : Bool) (left : ℕ) → Rounds parts costs found spent None left → Solves parts found
  rounds_solve found spent left rounds = solves found (rounds_cheap found spent None left rounds tt)
