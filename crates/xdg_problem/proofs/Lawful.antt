-- What tests, live prefixes and solutions keep, all of it.
use Rattle.std.proofs.Common.{◌≡◌, ◌↔◌, ℕ, ◌<◌, List, ◌++◌, length, sym, subst, arith}
use Rattle.std.specs.Prelude.{filter}
use Rattle.xdg_facts.specs.Fits.{Fits}
use Rattle.xdg_facts.specs.Whole.{is_whole}
use Rattle.xdg_facts.proofs.Wholes.{whole_listing}
use Rattle.xdg_problem.specs.declared.analysis.Analysis.{Analysis}
use Rattle.xdg_problem.specs.declared.parts.Group.{Group}
use Rattle.xdg_problem.specs.declared.parts.Parts.{Parts}
use Rattle.xdg_problem.specs.Analyses.{IsAnalysis}
use Rattle.xdg_problem.specs.Laws.{AllTestsHold, TestsAreRelation, LiveLaws, SolutionLaws, HasOneVerdict}
use Rattle.xdg_problem.specs.Live.{Live}
use Rattle.xdg_problem.specs.Problems.{IsProblem, IsGroup}
use Rattle.xdg_problem.specs.Relations.{Relation, IsKeptWhole}
use Rattle.xdg_problem.specs.Solutions.{IsSolution, HasOneSolutionList}
use Rattle.xdg_problem.specs.Vectors.{shape, vector, analysis_of}
use Rattle.xdg_problem.proofs.OneList.{one_live_list, some_solution_list}
use Rattle.xdg_problem.proofs.Shortening.{live_closed}
use Rattle.xdg_problem.proofs.SolutionLists.{solution_of, vector_whole, solutions_of, solution_listing, solutions_unique}
use Rattle.xdg_problem.proofs.VectorFacts.{vector_fits, length_vector, analysis_vector}
use Rattle.xdg_problem.proofs.Verdicts.{some_verdict, broken_fails, one_verdict}
use Rattle.xdg_problem.proofs.WholeTests.{whole_stands, use_live, relations_live}

module _ (parts : Parts) (problem : IsProblem parts) where
  -- all decisions stand in the vector of an analysis, so what is live there is what holds
  holding : (group : Group) → IsGroup parts group → (analysis : Analysis) → IsAnalysis parts analysis → AllTestsHold parts group analysis ↔ Relation parts group (analysis_of parts (vector parts analysis))
  holding group group_is analysis is =
      let fits = vector_fits parts analysis problem is in
      let long = length_vector parts analysis problem is in
      let both = use_live parts (vector parts analysis) problem fits long group group_is in (
        λ holds. both.0 (record {
          tests = λ test tested stands. holds.tests test tested;
          whole = λ l. subst (IsKeptWhole parts group) (sym (analysis_vector parts analysis problem is)) holds.whole;
        }),
        λ relation. record {
          tests = λ test tested. (both.1 relation).tests test tested (whole_stands parts (vector parts analysis) problem fits long group group_is test tested);
          whole = subst (IsKeptWhole parts group) (analysis_vector parts analysis problem is) ((both.1 relation).whole (omega (arith, long)));
        },
      )

  tests_are : (group : Group) → IsGroup parts group → TestsAreRelation parts group
  tests_are group group_is analysis is = subst (λ a. AllTestsHold parts group analysis ↔ Relation parts group a) (analysis_vector parts analysis problem is) (holding group group_is analysis is)

  whole_is : (numbers : List ℕ) → Fits (shape parts) numbers → length numbers ≡ length (shape parts) → Live parts numbers ↔ IsSolution parts (analysis_of parts numbers)
  whole_is numbers fits whole = (
    λ live. solution_of parts problem numbers fits (live, whole),
    λ solution. relations_live parts numbers problem fits whole solution.each,
  )

  front_live : (analysis : Analysis) → IsSolution parts analysis → (prefix more : List ℕ) → 0 < length prefix → prefix ++ more ≡ vector parts analysis → Live parts prefix
  front_live analysis solution prefix more some is = live_closed parts prefix more some (subst (Live parts) (sym is) (vector_whole parts problem analysis solution).0)

  pub live_lawful : LiveLaws parts
  live_lawful = record {
    tests = λ k d within. tests_are _ (problem.groups k d within);
    fronts = live_closed parts;
    whole = whole_is;
    solutions = front_live;
    listed = one_live_list parts;
  }

  one_list : (start : List ℕ) → HasOneSolutionList parts start
  one_list start =
      let some = some_solution_list parts start problem in
      record { list = some.0; is = some.1; only = λ other is. solutions_unique parts problem start other some.0 is some.1 }

  pub solutions_lawful : (start : List ℕ) → SolutionLaws parts start
  solutions_lawful start = record {
    one = one_list start;
    live = λ prefixes listing. solutions_of parts problem start (filter (is_whole (shape parts)) prefixes) (whole_listing (shape parts) (Live parts) start prefixes listing);
    analyses = solutions_of parts problem start;
    vectors = solution_listing parts problem start;
  }

pub verdict_is_one : (parts : Parts) (group : Group) (analysis : Analysis) → HasOneVerdict parts group analysis
verdict_is_one parts group analysis = record {
  some = some_verdict parts group analysis;
  broken = broken_fails parts group analysis;
  only = one_verdict parts group analysis;
}
