-- What a stream has found, counted and judged so far.
use Rattle.std.proofs.Common.{◌≡◌, ◌∙◌, ℕ, ◌+◌, ◌≤◌, Bool, true, false, List, [], ◌∷◌, ◌++◌, length, map, take, refl, sym, ap, subst, arith, length-append, None}
use Rattle.std.specs.Prelude.{cond}
use Rattle.std.proofs.lemmas.List.{take-map}
use Rattle.xdg_split.proofs.Boxing.{boxed_listing}
use Rattle.xdg_split.proofs.FoundSoFar.{all_answers, map_more, spent_answers}
use Rattle.xdg_searches.specs.Broken.{IsJudged, count_broken, has_broken}
use Rattle.xdg_searches.specs.Counted.{AreCounts, AreJudged}
use Rattle.xdg_searches.proofs.Tallies.{count_more, judged_more}
use Rattle.xdg_judge.specs.declared.verdict.Verdict.{Verdict}
use Rattle.xdg_facts.specs.Answered.{Answered}
use Rattle.xdg_facts.specs.declared.Ending.{Ending}
use Rattle.xdg_facts.specs.declared.Ending.TheVariants as endings
use Rattle.xdg_facts.proofs.Drawing.{ending_of}
use Rattle.xdg_problem.specs.declared.parts.Parts.{Parts}
use Rattle.xdg_problem.specs.Problems.{IsProblem}
use Rattle.xdg_problem.specs.Vectors.{analysis_of, shape, vector}
use Rattle.xdg_problem.proofs.OneList.{some_solution_list}
use Rattle.xdg_problem.proofs.SolutionLists.{analyses_back}
use Rattle.xdg_rules.specs.Boxed.{Boxed}
use Rattle.xdg_rules.proofs.RuleLaws.{boxed_laws}
use Rattle.xdg_stream.specs.declared.search.Step.TheVariants as steps
use Rattle.xdg_stream.specs.Streamed.{Advances, IsCharged, Streamed}
use Rattle.xdg_stream.proofs.Streaming.{end_found, spent_found}

-- The vectors that were found are counted, the verdicts on their analyses too, and the stream goes on.
pub record Tallied (parts : Parts) (budget : ℕ) (s : Streamed) (analyses broken : ℕ) : Type 0 where
  pub problem : s.parts ≡ parts
  pub begun : s.start ≡ []
  pub spends : s.budget ≡ budget
  pub open_still : s.ended ≡ None
  pub found : List (List ℕ)
  pub so_far : IsCharged s found
  pub analyses_are : analyses ≡ length found
  pub few : length found ≤ s.charged
  pub judged : List (List Verdict)
  pub judged_are : AreJudged parts (map (analysis_of parts) found) judged
  pub broken_is : broken ≡ count_broken judged
  pub fewer : broken ≤ analyses

pub tallied_none : (parts : Parts) (budget : ℕ) (s : Streamed) → s.parts ≡ parts → s.start ≡ [] → s.budget ≡ budget → s.ended ≡ None → IsCharged s [] → Tallied parts budget s 0 0
tallied_none parts budget s problem begun spends open_still so_far = record {
  problem = problem;
  begun = begun;
  spends = spends;
  open_still = open_still;
  found = [];
  so_far = so_far;
  analyses_are = refl;
  few = omega arith;
  judged = [];
  judged_are = tt;
  broken_is = refl;
  fewer = omega arith;
}

-- what a search that has answered comes to
counts_of : (ending : Ending) (parts : Parts) (budget : ℕ) (found : List (List ℕ)) (judged : List (List Verdict)) (analyses broken : ℕ) → IsProblem parts → Answered ending (shape parts) (Boxed parts) [] budget None found → analyses ≡ length found
    → AreJudged parts (map (analysis_of parts) found) judged → broken ≡ count_broken judged → AreCounts budget parts (record { analyses = analyses; broken = broken; ending = ending })
counts_of ending parts budget found judged analyses broken is answered count judged_are broken_is =
    let counted = (boxed_laws parts is).listed [] in
    let solutions = some_solution_list parts [] is in
    let vectors = boxed_listing parts is [] solutions.0 solutions.1 in
    let ends = ending_of ending (shape parts) (Boxed parts) [] budget None found answered counted.members (map (vector parts) solutions.0) counted.listing vectors in
    let taken : map (analysis_of parts) found ≡ take (length found) solutions.0 =
    ap (map (analysis_of parts)) ends.0 ∙ sym (take-map (analysis_of parts) (length found) (map (vector parts) solutions.0)) ∙ ap (take (length found)) (analyses_back parts is solutions.0 solutions.1.each) in
    subst (λ n. AreCounts budget parts (record { analyses = n; broken = broken; ending = ending })) (sym count)
    (record {
      counted = counted.members;
      counted_are = counted.listing;
      solutions = solutions.0;
      solutions_are = solutions.1;
      end = ends.1;
      judged = judged;
      judged_are = subst (λ z. AreJudged parts z judged) taken judged_are;
      broken_is = broken_is;
    })

-- one more call
module _ (parts : Parts) (budget : ℕ) (s t : Streamed) (analyses broken : ℕ) (k : Tallied parts budget s analyses broken) where
  -- nothing more was found
  pub complete_counts : IsProblem parts → Advances s steps.End t → AreCounts budget parts (record { analyses = analyses; broken = broken; ending = endings.Complete })
  complete_counts is step =
      counts_of endings.Complete parts budget k.found k.judged analyses broken is
      (all_answers None parts [] budget t k.found (step.given.0 ∙ k.problem) (step.given.1 ∙ k.begun) (step.given.2 ∙ k.spends) (step.charged k.found k.so_far) (step.stops end_found).0 tt)
      k.analyses_are k.judged_are k.broken_is

  pub spent_counts : IsProblem parts → Advances s steps.Spent t → AreCounts budget parts (record { analyses = analyses; broken = broken; ending = endings.Spent })
  spent_counts is step =
      counts_of endings.Spent parts budget k.found k.judged analyses broken is
      (spent_answers None parts [] budget t k.found (step.given.0 ∙ k.problem) (step.given.1 ∙ k.begun) (step.given.2 ∙ k.spends) (step.charged k.found k.so_far) (step.stops spent_found).0 tt)
      k.analyses_are k.judged_are k.broken_is

  -- a vector more was found
  module _ (step : Advances s steps.Found t) where
    -- the numbers stay in range
    pub in_range : (analyses + 1 ≤ budget) × (broken + 1 ≤ budget)
    in_range =
        let few = k.few in
        let n = k.analyses_are in
        let m = k.fewer in
        let costs = step.costs refl in
        let within = (step.charged k.found k.so_far).within in
        let spends = step.given.2 ∙ k.spends in
        (omega (arith, few, n, costs, within, spends), omega (arith, few, n, m, costs, within, spends))

    pub tallied_more : (bad : Bool) → IsJudged parts (analysis_of parts t.last) bad → (new : ℕ) → new ≡ broken + cond bad 1 0 → Tallied parts budget t (analyses + 1) new
    tallied_more bad given new is =
        let few = k.few in
        let n = k.analyses_are in
        let m = k.fewer in
        let l = length-append k.found (t.last ∷ []) in
        let costs = step.costs refl in
        record {
          problem = step.given.0 ∙ k.problem;
          begun = step.given.1 ∙ k.begun;
          spends = step.given.2 ∙ k.spends;
          open_still = (step.found refl).1;
          found = k.found ++ t.last ∷ [];
          so_far = step.charged k.found k.so_far;
          analyses_are = omega (arith, n, l);
          few = omega (arith, few, l, costs);
          judged = k.judged ++ given.verdicts ∷ [];
          judged_are = subst (λ z. AreJudged parts z (k.judged ++ given.verdicts ∷ [])) (sym (map_more parts k.found t.last)) (judged_more parts (map (analysis_of parts) k.found) k.judged (analysis_of parts t.last) given.verdicts k.judged_are given.are);
          broken_is = is ∙ ap (λ b. broken + cond b 1 0) given.says ∙ ap (λ x. x + cond (has_broken given.verdicts) 1 0) k.broken_is ∙ sym (count_more k.judged given.verdicts);
          fewer = subst (λ x. x ≤ analyses + 1) (sym is) (at_most_one bad m);
        }
      where
        at_most_one : (b : Bool) → broken ≤ analyses → broken + cond b 1 0 ≤ analyses + 1
        at_most_one true m = omega (arith, m)
        at_most_one false m = omega (arith, m)
