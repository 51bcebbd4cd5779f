-- What a search finds, from the vectors that a stream answered: one thing, and no other.
use Rattle.std.proofs.Common.{◌≡◌, ◌∙◌, ℕ, List, [], length, map, take, None, sym, ap, subst}
use Rattle.std.proofs.lemmas.List.{take-map}
use Rattle.xdg_split.proofs.Boxing.{boxed_listing}
use Rattle.xdg_arrange.specs.Found.{Finds, IsOneFind}
use Rattle.xdg_facts.specs.Answered.{Answered}
use Rattle.xdg_facts.specs.Endings.{IsEnding}
use Rattle.xdg_facts.specs.declared.Ending.{Ending}
use Rattle.xdg_facts.proofs.Drawing.{ending_of}
use Rattle.xdg_facts.proofs.OneEnding.{ending_unique}
use Rattle.xdg_facts.proofs.Unique.{listing_unique}
use Rattle.xdg_facts.proofs.Wholes.{whole_unique}
use Rattle.xdg_problem.specs.declared.parts.Parts.{Parts}
use Rattle.xdg_problem.specs.Problems.{IsProblem}
use Rattle.xdg_problem.specs.Vectors.{analysis_of, shape, vector}
use Rattle.xdg_problem.proofs.OneList.{some_solution_list}
use Rattle.xdg_problem.proofs.SolutionLists.{analyses_back, solutions_unique}
use Rattle.xdg_rules.specs.Boxed.{Boxed}
use Rattle.xdg_rules.proofs.RuleLaws.{boxed_laws}

pub finds_of : (ending : Ending) (parts : Parts) (budget : ℕ) (found : List (List ℕ)) → IsProblem parts → Answered ending (shape parts) (Boxed parts) [] budget None found → Finds ending budget parts (map (analysis_of parts) found)
finds_of ending parts budget found is answered =
    let counted = (boxed_laws parts is).listed [] in
    let solutions = some_solution_list parts [] is in
    let vectors = boxed_listing parts is [] solutions.0 solutions.1 in
    let ends = ending_of ending (shape parts) (Boxed parts) [] budget None found answered counted.members (map (vector parts) solutions.0) counted.listing vectors in
    record {
      counted = counted.members;
      counted_are = counted.listing;
      solutions = solutions.0;
      solutions_are = solutions.1;
      number = length found;
      end = ends.1;
      analyses_are =
          ap (map (analysis_of parts)) ends.0 ∙ sym (take-map (analysis_of parts) (length found) (map (vector parts) solutions.0)) ∙ ap (take (length found)) (analyses_back parts is solutions.0 solutions.1.each);
    }

pub one_find : (budget : ℕ) (parts : Parts) → IsProblem parts → IsOneFind budget parts
one_find budget parts is one other found more p q =
    let counted : p.counted ≡ q.counted = listing_unique (shape parts) (Boxed parts) [] p.counted q.counted p.counted_are q.counted_are in
    let solutions : p.solutions ≡ q.solutions = solutions_unique parts is [] p.solutions q.solutions p.solutions_are q.solutions_are in
    let whole = whole_unique (shape parts) (Boxed parts) [] p.counted (map (vector parts) p.solutions) p.counted_are (boxed_listing parts is [] p.solutions p.solutions_are) in
    let moved = subst (λ c. IsEnding other (shape parts) budget None c (map (vector parts) p.solutions) q.number) (sym counted)
    (subst (λ s. IsEnding other (shape parts) budget None q.counted (map (vector parts) s) q.number) (sym solutions) q.end) in
    let same = ending_unique one other (shape parts) budget None p.counted (map (vector parts) p.solutions) p.number q.number whole p.end moved in
    (same.0, p.analyses_are ∙ ap (take p.number) solutions ∙ ap (λ n. take n q.solutions) same.1 ∙ sym q.analyses_are)
