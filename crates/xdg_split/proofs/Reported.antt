-- The text of a search, from the vectors that it found.
use Rattle.std.proofs.Common.{◌≡◌, ℕ, List, ◌++◌, length, map, take, ap, sym, ◌∙◌}
use Rattle.std.specs.Prelude.{Option}
use Rattle.std.proofs.lemmas.List.{take-map}
use Rattle.xdg_facts.specs.Answered.{Answered}
use Rattle.xdg_facts.specs.declared.Ending.{Ending}
use Rattle.xdg_facts.proofs.Drawing.{ending_of}
use Rattle.xdg_problem.specs.declared.parts.Parts.{Parts}
use Rattle.xdg_problem.specs.Vectors.{shape, vector, analysis_of}
use Rattle.xdg_problem.specs.Problems.{IsProblem}
use Rattle.xdg_problem.proofs.SolutionLists.{analyses_back}
use Rattle.xdg_problem.proofs.OneList.{some_solution_list}
use Rattle.xdg_rules.specs.Boxed.{Boxed}
use Rattle.xdg_rules.proofs.RuleLaws.{boxed_laws}
use Rattle.xdg_text.specs.declared.form.Form.{Form}
use Rattle.xdg_split.specs.Printed.{blocks, last_line, Prints}
use Rattle.xdg_split.proofs.Boxing.{boxed_listing}

-- the blocks of the vectors that a search found, and its last line, are what the search prints
pub prints_of : (ending : Ending) (form : Form) (budget : ℕ) (wanted : Option ℕ) (parts : Parts) (start : List ℕ) (found : List (List ℕ)) (text : List ℕ) → IsProblem parts → Answered ending (shape parts) (Boxed parts) start budget wanted found → text ≡ blocks form parts 1 (map (analysis_of parts) found) ++ last_line ending (length found) → Prints ending form budget wanted parts start text
prints_of ending form budget wanted parts start found text is answered said =
    let counted = (boxed_laws parts is).listed start in
    let solutions = some_solution_list parts start is in
    let vectors = boxed_listing parts is start solutions.0 solutions.1 in
    let ends = ending_of ending (shape parts) (Boxed parts) start budget wanted found answered counted.members (map (vector parts) solutions.0) counted.listing vectors in
    let taken = ap (map (analysis_of parts)) ends.0 ∙ sym (take-map (analysis_of parts) (length found) (map (vector parts) solutions.0)) ∙ ap (take (length found)) (analyses_back parts is solutions.0 solutions.1.each) in
    record {
      counted = counted.members;
      counted_are = counted.listing;
      solutions = solutions.0;
      solutions_are = solutions.1;
      printed = length found;
      end = ends.1;
      text_is = said ∙ ap (λ list. blocks form parts 1 list ++ last_line ending (length found)) taken;
    }
