-- A search prints one text.
use Rattle.std.proofs.Common.{◌≡◌, ℕ, List, ◌++◌, map, take, ap, sym, ◌∙◌, subst}
use Rattle.std.specs.Prelude.{Option}
use Rattle.xdg_facts.specs.Endings.{IsEnding}
use Rattle.xdg_facts.proofs.Unique.{listing_unique}
use Rattle.xdg_facts.proofs.Wholes.{whole_unique}
use Rattle.xdg_facts.proofs.OneEnding.{ending_unique}
use Rattle.xdg_problem.specs.declared.parts.Parts.{Parts}
use Rattle.xdg_problem.specs.Vectors.{shape, vector}
use Rattle.xdg_problem.specs.Problems.{IsProblem}
use Rattle.xdg_problem.proofs.SolutionLists.{solutions_unique}
use Rattle.xdg_rules.specs.Boxed.{Boxed}
use Rattle.xdg_text.specs.declared.form.Form.{Form}
use Rattle.xdg_split.specs.Printed.{blocks, last_line, IsOnePrint}
use Rattle.xdg_split.proofs.Boxing.{boxed_listing}

-- two texts of a search are one, with one ending
pub one_print : (form : Form) (budget : ℕ) (wanted : Option ℕ) (parts : Parts) (start : List ℕ) → IsProblem parts → IsOnePrint form budget wanted parts start
one_print form budget wanted parts start is one other text more p q =
    let counted : p.counted ≡ q.counted = listing_unique (shape parts) (Boxed parts) start p.counted q.counted p.counted_are q.counted_are in
    let solutions : p.solutions ≡ q.solutions = solutions_unique parts is start p.solutions q.solutions p.solutions_are q.solutions_are in
    let whole = whole_unique (shape parts) (Boxed parts) start p.counted (map (vector parts) p.solutions) p.counted_are (boxed_listing parts is start p.solutions p.solutions_are) in
    let moved = subst (λ c. IsEnding other (shape parts) budget wanted c (map (vector parts) p.solutions) q.printed) (sym counted)
    (subst (λ s. IsEnding other (shape parts) budget wanted q.counted (map (vector parts) s) q.printed) (sym solutions) q.end) in
    let same = ending_unique one other (shape parts) budget wanted p.counted (map (vector parts) p.solutions) p.printed q.printed whole p.end moved in (
      same.0,
      p.text_is
          ∙ ap (λ s. blocks form parts 1 (take p.printed s) ++ last_line one p.printed) solutions
          ∙ ap (λ m. blocks form parts 1 (take m q.solutions) ++ last_line one m) same.1
          ∙ ap (λ s. blocks form parts 1 (take q.printed q.solutions) ++ last_line s q.printed) same.0
          ∙ sym q.text_is,
    )
