-- What a search leaves in the sink when it ends, and when the sink fails.
use Rattle.std.proofs.Common.{◌≡◌, ℕ, ◌≤◌, ◌+◌, List, [], ◌∷◌, ◌++◌, length, map, take, drop, refl, ap, sym, ◌∙◌, arith, append_assoc, inl, inr, subst, Some}
use Rattle.std.specs.Prelude.{Option}
use Rattle.std.proofs.lemmas.List.{take-map, take-take, take-append-drop, length-take}
use Rattle.xdg_io.specs.Held.{Appends, AppendsFront}
use Rattle.xdg_io.proofs.Written.{appends_both, front_in_first, front_in_second}
use Rattle.xdg_facts.specs.Whole.{reach}
use Rattle.xdg_facts.specs.Answered.{Answered}
use Rattle.xdg_facts.specs.declared.Ending.{Ending}
use Rattle.xdg_facts.specs.declared.Ending.TheVariants as endings
use Rattle.xdg_facts.proofs.Drawing.{ending_of}
use Rattle.xdg_problem.specs.declared.analysis.Analysis.{Analysis}
use Rattle.xdg_problem.specs.declared.parts.Parts.{Parts}
use Rattle.xdg_problem.specs.Vectors.{shape, vector, analysis_of}
use Rattle.xdg_problem.specs.Problems.{IsProblem}
use Rattle.xdg_problem.proofs.SolutionLists.{analyses_back}
use Rattle.xdg_rules.specs.Boxed.{Boxed}
use Rattle.xdg_text.specs.declared.form.Form.{Form}
use Rattle.xdg_facts.specs.Endings.{IsUpTo, IsEnding}
use Rattle.xdg_text.specs.Blocks.{shown}
use Rattle.xdg_split.specs.Printed.{blocks, last_line, Prints}
use Rattle.xdg_split.specs.Written.{EndsLine, Writes}
use Rattle.xdg_split.specs.declared.printing.Printed.{Printed}
use Rattle.xdg_stream.specs.declared.search.Step.TheVariants as steps
use Rattle.xdg_stream.specs.Streamed.{Advances, Streamed}
use Rattle.xdg_text.specs.Lines.{complete_line, spent_line}
use Rattle.xdg_split.proofs.Boxing.{boxed_listing}
use Rattle.xdg_split.proofs.FoundSoFar.{Found, blocks_found, blocks_front, complete_answered, spent_answered}
use Rattle.xdg_split.proofs.OnePrint.{one_print}
use Rattle.xdg_split.proofs.Reported.{prints_of}
use Rattle.xdg_facts.proofs.Wanted.{at_least}

-- the blocks of a search that ended, and what became of its last line
pub ended_written : (result : Printed) (ending : Ending) (form : Form) (budget : ℕ) (wanted : Option ℕ) (parts : Parts) (start : List ℕ) (found : List (List ℕ)) (count : ℕ) (old mid new : Option (List ℕ)) → IsProblem parts
    → Answered ending (shape parts) (Boxed parts) start budget wanted found → Appends old mid (blocks form parts 1 (map (analysis_of parts) found)) → count ≡ length found
    → EndsLine result ending mid new (last_line ending count) → Writes result form budget wanted parts start old new
ended_written result ending form budget wanted parts start found count old mid new is answered before many ends = elim ends [
  | inl written ↦ subst (λ z. Writes z form budget wanted parts start old new) (sym written.0) (record { text = whole; prints = own; appends = appends_both before written.1 })
  | inr failed ↦ subst (λ z. Writes z form budget wanted parts start old new) (sym failed.0)
      (λ other text prints. front_in_second before (one_print form budget wanted parts start is ending other whole text own prints).1 failed.1)
] where
  whole : List ℕ
  whole = blocks form parts 1 (map (analysis_of parts) found) ++ last_line ending count

  own : Prints ending form budget wanted parts start whole
  own = prints_of ending form budget wanted parts start found whole is answered (ap (λ n. blocks form parts 1 (map (analysis_of parts) found) ++ last_line ending n) many)

module _ {form : Form} {wanted : Option ℕ} {parts : Parts} {start : List ℕ} {budget : ℕ} {s t : Streamed} {count : ℕ} {old mid : Option (List ℕ)} (f : Found form wanted parts start budget s count old mid) (is : IsProblem parts) where
  pub complete_written : (result : Printed) (new : Option (List ℕ)) → Advances s steps.End t → EndsLine result endings.Complete mid new (complete_line count) → Writes result form budget wanted parts start old new
  complete_written result new step ends =
      ended_written result endings.Complete form budget wanted parts start f.found count old mid new is (complete_answered f step) f.written f.count_is ends

  pub spent_written : (result : Printed) (new : Option (List ℕ)) → Advances s steps.Spent t → EndsLine result endings.Spent mid new (spent_line count) → Writes result form budget wanted parts start old new
  spent_written result new step ends =
      ended_written result endings.Spent form budget wanted parts start f.found count old mid new is (spent_answered f step) f.written f.count_is ends

-- no fewer solutions are printed than the budget reaches, or are wanted, or all
most_printed : (ending : Ending) (budget : ℕ) (wanted : Option ℕ) (parts : Parts) (counted : List (List ℕ)) (solutions : List Analysis) (m k : ℕ) → IsEnding ending (shape parts) budget wanted counted (map (vector parts) solutions) m → IsUpTo k wanted → k ≤ reach (shape parts) budget counted → k ≤ length (map (vector parts) solutions) → k ≤ m
most_printed endings.Complete budget wanted parts counted solutions m k e u r l = let h = e.0 in omega (arith, h)
most_printed endings.First budget wanted parts counted solutions m k e u r l = at_least wanted m k e.0 u
most_printed endings.Spent budget wanted parts counted solutions m k e u r l = let h = e.0 in omega (arith, h)

-- the sink failed in the block of one more vector that the budget covers
pub block_failed : (form : Form) (budget : ℕ) (wanted : Option ℕ) (parts : Parts) (start : List ℕ) (found : List (List ℕ)) (grown : List ℕ) (count : ℕ) (old mid new : Option (List ℕ)) → IsProblem parts → Answered endings.First (shape parts) (Boxed parts) start budget (Some (length (found ++ grown ∷ []))) (found ++ grown ∷ []) → count ≡ length found + 1 → IsUpTo (length (found ++ grown ∷ [])) wanted → Appends old mid (blocks form parts 1 (map (analysis_of parts) found)) → AppendsFront mid new (shown form parts count (analysis_of parts grown)) → (other : Ending) (text : List ℕ) → Prints other form budget wanted parts start text → AppendsFront old new text
block_failed form budget wanted parts start found grown count old mid new is answered e up before failed other text p =
    let all : List (List ℕ) = found ++ grown ∷ [] in
    let k : ℕ = length all in
    let vectors = boxed_listing parts is start p.solutions p.solutions_are in
    let ends = ending_of endings.First (shape parts) (Boxed parts) start budget (Some k) all answered p.counted (map (vector parts) p.solutions) p.counted_are vectors in
    let front_is : map (analysis_of parts) all ≡ take k p.solutions = ap (map (analysis_of parts)) ends.0 ∙ sym (take-map (analysis_of parts) k (map (vector parts) p.solutions)) ∙ ap (take k) (analyses_back parts is p.solutions p.solutions_are.each) in
    let long : k ≤ length (map (vector parts) p.solutions) = (let t = ap length ends.0 in let u = length-take k (map (vector parts) p.solutions) in omega (arith, t, u)) in
    let within : k ≤ p.printed = most_printed other budget wanted parts p.counted p.solutions p.printed k p.end up ends.1.1 long in
    let list : List Analysis = take p.printed p.solutions in
    let parted : map (analysis_of parts) all ++ drop k list ≡ list = ap (λ z. z ++ drop k list) (front_is ∙ sym (take-take k p.printed p.solutions within)) ∙ take-append-drop k list in
    let blocks_are : blocks form parts 1 list ≡ (blocks form parts 1 (map (analysis_of parts) found) ++ shown form parts count (analysis_of parts grown)) ++ blocks form parts (1 + length (map (analysis_of parts) all)) (drop k list) =
    ap (blocks form parts 1) (sym parted) ∙ blocks_front form parts 1 (map (analysis_of parts) all) (drop k list) ∙ ap (λ z. z ++ blocks form parts (1 + length (map (analysis_of parts) all)) (drop k list)) (blocks_found form parts found grown count e) in
    let tail : List ℕ = blocks form parts (1 + length (map (analysis_of parts) all)) (drop k list) ++ last_line other p.printed in
    let text_is : (blocks form parts 1 (map (analysis_of parts) found) ++ shown form parts count (analysis_of parts grown)) ++ tail ≡ text =
    sym (append_assoc (blocks form parts 1 (map (analysis_of parts) found) ++ shown form parts count (analysis_of parts grown)) (blocks form parts (1 + length (map (analysis_of parts) all)) (drop k list)) (last_line other p.printed))
    ∙ ap (λ z. z ++ last_line other p.printed) (sym blocks_are) ∙ sym p.text_is in
    front_in_first tail (front_in_second before refl failed) text_is
