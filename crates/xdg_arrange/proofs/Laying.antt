-- What a stream has found of an arrangement, and what is printed of it so far.
use Rattle.std.proofs.Common.{◌≡◌, ◌∙◌, ℕ, ◌<◌, ◌≤◌, ◌+◌, ◌==◌, Bool, true, false, List, [], ◌∷◌, ◌++◌, length, map, take, drop, refl, sym, ap, subst, arith, append_assoc, append-nil, length-append, Some, None}
use Rattle.std.specs.Prelude.{Option, cond}
use Rattle.std.proofs.lemmas.Bool.{eqb-true}
use Rattle.std.proofs.lemmas.List.{length-map, length-take, take-append-drop, take-map, take-take}
use Rattle.xdg_text.specs.Blocks.{shown}
use Rattle.xdg_split.specs.Printed.{blocks}
use Rattle.xdg_text.specs.declared.form.Form.TheVariants as forms
use Rattle.xdg_split.proofs.Boxing.{boxed_listing}
use Rattle.xdg_split.proofs.FoundSoFar.{all_answers, blocks_found, first_answers, spent_answers}
use Rattle.xdg_arrange.specs.Found.{Adds, Finds, led_block, led_blocks}
use Rattle.xdg_arrange.proofs.Finding.{finds_of}
use Rattle.xdg_io.specs.Held.{Appends, AppendsFront}
use Rattle.xdg_io.proofs.Written.{appends_both, appends_nothing, front_of_first, front_of_second}
use Rattle.xdg_facts.specs.Answered.{Answered}
use Rattle.xdg_facts.specs.Endings.{IsEnding}
use Rattle.xdg_facts.specs.Whole.{reach}
use Rattle.xdg_facts.specs.declared.Ending.{Ending}
use Rattle.xdg_facts.specs.declared.Ending.TheVariants as endings
use Rattle.xdg_facts.proofs.Drawing.{ending_of}
use Rattle.xdg_problem.specs.declared.analysis.Analysis.{Analysis}
use Rattle.xdg_problem.specs.declared.parts.Parts.{Parts}
use Rattle.xdg_problem.specs.Problems.{IsProblem}
use Rattle.xdg_problem.specs.Vectors.{analysis_of, shape, vector}
use Rattle.xdg_problem.proofs.SolutionLists.{analyses_back}
use Rattle.xdg_rules.specs.Boxed.{Boxed}
use Rattle.xdg_stream.specs.declared.search.Step.TheVariants as steps
use Rattle.xdg_stream.specs.Streamed.{Advances, IsCharged, Streamed}
use Rattle.xdg_stream.proofs.Streaming.{end_found, spent_found}

-- ---- texts

-- one vector more
led_more : (lead : List ℕ) (parts : Parts) (found : List (List ℕ)) (x : List ℕ) (count : ℕ) → count ≡ length found + 1
    → led_blocks lead parts (map (analysis_of parts) (found ++ x ∷ [])) ≡ led_blocks lead parts (map (analysis_of parts) found) ++ led_block lead parts count (analysis_of parts x)
led_more lead parts [] x count e =
    let one : count ≡ 1 = omega (arith, e) in
    subst (λ k. lead ++ blocks forms.One parts 1 (analysis_of parts x ∷ []) ≡ cond (k == 1) lead [] ++ shown forms.One parts k (analysis_of parts x)) (sym one) (ap (λ z. lead ++ z) (append-nil (shown forms.One parts 1 (analysis_of parts x))))
led_more lead parts (y ∷ found) x count e = go (count == 1) refl
  where
    go : (b : Bool) → (count == 1) ≡ b
        → lead ++ blocks forms.One parts 1 (map (analysis_of parts) ((y ∷ found) ++ x ∷ [])) ≡ (lead ++ blocks forms.One parts 1 (map (analysis_of parts) (y ∷ found))) ++ (cond b lead [] ++ shown forms.One parts count (analysis_of parts x))
    go true is = absurd (let one = eqb-true count 1 is in omega (arith, e, one))
    go false is =
        ap (λ z. lead ++ z) (blocks_found forms.One parts (y ∷ found) x count e)
        ∙ sym (append_assoc lead (blocks forms.One parts 1 (map (analysis_of parts) (y ∷ found))) (shown forms.One parts count (analysis_of parts x)))

blocks_front : (parts : Parts) (number : ℕ) (list more : List Analysis) → blocks forms.One parts number (list ++ more) ≡ blocks forms.One parts number list ++ blocks forms.One parts (number + length list) more
blocks_front parts number [] more = let n : number ≡ number + 0 = omega arith in ap (λ k. blocks forms.One parts k more) n
blocks_front parts number (a ∷ list) more =
    let n : (number + 1) + length list ≡ number + length (a ∷ list) = omega arith in
    ap (λ z. shown forms.One parts number a ++ z) (blocks_front parts (number + 1) list more ∙ ap (λ k. blocks forms.One parts (number + 1) list ++ blocks forms.One parts k more) n)
    ∙ sym (append_assoc (shown forms.One parts number a) (blocks forms.One parts (number + 1) list) (blocks forms.One parts (number + length (a ∷ list)) more))

-- the text of a front of a list, which has an analysis, is a front of its text
led_front : (lead : List ℕ) (parts : Parts) (list more : List Analysis) → 0 < length list → led_blocks lead parts (list ++ more) ≡ led_blocks lead parts list ++ blocks forms.One parts (1 + length list) more
led_front lead parts [] more some = absurd (omega (arith, some))
led_front lead parts (a ∷ list) more some =
    ap (λ z. lead ++ z) (blocks_front parts 1 (a ∷ list) more) ∙ sym (append_assoc lead (blocks forms.One parts 1 (a ∷ list)) (blocks forms.One parts (1 + length (a ∷ list)) more))

-- no fewer solutions are found than the budget reaches, or all
most_found : (ending : Ending) (budget : ℕ) (parts : Parts) (counted : List (List ℕ)) (solutions : List Analysis) (m k : ℕ) → IsEnding ending (shape parts) budget None counted (map (vector parts) solutions) m → k ≤ reach (shape parts) budget counted
    → k ≤ length (map (vector parts) solutions) → k ≤ m
most_found endings.Complete budget parts counted solutions m k e r l = let h = e.0 in omega (arith, h, l)
most_found endings.First budget parts counted solutions m k e r l = absurd e.0
most_found endings.Spent budget parts counted solutions m k e r l = let h = e.0 in omega (arith, h, r)

-- ---- a stream

-- The vectors that were found are printed, and the stream, which began with the first of all, goes on.
pub record Laid (lead : List ℕ) (parts : Parts) (budget : ℕ) (s : Streamed) (count : ℕ) (old new : Option (List ℕ)) : Type 0 where
  pub problem : s.parts ≡ parts
  pub begun : s.start ≡ []
  pub spends : s.budget ≡ budget
  pub open_still : s.ended ≡ None
  pub found : List (List ℕ)
  pub so_far : IsCharged s found
  pub count_is : count ≡ length found
  pub few : length found ≤ s.charged
  pub written : Appends old new (led_blocks lead parts (map (analysis_of parts) found))

pub laid_none : (lead : List ℕ) (parts : Parts) (budget : ℕ) (s : Streamed) (old : Option (List ℕ)) → s.parts ≡ parts → s.start ≡ [] → s.budget ≡ budget → s.ended ≡ None → IsCharged s [] → Laid lead parts budget s 0 old old
laid_none lead parts budget s old problem begun spends open_still so_far = record {
  problem = problem;
  begun = begun;
  spends = spends;
  open_still = open_still;
  found = [];
  so_far = so_far;
  count_is = refl;
  few = omega arith;
  written = appends_nothing old;
}

module _ (lead : List ℕ) (parts : Parts) (budget : ℕ) (s t : Streamed) (count : ℕ) (old mid : Option (List ℕ)) (f : Laid lead parts budget s count old mid) where
  adds_of : (ending : Ending) → IsProblem parts → Answered ending (shape parts) (Boxed parts) [] budget None f.found → Adds ending budget parts lead count old mid
  adds_of ending is answered = record {
    analyses = map (analysis_of parts) f.found;
    finds = finds_of ending parts budget f.found is answered;
    count_is = f.count_is ∙ sym (length-map f.found (analysis_of parts));
    appends = f.written;
  }

  -- nothing more was found
  pub adds_whole : IsProblem parts → Advances s steps.End t → Adds endings.Complete budget parts lead count old mid
  adds_whole is step = adds_of endings.Complete is (all_answers None parts [] budget t f.found (step.given.0 ∙ f.problem) (step.given.1 ∙ f.begun) (step.given.2 ∙ f.spends) (step.charged f.found f.so_far) (step.stops end_found).0 tt)

  pub adds_spent : IsProblem parts → Advances s steps.Spent t → Adds endings.Spent budget parts lead count old mid
  adds_spent is step = adds_of endings.Spent is (spent_answers None parts [] budget t f.found (step.given.0 ∙ f.problem) (step.given.1 ∙ f.begun) (step.given.2 ∙ f.spends) (step.charged f.found f.so_far) (step.stops spent_found).0 tt)

  -- a vector more was found
  module _ (step : Advances s steps.Found t) where
    -- the number stays in range
    pub in_range : count + 1 ≤ budget
    in_range =
        let few = f.few in
        let n = f.count_is in
        let costs = step.costs refl in
        let within = (step.charged f.found f.so_far).within in
        let spends = step.given.2 ∙ f.spends in
        omega (arith, few, n, costs, within, spends)

    module _ (a : Analysis) (is : a ≡ analysis_of parts t.last) (new : Option (List ℕ)) where
      pub laid_more : Appends mid new (led_block lead parts (count + 1) a) → Laid lead parts budget t (count + 1) old new
      laid_more added =
          let k = f.count_is in
          let n = length-append f.found (t.last ∷ []) in
          let few = f.few in
          let costs = step.costs refl in
          record {
            problem = step.given.0 ∙ f.problem;
            begun = step.given.1 ∙ f.begun;
            spends = step.given.2 ∙ f.spends;
            open_still = (step.found refl).1;
            found = f.found ++ t.last ∷ [];
            so_far = step.charged f.found f.so_far;
            count_is = omega (arith, k, n);
            few = omega (arith, few, n, costs);
            written = subst (Appends old new) (sym (led_more lead parts f.found t.last (count + 1) (omega (arith, k)))) (appends_both f.written (subst (λ z. Appends mid new (led_block lead parts (count + 1) z)) is added));
          }

      -- the sink failed at it, so a front of what the search finds was added
      pub block_failed : IsProblem parts → AppendsFront mid new (led_block lead parts (count + 1) a) → (ending : Ending) (analyses : List Analysis) → Finds ending budget parts analyses → AppendsFront old new (led_blocks lead parts analyses)
      block_failed right failed ending analyses p =
          let all : List (List ℕ) = f.found ++ t.last ∷ [] in
          let k : ℕ = length all in
          let e = f.count_is in
          let answered = first_answers (Some k) parts [] budget t all (step.given.0 ∙ f.problem) (step.given.1 ∙ f.begun) (step.given.2 ∙ f.spends) (step.charged f.found f.so_far) refl in
          let vectors = boxed_listing parts right [] p.solutions p.solutions_are in
          let ends = ending_of endings.First (shape parts) (Boxed parts) [] budget (Some k) all answered p.counted (map (vector parts) p.solutions) p.counted_are vectors in
          let front_is : map (analysis_of parts) all ≡ take k p.solutions =
          ap (map (analysis_of parts)) ends.0 ∙ sym (take-map (analysis_of parts) k (map (vector parts) p.solutions)) ∙ ap (take k) (analyses_back parts right p.solutions p.solutions_are.each) in
          let long : k ≤ length (map (vector parts) p.solutions) = (let t = ap length ends.0 in let u = length-take k (map (vector parts) p.solutions) in omega (arith, t, u)) in
          let within : k ≤ p.number = most_found ending budget parts p.counted p.solutions p.number k p.end ends.1.1 long in
          let list : List Analysis = take p.number p.solutions in
          let parted : map (analysis_of parts) all ++ drop k list ≡ list = ap (λ z. z ++ drop k list) (front_is ∙ sym (take-take k p.number p.solutions within)) ∙ take-append-drop k list in
          let some : 0 < length (map (analysis_of parts) all) = (let l = length-map all (analysis_of parts) in let n = length-append f.found (t.last ∷ []) in omega (arith, l, n)) in
          let tail : List ℕ = blocks forms.One parts (1 + length (map (analysis_of parts) all)) (drop k list) in
          let text_is : (led_blocks lead parts (map (analysis_of parts) f.found) ++ led_block lead parts (count + 1) (analysis_of parts t.last)) ++ tail ≡ led_blocks lead parts analyses =
          ap (λ z. z ++ tail) (sym (led_more lead parts f.found t.last (count + 1) (omega (arith, e)))) ∙ sym (led_front lead parts (map (analysis_of parts) all) (drop k list) some) ∙ ap (led_blocks lead parts) (parted ∙ sym p.analyses_are) in
          subst (AppendsFront old new) text_is (front_of_first tail (front_of_second f.written (subst (λ z. AppendsFront mid new (led_block lead parts (count + 1) z)) is failed)))
