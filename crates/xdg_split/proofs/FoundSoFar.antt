-- What a stream has found, and what is printed of it so far.
use Rattle.std.proofs.Common.{◌≡◌, ℕ, ◌≤◌, ◌+◌, List, [], ◌∷◌, ◌++◌, length, map, refl, ap, sym, ◌∙◌, subst, arith, append_assoc, append-nil, length-append, Some, None}
use Rattle.std.specs.Prelude.{Option}
use Rattle.std.proofs.lemmas.List.{length-map, map-append}
use Rattle.xdg_base.specs.declared.ids.EntryNo.{EntryNo}
use Rattle.xdg_io.specs.Held.{Appends}
use Rattle.xdg_io.proofs.Written.{appends_both}
use Rattle.xdg_facts.specs.Answered.{Answered, Drawn}
use Rattle.xdg_facts.specs.Endings.{IsBelow, IsAt}
use Rattle.xdg_facts.specs.declared.Ending.{Ending}
use Rattle.xdg_facts.specs.declared.Ending.TheVariants as endings
use Rattle.xdg_problem.specs.declared.analysis.Analysis.{Analysis}
use Rattle.xdg_problem.specs.declared.analysis.Edge.{Edge}
use Rattle.xdg_problem.specs.declared.parts.Parts.{Parts}
use Rattle.xdg_problem.specs.Vectors.{shape, analysis_of}
use Rattle.xdg_rules.specs.Boxed.{Boxed}
use Rattle.xdg_stream.specs.declared.search.Step.{Step}
use Rattle.xdg_stream.specs.declared.search.Step.TheVariants as steps
use Rattle.xdg_stream.specs.Streamed.{Streamed, Leaves, IsCharged, Advances}
use Rattle.xdg_stream.proofs.Streaming.{end_found, spent_found}
use Rattle.xdg_text.specs.declared.form.Form.{Form}
use Rattle.xdg_text.specs.Blocks.{shown}
use Rattle.xdg_split.specs.Printed.{blocks}
use Rattle.xdg_facts.proofs.Lists.{counted_more}
use Rattle.xdg_facts.proofs.Wanted.{below_more}

-- The blocks of the vectors that were found are printed, and the stream, which began right behind a start, goes on.
pub record Found (form : Form) (wanted : Option ℕ) (parts : Parts) (start : List ℕ) (budget : ℕ) (s : Streamed) (count : ℕ) (old new : Option (List ℕ)) : Type 0 where
  pub problem : s.parts ≡ parts
  pub begun : s.start ≡ start
  pub spends : s.budget ≡ budget
  pub open_still : s.ended ≡ None
  pub found : List (List ℕ)
  pub so_far : IsCharged s found
  pub count_is : count ≡ length found
  pub few : length found ≤ s.charged
  pub below : IsBelow (length found) wanted
  pub written : Appends old new (blocks form parts 1 (map (analysis_of parts) found))

-- the blocks of a front of a list are a front of its blocks
pub blocks_front : (form : Form) (parts : Parts) (number : ℕ) (list more : List Analysis) → blocks form parts number (list ++ more) ≡ blocks form parts number list ++ blocks form parts (number + length list) more
blocks_front form parts number [] more = let n : number ≡ number + 0 = omega arith in ap (λ k. blocks form parts k more) n
blocks_front form parts number (a ∷ list) more =
    let n : (number + 1) + length list ≡ number + length (a ∷ list) = omega arith in
    ap (λ z. shown form parts number a ++ z) (blocks_front form parts (number + 1) list more ∙ ap (λ k. blocks form parts (number + 1) list ++ blocks form parts k more) n)
    ∙ sym (append_assoc (shown form parts number a) (blocks form parts (number + 1) list) (blocks form parts (number + length (a ∷ list)) more))

-- a block more is the blocks before and its own
blocks_more : (form : Form) (parts : Parts) (number : ℕ) (list : List Analysis) (a : Analysis) → blocks form parts number (list ++ a ∷ []) ≡ blocks form parts number list ++ shown form parts (number + length list) a
blocks_more form parts number list a = blocks_front form parts number list (a ∷ []) ∙ ap (λ z. blocks form parts number list ++ z) (append-nil (shown form parts (number + length list) a))

pub map_more : (parts : Parts) (found : List (List ℕ)) (x : List ℕ) → map (analysis_of parts) (found ++ x ∷ []) ≡ map (analysis_of parts) found ++ analysis_of parts x ∷ []
map_more parts found x = map-append (analysis_of parts) found (x ∷ [])

-- the block of one more vector
pub blocks_found : (form : Form) (parts : Parts) (found : List (List ℕ)) (x : List ℕ) (count : ℕ) → count ≡ length found + 1 → blocks form parts 1 (map (analysis_of parts) (found ++ x ∷ [])) ≡ blocks form parts 1 (map (analysis_of parts) found) ++ shown form parts count (analysis_of parts x)
blocks_found form parts found x count e =
    let n : 1 + length (map (analysis_of parts) found) ≡ count = (let l : length (map (analysis_of parts) found) ≡ length found = length-map found (analysis_of parts) in omega (arith, l, e)) in
    ap (blocks form parts 1) (map_more parts found x)
    ∙ blocks_more form parts 1 (map (analysis_of parts) found) (analysis_of parts x)
    ∙ ap (λ k. blocks form parts 1 (map (analysis_of parts) found) ++ shown form parts k (analysis_of parts x)) n

-- three lists that are those of an analysis are the analysis
pub analysis_is : (parts held : Parts) (x : List ℕ) (entries : List EntryNo) (attrs : List ℕ) (edges : List Edge) → held ≡ parts → entries ≡ (analysis_of held x).entries → attrs ≡ (analysis_of held x).attrs → edges ≡ (analysis_of held x).edges → record { entries = entries; attrs = attrs; edges = edges } ≡ analysis_of parts x
analysis_is parts held x entries attrs edges e p q r =
    let A : Analysis = analysis_of held x in
    let one : List EntryNo → Analysis = λ z. record { entries = z; attrs = attrs; edges = edges } in
    let two : List ℕ → Analysis = λ z. record { entries = A.entries; attrs = z; edges = edges } in
    let three : List Edge → Analysis = λ z. record { entries = A.entries; attrs = A.attrs; edges = z } in
    ap one p ∙ ap two q ∙ ap three r ∙ ap (λ z. analysis_of z x) e

-- the answers of a stream, by how it has ended
module _ (wanted : Option ℕ) (parts : Parts) (start : List ℕ) (budget : ℕ) (s : Streamed) (found : List (List ℕ)) (problem : s.parts ≡ parts) (begun : s.start ≡ start) (spends : s.budget ≡ budget) (so_far : IsCharged s found) where
  moved : (ending : Ending) → Answered ending (shape s.parts) (Boxed s.parts) s.start s.budget wanted found → Answered ending (shape parts) (Boxed parts) start budget wanted found
  moved ending answered =
      subst (λ p. Answered ending (shape p) (Boxed p) start budget wanted found) problem
      (subst (λ z. Answered ending (shape s.parts) (Boxed s.parts) z budget wanted found) begun
      (subst (λ b. Answered ending (shape s.parts) (Boxed s.parts) s.start b wanted found) spends answered))

  left : (step : Step) → s.ended ≡ Some step → Leaves (Some step) s.parts s.front s.charged s.budget
  left step e = subst (λ d. Leaves d s.parts s.front s.charged s.budget) e so_far.leaves

  pub first_answers : IsAt (length found) wanted → Answered endings.First (shape parts) (Boxed parts) start budget wanted found
  first_answers at = moved endings.First (s.front, s.charged, so_far.drawn, so_far.within, at)

  pub all_answers : s.ended ≡ Some steps.End → IsBelow (length found) wanted → Answered endings.Complete (shape parts) (Boxed parts) start budget wanted found
  all_answers e below = moved endings.Complete (s.front, s.charged, so_far.drawn, left steps.End e, so_far.within, below)

  pub spent_answers : s.ended ≡ Some steps.Spent → IsBelow (length found) wanted → Answered endings.Spent (shape parts) (Boxed parts) start budget wanted found
  spent_answers e below =
      let rest = left steps.Spent e in
      moved endings.Spent (s.front, subst (λ n. Drawn (shape s.parts) (Boxed s.parts) s.start s.front n found) rest.0 so_far.drawn, rest.1, below)

-- one more call
module _ {form : Form} {wanted : Option ℕ} {parts : Parts} {start : List ℕ} {budget : ℕ} {s t : Streamed} {count : ℕ} {old mid : Option (List ℕ)} (f : Found form wanted parts start budget s count old mid) where
  -- nothing more was found
  pub complete_answered : Advances s steps.End t → Answered endings.Complete (shape parts) (Boxed parts) start budget wanted f.found
  complete_answered step = all_answers wanted parts start budget t f.found (step.given.0 ∙ f.problem) (step.given.1 ∙ f.begun) (step.given.2 ∙ f.spends) (step.charged f.found f.so_far) (step.stops end_found).0 f.below

  pub spent_answered : Advances s steps.Spent t → Answered endings.Spent (shape parts) (Boxed parts) start budget wanted f.found
  spent_answered step = spent_answers wanted parts start budget t f.found (step.given.0 ∙ f.problem) (step.given.1 ∙ f.begun) (step.given.2 ∙ f.spends) (step.charged f.found f.so_far) (step.stops spent_found).0 f.below

  -- a vector more was found
  module _ (step : Advances s steps.Found t) where
    -- as many as were found are answers of a search that wants so many
    pub found_answered : Answered endings.First (shape parts) (Boxed parts) start budget (Some (length (f.found ++ t.last ∷ []))) (f.found ++ t.last ∷ [])
    found_answered = first_answers (Some (length (f.found ++ t.last ∷ []))) parts start budget t (f.found ++ t.last ∷ []) (step.given.0 ∙ f.problem) (step.given.1 ∙ f.begun) (step.given.2 ∙ f.spends) (step.charged f.found f.so_far) refl

    -- and of this one, where they are as many as wanted
    pub first_answered : wanted ≡ Some (count + 1) → Answered endings.First (shape parts) (Boxed parts) start budget wanted (f.found ++ t.last ∷ [])
    first_answered e = subst (λ z. Answered endings.First (shape parts) (Boxed parts) start budget z (f.found ++ t.last ∷ [])) (sym (e ∙ ap Some (counted_more f.found t.last count f.count_is))) found_answered

    module _ (a : Analysis) (is : a ≡ analysis_of parts t.last) (new : Option (List ℕ)) (added : Appends mid new (shown form parts (count + 1) a)) where
      -- its block stands behind those that are printed
      pub written_more : Appends old new (blocks form parts 1 (map (analysis_of parts) (f.found ++ t.last ∷ [])))
      written_more =
          let k = f.count_is in
          subst (Appends old new) (sym (blocks_found form parts f.found t.last (count + 1) (omega (arith, k)))) (appends_both f.written (subst (λ z. Appends mid new (shown form parts (count + 1) z)) is added))

      pub found_more : (wanted ≡ Some (count + 1) → ⊥) → Found form wanted parts start budget t (count + 1) old new
      found_more other =
          let k = f.count_is in
          let n = length-append f.found (t.last ∷ []) in
          let few = f.few in
          let costs = step.costs refl in
          record {
            problem = step.given.0 ∙ f.problem;
            begun = step.given.1 ∙ f.begun;
            spends = step.given.2 ∙ f.spends;
            open_still = (step.found refl).1;
            found = f.found ++ t.last ∷ [];
            so_far = step.charged f.found f.so_far;
            count_is = omega (arith, k, n);
            few = omega (arith, few, n, costs);
            below = below_more wanted (length f.found) (length (f.found ++ t.last ∷ [])) f.below (omega (arith, n)) (λ e. other (e ∙ ap Some (omega (arith, k, n))));
            written = written_more;
          }
