-- Rounds come to one thing.
use Rattle.std.proofs.Common.{◌≡◌, ◌∙◌, ℕ, ◌-◌, ◌<◌, inl, inr, Bool, List, ◌∷◌, ◌++◌, length, take, arith, sym, ap, subst, nat_lt, Some, None}
use Rattle.std.specs.Prelude.{Option, filter}
use Rattle.xdg_best.specs.declared.rounds.BestAnswer.{BestAnswer}
use Rattle.xdg_best.specs.Best.{IsOneAnswer}
use Rattle.xdg_best.specs.Rounds.{Finds, FindsNone, Rounds, used_up, ends, goes_on, round_parts, found_cost}
use Rattle.xdg_best.proofs.Found.{vector_whole}
use Rattle.xdg_facts.specs.Whole.{is_whole}
use Rattle.xdg_facts.proofs.Ordered.{three_cases}
use Rattle.xdg_facts.proofs.Unique.{listing_unique}
use Rattle.xdg_problem.specs.declared.analysis.Analysis.{Analysis}
use Rattle.xdg_problem.specs.declared.parts.Parts.{Parts}
use Rattle.xdg_problem.specs.Costs.{CostLists, cost_of}
use Rattle.xdg_problem.specs.Further.{bound_of, FurtherLaws}
use Rattle.xdg_problem.specs.Problems.{IsProblem}
use Rattle.xdg_problem.specs.Vectors.{analysis_of, shape, vector}
use Rattle.xdg_problem.proofs.OneToOne.{one_to_one}
use Rattle.xdg_rules.specs.Boxed.{Boxed}
use Rattle.xdg_stream.specs.Streamed.{start_vector}
use Rattle.xdg_facts.proofs.Filters.{no_member}
use Rattle.xdg_facts.proofs.In.{in_front, in_middle, same_front}

-- ---- a round

module _ (parts : Parts) (is : IsProblem parts) (start : List ℕ) (budget : ℕ) where
  -- no round both finds something and doesn't
  not_both : (spent : Bool) (a : Analysis) (k : ℕ) → FindsNone parts start budget spent → Finds parts start budget a k → ⊥
  not_both spent a k none f =
      let same = listing_unique (shape parts) (Boxed parts) start none.counted (f.before ++ vector parts a ∷ f.behind) none.counted_are f.counted in
      let place = f.place_is in
      let within = f.within in
      no_member (is_whole (shape parts)) (take budget (f.before ++ vector parts a ∷ f.behind)) (vector parts a) (ap (λ z. filter (is_whole (shape parts)) (take budget z)) (sym same) ∙ none.none)
      (in_front budget f.before (vector parts a) f.behind (omega (arith, place, within))) (vector_whole parts is a f.fits)

  -- it ends in one way
  one_end : (spent other : Bool) → FindsNone parts start budget spent → FindsNone parts start budget other → spent ≡ other
  one_end spent other f g = f.spent_is ∙ ap (λ z. nat_lt budget (length z)) (listing_unique (shape parts) (Boxed parts) start f.counted g.counted f.counted_are g.counted_are) ∙ sym g.spent_is

  not_later : (a b : Analysis) (k n : ℕ) → (f : Finds parts start budget a k) (g : Finds parts start budget b n) → length f.before < length g.before → ⊥
  not_later a b k n f g less =
      let same = listing_unique (shape parts) (Boxed parts) start (f.before ++ vector parts a ∷ f.behind) (g.before ++ vector parts b ∷ g.behind) f.counted g.counted in
      no_member (is_whole (shape parts)) g.before (vector parts a) g.first (in_middle f.before (vector parts b ∷ g.behind) (vector parts a) f.behind g.before same less) (vector_whole parts is a f.fits)

  -- it finds one thing, at one place
  one_find : (a b : Analysis) (k n : ℕ) → Finds parts start budget a k → Finds parts start budget b n → (a ≡ b) × (k ≡ n)
  one_find a b k n f g =
      let same = listing_unique (shape parts) (Boxed parts) start (f.before ++ vector parts a ∷ f.behind) (g.before ++ vector parts b ∷ g.behind) f.counted g.counted in
      let one = one_to_one parts is in
      let lengths : length f.before ≡ length g.before = equal (length f.before) (length g.before) (not_later a b k n f g) (not_later b a n k g f) in
      let vectors = same_front f.before g.before (vector parts a) (vector parts b) f.behind g.behind same lengths in
      let at = f.place_is in
      let other = g.place_is in
      (sym (one.forth a f.fits) ∙ ap (analysis_of parts) vectors ∙ one.forth b g.fits, omega (arith, at, other, lengths))
    where
      equal : (x y : ℕ) → (x < y → ⊥) → (y < x → ⊥) → x ≡ y
      equal x y f g = elim (three_cases x y) [ inl l ↦ absurd (f l) | inr r ↦ elim r [ inl e ↦ e | inr l ↦ absurd (g l) ] ]

-- ---- rounds

module _ (parts : Parts) (costs : CostLists) (is : IsProblem parts) (laws : (bound : ℕ) → FurtherLaws parts (bound_of parts costs bound) (λ analysis. cost_of costs analysis < bound)) where
  round_problem : (last : Option Analysis) → IsProblem (round_parts parts costs last)
  round_problem None = is
  round_problem (Some last) = (laws (cost_of costs last)).problem

  one_rounds : (found other : Option Analysis) (spent also : Bool) (last : Option Analysis) (left : ℕ) → Rounds parts costs found spent last left → Rounds parts costs other also last left → (found ≡ other) × (spent ≡ also)
  one_rounds found other spent also last left (used_up _ _ none same used) (used_up _ _ none2 same2 used2) = (same ∙ sym same2, used ∙ sym used2)
  one_rounds found other spent also last left (used_up _ _ none same used) (ends _ _ some f same2) = absurd (omega (arith, none, some))
  one_rounds found other spent also last left (used_up _ _ none same used) (goes_on _ _ next place f more) = absurd (let at = f.place_is in let within = f.within in omega (arith, none, at, within))
  one_rounds found other spent also last left (ends _ _ some f same) (used_up _ _ none2 same2 used2) = absurd (omega (arith, none2, some))
  one_rounds found other spent also last left (ends _ _ some f same) (ends _ _ some2 g same2) = (same ∙ sym same2, one_end (round_parts parts costs last) (round_problem last) (start_vector parts last) left spent also f g)
  one_rounds found other spent also last left (ends _ _ some f same) (goes_on _ _ next place g more) = absurd (not_both (round_parts parts costs last) (round_problem last) (start_vector parts last) left spent next place f g)
  one_rounds found other spent also last left (goes_on _ _ next place f more) (used_up _ _ none2 same2 used2) = absurd (let at = f.place_is in let within = f.within in omega (arith, none2, at, within))
  one_rounds found other spent also last left (goes_on _ _ next place f more) (ends _ _ some2 g same2) = absurd (not_both (round_parts parts costs last) (round_problem last) (start_vector parts last) left also next place g f)
  one_rounds found other spent also last left (goes_on _ _ next place f more) (goes_on _ _ next2 place2 g more2) =
      let same = one_find (round_parts parts costs last) (round_problem last) (start_vector parts last) left next next2 place place2 f g in
      one_rounds found other spent also (Some next) (left - place) more
      (subst (λ a. Rounds parts costs other also (Some a) (left - place)) (sym same.0) (subst (λ k. Rounds parts costs other also (Some next2) (left - k)) (sym same.1) more2))

  pub one_answer : (budget : ℕ) → IsOneAnswer parts costs budget
  one_answer budget one other p q =
      let same = one_rounds one.found other.found one.spent other.spent None budget p.rounds q.rounds in
      let cost : one.cost ≡ other.cost = p.cost ∙ ap (found_cost costs) same.0 ∙ sym q.cost in
      (λ i. let made : BestAnswer = record { found = same.0 i; cost = cost i; spent = same.1 i } in made)
