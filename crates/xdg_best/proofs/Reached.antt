-- Rounds that are spent go through as many boxed prefixes of the problem without a bound as the budget has.
use Rattle.std.proofs.Common.{◌≡◌, ℕ, ◌+◌, ◌-◌, ◌≤◌, inl, inr, Bool, true, List, [], ◌∷◌, ◌++◌, length, take, drop, arith, refl, sym, subst, length-append, append_assoc, take-append-drop, length-take, Some, None}
use Rattle.std.specs.Prelude.{Option}
use Rattle.std.specs.List.{AllByRecursion}
use Rattle.std.proofs.lemmas.Bool.{ltb-true}
use Rattle.xdg_best.specs.Rounds.{Finds, FindsNone, Rounds, used_up, ends, goes_on, round_parts}
use Rattle.xdg_best.proofs.Unbounded.{unbounded}
use Rattle.xdg_facts.specs.Fits.{Fits}
use Rattle.xdg_facts.specs.Listing.{IsListing, RisesFrom}
use Rattle.xdg_facts.specs.Order.{AtMost}
use Rattle.xdg_facts.proofs.Ordered.{at_most_transitive, least_start}
use Rattle.xdg_facts.proofs.Unique.{rises_above, before_item, no_longer, from_left}
use Rattle.xdg_problem.specs.declared.analysis.Analysis.{Analysis}
use Rattle.xdg_problem.specs.declared.parts.Parts.{Parts}
use Rattle.xdg_problem.specs.Costs.{CostLists, cost_of}
use Rattle.xdg_problem.specs.Further.{bound_of, with_uses}
use Rattle.xdg_problem.specs.Vectors.{shape, vector}
use Rattle.xdg_rules.specs.Boxed.{Boxed}
use Rattle.xdg_facts.proofs.Joined.{joined_rises}
use Rattle.xdg_stream.specs.Streamed.{start_vector}
use Rattle.xdg_facts.proofs.Each.{each_weaker, each_append, each_left}
use Rattle.xdg_facts.proofs.In.{in_right}

module _ (parts : Parts) (costs : CostLists) where
  -- boxed prefixes of the problem up to a start, each once, and how many
  pub record Passed (start : List ℕ) (n : ℕ) : Type 0 where
    pub passed : List (List ℕ)
    pub rises : RisesFrom [] passed
    pub each : AllByRecursion (λ x. Fits (shape parts) x × Boxed parts x) passed
    pub before : AllByRecursion (λ x. AtMost x start) passed
    pub count : length passed ≡ n

  pub passed_none : Passed [] 0
  passed_none = record { passed = []; rises = tt; each = tt; before = tt; count = refl }

  -- the boxed prefixes of a round are boxed without its bound
  round_counted : (last : Option Analysis) (xs : List (List ℕ)) → AllByRecursion (λ x. Fits (shape (round_parts parts costs last)) x × Boxed (round_parts parts costs last) x) xs → AllByRecursion (λ x. Fits (shape parts) x × Boxed parts x) xs
  round_counted None xs each = each
  round_counted (Some last) xs each =
      let uses = bound_of parts costs (cost_of costs last) in
      each_weaker (λ x. Fits (shape (with_uses parts uses)) x × Boxed (with_uses parts uses) x) (λ x. Fits (shape parts) x × Boxed parts x) xs (λ x h. (h.0, unbounded parts uses x h.1)) each

  round_vector : (last : Option Analysis) (a : Analysis) → vector (round_parts parts costs last) a ≡ vector parts a
  round_vector None a = refl
  round_vector (Some last) a = refl

  -- a rising list more
  passed_on : (start to : List ℕ) (n : ℕ) (p : Passed start n) (ys : List (List ℕ)) → RisesFrom start ys → AllByRecursion (λ x. Fits (shape parts) x × Boxed parts x) ys → AtMost start to → AllByRecursion (λ y. AtMost y to) ys → Passed to (n + length ys)
  passed_on start to n p ys rises each below all =
      let l = length-append p.passed ys in
      let c = p.count in
      record {
        passed = p.passed ++ ys;
        rises = joined_rises [] start p.passed ys (least_start start) p.before p.rises rises;
        each = each_append (λ x. Fits (shape parts) x × Boxed parts x) p.passed ys p.each each;
        before = each_append (λ y. AtMost y to) p.passed ys (each_weaker (λ x. AtMost x start) (λ x. AtMost x to) p.passed (λ x h. at_most_transitive x start to h below) p.before) all;
        count = omega (arith, l, c);
      }

  -- those up to a find
  passed_find : (last : Option Analysis) (n budget : ℕ) (a : Analysis) (k : ℕ) → Passed (start_vector parts last) n → Finds (round_parts parts costs last) (start_vector parts last) budget a k → Passed (vector parts a) (n + k)
  passed_find last n budget a k p f =
      let v = vector (round_parts parts costs last) a in
      let start = start_vector parts last in
      let split : f.before ++ v ∷ f.behind ≡ (f.before ++ v ∷ []) ++ f.behind = sym (append_assoc f.before (v ∷ []) f.behind) in
      let rises : RisesFrom start (f.before ++ v ∷ []) = from_left start (f.before ++ v ∷ []) f.behind (subst (RisesFrom start) split f.counted.rises) in
      let each = round_counted last (f.before ++ v ∷ []) (each_left (λ x. Fits (shape (round_parts parts costs last)) x × Boxed (round_parts parts costs last) x) (f.before ++ v ∷ []) f.behind
      (subst (AllByRecursion (λ x. Fits (shape (round_parts parts costs last)) x × Boxed (round_parts parts costs last) x)) split f.counted.each)) in
      let l = length-append f.before (v ∷ []) in
      let place = f.place_is in
      let below : AtMost start v = inr (rises_above start v (f.before ++ v ∷ f.behind) f.counted.rises (in_right f.before (v ∷ f.behind) v (inl refl))) in
      let all : AllByRecursion (λ y. AtMost y v) (f.before ++ v ∷ []) = each_append (λ y. AtMost y v) f.before (v ∷ []) (before_item start f.before v f.behind f.counted.rises) (inl refl, tt) in
      let done = passed_on start v n p (f.before ++ v ∷ []) rises each below all in
      subst (λ m. Passed (vector parts a) m) (let same : n + length (f.before ++ v ∷ []) ≡ n + k = omega (arith, l, place) in same)
      (subst (λ z. Passed z (n + length (f.before ++ v ∷ []))) (round_vector last a) done)

  -- those that a spent round charges
  passed_spent : (last : Option Analysis) (n budget : ℕ) → Passed (start_vector parts last) n → FindsNone (round_parts parts costs last) (start_vector parts last) budget true
      → (counted : List (List ℕ)) → IsListing (shape parts) (Boxed parts) [] counted → n + budget ≤ length counted
  passed_spent last n budget p f counted listing =
      let start = start_vector parts last in
      let split : f.counted ≡ take budget f.counted ++ drop budget f.counted = sym (take-append-drop budget f.counted) in
      let rises = from_left start (take budget f.counted) (drop budget f.counted) (subst (RisesFrom start) split f.counted_are.rises) in
      let each = round_counted last (take budget f.counted) (each_left (λ x. Fits (shape (round_parts parts costs last)) x × Boxed (round_parts parts costs last) x) (take budget f.counted) (drop budget f.counted)
      (subst (AllByRecursion (λ x. Fits (shape (round_parts parts costs last)) x × Boxed (round_parts parts costs last) x)) split f.counted_are.each)) in
      let more = ltb-true budget (length f.counted) (sym f.spent_is) in
      let l = length-take budget f.counted in
      let all = joined_rises [] start p.passed (take budget f.counted) (least_start start) p.before p.rises rises in
      let shorter = no_longer (shape parts) (Boxed parts) counted [] [] (p.passed ++ take budget f.counted) listing (inl refl) all (each_append (λ x. Fits (shape parts) x × Boxed parts x) p.passed (take budget f.counted) p.each each) in
      let m = length-append p.passed (take budget f.counted) in
      let c = p.count in
      omega (arith, shorter, m, l, more, c)

  passed_all : (start : List ℕ) (n : ℕ) → Passed start n → (counted : List (List ℕ)) → IsListing (shape parts) (Boxed parts) [] counted → n ≤ length counted
  passed_all start n p counted listing =
      let shorter = no_longer (shape parts) (Boxed parts) counted [] [] p.passed listing (inl refl) p.rises p.each in
      let c = p.count in
      omega (arith, shorter, c)

  pub rounds_reached : (found : Option Analysis) (spent : Bool) (last : Option Analysis) (left n : ℕ) → Rounds parts costs found spent last left → spent ≡ true → Passed (start_vector parts last) n
      → (counted : List (List ℕ)) → IsListing (shape parts) (Boxed parts) [] counted → n + left ≤ length counted
  rounds_reached found spent last left n (used_up _ _ none same used) is p counted listing = let shorter = passed_all (start_vector parts last) n p counted listing in omega (arith, shorter, none)
  rounds_reached found spent last left n (ends _ _ some none same) is p counted listing =
      passed_spent last n left p (subst (FindsNone (round_parts parts costs last) (start_vector parts last) left) is none) counted listing
  rounds_reached found spent last left n (goes_on _ _ next place f more) is p counted listing =
      let within = f.within in
      let rest = rounds_reached found spent (Some next) (left - place) (n + place) more is (passed_find last n left next place p f) counted listing in
      omega (arith, within, rest)
