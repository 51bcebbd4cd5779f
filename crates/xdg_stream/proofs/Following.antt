-- What a search passes by numbers that are forced.
use Rattle.std.proofs.Common.{◌≡◌, ◌≢◌, ℕ, zero, suc, ◌≤◌, ◌+◌, List, [], ◌∷◌, ◌++◌, length, ap, sym, ◌∙◌, arith, subst}
use Rattle.std.proofs.lemmas.List.{append-nil}
use Rattle.xdg_facts.specs.Order.{Less}
use Rattle.xdg_facts.specs.Fits.{Fits}
use Rattle.xdg_facts.specs.Closed.{Closed}
use Rattle.xdg_facts.specs.Passed.{Finds}
use Rattle.xdg_facts.proofs.Fitting.{fits_last, more_left, smaller_fits}
use Rattle.xdg_stream.specs.Forced.{IsForced, AreForced}
use Rattle.xdg_stream.specs.Problem.{SameProblem}
use Rattle.xdg_stream.specs.Place.{place}
use Rattle.xdg_stream.proofs.Passing.{Passes, passes_refused, passes_taken, finds_taken}
use Rattle.xdg_facts.proofs.Fronts.{pushed_front}
use Rattle.xdg_facts.proofs.Measure.{ahead, ahead_taken, ahead_first}

-- what is forced in a problem is so in the same problem
pub forced_same : (shape : List ℕ) (P : List ℕ → Type 0) (later : List ℕ) (Q : List ℕ → Type 0) (p t : List ℕ) → SameProblem shape P later Q → AreForced later Q p t → AreForced shape P p t
forced_same shape P later Q p [] s h = tt
forced_same shape P later Q p (v ∷ t) s h = (
  record {
    fits = subst (λ z. Fits z (p ++ v ∷ [])) s.sizes h.0.fits;
    counts = (s.counts (p ++ v ∷ [])).0 h.0.counts;
    alone = λ u f c. h.0.alone u (subst (λ z. Fits z (p ++ u ∷ [])) (sym s.sizes) f) ((s.counts (p ++ u ∷ [])).1 c);
  },
  forced_same shape P later Q (p ++ v ∷ []) t s h.1,
)

pub forced_fits : (shape : List ℕ) (P : List ℕ → Type 0) (p t : List ℕ) → Fits shape p → AreForced shape P p t → Fits shape (p ++ t)
forced_fits shape P p [] f h = subst (Fits shape) (sym (append-nil p)) f
forced_fits shape P p (v ∷ t) f h = subst (Fits shape) (pushed_front p t v) (forced_fits shape P (p ++ v ∷ []) t h.0.fits h.1)

pub forced_counts : (shape : List ℕ) (P : List ℕ → Type 0) (p t : List ℕ) → P p → AreForced shape P p t → P (p ++ t)
forced_counts shape P p [] c h = subst P (sym (append-nil p)) c
forced_counts shape P p (v ∷ t) c h = subst P (pushed_front p t v) (forced_counts shape P (p ++ v ∷ []) t h.0.counts h.1)

-- the numbers below the forced one are passed
passes_up : (shape : List ℕ) (P : List ℕ → Type 0) (from p : List ℕ) (u v n : ℕ) (kept now : List ℕ) → Closed P → IsForced shape P p v → u ≤ v → Passes shape P from (p ++ 0 ∷ []) n kept now → Passes shape P from (p ++ u ∷ []) n kept now
passes_up shape P from p zero v n kept now closed h l r = r
passes_up shape P from p (suc u) v n kept now closed h l r =
    let denied : P (p ++ u ∷ []) → ⊥ = λ c. let e = h.alone u (smaller_fits shape p u v (omega arith) h.fits) c in omega (arith, e) in
    let e : u + 1 ≡ suc u = omega arith in
    subst (λ i. Passes shape P from (p ++ i ∷ []) n kept now) e (passes_refused shape P from p u n kept now closed denied (passes_up shape P from p u v n kept now closed h (omega arith) r))

module _ (shape : List ℕ) (P : List ℕ → Type 0) (from : List ℕ) (kept : List ℕ) (closed : Closed P) where
  -- a counted prefix is charged, and the forced number behind it is next
  next_forced : (grown t : List ℕ) (v n : ℕ) (now : List ℕ) → Fits shape grown → P grown → AreForced shape P grown (v ∷ t) → Passes shape P from grown n kept now → Passes shape P from (grown ++ v ∷ []) (n + 1) kept grown
  next_forced grown t v n now f c h r =
      passes_up shape P from grown v v (n + 1) kept grown closed h.0 (omega arith) (passes_taken shape P from grown n kept now f c (more_left shape grown t v (forced_fits shape P grown (v ∷ t) f h)) r)

  -- forced numbers, behind which something is left to decide
  pub passes_follow : (grown t : List ℕ) (n : ℕ) (now : List ℕ) → Fits shape grown → P grown → AreForced shape P grown t → length (grown ++ t) ≢ length shape → Passes shape P from grown n kept now
      → Passes shape P from (place (grown ++ t) 0) ((n + 1) + length t) kept (grown ++ t)
  passes_follow grown [] n now f c h short r =
      let e : n + 1 ≡ (n + 1) + 0 = omega arith in
      subst (λ z. Passes shape P from (place z 0) ((n + 1) + 0) kept z) (sym (append-nil grown))
      (subst (λ i. Passes shape P from (place grown 0) i kept grown) e (passes_taken shape P from grown n kept now f c (λ w. short (ap length (append-nil grown) ∙ w)) r))
  passes_follow grown (v ∷ t) n now f c h short r =
      let rest = passes_follow (grown ++ v ∷ []) t (n + 1) grown h.0.fits h.0.counts h.1 (λ w. short (ap length (sym (pushed_front grown t v)) ∙ w)) (next_forced grown t v n now f c h r) in
      let e : ((n + 1) + 1) + length t ≡ (n + 1) + length (v ∷ t) = omega arith in
      subst (λ z. Passes shape P from (place z 0) ((n + 1) + length (v ∷ t)) kept z) (pushed_front grown t v) (subst (λ i. Passes shape P from (place ((grown ++ v ∷ []) ++ t) 0) i kept ((grown ++ v ∷ []) ++ t)) e rest)

  -- forced numbers up to a whole vector
  pub finds_follow : (grown t : List ℕ) (n : ℕ) (now : List ℕ) → Fits shape grown → P grown → AreForced shape P grown t → length (grown ++ t) ≡ length shape → Passes shape P from grown n kept now
      → Less from (grown ++ t) × Finds shape P from (grown ++ t) ((n + 1) + length t)
  finds_follow grown [] n now f c h whole r =
      let e : n + 1 ≡ (n + 1) + 0 = omega arith in
      subst (λ z. Less from z × Finds shape P from z ((n + 1) + 0)) (sym (append-nil grown))
      (r.above, subst (Finds shape P from grown) e (finds_taken shape P from grown n kept now f c (ap length (sym (append-nil grown)) ∙ whole) r))
  finds_follow grown (v ∷ t) n now f c h whole r =
      let rest = finds_follow (grown ++ v ∷ []) t (n + 1) grown h.0.fits h.0.counts h.1 (ap length (pushed_front grown t v) ∙ whole) (next_forced grown t v n now f c h r) in
      let e : ((n + 1) + 1) + length t ≡ (n + 1) + length (v ∷ t) = omega arith in
      subst (λ z. Less from z × Finds shape P from z ((n + 1) + length (v ∷ t))) (pushed_front grown t v) (rest.0, subst (Finds shape P from ((grown ++ v ∷ []) ++ t)) e rest.1)

-- and each of them leaves fewer steps
pub ahead_follow : (shape : List ℕ) (P : List ℕ → Type 0) (p t : List ℕ) → AreForced shape P p t → ahead shape (place (p ++ t) 0) ≤ ahead shape (place p 0)
ahead_follow shape P p [] h = subst (λ z. ahead shape (place z 0) ≤ ahead shape (place p 0)) (sym (append-nil p)) (omega arith)
ahead_follow shape P p (v ∷ t) h =
    let a = ahead_follow shape P (p ++ v ∷ []) t h.1 in
    let b = ahead_taken shape p v (fits_last shape p v h.0.fits) in
    let c = ahead_first shape p v in
    subst (λ z. ahead shape (place z 0) ≤ ahead shape (place p 0)) (pushed_front p t v) (omega (arith, a, b, c))
