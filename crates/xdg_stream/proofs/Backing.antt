-- What a search leaves behind where it goes back.
use Rattle.std.proofs.Common.{ℕ, ◌≤◌, ◌+◌, List, [], ◌∷◌, ◌++◌, length, get_or, sym, subst}
use Rattle.std.proofs.lemmas.List.{append_assoc, append-nil}
use Rattle.xdg_facts.specs.Order.{AtMost, Less, Past}
use Rattle.xdg_facts.specs.Fits.{Fits}
use Rattle.xdg_facts.specs.Closed.{Closed}
use Rattle.xdg_facts.proofs.Fitting.{fits_front, past_range}
use Rattle.xdg_facts.proofs.Ordered.{past_step, less_back, past_split, past, greater}
use Rattle.xdg_stream.specs.Forced.{AreLast}
use Rattle.xdg_stream.specs.Problem.{SameProblem}
use Rattle.xdg_stream.proofs.Passing.{Passes, later}
use Rattle.xdg_facts.proofs.Lists.{some_behind}
use Rattle.xdg_facts.proofs.Fronts.{pushed_front}

pub last_same : (shape : List ℕ) (P : List ℕ → Type 0) (now : List ℕ) (Q : List ℕ → Type 0) (p t : List ℕ) → SameProblem shape P now Q → AreLast now Q p t → AreLast shape P p t
last_same shape P now Q p [] s h = tt
last_same shape P now Q p (v ∷ t) s h = (
  λ u l f c. h.0 u l (subst (λ z. Fits z (p ++ u ∷ [])) (sym s.sizes) f) ((s.counts (p ++ u ∷ [])).1 c),
  last_same shape P now Q (p ++ v ∷ []) t s h.1,
)

-- what is counted and doesn't come before a candidate that is out of range is past the front, down to where a greater number may be counted
past_all : (shape : List ℕ) (P : List ℕ → Type 0) (p t x : List ℕ) (v : ℕ) → Closed P → AreLast shape P p t → get_or shape (length (p ++ t)) 0 ≤ v → Fits shape x → P x → AtMost ((p ++ t) ++ v ∷ []) x → Past p x
past_all shape P p [] x v closed h out f c k =
    let e = append-nil p in
    past_range shape p x v (subst (λ z. get_or shape (length z) 0 ≤ v) e out) f (subst (λ z. AtMost (z ++ v ∷ []) x) e k)
past_all shape P p (w ∷ t) x v closed h out f c k =
    let e = sym (pushed_front p t w) in
    let q = past_all shape P (p ++ w ∷ []) t x v closed h.1 (subst (λ z. get_or shape (length z) 0 ≤ v) e out) f c (subst (λ z. AtMost (z ++ v ∷ []) x) e k) in
    elim (past_split p w x q) [
      | past r ↦ r
      | greater u s l i ↦ absurd (h.0 u l (fits_front shape (p ++ u ∷ []) s (subst (Fits shape) i f)) (closed (p ++ u ∷ []) s (some_behind p u) (subst P i c)))
    ]

-- back to where a greater number may be counted
pub passes_back : (shape : List ℕ) (P : List ℕ → Type 0) (from r t : List ℕ) (w v n : ℕ) (kept now : List ℕ) → Closed P → AreLast shape P (r ++ w ∷ []) t → get_or shape (length (r ++ w ∷ t)) 0 ≤ v → Passes shape P from ((r ++ w ∷ t) ++ v ∷ []) n kept now → Passes shape P from (r ++ (w + 1) ∷ []) n kept now
passes_back shape P from r t w v n kept now closed h out p =
    let e = sym (pushed_front r t w) in
    later shape P from ((r ++ w ∷ t) ++ v ∷ []) (r ++ (w + 1) ∷ []) n kept now
    (subst (λ z. Less z (r ++ (w + 1) ∷ [])) (sym (append_assoc r (w ∷ t) (v ∷ []))) (less_back r (t ++ v ∷ []) w))
    (λ x f c k. past_step r x w (past_all shape P (r ++ w ∷ []) t x v closed h (subst (λ z. get_or shape (length z) 0 ≤ v) e out) f c (subst (λ z. AtMost (z ++ v ∷ []) x) e k)))
    p

-- back to nothing: no candidate is left
pub none_back : (shape : List ℕ) (P : List ℕ → Type 0) (t x : List ℕ) (v : ℕ) → Closed P → AreLast shape P [] t → get_or shape (length t) 0 ≤ v → Fits shape x → P x → AtMost (t ++ v ∷ []) x → ⊥
none_back shape P t x v closed h out f c k = past_all shape P [] t x v closed h out f c k
