-- How much of a search is still ahead: a number that falls with each step.
use Rattle.std.proofs.Common.{List, ℕ, ◌+◌, ◌*◌, [], ◌∷◌, ◌-◌, arith, get_or, length, ◌<◌, ◌++◌, ◌≤◌, ◌≡◌}
use Rattle.xdg_facts.proofs.Numbers.{fewer, scaled}

-- the steps below a front that has no number yet
abbrev pub full : List ℕ → ℕ
full [] = 1
full (s ∷ shape) = s * (1 + full shape) + full shape + 1

-- the steps from a place on
abbrev pub ahead : List ℕ → List ℕ → ℕ
ahead shape [] = full shape
ahead [] (v ∷ rest) = 0
ahead (s ∷ shape) (v ∷ rest) = (s - v) * (1 + full shape) + ahead shape rest

-- behind a greater number in the place of w fewer are left than behind whatever begins with w
pub ahead_back : (shape r t : List ℕ) (w : ℕ) → w < get_or shape (length r) 0 → ahead shape (r ++ (w + 1) ∷ []) < ahead shape (r ++ w ∷ t)
ahead_back [] [] t w h = absurd (omega arith)
ahead_back (s ∷ shape) [] t w h = fewer (s - (w + 1)) (s - w) (full shape) (full shape) (ahead shape t) (omega arith) (omega arith)
ahead_back [] (a ∷ r) t w h = absurd (omega arith)
ahead_back (s ∷ shape) (a ∷ r) t w h = let k = ahead_back shape r t w h in omega (arith, k)

-- behind 0 there is most
pub ahead_first : (shape q : List ℕ) (v : ℕ) → ahead shape (q ++ v ∷ []) ≤ ahead shape (q ++ 0 ∷ [])
ahead_first [] [] v = omega arith
ahead_first (s ∷ shape) [] v = let k = scaled (s - v) (s - 0) (1 + full shape) (omega arith) in omega (arith, k)
ahead_first [] (a ∷ q) v = omega arith
ahead_first (s ∷ shape) (a ∷ q) v = let k = ahead_first shape q v in omega (arith, k)

pub ahead_refused : (shape q : List ℕ) (v : ℕ) → v < get_or shape (length q) 0 → ahead shape (q ++ (v + 1) ∷ []) < ahead shape (q ++ v ∷ [])
ahead_refused [] [] v h = absurd (omega arith)
ahead_refused (s ∷ shape) [] v h = fewer (s - (v + 1)) (s - v) (full shape) (full shape) (full shape) (omega arith) (omega arith)
ahead_refused [] (a ∷ q) v h = absurd (omega arith)
ahead_refused (s ∷ shape) (a ∷ q) v h = let k = ahead_refused shape q v h in omega (arith, k)

first_below : (shape : List ℕ) → ahead shape (0 ∷ []) < full shape
first_below [] = omega arith
first_below (s ∷ shape) =
    let e : s - 0 ≡ s = omega arith in
    rw e (omega arith)

pub ahead_taken : (shape q : List ℕ) (v : ℕ) → v < get_or shape (length q) 0 → ahead shape ((q ++ v ∷ []) ++ 0 ∷ []) < ahead shape (q ++ v ∷ [])
ahead_taken [] [] v h = absurd (omega arith)
ahead_taken (s ∷ shape) [] v h = let k = first_below shape in omega (arith, k)
ahead_taken [] (a ∷ q) v h = absurd (omega arith)
ahead_taken (s ∷ shape) (a ∷ q) v h = let k = ahead_taken shape q v h in omega (arith, k)
