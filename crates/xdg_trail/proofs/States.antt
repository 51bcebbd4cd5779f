-- What a write adds to the states, and what a pop takes.
use Rattle.std.proofs.Common.{◌≡◌, ℕ, ◌<◌, ◌+◌, List, [], ◌∷◌, ◌++◌, length, get_or, set, drop, reverse, ◌≤◌, ◌-◌, ap, ap₂, sym, ◌∙◌, arith, refl, subst, zero, suc, add-one, length-append, All}
use Rattle.std.proofs.Math.Nat.{add-zero}
use Rattle.std.proofs.lemmas.List.{get_or-drop, set-set, set-get_or, reverse-append, length-set, get_or_append_left}
use Rattle.xdg_trail.specs.Trailed.{states}

-- the newest state is the words, and what is before it is the same as before the write
pub past_set : (ws : List ℕ) (items : List (ℕ × ℕ)) (p v : ℕ) → states (set ws p v) (reverse (items ++ ((p, get_or ws p 0) ∷ []))) ≡ set ws p v ∷ states ws (reverse items)
past_set ws items p v =
    ap (states (set ws p v)) (reverse-append items ((p, get_or ws p 0) ∷ [])) ∙ ap (λ z. set ws p v ∷ states z (reverse items)) (set-set ws p v (get_or ws p 0) ∙ set-get_or ws p 0)

pub drop_step : {A : Type 0} → (k : ℕ) (xs : List A) (y : A) (ys : List A) → y ∷ ys ≡ drop k xs → ys ≡ drop (suc k) xs
drop_step zero [] y ys e = cc
drop_step zero (x ∷ xs) y ys e = cc
drop_step (suc k) [] y ys e = cc
drop_step (suc k) (x ∷ xs) y ys e = drop_step k xs y ys e

-- one record is popped
pub past_pop : (ws : List ℕ) (rest : List (ℕ × ℕ)) (p v k : ℕ) (whole : List (List ℕ)) → states ws (reverse (rest ++ ((p, v) ∷ []))) ≡ drop k whole → states (set ws p v) (reverse rest) ≡ drop (k + 1) whole
past_pop ws rest p v k whole e = rw add-one (drop_step k whole ws _ (sym (ap (states ws) (reverse-append rest ((p, v) ∷ []))) ∙ e))

pub records_pop : (rest : List (ℕ × ℕ)) (p v k : ℕ) (whole : List (ℕ × ℕ)) → reverse (rest ++ ((p, v) ∷ [])) ≡ drop k whole → reverse rest ≡ drop (k + 1) whole
records_pop rest p v k whole e = rw add-one (drop_step k whole (p, v) _ (sym (reverse-append rest ((p, v) ∷ [])) ∙ e))

pub fewer_places : (ws : List ℕ) (items rest : List (ℕ × ℕ)) (p v : ℕ) → items ≡ rest ++ ((p, v) ∷ []) → All (λ r. r.0 < length ws) items → All (λ r. r.0 < length (set ws p v)) rest
fewer_places ws items rest p v e h k d l =
    let n : length items ≡ length rest + 1 = ap length e ∙ length-append rest ((p, v) ∷ []) in
    let m = length-set ws p v in
    let q : get_or items k d ≡ get_or rest k d = ap (λ z. get_or z k d) e ∙ get_or_append_left rest ((p, v) ∷ []) d k l in
    let i = h k d (omega arith) in
    rw m (subst (λ (z : ℕ × ℕ). z.0 < length ws) q i)

-- ---- a state by the number of its records

now_stands : (ws : List ℕ) (rs : List (ℕ × ℕ)) → get_or (states ws rs) 0 [] ≡ ws
now_stands ws [] = refl
now_stands ws (r ∷ rs) = refl

-- no records ago
pub stood_now : (ws : List ℕ) (rs : List (ℕ × ℕ)) (ago : ℕ) → ago ≡ 0 → get_or (states ws rs) ago [] ≡ ws
stood_now ws rs ago e = ap (λ k. get_or (states ws rs) k []) e ∙ now_stands ws rs

-- words from which on the history is the rest of a longer one stand there in it
pub stands_at : (ws : List ℕ) (rs : List (ℕ × ℕ)) (k : ℕ) (whole : List (List ℕ)) → states ws rs ≡ drop k whole → ws ≡ get_or whole k []
stands_at ws rs k whole e = sym (now_stands ws rs) ∙ ap (λ z. get_or z 0 []) e ∙ get_or-drop k whole 0 [] ∙ ap (λ i. get_or whole i []) (add-zero k)

-- a write leaves the states of fewer records as they were
pub stood_set : (ws : List ℕ) (items : List (ℕ × ℕ)) (p v n : ℕ) → n ≤ length (reverse items) → get_or (states (set ws p v) (reverse (items ++ ((p, get_or ws p 0) ∷ [])))) (length (reverse (items ++ ((p, get_or ws p 0) ∷ []))) - n) [] ≡ get_or (states ws (reverse items)) (length (reverse items) - n) []
stood_set ws items p v n within =
    let longer : length (reverse (items ++ ((p, get_or ws p 0) ∷ []))) ≡ suc (length (reverse items)) = ap length (reverse-append items ((p, get_or ws p 0) ∷ [])) in
    let place : length (reverse (items ++ ((p, get_or ws p 0) ∷ []))) - n ≡ suc (length (reverse items) - n) = omega (arith, longer, within) in
    ap₂ (λ z i. get_or z i []) (past_set ws items p v) place
