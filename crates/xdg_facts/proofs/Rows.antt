-- Lists of rows, and a test of each of their numbers.
use Rattle.std.proofs.Common.{ap₂, arith, get_or, Bool, List, suc, map, length, refl, ℕ, ◌≡◌, ◌<◌, [], ◌∷◌, zero, true, replicate, ap, false, ◌∙◌}
use Rattle.std.proofs.lemmas.List.{get_or-map}

-- rows of which the same bits are set say the same
row_alike : (f g : ℕ → Bool) (row : List ℕ) → ((j : ℕ) → j < length row → g (get_or row j 0) ≡ f (get_or row j 0)) → map g row ≡ map f row
row_alike f g [] h = refl
row_alike f g (b ∷ row) h = ap₂ (λ x xs. x ∷ xs) (h 0 (omega arith)) (row_alike f g row (λ j l. h (suc j) (omega (arith, l))))

pub alike_at : (f g : ℕ → Bool) (rows : List (List ℕ)) (e : ℕ) → (e < length rows → (j : ℕ) → j < length (get_or rows e []) → g (get_or (get_or rows e []) j 0) ≡ f (get_or (get_or rows e []) j 0)) → get_or (map (λ row. map g row) rows) e [] ≡ get_or (map (λ row. map f row) rows) e []
alike_at f g [] e h = refl
alike_at f g (row ∷ rows) zero h = row_alike f g row (h (omega arith))
alike_at f g (row ∷ rows) (suc e) h = alike_at f g rows e (λ l. h (omega (arith, l)))

-- where all bits are set, all values remain
all_set : (f : ℕ → Bool) (row : List ℕ) → ((v : ℕ) → v < length row → f (get_or row v 0) ≡ true) → map f row ≡ replicate (length row) true
all_set f [] h = refl
all_set f (b ∷ row) h = ap₂ (λ x xs. x ∷ xs) (h 0 (omega arith)) (all_set f row (λ v l. h (suc v) (omega (arith, l))))

pub all_rows_set : (f : ℕ → Bool) (rows : List (List ℕ)) → ((d v : ℕ) → d < length rows → v < length (get_or rows d []) → f (get_or (get_or rows d []) v 0) ≡ true)
    → map (λ row. map f row) rows ≡ map (λ size. replicate size true) (map length rows)
all_rows_set f [] h = refl
all_rows_set f (row ∷ rows) h = ap₂ (λ x xs. x ∷ xs) (all_set f row (λ v l. h 0 v (omega arith) l)) (all_rows_set f rows (λ d v l m. h (suc d) v (omega (arith, l)) m))

-- what the box says of a value is what its bit says
pub value_read : (f : ℕ → Bool) (rows : List (List ℕ)) (d v : ℕ) → d < length rows → v < length (get_or rows d []) → get_or (get_or (map (λ row. map f row) rows) d []) v false ≡ f (get_or (get_or rows d []) v 0)
value_read f rows d v l m =
    ap (λ row. get_or row v false) (get_or-map (λ row. map f row) rows d [] [] l)
    ∙ get_or-map f (get_or rows d []) v 0 false m
