-- The order is strict and total, and how it goes with extensions.
use Rattle.std.proofs.Common.{◌≡◌, ℕ, ◌<◌, ◌+◌, ◌⊎◌, inl, inr, List, [], ◌∷◌, ◌++◌, refl, ap, sym, ◌∙◌, arith, subst, zero, suc, length}
use Rattle.xdg_facts.specs.Order.{Less, AtMost, Past, IsStrictOrder}
use Rattle.std.proofs.lemmas.List.{append-nil}

pub less_irreflexive : (x : List ℕ) → Less x x → ⊥
less_irreflexive [] h = h
less_irreflexive (a ∷ x) (inl l) = omega arith
less_irreflexive (a ∷ x) (inr e) = less_irreflexive x e.1

pub less_transitive : (x y z : List ℕ) → Less x y → Less y z → Less x z
less_transitive [] [] z h k = absurd h
less_transitive [] (b ∷ y) [] h k = k
less_transitive [] (b ∷ y) (c ∷ z) h k = tt
less_transitive (a ∷ x) [] z h k = absurd h
less_transitive (a ∷ x) (b ∷ y) [] h k = k
less_transitive (a ∷ x) (b ∷ y) (c ∷ z) (inl h) (inl k) = inl (omega arith)
less_transitive (a ∷ x) (b ∷ y) (c ∷ z) (inl h) (inr k) = let e : b ≡ c = k.0 in inl (omega arith)
less_transitive (a ∷ x) (b ∷ y) (c ∷ z) (inr h) (inl k) = let e : a ≡ b = h.0 in inl (omega arith)
less_transitive (a ∷ x) (b ∷ y) (c ∷ z) (inr h) (inr k) = inr (h.0 ∙ k.0, less_transitive x y z h.1 k.1)

-- a number is below, equal to or above another
pub three_cases : (m n : ℕ) → (m < n) ⊎ ((m ≡ n) ⊎ (n < m))
three_cases zero zero = inr (inl refl)
three_cases zero (suc n) = inl (omega arith)
three_cases (suc m) zero = inr (inr (omega arith))
three_cases (suc m) (suc n) = elim (three_cases m n) [ inl h ↦ inl (omega arith) | inr h ↦ inr (elim h [ inl e ↦ inl (ap suc e) | inr g ↦ inr (omega arith) ]) ]

pub less_total : (x y : List ℕ) → Less x y ⊎ ((x ≡ y) ⊎ Less y x)
less_total [] [] = inr (inl refl)
less_total [] (b ∷ y) = inl tt
less_total (a ∷ x) [] = inr (inr tt)
less_total (a ∷ x) (b ∷ y) = elim (three_cases a b) [
  | inl h ↦ inl (inl h)
  | inr h ↦ elim h [
    | inl e ↦ elim (less_total x y) [
      | inl l ↦ inl (inr (e, l))
      | inr r ↦ elim r [ inl q ↦ inr (inl (cc)) | inr g ↦ inr (inr (inr (sym e, g))) ]
    ]
    | inr g ↦ inr (inr (inl g))
  ]
]

pub less_order : IsStrictOrder Less
less_order = record {
  irreflexive = less_irreflexive;
  transitive = less_transitive;
  total = less_total;
}

pub at_most_less : (x y z : List ℕ) → AtMost x y → Less y z → Less x z
at_most_less x y z (inl e) l = subst (λ w. Less w z) (sym e) l
at_most_less x y z (inr k) l = less_transitive x y z k l

pub less_at_most : (x y z : List ℕ) → Less x y → AtMost y z → Less x z
less_at_most x y z l (inl e) = subst (Less x) e l
less_at_most x y z l (inr k) = less_transitive x y z l k

pub at_most_transitive : (x y z : List ℕ) → AtMost x y → AtMost y z → AtMost x z
at_most_transitive x y z (inl e) k = subst (λ w. AtMost w z) (sym e) k
at_most_transitive x y z (inr l) k = inr (less_at_most x y z l k)

pub not_less : (x y : List ℕ) → AtMost x y → Less y x → ⊥
not_less x y k l = less_irreflexive x (at_most_less x y x k l)

pub at_most_of : (x y : List ℕ) → (Less y x → ⊥) → AtMost x y
at_most_of x y n = elim (less_total x y) [
  | inl l ↦ inr l
  | inr r ↦ elim r [ inl e ↦ inl e | inr l ↦ absurd (n l) ]
]

-- x comes before y or not
pub less_or : (x y : List ℕ) → Less x y ⊎ AtMost y x
less_or x y = elim (less_total x y) [
  | inl l ↦ inl l
  | inr r ↦ elim r [ inl e ↦ inr (inl (sym e)) | inr l ↦ inr (inr l) ]
]

pub some_above : (x y : List ℕ) → Less x y → Less [] y
some_above x [] l = l
some_above x (b ∷ y) l = tt

-- x is p with more behind it
abbrev pub Extends : List ℕ → List ℕ → Type 0
Extends p x = (t : List ℕ) × (x ≡ p ++ t)

less_cases : (p x : List ℕ) → Less p x → Extends p x ⊎ Past p x
less_cases [] x h = inl (x, refl)
less_cases (a ∷ p) [] h = absurd h
less_cases (a ∷ p) (b ∷ x) (inl h) = inr (inl h)
less_cases (a ∷ p) (b ∷ x) (inr h) = elim (less_cases p x h.1) [
  | inl g ↦ inl (g.0, (let e : a ≡ b = h.0 in let q : x ≡ p ++ g.0 = g.1 in cc))
  | inr g ↦ inr (inr (h.0, g))
]

-- what does not come before p begins with it or is past it
pub extends_or_past : (p x : List ℕ) → AtMost p x → Extends p x ⊎ Past p x
extends_or_past p x (inl e) = inl ([], sym e ∙ sym (append-nil p))
extends_or_past p x (inr l) = less_cases p x l

pub less_push : (p : List ℕ) (v : ℕ) → Less p (p ++ v ∷ [])
less_push [] v = tt
less_push (a ∷ p) v = inr (refl, less_push p v)

pub less_step : (p : List ℕ) (v : ℕ) → Less (p ++ v ∷ []) (p ++ (v + 1) ∷ [])
less_step [] v = inl (omega arith)
less_step (a ∷ p) v = inr (refl, less_step p v)

-- the number after the last one is the nearest of what is past
pub past_step : (p x : List ℕ) (v : ℕ) → Past (p ++ v ∷ []) x → AtMost (p ++ (v + 1) ∷ []) x
past_step [] [] v h = absurd h
past_step [] (b ∷ x) v (inr h) = absurd h.1
past_step [] (b ∷ []) v (inl h) = elim (three_cases (v + 1) b) [ inl l ↦ inr (inl l) | inr r ↦ elim r [ inl e ↦ inl (cc) | inr g ↦ absurd (omega arith) ] ]
past_step [] (b ∷ c ∷ x) v (inl h) = elim (three_cases (v + 1) b) [ inl l ↦ inr (inl l) | inr r ↦ elim r [ inl e ↦ inr (inr (e, tt)) | inr g ↦ absurd (omega arith) ] ]
past_step (a ∷ p) [] v h = absurd h
past_step (a ∷ p) (b ∷ x) v (inl h) = inr (inl h)
past_step (a ∷ p) (b ∷ x) v (inr h) = elim (past_step p x v h.1) [ inl q ↦ let e : a ≡ b = h.0 in inl (cc) | inr l ↦ inr (inr (h.0, l)) ]

-- the number 0 behind p is the nearest of what comes after p
pub zero_next : (p x : List ℕ) → Less p x → AtMost (p ++ 0 ∷ []) x
zero_next [] [] h = absurd h
zero_next [] (b ∷ []) h = elim (three_cases 0 b) [ inl l ↦ inr (inl l) | inr r ↦ elim r [ inl e ↦ inl (cc) | inr g ↦ absurd (omega arith) ] ]
zero_next [] (b ∷ c ∷ x) h = elim (three_cases 0 b) [ inl l ↦ inr (inl l) | inr r ↦ elim r [ inl e ↦ inr (inr (e, tt)) | inr g ↦ absurd (omega arith) ] ]
zero_next (a ∷ p) [] h = absurd h
zero_next (a ∷ p) (b ∷ x) (inl h) = inr (inl h)
zero_next (a ∷ p) (b ∷ x) (inr h) = elim (zero_next p x h.1) [ inl q ↦ let e : a ≡ b = h.0 in inl (cc) | inr l ↦ inr (inr (h.0, l)) ]

-- a list with an item comes after the empty one
pub after_none : (x : List ℕ) → 0 < length x → Less [] x
after_none [] some = omega (arith, some)
after_none (a ∷ x) some = tt

pub at_most_cons : (x y : ℕ) (xs ys : List ℕ) → x ≡ y → AtMost xs ys → AtMost (x ∷ xs) (y ∷ ys)
at_most_cons x y xs ys e (inl same) = inl (cc)
at_most_cons x y xs ys e (inr less) = inr (inr (e, less))

pub same_least : (x y : List ℕ) → AtMost x y → (Less x y → ⊥) → x ≡ y
same_least x y (inl e) n = e
same_least x y (inr less) n = absurd (n less)

-- vectors whose first numbers are the same are ordered by what follows, whatever these are
pub less_same : (n m : ℕ) (x y : List ℕ) → Less (n ∷ x) (n ∷ y) → Less (m ∷ x) (m ∷ y)
less_same n m x y (inl less) = absurd (omega (arith, less))
less_same n m x y (inr (same, less)) = inr (refl, less)

pub less_behind : (front x y : List ℕ) → Less x y → Less (front ++ x) (front ++ y)
less_behind [] x y l = l
less_behind (a ∷ front) x y l = inr (refl, less_behind front x y l)

pub less_front : (x y v w : List ℕ) → length x ≡ length y → Less x y → Less (x ++ v) (y ++ w)
less_front [] (b ∷ y) v w e l = absurd (omega arith)
less_front (a ∷ x) (b ∷ y) v w e (inl l) = inl l
less_front (a ∷ x) (b ∷ y) v w e (inr (s, l)) = inr (s, less_front x y v w (omega arith) l)
less_front x y v w e l = absurd l

pub less_back : (r t : List ℕ) (w : ℕ) → Less (r ++ w ∷ t) (r ++ (w + 1) ∷ [])
less_back [] t w = inl (omega arith)
less_back (a ∷ r) t w = inr (refl, less_back r t w)

pub less_stepped : (q t : List ℕ) (v : ℕ) → Less ((q ++ v ∷ []) ++ t) (q ++ (v + 1) ∷ [])
less_stepped [] t v = inl (omega arith)
less_stepped (a ∷ q) t v = inr (refl, less_stepped q t v)

pub at_most_extended : (p t : List ℕ) → AtMost p (p ++ t)
at_most_extended [] [] = inl refl
at_most_extended [] (b ∷ t) = inr tt
at_most_extended (a ∷ p) t = elim (at_most_extended p t) [ inl e ↦ inl (ap (λ z. a ∷ z) e) | inr l ↦ inr (inr (refl, l)) ]

pub least_start : (x : List ℕ) → AtMost [] x
least_start [] = inl refl
least_start (a ∷ x) = inr tt

-- past p with v, but not past p: it goes on from p with a greater number
pub data Split (p : List ℕ) (v : ℕ) (x : List ℕ) : Type 0 where
  past : Past p x → Split p v x
  greater : (u : ℕ) (t : List ℕ) → v < u → x ≡ (p ++ u ∷ []) ++ t → Split p v x

pub past_split : (p : List ℕ) (v : ℕ) (x : List ℕ) → Past (p ++ v ∷ []) x → Split p v x
past_split [] v [] h = absurd h
past_split [] v (b ∷ x) (inl l) = greater b x l refl
past_split [] v (b ∷ x) (inr h) = absurd h.1
past_split (a ∷ p) v [] h = absurd h
past_split (a ∷ p) v (b ∷ x) (inl l) = past (inl l)
past_split (a ∷ p) v (b ∷ x) (inr h) = elim (past_split p v x h.1) [
  | past k ↦ past (inr (h.0, k))
  | greater u t l e ↦ greater u t l (let q : a ≡ b = h.0 in cc)
]
