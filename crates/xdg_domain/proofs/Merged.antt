-- Two lists with rising keys put together, in the order of their keys.
use Rattle.std.proofs.Common.{◌≡◌, ◌⊎◌, ℕ, ◌≤◌, ◌+◌, List, [], ◌∷◌, ◌++◌, length, drop, refl, ap, sym, ◌∙◌, arith, inl, inr, subst, append_assoc}
use Rattle.std.specs.Prelude.{Option, None, Some, MatchOption}
use Rattle.std.proofs.lemmas.List.{append-nil, drop_all}
use Rattle.std.proofs.lemmas.Bool.{cases_eq}
use Rattle.xdg_domain.specs.Valencies.{said_at, KeysRise}
use Rattle.xdg_domain.specs.Values.{EachSaid}
use Rattle.xdg_domain.specs.Joins.{Both, SaysBoth, OnBoth, OnSome}
use Rattle.xdg_domain.specs.Joined.{behind, behind_joined, merged}
use Rattle.xdg_domain.proofs.Keyed.{at_head, after_head, unsaid, both_along, on_along, on_none, both_none}
use Rattle.xdg_facts.proofs.Merging.{by_order}

-- ---- behind what is made

-- what the whole is, told from what is made and from what is left from both places on
abbrev pub Left : {V : Type 0} → (ℕ → V → V → Option V) → List (ℕ × V) → List (ℕ × V) → List (ℕ × V) → List (ℕ × V) → List (ℕ × V) → Type 0
Left f xs ys made rest more = behind made (merged f rest more) ≡ merged f xs ys

nothing_more : {V : Type 0} (f : ℕ → V → V → Option V) (a : List (ℕ × V)) → merged f a [] ≡ Some a
nothing_more f [] = refl
nothing_more f (x ∷ a) = refl

take_rest : {V : Type 0} (f : ℕ → V → V → Option V) (xs ys made rest more : List (ℕ × V)) → (rest ≡ []) ⊎ (more ≡ []) → Left f xs ys made rest more → Some ((made ++ rest) ++ more) ≡ merged f xs ys
take_rest f xs ys made rest more (inl e) left =
    ap (λ s. Some s) (append_assoc made rest more) ∙ ap (λ s. Some (made ++ (s ++ more))) e ∙ sym (ap (λ s. behind made (merged f s more)) e) ∙ left
take_rest f xs ys made rest more (inr e) left =
    ap (λ s. Some ((made ++ rest) ++ s)) e ∙ ap (λ s. Some s) (append-nil (made ++ rest)) ∙ sym (ap (λ o. behind made o) (ap (λ s. merged f rest s) e ∙ nothing_more f rest)) ∙ left

-- what is made, with what is left where nothing is left of one list, is the whole
pub take_all : {V : Type 0} (f : ℕ → V → V → Option V) (xs ys made out : List (ℕ × V)) (i j : ℕ) → (length xs ≤ i) ⊎ (length ys ≤ j) → out ≡ (made ++ drop i xs) ++ drop j ys → Left f xs ys made (drop i xs) (drop j ys) → Some out ≡ merged f xs ys
take_all f xs ys made out i j over is left = ap (λ s. Some s) is ∙ take_rest f xs ys made (drop i xs) (drop j ys) (elim over [ inl h ↦ inl (drop_all i xs h) | inr h ↦ inr (drop_all j ys h) ]) left

-- ---- what the whole says

-- from low on the keys rise, and of each key it says what both say; or both clash under some key
abbrev pub Tells : {V : Type 0} → (ℕ → V → V → V → Type 0) → (ℕ → V → V → Type 0) → ℕ → List (ℕ × V) → List (ℕ × V) → Option (List (ℕ × V)) → Type 0
Tells P Q low a b m = MatchOption m (OnSome Q a b) (λ c. KeysRise low c × ((key : ℕ) → Both (P key) (said_at a key) (said_at b key) (said_at c key)))

step : {V : Type 0} (P : ℕ → V → V → V → Type 0) (Q : ℕ → V → V → Type 0) (low : ℕ) (e : ℕ × V) (a b later after : List (ℕ × V)) (m : Option (List (ℕ × V))) → low ≤ e.0
    → Both (P e.0) (said_at a e.0) (said_at b e.0) (Some e.1)
    → ((key : ℕ) → (e.0 ≡ key → ⊥) → (said_at a key ≡ said_at later key) × (said_at b key ≡ said_at after key))
    → (OnBoth (Q e.0) (said_at later e.0) (said_at after e.0) → ⊥)
    → Tells P Q (e.0 + 1) later after m → Tells P Q low a b (behind (e ∷ []) m)
step P Q low e a b later after None above now beyond apart (key, k) =
    (key, let same = beyond key (λ i. apart (subst (λ n. OnBoth (Q n) (said_at later n) (said_at after n)) (sym i) k)) in on_along (Q key) (said_at a key) (said_at b key) (said_at later key) (said_at after key) same.0 same.1 k)
step P Q low e a b later after (Some c) above now beyond apart (rises, says) = (
  (above, rises),
  λ key. elim (cases_eq e.0 key) [
    | inl i ↦ subst (λ t. Both (P key) (said_at a key) (said_at b key) t) (sym (at_head e c key i)) (subst (λ n. Both (P n) (said_at a n) (said_at b n) (Some e.1)) i now)
    | inr other ↦
        let same = beyond key other in
        both_along (P key) (said_at a key) (said_at b key) (said_at (e ∷ c) key) (said_at later key) (said_at after key) (said_at c key) same.0 same.1 (after_head e c key other) (says key)
  ],
)

-- what f makes of two values tells what they say together
abbrev pub Makes : {V : Type 0} → (ℕ → V → V → Option V) → (ℕ → V → V → V → Type 0) → (ℕ → V → V → Type 0) → (ℕ → V → Type 0) → Type 0
Makes {V} f P Q G = (key : ℕ) (x y : V) → G key x → G key y → MatchOption (f key x y) (Q key x y) (λ z. P key x y z)

joined_step : {V : Type 0} (P : ℕ → V → V → V → Type 0) (Q : ℕ → V → V → Type 0) (low : ℕ) (x y : ℕ × V) (a b : List (ℕ × V)) (o : Option V) (m : Option (List (ℕ × V)))
    → low ≤ x.0 → x.0 ≡ y.0 → KeysRise (x.0 + 1) a → MatchOption o (Q x.0 x.1 y.1) (λ z. P x.0 x.1 y.1 z) → Tells P Q (x.0 + 1) a b m → Tells P Q low (x ∷ a) (y ∷ b) (behind_joined x.0 o m)
joined_step P Q low x y a b None m above same rises clash told =
    (x.0, on_along (Q x.0) (said_at (x ∷ a) x.0) (said_at (y ∷ b) x.0) (Some x.1) (Some y.1) (at_head x a x.0 refl) (at_head y b x.0 (sym same)) clash)
joined_step P Q low x y a b (Some z) m above same rises found told = step P Q low (x.0, z) (x ∷ a) (y ∷ b) a b m above
    (both_along (P x.0) (said_at (x ∷ a) x.0) (said_at (y ∷ b) x.0) (Some z) (Some x.1) (Some y.1) (Some z) (at_head x a x.0 refl) (at_head y b x.0 (sym same)) refl found)
    (λ key other. (after_head x a key other, after_head y b key (λ i. other (same ∙ i))))
    (λ k. subst (λ t. OnBoth (Q x.0) t (said_at b x.0)) (unsaid (x.0 + 1) x.0 a (omega arith) rises) k) told

from_tells : {V : Type 0} (f : ℕ → V → V → Option V) (P : ℕ → V → V → V → Type 0) (Q : ℕ → V → V → Type 0) (G : ℕ → V → Type 0) → Makes f P Q G → (x : ℕ × V) (a : List (ℕ × V)) → KeysRise (x.0 + 1) a → G x.0 x.1
    → ((b : List (ℕ × V)) → KeysRise (x.0 + 1) b → EachSaid G b → Tells P Q (x.0 + 1) a b (merged f a b))
    → (low : ℕ) (b : List (ℕ × V)) → low ≤ x.0 → KeysRise low b → EachSaid G b → Tells P Q low (x ∷ a) b (merged f (x ∷ a) b)
from_tells f P Q G makes x a rises right rest low [] above h g = ((above, rises), λ key. both_none (P key) (said_at (x ∷ a) key))
from_tells f P Q G makes x a rises right rest low (y ∷ b) above h g = by_order (Tells P Q low (x ∷ a) (y ∷ b)) x.0 y.0 _ _ _
    (λ less. step P Q low x (x ∷ a) (y ∷ b) a (y ∷ b) (merged f a (y ∷ b)) above
    (both_along (P x.0) (said_at (x ∷ a) x.0) (said_at (y ∷ b) x.0) (Some x.1) (Some x.1) None (Some x.1) (at_head x a x.0 refl) (unsaid y.0 x.0 (y ∷ b) less (omega arith, h.1)) refl refl)
    (λ key other. (after_head x a key other, refl))
    (λ k. subst (λ t. OnBoth (Q x.0) t (said_at (y ∷ b) x.0)) (unsaid (x.0 + 1) x.0 a (omega arith) rises) k)
    (rest (y ∷ b) (omega (arith, less), h.1) g))
    (λ more. step P Q low y (x ∷ a) (y ∷ b) (x ∷ a) b (merged f (x ∷ a) b) h.0
    (both_along (P y.0) (said_at (x ∷ a) y.0) (said_at (y ∷ b) y.0) (Some y.1) None (Some y.1) (Some y.1) (unsaid x.0 y.0 (x ∷ a) more (omega arith, rises)) (at_head y b y.0 refl) refl refl)
    (λ key apart. (refl, after_head y b key apart))
    (λ k. on_none (Q y.0) (said_at (x ∷ a) y.0) (subst (λ t. OnBoth (Q y.0) (said_at (x ∷ a) y.0) t) (unsaid (y.0 + 1) y.0 b (omega arith) h.1) k))
    (from_tells f P Q G makes x a rises right rest (y.0 + 1) b (omega (arith, more)) h.1 g.1))
    (λ same. joined_step P Q low x y a b (f x.0 x.1 y.1) (merged f a b) above same rises
    (makes x.0 x.1 y.1 right (subst (λ n. G n y.1) (sym same) g.0)) (rest b (subst (λ n. KeysRise (n + 1) b) (sym same) h.1) g.1))

tells_from : {V : Type 0} (f : ℕ → V → V → Option V) (P : ℕ → V → V → V → Type 0) (Q : ℕ → V → V → Type 0) (G : ℕ → V → Type 0) → Makes f P Q G → (low : ℕ) (a b : List (ℕ × V))
    → KeysRise low a → KeysRise low b → EachSaid G a → EachSaid G b → Tells P Q low a b (merged f a b)
tells_from f P Q G makes low [] b h k g l = (k, λ key. refl)
tells_from f P Q G makes low (x ∷ a) b h k g l = from_tells f P Q G makes x a h.1 g.0 (λ c r t. tells_from f P Q G makes (x.0 + 1) a c h.1 r g.1 t) low b h.0 k l

-- two lists with rising keys put together say what both say, or they clash under some key
pub merged_tells : {V : Type 0} (f : ℕ → V → V → Option V) (P : ℕ → V → V → V → Type 0) (Q : ℕ → V → V → Type 0) (G : ℕ → V → Type 0) → Makes f P Q G → (a b : List (ℕ × V))
    → KeysRise 0 a → KeysRise 0 b → EachSaid G a → EachSaid G b → MatchOption (merged f a b) (OnSome Q a b) (λ c. SaysBoth P a b c)
merged_tells f P Q G makes a b h k g l = tells_from f P Q G makes 0 a b h k g l
