-- Numbers that a prefix leaves no choice about.
use Rattle.std.specs.Prelude.{◌≡◌, ℕ, ◌<◌, ◌≤◌, List, [], ◌∷◌, ◌++◌, Option, Some, None, length}
use Rattle.xdg_facts.specs.Fits.{Fits}

-- the prefix is counted with this number behind it, and with no other
pub record IsForced (shape : List ℕ) (P : List ℕ → Type 0) (p : List ℕ) (v : ℕ) : Type 0 where
  pub fits : Fits shape (p ++ v ∷ [])
  pub counts : P (p ++ v ∷ [])
  pub alone : (u : ℕ) → Fits shape (p ++ u ∷ []) → P (p ++ u ∷ []) → u ≡ v

-- each of these numbers is forced behind those before it
abbrev pub AreForced : List ℕ → (List ℕ → Type 0) → List ℕ → List ℕ → Type 0
AreForced shape P p [] = Unit {0}
AreForced shape P p (v ∷ rest) = IsForced shape P p v × AreForced shape P (p ++ v ∷ []) rest

-- n forced numbers were added, no more than were asked for
pub record Follows (shape : List ℕ) (P : List ℕ → Type 0) (old new : List ℕ) (most n : ℕ) : Type 0 where
  pub added : List ℕ
  pub joined : new ≡ old ++ added
  pub count : length added ≡ n
  pub within : n ≤ most
  pub forced : AreForced shape P old added

-- no greater number is counted in the place of each of these, behind those before it
abbrev pub AreLast : List ℕ → (List ℕ → Type 0) → List ℕ → List ℕ → Type 0
AreLast shape P p [] = Unit {0}
AreLast shape P p (v ∷ rest) = ((u : ℕ) → v < u → Fits shape (p ++ u ∷ []) → P (p ++ u ∷ []) → ⊥) × AreLast shape P (p ++ v ∷ []) rest

-- numbers were taken off, down to one in whose place a greater one may be counted, or all of them
abbrev pub Backs : List ℕ → (List ℕ → Type 0) → List ℕ → Option ℕ → List ℕ → Type 0
Backs shape P old (Some v) new = (rest : List ℕ) × (old ≡ new ++ v ∷ rest) × AreLast shape P (new ++ v ∷ []) rest
Backs shape P old None new = (new ≡ []) × AreLast shape P [] old
