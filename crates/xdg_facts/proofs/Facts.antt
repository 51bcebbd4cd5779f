-- Facts on what has no room of its own.
use Rattle.std.proofs.Common.{◌↔◌, false, Bool, true, refl}
use Rattle.std.specs.Prelude.{IsTrue, not}
use Rattle.std.proofs.lemmas.Bool.{false≢true}

pub both_steps : {A B C : Type 0} → A ↔ B → B ↔ C → A ↔ C
both_steps f g = (λ a. g.0 (f.0 a), λ c. f.1 (g.1 c))

pub alike : {P : Type 0} → P ↔ P
alike = (λ p. p, λ p. p)

-- what is asked where something holds goes by what holds alike
pub asked_alike : (A B C D : Type 0) → A ↔ B → C ↔ D → (A → C) ↔ (B → D)
asked_alike A B C D where_same same = (λ f b. same.0 (f (where_same.1 b)), λ f a. same.1 (f (where_same.0 a)))

pub not_told : (P : Type 0) → (P → ⊥) → IsTrue false ↔ P
not_told P none = (λ t. absurd (false≢true t), λ p. absurd (none p))

pub between_end : (b : Bool) (D B A : Type 0) → D → B → IsTrue b ↔ A → IsTrue b ↔ (D → B → A)
between_end b D B A d w h = (λ t x y. h.0 t, λ f. h.1 (f d w))

-- what cannot follow holds only where its premise fails
pub denied : (b : Bool) (D X : Type 0) → IsTrue b ↔ D → (X → ⊥) → IsTrue (not b) ↔ (D → X)
denied true D X h n = (λ t. absurd (false≢true t), λ f. absurd (n (f (h.0 refl))))
denied false D X h n = (λ t d. absurd (false≢true (h.1 d)), λ f. refl)
