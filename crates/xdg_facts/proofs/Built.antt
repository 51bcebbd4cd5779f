-- Whether two things that are built are the same, part by part.
use Rattle.std.proofs.Common.{sym, ap, ◌≡◌, ◌∙◌, true, false}
use Rattle.std.specs.Prelude.{Bool, IsTrue, ◌↔◌}

pub built : {K L : Type 0} (f : K → K) (build : L → K) (part : L → L) → ((x : L) → f (build x) ≡ build (part x)) → ((x y : L) → build x ≡ build y → x ≡ y)
    → (same : Bool) (one other : K) (x y s t : L) → one ≡ build x → other ≡ build y → s ≡ x → t ≡ y → (IsTrue same ↔ (part s ≡ part t)) → IsTrue same ↔ (f one ≡ f other)
built f build part equation apart same one other x y s t is_one is_other is_s is_t told = (
  λ h. ap f is_one ∙ equation x ∙ ap build (ap part (sym is_s) ∙ told.0 h ∙ ap part is_t) ∙ sym (equation y) ∙ sym (ap f is_other),
  λ h. told.1 (ap part is_s ∙ apart (part x) (part y) (sym (equation x) ∙ sym (ap f is_one) ∙ h ∙ ap f is_other ∙ equation y) ∙ ap part (sym is_t)),
)

-- two parts, of which the first ones are the same
pub both_then : {A B : Type 0} (a b : A) (c d : B) (first same : Bool) → first ≡ true → (IsTrue first ↔ (a ≡ b)) → (IsTrue same ↔ (c ≡ d)) → IsTrue same ↔ ◌≡◌ {A = A × B} (a, c) (b, d)
both_then a b c d first same is told_first told =
    (λ h. ap (λ u. (u, c)) (told_first.0 is) ∙ ap (λ u. (b, u)) (told.0 h), λ h. told.1 (ap (λ p. p.1) h))

-- two parts, of which the first ones are not
pub both_else : {A B : Type 0} (a b : A) (c d : B) (first : Bool) → first ≡ false → (IsTrue first ↔ (a ≡ b)) → IsTrue first ↔ ◌≡◌ {A = A × B} (a, c) (b, d)
both_else a b c d first is told_first = (λ h. absurd cc, λ h. told_first.1 (ap (λ p. p.0) h))
