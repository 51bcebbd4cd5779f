-- What is found, as more edges are looked at.
use Rattle.std.proofs.Common.{◌≡◌, ◌⊎◌, inl, inr, subst}
use Rattle.xdg_problem.specs.declared.analysis.Edge.{Edge}
use Rattle.xdg_pgraph.specs.declared.found.Found.{Found}
use Rattle.xdg_pgraph.specs.declared.found.Found.TheVariants as founds
use Rattle.xdg_pgraph.specs.Seeking.{Finds, found_with, found_merged}

-- the same edges, told in another way
pub finds_like : (P Q : Edge → Type 0) (found : Found) → ((e : Edge) → P e → Q e) → ((e : Edge) → Q e → P e) → Finds P found → Finds Q found
finds_like P Q founds.Nothing to from f = λ e q. f e (from e q)
finds_like P Q (founds.One g) to from f = (to g f.0, λ e q. f.1 e (from e q))
finds_like P Q founds.More to from f = (f.0, f.1, to f.0 f.2, to f.1 f.3, f.4)

-- one edge more, that wasn't looked at
pub finds_with : (P Q : Edge → Type 0) (found : Found) (g : Edge) → ((e : Edge) → P e → Q e) → Q g → ((e : Edge) → Q e → P e ⊎ (g ≡ e)) → (P g → ⊥) → Finds P found → Finds Q (found_with found g)
finds_with P Q founds.Nothing g to new from other f = (new, λ e q. elim (from e q) [ inl p ↦ absurd (f e p) | inr same ↦ same ])
finds_with P Q (founds.One h) g to new from other f = (h, g, to h f.0, new, λ same. other (subst P same f.0))
finds_with P Q founds.More g to new from other f = (f.0, f.1, to f.0 f.2, to f.1 f.3, f.4)

-- two searches for different edges
pub finds_merged : (A B C : Edge → Type 0) (a b : Found) → ((e : Edge) → A e → C e) → ((e : Edge) → B e → C e) → ((e : Edge) → C e → A e ⊎ B e) → ((e : Edge) → A e → B e → ⊥) → Finds A a → Finds B b → Finds C (found_merged a b)
finds_merged A B C founds.Nothing b to and from apart f g = finds_like B C b and (λ e c. elim (from e c) [ inl x ↦ absurd (f e x) | inr y ↦ y ]) g
finds_merged A B C (founds.One h) b to and from apart f g = finds_with B C b h and (to h f.0) (λ e c. elim (from e c) [ inl x ↦ inr (f.1 e x) | inr y ↦ inl y ]) (λ y. apart h f.0 y) g
finds_merged A B C founds.More b to and from apart f g = (f.0, f.1, to f.0 f.2, to f.1 f.3, f.4)
