-- Sets that are gathered: of each node of one, what it leads to.
use Rattle.std.proofs.Common.{List, true, ℕ, ◌≡◌, ◌⊎◌, ◌↔◌, inl, inr, [], sym, subst, ◌∷◌, ◌<◌, ◌||◌, ◌∙◌, IsTrue, false}
use Rattle.std.proofs.lemmas.Bool.{false≢true}
use Rattle.xdg_facts.proofs.Rising.{no_member, tail_in, head_or_tail, head_in}
use Rattle.xdg_facts.proofs.Sets.{either}
use Rattle.xdg_facts.specs.Rises.{has}

-- what was gathered, and what the nodes still to come bring, is what all bring
abbrev pub Gathers : (ℕ → ℕ → Type 0) → List ℕ → List ℕ → List ℕ → Type 0
Gathers Q first left acc = (x : ℕ) → ((has acc x ≡ true) ⊎ ((v : ℕ) × (has left v ≡ true) × Q v x)) ↔ ((v : ℕ) × (has first v ≡ true) × Q v x)

pub gathers_start : (Q : ℕ → ℕ → Type 0) (first acc : List ℕ) → acc ≡ [] → Gathers Q first first acc
gathers_start Q first acc empty x = (
  λ h. elim h [ inl there ↦ absurd (no_member acc x empty there) | inr more ↦ more ],
  λ h. inr h,
)

pub gathers_next : (Q : ℕ → ℕ → Type 0) (first left rest acc new : List ℕ) (v : ℕ) → left ≡ v ∷ rest → ((x : ℕ) → (has new x ≡ true) ↔ ((has acc x ≡ true) ⊎ Q v x)) → Gathers Q first left acc → Gathers Q first rest new
gathers_next Q first left rest acc new v is step before x = (
  λ h. elim h [
    | inl there ↦ elim ((step x).0 there) [
      | inl old ↦ (before x).0 (inl old)
      | inr here ↦ (before x).0 (inr (v, head_in left rest v is, here))
    ]
    | inr (w, later, q) ↦ (before x).0 (inr (w, tail_in left rest v w is later, q))
  ],
  λ h. elim ((before x).1 h) [
    | inl old ↦ inl ((step x).1 (inl old))
    | inr (w, there, q) ↦ elim (head_or_tail left rest v w is there) [
      | inl same ↦ inl ((step x).1 (inr (subst (λ k. Q k x) (sym same) q)))
      | inr later ↦ inr (w, later, q)
    ]
  ],
)

pub gathers_end : (Q : ℕ → ℕ → Type 0) (first left acc : List ℕ) → left ≡ [] → Gathers Q first left acc → (x : ℕ) → (has acc x ≡ true) ↔ ((v : ℕ) × (has first v ≡ true) × Q v x)
gathers_end Q first left acc empty before x = (
  λ h. (before x).0 (inl h),
  λ h. elim ((before x).1 h) [ inl there ↦ there | inr (v, none, q) ↦ absurd (no_member left v empty none) ],
)

-- the nodes of a set are below 128
abbrev pub AreSmall : List ℕ → Type 0
AreSmall set = (v : ℕ) → has set v ≡ true → v < 128

pub small_later : (left rest : List ℕ) (v : ℕ) → left ≡ v ∷ rest → AreSmall left → AreSmall rest
small_later left rest v is small w h = small w (tail_in left rest v w is h)

pub same_set : (set of : List ℕ) → set ≡ of → (x : ℕ) → (has set x ≡ true) ↔ (has of x ≡ true)
same_set set of is x = (λ h. subst (λ s. has s x ≡ true) is h, λ h. subst (λ s. has s x ≡ true) (sym is) h)

-- two sets together
pub both_exact : (A B : ℕ → Type 0) (one other all : List ℕ) → ((x : ℕ) → (has one x ≡ true) ↔ A x) → ((x : ℕ) → (has other x ≡ true) ↔ B x) → ((x : ℕ) → has all x ≡ (has one x || has other x)) → (x : ℕ) → (has all x ≡ true) ↔ (A x ⊎ B x)
both_exact A B one other all a b is x = (
  λ h. elim ((either (has one x) (has other x)).0 (sym (is x) ∙ h)) [ inl here ↦ inl ((a x).0 here) | inr there ↦ inr ((b x).0 there) ],
  λ h. is x ∙ (either (has one x) (has other x)).1 (elim h [ inl here ↦ inl ((a x).1 here) | inr there ↦ inr ((b x).1 there) ]),
)

pub some_exact : (set rest : List ℕ) (node : ℕ) → set ≡ node ∷ rest → IsTrue false ↔ ((v : ℕ) → has set v ≡ true → ⊥)
some_exact set rest node is = (λ t. absurd (false≢true t), λ n. absurd (n node (head_in set rest node is)))
