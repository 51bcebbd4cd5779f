-- Whether anything of a list has a property, place by place.
use Rattle.std.proofs.Common.{take, List, ℕ, true, get_or, sym, length, refl, ◌≡◌, ◌<◌, ◌↔◌, false, subst, ◌≤◌, ◌+◌, arith}
use Rattle.std.specs.Prelude.{All, IsTrue}
use Rattle.std.proofs.lemmas.Bool.{false≢true}
use Rattle.std.proofs.lemmas.List.{take_all}
use Rattle.std.proofs.lemmas.List.Elements.{All-more}
use Rattle.std.specs.List.{Any}

abbrev pub NoneMeet : (ℕ → Type 0) → List ℕ → ℕ → Type 0
NoneMeet P labels i = All (λ label. P label → ⊥) (take i labels)

pub found_here : (P : ℕ → Type 0) (labels : List ℕ) (i label : ℕ) → i < length labels → label ≡ get_or labels i label → P label → IsTrue true ↔ Any P labels
found_here P labels i label l at p = (λ t. (i, label, l, sym at, p), λ a. refl)

pub none_end : (P : ℕ → Type 0) (labels : List ℕ) (i : ℕ) → NoneMeet P labels i → length labels ≤ i → IsTrue false ↔ Any P labels
none_end P labels i none l = (
  λ t. absurd (false≢true t),
  λ (k, m, n, at, p). absurd (subst (λ xs. All (λ q. P q → ⊥) xs) (take_all i labels l) none k m n (subst P (sym at) p)),
)

pub none_more : (P : ℕ → Type 0) (labels : List ℕ) (i label : ℕ) → i < length labels → label ≡ get_or labels i label → NoneMeet P labels i → (P label → ⊥) → NoneMeet P labels (i + 1)
none_more P labels i label l at none fails = All-more (λ m. P m → ⊥) labels i label l none (subst (λ m. P m → ⊥) at fails)

pub none_start : (P : ℕ → Type 0) (labels : List ℕ) → NoneMeet P labels 0
none_start P labels k d l = absurd (omega (arith, l))
