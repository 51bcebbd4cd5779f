-- Edges that go, one after another.
use Rattle.std.proofs.Common.{◌≡◌, ℕ, ◌<◌, true, List, ◌∷◌, refl, sym, subst}
use Rattle.xdg_problem.specs.declared.analysis.Edge.{Edge}
use Rattle.xdg_problem.specs.declared.parts.Parts.{Parts}
use Rattle.xdg_problem.specs.Boxes.{edge_decision}
use Rattle.xdg_problem.specs.Places.{nodes}
use Rattle.xdg_rules.specs.Rules.{IsPlaceOn, SaysPresent}
use Rattle.xdg_store.specs.States.{State}
use Rattle.xdg_propcore.specs.Passes.{Progress, Clears}
use Rattle.xdg_propcore.proofs.Aimed.{ByOne, Passed, passed_member}
use Rattle.xdg_propcore.proofs.Passing.{clears_like}
use Rattle.xdg_pmulti.specs.Aims.{Forbids}
use Rattle.xdg_facts.specs.Rises.{has}

-- the same edges, told in another way
pub forbids_like : (parts : Parts) (dim : ℕ) (P Q : Edge → Type 0) → ((e : Edge) → IsPlaceOn parts dim e → P e → Q e) → (d v : ℕ) → Forbids parts dim P d v → Forbids parts dim Q d v
forbids_like parts dim P Q to d v f = record { place = f.place; is = f.is; goes = to f.place f.is f.goes; says = f.says }

pub forbids_same : (parts : Parts) (dim : ℕ) (P Q : Edge → Type 0) (p q : Progress) (old new : State) → ((e : Edge) → IsPlaceOn parts dim e → P e → Q e) → ((e : Edge) → IsPlaceOn parts dim e → Q e → P e) → Clears (Forbids parts dim P) p old q new → Clears (Forbids parts dim Q) p old q new
forbids_same parts dim P Q p q old new to from = clears_like (Forbids parts dim P) (Forbids parts dim Q) p q old new (forbids_like parts dim P Q to) (forbids_like parts dim Q P from)

-- one edge
pub one_edge : (parts : Parts) (dim : ℕ) (e : Edge) (p q : Progress) (old new : State) → IsPlaceOn parts dim e → Clears (λ d x. (d ≡ edge_decision parts e) × (x ≡ 0)) p old q new → Clears (Forbids parts dim (λ f. f ≡ e)) p old q new
one_edge parts dim e p q old new is = clears_like (λ d x. (d ≡ edge_decision parts e) × (x ≡ 0)) (Forbids parts dim (λ f. f ≡ e)) p q old new
    (λ d x at. record { place = e; is = is; goes = refl; says = at })
    (λ d x f. subst (λ g. SaysPresent parts g d x) f.goes f.says)

-- for each of some numbers the edges that go by it, told in another way
pub forbids_all : (parts : Parts) (dim : ℕ) (Q : ℕ → Type 0) (P : ℕ → Edge → Type 0) (R : Edge → Type 0) (p q : Progress) (old new : State)
    → ((x : ℕ) (e : Edge) → IsPlaceOn parts dim e → Q x → P x e → R e) → ((e : Edge) → IsPlaceOn parts dim e → R e → (x : ℕ) × Q x × P x e)
    → Clears (ByOne Q (λ x. Forbids parts dim (P x))) p old q new → Clears (Forbids parts dim R) p old q new
forbids_all parts dim Q P R p q old new to from = clears_like (ByOne Q (λ x. Forbids parts dim (P x))) (Forbids parts dim R) p q old new
    (λ d v t. forbids_like parts dim (P t.0) R (λ e on goes. to t.0 e on t.1 goes) d v t.2)
    (λ d v f. (let t = from f.place f.is f.goes in (t.0, t.1, record { place = f.place; is = f.is; goes = t.2; says = f.says })))

-- the next member of a set of nodes is one of the sentence that stays
pub passed_node : (Aim : Parts → ℕ → ℕ → ℕ → Type 0) (set items first left rest : List ℕ) (v : ℕ) (p q : Progress) (old mid : State) → items ≡ set → first ≡ items → left ≡ v ∷ rest
    → ((u : ℕ) → has set u ≡ true → u < nodes old.parts) → Passed Aim first left p old q mid → v < nodes mid.parts
passed_node Aim set items first left rest v p q old mid same at is within a = subst (λ parts. v < nodes parts) (sym a.clears.same) (within v (passed_member Aim set items first left rest v p q old mid same at is a))
