-- Whether a path leads from one node to another can be decided, and what a condition asks.
use Rattle.std.proofs.Common.{◌≡◌, ℕ, ◌<◌, List, [], ◌∷◌, length, refl, arith}
use Rattle.std.specs.Prelude.{All, Contains}
use Rattle.std.specs.List.{Any}
use Rattle.std.proofs.lemmas.List.Elements.{All-push, All-from_recursion, recursion_from_All}
use Rattle.xdg_problem.specs.declared.analysis.Edge.{Edge}
use Rattle.xdg_problem.specs.Paths.{IsDaughter, IsDaughterBy, IsDaughterByAny, IsEnteredByAny, AreSistersByAny, Leads, Above, AboveByFirst, AboveByLast}
use Rattle.xdg_facts.proofs.Contained.{any_of}
use Rattle.xdg_facts.proofs.Decided.{Decided, decided_like, decided_both, decided_equal, decided_contains, decided_any, triple_decided}
use Rattle.xdg_problem.proofs.Walks.{leads_append, split_along, split_leads}
use Rattle.xdg_problem.proofs.CycleTests.{Reaches, decided_reaches}

-- what holds where some edge is as P says
pub decided_by_edge : (P : Edge → Type 0) (Q : Type 0) (edges : List Edge) → ((e : Edge) → Contains edges e → P e → Q) → (Q → (e : Edge) × Contains edges e × P e) → ((e : Edge) → Decided (P e)) → Decided Q
decided_by_edge P Q edges to from each = decided_like (Any P edges) Q (λ a. to a.1 (a.0, a.2, a.3) a.4) (λ q. (let found = from q in any_of P edges found.0 found.1 found.2)) (decided_any P edges each)

-- daughters

pub decided_daughter : (edges : List Edge) (u v : ℕ) → Decided (IsDaughter edges u v)
decided_daughter edges u v = decided_any (λ e. (e.mother.0 ≡ u) × (e.daughter.0 ≡ v)) edges (λ e. decided_both _ _ (decided_equal e.mother.0 u) (decided_equal e.daughter.0 v))

pub decided_daughter_by : (edges : List Edge) (u l v : ℕ) → Decided (IsDaughterBy edges u l v)
decided_daughter_by edges u l v = decided_any (λ e. (e.mother.0 ≡ u) × (e.label.0 ≡ l) × (e.daughter.0 ≡ v)) edges (λ e. triple_decided _ _ _ (decided_equal e.mother.0 u) (decided_equal e.label.0 l) (decided_equal e.daughter.0 v))

pub decided_daughter_by_any : (edges : List Edge) (u : ℕ) (labels : List ℕ) (v : ℕ) → Decided (IsDaughterByAny edges u labels v)
decided_daughter_by_any edges u labels v = decided_any (λ e. (e.mother.0 ≡ u) × Contains labels e.label.0 × (e.daughter.0 ≡ v)) edges (λ e. triple_decided _ _ _ (decided_equal e.mother.0 u) (decided_contains labels e.label.0) (decided_equal e.daughter.0 v))

pub decided_entered : (edges : List Edge) (labels : List ℕ) (v : ℕ) → Decided (IsEnteredByAny edges labels v)
decided_entered edges labels v = decided_any (λ e. Contains labels e.label.0 × (e.daughter.0 ≡ v)) edges (λ e. decided_both _ _ (decided_contains labels e.label.0) (decided_equal e.daughter.0 v))

pub decided_sisters : (edges : List Edge) (u : ℕ) (labels : List ℕ) (v : ℕ) → Decided (AreSistersByAny edges u labels v)
decided_sisters edges u labels v = decided_any (λ e. (e.daughter.0 ≡ u) × IsDaughterByAny edges e.mother.0 labels v) edges (λ e. decided_both _ _ (decided_equal e.daughter.0 u) (decided_daughter_by_any edges e.mother.0 labels v))

-- paths

-- a path falls into its first edge and the rest
pub starts : (edges path : List Edge) (u v : ℕ) → 0 < length path → All (Contains edges) path → Leads u path v → (e : Edge) × Contains edges e × ((e.mother.0 ≡ u) × Reaches edges e.daughter.0 v)
starts edges [] u v some along leads = absurd (omega (arith, some))
starts edges (e ∷ path) u v some along leads =
    let each = recursion_from_All (Contains edges) (e ∷ path) along in
    (e, each.0, (leads.0, record { path = path; along = each.1; leads = leads.1 }))

pub decided_above : (edges : List Edge) (u v : ℕ) → Decided (Above edges u v)
decided_above edges u v = decided_by_edge (λ e. (e.mother.0 ≡ u) × Reaches edges e.daughter.0 v) (Above edges u v) edges
    (λ e stands p. record {
      path = e ∷ p.1.path;
      some = omega arith;
      along = All-from_recursion (Contains edges) (e ∷ p.1.path) (stands, p.1.along);
      leads = (p.0, p.1.leads);
    })
    (λ above. starts edges above.path u v above.some above.along above.leads)
    (λ e. decided_both _ _ (decided_equal e.mother.0 u) (decided_reaches edges e.daughter.0 v))

pub decided_above_by_first : (edges : List Edge) (u : ℕ) (labels : List ℕ) (v : ℕ) → Decided (AboveByFirst edges u labels v)
decided_above_by_first edges u labels v = decided_by_edge (λ e. (e.mother.0 ≡ u) × Contains labels e.label.0 × Reaches edges e.daughter.0 v) (AboveByFirst edges u labels v) edges
    (λ e stands p. record {
      first = e;
      rest = p.2.path;
      label = p.1;
      along = All-from_recursion (Contains edges) (e ∷ p.2.path) (stands, p.2.along);
      leads = (p.0, p.2.leads);
    })
    (λ above.
    let each = recursion_from_All (Contains edges) (above.first ∷ above.rest) above.along in
    (above.first, each.0, (above.leads.0, above.label, record { path = above.rest; along = each.1; leads = above.leads.1 })))
    (λ e. triple_decided _ _ _ (decided_equal e.mother.0 u) (decided_contains labels e.label.0) (decided_reaches edges e.daughter.0 v))

pub decided_above_by_last : (edges : List Edge) (u : ℕ) (labels : List ℕ) (v : ℕ) → Decided (AboveByLast edges u labels v)
decided_above_by_last edges u labels v = decided_by_edge (λ e. Reaches edges u e.mother.0 × Contains labels e.label.0 × (e.daughter.0 ≡ v)) (AboveByLast edges u labels v) edges
    (λ e stands p. record {
      front = p.0.path;
      last = e;
      label = p.1;
      along = All-push (Contains edges) p.0.path e (All-from_recursion (Contains edges) p.0.path p.0.along) stands;
      leads = leads_append p.0.path (e ∷ []) u e.mother.0 v p.0.leads (refl, p.2);
    })
    (λ above.
    let along = split_along (Contains edges) above.front above.last above.along in
    let leads = split_leads above.front above.last u v above.leads in
    (above.last, along.1, (record { path = above.front; along = recursion_from_All (Contains edges) above.front along.0; leads = leads.0 }, above.label, leads.1)))
    (λ e. triple_decided _ _ _ (decided_reaches edges u e.mother.0) (decided_contains labels e.label.0) (decided_equal e.daughter.0 v))
