-- Whether edges make a cycle can be decided.
use Rattle.std.proofs.Common.{◌≡◌, ◌++◌, ℕ, ◌<◌, ◌⊎◌, inl, inr, List, [], ◌∷◌, length, refl, sym, subst, arith}
use Rattle.std.specs.Prelude.{All, Contains}
use Rattle.std.specs.List.{AllByRecursion}
use Rattle.std.proofs.lemmas.Bool.{cases_eq}
use Rattle.std.proofs.lemmas.List.Elements.{All-from_recursion, recursion_from_All, All-contains, All-weaker, All-contains_itself}
use Rattle.xdg_problem.specs.declared.analysis.Edge.{Edge}
use Rattle.xdg_problem.specs.Paths.{Leads, NoCycle}
use Rattle.xdg_facts.proofs.Each.{each_append, each_weaker}
use Rattle.xdg_facts.proofs.Contained.{contains_head, contains_cases, contains_none}
use Rattle.xdg_facts.proofs.Decided.{Decided, decided_like, decided_both, decided_all, decided_from}
use Rattle.xdg_problem.proofs.Walks.{leads_append}
use Rattle.xdg_facts.proofs.Lists.{contains_more}

-- v is u, or u is above v
pub record Reaches (edges : List Edge) (u v : ℕ) : Type 0 where
  pub path : List Edge
  pub along : AllByRecursion (Contains edges) path
  pub leads : Leads u path v

reaches_step : (edges : List Edge) (e : Edge) (u v : ℕ) → Contains edges e → e.mother.0 ≡ u → Reaches edges e.daughter.0 v → Reaches edges u v
reaches_step edges e u v stands from rest = record { path = e ∷ rest.path; along = (stands, rest.along); leads = (from, rest.leads) }

reaches_more : (e : Edge) (edges : List Edge) (u v : ℕ) → Reaches edges u v → Reaches (e ∷ edges) u v
reaches_more e edges u v way = record { path = way.path; along = each_weaker (Contains edges) (Contains (e ∷ edges)) way.path (contains_more e edges) way.along; leads = way.leads }

reaches_joined : (edges : List Edge) (u v w : ℕ) → Reaches edges u v → Reaches edges v w → Reaches edges u w
reaches_joined edges u v w a b = record { path = a.path ++ b.path; along = each_append (Contains edges) a.path b.path a.along b.along; leads = leads_append a.path b.path u v w a.leads b.leads }

-- a path goes without the first edge, or up to it and on from it
path_split : (e : Edge) (edges path : List Edge) (u v : ℕ) → AllByRecursion (Contains (e ∷ edges)) path → Leads u path v → Reaches edges u v ⊎ (Reaches edges u e.mother.0 × Reaches edges e.daughter.0 v)
path_split e edges [] u v along leads = inl (record { path = []; along = tt; leads = leads })
path_split e edges (f ∷ path) u v along leads = elim (path_split e edges path f.daughter.0 v along.1 leads.1) [
  | inl way ↦ elim (contains_cases e edges f along.0) [
    | inl is ↦ inr (record { path = []; along = tt; leads = sym (subst (λ (x : Edge). x.mother.0 ≡ u) (sym is) leads.0) }, subst (λ (x : Edge). Reaches edges x.daughter.0 v) (sym is) way)
    | inr later ↦ inl (reaches_step edges f u v later leads.0 way)
  ]
  | inr ways ↦ elim (contains_cases e edges f along.0) [
    | inl is ↦ inr (record { path = []; along = tt; leads = sym (subst (λ (x : Edge). x.mother.0 ≡ u) (sym is) leads.0) }, ways.1)
    | inr later ↦ inr (reaches_step edges f u e.mother.0 later leads.0 ways.0, ways.1)
  ]
]

path_none : (path : List Edge) (u v : ℕ) → AllByRecursion (Contains []) path → Leads u path v → u ≡ v
path_none [] u v along leads = leads
path_none (f ∷ path) u v along leads = absurd (contains_none f along.0)

pub decided_reaches : (edges : List Edge) (u v : ℕ) → Decided (Reaches edges u v)
decided_reaches [] u v = decided_like (u ≡ v) (Reaches [] u v) (λ e. record { path = []; along = tt; leads = e }) (λ way. path_none way.path u v way.along way.leads) (cases_eq u v)
decided_reaches (e ∷ edges) u v = elim (decided_reaches edges u v) [
  | inl way ↦ inl (reaches_more e edges u v way)
  | inr none ↦ decided_like (Reaches edges u e.mother.0 × Reaches edges e.daughter.0 v) (Reaches (e ∷ edges) u v)
      (λ ways. reaches_joined (e ∷ edges) u e.mother.0 v (reaches_more e edges u e.mother.0 ways.0) (reaches_step (e ∷ edges) e e.mother.0 v (contains_head e edges) refl (reaches_more e edges e.daughter.0 v ways.1)))
      (λ way. elim (path_split e edges way.path u v way.along way.leads) [ inl short ↦ absurd (none short) | inr ways ↦ ways ])
      (decided_both (Reaches edges u e.mother.0) (Reaches edges e.daughter.0 v) (decided_reaches edges u e.mother.0) (decided_reaches edges e.daughter.0 v))
]

closes : (edges : List Edge) (v : ℕ) (path : List Edge) → 0 < length path → AllByRecursion (Contains edges) path → Leads v path v → (e : Edge) × Contains edges e × Reaches edges e.daughter.0 e.mother.0
closes edges v [] some along leads = absurd (omega arith)
closes edges v (e ∷ path) some along leads = (e, along.0, record { path = path; along = along.1; leads = subst (Leads e.daughter.0 path) (sym leads.0) leads.1 })

pub decided_no_cycle : (edges : List Edge) → Decided (NoCycle edges)
decided_no_cycle edges = decided_like (All (λ e. Reaches edges e.daughter.0 e.mother.0 → ⊥) edges) (NoCycle edges)
    (λ none v above. (let closing = closes edges v above.path above.some (recursion_from_All (Contains edges) above.path above.along) above.leads in All-contains (λ e. Reaches edges e.daughter.0 e.mother.0 → ⊥) edges closing.0 none closing.1 closing.2))
    (λ none. All-weaker (Contains edges) (λ e. Reaches edges e.daughter.0 e.mother.0 → ⊥) (closed none) edges (All-contains_itself edges))
    (decided_all (λ e. Reaches edges e.daughter.0 e.mother.0 → ⊥) edges (λ e. decided_from (Reaches edges e.daughter.0 e.mother.0) ⊥ (decided_reaches edges e.daughter.0 e.mother.0) (inr (λ x. x))))
  where
    closed : NoCycle edges → (e : Edge) → Contains edges e → Reaches edges e.daughter.0 e.mother.0 → ⊥
    closed none e stands way = none e.mother.0 (record { path = e ∷ way.path; some = omega arith; along = All-from_recursion (Contains edges) (e ∷ way.path) (stands, way.along); leads = (refl, way.leads) })
