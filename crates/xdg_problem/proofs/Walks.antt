-- Paths, and sets of nodes that no path leaves.
use Rattle.std.proofs.Common.{◌≡◌, ℕ, ◌<◌, ◌⊎◌, inl, inr, refl, arith, List, [], ◌∷◌, ◌++◌, length, length-append, sym, subst}
use Rattle.std.specs.List.{Any}
use Rattle.std.specs.Prelude.{All, Contains}
use Rattle.std.proofs.lemmas.List.Elements.{All-weaker, All-nil, All-cons, All-head, All-tail, All-append}
use Rattle.xdg_problem.specs.declared.analysis.Edge.{Edge}
use Rattle.xdg_problem.specs.Paths.{Leads, Above, AboveByLast, IsDaughter}

pub leads_append : (p q : List Edge) (u v w : ℕ) → Leads u p v → Leads v q w → Leads u (p ++ q) w
leads_append [] q u v w a b = subst (λ x. Leads x q w) (sym a) b
leads_append (e ∷ p) q u v w (m, a) b = (m, leads_append p q e.daughter.0 v w a b)

pub above_trans : (edges : List Edge) (u v w : ℕ) → Above edges u v → Above edges v w → Above edges u w
above_trans edges u v w a b = record {
  path = a.path ++ b.path;
  some = (let h = a.some in omega (arith, h, length-append a.path b.path));
  along = All-append (Contains edges) a.path b.path a.along b.along;
  leads = leads_append a.path b.path u v w a.leads b.leads;
}

-- a path along some of the edges is one along all of them
pub above_more : (few many : List Edge) → ((e : Edge) → Contains few e → Contains many e) → (u v : ℕ) → Above few u v → Above many u v
above_more few many among u v above = record {
  path = above.path;
  some = above.some;
  along = All-weaker (Contains few) (Contains many) among above.path above.along;
  leads = above.leads;
}

pub above_edge : (edges : List Edge) (e : Edge) → Contains edges e → Above edges e.mother.0 e.daughter.0
above_edge edges e c = record { path = e ∷ []; some = omega arith; along = All-cons (Contains edges) e [] c (All-nil (Contains edges)); leads = (refl, refl) }

pub daughter_above : (edges : List Edge) (u v : ℕ) → IsDaughter edges u v → Above edges u v
daughter_above edges u v (k, e, l, at, (m, d)) = subst (λ x. Above edges x v) m (subst (Above edges e.mother.0) d (above_edge edges e (k, l, at)))

-- nodes that no edge leads out of: what is reached from u along edges stays within a closed set
pub closed_reach : (edges : List Edge) (u : ℕ) (In : ℕ → Type 0) → ((e : Edge) → Contains edges e → (e.mother.0 ≡ u) ⊎ In e.mother.0 → In e.daughter.0) → (path : List Edge) (a b : ℕ) → All (Contains edges) path → Leads a path b → In a → In b
closed_reach edges u In closed [] a b along leads h = subst In leads h
closed_reach edges u In closed (e ∷ path) a b along (m, leads) h = closed_reach edges u In closed path e.daughter.0 b (All-tail (Contains edges) e path along) leads
    (closed e (All-head (Contains edges) e path along) (inr (subst In (sym m) h)))

pub closed_path : (edges : List Edge) (u b : ℕ) (In : ℕ → Type 0) → ((e : Edge) → Contains edges e → (e.mother.0 ≡ u) ⊎ In e.mother.0 → In e.daughter.0) → (path : List Edge) → 0 < length path → All (Contains edges) path → Leads u path b → In b
closed_path edges u b In closed [] some along leads = absurd (omega (arith, some))
closed_path edges u b In closed (e ∷ path) some along (m, leads) = closed_reach edges u In closed path e.daughter.0 b (All-tail (Contains edges) e path along) leads
    (closed e (All-head (Contains edges) e path along) (inl m))

pub closed_above : (edges : List Edge) (u b : ℕ) (In : ℕ → Type 0) → ((e : Edge) → Contains edges e → (e.mother.0 ≡ u) ⊎ In e.mother.0 → In e.daughter.0) → Above edges u b → In b
closed_above edges u b In closed above = closed_path edges u b In closed above.path above.some above.along above.leads

-- what each edge leads through, and what goes on along an edge, a path leads through
pub above_in : (R : ℕ → ℕ → Type 0) (edges : List Edge) (u v : ℕ) → ((e : Edge) → Contains edges e → R e.mother.0 e.daughter.0) → ((e : Edge) → Contains edges e → R u e.mother.0 → R u e.daughter.0) → Above edges u v → R u v
above_in R edges u v here on = closed_above edges u v (R u) (λ e is from. elim from [ inl first ↦ subst (λ x. R x e.daughter.0) first (here e is) | inr later ↦ on e is later ])

pub split_leads : (front : List Edge) (e : Edge) (u v : ℕ) → Leads u (front ++ e ∷ []) v → Leads u front e.mother.0 × (e.daughter.0 ≡ v)
split_leads [] e u v (m, d) = (sym m, d)
split_leads (f ∷ front) e u v (m, leads) = let r = split_leads front e f.daughter.0 v leads in ((m, r.0), r.1)

pub split_along : (P : Edge → Type 0) (front : List Edge) (e : Edge) → All P (front ++ e ∷ []) → All P front × P e
split_along P [] e all = (All-nil P, All-head P e [] all)
split_along P (f ∷ front) e all = let r = split_along P front e (All-tail P f (front ++ e ∷ []) all) in (All-cons P f front (All-head P f (front ++ e ∷ []) all) r.0, r.1)

pub joined_last_on : (edges : List Edge) (front : List Edge) (u m : ℕ) → All (Contains edges) front → Leads u front m → (m ≡ u) ⊎ Above edges u m
joined_last_on edges [] u m along leads = inl (sym leads)
joined_last_on edges (f ∷ front) u m along leads = inr (record { path = f ∷ front; some = omega arith; along = along; leads = leads })

-- where a path ends with an edge with one of the labels, some edge of it is the last
pub by_last : (edges : List Edge) (labels : List ℕ) (u v : ℕ) → AboveByLast edges u labels v → Any (λ e. Contains labels e.label.0 × (((e.mother.0 ≡ u) ⊎ Above edges u e.mother.0) × (e.daughter.0 ≡ v))) edges
by_last edges labels u v a =
    let along = split_along (Contains edges) a.front a.last a.along in
    let leads = split_leads a.front a.last u v a.leads in
    (along.1.0, a.last, along.1.1, along.1.2, (a.label, (joined_last_on edges a.front u a.last.mother.0 along.0 leads.0, leads.1)))
