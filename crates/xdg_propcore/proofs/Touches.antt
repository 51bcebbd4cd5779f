-- The nodes of the decisions that have lost values.
use Rattle.std.proofs.Common.{◌≡◌, ℕ, ◌<◌, ◌≤◌, ◌-◌, inl, inr, Bool, true, List, [], Contains, length, get_or, set, replicate, cond, refl, ap, sym, ◌∙◌, arith, subst}
use Rattle.std.specs.Prelude.{◌==◌, ◌||◌}
use Rattle.std.specs.Int.{bit_at}
use Rattle.std.proofs.lemmas.Bool.{cases_eq, cases_lt, eq-eqb, le-ltb, lt-ltb}
use Rattle.std.proofs.lemmas.Nat.Bits.{bit_at_ones}
use Rattle.std.proofs.lemmas.List.{get_or-replicate, get_or-set_same, get_or-set_other}
use Rattle.xdg_nodeset.specs.Words.{in_words}
use Rattle.xdg_problem.specs.declared.analysis.Edge.{Edge}
use Rattle.xdg_problem.specs.declared.parts.Parts.{Parts}
use Rattle.xdg_problem.specs.Analyses.{IsPlace}
use Rattle.xdg_problem.specs.Boxes.{entry_decision, attr_decision, edge_decision}
use Rattle.xdg_problem.specs.Places.{nodes}
use Rattle.xdg_problem.specs.Problems.{IsDim, IsProblem}
use Rattle.xdg_problem.proofs.PlacePlans.{dim_within, plan_read}
use Rattle.xdg_store.specs.Decisions.{IsDecision}
use Rattle.xdg_store.specs.Naming.{Names}
use Rattle.xdg_store.specs.declared.decision.Decision.{Decision}
use Rattle.xdg_store.specs.declared.decision.Decision.TheVariants as decisions
use Rattle.xdg_store.proofs.Kept.{on_edge}
use Rattle.xdg_propcore.specs.Touching.{HasTouched, IsSmall, Marks}
use Rattle.xdg_nodeset.specs.Tables.{InTable}
use Rattle.xdg_propcore.specs.declared.touched.Touched.{Touched}
use Rattle.xdg_propcore.proofs.ByNumber.{by_attr, by_entry}
use Rattle.xdg_facts.proofs.Truths.{or_here, either_true}
use Rattle.xdg_facts.specs.Rises.{has}

-- ---- a table of sets

pub with_here : (nodes more : List ℕ) (node : ℕ) → ((n : ℕ) → has more n ≡ ((n == node) || has nodes n)) → has more node ≡ true
with_here nodes more node members = members node ∙ or_here (node == node) (has nodes node) (eq-eqb node node refl)

pub with_stays : (nodes more : List ℕ) (node : ℕ) → ((n : ℕ) → has more n ≡ ((n == node) || has nodes n)) → (n : ℕ) → has nodes n ≡ true → has more n ≡ true
with_stays nodes more node members n h = members n ∙ either_true (n == node) (has nodes n) h

pub entry_here : (table : List (List ℕ)) (at node : ℕ) (more : List ℕ) → at < length table → has more node ≡ true → InTable (set table at more) at node
entry_here table at node more within h = subst (λ s. has s node ≡ true) (sym (get_or-set_same table at more [] within)) h

pub entry_stays : (table : List (List ℕ)) (at : ℕ) (nodes more : List ℕ) → at < length table → nodes ≡ get_or table at [] → ((n : ℕ) → has nodes n ≡ true → has more n ≡ true) → (l n : ℕ) → InTable table l n → InTable (set table at more) l n
entry_stays table at nodes more within is stays l n h = elim (cases_eq l at) [
  | inl q ↦ subst (λ i. InTable (set table at more) i n) (sym q) (subst (λ s. has s n ≡ true) (sym (get_or-set_same table at more [] within)) (stays n (subst (λ s. has s n ≡ true) (sym is) (subst (λ i. InTable table i n) q h))))
  | inr f ↦ subst (λ s. has s n ≡ true) (sym (get_or-set_other table at l more [] f)) h
]

-- ---- all nodes

pub words_all : (set : List ℕ) → ((n : ℕ) → has set n ≡ in_words 18446744073709551615 18446744073709551615 n) → (n : ℕ) → n < 128 → has set n ≡ true
words_all set members n l = members n ∙ elim (cases_lt n 64) [
  | inl k ↦ ap (λ b. cond b (bit_at 18446744073709551615 n == 1) (bit_at 18446744073709551615 (n - 64) == 1)) (lt-ltb n 64 k) ∙ eq-eqb (bit_at 18446744073709551615 n) 1 (bit_at_ones 64 n k)
  | inr k ↦ ap (λ b. cond b (bit_at 18446744073709551615 n == 1) (bit_at 18446744073709551615 (n - 64) == 1)) (le-ltb n 64 k) ∙ eq-eqb (bit_at 18446744073709551615 (n - 64)) 1 (bit_at_ones 64 (n - 64) (omega (arith, l, k)))
]

pub table_all : (set : List ℕ) → ((n : ℕ) → n < 128 → has set n ≡ true) → (l n : ℕ) → l < 32 → n < 128 → InTable (replicate 32 set) l n
table_all set all l n k m = subst (λ s. has s n ≡ true) (sym (get_or-replicate 32 l set [] k)) (all n m)

-- ---- one decision after another

-- the nodes of the first decisions, so many, are there
abbrev pub AreMarked : Touched → ℕ → List Decision → ℕ → Type 0
AreMarked t dim decisions count = (k : ℕ) (d : Decision) → k < count → Marks t dim (get_or decisions k d)

pub small_decision : (parts : Parts) (decision : Decision) → IsProblem parts → IsDecision parts decision → IsSmall decision
small_decision parts (decisions.Entry node) problem is = (let m = problem.most in omega (arith, is, m))
small_decision parts (decisions.Attr dim node attr) problem is = (let l = is.1 in let m = problem.most in omega (arith, l, m))
small_decision parts (decisions.Place edge) problem is = small_place parts edge problem is
  where
    small_place : (parts : Parts) (edge : Edge) → IsProblem parts → IsPlace parts edge → (edge.label.0 < 32) × (edge.mother.0 < 128) × (edge.daughter.0 < 128)
    small_place parts edge problem is =
        let plan = subst IsDim (plan_read parts edge is is.plan) (problem.dims edge.dim.0 is.plan (dim_within parts edge is)) in
        let few = plan.labels_most in
        let label = is.label in
        let mother = is.mother in
        let daughter = is.daughter in
        let most = problem.most in
        (omega (arith, few, label), omega (arith, mother, most), omega (arith, daughter, most))

-- ---- all of them

module _ (parts : Parts) (dim : ℕ) (problem : IsProblem parts) (old now : List (List Bool)) (decisions' : List Decision) (names : Names parts old now decisions') (t : Touched) (count : ℕ) (all : length decisions' ≤ count) (marked : AreMarked t dim decisions' count) where
  at : (decision : Decision) → Contains decisions' decision → Marks t dim decision × IsDecision parts decision
  at decision c = (
    subst (Marks t dim) c.2 (marked c.0 decision (let w = c.1 in omega (arith, w, all))),
    subst (IsDecision parts) c.2 (names.each c.0 decision c.1),
  )

  pub touched_all : HasTouched parts dim old now t
  touched_all = record {
    entries = λ node v l lost.
        let n = names.all (entry_decision node) v lost.0 lost.1 in
        let a = at n.0 n.1 in
        by_entry parts problem (λ d. Marks t dim d → has t.entries node ≡ true) node l (λ it same marks. subst (λ k. has t.entries k ≡ true) same marks) n.0 a.1 n.2 a.0;
    attrs = λ node attr v d l a lost.
        let n = names.all (attr_decision parts dim node attr) v lost.0 lost.1 in
        let m = at n.0 n.1 in
        by_attr parts problem (λ k. Marks t dim k → has t.attrs node ≡ true) dim node attr d l a (λ on it which here same other marks. subst (λ k. has t.attrs k ≡ true) same (marks here)) n.0 m.1 n.2 m.0;
    edges = λ e v place on lost. (let n = names.all (edge_decision parts e) v lost.0 lost.1 in let a = at n.0 n.1 in subst (Marks t dim) (on_edge parts n.0 e problem place a.1 n.2) a.0 on);
  }
