-- Bindings of names to nodes of the sentence.
use Rattle.std.proofs.Common.{◌≡◌, ℕ, ◌<◌, inl, inr, Bool, true, false, cond, List, length, replicate, sym, ◌∙◌, ap, subst}
use Rattle.std.specs.Prelude.{◌==◌, slice_index, slice_set}
use Rattle.std.proofs.lemmas.Bool.{cases_eq, eq-eqb, eqb-true, false_from_ne_true}
use Rattle.std.proofs.lemmas.List.{get_or-set_same, get_or-set_other}
use Rattle.xdg_facts.proofs.Numbers.{zeros}
use Rattle.xdg_problem.specs.declared.parts.Parts.{Parts}
use Rattle.xdg_problem.specs.Places.{nodes}
use Rattle.xdg_problem.specs.Truths.{bound, stands, unbound, AreNodes}

-- the name that is bound stands for the node, and each other for what it stood for

pub bound_here : (b : ℕ → ℕ) (name node other : ℕ) → other ≡ name → bound b name node other ≡ node
bound_here b name node other same = ap (λ t. cond t node (b other)) (eq-eqb other name same)

pub bound_else : (b : ℕ → ℕ) (name node other : ℕ) → (other ≡ name → ⊥) → bound b name node other ≡ b other
bound_else b name node other differ = ap (λ t. cond t node (b other)) (false_from_ne_true (other == name) (λ t. differ (eqb-true other name t)))

bound_at : (table : List ℕ) (name node other : ℕ) → name < length table → stands (slice_set table name node) other ≡ bound (stands table) name node other
bound_at table name node other within = elim (cases_eq other name) [
  | inl same ↦ ap (slice_index (slice_set table name node)) same ∙ get_or-set_same table name node 0 within ∙ sym (bound_here (stands table) name node other same)
  | inr differ ↦ get_or-set_other table name other node 0 differ ∙ sym (bound_else (stands table) name node other differ)
]

-- a table in which a node is written is the binding in which the name stands for it
pub bound_table : (table : List ℕ) (name node : ℕ) → name < length table → stands (slice_set table name node) ≡ bound (stands table) name node
bound_table table name node within = λ i other. bound_at table name node other within i

-- a table of zeros binds no name
pub unbound_table : (table : List ℕ) (count : ℕ) → table ≡ replicate count 0 → (λ name. slice_index table name) ≡ unbound
unbound_table table count is = λ i name. (ap (λ t. slice_index t name) is ∙ zeros count name) i

chosen : (n : ℕ) (is : Bool) (node other : ℕ) → node < n → other < n → cond is node other < n
chosen n true node other l m = l
chosen n false node other l m = m

-- where a further name stands for a node of the sentence, each name does
pub bound_nodes : (parts : Parts) (b : ℕ → ℕ) (name node : ℕ) → AreNodes parts b → node < nodes parts → AreNodes parts (bound b name node)
bound_nodes parts b name node are within other = chosen (nodes parts) (other == name) node (b other) within (are other)

pub nodes_inside : (parts : Parts) (old new : ℕ → ℕ) (name node : ℕ) → new ≡ bound old name node → AreNodes parts old → node < nodes parts → AreNodes parts new
nodes_inside parts old new name node is are within = subst (AreNodes parts) (sym is) (bound_nodes parts old name node are within)

pub nodes_unbound : (parts : Parts) (b : ℕ → ℕ) → b ≡ unbound → 0 < nodes parts → AreNodes parts b
nodes_unbound parts b is some = subst (AreNodes parts) (sym is) (λ name. some)
