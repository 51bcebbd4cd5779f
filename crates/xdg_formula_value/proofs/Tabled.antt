-- Tables of paths that are filled one dimension after another.
use Rattle.std.proofs.Common.{◌≡◌, ◌↔◌, ℕ, ◌+◌, ◌<◌, ◌≤◌, inl, inr, Bool, true, false, List, [], length, sym, ◌∙◌, subst, arith}
use Rattle.std.specs.Prelude.{slice_index_or, slice_set}
use Rattle.std.proofs.lemmas.Bool.{cases_eq, false≢true}
use Rattle.std.proofs.lemmas.List.{get_or-set_same, get_or-set_other}
use Rattle.xdg_nodeset.specs.Tables.{InTable}
use Rattle.xdg_problem.specs.Paths.{Above}
use Rattle.xdg_graph.specs.declared.which.Which.{Which}
use Rattle.xdg_graph.specs.Edges.{edges_of}
use Rattle.xdg_store.specs.States.{State}
use Rattle.xdg_formula_value.specs.Filling.{TellsPaths}
use Rattle.xdg_formula_value.specs.Pairs.{Along}
use Rattle.xdg_formula_value.specs.declared.way.Way.{Way}
use Rattle.xdg_facts.specs.Rises.{has}

module _ (way : Way) (which : Which) (s : State) (k : ℕ) (known : List Bool) (tables : List (List (List ℕ))) (before : TellsPaths way which s k known tables) where
  -- a dimension of which none is wanted
  pub tells_skip : slice_index_or known k false ≡ false → TellsPaths way which s (k + 1) known tables
  tells_skip off dim l wanted = elim (cases_eq dim k) [
    | inl same ↦ absurd (false≢true (sym off ∙ subst (λ j. slice_index_or known j false ≡ true) same wanted))
    | inr other ↦ before dim (omega (arith, l, other)) wanted
  ]

  -- the table of one more
  pub tells_more : (table : List (List ℕ)) → k < length tables → ((a b : ℕ) → InTable table a b ↔ Along way (Above (edges_of which s.parts s.now k)) a b) → TellsPaths way which s (k + 1) known (slice_set tables k table)
  tells_more table within is dim l wanted = elim (cases_eq dim k) [
    | inl same ↦ subst (λ j. (a b : ℕ) → InTable (slice_index_or (slice_set tables k table) j []) a b ↔ Along way (Above (edges_of which s.parts s.now j)) a b) (sym same)
        (subst (λ t. (a b : ℕ) → InTable t a b ↔ Along way (Above (edges_of which s.parts s.now k)) a b) (sym (get_or-set_same tables k table [] within)) is)
    | inr other ↦ subst (λ t. (a b : ℕ) → InTable t a b ↔ Along way (Above (edges_of which s.parts s.now dim)) a b) (sym (get_or-set_other tables k dim table [] other)) (before dim (omega (arith, l, other)) wanted)
  ]

-- a table of one way

-- all eight
pub tells_all : (way : Way) (which : Which) (s : State) (k : ℕ) (known : List Bool) (tables : List (List (List ℕ))) → 8 ≤ k → TellsPaths way which s k known tables → TellsPaths way which s 8 known tables
tells_all way which s k known tables past all dim l = all dim (omega (arith, l, past))

-- what a table has for a node
pub at_node : (way : Way) (which : Which) (s : State) (dim : ℕ) (table : List (List ℕ)) (node : ℕ) (set : List ℕ) → ((a b : ℕ) → InTable table a b ↔ Along way (Above (edges_of which s.parts s.now dim)) a b) → set ≡ slice_index_or table node [] → (x : ℕ) → (has set x ≡ true) ↔ Along way (Above (edges_of which s.parts s.now dim)) node x
at_node way which s dim table node set exact is x = subst (λ t. (has t x ≡ true) ↔ Along way (Above (edges_of which s.parts s.now dim)) node x) (sym is) (exact node x)

-- the same for edges that are told by a name
pub at_which : (way : Way) (which named : Which) (s : State) (dim node : ℕ) (set : List ℕ) → which ≡ named → ((x : ℕ) → (has set x ≡ true) ↔ Along way (Above (edges_of named s.parts s.now dim)) node x) → (x : ℕ) → (has set x ≡ true) ↔ Along way (Above (edges_of which s.parts s.now dim)) node x
at_which way which named s dim node set is exact = subst (λ w. (x : ℕ) → (has set x ≡ true) ↔ Along way (Above (edges_of w s.parts s.now dim)) node x) (sym is) exact
