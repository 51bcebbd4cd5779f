-- Rows of quantifiers, where only nodes are looked at that are possible for the two names.
use Rattle.std.proofs.Common.{◌≡◌, ◌↔◌, ℕ, ◌<◌, IsTrue, Bool, true, false, ◌&&◌, List, [], length, sym, ◌∙◌, subst, arith}
use Rattle.std.proofs.lemmas.Bool.{and_from, and_parts}
use Rattle.xdg_problem.specs.declared.formula.Formula.{Formula}
use Rattle.xdg_problem.specs.declared.parts.Parts.{Parts}
use Rattle.xdg_problem.specs.Claims.{claim}
use Rattle.xdg_problem.specs.Places.{nodes}
use Rattle.xdg_problem.specs.Truths.{bound, AreNodes}
use Rattle.xdg_rules.specs.Worths.{Makes}
use Rattle.xdg_graph.specs.Every.{IsEvery}
use Rattle.xdg_formula_value.specs.Rows.{AreFirst, Bounds, IsRowOn, Over}
use Rattle.xdg_formula_value.proofs.Rowed.{Gathered, gathered_among, over_told}
use Rattle.xdg_facts.proofs.Rising.{no_member}
use Rattle.xdg_facts.specs.Rises.{has}
use Rattle.xdg_facts.proofs.Sets.{none_in}

-- what is so at some node, where there is one
over_some : (each : Bool) (n : ℕ) (P : ℕ → Type 0) → 0 < n → Over each n P → (v : ℕ) × (v < n) × P v
over_some true n P some each = (0, some, each 0 some)
over_some false n P some found = found

-- a row of those nodes alone at which it may be so
pub within_row : (n : ℕ) (all some inside met : List ℕ) (P : ℕ → Type 0) → IsEvery n all → IsRowOn some P inside → ((v : ℕ) → v < n → P v → has some v ≡ true) → ((v : ℕ) → has met v ≡ (has inside v && has some v)) → IsRowOn all P met
within_row n all some inside met P every row bounds meets v within = (
  λ h. (let both = and_parts (has inside v) (has some v) (sym (meets v) ∙ h) in (row v both.1).0 both.0),
  λ p. (let there = bounds v ((every v).0 within) p in meets v ∙ and_from (has inside v) (has some v) ((row v there).1 p) there),
)

module _ (parts : Parts) (box : List (List Bool)) (truth each : Bool) (b : ℕ → ℕ) (name other : ℕ) (f : Formula) where
  -- a first node for the name and a second one for the other make the formula so
  abbrev Possible : ℕ → ℕ → Type 0
  Possible v node = Makes parts box (claim f) truth (bound (bound b name v) other node)

  -- with a node for the name the formula is so for each node for the other, or for some
  abbrev pub IsSoOver : ℕ → Type 0
  IsSoOver v = Over each (nodes parts) (Possible v)

  some_second : AreNodes parts b → (v : ℕ) → IsSoOver v → (node : ℕ) × (node < nodes parts) × Possible v node
  some_second are v over = over_some each (nodes parts) (Possible v) (let l = are 0 in omega (arith, l)) over

  -- where no node is possible for the other name
  pub narrowed_none : (care second row : List ℕ) → AreNodes parts b → ((v node : ℕ) → node < nodes parts → Possible v node → has second node ≡ true) → length second ≡ 0 → row ≡ [] → IsRowOn care IsSoOver row
  narrowed_none care second row are bounds none empty v within = (
    λ h. absurd (no_member row v empty h),
    λ over. (let found = some_second are v over in absurd (none_in second found.0 none (bounds v found.0 found.1 found.2))),
  )

  -- what is told at a node
  pub narrowed_told : (v : ℕ) (z : ℕ → ℕ) (all second inside met : List ℕ) (holds : Bool) (size : ℕ) → z ≡ bound b name v → IsEvery (nodes parts) all → size ≡ nodes parts → ((w node : ℕ) → node < nodes parts → Possible w node → has second node ≡ true)
      → IsRowOn second (λ node. Makes parts box (claim f) truth (bound z other node)) inside → ((node : ℕ) → has met node ≡ (has inside node && has second node)) → IsTrue holds ↔ Over each size (λ node. has met node ≡ true) → (holds ≡ true) ↔ IsSoOver v
  narrowed_told v z all second inside met holds size is every size_is bounds row meets told =
      let here = subst (λ y. IsRowOn second (λ node. Makes parts box (claim f) truth (bound y other node)) inside) is row in
      over_told each holds size (nodes parts) all (Possible v) met size_is every (within_row (nodes parts) all second inside met (Possible v) every here (bounds v) meets) told

  module _ (care set possible : List ℕ) (meets : (v : ℕ) → has possible v ≡ (has care v && has set v)) where
    pub narrowed_first : AreFirst (nodes parts) care → AreFirst (nodes parts) possible
    narrowed_first first v h = first v (and_parts (has care v) (has set v) (sym (meets v) ∙ h)).0

    -- what was told at the possible nodes
    pub narrowed_row : (left row : List ℕ) → AreNodes parts b → Bounds care Possible set → left ≡ [] → Gathered possible IsSoOver left row → IsRowOn care IsSoOver row
    narrowed_row left row are bounds empty all = gathered_among care possible left IsSoOver row empty
        (λ v within over. (let found = some_second are v over in meets v ∙ and_from (has care v) (has set v) within (bounds v found.0 within found.2))) all
