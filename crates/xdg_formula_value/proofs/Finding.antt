-- Nodes for names that let a box make a claim true, or false, looked for one after another.
use Rattle.std.proofs.Common.{◌≡◌, ◌≢◌, ◌↔◌, ℕ, ◌+◌, ◌<◌, ◌≤◌, IsTrue, inl, inr, Bool, true, false, ◌&&◌, List, [], ◌∷◌, length, refl, sym, ◌∙◌, ap, subst, arith}
use Rattle.std.specs.Prelude.{not, ◌==◌}
use Rattle.std.proofs.lemmas.Bool.{cases_eq, and_from, false≢true}
use Rattle.xdg_problem.specs.declared.parts.Parts.{Parts}
use Rattle.xdg_problem.specs.Claims.{Claim}
use Rattle.xdg_problem.specs.Places.{nodes}
use Rattle.xdg_problem.specs.Truths.{bound, AreNodes}
use Rattle.xdg_rules.specs.Worths.{Makes}
use Rattle.xdg_problem.proofs.Bindings.{bound_nodes, bound_here, bound_else}
use Rattle.xdg_formula_value.specs.Lost.{AgreeBut, Finds, HasNode, HasNodes}
use Rattle.xdg_graph.specs.Every.{IsEvery}
use Rattle.xdg_formula_value.specs.Rows.{Bounds, IsRowOn, Over}
use Rattle.xdg_formula_value.proofs.Narrowed.{within_row}
use Rattle.xdg_formula_value.proofs.Rowed.{over_told}
use Rattle.xdg_facts.proofs.Rising.{no_member, head_or_tail}
use Rattle.xdg_formula_value.proofs.Stood.{bound_back}
use Rattle.xdg_facts.specs.Rises.{has}
use Rattle.xdg_facts.proofs.Sets.{none_in, not_rest}

-- ---- one name fewer

-- a binding that agrees with another but on some names, and gives one of them a node, agrees but on the rest with the other where that name is bound to the node
pub agree_rest : (all rest : List ℕ) (a here b : ℕ → ℕ) (name node : ℕ) → ((n : ℕ) → has rest n ≡ (not (n == name) && has all n)) → here ≡ bound a name node → AgreeBut all a b → b name ≡ node → AgreeBut rest here b
agree_rest all rest a here b name node members here_is agree at other out = elim (cases_eq other name) [
  | inl same ↦ ap b same ∙ at ∙ sym (bound_here a name node other same) ∙ sym (ap (λ f. f other) here_is)
  | inr differ ↦ agree other (not_rest all rest name other members out differ) ∙ sym (bound_else a name node other differ) ∙ sym (ap (λ f. f other) here_is)
]

-- bindings that agree on all names are one
pub agree_all : (free : List ℕ) (a b : ℕ → ℕ) → ((name : ℕ) → has free name ≡ true → ⊥) → AgreeBut free a b → b ≡ a
agree_all free a b none agree = λ i name. agree name (none name) i

module _ (parts : Parts) (box : List (List Bool)) (c : Claim) (truth : Bool) where
  -- no binding of some is one under which the box makes it
  abbrev pub NoneMade : ((ℕ → ℕ) → Type 0) → Type 0
  NoneMade Wanted = (b : ℕ → ℕ) → AreNodes parts b → Wanted b → Makes parts box c truth b → ⊥

  -- the answer of a call that looked for others stands too
  pub finds_on : (Wanted Other : (ℕ → ℕ) → Type 0) (found : Bool) → found ≡ true → Finds parts box c truth Other found → Finds parts box c truth Wanted true
  finds_on Wanted Other found is finds = record { sound = λ t. finds.sound is; complete = λ b are wanted makes. refl }

  pub finds_no : (Wanted : (ℕ → ℕ) → Type 0) → NoneMade Wanted → Finds parts box c truth Wanted false
  finds_no Wanted none_made = record { sound = λ t. absurd (false≢true t); complete = λ b are wanted makes. absurd (none_made b are wanted makes) }

  pub finds_weaker : (Wanted Other : (ℕ → ℕ) → Type 0) (found : Bool) → ((b : ℕ → ℕ) → AreNodes parts b → Wanted b → Other b) → Finds parts box c truth Other found → Finds parts box c truth Wanted found
  finds_weaker Wanted Other found weaker finds = record { sound = finds.sound; complete = λ b are wanted makes. finds.complete b are (weaker b are wanted) makes }

  pub missed : (Other : (ℕ → ℕ) → Type 0) (found : Bool) → found ≡ false → Finds parts box c truth Other found → NoneMade Other
  missed Other found off finds b are other makes = false≢true (sym off ∙ finds.complete b are other makes)

  -- ---- no name is free

  pub found_whole : (free : List ℕ) (a : ℕ → ℕ) (found : Bool) → free ≡ [] → AreNodes parts a → IsTrue found ↔ Makes parts box c truth a → Finds parts box c truth (AgreeBut free a) found
  found_whole free a found empty are told = record {
    sound = λ t. (a, are, told.0 t);
    complete = λ b nodes_of agree makes. told.1 (subst (Makes parts box c truth) (agree_all free a b (λ name there. false≢true (subst (λ s. has s name ≡ true) empty there)) agree) makes);
  }

  -- ---- one name is free

  pub found_single : (free rest : List ℕ) (a : ℕ → ℕ) (name : ℕ) (found : Bool) → ((n : ℕ) → has rest n ≡ (not (n == name) && has free n)) → rest ≡ [] → AreNodes parts a → IsTrue found ↔ HasNode parts box c truth a name
      → Finds parts box c truth (AgreeBut free a) found
  found_single free rest a name found members empty are told = record {
    sound = λ t. (let some = told.0 t in (bound a name some.0, bound_nodes parts a name some.0 are some.1, some.2));
    complete = λ b nodes_of agree makes. (
        let same : b ≡ bound a name (b name) =
        agree_all rest (bound a name (b name)) b (λ n there. false≢true (subst (λ s. has s n ≡ true) empty there)) (agree_rest free rest a (bound a name (b name)) b name (b name) members refl agree refl) in
        told.1 (b name, nodes_of name, subst (Makes parts box c truth) same makes)
        );
  }

  -- what may be found outside a name isn't
  pub found_nowhere : (a : ℕ → ℕ) (name : ℕ) (may : Bool) → may ≡ false → ((node : ℕ) → Makes parts box c truth (bound a name node) → IsTrue may) → IsTrue false ↔ HasNode parts box c truth a name
  found_nowhere a name may off bounds = (λ t. absurd (false≢true t), λ some. absurd (false≢true (sym off ∙ bounds some.0 some.2)))

  -- a name outside that stands for what it stood for
  pub found_outside : (a : ℕ → ℕ) (outside name at : ℕ) (all row : List ℕ) (may : Bool) → AreNodes parts a → IsEvery (nodes parts) all → Bounds all (λ v node. Makes parts box c truth (bound (bound a outside v) name node)) row
      → at ≡ a outside → may ≡ has row at → (node : ℕ) → Makes parts box c truth (bound a name node) → IsTrue may
  found_outside a outside name at all row may are every bounds at_is may_is node makes =
      may_is ∙ ap (has row) at_is ∙ bounds (a outside) node ((every (a outside)).1 (are outside)) (subst (λ b. Makes parts box c truth (bound b name node)) (sym (bound_back a outside)) makes)

  -- ---- two names are free

  pub found_double : (free rest last : List ℕ) (a : ℕ → ℕ) (name other : ℕ) (found : Bool) → ((n : ℕ) → has rest n ≡ (not (n == name) && has free n)) → ((n : ℕ) → has last n ≡ (not (n == other) && has rest n))
      → length last ≡ 0 → AreNodes parts a → IsTrue found ↔ HasNodes parts box c truth a name other → Finds parts box c truth (AgreeBut free a) found
  found_double free rest last a name other found members members_last none are told = record {
    sound = λ t. (
        let some = told.0 t in
        let first : AreNodes parts (bound a name some.0) = bound_nodes parts a name some.0 are some.1 in
        (bound (bound a name some.0) other some.2.0, bound_nodes parts (bound a name some.0) other some.2.0 first some.2.1, some.2.2)
        );
    complete = λ b nodes_of agree makes. (
        let here : AgreeBut rest (bound a name (b name)) b = agree_rest free rest a (bound a name (b name)) b name (b name) members refl agree refl in
        let same : b ≡ bound (bound a name (b name)) other (b other) =
        agree_all last (bound (bound a name (b name)) other (b other)) b (λ n. none_in last n none)
        (agree_rest rest last (bound a name (b name)) (bound (bound a name (b name)) other (b other)) b other (b other) members_last refl here refl) in
        told.1 (b name, nodes_of name, (b other, nodes_of other, subst (Makes parts box c truth) same makes))
        );
  }

  module _ (a : ℕ → ℕ) (name other : ℕ) where
    -- a node is possible for the second name, whatever the first one stands for
    abbrev pub BoundsSecond : List ℕ → Type 0
    BoundsSecond second = (v node : ℕ) → node < nodes parts → Makes parts box c truth (bound (bound a name v) other node) → has second node ≡ true

    -- with none of the possible nodes for the first name, but those that are left, there is one for the second
    abbrev pub NonePassed : List ℕ → List ℕ → Type 0
    NonePassed possible left = (v : ℕ) → has possible v ≡ true → (has left v ≡ true → ⊥) → HasNode parts box c truth (bound a name v) other → ⊥

    -- where none is possible for the second name
    pub pairs_none : (second : List ℕ) → length second ≡ 0 → BoundsSecond second → IsTrue false ↔ HasNodes parts box c truth a name other
    pairs_none second none bounds = (λ t. absurd (false≢true t), λ some. absurd (none_in second some.2.0 none (bounds some.0 some.2.0 some.2.1 some.2.2)))

    pub pairs_start : (possible left : List ℕ) → left ≡ possible → NonePassed possible left
    pairs_start possible left is v there out = absurd (out (subst (λ s. has s v ≡ true) (sym is) there))

    -- what the row of a node tells
    pub pairs_here : (here : ℕ → ℕ) (node size : ℕ) (all second inside met : List ℕ) (holds : Bool) → here ≡ bound a name node → IsEvery (nodes parts) all → size ≡ nodes parts → BoundsSecond second
        → IsRowOn second (λ v. Makes parts box c truth (bound here other v)) inside → ((v : ℕ) → has met v ≡ (has inside v && has second v)) → IsTrue holds ↔ Over false size (λ v. has met v ≡ true)
        → (holds ≡ true) ↔ HasNode parts box c truth (bound a name node) other
    pairs_here here node size all second inside met holds here_is every size_is bounds row meets told =
        let within : (v : ℕ) → v < nodes parts → Makes parts box c truth (bound here other v) → has second v ≡ true = λ v l so. bounds node v l (subst (λ b. Makes parts box c truth (bound b other v)) here_is so) in
        let of_all = within_row (nodes parts) all second inside met (λ v. Makes parts box c truth (bound here other v)) every row within meets in
        subst (λ b. (holds ≡ true) ↔ HasNode parts box c truth b other) here_is (over_told false holds size (nodes parts) all (λ v. Makes parts box c truth (bound here other v)) met size_is every of_all told)

    pub pairs_found : (node : ℕ) (holds : Bool) → node < nodes parts → holds ≡ true → (holds ≡ true) ↔ HasNode parts box c truth (bound a name node) other → IsTrue true ↔ HasNodes parts box c truth a name other
    pairs_found node holds l on here = (λ t. (node, l, here.0 on), λ some. refl)

    pub pairs_turn : (possible left later : List ℕ) (node : ℕ) (holds : Bool) → holds ≡ false → (holds ≡ true) ↔ HasNode parts box c truth (bound a name node) other → left ≡ node ∷ later
        → NonePassed possible left → NonePassed possible later
    pairs_turn possible left later node holds off here at so_far v there out some = elim (cases_eq node v) [
      | inl same ↦ false≢true (sym off ∙ here.1 (subst (λ k. HasNode parts box c truth (bound a name k) other) (sym same) some))
      | inr differ ↦ so_far v there (λ still. elim (head_or_tail left later node v at still) [ inl same ↦ differ same | inr more ↦ out more ]) some
    ]

    pub pairs_end : (all row possible left : List ℕ) → IsEvery (nodes parts) all → Bounds all (λ v w. Makes parts box c truth (bound (bound a name v) other w)) row
        → ((v : ℕ) → has possible v ≡ (has all v && has row v)) → left ≡ [] → NonePassed possible left → IsTrue false ↔ HasNodes parts box c truth a name other
    pairs_end all row possible left every bounds meets empty so_far = (
      λ t. absurd (false≢true t),
      λ some. absurd (
          let within = (every some.0).1 some.1 in
          so_far some.0 (meets some.0 ∙ and_from (has all some.0) (has row some.0) within (bounds some.0 some.2.0 within some.2.2)) (λ still. no_member left some.0 empty still) some.2),
    )

  -- ---- one node after another for a free name

  -- none of the first nodes is one
  abbrev pub NoneUpTo : List ℕ → (ℕ → ℕ) → ℕ → ℕ → Type 0
  NoneUpTo free a name k = (v : ℕ) → v < k → NoneMade (λ b. AgreeBut free a b × (b name ≡ v))

  pub nodes_start : (free : List ℕ) (a : ℕ → ℕ) (name : ℕ) → NoneUpTo free a name 0
  nodes_start free a name v l = absurd (omega (arith, l))

  pub nodes_turn : (free rest : List ℕ) (a here : ℕ → ℕ) (name node : ℕ) (found : Bool) → ((n : ℕ) → has rest n ≡ (not (n == name) && has free n)) → here ≡ bound a name node
      → NoneUpTo free a name node → found ≡ false → Finds parts box c truth (AgreeBut rest here) found → NoneUpTo free a name (node + 1)
  nodes_turn free rest a here name node found members here_is so_far off finds v l b are wanted makes = elim (cases_eq v node) [
    | inl same ↦ missed (AgreeBut rest here) found off finds b are (agree_rest free rest a here b name node members here_is wanted.0 (wanted.1 ∙ same)) makes
    | inr other ↦ so_far v (omega (arith, l, other)) b are wanted makes
  ]

  pub nodes_end : (free : List ℕ) (a : ℕ → ℕ) (name k : ℕ) → nodes parts ≤ k → NoneUpTo free a name k → Finds parts box c truth (AgreeBut free a) false
  nodes_end free a name k past so_far = finds_no (AgreeBut free a) (λ b are agree makes. (let l = are name in so_far (b name) (omega (arith, l, past)) b are (agree, refl) makes))
