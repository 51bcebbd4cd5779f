-- Bindings under which a decision concerns a formula.
use Rattle.std.proofs.Common.{◌≡◌, ℕ, ◌+◌, ◌<◌, ◌≤◌, suc, inl, inr, Bool, true, false, ◌&&◌, List, [], ◌∷◌, length, map, get_or, sym, ◌∙◌, ap, subst, arith}
use Rattle.std.specs.Prelude.{not, ◌==◌}
use Rattle.std.proofs.lemmas.Bool.{cases_eq}
use Rattle.std.proofs.lemmas.List.{get_or_default}
use Rattle.xdg_base.specs.declared.ids.AttrId.{AttrId}
use Rattle.xdg_base.specs.declared.ids.DimId.{DimId}
use Rattle.xdg_base.specs.declared.ids.NodeId.{NodeId}
use Rattle.xdg_problem.specs.declared.formula.Formula.{Formula}
use Rattle.xdg_problem.specs.declared.parts.Parts.{Parts}
use Rattle.xdg_problem.specs.Claims.{Claim, claims_of, claim}
use Rattle.xdg_problem.specs.Truths.{bound, unbound}
use Rattle.xdg_store.specs.declared.decision.Decision.{Decision}
use Rattle.xdg_store.specs.declared.decision.Decision.TheVariants as decisions
use Rattle.xdg_formula_value.specs.Lost.{AgreeBut, Concerns, ConcernsSome, Finds, IsAttrOf, IsEntryOf, OnNames, Seen}
use Rattle.xdg_formula_value.proofs.Finding.{NoneMade, agree_rest, finds_no, finds_on, finds_weaker, missed}
use Rattle.xdg_formula_value.proofs.Within.{seen_so}
use Rattle.xdg_facts.specs.Rises.{has}

-- what concerns one of some claims concerns it at a place
some_at : (parts : Parts) (old new : List (List Bool)) (d : Decision) (fs : List Formula) (b : ℕ → ℕ) (none_there : Formula) → ConcernsSome parts old new d (claims_of (map claim fs)) b
    → (i : ℕ) × (i < length fs) × Concerns parts old new d (claim (get_or fs i none_there)) b
some_at parts old new d [] b none_there meets = absurd meets
some_at parts old new d (f ∷ fs) b none_there meets = elim meets [
  | inl here ↦ (0, omega arith, here)
  | inr later ↦ (let it = some_at parts old new d fs b none_there later in (suc it.0, (let l = it.1 in omega (arith, l)), it.2))
]

module _ (parts : Parts) (old box : List (List Bool)) (c : Claim) (truth : Bool) (free names : List ℕ) (d : Decision) where
  -- names stand for what lets the decision concern a claim
  abbrev pub Touched : List ℕ → Claim → (ℕ → ℕ) → Type 0
  Touched on part b = AgreeBut free unbound b × OnNames on (Concerns parts old box d part) b

  -- ---- one part after another

  -- none of the first parts is one that the decision concerns so
  abbrev pub NoneTouched : List Formula → ℕ → Type 0
  NoneTouched fs k = (i : ℕ) (f : Formula) → i < k → NoneMade parts box c truth (Touched names (claim (get_or fs i f)))

  pub touched_start : (fs : List Formula) → NoneTouched fs 0
  touched_start fs i f l = absurd (omega (arith, l))

  pub touched_turn : (fs : List Formula) (k : ℕ) (f : Formula) (found seen more : Bool) → k < length fs → f ≡ get_or fs k f → (more ≡ true → seen ≡ true) → (seen ≡ true → NoneTouched fs k) → found ≡ false
      → Finds parts box c truth (Seen more (Touched names (claim f))) found → more ≡ true → NoneTouched fs (k + 1)
  touched_turn fs k f found seen more within is still so_far off finds on i g l = elim (cases_eq i k) [
    | inl alike ↦ (
        let here : f ≡ get_or fs i g = is ∙ get_or_default fs k f g within ∙ sym (ap (λ j. get_or fs j g) alike) in
        subst (λ h. NoneMade parts box c truth (Touched names (claim h))) here (missed parts box c truth (Touched names (claim f)) found off (seen_so parts box c truth (Touched names (claim f)) more found on finds))
        )
    | inr other ↦ so_far (still on) i g (omega (arith, l, other))
  ]

  -- names stand for what lets the decision concern one of some claims
  abbrev pub TouchedSome : List Formula → (ℕ → ℕ) → Type 0
  TouchedSome fs b = AgreeBut free unbound b × OnNames names (ConcernsSome parts old box d (claims_of (map claim fs))) b

  -- no part of a list is
  pub touched_end : (fs : List Formula) (k : ℕ) (none_there : Formula) → length fs ≤ k → NoneTouched fs k → Finds parts box c truth (TouchedSome fs) false
  touched_end fs k none_there past none = finds_no parts box c truth (TouchedSome fs) (λ b are wanted makes. (
      let it = some_at parts old box d fs wanted.1.0 none_there wanted.1.2 in
      let l = it.1 in
      none it.0 none_there (omega (arith, l, past)) b are (wanted.0, (wanted.1.0, wanted.1.1, it.2)) makes
      ))

-- ---- one decision

module _ (parts : Parts) (box : List (List Bool)) (c : Claim) (truth : Bool) (free names : List ℕ) (d : Decision) where
  -- a name stands for a node of the decision
  one_for : (P : (ℕ → ℕ) → Type 0) (name node : ℕ) (none : ℕ → ℕ) (found : Bool) → ((a : ℕ → ℕ) → P a → node ≡ a name) → none ≡ unbound
      → Finds parts box c truth (λ b. AgreeBut free none b × (has names name ≡ true → b name ≡ node)) found → Finds parts box c truth (λ b. AgreeBut free unbound b × OnNames names P b) found
  one_for P name node none found tells is finds =
      finds_weaker parts box c truth (λ b. AgreeBut free unbound b × OnNames names P b) (λ b. AgreeBut free none b × (has names name ≡ true → b name ≡ node)) found
      (λ b are w. (subst (λ a. AgreeBut free a b) (sym is) w.0, λ there. sym (w.1.1 name there) ∙ sym (tells w.1.0 w.1.2))) finds

  pub entry_found : (name : ℕ) (node : NodeId) (none : ℕ → ℕ) (found : Bool) → d ≡ decisions.Entry node → none ≡ unbound
      → Finds parts box c truth (λ b. AgreeBut free none b × (has names name ≡ true → b name ≡ node.0)) found
      → Finds parts box c truth (λ b. AgreeBut free unbound b × OnNames names (λ a. IsEntryOf d (a name)) b) found
  entry_found name node none found is unbinds finds = one_for (λ a. IsEntryOf d (a name)) name node.0 none found (λ a meets. subst (λ e. IsEntryOf e (a name)) is meets) unbinds finds

  pub attr_found : (name dim attr : ℕ) (on : DimId) (node : NodeId) (which : AttrId) (none : ℕ → ℕ) (found : Bool) → d ≡ decisions.Attr on node which → none ≡ unbound
      → Finds parts box c truth (λ b. AgreeBut free none b × (has names name ≡ true → b name ≡ node.0)) found
      → Finds parts box c truth (λ b. AgreeBut free unbound b × OnNames names (λ a. IsAttrOf d dim (a name) attr) b) found
  attr_found name dim attr on node which none found is unbinds finds =
      one_for (λ a. IsAttrOf d dim (a name) attr) name node.0 none found (λ a meets. (subst (λ e. IsAttrOf e dim (a name) attr) is meets).1) unbinds finds

-- ---- the nodes of an edge

module _ (parts : Parts) (box : List (List Bool)) (c : Claim) (truth : Bool) (free names : List ℕ) (mother daughter u v : ℕ) where
  -- two names stand for them
  abbrev pub Ends : (ℕ → ℕ) → Type 0
  Ends a = (u ≡ a mother) × (v ≡ a daughter)

  -- only the second is bound
  pub ends_second : (none : ℕ → ℕ) (found : Bool) → none ≡ unbound → Finds parts box c truth (λ b. AgreeBut free none b × (has names daughter ≡ true → b daughter ≡ v)) found
      → Finds parts box c truth (λ b. AgreeBut free unbound b × OnNames names Ends b) found
  ends_second none found is finds = finds_weaker parts box c truth (λ b. AgreeBut free unbound b × OnNames names Ends b) (λ b. AgreeBut free none b × (has names daughter ≡ true → b daughter ≡ v)) found
      (λ b are w. (subst (λ a. AgreeBut free a b) (sym is) w.0, λ there. sym (w.1.1 daughter there) ∙ sym w.1.2.1)) finds

  -- both are
  pub ends_both : (rest : List ℕ) (none here : ℕ → ℕ) (found : Bool) → none ≡ unbound → here ≡ bound none mother u → ((n : ℕ) → has rest n ≡ (not (n == mother) && has free n)) → has names mother ≡ true
      → Finds parts box c truth (λ b. AgreeBut rest here b × (has names daughter ≡ true → b daughter ≡ v)) found → Finds parts box c truth (λ b. AgreeBut free unbound b × OnNames names Ends b) found
  ends_both rest none here found is here_is members named finds = finds_weaker parts box c truth (λ b. AgreeBut free unbound b × OnNames names Ends b) (λ b. AgreeBut rest here b × (has names daughter ≡ true → b daughter ≡ v)) found
      (λ b are w. (
        agree_rest free rest unbound here b mother u members (here_is ∙ ap (λ a. bound a mother u) is) w.0 (sym (w.1.1 mother named) ∙ sym w.1.2.0),
        λ there. sym (w.1.1 daughter there) ∙ sym w.1.2.1,
      )) finds

-- what a loop over parts asks for
pub ruleset touched_steps = (touched_start, finds_on)
