-- Parts of a step that are loops: over the first numbers, and over the nodes of a set.
use Rattle.std.proofs.Common.{◌≡◌, ℕ, ◌<◌, ◌≤◌, ◌+◌, inl, inr, Bool, true, List, [], ◌∷◌, sym, ◌∙◌, arith, subst}
use Rattle.std.proofs.lemmas.Bool.{cases_Bool, cases_eq, cases_lt, false≢true}
use Rattle.xdg_problem.specs.declared.parts.Group.{Group}
use Rattle.xdg_problem.specs.declared.parts.Parts.{Parts}
use Rattle.xdg_store.specs.States.{State, Known}
use Rattle.xdg_propcore.specs.Passes.{IsQuiet, Progress}
use Rattle.xdg_propcore.specs.Sweeps.{Sweeps}
use Rattle.xdg_propcore.proofs.Sweeping.{sweeps_next, sweeps_skip, sweeps_start}
use Rattle.xdg_facts.specs.Rises.{has}
use Rattle.xdg_facts.proofs.Sets.{not_left}

-- ---- what stays

-- what holds as long as nothing is taken holds still
pub quiet_later : (group : Group) (P : Parts → List (List Bool) → Type 0) (Done : List (List Bool) → Type 0)
    (p : Progress) (old : State) (q : Progress) (mid : State) → (IsQuiet p → P old.parts old.now) → Sweeps group Done p old q mid → IsQuiet q → P mid.parts mid.now
quiet_later group P Done p old q mid held a quiet =
    let before = a.goes.quiet quiet in
    subst (λ parts. P parts mid.now) (sym a.goes.extends.same) (subst (P old.parts) (sym before.1) (held before.0))

-- ---- the first numbers

-- something is done at the first numbers
abbrev pub AreBelow : (ℕ → List (List Bool) → Type 0) → ℕ → List (List Bool) → Type 0
AreBelow P k box = (i : ℕ) → i < k → P i box

pub below_more : (P : ℕ → List (List Bool) → Type 0) (k : ℕ) (box : List (List Bool)) → AreBelow P k box → P k box → AreBelow P (k + 1) box
below_more P k box before here i l = elim (cases_lt i k) [
  | inl less ↦ before i less
  | inr past ↦ (let e : i ≡ k = omega (arith, l, past) in subst (λ j. P j box) (sym e) here)
]

-- P is what is done at a number, of the parts of the problem
module _ (group : Group) (P : Parts → ℕ → List (List Bool) → Type 0) where
  pub below_first : (p : Progress) (s : State) → Known s → Sweeps group (AreBelow (P s.parts) 0) p s p s
  below_first p s known = sweeps_start group (AreBelow (P s.parts) 0) p s known (λ i l. absurd (omega (arith, l)))

  pub below_next : (k : ℕ) (p : Progress) (old : State) (q : Progress) (mid : State) (r : Progress) (new : State)
      → Sweeps group (AreBelow (P old.parts) k) p old q mid → Sweeps group (P mid.parts k) q mid r new
      → Sweeps group (AreBelow (P old.parts) (k + 1)) p old r new
  below_next k p old q mid r new a b = sweeps_next group (AreBelow (P old.parts) k) (AreBelow (P old.parts) (k + 1)) (λ parts. P parts k) p old q mid r new a b (below_more (P old.parts) k)

  -- where nothing is left to do
  pub below_skip : (k : ℕ) (p : Progress) (old : State) (q : Progress) (mid : State) → Sweeps group (AreBelow (P old.parts) k) p old q mid → P old.parts k mid.now
      → Sweeps group (AreBelow (P old.parts) (k + 1)) p old q mid
  below_skip k p old q mid a here = sweeps_skip group (AreBelow (P old.parts) k) (AreBelow (P old.parts) (k + 1)) p old q mid a (λ before. below_more (P old.parts) k mid.now before here)

  pub below_end : (k n : ℕ) (p : Progress) (old : State) (q : Progress) (new : State) → n ≤ k → Sweeps group (AreBelow (P old.parts) k) p old q new → Sweeps group (AreBelow (P old.parts) n) p old q new
  below_end k n p old q new all a = sweeps_skip group (AreBelow (P old.parts) k) (AreBelow (P old.parts) n) p old q new a (λ done i l. done i (omega (arith, l, all)))

-- ---- the nodes of a set

-- something holds at those of the first nodes that aren't still to come
abbrev pub AreDone : (ℕ → List (List Bool) → Type 0) → List ℕ → List ℕ → List (List Bool) → Type 0
AreDone Done first left box = (v : ℕ) → has first v ≡ true → (has left v ≡ true → ⊥) → Done v box

module _ (group : Group) (Done : Parts → ℕ → List (List Bool) → Type 0) (first : List ℕ) where
  pub turns_start : (p : Progress) (s : State) → Known s → Sweeps group (AreDone (Done s.parts) first first) p s p s
  turns_start p s known = sweeps_start group (AreDone (Done s.parts) first first) p s known (λ v is gone. absurd (gone is))

  pub turns_next : (left rest : List ℕ) (v : ℕ) (p : Progress) (old : State) (q : Progress) (mid : State) (r : Progress) (new : State) → left ≡ v ∷ rest
      → Sweeps group (AreDone (Done old.parts) first left) p old q mid → Sweeps group (Done mid.parts v) q mid r new
      → Sweeps group (AreDone (Done old.parts) first rest) p old r new
  turns_next left rest v p old q mid r new is a b = sweeps_next group (AreDone (Done old.parts) first left) (AreDone (Done old.parts) first rest)
      (λ parts. Done parts v) p old q mid r new a b (λ box before here w there gone. elim (cases_eq w v) [
        | inl same ↦ subst (λ k. Done old.parts k box) (sym same) here
        | inr other ↦ before w there (not_left left rest v w is other gone)
      ])

-- behind the loop: at the nodes outside the set it held before
pub turns_end : (group : Group) (Done : ℕ → List (List Bool) → Type 0) (Q : ℕ → Type 0) (first : List ℕ) (p : Progress) (old : State) (q : Progress) (new : State)
    → (IsQuiet p → (v : ℕ) → Q v → (has first v ≡ true → ⊥) → Done v old.now) → Sweeps group (AreDone Done first []) p old q new
    → Sweeps group (λ box. (v : ℕ) → Q v → Done v box) p old q new
turns_end group Done Q first p old q new others a = record {
  goes = a.goes;
  known = a.known;
  done = λ quiet v asked. elim (cases_Bool (has first v)) [
    | inl there ↦ a.done quiet v there (λ h. false≢true h)
    | inr not ↦ (let before = a.goes.quiet quiet in subst (Done v) (sym before.1) (others before.0 v asked (λ there. false≢true (sym not ∙ there))))
  ];
}
