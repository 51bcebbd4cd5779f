-- Values one by one.
use Rattle.std.proofs.Common.{◌≡◌, ℕ, ◌<◌, ◌+◌, ◌↔◌, IsTrue, Bool, true, false, List, sym, ◌∙◌, subst}
use Rattle.xdg_problem.specs.declared.parts.Group.{Group}
use Rattle.xdg_problem.specs.declared.parts.Parts.{Parts}
use Rattle.xdg_problem.specs.Boxes.{Has}
use Rattle.xdg_problem.specs.Problems.{IsGroup}
use Rattle.xdg_rules.specs.Rules.{Takes}
use Rattle.xdg_store.specs.States.{State, Known}
use Rattle.xdg_propcore.specs.Passes.{Progress, Goes}
use Rattle.xdg_propcore.specs.Sweeps.{Sweeps, TakesInside}
use Rattle.xdg_propcore.proofs.Sweeping.{group_stays, sweeps_skip, sweeps_taken, takes_now}
use Rattle.xdg_propcore.proofs.Turns.{below_more}
use Rattle.xdg_pagree.specs.Places.{NoneLacks, NoneBelow}

-- ---- one value of a loop

-- D is the decision, and L what is lacked, of the problem's parts; b is the answer of the test
module _ (group : Group) (D : Parts → ℕ) (L : Parts → List (List Bool) → ℕ → Type 0) (k : ℕ) (b : Bool) (p : Progress) (old : State) (q : Progress) (mid : State) (a : Sweeps group (NoneBelow k (D old.parts) (L old.parts)) p old q mid) (exact : IsTrue b ↔ (Has mid.now (D mid.parts) k × L mid.parts mid.now k)) where
  abbrev NotLacked : Parts → ℕ → List (List Bool) → Type 0
  NotLacked parts v box = Has box (D parts) v → L parts box v → ⊥

  -- the test at the parts of the beginning
  exact_first : IsTrue b ↔ (Has mid.now (D old.parts) k × L old.parts mid.now k)
  exact_first = subst (λ parts. IsTrue b ↔ (Has mid.now (D parts) k × L parts mid.now k)) a.goes.extends.same exact

  -- the value stays
  pub loop_skip : b ≡ false → Sweeps group (NoneBelow (k + 1) (D old.parts) (L old.parts)) p old q mid
  loop_skip fails = sweeps_skip group (NoneBelow k (D old.parts) (L old.parts)) (NoneBelow (k + 1) (D old.parts) (L old.parts)) p old q mid a
      (λ before. below_more (NotLacked old.parts) k mid.now before (λ has lacks. (let t : b ≡ true = exact_first.1 (has, lacks) in absurd (let e : true ≡ false = sym t ∙ fails in cc))))

  -- the value goes
  pub loop_taken : (r : Progress) (new : State) → IsGroup old.parts group → TakesInside old.parts group old.now (D old.parts) (L old.parts) → b ≡ true → ((g : Group) → IsGroup mid.parts g → Takes mid.parts g mid.now (D mid.parts) k → Goes g q mid r new) → Known new → (Has new.now (D mid.parts) k → r.dead ≡ true) → Sweeps group (NoneBelow (k + 1) (D old.parts) (L old.parts)) p old r new
  loop_taken r new is takes passes goes known gone =
      let here = exact_first.0 passes in
      let now = takes_now group p old q mid a.goes a.known (D old.parts) (L old.parts) takes k here.1 in
      let step = goes group (group_stays group p old q mid a.goes a.known is) (subst (λ parts. Takes mid.parts group mid.now (D parts) k) (sym a.goes.extends.same) now) in
      sweeps_taken group (NoneBelow k (D old.parts) (L old.parts)) (NoneBelow (k + 1) (D old.parts) (L old.parts)) p old q mid r new (D old.parts) k a step known (subst (λ parts. Has new.now (D parts) k → r.dead ≡ true) a.goes.extends.same gone)
      (λ before not. below_more (NotLacked old.parts) k new.now before (λ has lacks. not has))

-- all values were seen

pub loop_end : (group : Group) (D : Parts → ℕ) (L : Parts → List (List Bool) → ℕ → Type 0) (k : ℕ) (p : Progress) (old : State) (q : Progress) (mid : State) → Sweeps group (NoneBelow k (D old.parts) (L old.parts)) p old q mid → ((v : ℕ) → Has mid.now (D mid.parts) v → v < k) → Sweeps group (NoneLacks (D old.parts) (L old.parts)) p old q mid
loop_end group D L k p old q mid a within = sweeps_skip group (NoneBelow k (D old.parts) (L old.parts)) (NoneLacks (D old.parts) (L old.parts)) p old q mid a
    (λ none v has lacks. none v (subst (λ parts. (u : ℕ) → Has mid.now (D parts) u → u < k) a.goes.extends.same within v has) has lacks)
