-- Parts of a step, one after another.
use Rattle.std.proofs.Common.{◌≡◌, ℕ, Bool, true, false, List, sym, ◌∙◌, subst}
use Rattle.xdg_problem.specs.declared.parts.Group.{Group}
use Rattle.xdg_problem.specs.declared.parts.Parts.{Parts}
use Rattle.xdg_problem.specs.Boxes.{Has, IsBox}
use Rattle.xdg_problem.specs.Problems.{IsGroup}
use Rattle.xdg_problem.specs.Vectors.{shape}
use Rattle.xdg_rules.specs.Rules.{Takes}
use Rattle.xdg_store.specs.States.{State, Known}
use Rattle.xdg_propcore.specs.Passes.{Progress, Goes}
use Rattle.xdg_propcore.specs.Sweeps.{Sweeps, TakesInside}
use Rattle.xdg_propcore.proofs.Passing.{goes_none, goes_both}

module _ (group : Group) where
  -- nothing is done yet
  pub sweeps_start : (Done : List (List Bool) → Type 0) (p : Progress) (s : State) → Known s → Done s.now → Sweeps group Done p s p s
  sweeps_start Done p s known done = record { goes = goes_none group p s; known = known; done = λ quiet. done }

  -- what is done already comes to more
  pub sweeps_skip : (Done More : List (List Bool) → Type 0) (p : Progress) (old : State) (q : Progress) (new : State) → Sweeps group Done p old q new → (Done new.now → More new.now) → Sweeps group More p old q new
  sweeps_skip Done More p old q new a more = record { goes = a.goes; known = a.known; done = λ quiet. more (a.done quiet) }

  -- one part after another
  pub sweeps_both : (Done More : List (List Bool) → Type 0) (p : Progress) (old : State) (q : Progress) (mid : State) (r : Progress) (new : State) → Sweeps group Done p old q mid → Sweeps group More q mid r new → Sweeps group (λ box. Done box × More box) p old r new
  sweeps_both Done More p old q mid r new a b = record {
    goes = goes_both group p q r old mid new a.goes b.goes;
    known = b.known;
    done = λ quiet. (let same = b.goes.quiet quiet in (subst Done (sym same.1) (a.done same.0), b.done quiet));
  }

  -- the same where the second came to what is said of the parts of its store, and both come to one thing
  pub sweeps_next : (Done Both : List (List Bool) → Type 0) (More : Parts → List (List Bool) → Type 0) (p : Progress) (old : State) (q : Progress) (mid : State) (r : Progress) (new : State) → Sweeps group Done p old q mid → Sweeps group (More mid.parts) q mid r new → ((box : List (List Bool)) → Done box → More old.parts box → Both box) → Sweeps group Both p old r new
  sweeps_next Done Both More p old q mid r new a b both =
      let all = sweeps_both Done (More old.parts) p old q mid r new a (subst (λ parts. Sweeps group (More parts) q mid r new) a.goes.extends.same b) in
      sweeps_skip (λ box. Done box × More old.parts box) Both p old r new all (λ done. both new.now done.0 done.1)

  -- a value is taken
  pub sweeps_taken : (Done More : List (List Bool) → Type 0) (p : Progress) (old : State) (q : Progress) (mid : State) (r : Progress) (new : State) (d v : ℕ) → Sweeps group Done p old q mid → Goes group q mid r new → Known new → (Has new.now d v → r.dead ≡ true) → (Done new.now → (Has new.now d v → ⊥) → More new.now) → Sweeps group More p old r new
  sweeps_taken Done More p old q mid r new d v a goes known gone more = record {
    goes = goes_both group p q r old mid new a.goes goes;
    known = known;
    done = λ quiet. (let same = goes.quiet quiet in more (subst Done (sym same.1) (a.done same.0)) (λ has. (let dead = gone has in let alive = quiet.1 in absurd (let e : true ≡ false = sym dead ∙ alive in cc))));
  }

-- ---- what is taken in a box inside

module _ (group : Group) (p : Progress) (old : State) (q : Progress) (mid : State) (goes : Goes group p old q mid) (known : Known mid) where
  pub group_stays : IsGroup old.parts group → IsGroup mid.parts group
  group_stays is = subst (λ parts. IsGroup parts group) (sym goes.extends.same) is

  -- the present box is one of them
  pub takes_now : (d : ℕ) (Lacks : List (List Bool) → ℕ → Type 0) → TakesInside old.parts group old.now d Lacks → (v : ℕ) → Lacks mid.now v → Takes mid.parts group mid.now d v
  takes_now d Lacks takes v lacks = subst (λ parts. Takes parts group mid.now d v) (sym goes.extends.same) (takes mid.now (subst (λ parts. IsBox (shape parts) mid.now) goes.extends.same known.is_box) goes.extends.inside v lacks)

  -- what lies in the present box lay in the earlier one
  pub takes_later : (d : ℕ) (Lacks : List (List Bool) → ℕ → Type 0) → TakesInside old.parts group old.now d Lacks → TakesInside mid.parts group mid.now d Lacks
  takes_later d Lacks takes box is lies v lacks = subst (λ parts. Takes parts group box d v) (sym goes.extends.same) (takes box (subst (λ parts. IsBox (shape parts) box) goes.extends.same is) (λ e x h. goes.extends.inside e x (lies e x h)) v lacks)
