-- What a rule takes, part by part.
use Rattle.std.proofs.Common.{◌≡◌, ℕ, ◌⊎◌, inl, inr, Bool, true, false, List, refl, sym, subst}
use Rattle.xdg_facts.specs.Rises.{has}
use Rattle.xdg_problem.specs.declared.parts.Group.{Group}
use Rattle.xdg_problem.specs.declared.parts.Parts.{Parts}
use Rattle.xdg_problem.specs.Arguments.{first_dim}
use Rattle.xdg_problem.specs.Boxes.{Has, LiesIn}
use Rattle.xdg_problem.specs.Problems.{IsGroup}
use Rattle.xdg_rules.specs.Rules.{Takes}
use Rattle.xdg_store.specs.States.{State}
use Rattle.xdg_propcore.specs.Passes.{Progress, Clears, IsQuiet}
use Rattle.xdg_propcore.proofs.Passing.{goes_none, goes_both}
use Rattle.xdg_pgraph.specs.Ruling.{Runs, RunsFor}

-- what a rule takes of a sentence, for a principle use on it
abbrev pub Rule : Type 1
Rule = Parts → Group → List (List Bool) → ℕ → ℕ → Type 0

-- a part of what a rule takes is taken, where all of it is taken by the principle use
abbrev pub RunsPart : Rule → Rule → ℕ → Progress → State → Progress → State → Type 0
RunsPart Whole Part dim p old q new =
    (group : Group) → IsGroup old.parts group → first_dim group ≡ dim
    → ((box : List (List Bool)) (d v : ℕ) → Whole old.parts group box d v → Takes old.parts group box d v)
    → Runs (Part old.parts group) group p old q new

-- nothing is done: nothing of the part remains, unless something was taken before
pub part_none : (Whole Part : Rule) (dim : ℕ) (p : Progress) (s : State)
    → ((group : Group) → first_dim group ≡ dim → IsQuiet p → (d v : ℕ) → Part s.parts group s.now d v → Has s.now d v → ⊥) → RunsPart Whole Part dim p s p s
part_none Whole Part dim p s none group is on takes = record { goes = goes_none group p s; done = none group on }

-- a part, and then another one, of a rule that takes nothing else
pub part_then : (Whole First Other Second Both : Rule) (dim : ℕ) (p q r : Progress) (old mid new : State)
    → ((group : Group) → first_dim group ≡ dim → LiesIn mid.now old.now → (box : List (List Bool)) (d v : ℕ) → Other old.parts group box d v → Whole old.parts group box d v)
    → ((group : Group) → first_dim group ≡ dim → (d v : ℕ) → Both old.parts group mid.now d v → Has mid.now d v → First old.parts group mid.now d v ⊎ Second old.parts group mid.now d v)
    → RunsPart Whole First dim p old q mid → RunsPart Other Second dim q mid r new → RunsPart Whole Both dim p old r new
part_then Whole First Other Second Both dim p q r old mid new into each first second group is on takes =
    let a = first group is on takes in
    let same = a.goes.extends.same in
    let b = subst (λ parts. Runs (Second parts group) group q mid r new) same
    (second group (subst (λ parts. IsGroup parts group) (sym same) is) on
    (λ box d v x. subst (λ parts. Takes parts group box d v) (sym same) (takes box d v (into group on a.goes.extends.inside box d v (subst (λ parts. Other parts group box d v) same x))))) in
    record {
      goes = goes_both group p q r old mid new a.goes b.goes;
      done = λ z d v x h.
          let y = b.goes.quiet z in
          let before = subst (λ box. Has box d v) y.1 h in
          elim (each group on d v (subst (λ box. Both old.parts group box d v) y.1 x) before) [
            | inl one ↦ a.done y.0 d v one before
            | inr two ↦ b.done z d v (subst (λ box. Second old.parts group box d v) (sym y.1) two) h
          ];
    }

-- no value
abbrev pub Never : Rule
Never parts group box d v = ⊥

module _ (dim : ℕ) (p q : Progress) (old new : State) where
  -- another part of another rule, of which nothing else remained
  pub part_like : (Whole Part Other Same : Rule) → ((group : Group) → first_dim group ≡ dim → (box : List (List Bool)) (d v : ℕ) → Whole old.parts group box d v → Other old.parts group box d v)
      → ((group : Group) → first_dim group ≡ dim → (d v : ℕ) → Same old.parts group old.now d v → Has old.now d v → Part old.parts group old.now d v)
      → RunsPart Whole Part dim p old q new → RunsPart Other Same dim p old q new
  part_like Whole Part Other Same to from = part_then Other Never Whole Part Same dim p p q old old new (λ group on lies. to group on) (λ group on d v x h. inr (from group on d v x h))
      (part_none Other Never dim p old (λ group on quiet d v none h. none))

  -- a rule that is asked for
  pub wanted_runs : (R : Rule) (wanted : Bool) → wanted ≡ true → RunsFor R dim p old q new → RunsFor (λ parts group box d v. (wanted ≡ true) × R parts group box d v) dim p old q new
  wanted_runs R wanted is = part_like R R (λ parts group box d v. (wanted ≡ true) × R parts group box d v) (λ parts group box d v. (wanted ≡ true) × R parts group box d v)
      (λ group on box d v x. (is, x)) (λ group on d v x h. x.1)

module _ (dim : ℕ) (p q r : Progress) (old mid new : State) where
  -- one rule after another
  pub both_run : (A B C : Rule) → ((parts : Parts) (group : Group) (box : List (List Bool)) (d v : ℕ) → A parts group box d v ⊎ B parts group box d v → C parts group box d v)
      → ((parts : Parts) (group : Group) (box : List (List Bool)) (d v : ℕ) → C parts group box d v → A parts group box d v ⊎ B parts group box d v)
      → RunsFor A dim p old q mid → RunsFor B dim q mid r new → RunsFor C dim p old r new
  both_run A B C to from a = part_then C A B B C dim p q r old mid new (λ group on lies box d v x. to old.parts group box d v (inr x)) (λ group on d v x h. from old.parts group mid.now d v x)
      (part_like dim p q old mid A A C A (λ group on box d v x. to old.parts group box d v (inl x)) (λ group on d v x h. x) a)

  -- a part, and then values that are cleared
  pub part_cleared : (Whole Part More : Rule) (Aim : ℕ → ℕ → Type 0) → ((group : Group) → first_dim group ≡ dim → LiesIn mid.now old.now → (d v : ℕ) → Aim d v → Whole old.parts group mid.now d v)
      → ((group : Group) → first_dim group ≡ dim → (d v : ℕ) → More old.parts group mid.now d v → Part old.parts group mid.now d v ⊎ Aim d v)
      → RunsPart Whole Part dim p old q mid → Clears Aim q mid r new → RunsPart Whole More dim p old r new
  part_cleared Whole Part More Aim to from a c = part_then Whole Part Now Now More dim p q r old mid new
      (λ group on lies box d v x. subst (λ b. Whole old.parts group b d v) (sym x.0) (to group on lies d v x.1))
      (λ group on d v x h. elim (from group on d v x) [ inl before ↦ inl before | inr aim ↦ inr (refl, aim) ])
      a
      (λ group is on takes. record { goes = c.goes group mid.now is (λ d v h. h) (λ d v aim. takes mid.now d v (refl, aim)); done = λ z d v x. c.gone z d v x.1 })
    where
      Now : Rule
      Now parts group box d v = (box ≡ mid.now) × Aim d v

-- ---- over nodes

-- what a rule takes at a node, of each value that it takes
abbrev pub AtNode : Rule → Type 0
AtNode R = (parts : Parts) (group : Group) (box : List (List Bool)) (d v : ℕ) → R parts group box d v → ℕ

module _ (R : Rule) (node : AtNode R) where
  -- the rule, at those nodes of which something holds
  abbrev pub AtThose : (ℕ → Type 0) → Rule
  AtThose Q parts group box d v = (rule : R parts group box d v) × Q (node parts group box d v rule)

  -- at those outside a set
  abbrev pub Outside : List ℕ → Rule
  Outside left = AtThose (λ n. has left n ≡ false)

  -- what is cleared is what it takes at one node more
  pub node_cleared : (dim : ℕ) (p q r : Progress) (old mid new : State) (Q S : ℕ → Type 0) (w : ℕ) → ((n : ℕ) → S n → Q n ⊎ (n ≡ w))
      → (Aim : ℕ → ℕ → Type 0) → ((group : Group) → first_dim group ≡ dim → LiesIn mid.now old.now → (d v : ℕ) → Aim d v → R old.parts group mid.now d v)
      → ((group : Group) → first_dim group ≡ dim → (d v : ℕ) (rule : R old.parts group mid.now d v) → node old.parts group mid.now d v rule ≡ w → Aim d v)
      → RunsPart R (AtThose Q) dim p old q mid → Clears Aim q mid r new → RunsPart R (AtThose S) dim p old r new
  node_cleared dim p q r old mid new Q S w cases Aim to from = part_cleared dim p q r old mid new R (AtThose Q) (AtThose S) Aim to
      (λ group on d v x. elim (cases (node old.parts group mid.now d v x.0) x.1) [ inl before ↦ inl (x.0, before) | inr at ↦ inr (from group on d v x.0 at) ])

  -- those are all nodes at which it takes something
  pub nodes_all : (dim : ℕ) (p q : Progress) (old new : State) (Q : ℕ → Type 0) → ((group : Group) → first_dim group ≡ dim → (d v : ℕ) (rule : R old.parts group old.now d v) → Q (node old.parts group old.now d v rule))
      → RunsPart R (AtThose Q) dim p old q new → RunsFor R dim p old q new
  nodes_all dim p q old new Q all = part_like dim p q old new R (AtThose Q) R R (λ group on box d v x. x) (λ group on d v x h. (x, all group on d v x))
