-- Where what the rules of a principle take was cleared, and nothing was taken, the box is closed.
use Rattle.std.proofs.Common.{◌≡◌, ℕ, inr, refl, sym, subst}
use Rattle.xdg_problem.specs.declared.parts.Group.{Group}
use Rattle.xdg_problem.specs.declared.parts.Principle.{Principle}
use Rattle.xdg_problem.specs.declared.parts.Principle.TheVariants as principles
use Rattle.xdg_problem.specs.Boxes.{IsBox}
use Rattle.xdg_problem.specs.Problems.{IsGroup}
use Rattle.xdg_problem.specs.Vectors.{shape}
use Rattle.xdg_rules.specs.Rules.{IsClosedFor, TakesBy}
use Rattle.xdg_store.specs.States.{State, Known}
use Rattle.xdg_propcore.specs.Passes.{Progress, Clears}
use Rattle.xdg_propcore.specs.Sweeps.{Sweeps}
use Rattle.xdg_propcore.proofs.Passing.{clears_like}
use Rattle.xdg_pmulti.specs.Family.{IsOfFamily}
use Rattle.xdg_pmulti.proofs.Closing.{closed_by_rules}

pub not_climbing : (p : Principle) → IsOfFamily p → (p ≡ principles.Climbing → ⊥) → p ≡ principles.Barriers
not_climbing principles.Climbing family none = absurd (none refl)
not_climbing principles.Barriers family none = refl
not_climbing p family none = absurd family

pub swept : (Aim : ℕ → ℕ → Type 0) (principle : Principle) (group : Group) (p q : Progress) (old new : State) → group.principle ≡ principle → IsOfFamily group.principle → IsGroup old.parts group → Known new → ((d v : ℕ) → Aim d v → TakesBy principle old.parts group old.now d v) → ((d v : ℕ) → TakesBy principle old.parts group old.now d v → Aim d v) → Clears Aim p old q new → Sweeps group (IsClosedFor old.parts group) p old q new
swept Aim principle group p q old new principle_is family group_is known to from clears =
    let mine : Clears (TakesBy group.principle old.parts group old.now) p old q new = subst (λ z. Clears (TakesBy z old.parts group old.now) p old q new) (sym principle_is) (clears_like Aim (TakesBy principle old.parts group old.now) p q old new to from clears) in
    record {
      goes = mine.goes group old.now group_is (λ d v h. h) (λ d v aim. inr aim);
      known = known;
      done = λ quiet.
          let same_box = (mine.quiet quiet).1 in
          closed_by_rules old.parts group new.now (subst (λ parts. IsBox (shape parts) new.now) mine.same known.is_box) family
          (λ d v remains rule. mine.gone quiet d v (subst (λ box. TakesBy group.principle old.parts group box d v) same_box rule) remains);
    }
