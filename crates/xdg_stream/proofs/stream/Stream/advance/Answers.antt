use Rattle.std.proofs.Common.{◌∙◌, ap, refl, subst, sym}
use Rattle.std.specs.Option.{is_some}
use Rattle.std.specs.Vec.{vec_capacity}
use Rattle.xdg_facts.specs.Closed.{NoneAfter, SomeAfter}
use Rattle.xdg_problem.specs.Vectors.{shape}
use Rattle.xdg_rules.specs.Boxed.{Boxed}
use Rattle.xdg_stream.specs.declared.search.Step.TheVariants as steps
use Rattle.xdg_stream.specs.Fronted.{Fronted}
use Rattle.xdg_stream.specs.Streamed.{Advances, IsStream, seen}
use Rattle.xdg_stream.proofs.Streaming.{end_found, ended_call, found_advances, spent_found, stream_found}
use Rattle.xdg_stream.proofs.stream.Stream.advance.Goals as goal
use Rattle.xdg_stream.proofs.stream.Stream.advance.Goals.{After-refill, In-End, In-Spent}

-- what a call leaves that found something, one that found the end, and one that spent the budget
found : (g : _) (c : After-refill g) → (let n = c.advance-step.new.self in let new = seen n.front.parts c.self.inside.start.items n.budget n.charged n.reached.items c.refill.new.self.numbers n.done in
    IsStream new n.front.numbers n.value (vec_capacity n.reached) × Advances c.args.self.now steps.Found new)
found g c =
    let n = c.advance-step.new.self in
    let new = seen n.front.parts c.self.inside.start.items n.budget n.charged n.reached.items c.refill.new.self.numbers n.done in
    let step = c.advance-step.ensures in
    let found = c.in-Found.ensures.found refl in
    let whole = c.in-Found.ensures.whole refl in
    let items = c.refill.ensures.numbers ∙ c.prefix.ensures ∙ ap (λ (f : Fronted). f.numbers) c.front-front.ensures in (
      stream_found c.self.invariant.0 new n.value step.problem refl step.budget step.lawful step.charged found.0 (c.in-Found.ensures.reached refl) items found.1 (c.in-Found.ensures.finds refl) found.2,
      subst (λ z. Advances z steps.Found new) c.self.view_is
          (found_advances c.self.invariant.0 new n.value step.problem refl step.budget step.lawful step.charged found.0 (c.in-Found.ensures.reached refl) items found.1 (c.in-Found.ensures.finds refl)
          (c.in-Found.ensures.forward refl) whole.0 whole.1),
    )

ended : (g : _) (c : In-End g) → (let n = c.advance-step.new.self in let new = seen n.front.parts c.self.inside.start.items n.budget n.charged n.reached.items c.self.inside.last.numbers n.done in
    IsStream new n.front.numbers n.value (vec_capacity n.reached) × Advances c.args.self.now steps.End new)
ended g c =
    let s = c.self.inside.search in
    let n = c.advance-step.new.self in
    let start = c.self.inside.start.items in
    let last = c.self.inside.last.numbers in
    let new = seen n.front.parts start n.budget n.charged n.reached.items last n.done in
    let step = c.advance-step.ensures in
    let call = ended_call c.self.invariant.0 new n.value step.problem refl step.budget step.lawful step.charged end_found refl (c.in-End.ensures.stops end_found) (NoneAfter (shape s.front.parts) (Boxed s.front.parts))
    (λ none. c.in-End.ensures.end refl none)
    (λ none p r. r) (λ other e. (
    let again = c.in-End.ensures.repeats other e in
    (again.0, ap (λ z. seen z.front.parts start z.budget z.charged z.reached.items last z.done) again.1, subst (λ z. IsStream (seen z.front.parts start z.budget z.charged z.reached.items last z.done) z.front.numbers z.value (vec_capacity z.reached)) (sym again.1) c.self.invariant.0)
    )) in
    (call.0, subst (λ z. Advances z steps.End new) c.self.view_is call.1)

spent : (g : _) (c : In-Spent g) → (let n = c.advance-step.new.self in let new = seen n.front.parts c.self.inside.start.items n.budget n.charged n.reached.items c.self.inside.last.numbers n.done in
    IsStream new n.front.numbers n.value (vec_capacity n.reached) × Advances c.args.self.now steps.Spent new)
spent g c =
    let s = c.self.inside.search in
    let n = c.advance-step.new.self in
    let start = c.self.inside.start.items in
    let last = c.self.inside.last.numbers in
    let new = seen n.front.parts start n.budget n.charged n.reached.items last n.done in
    let step = c.advance-step.ensures in
    let call = ended_call c.self.invariant.0 new n.value step.problem refl step.budget step.lawful step.charged spent_found refl (c.in-Spent.ensures.stops spent_found) (SomeAfter (shape s.front.parts) (Boxed s.front.parts))
    (λ none. (c.in-Spent.ensures.spent refl none).1)
    (λ none p r. ((c.in-Spent.ensures.spent refl none).0, r)) (λ other e. (
    let again = c.in-Spent.ensures.repeats other e in
    (again.0, ap (λ z. seen z.front.parts start z.budget z.charged z.reached.items last z.done) again.1, subst (λ z. IsStream (seen z.front.parts start z.budget z.charged z.reached.items last z.done) z.front.numbers z.value (vec_capacity z.reached)) (sym again.1) c.self.invariant.0)
    )) in
    (call.0, subst (λ z. Advances z steps.Spent new) c.self.view_is call.1)

pub invariant_of-self : goal.invariant_of-self
invariant_of-self g c =
    let finds = c.in-Found.ensures.found refl in
    ((found g (goal.at.invariant_of-self g c).After-refill).0, c.refill.ensures.parts ∙ c.self.invariant.1 ∙ sym c.advance-step.ensures.problem, c.self.invariant.2 ∙ ap is_some (finds.0 ∙ sym finds.1))

pub returns-in-Found : goal.returns-in-Found
returns-in-Found g c = let left = found g (goal.at.returns-in-Found g c).After-refill in record { step = left.1; charged = (left.0.answers, left.0.so_far) }

pub invariant_of-self-in-End : goal.invariant_of-self-in-End
invariant_of-self-in-End g c = ((ended g (goal.at.invariant_of-self-in-End g c).In-End).0, c.self.invariant.1 ∙ sym c.advance-step.ensures.problem, sym (ap is_some (c.in-End.ensures.stops end_found)))

pub returns-in-End : goal.returns-in-End
returns-in-End g c = let left = ended g (goal.at.returns-in-End g c).In-End in record { step = left.1; charged = (left.0.answers, left.0.so_far) }

pub invariant_of-self-in-Spent : goal.invariant_of-self-in-Spent
invariant_of-self-in-Spent g c = ((spent g (goal.at.invariant_of-self-in-Spent g c).In-Spent).0, c.self.invariant.1 ∙ sym c.advance-step.ensures.problem, sym (ap is_some (c.in-Spent.ensures.stops spent_found)))

pub returns-in-Spent : goal.returns-in-Spent
returns-in-Spent g c = let left = spent g (goal.at.returns-in-Spent g c).In-Spent in record { step = left.1; charged = (left.0.answers, left.0.so_far) }
