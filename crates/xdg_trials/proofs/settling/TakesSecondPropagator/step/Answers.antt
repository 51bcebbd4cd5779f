use Rattle.std.proofs.Common.{ap, ◌∙◌}
use Rattle.xdg_store.specs.States.{State}
use Rattle.xdg_propcore.proofs.SampleSteps.{is_sample, second_at, changed_keeps, changed_loses, emptied_keeps}
use Rattle.xdg_trials.proofs.settling.TakesSecondPropagator.step.Goals as goal

pub returns-in-Changed-clause-keeps : goal.returns-in-Changed-clause-keeps
returns-in-Changed-clause-keeps c =
    let parts = ap (λ (s : State). s.parts) c.turn.ensures.turns in
    changed_keeps _ c.args.store.now c.turn.new.self c.remove_attr.new.self _ (λ e. cc) c.remove_attr.ensures.known (ap (λ (s : State). s.parts) c.in-Changed.ensures.removes.2 ∙ parts) (ap (λ (s : State). s.now) c.turn.ensures.turns) (second_at c.turn.new.self.parts (parts ∙ is_sample c.args.store.now.parts c.requires.stands)) (ap (λ (s : State). s.now) c.in-Changed.ensures.removes.2)

pub returns-in-Changed-clause-moves : goal.returns-in-Changed-clause-moves
returns-in-Changed-clause-moves c =
    let parts = ap (λ (s : State). s.parts) c.turn.ensures.turns in
    let sample = is_sample c.args.store.now.parts c.requires.stands in
    changed_loses c.args.store.now c.turn.new.self c.remove_attr.new.self _ c.attrs.result.0 sample (ap (λ (s : State). s.now) c.turn.ensures.turns) (second_at c.turn.new.self.parts (parts ∙ sample)) c.attrs.ensures c.in-Changed.ensures.removes.0 (ap (λ (s : State). s.now) c.in-Changed.ensures.removes.2)

pub returns-in-Emptied-clause-keeps : goal.returns-in-Emptied-clause-keeps
returns-in-Emptied-clause-keeps c =
    let parts = ap (λ (s : State). s.parts) c.turn.ensures.turns in
    emptied_keeps _ c.args.store.now c.turn.new.self c.remove_attr.new.self _ c.remove_attr.ensures.known (ap (λ (s : State). s.parts) c.in-Emptied.ensures.removes.2 ∙ parts) (ap (λ (s : State). s.now) c.turn.ensures.turns) (second_at c.turn.new.self.parts (parts ∙ is_sample c.args.store.now.parts c.requires.stands)) c.in-Emptied.ensures.removes.1
