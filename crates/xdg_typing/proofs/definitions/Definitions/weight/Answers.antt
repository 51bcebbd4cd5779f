use Rattle.std.proofs.Common.{ap, ◌∙◌}
use Rattle.xdg_types.specs.Written.{tree}
use Rattle.xdg_typing.specs.Weights.{weighed, named_weight}
use Rattle.xdg_typing.proofs.WeightLaws.{weigh_known}
use Rattle.xdg_typing.proofs.definitions.Definitions.weight.Goals as goal

pub returns : goal.returns
returns c = λ names weighs.
    c.weigh.ensures ∙ ap (λ ws. weighed (named_weight c.args.self.now.names ws) (tree c.args.ty.now.kind)) c.as_slice.ensures.value
    ∙ weigh_known names c.args.self.now.names c.args.self.now.weights.items (tree c.args.ty.now.kind) weighs
