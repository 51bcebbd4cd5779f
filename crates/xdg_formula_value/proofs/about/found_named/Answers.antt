use Rattle.std.proofs.Common.{◌≡◌, true}
use Rattle.xdg_problem.specs.Claims.{claim}
use Rattle.xdg_formula_value.specs.Lost.{AgreeBut}
use Rattle.xdg_problem.specs.Truths.{stands}
use Rattle.xdg_formula_value.proofs.Finding.{agree_rest, finds_weaker}
use Rattle.xdg_problem.proofs.Bindings.{nodes_inside}
use Rattle.xdg_formula_value.proofs.about.found_named.Goals as goal
use Rattle.xdg_facts.specs.Rises.{has}

pub found-requires-2-clause-nodes : goal.found-requires-2-clause-nodes
found-requires-2-clause-nodes c = nodes_inside c.args.store.now.parts (stands c.args.binding.now) (stands c.bind-here.result) c.args.name c.args.node.0 c.bind-here.ensures c.requires.nodes c.requires.node

pub returns : goal.returns
returns c = finds_weaker c.args.store.now.parts c.args.store.now.now (claim c.args.formula.now) c.args.truth (λ b. AgreeBut c.args.free (stands c.args.binding.now) b × (has c.args.names c.args.name ≡ true → b c.args.name ≡ c.args.node.0)) (AgreeBut c.fewer.result (stands c.bind-here.result)) c.found-2.result
    (λ b are w. agree_rest c.args.free c.fewer.result (stands c.args.binding.now) (stands c.bind-here.result) b c.args.name c.args.node.0 c.fewer.ensures.members c.bind-here.ensures w.0 (w.1 (c.is_named.ensures c.if-not-is_named.false).1)) c.found-2.ensures
