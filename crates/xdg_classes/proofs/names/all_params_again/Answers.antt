use Rattle.std.proofs.Common.{◌∙◌, ap}
use Rattle.xdg_names.specs.First.{first}
use Rattle.xdg_types.specs.NameFaults.{repeats}
use Rattle.xdg_types.proofs.FaultTurns.{mapped_turn}
use Rattle.xdg_classes.specs.Definitions.{param_names}
use Rattle.xdg_classes.proofs.names.all_params_again.Goals as goal

pub loop-definition-preserved : goal.loop-definition-preserved
loop-definition-preserved c =
    mapped_turn _ _ _ _ _ _ _ _ _ c.loop-definition-test.true c.definition-item.is
    (c.in_ok-params_again.ensures.found ∙ ap (λ seen. first (repeats seen (param_names c.definition-item.result.params.now))) c.new-seen.ensures) c.earlier-found.ensures c.loop-definition.invariant
