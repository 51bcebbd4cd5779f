use Rattle.xdg_types.specs.Parts.{defined_names}
use Rattle.xdg_typing.specs.Listed.{defined_name}
use Rattle.xdg_types.proofs.Again.{again_turn}
use Rattle.xdg_typing.proofs.Each.{each_definition}
use Rattle.xdg_typing.proofs.repeats.definitions_again.Goals as goal

pub loop-statement-preserved : goal.loop-statement-preserved
loop-statement-preserved c =
    let item = c.statement-item.result in
    again_turn defined_names (defined_name item.kind) item (each_definition item)
    _ _ _ _ _ _ _ _ _ c.loop-statement-test.true c.statement-item.is c.in_ok-definitions_in.ensures.found c.in_ok-definitions_in.ensures.seen c.earlier-found.ensures c.loop-statement.invariant
