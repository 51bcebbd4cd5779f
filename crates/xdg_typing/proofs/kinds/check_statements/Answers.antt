use Rattle.std.specs.List.{flat_map}
use Rattle.std.proofs.lemmas.Grind.{flat_map-append}
use Rattle.xdg_types.specs.Parts.{Dimension, dimension, dimensions}
use Rattle.xdg_types.specs.Kinds.{part_sites, sites}
use Rattle.xdg_typing.specs.KindFaults.{site_faults}
use Rattle.xdg_typing.proofs.Walked.{walk_turn}
use Rattle.xdg_typing.proofs.kinds.check_statements.Goals as goal

pub loop-statement-preserved : goal.loop-statement-preserved
loop-statement-preserved c = λ names known.
    let in_dim = λ (dim : Dimension). flat_map (λ part. part_sites part.kind) dim.1 in
    let parts = dimension c.statement-item.result.kind in
    walk_turn _ _ _ _ _ _ _ (site_faults names) (λ ss. sites ss) (flat_map in_dim parts) (λ xs. flat_map-append in_dim parts (dimensions xs))
    c.loop-statement-test.true c.statement-item.is (c.in_ok-check_statement.ensures names known) c.earlier-found.ensures (c.loop-statement.invariant names known)
