use Rattle.xdg_typing.proofs.Dims.{dim_added, dim_passed}
use Rattle.xdg_typing.proofs.Rooms.{dim_room}
use Rattle.xdg_typing.proofs.dimensions.resolve_dimensions.Goals as goal
use Rattle.xdg_typing.proofs.dimensions.resolve_dimensions.Goals.{in-DefDim+in_ok-resolve_dimension-in-DefDim+in_ok-push-in-DefDim, in_default}

pub loop-statement-preserved : goal.loop-statement-preserved
loop-statement-preserved c = λ names knows. elim c.match-statement.branch [
  | in-DefDim+in_ok-resolve_dimension-in-DefDim+in_ok-push-in-DefDim w ↦
      dim_added names c.args.statements.now c.loop-statement.statement-index c.statement-item.result w.in-DefDim.name w.in-DefDim.parts _ c.loop-statement.all _ _ _ c.loop-statement-test.true c.statement-item.is w.in-DefDim.is
      w.as_slice.ensures (w.in_ok-resolve_dimension-in-DefDim.ensures names knows) w.in_ok-push-in-DefDim.ensures.ok w.all-is (c.loop-statement.invariant names knows)
  | in_default w ↦ dim_passed names c.args.statements.now c.loop-statement.statement-index c.statement-item.result c.loop-statement.all _ c.loop-statement-test.true c.statement-item.is w.in_default.not-DefDim w.all-is (c.loop-statement.invariant names knows)
]

pub resolve_dimension-requires : goal.resolve_dimension-requires
resolve_dimension-requires c =
    dim_room c.args.definitions.now.names _ c.args.statements.now c.loop-statement.statement-index c.statement-item.result c.in-DefDim.name c.in-DefDim.parts c.as_slice.result.now 16777216 c.loop-statement-test.true c.statement-item.is c.in-DefDim.is
    c.as_slice.ensures c.requires
