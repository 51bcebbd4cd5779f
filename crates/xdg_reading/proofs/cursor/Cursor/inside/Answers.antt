use Rattle.std.proofs.Common.{◌∙◌, refl}
use Rattle.xdg_reading.proofs.Insides.{turned, closes, goes_escaped, goes_nowhere}
use Rattle.xdg_reading.proofs.cursor.Cursor.inside.Goals as goal

pub returns-then-skip : goal.returns-then-skip
returns-then-skip c = closes _ _ _ _ (turned _ _ _ _ _ _ c.pieces.invariant c.plain-piece.ensures c.in_ok-push_str.ensures.ok) c.if-skip.ensures

pub pieces-preserved-in-Continue-branch-2 : goal.pieces-preserved-in-Continue-branch-2
pieces-preserved-in-Continue-branch-2 c = goes_escaped _ _ _ _ _ 34 _ (turned _ _ _ _ _ _ c.pieces.invariant c.plain-piece.ensures c.in_ok-push_str.ensures.ok) c.if-skip.ensures.1 refl c.if-skip-2.ensures c.in_ok-push_str-2.ensures.ok

pub pieces-preserved : goal.pieces-preserved
pieces-preserved c = goes_escaped _ _ _ _ _ 92 _ (turned _ _ _ _ _ _ c.pieces.invariant c.plain-piece.ensures c.in_ok-push_str.ensures.ok) (c.if-skip-2.ensures.1 ∙ c.if-skip.ensures.1) refl c.if-skip-3.ensures c.in_ok-push_str-3.ensures.ok

pub returns-else-skip-3 : goal.returns-else-skip-3
returns-else-skip-3 c = goes_nowhere _ _ _ _ _ (turned _ _ _ _ _ _ c.pieces.invariant c.plain-piece.ensures c.in_ok-push_str.ensures.ok) c.plain-piece.ensures.stops c.if-skip.ensures.0 c.if-skip.ensures.1 c.if-skip-2.ensures.0 c.if-skip-2.ensures.1 c.if-skip-3.ensures.0
