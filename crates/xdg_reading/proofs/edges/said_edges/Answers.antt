use Rattle.xdg_reading.proofs.Turns.{edges_wrong, edges_late, edges_go, edges_end}
use Rattle.xdg_reading.proofs.edges.said_edges.Goals as goal

pub returns-then-not-follows : goal.returns-then-not-follows
returns-then-not-follows c = edges_late _ _ _ _ _ _ c.loop-line.edges _ c.loop-line.invariant c.loop-line-test.true c.line-item.is c.in-Some.ensures c.if-not-follows.ensures

pub returns-in-None : goal.returns-in-None
returns-in-None c = edges_wrong _ c.loop-line.before _ _ _ c.loop-line.edges _ c.loop-line.invariant c.loop-line-test.true c.line-item.is c.in-None.ensures

pub loop-line-preserved : goal.loop-line-preserved
loop-line-preserved c = edges_go _ _ _ _ _ _ _ _ _ c.loop-line.invariant c.loop-line-test.true c.line-item.is c.in-Some.ensures c.if-not-follows.ensures c.in_ok-push-in-Some.ensures.ok

pub returns : goal.returns
returns c = edges_end _ _ _ _ _ _ c.loop-line.invariant c.loop-line-test.false
