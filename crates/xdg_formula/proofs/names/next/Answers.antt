use Rattle.std.proofs.Common.{sym}
use Rattle.xdg_formula.proofs.Nexts.{next_of, no_next}
use Rattle.xdg_formula.proofs.names.next.Goals as goal

pub returns-in-None : goal.returns-in-None
returns-in-None c = no_next c.args.cursor.now (sym c.in-None.ensures)

pub returns-in-Some : goal.returns-in-Some
returns-in-Some c = rw (next_of c.in-Some.kind c.args.cursor.now (sym c.in-Some.ensures)) at c.expect.ensures
