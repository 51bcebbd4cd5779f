use Rattle.xdg_packed.specs.Lexicon.{columns}
use Rattle.xdg_packed.proofs.Counted.{one_sum}
use Rattle.xdg_packed.proofs.Unpacked.{rows_are}
use Rattle.xdg_packed.proofs.packed.Packed.rows.Goals as goal

pub returns-clause-counted : goal.returns-clause-counted
returns-clause-counted c = rows_are c.self.view_is c.self.invariant

pub returns-clause-only : goal.returns-clause-only
returns-clause-only c = λ count counted. one_sum (columns c.args.self.now.entries) count c.self.inside.rows counted (rows_are c.self.view_is c.self.invariant)
