use Rattle.std.proofs.Common.{get_or, sym, ap₂, subst}
use Rattle.xdg_packed.specs.Rows.{IsFirst}
use Rattle.xdg_packed.specs.Tables.{records}
use Rattle.xdg_packed.proofs.Firsts.{table_first}
use Rattle.xdg_packed.proofs.table.Table.first_alike.Goals as goal

pub returns : goal.returns
returns c =
    subst (IsFirst (records c.args.self.now) c.args.at) (sym (ap₂ (λ firsts places. get_or firsts (get_or places c.args.at 0) 0) c.as_slice.ensures c.as_slice-2.ensures))
    (table_first c.args.self.now.rows c.args.self.now.firsts c.args.self.now.places c.args.at c.requires.right c.requires.within)
