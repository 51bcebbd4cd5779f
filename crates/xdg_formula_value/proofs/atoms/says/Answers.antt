use Rattle.std.proofs.Common.{[], ◌∙◌, ap, false, sym}
use Rattle.std.specs.Prelude.{slice_index_or}
use Rattle.xdg_facts.proofs.Lookups.{read_none, read_some}
use Rattle.xdg_formula_value.proofs.atoms.says.Goals as goal

pub returns-in_default : goal.returns-in_default
returns-in_default c = sym (ap (λ row. slice_index_or row c.args.place false) (read_none c.args.table.now c.args.node.0 [] c.in_default.ensures))

pub returns-in-Some-get : goal.returns-in-Some-get
returns-in-Some-get c = sym (ap (λ row. slice_index_or row c.args.place false) (read_some c.args.table.now c.args.node.0 c.in-Some.row.now [] c.in-Some.ensures) ∙ read_some c.in-Some.row.now c.args.place c.in-Some-get.truth.now false c.in-Some-get.ensures)

pub returns-in-None : goal.returns-in-None
returns-in-None c = sym (ap (λ row. slice_index_or row c.args.place false) (read_some c.args.table.now c.args.node.0 c.in-Some.row.now [] c.in-Some.ensures) ∙ read_none c.in-Some.row.now c.args.place false c.in-None.ensures)
