use Rattle.xdg_formula_value.proofs.Overs.{each_told, some_told}
use Rattle.xdg_formula_value.proofs.paths.Paths.has_over.Goals as goal

pub returns-then-each : goal.returns-then-each
returns-then-each c = each_told c.args.each c.args.size c.args.self.now.all c.args.set c.minus.result c.len.result c.if-each.true c.requires c.minus.ensures.members c.len.ensures.value

pub returns : goal.returns
returns c = some_told c.args.each c.args.size c.args.self.now.all c.args.set c.meet.result c.len-2.result c.if-each.false c.requires c.meet.ensures.members c.len-2.ensures.value
