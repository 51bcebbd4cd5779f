use Rattle.xdg_ast.proofs.Keywords.{kind_at, no_kind}
use Rattle.xdg_ast.proofs.token.keyword_of.Goals as goal

pub returns-in-Some : goal.returns-in-Some
returns-in-Some c = kind_at c.args.name.now c.in-Some.place _ c.in-Some.ensures

pub returns-in-None : goal.returns-in-None
returns-in-None c = no_kind c.args.name.now c.in-None.ensures
