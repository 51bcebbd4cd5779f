use Rattle.xdg_facts.specs.declared.Ending.TheVariants as endings
use Rattle.xdg_split.proofs.Together.{joins_cut, joins_stopped, not_complete}
use Rattle.xdg_split.proofs.found.Found.followed_by.Goals as goal

pub returns-in_ok-joined-in-Complete : goal.returns-in_ok-joined-in-Complete
returns-in_ok-joined-in-Complete c =
    joins_cut c.args.first c.args.self.ending c.args.later.ending c.in_ok-joined-in-Complete.joined.ending c.cut.result.ending c.args.self.found.items c.args.later.found.items c.in_ok-joined-in-Complete.joined.found.items c.cut.result.found.items
    c.in-Complete.is c.in_ok-joined-in-Complete.ensures.ending c.in_ok-joined-in-Complete.ensures.found c.cut.ensures

pub returns-in-First : goal.returns-in-First
returns-in-First c = joins_stopped c.args.first c.args.self.found.items c.args.later.found.items c.args.self.ending c.args.later.ending (not_complete endings.First c.args.self.ending c.in-First.is (λ e. cc))

pub returns-in-Spent : goal.returns-in-Spent
returns-in-Spent c = joins_stopped c.args.first c.args.self.found.items c.args.later.found.items c.args.self.ending c.args.later.ending (not_complete endings.Spent c.args.self.ending c.in-Spent.is (λ e. cc))
