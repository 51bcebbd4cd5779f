use Rattle.xdg_split.proofs.Turning.{goes_on}
use Rattle.xdg_split.proofs.found.Found.search_next.Goals as goal

pub returns : goal.returns
returns g c =
    goes_on c.args.first c.args.jobs.now c.args.self.ending c.in_ok-later.later.ending c.in_ok-joined.joined.ending c.args.self.found.items c.in_ok-later.later.found.items c.in_ok-joined.joined.found.items
    c.in_ok-later.ensures c.in_ok-joined.ensures
