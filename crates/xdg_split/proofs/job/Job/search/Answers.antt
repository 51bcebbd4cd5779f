use Rattle.std.proofs.lemmas.Result.{IfOk-weaker}
use Rattle.xdg_split.proofs.Collecting.{searched}
use Rattle.xdg_split.proofs.job.Job.search.Goals as goal

pub returns : goal.returns
returns g c =
    IfOk-weaker c.find.result _ _
    (λ found are. searched c.self.inside.problem c.in_ok-stream.stream.parts c.self.inside.budget c.in_ok-stream.stream.budget c.self.inside.first c.args.self.now found.ending found.found.items c.parts-parts.ensures.kept c.in_ok-stream.ensures.given.0 c.in_ok-stream.ensures.given.2 c.self.view_is are)
    c.find.ensures
