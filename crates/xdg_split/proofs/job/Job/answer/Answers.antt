use Rattle.xdg_split.proofs.Searched.{answers_job}
use Rattle.xdg_split.proofs.job.Job.answer.Goals as goal

pub returns-in-Ended : goal.returns-in-Ended
returns-in-Ended g c =
    answers_job c.in-Ended.ending c.self.inside.budget c.self.inside.first c.self.inside.problem c.args.self.now c.new-sink.result.bytes c.print_analyses-printed.new.sink.bytes c.into_bytes-bytes.result
    c.new-sink.ensures c.into_bytes-bytes.ensures c.in-Ended.ensures.written c.in-Ended.ensures.one c.self.view_is
