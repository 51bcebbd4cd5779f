use Rattle.xdg_facts.specs.Answered.{Answered}
use Rattle.xdg_stream.specs.Vectors.{vectors}
use Rattle.xdg_stream.specs.declared.run.Outcome.{Outcome}
use Rattle.xdg_stream.proofs.Ended.{outcome_of}
use Rattle.xdg_stream.proofs.run.solve.Goals as goal
use Rattle.xdg_facts.proofs.Options.{if_ok}

pub returns : goal.returns
returns g c =
    let shape = g.F.Front.shape c.args.front in
    let counted = g.F.Front.counted c.args.front in
    if_ok (λ (o : Outcome). Answered o.ending shape counted c.args.after.now c.args.budget c.args.wanted (vectors o.answers.items)) _ c.collect.result (λ o a. outcome_of o.ending shape counted c.args.after.now c.args.budget c.args.wanted (vectors o.answers.items) a) c.collect.ensures
