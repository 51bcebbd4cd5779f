use Rattle.std.specs.Option.{option_copied}
use Rattle.xdg_stream.specs.Streamed.{start_vector}
use Rattle.xdg_searches.proofs.SearchLeaves.{ends_so, no_fault, searched_ends}
use Rattle.xdg_searches.proofs.printing.search.Goals as goal

pub returns-in-Ended-clause-leaves : goal.returns-in-Ended-clause-leaves
returns-in-Ended-clause-leaves g c =
    searched_ends c.args.form c.args.budget c.args.first c.args.problem.now (start_vector c.args.problem.now (option_copied c.args.after)) c.in-Ended.ending c.status_of.result (g.K.Sink.held c.args.out.now) (g.K.Sink.held c.print_analyses.new.sink)
    c.status_of.ensures.is c.in-Ended.ensures.written c.print_analyses.ensures.one

pub returns-in-Ended-clause-write_fault : goal.returns-in-Ended-clause-write_fault
returns-in-Ended-clause-write_fault g c = no_fault c.status_of.result _ _ c.status_of.ensures.ends

pub returns-in-Ended-clause-ends : goal.returns-in-Ended-clause-ends
returns-in-Ended-clause-ends g c = ends_so c.status_of.result c.status_of.ensures.ends

pub returns-in-Failed-clause-leaves : goal.returns-in-Failed-clause-leaves
returns-in-Failed-clause-leaves g c status text o = c.in-Failed.ensures.written o.ending text o.prints
