use Rattle.std.proofs.Common.{sym, subst}
use Rattle.xdg_inputs.specs.Answers.{meaning_of}
use Rattle.xdg_io.specs.Left.{TakesAll}
use Rattle.xdg_inputs.specs.Sentences.{HasProblem, IsBadSentence}
use Rattle.xdg_inputs.proofs.Taking.{input_quiet, input_read, input_stops, input_taken}
use Rattle.xdg_inputs.proofs.sentence.read_problem.Goals as goal

pub returns-clause-refused : goal.returns-clause-refused
returns-clause-refused g c =
    input_stops (IsBadSentence (meaning_of c.args.expanded.now) c.args.segment) (HasProblem (meaning_of c.args.expanded.now) c.args.segment) (g.S.Source.left c.args.source.now) (g.S.Source.left c.read_all.new.source) c.deref.result.now (g.S.Source.faults c.args.source.now) (g.S.Source.faults c.read_all.new.source) c.problem_in.result
    (subst (TakesAll (g.S.Source.left c.args.source.now) (g.S.Source.left c.read_all.new.source)) (sym c.deref.ensures.value) c.in-Ok.ensures.all) c.problem_in.ensures.refused

pub returns-clause-failed : goal.returns-clause-failed
returns-clause-failed g c =
    input_read (IsBadSentence (meaning_of c.args.expanded.now) c.args.segment) (HasProblem (meaning_of c.args.expanded.now) c.args.segment) (g.S.Source.left c.args.source.now) (g.S.Source.left c.read_all.new.source) c.deref.result.now (g.S.Source.faults c.args.source.now) (g.S.Source.faults c.read_all.new.source) c.problem_in.result c.problem_in.ensures.refused

pub returns-clause-all : goal.returns-clause-all
returns-clause-all g c = input_taken (g.S.Source.left c.args.source.now) (g.S.Source.left c.read_all.new.source) c.in-Ok.input.items c.problem_in.result c.in-Ok.ensures.all

pub returns-clause-quiet : goal.returns-clause-quiet
returns-clause-quiet g c = input_quiet c.problem_in.result (g.S.Source.faults c.args.source.now) (g.S.Source.faults c.read_all.new.source) c.in-Ok.ensures.quiet
