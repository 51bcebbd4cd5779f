use Rattle.std.specs.Option.{option_copied}
use Rattle.xdg_stream.specs.Streamed.{start_vector}
use Rattle.xdg_split.proofs.OnePrint.{one_print}
use Rattle.xdg_split.proofs.printing.print_analyses.Goals as goal

pub returns-in_default-clause-one : goal.returns-in_default-clause-one
returns-in_default-clause-one g c = one_print c.args.form c.args.budget c.args.first c.args.problem.now (start_vector c.args.problem.now (option_copied c.args.after)) c.parts-parts.ensures.kept

pub returns-clause-one : goal.returns-clause-one
returns-clause-one g c = one_print c.args.form c.args.budget c.args.first c.args.problem.now (start_vector c.args.problem.now (option_copied c.args.after)) c.parts-parts.ensures.kept
