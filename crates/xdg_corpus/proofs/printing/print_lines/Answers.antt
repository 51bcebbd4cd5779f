use Rattle.xdg_inputs.specs.Answers.{meaning_of}
use Rattle.xdg_corpus.specs.Outcomes.{AreSearched}
use Rattle.xdg_corpus.proofs.Parting.{memory_part}
use Rattle.xdg_corpus.proofs.printing.print_lines.Goals as goal

pub returns-in-Err-clause-leaves : goal.returns-in-Err-clause-leaves
returns-in-Err-clause-leaves g c = memory_part (AreSearched c.args.options.now (meaning_of c.args.expanded.now) c.args.text.now) (g.K.Sink.held c.args.out.now)
