use Rattle.xdg_corpus.proofs.Cutting.{cut_lines}
use Rattle.xdg_corpus.proofs.lines.first_line.Goals as goal

pub returns-in-Some-clause-lines : goal.returns-in-Some-clause-lines
returns-in-Some-clause-lines c = cut_lines c.args.text.now c.in-Some.line c.in-Some.rest c.in-Some.ensures.cases
