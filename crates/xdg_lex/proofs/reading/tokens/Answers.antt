use Rattle.xdg_lex.proofs.Answers.{only_answer}
use Rattle.xdg_lex.proofs.Spans.{stand}
use Rattle.xdg_lex.proofs.Within.{stands_within}
use Rattle.xdg_lex.proofs.reading.tokens.Goals as goal

pub returns-clause-only : goal.returns-clause-only
returns-clause-only c answer is = only_answer _ answer _ is c.read_bytes.ensures

pub returns-clause-stand : goal.returns-clause-stand
returns-clause-stand c = stand _ _ c.read_bytes.ensures

pub returns-clause-within : goal.returns-clause-within
returns-clause-within c = stands_within _ _ c.read_bytes.ensures
