use Rattle.std.proofs.Common.{Some, sym, subst}
use Rattle.xdg_names.specs.First.{Tells}
use Rattle.xdg_check.specs.Lex.{LexOffends}
use Rattle.xdg_check.proofs.Words.{lex_missing}
use Rattle.xdg_check.proofs.lex.place_of_words.Goals as goal

pub returns-in-None-clause-refused : goal.returns-in-None-clause-refused
returns-in-None-clause-refused c = subst (λ f. Tells (LexOffends c.args.table.now) (Some f)) (sym c.no_lex.ensures) (lex_missing c.args.table.now c.in-None.ensures)
