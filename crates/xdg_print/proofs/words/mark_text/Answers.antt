use Rattle.std.proofs.Common.{sym, lit<}
use Rattle.std.proofs.lemmas.Fmt.{decimal_digit}
use Rattle.xdg_ast.specs.Canon.{spelling}
use Rattle.xdg_print.proofs.words.mark_text.Goals as goal

pub returns-in-Number : goal.returns-in-Number
unfolding spelling
returns-in-Number c = rw c.in-Number.is (sym (decimal_digit 0 (lit< tt)))
