-- The canonical text of what a text is read as is read again.
use Rattle.std.proofs.Common.{ℕ, List}
use Rattle.xdg_ast.specs.declared.grammar.Grammar.{Grammar}
use Rattle.xdg_ast.specs.Canon.{canon}
use Rattle.xdg_ast.specs.Derives.{Reads, most_brackets}
use Rattle.xdg_print.specs.Again.{IsReadAgain}
use Rattle.xdg_print.proofs.SpelledBack.{spelled_words}
use Rattle.xdg_print.proofs.SpelledLines.{canon_spells}
use Rattle.xdg_print.proofs.AgainWhole.{derives_again}

pub read_again : (bytes : List ℕ) (grammar : Grammar) → Reads bytes grammar → IsReadAgain (canon grammar) grammar
read_again bytes grammar (tokens, spells, derives) =
    let derived = derives_again most_brackets tokens grammar derives (spelled_words bytes tokens spells) in
    let spelled = canon_spells grammar derived.0 in
    let again = derived.1 spelled.0 spelled.2 in
    record { again = again.0; reads = (spelled.0, spelled.1, again.1); same = again.2; prints = again.3 }
