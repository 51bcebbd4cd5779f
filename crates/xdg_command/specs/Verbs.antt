-- The command that a word spells.
use Rattle.std.specs.Prelude.{ℕ, List, Option, Some, None, if◌then◌else◌, bytes_eq, codes}
use Rattle.xdg_command.specs.declared.reading.Verb.{Verb}
use Rattle.xdg_command.specs.declared.reading.Verb.TheVariants as verbs

unfoldable pub verb_of : List ℕ → Option Verb
verb_of word =
    if bytes_eq word (codes "parse") then Some verbs.Parse else
    (if bytes_eq word (codes "resume") then Some verbs.Resume else
    (if bytes_eq word (codes "explain") then Some verbs.Explain else
    (if bytes_eq word (codes "check") then Some verbs.Check else
    (if bytes_eq word (codes "lexicon") then Some verbs.Lexicon else
    (if bytes_eq word (codes "print") then Some verbs.Print else
    (if bytes_eq word (codes "drill") then Some verbs.Drill else
    (if bytes_eq word (codes "corpus") then Some verbs.Corpus else
    (if bytes_eq word (codes "arrange") then Some verbs.Arrange else
    (if bytes_eq word (codes "best") then Some verbs.Best else
    None)))))))))
