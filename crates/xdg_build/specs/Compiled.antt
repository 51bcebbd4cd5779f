-- The problem that a grammar makes of a sentence.
use Rattle.std.specs.Prelude.{List, map}
use Rattle.xdg_base.specs.declared.ids.EntryNo.{EntryNo}
use Rattle.xdg_packed.specs.Lexicon.{words_of, numbers_of}
use Rattle.xdg_problem.specs.declared.parts.Parts.{Parts}
use Rattle.xdg_problem.specs.declared.parts.SentenceWord.{SentenceWord}
use Rattle.xdg_build.specs.Grammars.{Grammar}
use Rattle.xdg_build.specs.Groups.{groups_of}
use Rattle.xdg_build.specs.Plans.{plans}

-- the problem of nodes that may have these entries
abbrev pub over : Grammar → List SentenceWord → List (List EntryNo) → Parts
over g words candidates = record { words = words; candidates = candidates; dims = plans g; groups = groups_of g candidates }

-- the entries of each word
abbrev pub candidates_of : Grammar → List SentenceWord → List (List EntryNo)
candidates_of g words = map (λ word. numbers_of (words_of g.lexicon) word.text) words

-- each node may have the entries of its word
abbrev pub compiled : Grammar → List SentenceWord → Parts
compiled g words = over g words (candidates_of g words)
