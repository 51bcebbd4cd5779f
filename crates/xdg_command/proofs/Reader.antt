-- A function that reads words as items, in the order in which `clap` looks at a word.
use Rattle.std.proofs.Common.{ℕ, Bool, true, false, List, [], ◌∷◌, map, Option, Some, None}
use Rattle.std.specs.Prelude.{if◌then◌else◌}
use Rattle.std.specs.Str.{bytes_eq}
use Rattle.clap.specs.Lexer.{long_of, short_of}
use Rattle.xdg_command.specs.Items.{Item, operand, valued, flagged, dashed}
use Rattle.xdg_command.specs.Syntax.{Table}
use Rattle.xdg_command.proofs.Rules.{form}

abbrev pub behind : Item → Option (List Item) → Option (List Item)
behind item None = None
behind item (Some items) = Some (item ∷ items)

-- a value that isn't empty
abbrev pub by_value : List ℕ → List ℕ → Option (List Item) → Option (List Item)
by_value name [] rest = None
by_value name (x ∷ value) rest = behind (valued name (x ∷ value)) rest

-- an option, by its form and what stands behind its `=`
abbrev pub by_form : Option Bool → List ℕ → Option (List ℕ) → Option (List Item) → (List ℕ → Option (List Item)) → Option (List Item)
by_form None name value rest waits = None
by_form (Some true) name None rest waits = waits name
by_form (Some true) name (Some value) rest waits = by_value name value rest
by_form (Some false) name None rest waits = behind (flagged name) rest
by_form (Some false) name (Some value) rest waits = None

abbrev pub by_letters : Option (List ℕ) → Option (List Item) → Option (List Item)
by_letters None rest = rest
by_letters (Some letters) rest = None

abbrev pub by_long : Table → Option (List ℕ × Option (List ℕ)) → List ℕ → Option (List Item) → (List ℕ → Option (List Item)) → Option (List Item)
by_long t (Some p) word rest waits = by_form (form t p.0) p.0 p.1 rest waits
by_long t None word rest waits = by_letters (short_of word) (behind (operand word) rest)

-- a word, where no option waits
abbrev pub by_word : Table → List ℕ → List (List ℕ) → Option (List Item) → (List ℕ → Option (List Item)) → Option (List Item)
by_word t word words rest waits = if bytes_eq word (dashed []) then Some (map operand words) else by_long t (long_of word) word rest waits

abbrev pub unless_long : Option (List ℕ × Option (List ℕ)) → Option (List Item) → Option (List Item)
unless_long None read = read
unless_long (Some p) read = None

-- a word, where an option waits for its value
abbrev pub by_awaited : List ℕ → List ℕ → Option (List Item) → Option (List Item)
by_awaited name word rest = if bytes_eq word (dashed []) then None else unless_long (long_of word) (by_letters (short_of word) (by_value name word rest))

-- the items of the words, where an option waits for its value or none does
abbrev pub read : Table → Option (List ℕ) → List (List ℕ) → Option (List Item)
read t None [] = Some []
read t (Some name) [] = None
read t None (word ∷ words) = by_word t word words (read t None words) (λ name. read t (Some name) words)
read t (Some name) (word ∷ words) = by_awaited name word (read t None words)
