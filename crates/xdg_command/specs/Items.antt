-- What the words after the name of a command say.
use Rattle.std.specs.Prelude.{◌≡◌, ◌≢◌, ◌≤◌, ◌+◌, ◌==◌, ℕ, Bool, true, false, List, [], ◌∷◌, ◌++◌, map, Option, Some, None, if◌then◌else◌}
use Rattle.std.specs.Str.{bytes_eq}
use Rattle.xdg_base.specs.Texts.{has_text}

-- What a word says, or two of them: the option `--name value` or `--name=value`, the option `--name`, or an operand.
pub data Item : Type 0 where
  operand : List ℕ → Item
  valued : List ℕ → List ℕ → Item
  flagged : List ℕ → Item

-- a word that begins with `-` and has two or more bytes, so that it is no operand
abbrev pub is_dashed : List ℕ → Bool
is_dashed [] = false
is_dashed (first ∷ []) = false
is_dashed (first ∷ second ∷ more) = first == 45

-- `--name`, and so `--` where the name is empty
abbrev pub dashed : List ℕ → List ℕ
dashed name = 45 ∷ 45 ∷ name

-- Words, read from left to right, are these items. `values` names the options that take a value, `flags` those that take none.
pub data AreItems (values flags : List (List ℕ)) : List (List ℕ) → List Item → Type 0 where
  -- no words are no items
  ended : AreItems values flags [] []
  -- after `--` each word is an operand
  operands : (words : List (List ℕ)) → AreItems values flags (dashed [] ∷ words) (map operand words)
  -- else a word is an operand if it isn't dashed
  by_operand : (word : List ℕ) (words : List (List ℕ)) (items : List Item) → is_dashed word ≡ false → AreItems values flags words items
      → AreItems values flags (word ∷ words) (operand word ∷ items)
  -- `--name` of an option without value
  by_flag : (name : List ℕ) (words : List (List ℕ)) (items : List Item) → has_text flags name ≡ true → AreItems values flags words items
      → AreItems values flags (dashed name ∷ words) (flagged name ∷ items)
  -- `--name` and the value as the next word, which is neither dashed nor empty
  by_next : (name value : List ℕ) (words : List (List ℕ)) (items : List Item) → has_text values name ≡ true → value ≢ [] → is_dashed value ≡ false
      → AreItems values flags words items → AreItems values flags (dashed name ∷ value ∷ words) (valued name value ∷ items)
  -- `--name=value`, where the value isn't empty
  by_equals : (name value : List ℕ) (words : List (List ℕ)) (items : List Item) → has_text values name ≡ true → value ≢ [] → AreItems values flags words items
      → AreItems values flags ((dashed name ++ 61 ∷ value) ∷ words) (valued name value ∷ items)

-- the operands in order
abbrev pub operands_of : List Item → List (List ℕ)
operands_of [] = []
operands_of (operand word ∷ items) = word ∷ operands_of items
operands_of (valued name value ∷ items) = operands_of items
operands_of (flagged name ∷ items) = operands_of items

-- the value that an option is given first
abbrev pub value_of : List ℕ → List Item → Option (List ℕ)
value_of name [] = None
value_of name (operand word ∷ items) = value_of name items
value_of name (valued other value ∷ items) = if bytes_eq other name then Some value else value_of name items
value_of name (flagged other ∷ items) = value_of name items

-- an option without value is given
abbrev pub has_flag : List ℕ → List Item → Bool
has_flag name [] = false
has_flag name (operand word ∷ items) = has_flag name items
has_flag name (valued other value ∷ items) = has_flag name items
has_flag name (flagged other ∷ items) = if bytes_eq other name then true else has_flag name items

-- a truth value as a count
abbrev pub one_if : Bool → ℕ
one_if true = 1
one_if false = 0

-- how often an option is given, with a value or without
abbrev pub uses_of : List ℕ → List Item → ℕ
uses_of name [] = 0
uses_of name (operand word ∷ items) = uses_of name items
uses_of name (valued other value ∷ items) = one_if (bytes_eq other name) + uses_of name items
uses_of name (flagged other ∷ items) = one_if (bytes_eq other name) + uses_of name items

-- each option is given at most once
abbrev pub IsOnce : List Item → Type 0
IsOnce items = (name : List ℕ) → uses_of name items ≤ 1
