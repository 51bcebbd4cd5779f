-- The words of a line.
use Rattle.std.specs.Prelude.{ℕ, List, ◌++◌, codes, decimal}
use Rattle.xdg_text.specs.declared.lines.Word.{Word}
use Rattle.xdg_text.specs.declared.lines.Word.TheVariants as words
use Rattle.xdg_text.specs.Constants.{constant, quoted}
use Rattle.xdg_text.specs.Values.{value_text}

-- how a word is written
abbrev pub word_text : Word → List ℕ
word_text (words.Plain text) = text.now
word_text (words.Number number) = decimal number
word_text (words.Constant text) = constant text.now
word_text (words.Quoted text) = quoted text.now
word_text (words.Value value) = value_text value.now

-- a word with a space before it
abbrev pub led_word : Word → List ℕ
led_word word = codes " " ++ word_text word
