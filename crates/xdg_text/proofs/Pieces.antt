-- The words of a line, one after the other.
use Rattle.std.proofs.Common.{◌≡◌, ◌++◌, List, ℕ, [], ◌∷◌, refl, sym, ap, ◌∙◌, map}
use Rattle.std.proofs.lemmas.List.{append_assoc}
use Rattle.std.specs.List.{flat_map}
use Rattle.std.specs.Prelude.{codes}
use Rattle.xdg_text.specs.declared.lines.Word.{Word}
use Rattle.xdg_text.specs.Lines.{led, line}
use Rattle.xdg_text.specs.Words.{word_text, led_word}

-- the words of a line with a space before each, one after the other
pub led_words : (words : List Word) → led (map word_text words) ≡ flat_map led_word words
led_words [] = refl
led_words (word ∷ words) = ap (λ z. led_word word ++ z) (led_words words)

-- the words of a line, and its line feed
pub line_parts : (first : List ℕ) (others : List Word) → (first ++ flat_map led_word others) ++ codes "\n" ≡ line first (map word_text others)
line_parts first others = append_assoc first (flat_map led_word others) (codes "\n") ∙ ap (λ z. first ++ (z ++ codes "\n")) (sym (led_words others))
