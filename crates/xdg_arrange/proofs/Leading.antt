-- The line that leads the blocks of an arrangement, by the words of which it is made.
use Rattle.std.proofs.Common.{◌≡◌, ◌∙◌, ℕ, List, ◌∷◌, map, ap, subst}
use Rattle.std.specs.Prelude.{Option, codes, decimal}
use Rattle.xdg_arrange.specs.Found.{Writes, arrangement_line}
use Rattle.xdg_arrange.specs.declared.searching.Searched.{Searched}
use Rattle.xdg_problem.specs.declared.parts.Parts.{Parts}
use Rattle.xdg_problem.specs.declared.parts.SentenceWord.{SentenceWord}
use Rattle.xdg_text.specs.Constants.{quoted}
use Rattle.xdg_text.specs.Lines.{line}
use Rattle.xdg_text.specs.Words.{word_text}
use Rattle.xdg_text.specs.declared.lines.Word.{Word}

pub led_written : (result : Searched) (budget own number : ℕ) (parts : Parts) (words : List SentenceWord) (lead made : List Word) (old new : Option (List ℕ)) → own ≡ budget → words ≡ parts.words → lead ≡ made → map word_text made ≡ decimal number ∷ map (λ (word : SentenceWord). quoted word.text) words
    → Writes result own parts (line (codes "arrangement") (map word_text lead)) old new → Writes result budget parts (arrangement_line number parts.words) old new
led_written result budget own number parts words lead made old new own_is words_are lead_is says written =
    let texts : map word_text lead ≡ decimal number ∷ map (λ (word : SentenceWord). quoted word.text) parts.words =
    ap (map word_text) lead_is ∙ says ∙ ap (λ ws. decimal number ∷ map (λ (word : SentenceWord). quoted word.text) ws) words_are in
    subst (λ b. Writes result b parts (arrangement_line number parts.words) old new) own_is (subst (λ ws. Writes result own parts (line (codes "arrangement") ws) old new) texts written)
