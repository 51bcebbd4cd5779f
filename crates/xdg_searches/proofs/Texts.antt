-- The texts, put together as they are written.
use Rattle.std.proofs.Common.{◌≡◌, ◌∙◌, ℕ, List, [], ◌++◌, ap, ap₂, append_assoc}
use Rattle.std.specs.Prelude.{codes, decimal}
use Rattle.xdg_searches.specs.Generated.{adjective_lines, adjectives, class_lines, dimension_lines, grammar_text, lines, noun, noun_lines, nouns, numbered, sentence_text, verb_line}
use Rattle.xdg_facts.proofs.Fronts.{five}

pub grammar_made : (n count : ℕ) (start first a b c d : List ℕ) → count ≡ nouns n → start ≡ [] → first ≡ lines dimension_lines ++ lines class_lines → a ≡ start ++ first → b ≡ a ++ adjective_lines → c ≡ b ++ noun_lines count → d ≡ c ++ verb_line → d ≡ grammar_text n
unfolding grammar_text
grammar_made n count start first a b c d counted empty is_first p q r s =
    s
    ∙ ap (λ z. z ++ verb_line) (r ∙ ap₂ (λ x y. x ++ noun_lines y) (q ∙ ap (λ z. z ++ adjective_lines) (p ∙ ap₂ (λ x y. x ++ y) empty is_first)) counted)
    ∙ five (lines dimension_lines) (lines class_lines) adjective_lines (noun_lines (nouns n)) verb_line

pub sentence_made : (n many which : ℕ) (start a b c : List ℕ) → many ≡ adjectives n → which ≡ noun n → start ≡ [] → a ≡ start ++ codes "the" → b ≡ a ++ numbered (codes " adj") [] many → c ≡ b ++ (codes " n" ++ (decimal which ++ codes " sleeps")) → c ≡ sentence_text n
unfolding sentence_text
sentence_made n many which start a b c counted chosen empty p q r =
    r
    ∙ ap₂ (λ x y. x ++ (codes " n" ++ (decimal y ++ codes " sleeps"))) (q ∙ ap₂ (λ x y. x ++ numbered (codes " adj") [] y) (p ∙ ap (λ z. z ++ codes "the") empty) counted) chosen
    ∙ append_assoc (codes "the") (numbered (codes " adj") [] (adjectives n)) (codes " n" ++ (decimal (noun n) ++ codes " sleeps"))
