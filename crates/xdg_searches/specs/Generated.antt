-- The grammar and the sentence of a drill, as functions of its number.
use Rattle.std.specs.Prelude.{ℕ, ◌+◌, ◌%◌, List, [], ◌∷◌, ◌++◌, codes, decimal}
use Rattle.std.specs.List.{flat_map, range_with_len}

-- how many adjectives the sentence has, 1 to 4
abbrev pub adjectives : ℕ → ℕ
adjectives n = 1 + n % 4

-- how many nouns the grammar has, 1,000 to 1,999
abbrev pub nouns : ℕ → ℕ
nouns n = 1000 + n % 1000

-- which of the nouns the sentence has, counted from 1
abbrev pub noun : ℕ → ℕ
noun n = 1 + n % nouns n

-- each number from 1 up to a count, between two texts
unfoldable pub numbered : List ℕ → List ℕ → ℕ → List ℕ
numbered before after count = flat_map (λ k. before ++ (decimal k ++ after)) (range_with_len 1 count)

-- lines with the line feeds that end them
abbrev pub lines : List (List ℕ) → List ℕ
lines texts = flat_map (λ text. text ++ codes "\n") texts

-- the dimensions: the words, and syntax with the labels of a determiner, of an adjective and of a subject, where each word has
-- one of two senses, which no principle asks for
abbrev pub dimension_lines : List (List ℕ)
dimension_lines =
    codes "usedim id usedim lex" ∷
    codes "defdim lex {defentrytype {word: string}}" ∷
    codes "defdim id {" ∷
    codes "deftype id.label {det adj subj}" ∷
    codes "deflabeltype id.label" ∷
    codes "defentrytype {in: valency(id.label) out: valency(id.label) sense: {x y}}" ∷
    codes "useprinciple principle.graph {dims {D: id}}" ∷
    codes "useprinciple principle.tree {dims {D: id}}" ∷
    codes "useprinciple principle.valency {dims {D: id}}" ∷
    codes "}" ∷
    []

-- a class of words of one sense and one of words of two, and the article
abbrev pub class_lines : List (List ℕ)
class_lines =
    codes "defclass one W {dim lex {word: W} & dim id {sense: x}}" ∷
    codes "defclass two W {dim lex {word: W} & (dim id {sense: x} | dim id {sense: y})}" ∷
    codes "defentry {one {W: the} & dim id {in: {det!}}}" ∷
    []

abbrev pub adjective_lines : List ℕ
adjective_lines = numbered (codes "defentry {two {W: adj") (codes "} & dim id {in: {adj!}}}\n") 4

abbrev pub noun_lines : ℕ → List ℕ
noun_lines count = numbered (codes "defentry {one {W: n") (codes "} & dim id {in: {subj!} out: {det! adj*}}}\n") count

abbrev pub verb_line : List ℕ
verb_line = codes "defentry {one {W: sleeps} & dim id {out: {subj!}}}\n"

-- the grammar of the drill with this number
unfoldable pub grammar_text : ℕ → List ℕ
grammar_text n = lines dimension_lines ++ (lines class_lines ++ (adjective_lines ++ (noun_lines (nouns n) ++ verb_line)))

-- its sentence: `the adj1 .. adja nj sleeps`
unfoldable pub sentence_text : ℕ → List ℕ
sentence_text n = codes "the" ++ (numbered (codes " adj") [] (adjectives n) ++ (codes " n" ++ (decimal (noun n) ++ codes " sleeps")))
