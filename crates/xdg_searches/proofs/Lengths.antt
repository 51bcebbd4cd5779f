-- How long the texts of a drill may be.
use Rattle.std.proofs.Common.{◌≡◌, ℕ, zero, suc, ◌+◌, ◌*◌, ◌%◌, ◌<◌, ◌≤◌, List, [], ◌++◌, length, refl, ap, subst, arith, add-one, length-append}
use Rattle.std.specs.Prelude.{codes, decimal}
use Rattle.std.proofs.lemmas.Bool.{leb-true}
use Rattle.std.proofs.lemmas.Fmt.{length-decimal-le}
use Rattle.std.proofs.Math.Nat.{mod-lt}
use Rattle.xdg_searches.specs.Generated.{adjective_lines, adjectives, class_lines, dimension_lines, grammar_text, lines, noun, noun_lines, nouns, numbered, sentence_text, verb_line}
use Rattle.xdg_searches.proofs.Numbering.{numbered_next, numbered_none}

-- a number of five digits between two texts
piece_short : (before after : List ℕ) (k : ℕ) → length before + (5 + length after) ≤ 100 → k < 100000 → length (before ++ (decimal k ++ after)) ≤ 100
piece_short before after k fits small =
    let digits : length (decimal k) ≤ 5 = length-decimal-le 5 k (omega arith) small (omega (arith, small)) in
    let one = length-append before (decimal k ++ after) in
    let two = length-append (decimal k) after in
    omega (arith, digits, one, two, fits)

numbered_short : (before after : List ℕ) (count : ℕ) → length before + (5 + length after) ≤ 100 → count < 100000 → length (numbered before after count) ≤ count * 100
numbered_short before after zero fits small = let none = ap length (numbered_none before after) in omega (arith, none)
numbered_short before after (suc count) fits small =
    let earlier : length (numbered before after count) ≤ count * 100 = numbered_short before after count fits (omega (arith, small)) in
    let piece : length (before ++ (decimal (suc count) ++ after)) ≤ 100 = piece_short before after (suc count) fits small in
    let next = ap length (subst (λ m. numbered before after m ≡ numbered before after count ++ (before ++ (decimal m ++ after))) (add-one count) (numbered_next before after count)) in
    let both = length-append (numbered before after count) (before ++ (decimal (suc count) ++ after)) in
    omega (arith, earlier, piece, next, both)

first_short : length (lines dimension_lines) + length (lines class_lines) ≤ 1000
first_short = leb-true _ _ refl

verb_short : length verb_line ≤ 100
verb_short = leb-true _ _ refl

pub grammar_short : (n : ℕ) → length (grammar_text n) ≤ 4194304
unfolding grammar_text
grammar_short n =
    let small : n % 1000 < 1000 = mod-lt n {m = 1000} (omega arith) in
    let few : length adjective_lines ≤ 4 * 100 = numbered_short (codes "defentry {two {W: adj") (codes "} & dim id {in: {adj!}}}\n") 4 (leb-true _ _ refl) (omega arith) in
    let many : length (noun_lines (nouns n)) ≤ nouns n * 100 = numbered_short (codes "defentry {one {W: n") (codes "} & dim id {in: {subj!} out: {det! adj*}}}\n") (nouns n) (leb-true _ _ refl) (omega (arith, small)) in
    let a = length-append (lines dimension_lines) (lines class_lines ++ (adjective_lines ++ (noun_lines (nouns n) ++ verb_line))) in
    let b = length-append (lines class_lines) (adjective_lines ++ (noun_lines (nouns n) ++ verb_line)) in
    let c = length-append adjective_lines (noun_lines (nouns n) ++ verb_line) in
    let d = length-append (noun_lines (nouns n)) verb_line in
    let first = first_short in
    let verb = verb_short in
    omega (arith, small, few, many, a, b, c, d, first, verb)

pub sentence_short : (n : ℕ) → length (sentence_text n) ≤ 65536
unfolding sentence_text
sentence_short n =
    let four : n % 4 < 4 = mod-lt n {m = 4} (omega arith) in
    let small : n % 1000 < 1000 = mod-lt n {m = 1000} (omega arith) in
    let one : n % nouns n < nouns n = mod-lt n {m = nouns n} (omega arith) in
    let few : length (numbered (codes " adj") [] (adjectives n)) ≤ adjectives n * 100 = numbered_short (codes " adj") [] (adjectives n) (leb-true _ _ refl) (omega (arith, four)) in
    let last : length (codes " n" ++ (decimal (noun n) ++ codes " sleeps")) ≤ 100 = piece_short (codes " n") (codes " sleeps") (noun n) (leb-true _ _ refl) (omega (arith, small, one)) in
    let a = length-append (codes "the") (numbered (codes " adj") [] (adjectives n) ++ (codes " n" ++ (decimal (noun n) ++ codes " sleeps"))) in
    let b = length-append (numbered (codes " adj") [] (adjectives n)) (codes " n" ++ (decimal (noun n) ++ codes " sleeps")) in
    let the : length (codes "the") ≡ 3 = refl in
    omega (arith, four, few, last, a, b, the)
