-- What is read back are exactly the texts of analyses.
use Rattle.std.proofs.Common.{◌≡◌, inl, inr, ◌<◌, ◌≤◌, ◌+◌, ◌++◌, ◌^◌, ℕ, List, [], ◌∷◌, length, map, sym, ap, ◌∙◌, subst, arith, None, length-append}
use Rattle.std.specs.Prelude.{IsUtf8}
use Rattle.xdg_problem.specs.declared.analysis.Analysis.{Analysis}
use Rattle.xdg_problem.specs.declared.parts.Parts.{Parts}
use Rattle.xdg_problem.specs.Analyses.{IsAnalysis}
use Rattle.xdg_problem.specs.Places.{nodes}
use Rattle.xdg_problem.specs.Problems.{IsProblem}
use Rattle.xdg_reading.specs.declared.line.Line.{Line}
use Rattle.xdg_reading.specs.declared.line.Line.TheVariants as lines
use Rattle.xdg_reading.specs.declared.texts.AnalysisText.{AnalysisText}
use Rattle.xdg_reading.specs.Lines.{line_text, text_of}
use Rattle.xdg_reading.specs.Texts.{word_lines, body, lines_of, lines2_of, Placed, HasLines, IsText}
use Rattle.xdg_text.specs.Blocks.{block, block2}
use Rattle.xdg_reading.specs.Blocks.{HasWords, IsReadBack, IsBlock, ReadsBack}
use Rattle.xdg_reading.specs.Fits.{Shows}
use Rattle.xdg_reading.proofs.Walks.{some_text}
use Rattle.xdg_reading.proofs.Placing.{text_at, text_words, text_shows, body_placed}
use Rattle.xdg_reading.proofs.Written.{both_texts, words_count, text1_is, text2_is, values_count, edges_count}
use Rattle.xdg_reading.specs.Slots.{slots}
use Rattle.xdg_problem.proofs.EntryPlaces.{length_entries}

by_text : (parts : Parts) (bytes : List ℕ) (a : Analysis) (t : AnalysisText) → HasWords parts t → Shows parts t a → IsText bytes t → IsBlock parts bytes a
by_text parts bytes a t words shows (number, inl has) = (number, has.placed.0.0, has.placed.0.1, inl (has.parts ∙ text1_is parts t a number words shows))
by_text parts bytes a t words shows (number, inr has) = (number, has.placed.1.0.0, has.placed.1.0.1, inr (has.parts ∙ text2_is parts t a number words shows))

read_is_block : (parts : Parts) (bytes : List ℕ) (a : Analysis) → IsReadBack parts bytes a → IsAnalysis parts a × IsBlock parts bytes a
read_is_block parts bytes a (t, read, words, fit) = (fit.0, by_text parts bytes a t words fit.1 read.1)

-- there are no more lines than bytes
few : {X : Type 0} (f : X → Line) (xs : List X) → length xs ≤ length (text_of (map f xs))
few f [] = omega arith
few f (x ∷ xs) = omega (arith, few f xs, some_text (f x), length-append (line_text (f x)) (text_of (map f xs)))

-- of so many bytes the lines behind the first ones are
body_size : (t : AnalysisText) → length (text_of (body t)) ≡ length (text_of (word_lines 0 t.words t.entries)) + (length (text_of (map lines.Attr t.attrs)) + (length (text_of (map lines.Edge t.edges)) + 4))
body_size t =
    let edges : List Line = map lines.Edge t.edges ++ lines.End ∷ [] in
    size (word_lines 0 t.words t.entries) (map lines.Attr t.attrs ++ edges) ∙ ap (λ n. length (text_of (word_lines 0 t.words t.entries)) + n) (size (map lines.Attr t.attrs) edges
    ∙ ap (λ n. length (text_of (map lines.Attr t.attrs)) + n) (size (map lines.Edge t.edges) (lines.End ∷ []))) where
      size : (xs ys : List Line) → length (text_of (xs ++ ys)) ≡ length (text_of xs) + length (text_of ys)
      size xs ys = ap length (both_texts xs ys) ∙ length-append (text_of xs) (text_of ys)

-- the last line is where the text says
end_is : (parts : Parts) (a : Analysis) (start : ℕ) → (text_at parts a start).end + 4 ≡ start + length (text_of (body (text_at parts a start)))
end_is parts a start = omega (arith, body_size (text_at parts a start))

block_text1 : (parts : Parts) (bytes : List ℕ) (a : Analysis) (number : ℕ) → IsProblem parts → IsAnalysis parts a → 1 ≤ number → number ≤ 2000000000000 → bytes ≡ block parts number a → HasLines bytes (text_at parts a (0 + length (line_text (lines.Analysis number)))) (lines_of number (text_at parts a (0 + length (line_text (lines.Analysis number)))))
block_text1 parts bytes a number problem is low high e =
    let start : ℕ = 0 + length (line_text (lines.Analysis number)) in
    let t = text_at parts a start in
    let words = text_words parts a start in
    let same : bytes ≡ text_of (lines_of number t) = e ∙ sym (text1_is parts t a number words (text_shows parts a start is)) in
    let size : length bytes ≡ length (line_text (lines.Analysis number)) + length (text_of (body t)) = ap length same ∙ length-append (line_text (lines.Analysis number)) (text_of (body t)) in
    let count : length t.words ≡ nodes parts = words_count parts t words in
    let each : length a.entries ≡ length t.words = length_entries parts.candidates a.entries is.entries ∙ problem.candidates_each ∙ sym count in
    record {
      parts = same;
      placed = ((low, high), body_placed parts a start problem is);
      some = omega (arith, count, problem.some);
      each = each;
      end = omega (arith, end_is parts a start, size);
    }

abbrev start2 : Parts → Analysis → ℕ → ℕ
start2 parts a number = 0 + length (line_text lines.Version) + length (line_text (lines.Analysis number)) + length (line_text (lines.Counts (length parts.words) (length a.attrs) (length a.edges)))

block_text2 : (parts : Parts) (bytes : List ℕ) (a : Analysis) (number : ℕ) → IsProblem parts → IsAnalysis parts a → length bytes < 2 ^ 32 → 1 ≤ number → number ≤ 2000000000000 → bytes ≡ block2 parts number a → HasLines bytes (text_at parts a (start2 parts a number)) (lines2_of number (text_at parts a (start2 parts a number)))
block_text2 parts bytes a number problem is small low high e =
    let start : ℕ = start2 parts a number in
    let t = text_at parts a start in
    let words = text_words parts a start in
    let shows = text_shows parts a start is in
    let same : bytes ≡ text_of (lines2_of number t) = e ∙ sym (text2_is parts t a number words shows) in
    let count : length t.words ≡ nodes parts = words_count parts t words in
    let attrs_are : length t.attrs ≡ length a.attrs = values_count (slots (nodes parts) parts.dims) t.attrs a.attrs shows.attrs in
    let edges_are : length t.edges ≡ length a.edges = edges_count parts None t.edges a.edges shows.edges in
    let counts : List ℕ = line_text (lines.Counts (length t.words) (length t.attrs) (length t.edges)) in
    let counts_are : counts ≡ line_text (lines.Counts (length parts.words) (length a.attrs) (length a.edges)) = ap (λ w. line_text (lines.Counts w (length t.attrs) (length t.edges))) count ∙ ap (λ x. line_text (lines.Counts (length parts.words) x (length t.edges))) attrs_are ∙ ap (λ y. line_text (lines.Counts (length parts.words) (length a.attrs) y)) edges_are in
    let place : 0 + length (line_text lines.Version) + length (line_text (lines.Analysis number)) + length counts ≡ start = ap (λ z. 0 + length (line_text lines.Version) + length (line_text (lines.Analysis number)) + length z) counts_are in
    let three : length (counts ++ text_of (body t)) ≡ length counts + length (text_of (body t)) = length-append counts (text_of (body t)) in
    let two : length (line_text (lines.Analysis number) ++ (counts ++ text_of (body t))) ≡ length (line_text (lines.Analysis number)) + length (counts ++ text_of (body t)) = length-append (line_text (lines.Analysis number)) (counts ++ text_of (body t)) in
    let one : length (line_text lines.Version ++ (line_text (lines.Analysis number) ++ (counts ++ text_of (body t)))) ≡ length (line_text lines.Version) + length (line_text (lines.Analysis number) ++ (counts ++ text_of (body t))) = length-append (line_text lines.Version) (line_text (lines.Analysis number) ++ (counts ++ text_of (body t))) in
    let size : length bytes ≡ length (line_text lines.Version ++ (line_text (lines.Analysis number) ++ (counts ++ text_of (body t)))) = ap length same in
    let whole : length bytes ≡ start + length (text_of (body t)) = omega (arith, one, two, three, size, place) in
    record {
      parts = same;
      placed = (tt, ((low, high), ((omega (arith, count, problem.some), omega (arith, count, problem.most), omega (arith, few lines.Attr t.attrs, body_size t, whole, small), omega (arith, few lines.Edge t.edges, body_size t, whole, small)), subst (λ k. Placed k (body t)) (sym place) (body_placed parts a start problem is))));
      some = omega (arith, count, problem.some);
      each = length_entries parts.candidates a.entries is.entries ∙ problem.candidates_each ∙ sym count;
      end = omega (arith, end_is parts a start, whole);
    }

block_is_read : (parts : Parts) (bytes : List ℕ) (a : Analysis) → IsProblem parts → IsUtf8 bytes → length bytes < 2 ^ 32 → IsAnalysis parts a × IsBlock parts bytes a → IsReadBack parts bytes a
block_is_read parts bytes a problem u small (is, (number, low, high, inl e)) =
    let start : ℕ = 0 + length (line_text (lines.Analysis number)) in
    (text_at parts a start, (u, (number, inl (block_text1 parts bytes a number problem is low high e))), text_words parts a start, (is, text_shows parts a start is))
block_is_read parts bytes a problem u small (is, (number, low, high, inr e)) =
    let start : ℕ = start2 parts a number in
    (text_at parts a start, (u, (number, inr (block_text2 parts bytes a number problem is small low high e))), text_words parts a start, (is, text_shows parts a start is))

-- what is read back are exactly the texts of analyses
pub reads_back : ReadsBack
reads_back parts bytes a problem u small = (read_is_block parts bytes a, block_is_read parts bytes a problem u small)
