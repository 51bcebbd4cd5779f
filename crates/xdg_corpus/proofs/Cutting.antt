-- A text that is cut at its first line feed.
use denote.Ref.{Bor}
use Rattle.std.proofs.Common.{◌≡◌, ◌≢◌, ◌<◌, ◌≤◌, ◌++◌, ℕ, suc, List, [], ◌∷◌, length, get_or, refl, ap, ◌∙◌, arith, cond, Some, None}
use Rattle.std.specs.List.{onto_first}
use Rattle.std.proofs.lemmas.Bool.{eq-eqb, ne_eqb}
use Rattle.std.proofs.lemmas.List.{length-append}
use Rattle.std.proofs.lemmas.Str.Pattern.{split_parts, IsSplitOnceResult}
use Rattle.xdg_corpus.specs.Lines.{lines}

-- no byte of the text is a line feed
IsPlain : List ℕ → Type 0
IsPlain text = (i : ℕ) → i < length text → get_or text i 0 ≢ 10

-- a line with its line feed
cut_at : (line rest : List ℕ) → IsPlain line → lines (line ++ 10 ∷ rest) ≡ line ∷ lines rest
unfolding IsPlain
cut_at [] rest plain = ap (λ b. cond b ([] ∷ lines rest) (onto_first 10 (lines rest))) (eq-eqb 10 10 refl)
cut_at (byte ∷ line) rest plain =
    ap (λ b. cond b ([] ∷ lines (line ++ 10 ∷ rest)) (onto_first byte (lines (line ++ 10 ∷ rest)))) (ne_eqb byte 10 (λ e. plain 0 (omega arith) e))
    ∙ ap (onto_first byte) (cut_at line rest (λ i within. plain (suc i) (omega (arith, within))))

-- a line that ends with the text
cut_last : (line : List ℕ) → 0 < length line → IsPlain line → lines line ≡ line ∷ []
unfolding IsPlain
cut_last [] some plain = absurd (omega (arith, some))
cut_last (byte ∷ []) some plain = ap (λ b. cond b ([] ∷ []) (onto_first byte [])) (ne_eqb byte 10 (λ e. plain 0 (omega arith) e))
cut_last (byte ∷ next ∷ line) some plain =
    ap (λ b. cond b ([] ∷ lines (next ∷ line)) (onto_first byte (lines (next ∷ line)))) (ne_eqb byte 10 (λ e. plain 0 (omega arith) e))
    ∙ ap (onto_first byte) (cut_last (next ∷ line) (omega arith) (λ i within. plain (suc i) (omega (arith, within))))

-- ---- what cutting gives

pub cut_lines : (text : List ℕ) (line rest : Bor (List ℕ)) → IsSplitOnceResult 10 text (Some (line, rest)) → lines text ≡ line.now ∷ lines rest.now
unfolding IsPlain
cut_lines text line rest result =
    let both = split_parts 10 text (Some (line, rest)) result (omega arith) in
    ap lines both.0 ∙ cut_at line.now rest.now both.1

pub cut_rest : (text : List ℕ) (line rest : Bor (List ℕ)) → IsSplitOnceResult 10 text (Some (line, rest)) → length rest.now < length text
cut_rest text line rest result =
    let both = split_parts 10 text (Some (line, rest)) result (omega arith) in
    let size = ap length both.0 in
    omega (arith, size, length-append line.now (10 ∷ rest.now))

pub cut_line : (text : List ℕ) (line rest : Bor (List ℕ)) → IsSplitOnceResult 10 text (Some (line, rest)) → length line.now ≤ length text
cut_line text line rest result =
    let both = split_parts 10 text (Some (line, rest)) result (omega arith) in
    let size = ap length both.0 in
    omega (arith, size, length-append line.now (10 ∷ rest.now))

pub whole_line : (text : List ℕ) → IsSplitOnceResult 10 text None → 0 < length text → lines text ≡ text ∷ lines []
unfolding IsPlain
whole_line text result some = cut_last text some (split_parts 10 text None result (omega arith))

-- a text cut behind its first line
pub ruleset cut_steps = (cut_lines, cut_rest, cut_line, whole_line)
