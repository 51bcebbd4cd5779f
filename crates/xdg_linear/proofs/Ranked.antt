-- The walk along words to the first of a text.
use Rattle.std.proofs.Common.{◌≡◌, ◌<◌, ◌+◌, ℕ, suc, List, true, false, cond, length, drop, get_or, ap, ◌∙◌, arith}
use Rattle.std.proofs.Math.Seq.{drop-cons}
use Rattle.std.specs.Str.{bytes_eq}
use Rattle.xdg_problem.specs.declared.parts.SentenceWord.{SentenceWord}
use Rattle.xdg_linear.specs.Ranks.{rank_of}

-- the word at a place has the text, or the first that has it is behind
rank_at : (words : List SentenceWord) (k : ℕ) (d : SentenceWord) (text : List ℕ) → k < length words →
    rank_of (drop k words) text ≡ cond (bytes_eq (get_or words k d).text text) 0 (1 + rank_of (drop (k + 1) words) text)
rank_at words k d text lt =
    let next : k + 1 ≡ suc k = omega arith in
    rw next (ap (λ z. rank_of z text) (drop-cons words k d lt))

-- the first word of the text is at this place
pub rank_found : (words : List SentenceWord) (k : ℕ) (d : SentenceWord) (text : List ℕ) → k < length words → rank_of (drop k words) text + k ≡ rank_of words text → bytes_eq (get_or words k d).text text ≡ true →
    k ≡ rank_of words text
rank_found words k d text lt so_far same =
    let none : rank_of (drop k words) text ≡ 0 = rank_at words k d text lt ∙ ap (λ b. cond b 0 (1 + rank_of (drop (k + 1) words) text)) same in
    omega arith

-- the first word of the text is behind this place
pub rank_behind : (words : List SentenceWord) (k : ℕ) (d : SentenceWord) (text : List ℕ) → k < length words → rank_of (drop k words) text + k ≡ rank_of words text → bytes_eq (get_or words k d).text text ≡ false →
    rank_of (drop (k + 1) words) text + (k + 1) ≡ rank_of words text
rank_behind words k d text lt so_far differs =
    let one : rank_of (drop k words) text ≡ 1 + rank_of (drop (k + 1) words) text = rank_at words k d text lt ∙ ap (λ b. cond b 0 (1 + rank_of (drop (k + 1) words) text)) differs in
    omega arith
