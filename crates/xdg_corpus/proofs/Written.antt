-- What is written of a group, line by line.
use Rattle.std.proofs.Common.{◌≡◌, ◌<◌, ◌≤◌, ◌+◌, ◌++◌, ℕ, List, [], suc, length, drop, get_or, sym, ap, ◌∙◌, arith}
use Rattle.std.proofs.Math.Seq.{drop-cons}
use Rattle.std.proofs.lemmas.Option.{slice_get_past}
use Rattle.xdg_corpus.specs.Groups.{answer_text, group_text, own_text}
use Rattle.xdg_corpus.specs.Texts.{sentence_line}
use Rattle.xdg_corpus.specs.declared.group.Sentence.{Sentence}
use Rattle.xdg_corpus.specs.declared.group.Sentence.TheVariants as sentences
use Rattle.xdg_split.specs.declared.answer.Answer.{Answer}

-- the texts from a place on begin with that of the line there
pub group_from : (answers : List Answer) (first : ℕ) (said : List Sentence) (i : ℕ) (sentence : Sentence) → i < length said → sentence ≡ get_or said i sentence
    → group_text answers (first + i) (drop i said) ≡ (sentence_line (first + i) ++ own_text answers sentence) ++ group_text answers (first + (i + 1)) (drop (i + 1) said)
group_from answers first said i sentence within is =
    let number : first + i + 1 ≡ first + (i + 1) = omega arith in
    let next : suc i ≡ i + 1 = omega arith in
    ap (group_text answers (first + i)) (drop-cons said i sentence within)
    ∙ ap (λ s. (sentence_line (first + i) ++ own_text answers s) ++ group_text answers (first + i + 1) (drop (suc i) said)) (sym is)
    ∙ ap (λ n. (sentence_line (first + i) ++ own_text answers sentence) ++ group_text answers n (drop (suc i) said)) number
    ∙ ap (λ n. (sentence_line (first + i) ++ own_text answers sentence) ++ group_text answers (first + (i + 1)) (drop n said)) next

-- a place without an answer has no text
pub no_answer : (answers : List Answer) (sentence : Sentence) (place : ℕ) → sentence ≡ sentences.Job place → length answers ≤ place → [] ≡ own_text answers sentence
no_answer answers sentence place is past = sym (ap (own_text answers) is ∙ ap answer_text (slice_get_past answers place past))
