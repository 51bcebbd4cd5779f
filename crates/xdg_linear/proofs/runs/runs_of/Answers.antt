use Rattle.std.proofs.Common.{◌≡◌, ◌+◌, ◌++◌, length, List, All, sym, ◌∙◌, ap, ap₂, subst, refl, rules, arith}
use Rattle.std.specs.Str.{chars}
use Rattle.std.specs.String.{string_bytes}
use Rattle.xdg_problem.specs.declared.parts.SentenceWord.{SentenceWord}
use Rattle.xdg_linear.specs.Words.{words, alone, IsWord, StandsIn, StandApart}
use Rattle.xdg_linear.proofs.Reading.{white_read, black_read, all_read, each_is_word, words_stand_apart, moved, alone_within}
use Rattle.xdg_linear.proofs.runs.runs_of.Goals as goal

pub loop-c-preserved-then-is_whitespace : goal.loop-c-preserved-then-is_whitespace
loop-c-preserved-then-is_whitespace c =
    moved _ _ _ _ _ _ _ _
    (c.in_ok-add_word.ensures ∙ ap (λ t. c.loop-c.words ++ alone c.loop-c.at t) c.as_str.ensures.value)
    (ap (λ n. c.loop-c.at + n) (ap₂ (λ m n. m + n) (let size : c.len.result ≡ length (string_bytes c.loop-c.piece) = search rules in size) c.len_utf8.ensures.value))
    c.clear.ensures.bytes
    (white_read _ _ _ _ _ c.in-Some.c _ c.loop-c.invariant c.in-Some.ensures.steps.0 (sym c.is_whitespace.ensures ∙ c.if-is_whitespace.true))

pub loop-c-preserved : goal.loop-c-preserved
loop-c-preserved c =
    moved _ _ _ _ _ _ _ _ refl refl c.in_ok-push.ensures.bytes
    (black_read _ _ _ _ _ c.in-Some.c _ c.loop-c.invariant c.in-Some.ensures.steps.0 (sym c.is_whitespace.ensures ∙ c.if-is_whitespace.false))

returned : (c : goal.After-drop-piece-2) → c.add_word-2.new.words ≡ words c.args.text.now
returned c =
    c.in_ok-add_word-2.ensures ∙ ap (λ t. c.loop-c.words ++ alone c.loop-c.at t) c.as_str-2.ensures.value
    ∙ all_read _ _ _ _ _ c.loop-c.invariant c.in-None.ensures.steps.0.0

pub returns-clause-words : goal.returns-clause-words
returns-clause-words c = returned c

pub returns-clause-each : goal.returns-clause-each
returns-clause-each c =
    let P : List SentenceWord → Type 0 = All IsWord in
    subst P (sym (returned c)) (each_is_word 0 (chars c.args.text.now))

pub returns-clause-apart : goal.returns-clause-apart
returns-clause-apart c =
    let P : List SentenceWord → Type 0 = StandApart in
    subst P (sym (returned c)) (words_stand_apart 0 (chars c.args.text.now))

pub returns-clause-within : goal.returns-clause-within
returns-clause-within c =
    let P : List SentenceWord → Type 0 = All (StandsIn c.args.text.now) in
    subst P (sym (c.in_ok-add_word-2.ensures ∙ ap (λ t. c.loop-c.words ++ alone c.loop-c.at t) c.as_str-2.ensures.value))
    (alone_within c.args.text.now c.loop-c.words c.loop-c.at (string_bytes c.loop-c.piece) (omega (arith, c.loop-c.invariant.size)) c.loop-c.invariant.within)
