-- The command that words are: its name, and what follows it.
use Rattle.std.proofs.Common.{◌≡◌, ◌∙◌, ℕ, Bool, true, false, List, ◌∷◌, Option, Some, None, refl, sym, ap, subst, rules}
use Rattle.std.specs.Prelude.{codes, if◌then◌else◌}
use Rattle.std.specs.Str.{bytes_eq}
use Rattle.std.proofs.lemmas.Slice.Eq.{bytes_eq-Decides}
use Rattle.xdg_command.specs.Answers.{IsExactly}
use Rattle.xdg_command.specs.Commands.{IsCommand, Says, flags_of, spelled, values_of}
use Rattle.xdg_command.specs.Readings.{AreWords, IsOfVerb}
use Rattle.xdg_command.specs.Verbs.{verb_of}
use Rattle.xdg_command.specs.declared.commands.Command.{Command}
use Rattle.xdg_command.specs.declared.commands.Command.TheVariants as commands
use Rattle.xdg_command.specs.declared.reading.Verb.{Verb}
use Rattle.xdg_command.specs.declared.reading.Verb.TheVariants as verbs
use Rattle.xdg_command.proofs.Commanded.{one_said}
use Rattle.xdg_command.proofs.Meanings.{arrange_is, best_is, corpus_is, drill_is, explain_is, file_is, parse_is, resume_is}

-- how a verb is spelled
spelling_of : Verb → List ℕ
spelling_of verbs.Parse = codes "parse"
spelling_of verbs.Resume = codes "resume"
spelling_of verbs.Explain = codes "explain"
spelling_of verbs.Check = codes "check"
spelling_of verbs.Lexicon = codes "lexicon"
spelling_of verbs.Print = codes "print"
spelling_of verbs.Drill = codes "drill"
spelling_of verbs.Corpus = codes "corpus"
spelling_of verbs.Arrange = codes "arrange"
spelling_of verbs.Best = codes "best"

-- a word that one name spells, or what the others spell
spells_step : (word name : List ℕ) (one verb : Verb) (rest : Option Verb) → name ≡ spelling_of one → (rest ≡ Some verb → word ≡ spelling_of verb)
    → (if bytes_eq word name then Some one else rest) ≡ Some verb → word ≡ spelling_of verb
spells_step word name one verb rest named more = go (bytes_eq word name) (bytes_eq-Decides word name).0
  where
    go : (b : Bool) → (b ≡ true → word ≡ name) → (if b then Some one else rest) ≡ Some verb → word ≡ spelling_of verb
    go true is e = let same : one ≡ verb = cc in is refl ∙ named ∙ ap spelling_of same
    go false is e = more e

-- a word is the spelling of the verb that it spells
spells : (word : List ℕ) (verb : Verb) → verb_of word ≡ Some verb → word ≡ spelling_of verb
unfolding verb_of spelling_of
spells word verb =
    spells_step word (codes "parse") verbs.Parse verb _ refl
    (spells_step word (codes "resume") verbs.Resume verb _ refl
    (spells_step word (codes "explain") verbs.Explain verb _ refl
    (spells_step word (codes "check") verbs.Check verb _ refl
    (spells_step word (codes "lexicon") verbs.Lexicon verb _ refl
    (spells_step word (codes "print") verbs.Print verb _ refl
    (spells_step word (codes "drill") verbs.Drill verb _ refl
    (spells_step word (codes "corpus") verbs.Corpus verb _ refl
    (spells_step word (codes "arrange") verbs.Arrange verb _ refl
    (spells_step word (codes "best") verbs.Best verb None refl (λ e. absurd cc))))))))))

-- the words after the name of a command say it
abbrev AreLater : Command → List (List ℕ) → Type 0
AreLater command later = AreWords (values_of command) (flags_of command) later (λ items. Says items command)

-- the verb of a command
record OfVerb (command : Command) (later : List (List ℕ)) : Type 0 where
  verb : Verb
  named : verb_of (spelled command) ≡ Some verb
  says : IsOfVerb verb later command

of_command : (command : Command) (later : List (List ℕ)) → AreLater command later → OfVerb command later
unfolding verb_of
of_command (commands.Parse options) later w = record { verb = verbs.Parse; named = refl; says = w }
of_command (commands.Resume options) later w = record { verb = verbs.Resume; named = refl; says = w }
of_command (commands.Explain options) later w = record { verb = verbs.Explain; named = refl; says = w }
of_command (commands.Check grammar) later w = record { verb = verbs.Check; named = refl; says = w }
of_command (commands.Lexicon grammar) later w = record { verb = verbs.Lexicon; named = refl; says = w }
of_command (commands.Print grammar) later w = record { verb = verbs.Print; named = refl; says = w }
of_command (commands.Drill number) later w = record { verb = verbs.Drill; named = refl; says = w }
of_command (commands.Corpus options) later w = record { verb = verbs.Corpus; named = refl; says = w }
of_command (commands.Arrange options) later w = record { verb = verbs.Arrange; named = refl; says = w }
of_command (commands.Best options) later w = record { verb = verbs.Best; named = refl; says = w }

-- and back
to_command : (verb : Verb) (later : List (List ℕ)) (command : Command) → IsOfVerb verb later command → (spelling_of verb ≡ spelled command) × AreLater command later
unfolding spelling_of
to_command verbs.Parse later (commands.Parse options) w = (refl, w)
to_command verbs.Resume later (commands.Resume options) w = (refl, w)
to_command verbs.Explain later (commands.Explain options) w = (refl, w)
to_command verbs.Check later (commands.Check grammar) w = (refl, w)
to_command verbs.Lexicon later (commands.Lexicon grammar) w = (refl, w)
to_command verbs.Print later (commands.Print grammar) w = (refl, w)
to_command verbs.Drill later (commands.Drill number) w = (refl, w)
to_command verbs.Corpus later (commands.Corpus options) w = (refl, w)
to_command verbs.Arrange later (commands.Arrange options) w = (refl, w)
to_command verbs.Best later (commands.Best options) w = (refl, w)
to_command verb later command w = absurd w

-- the verb of the words that are a command
verb_in : {words : List (List ℕ)} {command : Command} (w : IsCommand words command) → OfVerb command w.later
verb_in {words} {command} w = of_command command w.later (record { items = w.items; read = w.read; once = w.once; says = w.says })

-- the command of the words is that of the later ones under the verb that the first one spells
under_verb : (word : List ℕ) (later : List (List ℕ)) (command : Command) → IsCommand (word ∷ later) command → (verb : Verb) × (verb_of word ≡ Some verb) × IsOfVerb verb later command
under_verb word later command w =
    let found = verb_in w in
    let is : word ∷ later ≡ spelled command ∷ w.later = w.words_are in
    let word_is : word ≡ spelled command = cc in
    let later_is : w.later ≡ later = cc in
    (found.verb, ap verb_of word_is ∙ found.named, subst (λ ws. IsOfVerb found.verb ws command) later_is found.says)

pub no_verb : (word : List ℕ) (later : List (List ℕ)) → verb_of word ≡ None → (command : Command) → IsCommand (word ∷ later) command → ⊥
no_verb word later none command w = let bad : None ≡ Some (under_verb word later command w).0 = sym none ∙ (under_verb word later command w).1 in cc

same_verb : (word : List ℕ) (later : List (List ℕ)) (verb : Verb) → verb_of word ≡ Some verb → (command : Command) → IsCommand (word ∷ later) command → IsOfVerb verb later command
same_verb word later verb e command w =
    let found = under_verb word later command w in
    let both : Some found.0 ≡ Some verb = sym found.1 ∙ e in
    let verb_is : found.0 ≡ verb = cc in
    subst (λ v. IsOfVerb v later command) verb_is found.2

pub by_verb : (word : List ℕ) (later : List (List ℕ)) (verb : Verb) (answer : Option Command) → verb_of word ≡ Some verb → IsExactly (IsOfVerb verb later) answer → IsExactly (IsCommand (word ∷ later)) answer
by_verb word later verb None e exact = λ command w. exact command (same_verb word later verb e command w)
by_verb word later verb (Some found) e exact =
    let back = to_command verb later found exact.0 in (
      record { later = later; items = back.1.items; words_are = ap (λ first. first ∷ later) (spells word verb e ∙ back.0); read = back.1.read; once = back.1.once; says = back.1.says },
      λ command w. exact.1 command (same_verb word later verb e command w),
    )

-- ---- words are at most one command

one_of_verb : (verb : Verb) (words : List (List ℕ)) (a b : Command) → IsOfVerb verb words a → IsOfVerb verb words b → a ≡ b
one_of_verb verbs.Parse words (commands.Parse a) (commands.Parse b) p q = ap (λ o. commands.Parse o) (one_said parse_is a b p q)
one_of_verb verbs.Resume words (commands.Resume a) (commands.Resume b) p q = ap (λ o. commands.Resume o) (one_said resume_is a b p q)
one_of_verb verbs.Explain words (commands.Explain a) (commands.Explain b) p q = ap (λ o. commands.Explain o) (one_said explain_is a b p q)
one_of_verb verbs.Check words (commands.Check a) (commands.Check b) p q = ap (λ n. commands.Check n) (one_said file_is a b p q)
one_of_verb verbs.Lexicon words (commands.Lexicon a) (commands.Lexicon b) p q = ap (λ n. commands.Lexicon n) (one_said file_is a b p q)
one_of_verb verbs.Print words (commands.Print a) (commands.Print b) p q = ap (λ n. commands.Print n) (one_said file_is a b p q)
one_of_verb verbs.Drill words (commands.Drill a) (commands.Drill b) p q = ap (λ n. commands.Drill n) (one_said drill_is a b p q)
one_of_verb verbs.Corpus words (commands.Corpus a) (commands.Corpus b) p q = ap (λ o. commands.Corpus o) (one_said corpus_is a b p q)
one_of_verb verbs.Arrange words (commands.Arrange a) (commands.Arrange b) p q = ap (λ o. commands.Arrange o) (one_said arrange_is a b p q)
one_of_verb verbs.Best words (commands.Best a) (commands.Best b) p q = ap (λ o. commands.Best o) (one_said best_is a b p q)
one_of_verb verb words a b p q = absurd (search rules)

pub one_command : (words : List (List ℕ)) (a b : Command) → IsCommand words a → IsCommand words b → a ≡ b
one_command words a b p q =
    let first = verb_in p in
    let other = subst (λ ws. IsCommand ws b) p.words_are q in
    one_of_verb first.verb p.later a b first.says (same_verb (spelled a) p.later first.verb first.named b other)
