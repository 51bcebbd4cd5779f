-- What the reading of a text keeps, from one character to the next.
use Rattle.std.proofs.Common.{◌≡◌, ℕ, ◌+◌, ◌<◌, ◌≤◌, ◌==◌, Bool, true, false, cond, List, [], ◌∷◌, ◌++◌, length, refl, sym, ◌∙◌, ap, subst, arith, append_assoc, append-nil, length-append, eq-eqb, All}
use Rattle.std.specs.Char.{encode_utf8, is_whitespace, len_utf8}
use Rattle.std.specs.Str.{chars, IsUtf8}
use Rattle.std.proofs.lemmas.Bool.{cond_both, eqb-true, eqb-false}
use Rattle.std.proofs.lemmas.Str.{chars-nil, chars_past_char, IsUtf8-past_char, length-encode, len_utf8_bounds, NoCharPasses-append}
use Rattle.std.proofs.lemmas.List.Elements.{All-nil, All-cons, All-head, All-tail, All-append}
use Rattle.xdg_problem.specs.declared.parts.SentenceWord.{SentenceWord}
use Rattle.xdg_linear.specs.Words.{word, alone, joined, words_from, words, IsWord, StandsIn, StandApart}

-- a piece that may be empty, with the words behind it
abbrev pub before : ℕ → List ℕ → List SentenceWord → List SentenceWord
before at [] ws = ws
before at (byte ∷ bytes) ws = joined at (byte ∷ bytes) ws

-- the first word does not begin in front of a place
abbrev Begins : ℕ → List SentenceWord → Type 0
Begins at [] = Unit {0}
Begins at (w ∷ ws) = at ≤ w.at

begins_later : (at more : ℕ) (ws : List SentenceWord) → at ≤ more → Begins more ws → Begins at ws
begins_later at more [] h b = tt
begins_later at more (w ∷ ws) h b = omega arith

joined_begins : (at : ℕ) (piece : List ℕ) (ws : List SentenceWord) → Begins at (joined at piece ws)
joined_begins at piece [] = omega arith
joined_begins at piece (w ∷ ws) = elim (w.at == at + length piece) as (λ b. Begins at (cond b (word at (piece ++ w.text) ∷ ws) (word at piece ∷ w ∷ ws))) [ true ↦ omega arith | false ↦ omega arith ]

words_begin : (at : ℕ) (cs : List ℕ) → Begins at (words_from at cs)
words_begin at [] = tt
words_begin at (c ∷ cs) =
    elim (is_whitespace c) as (λ b. Begins at (cond b (words_from (at + len_utf8 c) cs) (joined at (encode_utf8 c) (words_from (at + len_utf8 c) cs)))) [
      | true ↦ begins_later at (at + len_utf8 c) (words_from (at + len_utf8 c) cs) (omega arith) (words_begin (at + len_utf8 c) cs)
      | false ↦ joined_begins at (encode_utf8 c) (words_from (at + len_utf8 c) cs)
    ]

-- a piece that ends in front of the first word is a word alone
joined_apart : (at : ℕ) (piece : List ℕ) (place : ℕ) (ws : List SentenceWord) → at + length piece < place → Begins place ws → joined at piece ws ≡ word at piece ∷ ws
joined_apart at piece place [] h b = refl
joined_apart at piece place (w ∷ ws) h b =
    let other : (w.at == at + length piece) ≡ false = grind arith in
    ap (λ t. cond t (word at (piece ++ w.text) ∷ ws) (word at piece ∷ w ∷ ws)) other

-- a piece joins a word that begins where it ends
joined_next : (at : ℕ) (piece text : List ℕ) (ws : List SentenceWord) → joined at piece (word (at + length piece) text ∷ ws) ≡ word at (piece ++ text) ∷ ws
joined_next at piece text ws = ap (λ t. cond t (word at (piece ++ text) ∷ ws) (word at piece ∷ word (at + length piece) text ∷ ws)) (eq-eqb (at + length piece) (at + length piece) refl)

-- two pieces one behind the other are one piece
joined_twice : (at : ℕ) (piece more : List ℕ) (ws : List SentenceWord) → joined at piece (joined (at + length piece) more ws) ≡ joined at (piece ++ more) ws
joined_twice at piece more [] = joined_next at piece more []
joined_twice at piece more (w ∷ ws) =
    let place : at + length (piece ++ more) ≡ (at + length piece) + length more = omega (arith, length-append piece more) in
    let at_case : (b : Bool) → joined at piece (cond b (word (at + length piece) (more ++ w.text) ∷ ws) (word (at + length piece) more ∷ w ∷ ws)) ≡ cond b (word at ((piece ++ more) ++ w.text) ∷ ws) (word at (piece ++ more) ∷ w ∷ ws) =
    λ b. elim b as (λ b. joined at piece (cond b (word (at + length piece) (more ++ w.text) ∷ ws) (word (at + length piece) more ∷ w ∷ ws)) ≡ cond b (word at ((piece ++ more) ++ w.text) ∷ ws) (word at (piece ++ more) ∷ w ∷ ws)) [
      | true ↦ joined_next at piece (more ++ w.text) ws ∙ ap (λ t. word at t ∷ ws) (sym (append_assoc piece more w.text))
      | false ↦ joined_next at piece more (w ∷ ws)
    ] in
    at_case (w.at == (at + length piece) + length more) ∙ ap (λ t. cond (w.at == t) (word at ((piece ++ more) ++ w.text) ∷ ws) (word at (piece ++ more) ∷ w ∷ ws)) (sym place)

before_joined : (at : ℕ) (piece more : List ℕ) (ws : List SentenceWord) → 0 < length more → before at piece (joined (at + length piece) more ws) ≡ before at (piece ++ more) ws
before_joined at [] [] ws h = absurd (omega arith)
before_joined at [] (byte ∷ bytes) ws h = ap (λ t. joined t (byte ∷ bytes) ws) (omega arith)
before_joined at (b ∷ bs) more ws h = joined_twice at (b ∷ bs) more ws

before_apart : (at : ℕ) (piece : List ℕ) (place : ℕ) (ws : List SentenceWord) → at + length piece < place → Begins place ws → before at piece ws ≡ alone at piece ++ ws
before_apart at [] place ws h b = refl
before_apart at (byte ∷ bytes) place ws h b = joined_apart at (byte ∷ bytes) place ws h b

before_end : (at : ℕ) (piece : List ℕ) → before at piece [] ≡ alone at piece
before_end at [] = refl
before_end at (byte ∷ bytes) = refl

-- The words of a text are those that are done and those that a piece, at a place, makes with the rest of the text.
pub record IsRead (text : List ℕ) (done : List SentenceWord) (at : ℕ) (piece rest : List ℕ) : Type 0 where
  pub utf8 : IsUtf8 rest
  pub size : (at + length piece) + length rest ≡ length text
  pub reads : done ++ before at piece (words_from (at + length piece) (chars rest)) ≡ words text
  pub within : All (StandsIn text) done

-- one more word, if there is one, stands in the text too
pub alone_within : (text : List ℕ) (done : List SentenceWord) (at : ℕ) (piece : List ℕ) → at + length piece ≤ length text → All (StandsIn text) done → All (StandsIn text) (done ++ alone at piece)
alone_within text done at [] h all = let P : List SentenceWord → Type 0 = All (StandsIn text) in subst P (sym (append-nil done)) all
alone_within text done at (byte ∷ bytes) h all = All-append (StandsIn text) done (word at (byte ∷ bytes) ∷ []) all (All-cons (StandsIn text) (word at (byte ∷ bytes)) [] h (All-nil (StandsIn text)))

-- white space ends a piece
pub white_read : (text : List ℕ) (done : List SentenceWord) (at : ℕ) (piece rest : List ℕ) (c : ℕ) (after : List ℕ) → IsRead text done at piece rest → rest ≡ encode_utf8 c ++ after → is_whitespace c ≡ true → IsRead text (done ++ alone at piece) (at + (length piece + len_utf8 c)) [] after
white_read text done at piece rest c after read e white =
    let place : ℕ = at + (length piece + len_utf8 c) in
    let here : (at + length piece) + len_utf8 c ≡ place = omega arith in
    let same : words_from (at + length piece) (chars rest) ≡ words_from place (chars after) =
    ap (λ t. words_from (at + length piece) t) (chars_past_char rest after c read.utf8 e)
    ∙ ap (λ b. cond b (words_from ((at + length piece) + len_utf8 c) (chars after)) (joined (at + length piece) (encode_utf8 c) (words_from ((at + length piece) + len_utf8 c) (chars after)))) white
    ∙ ap (λ t. words_from t (chars after)) here in
    record {
      utf8 = IsUtf8-past_char rest after c read.utf8 e;
      size = omega (arith, read.size, ap length e, length-append (encode_utf8 c) after, length-encode c);
      reads = append_assoc done (alone at piece) (words_from (place + 0) (chars after))
          ∙ ap (λ t. done ++ (alone at piece ++ words_from t (chars after))) (omega arith)
          ∙ ap (λ t. done ++ t) (sym (before_apart at piece place (words_from place (chars after)) (omega (arith, len_utf8_bounds c)) (words_begin place (chars after))))
          ∙ ap (λ t. done ++ before at piece t) (sym same)
          ∙ read.reads;
      within = alone_within text done at piece (omega (arith, read.size)) read.within;
    }

-- another character goes on with a piece
pub black_read : (text : List ℕ) (done : List SentenceWord) (at : ℕ) (piece rest : List ℕ) (c : ℕ) (after : List ℕ) → IsRead text done at piece rest → rest ≡ encode_utf8 c ++ after → is_whitespace c ≡ false → IsRead text done at (piece ++ encode_utf8 c) after
black_read text done at piece rest c after read e black =
    let place : at + length (piece ++ encode_utf8 c) ≡ (at + length piece) + len_utf8 c = omega (arith, length-append piece (encode_utf8 c), length-encode c) in
    let same : words_from (at + length piece) (chars rest) ≡ joined (at + length piece) (encode_utf8 c) (words_from ((at + length piece) + len_utf8 c) (chars after)) =
    ap (λ t. words_from (at + length piece) t) (chars_past_char rest after c read.utf8 e)
    ∙ ap (λ b. cond b (words_from ((at + length piece) + len_utf8 c) (chars after)) (joined (at + length piece) (encode_utf8 c) (words_from ((at + length piece) + len_utf8 c) (chars after)))) black in
    record {
      utf8 = IsUtf8-past_char rest after c read.utf8 e;
      size = omega (arith, read.size, ap length e, length-append (encode_utf8 c) after, length-append piece (encode_utf8 c));
      reads = ap (λ t. done ++ before at (piece ++ encode_utf8 c) (words_from t (chars after))) place
          ∙ ap (λ t. done ++ t) (sym (before_joined at piece (encode_utf8 c) (words_from ((at + length piece) + len_utf8 c) (chars after)) (omega (arith, length-encode c, len_utf8_bounds c))))
          ∙ ap (λ t. done ++ before at piece t) (sym same)
          ∙ read.reads;
      within = read.within;
    }

-- the end of the text ends a piece
pub all_read : (text : List ℕ) (done : List SentenceWord) (at : ℕ) (piece rest : List ℕ) → IsRead text done at piece rest → length rest ≡ 0 → done ++ alone at piece ≡ words text
all_read text done at piece [] read e =
    ap (λ t. done ++ t) (sym (before_end at piece))
    ∙ ap (λ t. done ++ before at piece (words_from (at + length piece) t)) (sym chars-nil)
    ∙ read.reads
all_read text done at piece (byte ∷ bytes) read e = absurd (omega arith)

character_is_word : (at c : ℕ) → is_whitespace c ≡ false → IsWord (word at (encode_utf8 c))
character_is_word at c black = record {
  some = omega (arith, length-encode c, len_utf8_bounds c);
  black = (c ∷ [], append-nil (encode_utf8 c), (black, tt));
}

longer_is_word : (at place : ℕ) (piece text : List ℕ) → IsWord (word at piece) → IsWord (word place text) → IsWord (word at (piece ++ text))
longer_is_word at place piece text one other = record {
  some = omega (arith, one.some, length-append piece text);
  black = NoCharPasses-append is_whitespace piece text one.black other.black;
}

joined_are_words : (at : ℕ) (piece : List ℕ) (ws : List SentenceWord) → IsWord (word at piece) → All IsWord ws → All IsWord (joined at piece ws)
joined_are_words at piece [] one all = All-cons IsWord (word at piece) [] one all
joined_are_words at piece (w ∷ ws) one all =
    let first : IsWord w = All-head IsWord w ws all in
    let P : List SentenceWord → Type 0 = All IsWord in
    cond_both (w.at == at + length piece) (word at (piece ++ w.text) ∷ ws) (word at piece ∷ w ∷ ws) P
    (λ e. All-cons IsWord (word at (piece ++ w.text)) ws (longer_is_word at w.at piece w.text one (record { some = first.some; black = first.black })) (All-tail IsWord w ws all))
    (λ e. All-cons IsWord (word at piece) (w ∷ ws) one all)

pub each_is_word : (at : ℕ) (cs : List ℕ) → All IsWord (words_from at cs)
each_is_word at [] = All-nil IsWord
each_is_word at (c ∷ cs) =
    let P : List SentenceWord → Type 0 = All IsWord in
    cond_both (is_whitespace c) (words_from (at + len_utf8 c) cs) (joined at (encode_utf8 c) (words_from (at + len_utf8 c) cs)) P
    (λ e. each_is_word (at + len_utf8 c) cs)
    (λ e. joined_are_words at (encode_utf8 c) (words_from (at + len_utf8 c) cs) (character_is_word at c e) (each_is_word (at + len_utf8 c) cs))

longer_apart : (at : ℕ) (piece : List ℕ) (w : SentenceWord) (ws : List SentenceWord) → w.at ≡ at + length piece → StandApart (w ∷ ws) → StandApart (word at (piece ++ w.text) ∷ ws)
longer_apart at piece w [] e apart = tt
longer_apart at piece w (next ∷ ws) e apart = (omega (arith, e, apart.0, length-append piece w.text), apart.1)

joined_stand_apart : (at : ℕ) (piece : List ℕ) (ws : List SentenceWord) → Begins (at + length piece) ws → StandApart ws → StandApart (joined at piece ws)
joined_stand_apart at piece [] begins apart = tt
joined_stand_apart at piece (w ∷ ws) begins apart =
    let P : List SentenceWord → Type 0 = StandApart in
    cond_both (w.at == at + length piece) (word at (piece ++ w.text) ∷ ws) (word at piece ∷ w ∷ ws) P
    (λ e. longer_apart at piece w ws (eqb-true w.at (at + length piece) e) apart)
    (λ e. let other : w.at ≡ at + length piece → ⊥ = eqb-false w.at (at + length piece) e in (omega arith, apart))

pub words_stand_apart : (at : ℕ) (cs : List ℕ) → StandApart (words_from at cs)
words_stand_apart at [] = tt
words_stand_apart at (c ∷ cs) =
    let P : List SentenceWord → Type 0 = StandApart in
    let here : at + length (encode_utf8 c) ≡ at + len_utf8 c = ap (λ t. at + t) (length-encode c) in
    let Q : ℕ → Type 0 = λ t. Begins t (words_from (at + len_utf8 c) cs) in
    cond_both (is_whitespace c) (words_from (at + len_utf8 c) cs) (joined at (encode_utf8 c) (words_from (at + len_utf8 c) cs)) P
    (λ e. words_stand_apart (at + len_utf8 c) cs)
    (λ e. joined_stand_apart at (encode_utf8 c) (words_from (at + len_utf8 c) cs) (subst Q (sym here) (words_begin (at + len_utf8 c) cs)) (words_stand_apart (at + len_utf8 c) cs))

pub moved : (text : List ℕ) (done other : List SentenceWord) (at place : ℕ) (piece bytes rest : List ℕ) → other ≡ done → place ≡ at → bytes ≡ piece → IsRead text done at piece rest → IsRead text other place bytes rest
moved text done other at place piece bytes rest e f g read = rw (e, f, g) read
