-- The turns of the loop over the characters of a text, in the words of the code.
use Rattle.std.proofs.Common.{◌≡◌, ℕ, ◌+◌, ◌-◌, List, [], ◌∷◌, ◌++◌, Option, Some, Ok, Err, length, take, drop, refl, sym, ◌∙◌, ap, subst, arith, append-nil, length-append}
use Rattle.std.proofs.lemmas.List.{map-append}
use Rattle.std.specs.Char.{encode_utf8, len_utf8}
use Rattle.std.specs.Prelude.{Result}
use Rattle.std.specs.Str.{chars, IsUtf8}
use Rattle.std.proofs.lemmas.Str.{IsUtf8-past_char, length-encode}
use Rattle.xdg_base.specs.declared.faults.Fault.{Fault}
use Rattle.xdg_base.specs.declared.faults.Stop.{Stop}
use Rattle.xdg_base.specs.declared.faults.Stop.TheVariants as stops
use Rattle.xdg_base.specs.Told.{Gives}
use Rattle.xdg_ast.specs.declared.token.Kind.{Kind}
use Rattle.xdg_ast.specs.declared.token.Token.{Token}
use Rattle.xdg_lex.specs.declared.pieces.Mode.{Mode}
use Rattle.xdg_lex.specs.declared.pieces.Turn.TheVariants as turns
use Rattle.xdg_ast.specs.Kinds.{refined}
use Rattle.xdg_lex.specs.Pieces.{goes_on, begins, ends}
use Rattle.xdg_lex.specs.Lexed.{lexed_characters, run, before, begun, ended, piece_of, Adds}
use Rattle.xdg_ast.specs.Lexemes.{Lexeme, lexeme, lexeme_of, lexemes_of}
use Rattle.xdg_lex.proofs.Steps.{IsRead, before_twice, rest_is, from_there, ended_read, at_end}
use Rattle.xdg_lex.proofs.Counts.{begins_within}

token_is : (token : Token) (kind : Kind) (text : List ℕ) → token.kind ≡ refined kind text → token.text.now ≡ text → token.span.start + length text ≡ token.span.end → lexeme_of token ≡ lexeme (refined kind text) token.span.start text
token_is token kind text k t s = rw (k, t, sym s) refl

pub token_added : (old new : List Token) (token : Token) (kind : Kind) (text : List ℕ) (outcome : Result (Option Kind) Fault) → new ≡ old ++ token ∷ [] → token.kind ≡ refined kind text → token.text.now ≡ text → token.span.start + length text ≡ token.span.end
    → Ok (Some kind) ≡ outcome → Adds outcome token.span.start text old (Ok tt) new
token_added old new token kind text outcome added k t s is =
    (Some kind, sym is, ap lexemes_of added ∙ map-append lexeme_of old (token ∷ []) ∙ ap (λ l. lexemes_of old ++ l ∷ []) (token_is token kind text k t s))

pub moved : (text : List ℕ) (done other : List Lexeme) (start start2 at at2 : ℕ) (left left2 : List ℕ) (mode mode2 : Mode) (rest : List ℕ) → other ≡ done → start2 ≡ start → at2 ≡ at → left2 ≡ left → mode2 ≡ mode
    → IsRead text done start at left mode rest → IsRead text other start2 at2 left2 mode2 rest
moved text done other start start2 at at2 left left2 mode mode2 rest a b c d e read = rw (a, b, c, d, e) read

-- a piece that ended, and what is behind it
behind_piece : (text : List ℕ) (old new : List Token) (start at : ℕ) (left piece : List ℕ) (mode : Mode) (rest after : List ℕ) (c : ℕ) (begun_as : Result Mode Fault)
    → IsRead text (lexemes_of old) start at left mode rest → rest ≡ encode_utf8 c ++ after → turns.Ends ≡ goes_on mode at c
    → piece ≡ take (at - start) left → Adds (ends mode start (length piece)) start piece old (Ok tt) new → begun_as ≡ begins at c
    → lexed_characters (chars text) ≡ before (lexemes_of new) (begun begun_as (λ next. run at (encode_utf8 c) next (chars after)))
behind_piece text old new start at left piece mode rest after c begun_as read e stops is (kind, ended_so, added) begun_so =
    rw (begun_so, added)
    (ended_read text (lexemes_of old) start at left piece mode rest after c read e stops is ∙ ap (λ o. before (lexemes_of old) (ended o start piece (from_there at c (chars after)))) ended_so
    ∙ before_twice (lexemes_of old) (piece_of kind start piece) (from_there at c (chars after)))

-- the first character of the next
pub next_turn : (text : List ℕ) (old new : List Token) (start at : ℕ) (left piece behind : List ℕ) (mode next : Mode) (rest after : List ℕ) (c : ℕ)
    → IsRead text (lexemes_of old) start at left mode rest → rest ≡ encode_utf8 c ++ after → turns.Ends ≡ goes_on mode at c
    → piece ≡ take (at - start) left → behind ≡ drop (at - start) left → Adds (ends mode start (length piece)) start piece old (Ok tt) new → Ok next ≡ begins at c
    → IsRead text (lexemes_of new) at (at + len_utf8 c) behind next after
next_turn text old new start at left piece behind mode next rest after c read e stops is behind_is adds begun_so =
    let size : length rest ≡ len_utf8 c + length after = omega (arith, ap length e, length-append (encode_utf8 c) after, length-encode c) in
    let rest_so : behind ≡ rest = behind_is ∙ rest_is text (lexemes_of old) start at left mode rest read in
    record {
      piece = encode_utf8 c;
      utf8 = IsUtf8-past_char rest after c read.utf8 e;
      left_utf8 = subst IsUtf8 (sym rest_so) read.utf8;
      size = omega (arith, read.size, size);
      place = ap (λ n. at + n) (sym (length-encode c));
      parts = rest_so ∙ e;
      count = begins_within at c next (sym begun_so);
      reads = sym (behind_piece text old new start at left piece mode rest after c (Ok next) read e stops is adds begun_so);
    }

pub begin_refused : (text : List ℕ) (old new : List Token) (start at : ℕ) (left piece : List ℕ) (mode : Mode) (rest after : List ℕ) (c : ℕ) (fault : Fault)
    → IsRead text (lexemes_of old) start at left mode rest → rest ≡ encode_utf8 c ++ after → turns.Ends ≡ goes_on mode at c
    → piece ≡ take (at - start) left → Adds (ends mode start (length piece)) start piece old (Ok tt) new → Err fault ≡ begins at c
    → lexed_characters (chars text) ≡ Err fault
begin_refused text old new start at left piece mode rest after c fault read e stops is adds begun_so = behind_piece text old new start at left piece mode rest after c (Err fault) read e stops is adds begun_so

pub end_refused : (text : List ℕ) (old new : List Token) (start at : ℕ) (left piece : List ℕ) (mode : Mode) (rest after : List ℕ) (c : ℕ) (stop : Stop)
    → IsRead text (lexemes_of old) start at left mode rest → rest ≡ encode_utf8 c ++ after → turns.Ends ≡ goes_on mode at c
    → piece ≡ take (at - start) left → Adds (ends mode start (length piece)) start piece old (Err stop) new
    → Gives (lexed_characters (chars text)) (Err stop)
end_refused text old new start at left piece mode rest after c (stops.Fault fault) read e over is adds =
    ended_read text (lexemes_of old) start at left piece mode rest after c read e over is ∙ ap (λ o. before (lexemes_of old) (ended o start piece (from_there at c (chars after)))) adds
end_refused text old new start at left piece mode rest after c stops.OutOfMemory read e over is adds = tt

pub last_refused : (text : List ℕ) (old new : List Token) (start at : ℕ) (left : List ℕ) (mode : Mode) (rest : List ℕ) (stop : Stop)
    → IsRead text (lexemes_of old) start at left mode rest → length rest ≡ 0 → Adds (ends mode start (length left)) start left old (Err stop) new
    → Gives (lexed_characters (chars text)) (Err stop)
last_refused text old new start at left mode rest (stops.Fault fault) read e adds =
    at_end text (lexemes_of old) start at left mode rest read e ∙ ap (λ o. before (lexemes_of old) (ended o start left (Ok []))) adds
last_refused text old new start at left mode rest stops.OutOfMemory read e adds = tt

pub whole_read : (text : List ℕ) (old new : List Token) (start at : ℕ) (left : List ℕ) (mode : Mode) (rest : List ℕ)
    → IsRead text (lexemes_of old) start at left mode rest → length rest ≡ 0 → Adds (ends mode start (length left)) start left old (Ok tt) new
    → lexed_characters (chars text) ≡ Ok (lexemes_of new)
whole_read text old new start at left mode rest read e (kind, ended_so, added) =
    at_end text (lexemes_of old) start at left mode rest read e ∙ ap (λ o. before (lexemes_of old) (ended o start left (Ok []))) ended_so
    ∙ ap (λ t. Ok (lexemes_of old ++ t)) (append-nil (piece_of kind start left)) ∙ ap Ok (sym added)
