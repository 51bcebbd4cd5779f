-- What the reading of a text keeps, from one character to the next.
use Rattle.std.proofs.Common.{◌≡◌, ℕ, ◌+◌, ◌-◌, ◌≤◌, List, [], ◌∷◌, ◌++◌, Ok, Err, length, take, drop, refl, sym, ◌∙◌, ap, subst, arith, append_assoc, append-nil, length-append}
use Rattle.std.specs.Char.{encode_utf8, len_utf8}
use Rattle.std.specs.Str.{chars, IsUtf8, IsCharBoundary}
use Rattle.std.proofs.lemmas.Str.{chars-nil, chars_past_char, IsUtf8-past_char, length-encode, IsCharBoundary-at_seam}
use Rattle.std.proofs.Math.Seq.{drop-append_seam, take-append_seam}
use Rattle.xdg_base.specs.declared.faults.Fault.{Fault}
use Rattle.xdg_lex.specs.declared.pieces.Mode.{Mode}
use Rattle.xdg_lex.specs.declared.pieces.Turn.{Turn}
use Rattle.xdg_lex.specs.declared.pieces.Turn.TheVariants as turns
use Rattle.xdg_lex.specs.Pieces.{goes_on, begins, ends, counted, counted_after}
use Rattle.xdg_lex.specs.Lexed.{Lexed, run, lexed_characters, before, ended, begun, turned}
use Rattle.xdg_ast.specs.Lexemes.{Lexeme}
use Rattle.xdg_lex.proofs.Counts.{goes_on_within}

pub before_twice : (first second : List Lexeme) (rest : Lexed) → before first (before second rest) ≡ before (first ++ second) rest
before_twice first second (Ok more) = ap Ok (sym (append_assoc first second more))
before_twice first second (Err fault) = refl

pub run-nil : (start : ℕ) (text : List ℕ) (mode : Mode) → run start text mode [] ≡ ended (ends mode start (length text)) start text (Ok [])
unfolding run
run-nil start text mode = refl

-- what is read from a character on that a piece begins with
abbrev pub from_there : ℕ → ℕ → List ℕ → Lexed
from_there at c cs = begun (begins at c) (λ next. run at (encode_utf8 c) next cs)

-- what the next character does
pub step : (start : ℕ) (text : List ℕ) (mode : Mode) (at c : ℕ) (cs : List ℕ) (turn : Turn) → at ≡ start + length text → goes_on mode at c ≡ turn
    → run start text mode (c ∷ cs) ≡ turned turn (λ next. run start (text ++ encode_utf8 c) next cs)
    (ended (ends mode start (length text)) start text (from_there at c cs))
unfolding run
step start text mode at c cs turn place goes = rw (← goes, place) refl

-- The tokens of a text are those that are done and those that a piece, at a place, makes with the rest of the text.
pub record IsRead (text : List ℕ) (done : List Lexeme) (start at : ℕ) (left : List ℕ) (mode : Mode) (rest : List ℕ) : Type 0 where
  pub piece : List ℕ
  pub utf8 : IsUtf8 rest
  pub left_utf8 : IsUtf8 left
  pub size : at + length rest ≡ length text
  pub place : at ≡ start + length piece
  pub parts : left ≡ piece ++ rest
  pub count : counted mode ≤ at
  pub reads : before done (run start piece mode (chars rest)) ≡ lexed_characters (chars text)

pub before_none : (all : Lexed) → before [] all ≡ all
before_none (Ok all) = refl
before_none (Err fault) = refl

-- where a piece is to be cut off
pub cut : (text : List ℕ) (done : List Lexeme) (start at : ℕ) (left : List ℕ) (mode : Mode) (rest : List ℕ) → IsRead text done start at left mode rest → IsCharBoundary left (at - start)
cut text done start at left mode rest read =
    subst (λ n. IsCharBoundary left n) (omega (arith, read.place)) (IsCharBoundary-at_seam left read.piece rest read.parts read.utf8)

piece_is : (text : List ℕ) (done : List Lexeme) (start at : ℕ) (left : List ℕ) (mode : Mode) (rest : List ℕ) (read : IsRead text done start at left mode rest) → take (at - start) left ≡ read.piece
piece_is text done start at left mode rest read =
    let size : at - start ≡ length read.piece = omega (arith, read.place) in
    ap (λ n. take n left) size ∙ ap (λ l. take (length read.piece) l) read.parts ∙ take-append_seam read.piece rest

pub rest_is : (text : List ℕ) (done : List Lexeme) (start at : ℕ) (left : List ℕ) (mode : Mode) (rest : List ℕ) → IsRead text done start at left mode rest → drop (at - start) left ≡ rest
rest_is text done start at left mode rest read =
    let size : at - start ≡ length read.piece = omega (arith, read.place) in
    ap (λ n. drop n left) size ∙ ap (λ l. drop (length read.piece) l) read.parts ∙ drop-append_seam read.piece rest

-- what the next character does to all that was read
turned_read : (text : List ℕ) (done : List Lexeme) (start at : ℕ) (left : List ℕ) (mode : Mode) (rest after : List ℕ) (c : ℕ) (turn : Turn) (read : IsRead text done start at left mode rest)
    → rest ≡ encode_utf8 c ++ after → goes_on mode at c ≡ turn
    → lexed_characters (chars text) ≡ before done (turned turn (λ next. run start (read.piece ++ encode_utf8 c) next (chars after)) (ended (ends mode start (length read.piece)) start read.piece (from_there at c (chars after))))
turned_read text done start at left mode rest after c turn read e goes =
    sym read.reads ∙ ap (before done) (ap (run start read.piece mode) (chars_past_char rest after c read.utf8 e) ∙ step start read.piece mode at c (chars after) turn read.place goes)

pub more_read : (text : List ℕ) (done : List Lexeme) (start at : ℕ) (left : List ℕ) (mode next : Mode) (rest after : List ℕ) (c : ℕ)
    → IsRead text done start at left mode rest → rest ≡ encode_utf8 c ++ after → goes_on mode at c ≡ turns.GoesOn next
    → IsRead text done start (at + len_utf8 c) left next after
more_read text done start at left mode next rest after c read e goes =
    let size : length rest ≡ len_utf8 c + length after = omega (arith, ap length e, length-append (encode_utf8 c) after, length-encode c) in
    record {
      piece = read.piece ++ encode_utf8 c;
      utf8 = IsUtf8-past_char rest after c read.utf8 e;
      left_utf8 = read.left_utf8;
      size = omega (arith, read.size, size);
      place = omega (arith, read.place, length-append read.piece (encode_utf8 c), length-encode c);
      parts = read.parts ∙ ap (λ r. read.piece ++ r) e ∙ sym (append_assoc read.piece (encode_utf8 c) after);
      count = subst (λ t. counted_after t ≤ at + len_utf8 c) goes (goes_on_within mode at c read.count);
      reads = sym (turned_read text done start at left mode rest after c (turns.GoesOn next) read e goes);
    }

pub refused_on : (text : List ℕ) (done : List Lexeme) (start at : ℕ) (left : List ℕ) (mode : Mode) (rest after : List ℕ) (c : ℕ) (fault : Fault)
    → IsRead text done start at left mode rest → rest ≡ encode_utf8 c ++ after → goes_on mode at c ≡ turns.Refused fault
    → lexed_characters (chars text) ≡ Err fault
refused_on text done start at left mode rest after c fault read e stops = turned_read text done start at left mode rest after c (turns.Refused fault) read e stops

-- a piece that is cut off, and what is behind it
pub ended_read : (text : List ℕ) (done : List Lexeme) (start at : ℕ) (left piece : List ℕ) (mode : Mode) (rest after : List ℕ) (c : ℕ) → IsRead text done start at left mode rest → rest ≡ encode_utf8 c ++ after
    → turns.Ends ≡ goes_on mode at c → piece ≡ take (at - start) left
    → lexed_characters (chars text) ≡ before done (ended (ends mode start (length piece)) start piece (from_there at c (chars after)))
ended_read text done start at left piece mode rest after c read e stops is =
    subst (λ p. lexed_characters (chars text) ≡ before done (ended (ends mode start (length p)) start p (from_there at c (chars after)))) (sym (is ∙ piece_is text done start at left mode rest read))
    (turned_read text done start at left mode rest after c turns.Ends read e (sym stops))

-- the end of the text
pub at_end : (text : List ℕ) (done : List Lexeme) (start at : ℕ) (left : List ℕ) (mode : Mode) (rest : List ℕ) → IsRead text done start at left mode rest → length rest ≡ 0
    → lexed_characters (chars text) ≡ before done (ended (ends mode start (length left)) start left (Ok []))
at_end text done start at left mode [] read e =
    sym read.reads
    ∙ ap (λ cs. before done (run start read.piece mode cs)) chars-nil
    ∙ ap (before done) (run-nil start read.piece mode)
    ∙ ap (λ p. before done (ended (ends mode start (length p)) start p (Ok []))) (sym (read.parts ∙ append-nil read.piece))
at_end text done start at left mode (byte ∷ bytes) read e = absurd (omega arith)
