-- What the reading of a text gives is what the relations say.
use Rattle.std.proofs.Common.{rules, ◌≡◌, ℕ, ◌+◌, ◌≤◌, Option, Some, None, Ok, Err, List, [], ◌∷◌, ◌++◌, length, refl, sym, ◌∙◌, ap, subst, arith, append_assoc, append-nil}
use Rattle.std.specs.Prelude.{Result, nat_le}
use Rattle.std.specs.Char.{encode_utf8}
use Rattle.std.specs.Str.{encode_utf8_all}
use Rattle.std.proofs.lemmas.Bool.{cond_both, leb-true, leb-false}
use Rattle.xdg_base.specs.Faults.{fault_at}
use Rattle.xdg_base.specs.declared.faults.Fault.{Fault}
use Rattle.xdg_base.specs.declared.faults.Cause.TheVariants as causes
use Rattle.xdg_ast.specs.declared.token.Kind.{Kind}
use Rattle.xdg_ast.specs.declared.token.Kind.TheVariants as kinds
use Rattle.xdg_lex.specs.declared.pieces.Mode.{Mode}
use Rattle.xdg_lex.specs.declared.pieces.Mode.TheVariants as in_
use Rattle.xdg_lex.specs.declared.pieces.Turn.{Turn}
use Rattle.xdg_lex.specs.declared.pieces.Turn.TheVariants as turns
use Rattle.xdg_ast.specs.Kinds.{refined}
use Rattle.xdg_lex.specs.Pieces.{goes_on, begins, ends, ends_quoted, escaped_rightly, too_long, inside}
use Rattle.xdg_lex.specs.Lexed.{Lexed, run, lexed_characters, before, ended, begun, turned}
use Rattle.xdg_ast.specs.Lexemes.{lexeme}
use Rattle.xdg_ast.specs.Tokenizes.{size_of, HasNoClose, IsGap, IsInside, IsToken, name, number, quoted, sign, Tokenizes, finished, last_comment, gap, token}
use Rattle.xdg_lex.specs.Offends.{IsOffence, no_comment, open_text, open_escape, open_comment, long_name, long_text, stray_backslash, Offends, here, past_gap, past_token}
use Rattle.xdg_lex.proofs.Pending.{Pending, at_start, in_gap, in_name, in_number, in_quoted, in_escape, in_closed, in_sign, in_line, in_slash, in_comment, in_star, EndsBefore, Turns, turns_rightly, Begins, begins_rightly}
use Rattle.xdg_lex.proofs.Signs.{sign_refined}
use Rattle.xdg_facts.proofs.Encoded.{encode_more}

-- the tokens of characters that begin at a place, or their first offence
abbrev pub Tells : ℕ → List ℕ → Lexed → Type 0
Tells at cs (Ok tokens) = Tokenizes 127 at cs tokens
Tells at cs (Err fault) = Offends at cs fault

token_tells : (at : ℕ) (kind : Kind) (piece : List ℕ) (content : ℕ) (behind : List ℕ) (rest : Lexed) → IsToken at kind piece content behind → content ≤ 127 → Tells (at + size_of piece) behind rest
    → Tells at (piece ++ behind) (before (lexeme kind at (encode_utf8_all piece) ∷ []) rest)
token_tells at kind piece content behind (Ok tokens) is short tells = token at kind piece content behind tokens is short tells
token_tells at kind piece content behind (Err fault) is short tells = past_token at kind piece content behind fault is short tells

gap_tells : (at : ℕ) (piece behind : List ℕ) (rest : Lexed) → IsGap piece → Tells (at + size_of piece) behind rest → Tells at (piece ++ behind) (before [] rest)
gap_tells at piece behind (Ok tokens) is tells = gap at piece behind tokens is tells
gap_tells at piece behind (Err fault) is tells = past_gap at piece behind fault is tells

nothing_tells : (at : ℕ) (behind : List ℕ) (rest : Lexed) → Tells (at + 0) behind rest → Tells at behind (before [] rest)
nothing_tells at behind (Ok tokens) tells = subst (λ p. Tokenizes 127 p behind tokens) (omega arith) tells
nothing_tells at behind (Err fault) tells = subst (λ p. Offends p behind fault) (omega arith) tells

-- what is told of a piece that ends
abbrev Closes : ℕ → List ℕ → List ℕ → Lexed → Result (Option Kind) Fault → Type 0
Closes start piece behind rest outcome = Tells start (piece ++ behind) (ended outcome start (encode_utf8_all piece) rest)

quoted_ends : (start : ℕ) (cs : List ℕ) (content : ℕ) (wrong : Option ℕ) (behind : List ℕ) (rest : Lexed) → content ≤ 127 → IsInside (start + 1) cs content wrong → Tells (start + size_of (34 ∷ cs ++ 34 ∷ [])) behind rest
    → Closes start (34 ∷ cs ++ 34 ∷ []) behind rest (escaped_rightly wrong)
quoted_ends start cs content None behind rest short is tells = token_tells start kinds.Quoted (34 ∷ cs ++ 34 ∷ []) content behind rest (quoted cs content behind is) short tells
quoted_ends start cs content (Some backslash) behind rest short is tells = here start ((34 ∷ cs ++ 34 ∷ []) ++ behind) (fault_at causes.BadChar backslash) (stray_backslash cs content backslash behind is short)

closed_ends : (start : ℕ) (cs : List ℕ) (content : ℕ) (wrong : Option ℕ) (behind : List ℕ) (rest : Lexed) → IsInside (start + 1) cs content wrong → Tells (start + size_of (34 ∷ cs ++ 34 ∷ [])) behind rest
    → Closes start (34 ∷ cs ++ 34 ∷ []) behind rest (ends_quoted start (inside content wrong))
unfolding ends_quoted
closed_ends start cs content wrong behind rest is tells =
    cond_both (nat_le content 127) (escaped_rightly wrong) (Err (too_long start content)) (Closes start (34 ∷ cs ++ 34 ∷ []) behind rest)
    (λ t. quoted_ends start cs content wrong behind rest (leb-true content 127 t) is tells)
    (λ f. here start ((34 ∷ cs ++ 34 ∷ []) ++ behind) (too_long start content) (long_text cs content wrong behind is (leb-false content 127 f)))

-- an offence that all characters up to the end are
to_the_end : (start : ℕ) (piece behind : List ℕ) (fault : Fault) → behind ≡ [] → IsOffence start piece fault → Offends start (piece ++ behind) fault
to_the_end start piece behind fault none is = here start (piece ++ behind) fault (subst (λ l. IsOffence start l fault) (sym (ap (λ b. piece ++ b) none ∙ append-nil piece)) is)

pub ends_rightly : (start : ℕ) (mode : Mode) (piece behind : List ℕ) (rest : Lexed) → Pending start mode piece → EndsBefore mode behind → (behind ≡ [] → rest ≡ Ok []) → Tells (start + size_of piece) behind rest
    → Closes start piece behind rest (ends mode start (size_of piece))
unfolding ends
ends_rightly start mode piece behind rest at_start stops last tells = nothing_tells start behind rest tells
ends_rightly start mode piece behind rest (in_gap space is) stops last tells = gap_tells start piece behind rest is tells
ends_rightly start mode piece behind rest (in_name c body b each) stops last tells =
    cond_both (nat_le (size_of (c ∷ body)) 127) (Ok (Some kinds.Name)) (Err (too_long start (size_of (c ∷ body)))) (Closes start (c ∷ body) behind rest)
    (λ t. token_tells start (refined kinds.Name (encode_utf8_all (c ∷ body))) (c ∷ body) (size_of (c ∷ body)) behind rest (name c body behind b each stops) (leb-true (size_of (c ∷ body)) 127 t) tells)
    (λ f. here start ((c ∷ body) ++ behind) (too_long start (size_of (c ∷ body))) (long_name c body behind b each stops (leb-false (size_of (c ∷ body)) 127 f)))
ends_rightly start mode piece behind rest (in_number c body b each small) stops last tells =
    token_tells start kinds.Number (c ∷ body) 0 behind rest (number c body behind b each stops small) (omega arith) tells
ends_rightly start mode piece behind rest (in_quoted cs content wrong is) stops last tells = to_the_end start (34 ∷ cs) behind _ stops (open_text cs content wrong is)
ends_rightly start mode piece behind rest (in_escape cs content wrong is) stops last tells = to_the_end start (34 ∷ cs ++ 92 ∷ []) behind _ stops (open_escape cs content wrong is)
ends_rightly start mode piece behind rest (in_closed cs content wrong is) stops last tells = closed_ends start cs content wrong behind rest is tells
ends_rightly start mode piece behind rest (in_sign c kind is) stops last tells =
    subst (λ k. Tells start (c ∷ behind) (before (lexeme k start (encode_utf8_all (c ∷ [])) ∷ []) rest)) (sym (sign_refined c kind (encode_utf8_all (c ∷ [])) is))
    (token_tells start kind (c ∷ []) 0 behind rest (sign c kind behind is) (omega arith) tells)
ends_rightly start mode piece behind rest (in_line body each) stops last tells =
    subst (λ r. Tells start ((37 ∷ body) ++ behind) (before [] r)) (sym (last stops))
    (subst (λ l. Tokenizes 127 start l []) (sym (ap (λ b. (37 ∷ body) ++ b) stops ∙ append-nil (37 ∷ body))) (last_comment start body each))
ends_rightly start mode piece behind rest in_slash stops last tells = here start (47 ∷ behind) _ (no_comment behind stops)
ends_rightly start mode piece behind rest (in_comment body well) stops last tells = to_the_end start (47 ∷ 42 ∷ body) behind _ stops (open_comment body (subst HasNoClose (append-nil body) (well [] tt)))
ends_rightly start mode piece behind rest (in_star body well) stops last tells = to_the_end start (47 ∷ 42 ∷ body ++ 42 ∷ []) behind _ stops (open_comment (body ++ 42 ∷ []) (well [] ((λ _. tt), tt)))

-- nothing is behind the last piece
ends_at_end : (mode : Mode) → EndsBefore mode []
ends_at_end in_.Between = tt
ends_at_end mode = search rules

abbrev Sound : List ℕ → Type 0
Sound cs = (start : ℕ) (mode : Mode) (piece : List ℕ) → Pending start mode piece → Tells start (piece ++ cs) (run start (encode_utf8_all piece) mode cs)

begun_sound : (at c : ℕ) (cs : List ℕ) → Sound cs → (outcome : Result Mode Fault) → Begins at c cs outcome → Tells at (c ∷ cs) (begun outcome (λ next. run at (encode_utf8 c) next cs))
begun_sound at c cs sound (Ok next) is = subst (λ l. Tells at (c ∷ cs) (run at l next cs)) (append-nil (encode_utf8 c)) (sound at next (c ∷ []) is)
begun_sound at c cs sound (Err fault) is = here at (c ∷ cs) fault is

turned_sound : (start : ℕ) (mode : Mode) (piece : List ℕ) (c : ℕ) (cs : List ℕ) → Sound cs → Pending start mode piece → (turn : Turn) → Turns start mode piece c cs turn
    → Tells start (piece ++ c ∷ cs) (turned turn (λ next. run start (encode_utf8_all piece ++ encode_utf8 c) next cs)
    (ended (ends mode start (size_of piece)) start (encode_utf8_all piece) (begun (begins (start + size_of piece) c) (λ next. run (start + size_of piece) (encode_utf8 c) next cs))))
turned_sound start mode piece c cs sound pending (turns.GoesOn next) is =
    subst (λ l. Tells start l (run start (encode_utf8_all piece ++ encode_utf8 c) next cs)) (append_assoc piece (c ∷ []) cs)
    (subst (λ t. Tells start ((piece ++ c ∷ []) ++ cs) (run start t next cs)) (encode_more piece c) (sound start next (piece ++ c ∷ []) is))
turned_sound start mode piece c cs sound pending turns.Ends is =
    ends_rightly start mode piece (c ∷ cs) (begun (begins (start + size_of piece) c) (λ next. run (start + size_of piece) (encode_utf8 c) next cs)) pending is (λ none. absurd (omega (arith, ap length none)))
    (begun_sound (start + size_of piece) c cs sound (begins (start + size_of piece) c) (begins_rightly (start + size_of piece) c cs))
turned_sound start mode piece c cs sound pending (turns.Refused fault) is = here start (piece ++ c ∷ cs) fault is

pub sound : (cs : List ℕ) → Sound cs
unfolding run
sound [] start mode piece pending = ends_rightly start mode piece [] (Ok []) pending (ends_at_end mode) (λ _. refl) (finished (start + size_of piece))
sound (c ∷ cs) start mode piece pending = turned_sound start mode piece c cs (sound cs) pending (goes_on mode (start + size_of piece) c) (turns_rightly start mode piece (start + size_of piece) c cs refl pending)

pub lexed_tells : (cs : List ℕ) → Tells 0 cs (lexed_characters cs)
lexed_tells cs = sound cs 0 in_.Between [] at_start
