-- What the relations say of a text, the reading of it gives.
use Rattle.std.proofs.Common.{◌≡◌, ℕ, ◌+◌, ◌-◌, ◌<◌, ◌≤◌, ◌==◌, true, false, Option, Some, None, Ok, Err, List, [], ◌∷◌, ◌++◌, length, refl, sym, ◌∙◌, ap, subst, arith, append_assoc, append-nil, length-append}
use Rattle.std.specs.Prelude.{nat_le}
use Rattle.std.specs.Char.{is_ascii_digit, encode_utf8}
use Rattle.std.specs.Str.{encode_utf8_all}
use Rattle.std.proofs.lemmas.Bool.{cond-true, cond-false, le-leb, lt-leb, false≢true}
use Rattle.std.proofs.lemmas.Str.{length-encode}
use Rattle.xdg_base.specs.Faults.{fault_at}
use Rattle.xdg_base.specs.declared.faults.Fault.{Fault}
use Rattle.xdg_base.specs.declared.faults.Cause.TheVariants as causes
use Rattle.xdg_ast.specs.declared.token.Kind.{Kind}
use Rattle.xdg_ast.specs.declared.token.Kind.TheVariants as kinds
use Rattle.xdg_lex.specs.declared.pieces.Mode.{Mode}
use Rattle.xdg_lex.specs.declared.pieces.Mode.TheVariants as in_
use Rattle.xdg_lex.specs.declared.pieces.Turn.TheVariants as turns
use Rattle.xdg_base.specs.Spelling.{begins_name, continues_name}
use Rattle.xdg_lex.specs.Pieces.{goes_on, digit_goes_on, quoted_goes_on, begins, ends, ends_quoted, escaped_rightly, too_long, inside}
use Rattle.xdg_lex.specs.Lexed.{Lexed, run, before, ended}
use Rattle.xdg_ast.specs.Lexemes.{Lexeme, lexeme}
use Rattle.xdg_ast.specs.Tokenizes.{size_of, EachPasses, StopsBefore, IsGap, white, line, closed, IsInside, IsToken, name, number, quoted, sign, Tokenizes, finished, last_comment, gap, token, value_after, greatest_number, is_no_line_feed}
use Rattle.xdg_lex.specs.Offends.{IsOffence, no_token, no_comment, great_number, open_text, open_escape, open_comment, long_name, long_text, stray_backslash, Offends, here, past_gap, past_token}
use Rattle.xdg_lex.proofs.Steps.{step}
use Rattle.xdg_lex.proofs.Signs.{begins_sign, sign_refined}
use Rattle.xdg_lex.proofs.Begins.{begins_white, begins_named, begins_number, begins_nothing}
use Rattle.xdg_lex.proofs.Loops.{Reads, goes_step, between_step, between_end, passes, fails, each_goes, name_goes, line_goes, digit_fails, number_goes, close_goes, open_goes, inside_goes}
use Rattle.xdg_facts.proofs.Encoded.{encode_behind}

-- a piece that begins
start_step : (start : ℕ) (text : List ℕ) (at c : ℕ) (cs : List ℕ) (mode : Mode) → start + length text ≡ at → begins at c ≡ Ok mode → run start text in_.Between (c ∷ cs) ≡ run at (encode_utf8 c) mode cs
start_step start text at c cs mode place is = between_step start text at c cs (Ok mode) (sym place) is

size_one : (c : ℕ) → size_of (c ∷ []) ≡ length (encode_utf8 c)
size_one c = ap length (append-nil (encode_utf8 c))

gap_reads : (at : ℕ) (piece behind : List ℕ) (all : Lexed) → IsGap piece → Reads (at + size_of piece) behind all → Reads at (piece ++ behind) all
unfolding begins goes_on
gap_reads at piece behind all (white c w) reads start text place =
    start_step start text at c behind in_.Between place (begins_white at c w) ∙ reads at (encode_utf8 c) (ap (λ n. at + n) (sym (size_one c)))
gap_reads at piece behind all (line body each) reads start text place =
    start_step start text at 37 ((body ++ 10 ∷ []) ++ behind) in_.LineComment place refl
    ∙ ap (run at (encode_utf8 37) in_.LineComment) (append_assoc body (10 ∷ []) behind)
    ∙ each_goes in_.LineComment is_no_line_feed line_goes at (encode_utf8 37) body (10 ∷ behind) each
    ∙ goes_step at (encode_utf8 37 ++ encode_utf8_all body) in_.LineComment in_.Between 10 behind refl
    ∙ reads at ((encode_utf8 37 ++ encode_utf8_all body) ++ encode_utf8 10) (ap (λ l. at + length l) (encode_behind (encode_utf8 37) body 10))
gap_reads at piece behind all (closed body none) reads start text place =
    start_step start text at 47 ((42 ∷ body ++ 42 ∷ 47 ∷ []) ++ behind) in_.Slash place refl
    ∙ goes_step at (encode_utf8 47) in_.Slash in_.Comment 42 ((body ++ 42 ∷ 47 ∷ []) ++ behind) refl
    ∙ ap (run at (encode_utf8 47 ++ encode_utf8 42) in_.Comment) (append_assoc body (42 ∷ 47 ∷ []) behind)
    ∙ close_goes false at (at + size_of (47 ∷ 42 ∷ body ++ 42 ∷ 47 ∷ [])) (encode_utf8 47 ++ encode_utf8 42) body behind all (λ e. absurd (false≢true e)) none
    (omega (arith, length-append (encode_utf8 47) (encode_utf8 42), length-append (encode_utf8 47) (encode_utf8_all (42 ∷ body ++ 42 ∷ 47 ∷ [])), length-append (encode_utf8 42) (encode_utf8_all (body ++ 42 ∷ 47 ∷ [])))) reads

name_ends : (start bytes : ℕ) → bytes ≤ 127 → ends in_.Name start bytes ≡ Ok (Some kinds.Name)
unfolding ends
name_ends start bytes short = cond-true (nat_le bytes 127) _ _ (le-leb bytes 127 short)

name_ends_long : (start bytes : ℕ) → 127 < bytes → ends in_.Name start bytes ≡ Err (too_long start bytes)
unfolding ends
name_ends_long start bytes long = cond-false (nat_le bytes 127) _ _ (lt-leb bytes 127 long)

closed_ends : (start bytes content : ℕ) (wrong : Option ℕ) → content ≤ 127 → ends (in_.Closed (inside content wrong)) start bytes ≡ escaped_rightly wrong
unfolding ends ends_quoted
closed_ends start bytes content wrong short = cond-true (nat_le content 127) _ _ (le-leb content 127 short)

closed_ends_long : (start bytes content : ℕ) (wrong : Option ℕ) → 127 < content → ends (in_.Closed (inside content wrong)) start bytes ≡ Err (too_long start content)
unfolding ends ends_quoted
closed_ends_long start bytes content wrong long = cond-false (nat_le content 127) _ _ (lt-leb content 127 long)

-- the reading of a name, a number, and a quoted text up to what is behind it
name_read : (start : ℕ) (text : List ℕ) (at c : ℕ) (body behind : List ℕ) → start + length text ≡ at → begins_name c ≡ true → EachPasses continues_name body
    → run start text in_.Between (c ∷ body ++ behind) ≡ run at (encode_utf8_all (c ∷ body)) in_.Name behind
name_read start text at c body behind place b each =
    start_step start text at c (body ++ behind) in_.Name place (begins_named at c b) ∙ each_goes in_.Name continues_name name_goes at (encode_utf8 c) body behind each

number_read : (start : ℕ) (text : List ℕ) (at c : ℕ) (body behind : List ℕ) → start + length text ≡ at → is_ascii_digit c ≡ true → EachPasses is_ascii_digit body → value_after (c - 48) body ≤ greatest_number
    → run start text in_.Between (c ∷ body ++ behind) ≡ run at (encode_utf8_all (c ∷ body)) (in_.Number (value_after (c - 48) body)) behind
number_read start text at c body behind place b each small =
    start_step start text at c (body ++ behind) (in_.Number (c - 48)) place (begins_number at c b) ∙ number_goes (c - 48) at (encode_utf8 c) body behind each small

inside_read : (start : ℕ) (text : List ℕ) (at : ℕ) (cs : List ℕ) (content : ℕ) (wrong : Option ℕ) (behind : List ℕ) → start + length text ≡ at → IsInside (at + 1) cs content wrong
    → run start text in_.Between (34 ∷ cs ++ behind) ≡ run at (encode_utf8_all (34 ∷ cs)) (in_.Quoted (inside content wrong)) behind
unfolding begins
inside_read start text at cs content wrong behind place is =
    let one : length (encode_utf8 34) ≡ 1 = length-encode 34 in
    start_step start text at 34 (cs ++ behind) (in_.Quoted (inside 0 None)) place refl
    ∙ inside_goes (at + 1) at (encode_utf8 34) cs content wrong behind is (ap (λ n. at + n) one)

closed_read : (start : ℕ) (text : List ℕ) (at : ℕ) (cs : List ℕ) (content : ℕ) (wrong : Option ℕ) (behind : List ℕ) → start + length text ≡ at → IsInside (at + 1) cs content wrong
    → run start text in_.Between ((34 ∷ cs ++ 34 ∷ []) ++ behind) ≡ run at (encode_utf8_all (34 ∷ cs ++ 34 ∷ [])) (in_.Closed (inside content wrong)) behind
unfolding goes_on quoted_goes_on
closed_read start text at cs content wrong behind place is =
    ap (λ l. run start text in_.Between (34 ∷ l)) (append_assoc cs (34 ∷ []) behind)
    ∙ inside_read start text at cs content wrong (34 ∷ behind) place is
    ∙ goes_step at (encode_utf8_all (34 ∷ cs)) _ _ 34 behind refl
    ∙ ap (λ t. run at t (in_.Closed (inside content wrong)) behind) (encode_behind (encode_utf8 34) cs 34)

token_reads : (at : ℕ) (kind : Kind) (piece : List ℕ) (content : ℕ) (behind : List ℕ) (all : Lexed) → IsToken at kind piece content behind → content ≤ 127 → Reads (at + size_of piece) behind all
    → Reads at (piece ++ behind) (before (lexeme kind at (encode_utf8_all piece) ∷ []) all)
unfolding goes_on digit_goes_on ends
token_reads at kind piece content behind all (name c body after b each stops) short reads start text place =
    name_read start text at c body behind place b each
    ∙ passes at (encode_utf8_all (c ∷ body)) in_.Name behind all (λ d ds e. cond-false (continues_name d) _ _ (subst (StopsBefore continues_name) e stops)) reads
    ∙ ap (λ o. ended o at (encode_utf8_all (c ∷ body)) all) (name_ends at (size_of (c ∷ body)) short)
token_reads at kind piece content behind all (number c body after b each stops small) short reads start text place =
    number_read start text at c body behind place b each small
    ∙ passes at (encode_utf8_all (c ∷ body)) (in_.Number (value_after (c - 48) body)) behind all (λ d ds e. cond-false (is_ascii_digit d) _ _ (subst (StopsBefore is_ascii_digit) e stops)) reads
token_reads at kind piece content behind all (quoted cs bytes after is) short reads start text place =
    closed_read start text at cs content None behind place is
    ∙ passes at (encode_utf8_all (34 ∷ cs ++ 34 ∷ [])) (in_.Closed (inside content None)) behind all (λ _ _ _. refl) reads
    ∙ ap (λ o. ended o at (encode_utf8_all (34 ∷ cs ++ 34 ∷ [])) all) (closed_ends at (size_of (34 ∷ cs ++ 34 ∷ [])) content None short)
token_reads at kind piece content behind all (sign c k after is) short reads start text place =
    start_step start text at c behind (in_.Sign k) place (begins_sign at c k is)
    ∙ ap (λ t. run at t (in_.Sign k) behind) (sym (append-nil (encode_utf8 c)))
    ∙ passes at (encode_utf8_all (c ∷ [])) (in_.Sign k) behind all (λ _ _ _. refl) reads
    ∙ ap (λ r. before (lexeme r at (encode_utf8_all (c ∷ [])) ∷ []) all) (sign_refined c k (encode_utf8_all (c ∷ [])) is)

offence_reads : (at : ℕ) (cs : List ℕ) (fault : Fault) → IsOffence at cs fault → Reads at cs (Err fault)
unfolding begins goes_on quoted_goes_on ends
offence_reads at cs fault (no_token c behind s nothing) start text place =
    between_step start text at c behind _ (sym place) (begins_nothing at c s nothing)
offence_reads at cs fault (no_comment behind stops) start text place =
    start_step start text at 47 behind in_.Slash place refl
    ∙ fails at (encode_utf8 47) in_.Slash behind (fault_at causes.BadChar at) (λ d ds e. cond-false (d == 42) _ _ (subst (StopsBefore (λ n. n == 42)) e stops)) refl
offence_reads at cs fault (great_number c body digit behind b each d small great) start text place =
    let last : ℕ = at + size_of (c ∷ body) in
    number_read start text at c body (digit ∷ behind) place b each small
    ∙ step at (encode_utf8_all (c ∷ body)) (in_.Number (value_after (c - 48) body)) last digit behind (turns.Refused (fault_at causes.BadChar last)) refl (digit_fails (value_after (c - 48) body) last digit d great)
offence_reads at cs fault (open_text inner content wrong is) start text place =
    ap (λ l. run start text in_.Between (34 ∷ l)) (sym (append-nil inner))
    ∙ inside_read start text at inner content wrong [] place is
    ∙ fails at (encode_utf8_all (34 ∷ inner)) (in_.Quoted (inside content wrong)) [] (fault_at causes.OpenText at) (λ _ _ e. absurd cc) refl
offence_reads at cs fault (open_escape inner content wrong is) start text place =
    inside_read start text at inner content wrong (92 ∷ []) place is
    ∙ goes_step at (encode_utf8_all (34 ∷ inner)) _ _ 92 [] refl
    ∙ fails at (encode_utf8_all (34 ∷ inner) ++ encode_utf8 92) (in_.Escape (inside content wrong) (at + size_of (34 ∷ inner))) [] (fault_at causes.OpenText at) (λ _ _ e. absurd cc) refl
offence_reads at cs fault (open_comment body none) start text place =
    start_step start text at 47 (42 ∷ body) in_.Slash place refl
    ∙ goes_step at (encode_utf8 47) in_.Slash in_.Comment 42 body refl
    ∙ open_goes false at (encode_utf8 47 ++ encode_utf8 42) body (λ e. absurd (false≢true e)) none
offence_reads at cs fault (long_name c body behind b each stops long) start text place =
    name_read start text at c body behind place b each
    ∙ fails at (encode_utf8_all (c ∷ body)) in_.Name behind (too_long at (size_of (c ∷ body))) (λ d ds e. cond-false (continues_name d) _ _ (subst (StopsBefore continues_name) e stops)) (name_ends_long at (size_of (c ∷ body)) long)
offence_reads at cs fault (long_text inner content wrong behind is long) start text place =
    closed_read start text at inner content wrong behind place is
    ∙ fails at (encode_utf8_all (34 ∷ inner ++ 34 ∷ [])) (in_.Closed (inside content wrong)) behind (too_long at content) (λ _ _ _. refl)
    (closed_ends_long at (size_of (34 ∷ inner ++ 34 ∷ [])) content wrong long)
offence_reads at cs fault (stray_backslash inner content backslash behind is short) start text place =
    closed_read start text at inner content (Some backslash) behind place is
    ∙ fails at (encode_utf8_all (34 ∷ inner ++ 34 ∷ [])) (in_.Closed (inside content (Some backslash))) behind (fault_at causes.BadChar backslash) (λ _ _ _. refl)
    (closed_ends at (size_of (34 ∷ inner ++ 34 ∷ [])) content (Some backslash) short)

nothing_reads : (at : ℕ) → Reads at [] (Ok [])
nothing_reads at start text place = between_end start text

pub tokens_read : (at : ℕ) (cs : List ℕ) (tokens : List Lexeme) → Tokenizes 127 at cs tokens → Reads at cs (Ok tokens)
unfolding begins ends
tokens_read at cs tokens (finished place) = nothing_reads at
tokens_read at cs tokens (last_comment place body each) = λ start text here_is.
    start_step start text at 37 body in_.LineComment here_is refl
    ∙ ap (run at (encode_utf8 37) in_.LineComment) (sym (append-nil body))
    ∙ each_goes in_.LineComment is_no_line_feed line_goes at (encode_utf8 37) body [] each
    ∙ passes at (encode_utf8 37 ++ encode_utf8_all body) in_.LineComment [] (Ok []) (λ _ _ e. absurd cc) (nothing_reads (at + length (encode_utf8 37 ++ encode_utf8_all body)))
tokens_read at cs tokens (gap place piece behind more is rest) = gap_reads at piece behind (Ok tokens) is (tokens_read (at + size_of piece) behind tokens rest)
tokens_read at cs tokens (token place kind piece content behind more is short rest) =
    token_reads at kind piece content behind (Ok more) is short (tokens_read (at + size_of piece) behind more rest)

pub offences_read : (at : ℕ) (cs : List ℕ) (fault : Fault) → Offends at cs fault → Reads at cs (Err fault)
offences_read at cs fault (here place all why is) = offence_reads at cs fault is
offences_read at cs fault (past_gap place piece behind why is rest) = gap_reads at piece behind (Err fault) is (offences_read (at + size_of piece) behind fault rest)
offences_read at cs fault (past_token place kind piece content behind why is short rest) =
    token_reads at kind piece content behind (Err fault) is short (offences_read (at + size_of piece) behind fault rest)
