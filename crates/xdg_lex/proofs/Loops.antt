-- The reading of one piece, whatever is behind it.
use Rattle.std.proofs.Common.{◌≡◌, ℕ, ◌+◌, ◌-◌, ◌*◌, ◌<◌, ◌≤◌, ◌==◌, Bool, true, false, Option, Some, None, Ok, Err, List, [], ◌∷◌, ◌++◌, length, refl, sym, ◌∙◌, ap, arith, append_assoc, append-nil, length-append}
use Rattle.std.specs.Prelude.{Result, if◌then◌else◌, nat_le, unwrap_or}
use Rattle.std.specs.Char.{is_ascii_digit, len_utf8, encode_utf8}
use Rattle.std.specs.Str.{encode_utf8_all}
use Rattle.std.proofs.lemmas.Bool.{cond-true, cond-false, le-leb, lt-leb, or_parts}
use Rattle.xdg_base.specs.Faults.{fault_at}
use Rattle.xdg_base.specs.declared.faults.Fault.{Fault}
use Rattle.xdg_base.specs.declared.faults.Cause.TheVariants as causes
use Rattle.xdg_lex.specs.declared.pieces.Mode.{Mode}
use Rattle.xdg_lex.specs.declared.pieces.Mode.TheVariants as in_
use Rattle.xdg_lex.specs.declared.pieces.Turn.TheVariants as turns
use Rattle.xdg_base.specs.Spelling.{continues_name, is_escaped}
use Rattle.xdg_lex.specs.Pieces.{goes_on, digit_goes_on, quoted_goes_on, escape_goes_on, begins, ends, inside}
use Rattle.xdg_lex.specs.Lexed.{Lexed, run, ended, begun}
use Rattle.xdg_ast.specs.Tokenizes.{size_of, EachPasses, StopsBefore, HasNoClose, IsInside, nothing, plain, escaped, stray, value_after, greatest_number, is_slash, is_no_line_feed}
use Rattle.xdg_lex.proofs.Steps.{run-nil, from_there, step, before_none}
use Rattle.xdg_facts.proofs.Truths.{from_not}
use Rattle.xdg_facts.proofs.Encoded.{encode_behind, two_more}

-- what characters that begin at a place give
abbrev pub Reads : ℕ → List ℕ → Lexed → Type 0
Reads at cs all = (start : ℕ) (text : List ℕ) → start + length text ≡ at → run start text in_.Between cs ≡ all

pub goes_step : (start : ℕ) (text : List ℕ) (mode next : Mode) (c : ℕ) (cs : List ℕ) → goes_on mode (start + length text) c ≡ turns.GoesOn next → run start text mode (c ∷ cs) ≡ run start (text ++ encode_utf8 c) next cs
goes_step start text mode next c cs goes = step start text mode (start + length text) c cs (turns.GoesOn next) refl goes

pub between_step : (start : ℕ) (text : List ℕ) (at c : ℕ) (cs : List ℕ) (begun_as : Result Mode Fault) → at ≡ start + length text → begins at c ≡ begun_as
    → run start text in_.Between (c ∷ cs) ≡ begun begun_as (λ next. run at (encode_utf8 c) next cs)
unfolding goes_on ends
between_step start text at c cs begun_as place is = step start text in_.Between at c cs turns.Ends place refl ∙ before_none (from_there at c cs) ∙ ap (λ b. begun b (λ next. run at (encode_utf8 c) next cs)) is

pub between_end : (start : ℕ) (text : List ℕ) → run start text in_.Between [] ≡ Ok []
unfolding ends
between_end start text = run-nil start text in_.Between

-- a piece that the character behind it does not belong to
abbrev pub EndsAt : Mode → ℕ → List ℕ → Type 0
EndsAt mode at behind = (c : ℕ) (cs : List ℕ) → behind ≡ c ∷ cs → goes_on mode at c ≡ turns.Ends

pub passes : (start : ℕ) (text : List ℕ) (mode : Mode) (behind : List ℕ) (all : Lexed) → EndsAt mode (start + length text) behind → Reads (start + length text) behind all
    → run start text mode behind ≡ ended (ends mode start (length text)) start text all
passes start text mode [] all over reads =
    run-nil start text mode ∙ ap (ended (ends mode start (length text)) start text) (sym (between_end (start + length text) []) ∙ reads (start + length text) [] (omega arith))
passes start text mode (c ∷ cs) all over reads =
    step start text mode (start + length text) c cs turns.Ends refl (over c cs refl)
    ∙ ap (ended (ends mode start (length text)) start text) (sym (between_step (start + length text) [] (start + length text) c cs _ (omega arith) refl) ∙ reads (start + length text) [] (omega arith))

-- what ends wrongly, whatever is behind it
pub fails : (start : ℕ) (text : List ℕ) (mode : Mode) (behind : List ℕ) (fault : Fault) → EndsAt mode (start + length text) behind → ends mode start (length text) ≡ Err fault → run start text mode behind ≡ Err fault
fails start text mode [] fault over wrong = run-nil start text mode ∙ ap (λ o. ended o start text (Ok [])) wrong
fails start text mode (c ∷ cs) fault over wrong =
    step start text mode (start + length text) c cs turns.Ends refl (over c cs refl) ∙ ap (λ o. ended o start text (from_there (start + length text) c cs)) wrong

-- a piece that goes on alike with each character that passes a test
pub each_goes : (mode : Mode) (test : ℕ → Bool) → ((at c : ℕ) → test c ≡ true → goes_on mode at c ≡ turns.GoesOn mode)
    → (start : ℕ) (text body behind : List ℕ) → EachPasses test body → run start text mode (body ++ behind) ≡ run start (text ++ encode_utf8_all body) mode behind
each_goes mode test goes start text [] behind each = ap (λ t. run start t mode behind) (sym (append-nil text))
each_goes mode test goes start text (c ∷ body) behind each =
    goes_step start text mode mode c (body ++ behind) (goes (start + length text) c each.0)
    ∙ each_goes mode test goes start (text ++ encode_utf8 c) body behind each.1
    ∙ ap (λ t. run start t mode behind) (append_assoc text (encode_utf8 c) (encode_utf8_all body))

pub name_goes : (at c : ℕ) → continues_name c ≡ true → goes_on in_.Name at c ≡ turns.GoesOn in_.Name
unfolding goes_on
name_goes at c t = cond-true (continues_name c) _ _ t

pub line_goes : (at c : ℕ) → is_no_line_feed c ≡ true → goes_on in_.LineComment at c ≡ turns.GoesOn in_.LineComment
unfolding goes_on
line_goes at c t = ap turns.GoesOn (cond-false (c == 10) _ _ (from_not (c == 10) t))

digit_goes : (value at c : ℕ) → is_ascii_digit c ≡ true → value * 10 + (c - 48) ≤ greatest_number → goes_on (in_.Number value) at c ≡ turns.GoesOn (in_.Number (value * 10 + (c - 48)))
unfolding goes_on digit_goes_on
digit_goes value at c t small = cond-true (is_ascii_digit c) _ _ t ∙ cond-true (nat_le (value * 10 + (c - 48)) 4294967295) _ _ (le-leb (value * 10 + (c - 48)) 4294967295 small)

pub digit_fails : (value at c : ℕ) → is_ascii_digit c ≡ true → greatest_number < value * 10 + (c - 48) → goes_on (in_.Number value) at c ≡ turns.Refused (fault_at causes.BadChar at)
unfolding goes_on digit_goes_on
digit_fails value at c t great = cond-true (is_ascii_digit c) _ _ t ∙ cond-false (nat_le (value * 10 + (c - 48)) 4294967295) _ _ (lt-leb (value * 10 + (c - 48)) 4294967295 great)

value_grows : (value : ℕ) (cs : List ℕ) → value ≤ value_after value cs
value_grows value [] = omega arith
value_grows value (c ∷ cs) = let more = value_grows (value * 10 + (c - 48)) cs in omega (arith, more)

pub number_goes : (value start : ℕ) (text body behind : List ℕ) → EachPasses is_ascii_digit body → value_after value body ≤ greatest_number
    → run start text (in_.Number value) (body ++ behind) ≡ run start (text ++ encode_utf8_all body) (in_.Number (value_after value body)) behind
number_goes value start text [] behind each small = ap (λ t. run start t (in_.Number value) behind) (sym (append-nil text))
number_goes value start text (c ∷ body) behind each small =
    let next : ℕ = value * 10 + (c - 48) in
    let grown : next ≤ value_after next body = value_grows next body in
    goes_step start text (in_.Number value) (in_.Number next) c (body ++ behind) (digit_goes value (start + length text) c each.0 (omega (arith, grown, small)))
    ∙ number_goes next start (text ++ encode_utf8 c) body behind each.1 small
    ∙ ap (λ t. run start t (in_.Number (value_after next body)) behind) (append_assoc text (encode_utf8 c) (encode_utf8_all body))

-- the inside of a comment, which may have ended with a star
abbrev pub commented : Bool → Mode
commented star = if star then in_.CommentStar else in_.Comment

comment_goes : (star : Bool) (at c : ℕ) → (star ≡ true → (c == 47) ≡ false) → goes_on (commented star) at c ≡ turns.GoesOn (commented (c == 42))
unfolding goes_on
comment_goes true at c apart = ap turns.GoesOn (cond-false (c == 47) _ _ (apart refl))
comment_goes false at c apart = refl

pub close_goes : (star : Bool) (start at : ℕ) (text body behind : List ℕ) (all : Lexed) → (star ≡ true → StopsBefore is_slash (body ++ 42 ∷ [])) → HasNoClose (body ++ 42 ∷ [])
    → (start + length text) + size_of (body ++ 42 ∷ 47 ∷ []) ≡ at → Reads at behind all → run start text (commented star) (body ++ 42 ∷ 47 ∷ behind) ≡ all
unfolding goes_on
close_goes star start at text [] behind all apart none place reads =
    goes_step start text (commented star) (commented true) 42 (47 ∷ behind) (comment_goes star (start + length text) 42 (λ _. refl))
    ∙ goes_step start (text ++ encode_utf8 42) in_.CommentStar in_.Between 47 behind refl
    ∙ reads start ((text ++ encode_utf8 42) ++ encode_utf8 47)
    (omega (arith, place, length-append (text ++ encode_utf8 42) (encode_utf8 47), length-append text (encode_utf8 42), length-append (encode_utf8 42) (encode_utf8_all (47 ∷ [])), length-append (encode_utf8 47) []))
close_goes star start at text (c ∷ body) behind all apart none place reads =
    goes_step start text (commented star) (commented (c == 42)) c (body ++ 42 ∷ 47 ∷ behind) (comment_goes star (start + length text) c apart)
    ∙ close_goes (c == 42) start at (text ++ encode_utf8 c) body behind all none.0 none.1
    (omega (arith, place, length-append text (encode_utf8 c), length-append (encode_utf8 c) (encode_utf8_all (body ++ 42 ∷ 47 ∷ [])))) reads

pub open_goes : (star : Bool) (start : ℕ) (text body : List ℕ) → (star ≡ true → StopsBefore is_slash body) → HasNoClose body → run start text (commented star) body ≡ Err (fault_at causes.OpenText start)
unfolding ends
open_goes true start text [] apart none = run-nil start text in_.CommentStar
open_goes false start text [] apart none = run-nil start text in_.Comment
open_goes star start text (c ∷ body) apart none =
    goes_step start text (commented star) (commented (c == 42)) c body (comment_goes star (start + length text) c apart)
    ∙ open_goes (c == 42) start (text ++ encode_utf8 c) body none.0 none.1

plain_goes : (at content : ℕ) (wrong : Option ℕ) (c : ℕ) → is_escaped c ≡ false → goes_on (in_.Quoted (inside content wrong)) at c ≡ turns.GoesOn (in_.Quoted (inside (content + len_utf8 c) wrong))
unfolding goes_on quoted_goes_on
plain_goes at content wrong c f =
    let parts = or_parts (c == 34) (c == 92) f in
    cond-false (c == 34) _ _ parts.0 ∙ cond-false (c == 92) _ _ parts.1

escaped_goes : (at content backslash : ℕ) (wrong : Option ℕ) (c : ℕ) → is_escaped c ≡ true → goes_on (in_.Escape (inside content wrong) backslash) at c ≡ turns.GoesOn (in_.Quoted (inside (content + 1) wrong))
unfolding goes_on escape_goes_on
escaped_goes at content backslash wrong c t = cond-true (is_escaped c) _ _ t

stray_goes : (at content backslash : ℕ) (wrong : Option ℕ) (c : ℕ) → is_escaped c ≡ false
    → goes_on (in_.Escape (inside content wrong) backslash) at c ≡ turns.GoesOn (in_.Quoted (inside (content + 1 + len_utf8 c) (Some (unwrap_or wrong backslash))))
unfolding goes_on escape_goes_on
stray_goes at content backslash wrong c f = cond-false (is_escaped c) _ _ f

pub inside_goes : (place start : ℕ) (text cs : List ℕ) (content : ℕ) (wrong : Option ℕ) (behind : List ℕ) → IsInside place cs content wrong → start + length text ≡ place
    → run start text (in_.Quoted (inside 0 None)) (cs ++ behind) ≡ run start (text ++ encode_utf8_all cs) (in_.Quoted (inside content wrong)) behind
unfolding goes_on quoted_goes_on
inside_goes place start text cs content wrong behind nothing at = ap (λ t. run start t (in_.Quoted (inside 0 None)) behind) (sym (append-nil text))
inside_goes place start text all content wrong behind (plain cs before_it wrong_before c is f) at =
    ap (run start text (in_.Quoted (inside 0 None))) (append_assoc cs (c ∷ []) behind)
    ∙ inside_goes place start text cs before_it wrong_before (c ∷ behind) is at
    ∙ goes_step start (text ++ encode_utf8_all cs) _ _ c behind (plain_goes (start + length (text ++ encode_utf8_all cs)) before_it wrong_before c f)
    ∙ ap (λ t. run start t (in_.Quoted (inside (before_it + len_utf8 c) wrong_before)) behind) (encode_behind text cs c)
inside_goes place start text all content wrong behind (escaped cs before_it wrong_before c is t) at =
    ap (run start text (in_.Quoted (inside 0 None))) (append_assoc cs (92 ∷ c ∷ []) behind)
    ∙ inside_goes place start text cs before_it wrong_before (92 ∷ c ∷ behind) is at
    ∙ goes_step start (text ++ encode_utf8_all cs) _ _ 92 (c ∷ behind) refl
    ∙ goes_step start ((text ++ encode_utf8_all cs) ++ encode_utf8 92) _ _ c behind (escaped_goes (start + length ((text ++ encode_utf8_all cs) ++ encode_utf8 92)) before_it (start + length (text ++ encode_utf8_all cs)) wrong_before c t)
    ∙ ap (λ l. run start l (in_.Quoted (inside (before_it + 1) wrong_before)) behind) (two_more text cs c)
inside_goes place start text all content wrong behind (stray cs before_it wrong_before c is f) at =
    let here : start + length (text ++ encode_utf8_all cs) ≡ place + size_of cs = omega (arith, at, length-append text (encode_utf8_all cs)) in
    ap (run start text (in_.Quoted (inside 0 None))) (append_assoc cs (92 ∷ c ∷ []) behind)
    ∙ inside_goes place start text cs before_it wrong_before (92 ∷ c ∷ behind) is at
    ∙ goes_step start (text ++ encode_utf8_all cs) _ _ 92 (c ∷ behind) refl
    ∙ goes_step start ((text ++ encode_utf8_all cs) ++ encode_utf8 92) _ _ c behind (stray_goes (start + length ((text ++ encode_utf8_all cs) ++ encode_utf8 92)) before_it (start + length (text ++ encode_utf8_all cs)) wrong_before c f)
    ∙ ap (λ p. run start (((text ++ encode_utf8_all cs) ++ encode_utf8 92) ++ encode_utf8 c) (in_.Quoted (inside (before_it + 1 + len_utf8 c) (Some (unwrap_or wrong_before p)))) behind) here
    ∙ ap (λ l. run start l (in_.Quoted (inside (before_it + 1 + len_utf8 c) (Some (unwrap_or wrong_before (place + size_of cs))))) behind) (two_more text cs c)
