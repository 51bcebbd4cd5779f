-- What is known of a piece while its characters are read.
use Rattle.std.proofs.Common.{◌≡◌, ℕ, ◌+◌, ◌-◌, ◌*◌, ◌≤◌, ◌==◌, ◌||◌, Bool, true, false, Option, Some, None, Ok, Err, List, [], ◌∷◌, ◌++◌, length, refl, sym, ◌∙◌, ap, subst, arith, append_assoc, length-append}
use Rattle.std.specs.Prelude.{Result, if◌then◌else◌, nat_le, unwrap_or}
use Rattle.std.specs.Char.{is_whitespace, is_ascii_digit, len_utf8, encode_utf8}
use Rattle.std.specs.Str.{encode_utf8_all}
use Rattle.std.proofs.lemmas.Bool.{cond_both, eqb-true, leb-true, leb-false, or_from}
use Rattle.std.proofs.lemmas.Str.{length-encode}
use Rattle.xdg_base.specs.Faults.{fault_at}
use Rattle.xdg_base.specs.declared.faults.Fault.{Fault}
use Rattle.xdg_base.specs.declared.faults.Cause.TheVariants as causes
use Rattle.xdg_ast.specs.declared.token.Kind.{Kind}
use Rattle.xdg_lex.specs.declared.pieces.Mode.{Mode}
use Rattle.xdg_lex.specs.declared.pieces.Mode.TheVariants as in_
use Rattle.xdg_lex.specs.declared.pieces.Turn.{Turn}
use Rattle.xdg_lex.specs.declared.pieces.Turn.TheVariants as turns
use Rattle.xdg_base.specs.Spelling.{begins_name, continues_name}
use Rattle.xdg_ast.specs.Kinds.{sign_of}
use Rattle.xdg_lex.specs.Pieces.{goes_on, digit_goes_on, quoted_goes_on, escape_goes_on, line_goes_on, comment_goes_on, star_goes_on, begins, sign_begins, inside}
use Rattle.xdg_ast.specs.Tokenizes.{size_of, EachPasses, StopsBefore, HasNoClose, IsGap, white, line, closed, IsInside, nothing, plain, escaped, stray, value_after, greatest_number, is_no_line_feed}
use Rattle.xdg_lex.specs.Offends.{IsOffence, no_token, great_number}
use Rattle.xdg_facts.proofs.Truths.{not_true_from, apart}

-- the inside of a comment has no close, whatever follows that has none
abbrev pub GoesOnWell : List ℕ → Type 0
GoesOnWell body = (more : List ℕ) → HasNoClose more → HasNoClose (body ++ more)

-- the same, where the inside ends with a star
abbrev pub GoesOnWellAfterStar : List ℕ → Type 0
GoesOnWellAfterStar body = (more : List ℕ) → HasNoClose (42 ∷ more) → HasNoClose (body ++ 42 ∷ more)

-- The characters of a piece that begins at a place, and what they make it.
pub data Pending (start : ℕ) : Mode → List ℕ → Type 0 where
  at_start : Pending start in_.Between []
  in_gap : (piece : List ℕ) → IsGap piece → Pending start in_.Between piece
  in_name : (c : ℕ) (body : List ℕ) → begins_name c ≡ true → EachPasses continues_name body → Pending start in_.Name (c ∷ body)
  in_number : (c : ℕ) (body : List ℕ) → is_ascii_digit c ≡ true → EachPasses is_ascii_digit body → value_after (c - 48) body ≤ greatest_number
      → Pending start (in_.Number (value_after (c - 48) body)) (c ∷ body)
  in_quoted : (cs : List ℕ) (content : ℕ) (wrong : Option ℕ) → IsInside (start + 1) cs content wrong → Pending start (in_.Quoted (inside content wrong)) (34 ∷ cs)
  in_escape : (cs : List ℕ) (content : ℕ) (wrong : Option ℕ) → IsInside (start + 1) cs content wrong
      → Pending start (in_.Escape (inside content wrong) (start + 1 + size_of cs)) (34 ∷ cs ++ 92 ∷ [])
  in_closed : (cs : List ℕ) (content : ℕ) (wrong : Option ℕ) → IsInside (start + 1) cs content wrong → Pending start (in_.Closed (inside content wrong)) (34 ∷ cs ++ 34 ∷ [])
  in_sign : (c : ℕ) (kind : Kind) → sign_of c ≡ Some kind → Pending start (in_.Sign kind) (c ∷ [])
  in_line : (body : List ℕ) → EachPasses is_no_line_feed body → Pending start in_.LineComment (37 ∷ body)
  in_slash : Pending start in_.Slash (47 ∷ [])
  in_comment : (body : List ℕ) → GoesOnWell body → Pending start in_.Comment (47 ∷ 42 ∷ body)
  in_star : (body : List ℕ) → GoesOnWellAfterStar body → Pending start in_.CommentStar (47 ∷ 42 ∷ body ++ 42 ∷ [])

-- a piece may end before these characters
abbrev pub EndsBefore : Mode → List ℕ → Type 0
EndsBefore in_.Name behind = StopsBefore continues_name behind
EndsBefore (in_.Number value) behind = StopsBefore is_ascii_digit behind
EndsBefore in_.Slash behind = StopsBefore (λ c. c == 42) behind
EndsBefore in_.Between behind = Unit {0}
EndsBefore (in_.Sign kind) behind = Unit {0}
EndsBefore (in_.Closed read) behind = Unit {0}
EndsBefore mode behind = behind ≡ []

-- what the next character does is right
abbrev pub Turns : ℕ → Mode → List ℕ → ℕ → List ℕ → Turn → Type 0
Turns start mode piece c behind (turns.GoesOn next) = Pending start next (piece ++ c ∷ [])
Turns start mode piece c behind turns.Ends = EndsBefore mode (c ∷ behind)
Turns start mode piece c behind (turns.Refused fault) = IsOffence start (piece ++ c ∷ behind) fault

pub each_more : (test : ℕ → Bool) (cs : List ℕ) (c : ℕ) → EachPasses test cs → test c ≡ true → EachPasses test (cs ++ c ∷ [])
each_more test [] c each t = (t, tt)
each_more test (d ∷ cs) c each t = (each.0, each_more test cs c each.1 t)

pub value_more : (value : ℕ) (cs : List ℕ) (c : ℕ) → value_after value (cs ++ c ∷ []) ≡ value_after value cs * 10 + (c - 48)
value_more value [] c = refl
value_more value (d ∷ cs) c = value_more (value * 10 + (d - 48)) cs c

name_turns : (start at c : ℕ) (behind : List ℕ) (d : ℕ) (body : List ℕ) → begins_name d ≡ true → EachPasses continues_name body
    → Turns start in_.Name (d ∷ body) c behind (if continues_name c then turns.GoesOn in_.Name else turns.Ends)
name_turns start at c behind d body b each =
    cond_both (continues_name c) (turns.GoesOn in_.Name) turns.Ends (Turns start in_.Name (d ∷ body) c behind)
    (λ t. in_name d (body ++ c ∷ []) b (each_more continues_name body c each t)) (λ f. f)

number_turns : (start at c : ℕ) (behind : List ℕ) (d : ℕ) (body : List ℕ) → at ≡ start + size_of (d ∷ body) → is_ascii_digit d ≡ true → EachPasses is_ascii_digit body → value_after (d - 48) body ≤ greatest_number
    → Turns start (in_.Number (value_after (d - 48) body)) (d ∷ body) c behind (digit_goes_on (value_after (d - 48) body) at c)
unfolding digit_goes_on
number_turns start at c behind d body place b each small =
    let value : ℕ = value_after (d - 48) body * 10 + (c - 48) in
    let P : Turn → Type 0 = Turns start (in_.Number (value_after (d - 48) body)) (d ∷ body) c behind in
    cond_both (is_ascii_digit c) (if nat_le value 4294967295 then turns.GoesOn (in_.Number value) else turns.Refused (fault_at causes.BadChar at)) turns.Ends P
    (λ t. cond_both (nat_le value 4294967295) (turns.GoesOn (in_.Number value)) (turns.Refused (fault_at causes.BadChar at)) P
    (λ s. subst (λ v. Pending start (in_.Number v) ((d ∷ body) ++ c ∷ [])) (value_more (d - 48) body c)
    (in_number d (body ++ c ∷ []) b (each_more is_ascii_digit body c each t) (subst (λ v. v ≤ greatest_number) (sym (value_more (d - 48) body c)) (leb-true value 4294967295 s))))
    (λ g. subst (λ p. IsOffence start ((d ∷ body) ++ c ∷ behind) (fault_at causes.BadChar p)) (sym place) (great_number d body c behind b each t small (leb-false value 4294967295 g))))
    (λ f. f)

quote_size : (cs : List ℕ) → size_of (34 ∷ cs) ≡ 1 + size_of cs
quote_size cs = let one : length (encode_utf8 34) ≡ 1 = length-encode 34 in omega (arith, one, length-append (encode_utf8 34) (encode_utf8_all cs))

quoted_turns : (start at c : ℕ) (behind cs : List ℕ) (content : ℕ) (wrong : Option ℕ) → at ≡ start + size_of (34 ∷ cs) → IsInside (start + 1) cs content wrong
    → Turns start (in_.Quoted (inside content wrong)) (34 ∷ cs) c behind (quoted_goes_on (inside content wrong) at c)
unfolding quoted_goes_on
quoted_turns start at c behind cs content wrong place is =
    let P : Turn → Type 0 = Turns start (in_.Quoted (inside content wrong)) (34 ∷ cs) c behind in
    cond_both (c == 34) (turns.GoesOn (in_.Closed (inside content wrong))) (if c == 92 then turns.GoesOn (in_.Escape (inside content wrong) at) else turns.GoesOn (in_.Quoted (inside (content + len_utf8 c) wrong))) P
    (λ q. subst (λ d. Pending start (in_.Closed (inside content wrong)) ((34 ∷ cs) ++ d ∷ [])) (sym (eqb-true c 34 q)) (in_closed cs content wrong is))
    (λ n. cond_both (c == 92) (turns.GoesOn (in_.Escape (inside content wrong) at)) (turns.GoesOn (in_.Quoted (inside (content + len_utf8 c) wrong))) P
    (λ b. subst (λ p. Pending start (in_.Escape (inside content wrong) p) ((34 ∷ cs) ++ c ∷ [])) (omega (arith, place, quote_size cs))
    (subst (λ d. Pending start (in_.Escape (inside content wrong) (start + 1 + size_of cs)) ((34 ∷ cs) ++ d ∷ [])) (sym (eqb-true c 92 b)) (in_escape cs content wrong is)))
    (λ m. in_quoted (cs ++ c ∷ []) (content + len_utf8 c) wrong (plain cs content wrong c is (or_from (c == 34) (c == 92) n m))))

escape_turns : (start at c : ℕ) (behind cs : List ℕ) (content : ℕ) (wrong : Option ℕ) → IsInside (start + 1) cs content wrong
    → Turns start (in_.Escape (inside content wrong) (start + 1 + size_of cs)) (34 ∷ cs ++ 92 ∷ []) c behind (escape_goes_on (inside content wrong) (start + 1 + size_of cs) c)
unfolding escape_goes_on
escape_turns start at c behind cs content wrong is =
    let P : Turn → Type 0 = Turns start (in_.Escape (inside content wrong) (start + 1 + size_of cs)) (34 ∷ cs ++ 92 ∷ []) c behind in
    let together : (34 ∷ cs ++ 92 ∷ c ∷ []) ≡ ((34 ∷ cs ++ 92 ∷ []) ++ c ∷ []) = ap (λ l. 34 ∷ l) (sym (append_assoc cs (92 ∷ []) (c ∷ []))) in
    cond_both (c == 34 || c == 92) (turns.GoesOn (in_.Quoted (inside (content + 1) wrong))) (turns.GoesOn (in_.Quoted (inside (content + 1 + len_utf8 c) (Some (unwrap_or wrong (start + 1 + size_of cs)))))) P
    (λ t. subst (λ l. Pending start (in_.Quoted (inside (content + 1) wrong)) l) together (in_quoted (cs ++ 92 ∷ c ∷ []) (content + 1) wrong (escaped cs content wrong c is t)))
    (λ f. subst (λ l. Pending start (in_.Quoted (inside (content + 1 + len_utf8 c) (Some (unwrap_or wrong (start + 1 + size_of cs))))) l) together (in_quoted (cs ++ 92 ∷ c ∷ []) (content + 1 + len_utf8 c) (Some (unwrap_or wrong (start + 1 + size_of cs))) (stray cs content wrong c is f)))

line_turns : (start c : ℕ) (body : List ℕ) → EachPasses is_no_line_feed body → Pending start (line_goes_on c) ((37 ∷ body) ++ c ∷ [])
line_turns start c body each =
    cond_both (c == 10) in_.Between in_.LineComment (λ m. Pending start m ((37 ∷ body) ++ c ∷ []))
    (λ t. subst (λ d. Pending start in_.Between ((37 ∷ body) ++ d ∷ [])) (sym (eqb-true c 10 t)) (in_gap (37 ∷ body ++ 10 ∷ []) (line body each)))
    (λ f. in_line (body ++ c ∷ []) (each_more is_no_line_feed body c each (not_true_from (c == 10) f)))

comment_turns : (start c : ℕ) (body : List ℕ) → GoesOnWell body → Pending start (comment_goes_on c) ((47 ∷ 42 ∷ body) ++ c ∷ [])
comment_turns start c body well =
    cond_both (c == 42) in_.CommentStar in_.Comment (λ m. Pending start m ((47 ∷ 42 ∷ body) ++ c ∷ []))
    (λ t. subst (λ d. Pending start in_.CommentStar ((47 ∷ 42 ∷ body) ++ d ∷ [])) (sym (eqb-true c 42 t)) (in_star body (λ more h. well (42 ∷ more) h)))
    (λ f. in_comment (body ++ c ∷ []) (λ more h. subst HasNoClose (sym (append_assoc body (c ∷ []) more)) (well (c ∷ more) ((λ t. apart (c == 42) t f), h))))

star_turns : (start c : ℕ) (body : List ℕ) → GoesOnWellAfterStar body → Pending start (star_goes_on c) ((47 ∷ 42 ∷ body ++ 42 ∷ []) ++ c ∷ [])
star_turns start c body well =
    let parted : (d : ℕ) → (47 ∷ 42 ∷ body ++ 42 ∷ d ∷ []) ≡ ((47 ∷ 42 ∷ body ++ 42 ∷ []) ++ d ∷ []) = λ d. ap (λ l. 47 ∷ 42 ∷ l) (sym (append_assoc body (42 ∷ []) (d ∷ []))) in
    cond_both (c == 47) in_.Between (comment_goes_on c) (λ m. Pending start m ((47 ∷ 42 ∷ body ++ 42 ∷ []) ++ c ∷ []))
    (λ t. subst (λ d. Pending start in_.Between ((47 ∷ 42 ∷ body ++ 42 ∷ []) ++ d ∷ [])) (sym (eqb-true c 47 t))
    (subst (λ l. Pending start in_.Between l) (parted 47) (in_gap (47 ∷ 42 ∷ body ++ 42 ∷ 47 ∷ []) (closed body (well [] ((λ _. tt), tt))))))
    (λ f. cond_both (c == 42) in_.CommentStar in_.Comment (λ m. Pending start m ((47 ∷ 42 ∷ body ++ 42 ∷ []) ++ c ∷ []))
    (λ t. subst (λ d. Pending start in_.CommentStar ((47 ∷ 42 ∷ body ++ 42 ∷ []) ++ d ∷ [])) (sym (eqb-true c 42 t))
    (in_star (body ++ 42 ∷ []) (λ more h. subst HasNoClose (sym (append_assoc body (42 ∷ []) (42 ∷ more))) (well (42 ∷ more) ((λ _. refl), h)))))
    (λ g. in_comment ((body ++ 42 ∷ []) ++ c ∷ []) (λ more h. subst HasNoClose (sym (append_assoc (body ++ 42 ∷ []) (c ∷ []) more ∙ append_assoc body (42 ∷ []) (c ∷ more)))
    (well (c ∷ more) ((λ _. f), ((λ t. apart (c == 42) t g), h))))))

slash_turns : (start c : ℕ) (behind : List ℕ) → Turns start in_.Slash (47 ∷ []) c behind (if c == 42 then turns.GoesOn in_.Comment else turns.Ends)
slash_turns start c behind =
    cond_both (c == 42) (turns.GoesOn in_.Comment) turns.Ends (Turns start in_.Slash (47 ∷ []) c behind)
    (λ t. subst (λ d. Pending start in_.Comment (47 ∷ d ∷ [])) (sym (eqb-true c 42 t)) (in_comment [] (λ more h. h)))
    (λ f. f)

pub turns_rightly : (start : ℕ) (mode : Mode) (piece : List ℕ) (at c : ℕ) (behind : List ℕ) → at ≡ start + size_of piece → Pending start mode piece → Turns start mode piece c behind (goes_on mode at c)
unfolding goes_on
turns_rightly start mode piece at c behind place at_start = tt
turns_rightly start mode piece at c behind place (in_gap gap is) = tt
turns_rightly start mode piece at c behind place (in_name d body b each) = name_turns start at c behind d body b each
turns_rightly start mode piece at c behind place (in_number d body b each small) = number_turns start at c behind d body place b each small
turns_rightly start mode piece at c behind place (in_quoted cs content wrong is) = quoted_turns start at c behind cs content wrong place is
turns_rightly start mode piece at c behind place (in_escape cs content wrong is) = escape_turns start at c behind cs content wrong is
turns_rightly start mode piece at c behind place (in_closed cs content wrong is) = tt
turns_rightly start mode piece at c behind place (in_sign d kind is) = tt
turns_rightly start mode piece at c behind place (in_line body each) = line_turns start c body each
turns_rightly start mode piece at c behind place in_slash = slash_turns start c behind
turns_rightly start mode piece at c behind place (in_comment body well) = comment_turns start c body well
turns_rightly start mode piece at c behind place (in_star body well) = star_turns start c body well

-- a character begins a piece, or nothing
abbrev pub Begins : ℕ → ℕ → List ℕ → Result Mode Fault → Type 0
Begins at c behind (Ok mode) = Pending at mode (c ∷ [])
Begins at c behind (Err fault) = IsOffence at (c ∷ behind) fault

sign_begins_rightly : (at c : ℕ) (behind : List ℕ) (sign : Option Kind) → sign_of c ≡ sign → is_whitespace c ≡ false → (c == 37) ≡ false → (c == 47) ≡ false → (c == 34) ≡ false → begins_name c ≡ false → is_ascii_digit c ≡ false
    → Begins at c behind (sign_begins at sign)
sign_begins_rightly at c behind (Some sign) is w l s q n d = in_sign c sign is
sign_begins_rightly at c behind None is w l s q n d = no_token c behind s (record { no_white = w; no_line = l; no_quoted = q; no_name = n; no_number = d; no_sign = is })

digit_small : (c : ℕ) → is_ascii_digit c ≡ true → c - 48 ≤ greatest_number
digit_small c d = grind (arith, d)

pub begins_rightly : (at c : ℕ) (behind : List ℕ) → Begins at c behind (begins at c)
unfolding begins
begins_rightly at c behind =
    cond_both (is_whitespace c) _ _ (Begins at c behind) (λ w. in_gap (c ∷ []) (white c w))
    (λ w. cond_both (c == 37) _ _ (Begins at c behind) (λ t. subst (λ d. Pending at in_.LineComment (d ∷ [])) (sym (eqb-true c 37 t)) (in_line [] tt))
    (λ l. cond_both (c == 47) _ _ (Begins at c behind) (λ t. subst (λ d. Pending at in_.Slash (d ∷ [])) (sym (eqb-true c 47 t)) in_slash)
    (λ s. cond_both (c == 34) _ _ (Begins at c behind) (λ t. subst (λ d. Pending at (in_.Quoted (inside 0 None)) (d ∷ [])) (sym (eqb-true c 34 t)) (in_quoted [] 0 None nothing))
    (λ q. cond_both (begins_name c) _ _ (Begins at c behind) (λ t. in_name c [] t tt)
    (λ n. cond_both (is_ascii_digit c) _ _ (Begins at c behind) (λ t. in_number c [] t tt (digit_small c t))
    (λ d. sign_begins_rightly at c behind (sign_of c) refl w l s q n d))))))
