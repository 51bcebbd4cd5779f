-- A refusal stands in the text.
use Rattle.std.proofs.Common.{◌≡◌, ℕ, ◌+◌, ◌≤◌, List, [], ◌∷◌, ◌++◌, Some, None, Ok, Err, length, refl, ◌∙◌, ap, arith, length-append}
use Rattle.std.specs.Prelude.{Option, Result, IfErr, unwrap_or}
use Rattle.std.specs.Char.{encode_utf8}
use Rattle.std.specs.Str.{chars, encode_utf8_all}
use Rattle.std.proofs.lemmas.Str.{encodes-append, encodes-chars}
use Rattle.xdg_base.specs.declared.faults.Fault.{Fault}
use Rattle.xdg_base.specs.declared.faults.Stop.{Stop}
use Rattle.xdg_base.specs.declared.faults.Stop.TheVariants as stops
use Rattle.xdg_ast.specs.declared.token.Token.{Token}
use Rattle.xdg_ast.specs.Tokenizes.{size_of, IsInside, nothing, plain, escaped, stray}
use Rattle.xdg_lex.specs.Offends.{IsOffence, no_token, no_comment, great_number, open_text, open_escape, open_comment, long_name, long_text, stray_backslash, Offends, here, past_gap, past_token, IsRefused, no_text, no_tokens, Tells, StandsWithin}

size_append : (a b : List ℕ) → size_of (a ++ b) ≡ size_of a + size_of b
size_append a b = ap length (encodes-append a b) ∙ length-append (encode_utf8_all a) (encode_utf8_all b)

IsBelow : ℕ → Option ℕ → Type 0
IsBelow n None = Unit {0}
IsBelow n (Some place) = place ≤ n

below_more : (m n : ℕ) (wrong : Option ℕ) → m ≤ n → IsBelow m wrong → IsBelow n wrong
unfolding IsBelow
below_more m n None le h = tt
below_more m n (Some place) le h = omega (arith, le, h)

below_or : (m n place : ℕ) (wrong : Option ℕ) → m ≤ n → place ≤ n → IsBelow m wrong → unwrap_or wrong place ≤ n
unfolding IsBelow
below_or m n place None le within h = within
below_or m n place (Some other) le within h = omega (arith, le, h)

-- the first wrong backslash inside a quoted text
wrong_below : (start : ℕ) (cs : List ℕ) (content : ℕ) (wrong : Option ℕ) → IsInside start cs content wrong → IsBelow (start + size_of cs) wrong
unfolding IsBelow
wrong_below start cs content wrong nothing = tt
wrong_below start all content wrong (plain cs before more c is f) = below_more (start + size_of cs) _ more (omega (arith, size_append cs (c ∷ []))) (wrong_below start cs before more is)
wrong_below start all content wrong (escaped cs before more c is t) = below_more (start + size_of cs) _ more (omega (arith, size_append cs (92 ∷ c ∷ []))) (wrong_below start cs before more is)
wrong_below start all content wrong (stray cs before more c is f) =
    let sizes = size_append cs (92 ∷ c ∷ []) in
    below_or (start + size_of cs) _ (start + size_of cs) more (omega (arith, sizes)) (omega (arith, sizes)) (wrong_below start cs before more is)

wrong_place : (start : ℕ) (cs : List ℕ) (content place : ℕ) → IsInside start cs content (Some place) → place ≤ start + size_of cs
unfolding IsBelow
wrong_place start cs content place is = wrong_below start cs content (Some place) is

offence_within : (at : ℕ) (cs : List ℕ) (fault : Fault) → IsOffence at cs fault → fault.at ≤ at + size_of cs
unfolding encode_utf8
offence_within at cs fault (no_token c behind f begins) = omega arith
offence_within at cs fault (no_comment behind stops) = omega arith
offence_within at cs fault (great_number c body digit behind b each d small great) = omega (arith, size_append (c ∷ body) (digit ∷ behind))
offence_within at cs fault (open_text inside content wrong is) = omega arith
offence_within at cs fault (open_escape inside content wrong is) = omega arith
offence_within at cs fault (open_comment body none) = omega arith
offence_within at cs fault (long_name c body behind b each stops long) = omega arith
offence_within at cs fault (long_text inside content wrong behind is long) = omega arith
offence_within at cs fault (stray_backslash inside content backslash behind is short) =
    let one : size_of (34 ∷ []) ≡ 1 = refl in
    let front : size_of (34 ∷ inside) ≡ size_of (34 ∷ []) + size_of inside = size_append (34 ∷ []) inside in
    omega (arith, size_append (34 ∷ inside ++ 34 ∷ []) behind, size_append (34 ∷ inside) (34 ∷ []), front, one, wrong_place (at + 1) inside content backslash is)

offends_within : (at : ℕ) (cs : List ℕ) (fault : Fault) → Offends at cs fault → fault.at ≤ at + size_of cs
offends_within at cs fault (here place front why is) = offence_within at cs fault is
offends_within at cs fault (past_gap place piece behind why is rest) = omega (arith, size_append piece behind, offends_within (at + size_of piece) behind fault rest)
offends_within at cs fault (past_token place kind piece content behind why is short rest) = omega (arith, size_append piece behind, offends_within (at + size_of piece) behind fault rest)

refused_within : (bytes : List ℕ) (fault : Fault) → IsRefused bytes fault → fault.at ≤ length bytes
refused_within bytes fault (no_text at ill valid) = omega (arith, valid.short)
refused_within bytes fault (no_tokens why is rest) = omega (arith, offends_within 0 (chars bytes) fault rest, ap length (encodes-chars bytes is))

pub stands_within : (bytes : List ℕ) (result : Result (List Token) Stop) → Tells bytes result → IfErr result (StandsWithin bytes)
stands_within bytes (Ok tokens) tells = tt
stands_within bytes (Err (stops.Fault fault)) tells = refused_within bytes fault tells
stands_within bytes (Err stops.OutOfMemory) tells = tt
