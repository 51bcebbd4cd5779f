-- The insides of quoted texts.
use Rattle.std.proofs.Common.{◌≡◌, ◌<◌, ◌++◌, ◌+◌, ◌==◌, ◌&&◌, ℕ, suc, List, [], ◌∷◌, length, drop, take, get_or, refl, sym, ap, ◌∙◌, subst, arith, true, false, cond, not, Bool, Some, None, Option, append_assoc, take-append-drop, append-nil}
use Rattle.std.proofs.lemmas.Bool.{eqb-true, and_parts, not-true, or_from, and_from}
use Rattle.std.proofs.lemmas.List.Sums.{prefix_len_stops, prefix_len-le-length}
use Rattle.std.specs.List.{list_all, prefix_len}
use Rattle.std.specs.Str.{IsCharBoundary}
use Rattle.xdg_reading.specs.Pieces.{behind, lead, leads, inside, is_plain, stops_plain, GoesPlain}
use Rattle.xdg_text.specs.Constants.{is_escaped}
use Rattle.xdg_reading.proofs.Fronts.{it_stands}
use Rattle.xdg_facts.proofs.Options.{not_then}

pub leads_none : {X : Type 0} (o : Option (List X × List ℕ)) → leads [] o ≡ o
leads_none None = refl
leads_none (Some found) = refl

pub leads_both : {X : Type 0} (xs ys : List X) (o : Option (List X × List ℕ)) → leads xs (leads ys o) ≡ leads (xs ++ ys) o
leads_both xs ys None = refl
leads_both xs ys (Some found) = ap (λ z. Some (z, found.1)) (sym (append_assoc xs ys found.0))

pub lead_leads : {X : Type 0} (x : X) (xs : List X) (o : Option (List X × List ℕ)) → lead x (leads xs o) ≡ leads (x ∷ xs) o
lead_leads x xs None = refl
lead_leads x xs (Some found) = refl

-- a byte that is no mark goes on
pub plain_byte : (byte : ℕ) (bytes : List ℕ) → is_plain byte ≡ true → inside false (byte ∷ bytes) ≡ lead byte (inside false bytes)
unfolding inside
plain_byte byte bytes plain =
    let both = and_parts (not (byte == 34)) (not (byte == 92)) plain in
    ap (λ t. cond t (Some ([], bytes)) (cond (byte == 92) (inside true bytes) (lead byte (inside false bytes)))) (not-true (byte == 34) both.0)
    ∙ ap (λ t. cond t (inside true bytes) (lead byte (inside false bytes))) (not-true (byte == 92) both.1)

pub plain_inside : (piece rest : List ℕ) → list_all is_plain piece ≡ true → inside false (piece ++ rest) ≡ leads piece (inside false rest)
plain_inside [] rest plain = sym (leads_none (inside false rest))
plain_inside (byte ∷ piece) rest plain =
    let both = and_parts (is_plain byte) (list_all is_plain piece) plain in
    plain_byte byte (piece ++ rest) both.0 ∙ ap (lead byte) (plain_inside piece rest both.1) ∙ lead_leads byte piece (inside false rest)

-- a closing mark
pub closing : (rest : List ℕ) → inside false (34 ∷ rest) ≡ Some ([], rest)
unfolding inside
closing rest = refl

pub lead_is : {X : Type 0} (x : X) (o : Option (List X × List ℕ)) → lead x o ≡ leads (x ∷ []) o
lead_is x None = refl
lead_is x (Some found) = refl

-- an escaped byte
pub escaped_turn : (byte : ℕ) (bytes : List ℕ) → is_escaped byte ≡ true → inside false (92 ∷ byte ∷ bytes) ≡ lead byte (inside false bytes)
unfolding inside
escaped_turn byte bytes e = ap (λ t. cond t (lead byte (inside false bytes)) None) e

not_escaped : (c : ℕ) → (c == 34) ≡ false → (c == 92) ≡ false → is_escaped c ≡ false
not_escaped c mark backslash = or_from (c == 34) (c == 92) mark backslash

after_backslash : (c : ℕ) (bytes : List ℕ) → (c == 34) ≡ false → (c == 92) ≡ false → inside true (c ∷ bytes) ≡ None
unfolding inside
after_backslash c bytes mark backslash = ap (λ t. cond t (lead c (inside false bytes)) None) (not_escaped c mark backslash)

to_backslash : (byte : ℕ) (bytes : List ℕ) → (byte == 34) ≡ false → (byte == 92) ≡ true → inside false (byte ∷ bytes) ≡ inside true bytes
unfolding inside
to_backslash byte bytes mark backslash = ap (λ t. cond t (Some ([], bytes)) (cond (byte == 92) (inside true bytes) (lead byte (inside false bytes)))) mark ∙ ap (λ t. cond t (inside true bytes) (lead byte (inside false bytes))) backslash

pub nothing_left : (escaped : Bool) → inside escaped [] ≡ None
unfolding inside
nothing_left true = refl
nothing_left false = refl

is_backslash : (byte : ℕ) → not (is_plain byte) ≡ true → (byte == 34) ≡ false → (byte == 92) ≡ true
is_backslash byte stops mark = by (byte == 34) (byte == 92) stops mark where
  by : (a b : Bool) → not (not a && not b) ≡ true → a ≡ false → b ≡ true
  by true b stops mark = cc
  by false true stops mark = refl
  by false false stops mark = cc

-- where none of these stands, nothing is read
pub stuck : (bytes : List ℕ) → stops_plain bytes ≡ true → behind (34 ∷ []) bytes ≡ None → behind (92 ∷ 34 ∷ []) bytes ≡ None → behind (92 ∷ 92 ∷ []) bytes ≡ None → inside false bytes ≡ None
stuck [] stops close mark backslash = nothing_left false
stuck (byte ∷ []) stops close mark backslash =
    let no_mark : (byte == 34) ≡ false = not_then (byte == 34) [] None close in
    to_backslash byte [] no_mark (is_backslash byte stops no_mark) ∙ nothing_left true
stuck (byte ∷ c ∷ bytes) stops close mark backslash =
    let no_mark : (byte == 34) ≡ false = not_then (byte == 34) (c ∷ bytes) None close in
    let is : (byte == 92) ≡ true = is_backslash byte stops no_mark in
    let second : cond (c == 34) (Some bytes) None ≡ None = sym (ap (λ t. cond t (cond (c == 34) (Some bytes) None) None) is) ∙ mark in
    let third : cond (c == 92) (Some bytes) None ≡ None = sym (ap (λ t. cond t (cond (c == 92) (Some bytes) None) None) is) ∙ backslash in
    to_backslash byte (c ∷ bytes) no_mark is ∙ after_backslash c bytes (not_then (c == 34) bytes None second) (not_then (c == 92) bytes None third)

-- the first piece goes on what was read
pub turned : (text self piece rest made : List ℕ) (all : Option (List ℕ × List ℕ)) → leads text (inside false self) ≡ all → GoesPlain self piece rest → made ≡ text ++ piece → leads made (inside false rest) ≡ all
turned text self piece rest made all invariant goes is =
    ap (λ z. leads z (inside false rest)) is
    ∙ sym (leads_both text piece (inside false rest))
    ∙ ap (leads text) (sym (plain_inside piece rest goes.plain))
    ∙ ap (λ z. leads text (inside false z)) (sym goes.parts)
    ∙ invariant

pub closes : (made rest new : List ℕ) (all : Option (List ℕ × List ℕ)) → leads made (inside false rest) ≡ all → behind (34 ∷ []) rest ≡ Some new → all ≡ Some (made, new)
closes made rest new all invariant found = sym invariant ∙ ap (leads made) (ap (inside false) (it_stands (34 ∷ []) rest new found) ∙ closing new) ∙ ap (λ z. Some (z, new)) (append-nil made)

pub goes_escaped : (made rest at new more : List ℕ) (c : ℕ) (all : Option (List ℕ × List ℕ)) → leads made (inside false rest) ≡ all → at ≡ rest → is_escaped c ≡ true
    → behind (92 ∷ c ∷ []) at ≡ Some new → more ≡ made ++ c ∷ [] → leads more (inside false new) ≡ all
goes_escaped made rest at new more c all invariant same escaped found is =
    ap (λ z. leads z (inside false new)) is ∙ sym (leads_both made (c ∷ []) (inside false new))
    ∙ ap (leads made) (sym (ap (inside false) (it_stands (92 ∷ c ∷ []) at new found) ∙ escaped_turn c new escaped ∙ lead_is c (inside false new))) ∙ ap (λ z. leads made (inside false z)) same ∙ invariant

pub goes_nowhere : (made rest second third : List ℕ) (all : Option (List ℕ × List ℕ)) → leads made (inside false rest) ≡ all → stops_plain rest ≡ true → behind (34 ∷ []) rest ≡ None → second ≡ rest → behind (92 ∷ 34 ∷ []) second ≡ None → third ≡ second → behind (92 ∷ 92 ∷ []) third ≡ None → all ≡ None
goes_nowhere made rest second third all invariant stops close same mark again backslash =
    sym invariant ∙ ap (leads made) (stuck rest stops close (subst (λ z. behind (92 ∷ 34 ∷ []) z ≡ None) same mark) (subst (λ z. behind (92 ∷ 92 ∷ []) z ≡ None) (again ∙ same) backslash))

escaped_small : (byte : ℕ) → is_plain byte ≡ false → byte < 128
escaped_small byte marks = by (byte == 34) (byte == 92) refl refl marks where
  by : (a b : Bool) → (byte == 34) ≡ a → (byte == 92) ≡ b → (not a && not b) ≡ false → byte < 128
  by true b first second marks = let e : byte ≡ 34 = eqb-true byte 34 first in omega (arith, e)
  by false true first second marks = let e : byte ≡ 92 = eqb-true byte 92 second in omega (arith, e)
  by false false first second marks = cc

pub plain_boundary : (bytes : List ℕ) → IsCharBoundary bytes (prefix_len is_plain bytes)
plain_boundary bytes = (prefix_len-le-length is_plain bytes, λ within high. absurd (let small : get_or bytes (prefix_len is_plain bytes) 0 < 128 = escaped_small _ (prefix_len_stops is_plain bytes 0 within) in omega (arith, small, high)))

plain_parts : (bytes : List ℕ) → (list_all is_plain (take (prefix_len is_plain bytes) bytes) ≡ true) × (stops_plain (drop (prefix_len is_plain bytes) bytes) ≡ true)
plain_parts [] = (refl, refl)
plain_parts (byte ∷ bytes) = by (plain_parts bytes) (is_plain byte) refl where
  n : ℕ
  n = prefix_len is_plain bytes

  one : 1 + n ≡ suc n
  one = omega arith

  by : (list_all is_plain (take n bytes) ≡ true) × (stops_plain (drop n bytes) ≡ true) → (t : Bool) → is_plain byte ≡ t
      → (list_all is_plain (take (cond t (1 + n) 0) (byte ∷ bytes)) ≡ true) × (stops_plain (drop (cond t (1 + n) 0) (byte ∷ bytes)) ≡ true)
  by more true e = subst (λ k. (list_all is_plain (take k (byte ∷ bytes)) ≡ true) × (stops_plain (drop k (byte ∷ bytes)) ≡ true)) (sym one) (and_from (is_plain byte) (list_all is_plain (take n bytes)) e more.0, more.1)
  by more false e = (refl, ap not e)

pub plain_goes : (bytes : List ℕ) → GoesPlain bytes (take (prefix_len is_plain bytes) bytes) (drop (prefix_len is_plain bytes) bytes)
plain_goes bytes = record { parts = sym (take-append-drop (prefix_len is_plain bytes) bytes); plain = (plain_parts bytes).0; stops = (plain_parts bytes).1 }

pub goes_as : (bytes old : List ℕ) (length : ℕ) (piece rest : List ℕ) → bytes ≡ old → length ≡ prefix_len is_plain bytes → piece ≡ take length bytes → rest ≡ drop length bytes → GoesPlain old piece rest
goes_as bytes old length piece rest same is front back =
    subst (λ z. GoesPlain z piece rest) same
    (subst (λ z. GoesPlain bytes z rest) (ap (λ n. take n bytes) (sym is) ∙ sym front)
    (subst (λ z. GoesPlain bytes (take (prefix_len is_plain bytes) bytes) z) (ap (λ n. drop n bytes) (sym is) ∙ sym back) (plain_goes bytes)))
