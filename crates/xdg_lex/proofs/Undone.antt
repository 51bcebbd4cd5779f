-- The loop over the characters of a quoted text.
use Rattle.std.proofs.Common.{◌≡◌, ℕ, ◌==◌, Bool, true, false, List, [], ◌∷◌, ◌++◌, length, refl, sym, ◌∙◌, ap, subst, arith, append_assoc, append-nil}
use Rattle.std.specs.Char.{encode_utf8}
use Rattle.std.specs.Str.{chars, IsUtf8, encode_utf8_all}
use Rattle.std.proofs.lemmas.Bool.{cond-true, cond-false, eqb-true}
use Rattle.std.proofs.lemmas.Str.{chars-nil, chars_past_char, IsUtf8-past_char}
use Rattle.xdg_ast.specs.Contents.{undone, unquoted}

-- what was made, and what the rest of the text makes
pub record IsUndone (text made : List ℕ) (escaped : Bool) (rest : List ℕ) : Type 0 where
  pub utf8 : IsUtf8 rest
  pub makes : made ++ encode_utf8_all (undone escaped (chars rest)) ≡ unquoted text

more : (text made new more_made rest after : List ℕ) (escaped next : Bool) (c : ℕ) → new ≡ made ++ more_made → IsUndone text made escaped rest → rest ≡ encode_utf8 c ++ after
    → encode_utf8_all (undone escaped (c ∷ chars after)) ≡ more_made ++ encode_utf8_all (undone next (chars after)) → IsUndone text new next after
more text made new more_made rest after escaped next c n so_far e same = record {
  utf8 = IsUtf8-past_char rest after c so_far.utf8 e;
  makes = ap (λ l. l ++ encode_utf8_all (undone next (chars after))) n ∙ append_assoc made more_made (encode_utf8_all (undone next (chars after))) ∙ ap (λ l. made ++ l) (sym same)
      ∙ ap (λ l. made ++ encode_utf8_all (undone escaped l)) (sym (chars_past_char rest after c so_far.utf8 e)) ∙ so_far.makes;
}

pub turn_escaped : (text made new rest after : List ℕ) (escaped : Bool) (c : ℕ) → escaped ≡ true → new ≡ made ++ encode_utf8 c → IsUndone text made escaped rest → rest ≡ encode_utf8 c ++ after → IsUndone text new false after
turn_escaped text made new rest after escaped c e n so_far r = more text made new (encode_utf8 c) rest after true false c n (rw e at so_far) r refl

pub turn_plain : (text made new rest after : List ℕ) (escaped : Bool) (c : ℕ) → escaped ≡ false → (c == 92) ≡ false → (c == 34) ≡ false → new ≡ made ++ encode_utf8 c → IsUndone text made escaped rest → rest ≡ encode_utf8 c ++ after → IsUndone text new escaped after
turn_plain text made new rest after escaped c e b q n so_far r =
    rw e (more text made new (encode_utf8 c) rest after false false c n (rw e at so_far) r (ap encode_utf8_all (cond-false (c == 34) _ _ q ∙ cond-false (c == 92) _ _ b)))

pub turn_backslash : (text made rest after : List ℕ) (escaped : Bool) (c : ℕ) → escaped ≡ false → (c == 92) ≡ true → IsUndone text made escaped rest → rest ≡ encode_utf8 c ++ after → IsUndone text made true after
turn_backslash text made rest after escaped c e b so_far r =
    more text made made [] rest after false true c (sym (append-nil made)) (rw e at so_far) r (ap encode_utf8_all (subst (λ d. undone false (d ∷ chars after) ≡ undone true (chars after)) (sym (eqb-true c 92 b)) refl))

pub turn_quote : (text made rest after : List ℕ) (escaped : Bool) (c : ℕ) → escaped ≡ false → (c == 34) ≡ true → IsUndone text made escaped rest → rest ≡ encode_utf8 c ++ after → IsUndone text made escaped after
turn_quote text made rest after escaped c e q so_far r =
    rw e (more text made made [] rest after false false c (sym (append-nil made)) (rw e at so_far) r (ap encode_utf8_all (cond-true (c == 34) _ _ q)))

pub all_undone : (text made : List ℕ) (escaped : Bool) (rest : List ℕ) → IsUndone text made escaped rest → length rest ≡ 0 → made ≡ unquoted text
all_undone text made escaped [] so_far e = sym (append-nil made) ∙ ap (λ l. made ++ encode_utf8_all (undone escaped l)) (sym chars-nil) ∙ so_far.makes
all_undone text made escaped (byte ∷ bytes) so_far e = absurd (omega arith)
