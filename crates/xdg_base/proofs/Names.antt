-- Names by their first byte and the others, and texts in which nothing is escaped.
use Rattle.std.proofs.Common.{◌≡◌, ◌∙◌, ℕ, List, [], ◌∷◌, true, false, ◌++◌, ◌&&◌, cond, not, ap, sym, subst, refl}
use Rattle.std.specs.List.{list_all, list_any, flat_map}
use Rattle.xdg_base.specs.Spelling.{is_keyword, begins_name, continues_name, is_name, is_escaped, escaped}
use Rattle.std.proofs.lemmas.Bool.{or_parts}

pub name_of_parts : (text : List ℕ) (first : ℕ) (others : List ℕ) → text ≡ first ∷ others → is_name text ≡ ((begins_name first && list_all continues_name others) && not (is_keyword text))
name_of_parts text first others parts = subst (λ z. is_name z ≡ ((begins_name first && list_all continues_name others) && not (is_keyword z))) (sym parts) refl

pub escaped_is : (byte : ℕ) → is_escaped byte ≡ true → escaped byte ≡ 92 ∷ byte ∷ []
escaped_is byte e = ap (λ z. cond z (92 ∷ byte ∷ []) (byte ∷ [])) e

pub unescaped : (byte : ℕ) → is_escaped byte ≡ false → escaped byte ≡ byte ∷ []
unescaped byte none = ap (λ z. cond z (92 ∷ byte ∷ []) (byte ∷ [])) none

-- a text without quotation marks and backslashes stands as it is
pub nothing_escaped : (text : List ℕ) → list_any is_escaped text ≡ false → flat_map escaped text ≡ text
nothing_escaped [] none = refl
nothing_escaped (byte ∷ text) none =
    let parts = or_parts (is_escaped byte) (list_any is_escaped text) none in
    ap (λ z. z ++ flat_map escaped text) (unescaped byte parts.0) ∙ ap (λ z. byte ∷ z) (nothing_escaped text parts.1)
