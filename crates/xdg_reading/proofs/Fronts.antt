-- What stands at the front of a text.
use denote.Ref.{Bor}
use Rattle.std.proofs.Common.{◌≡◌, ◌≢◌, ◌<◌, ◌++◌, ◌==◌, ◌⊎◌, inl, inr, ℕ, suc, List, [], ◌∷◌, length, get_or, refl, sym, ap, ◌∙◌, arith, true, false, cond, Bool, Some, None, Option}
use Rattle.std.proofs.lemmas.Bool.{eqb-true}
use Rattle.std.proofs.lemmas.Str.Pattern.{split_parts, strip_prefix_char, IsSplitOnceResult}
use Rattle.std.specs.Str.Pattern.{FindsTextPrefix, FindsCharPrefix, StripsPrefix}
use Rattle.xdg_reading.proofs.Steps.{pair, lead_found}
use Rattle.xdg_reading.specs.Pieces.{behind, until, lead}
use Rattle.xdg_facts.proofs.Options.{some_same, cond_either, nothing_if}
use Rattle.xdg_facts.proofs.Truths.{other_byte, same_byte}

-- the text stands there
pub behind_it : (word rest : List ℕ) → behind word (word ++ rest) ≡ Some rest
behind_it [] rest = refl
behind_it (c ∷ word) rest = same_byte c (behind word (word ++ rest)) None ∙ behind_it word rest

by_byte : (c byte : ℕ) (word bytes rest : List ℕ) (t : Bool) → (byte == c) ≡ t → cond t (behind word bytes) None ≡ Some rest → ((behind word bytes ≡ Some rest) → bytes ≡ word ++ rest) → byte ∷ bytes ≡ (c ∷ word) ++ rest
by_byte c byte word bytes rest true e found more = let h : byte ≡ c = eqb-true byte c e in ap (λ z. z ∷ bytes) h ∙ ap (λ z. c ∷ z) (more found)
by_byte c byte word bytes rest false e found more = cc

-- and only what stands there is found
pub it_stands : (word bytes rest : List ℕ) → behind word bytes ≡ Some rest → bytes ≡ word ++ rest
it_stands [] bytes rest found = let P : Option (List ℕ) → List ℕ = λ o. elim o [ None ↦ bytes | Some x ↦ x ] in ap P found
it_stands (c ∷ word) [] rest found = cc
it_stands (c ∷ word) (byte ∷ bytes) rest found = by_byte c byte word bytes rest (byte == c) refl found (it_stands word bytes rest)

-- nothing is found where it doesn't stand
pub lacks_it : (word bytes : List ℕ) → ((rest : List ℕ) → bytes ≡ word ++ rest → ⊥) → behind word bytes ≡ None
lacks_it word bytes lacks = nothing_if (behind word bytes) (λ rest e. lacks rest (it_stands word bytes rest e))

-- a text that is stripped off the front
pub stripped : (word bytes rest : List ℕ) → StripsPrefix (FindsTextPrefix word) bytes rest → behind word bytes ≡ Some rest
stripped word bytes rest (n, found, is, size) = ap (behind word) (found.1 ∙ ap (λ z. word ++ z) (sym is)) ∙ behind_it word rest

pub not_stripped : (word bytes : List ℕ) → FindsTextPrefix word bytes None → behind word bytes ≡ None
not_stripped word bytes lacks = lacks_it word bytes lacks

-- the first byte of a kind, with none before it
pub until_it : (end : ℕ) (piece rest : List ℕ) → ((i : ℕ) → i < length piece → get_or piece i 0 ≢ end) → until end (piece ++ end ∷ rest) ≡ Some (piece, rest)
until_it end [] rest none = same_byte end (Some ([], rest)) (lead end (until end rest))
until_it end (byte ∷ piece) rest none =
    other_byte byte end (Some ([], piece ++ end ∷ rest)) (lead byte (until end (piece ++ end ∷ rest))) (λ e. none 0 (omega arith) e)
    ∙ ap (lead byte) (until_it end piece rest (λ i within. none (suc i) (omega (arith, within))))

pub until_none : (end : ℕ) (bytes : List ℕ) → ((i : ℕ) → i < length bytes → get_or bytes i 0 ≢ end) → until end bytes ≡ None
until_none end [] none = refl
until_none end (byte ∷ bytes) none =
    other_byte byte end (Some ([], bytes)) (lead byte (until end bytes)) (λ e. none 0 (omega arith) e)
    ∙ ap (lead byte) (until_none end bytes (λ i within. none (suc i) (omega (arith, within))))

-- a text that is split at a byte
pub split_some : (end : ℕ) (bytes : List ℕ) (piece rest : Bor (List ℕ)) → IsSplitOnceResult end bytes (Some (piece, rest)) → end < 128 → until end bytes ≡ Some (piece.now, rest.now)
split_some end bytes piece rest result small =
    let both = split_parts end bytes (Some (piece, rest)) result small in
    ap (until end) both.0 ∙ until_it end piece.now rest.now both.1

pub split_none : (end : ℕ) (bytes : List ℕ) → IsSplitOnceResult end bytes None → end < 128 → until end bytes ≡ None
split_none end bytes result small = until_none end bytes (split_parts end bytes None result small)

-- a character that is stripped off the front
pub char_stripped : (end : ℕ) (bytes : List ℕ) (rest : Bor (List ℕ)) → StripsPrefix (FindsCharPrefix end) bytes rest.now → end < 128 → behind (end ∷ []) bytes ≡ Some rest.now
char_stripped end bytes rest strips small = ap (behind (end ∷ [])) (strip_prefix_char end bytes (Some rest) strips small) ∙ same_byte end (Some rest.now) None

pub char_not_stripped : (end : ℕ) (bytes : List ℕ) → FindsCharPrefix end bytes None → end < 128 → behind (end ∷ []) bytes ≡ None
char_not_stripped end bytes lacks small = lacks_it (end ∷ []) bytes (λ rest e. strip_prefix_char end bytes None lacks small rest e)

until_step : (end byte : ℕ) (bytes piece rest : List ℕ) → ((p r : List ℕ) → until end bytes ≡ Some (p, r) → bytes ≡ p ++ end ∷ r) → ((byte == end) ≡ true) × (Some (pair [] bytes) ≡ Some (pair piece rest)) ⊎ ((byte == end) ≡ false) × (lead byte (until end bytes) ≡ Some (pair piece rest)) → byte ∷ bytes ≡ piece ++ end ∷ rest
until_step end byte bytes piece rest more (inl (same, found)) =
    let both = some_same ([], bytes) (piece, rest) found in
    let e : byte ≡ end = eqb-true byte end same in
    ap (λ z. z ∷ bytes) e ∙ ap (λ (p : List ℕ × List ℕ). p.0 ++ end ∷ p.1) both
until_step end byte bytes piece rest more (inr (other, found)) =
    let led = lead_found byte (until end bytes) (piece, rest) found in
    ap (λ z. byte ∷ z) (more led.more led.rest led.is) ∙ ap (λ (p : List ℕ × List ℕ). p.0 ++ end ∷ p.1) led.all

-- what stands before the first byte of a kind, with that byte
pub until_stands : (end : ℕ) (bytes piece rest : List ℕ) → until end bytes ≡ Some (piece, rest) → bytes ≡ piece ++ end ∷ rest
until_stands end [] piece rest found = cc
until_stands end (byte ∷ bytes) piece rest found = until_step end byte bytes piece rest (until_stands end bytes) (cond_either (byte == end) (Some ([], bytes)) (lead byte (until end bytes)) (piece, rest) found)
