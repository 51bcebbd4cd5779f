-- Texts by number.
use Rattle.std.specs.Prelude.{ℕ, suc, if◌then◌else◌, List, [], ◌∷◌, Option, None, Some, option_map, bytes_eq}
pub use Rattle.xdg_base.specs.Texts.{has_text}

-- the place of the first of the texts that equals it, from 0
abbrev pub place_of : List (List ℕ) → List ℕ → Option ℕ
place_of [] text = None
place_of (first ∷ texts) text = if bytes_eq first text then Some 0 else option_map suc (place_of texts text)
