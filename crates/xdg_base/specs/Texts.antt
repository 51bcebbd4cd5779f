-- Texts among texts.
use Rattle.std.specs.Prelude.{ℕ, Bool, List, bytes_eq}
use Rattle.std.specs.List.{list_any}

-- whether a text stands among texts
abbrev pub has_text : List (List ℕ) → List ℕ → Bool
has_text texts text = list_any (λ other. bytes_eq other text) texts
