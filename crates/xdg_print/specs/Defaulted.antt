-- Whether a value of a map is the default of its type, by a test.
use Rattle.std.specs.Prelude.{ℕ, Bool, true, false, ◌&&◌, ◌==◌, ◌+◌, List, [], ◌∷◌, length}
use Rattle.std.specs.List.{range_with_len}
use Rattle.std.specs.Str.{bytes_eq}
use Rattle.xdg_domain.specs.Cards.{cards}
use Rattle.xdg_domain.specs.Shapes.{Shape, set, iset, card, valency, mapping, count}
use Rattle.xdg_domain.specs.declared.values.Value.{Value, out-Value}
use Rattle.xdg_domain.specs.declared.values.Value.TheOpen.{Value-F}

-- the keys count up from one on, and what is said of each passes the test
abbrev pub counts_up : {V : Type 0} → (V → Bool) → ℕ → List (ℕ × V) → Bool
counts_up test key [] = true
counts_up test key (entry ∷ m) = (entry.0 == key) && test entry.1 && counts_up test (key + 1) m

-- Whether it is the default: the empty set, the full set, all numbers, {0} for each key, the default of the values for each
-- key.
abbrev pub is_default : Shape → Value-F Value → Bool
is_default (set s) (Value-F.Set ns) = bytes_eq ns []
is_default (iset s) (Value-F.Set ns) = bytes_eq ns (range_with_len 0 (count s))
is_default card (Value-F.Card ns) = bytes_eq ns (cards (λ _. true))
is_default (valency key) (Value-F.Valency m) = (length m == count key) && counts_up (λ ns. bytes_eq ns (0 ∷ [])) 0 m
is_default (mapping key u) (Value-F.Map m) = (length m == count key) && counts_up (λ v. is_default u (out-Value v)) 0 m
is_default _ _ = false
