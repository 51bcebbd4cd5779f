-- Values of expanded entries, as the words that they are written with. A row of the table of types is a clause.
use Rattle.std.specs.Prelude.{ℕ, zero, suc, Bool, true, false, cond, nat_lt, List, [], ◌∷◌, ◌++◌, get_or, map, Option, Some, None, codes}
use Rattle.std.specs.List.{flat_map}
use Rattle.std.specs.Str.{bytes_eq}
use Rattle.xdg_ast.specs.declared.token.Kind.{Kind}
use Rattle.xdg_ast.specs.declared.token.Kind.TheVariants as k
use Rattle.xdg_ast.specs.Words.{Word, mark, number, constant}
use Rattle.xdg_ast.specs.Trees.{in_braces, in_square_brackets}
use Rattle.xdg_domain.specs.Cards.{cards}
use Rattle.xdg_domain.specs.Shapes.{Shape, domain, tuple, truth, integer, text, set, iset, card, valency, mapping, fields, Fields, no_field, field_then, constants_of, sizes}
use Rattle.xdg_domain.specs.Tuples.{places}
use Rattle.xdg_domain.specs.declared.values.Value.{Value, out-Value}
use Rattle.xdg_domain.specs.declared.values.Value.TheOpen.{Value-F}
use Rattle.xdg_print.specs.Defaulted.{is_default}

-- ---- constants and tuples

-- one constant of each of these domains, by its number
abbrev pub constants_at : List (List (List ℕ)) → List ℕ → List Word
constants_at [] ns = []
constants_at (names ∷ more) [] = []
constants_at (names ∷ more) (n ∷ ns) = constant (get_or names n []) ∷ constants_at more ns

-- the constant or the tuple with that number
abbrev pub member_words : Shape → ℕ → List Word
member_words (domain names) n = constant (get_or names n []) ∷ []
member_words (tuple ss) n = in_square_brackets (constants_at (constants_of ss) (places (sizes ss) n))
member_words _ n = []

-- all members, in the order of their type
abbrev pub members_words : Shape → List ℕ → List Word
members_words s ns = in_braces (flat_map (member_words s) ns)

-- ---- cardinalities

-- the sign that stands for just these numbers, if there is one
unfoldable pub sign_for : List ℕ → Option Kind
sign_for ns =
    cond (bytes_eq ns (1 ∷ [])) (Some k.Exclamation)
    (cond (bytes_eq ns (0 ∷ 1 ∷ [])) (Some k.Question)
    (cond (bytes_eq ns (cards (λ _. true))) (Some k.Star)
    (cond (bytes_eq ns (cards (λ n. nat_lt 0 n))) (Some k.Plus)
    None)))

-- a sign, or the rising numbers
abbrev pub sign_or_numbers : Option Kind → List ℕ → List Word
sign_or_numbers (Some sign) ns = mark sign ∷ []
sign_or_numbers None ns = mark k.Hash ∷ in_braces (map number ns)

abbrev pub card_words : List ℕ → List Word
card_words ns = sign_or_numbers (sign_for ns) ns

-- a key and its cardinality, where that isn't {0}
abbrev pub counted_words : Shape → ℕ × List ℕ → List Word
counted_words key entry = cond (bytes_eq entry.1 (0 ∷ [])) [] (member_words key entry.0 ++ card_words entry.1)

-- ---- values

-- the constant of a truth value
abbrev pub truth_text : Bool → List ℕ
truth_text holds = cond holds (codes "true") (codes "false")

-- a key and the words of its value, where that isn't the default
abbrev pub keyed_words : Bool → Shape → ℕ → List Word → List Word
keyed_words true key n words = []
keyed_words false key n words = member_words key n ++ mark k.Colon ∷ words

abbrev mutual
  -- the words of one layer of a value
  pub words_in : Shape → Value-F Value → List Word
  words_in (domain names) (Value-F.Const n) = member_words (domain names) n
  words_in (tuple ss) (Value-F.Tuple n) = member_words (tuple ss) n
  words_in truth (Value-F.Bool holds) = constant (truth_text holds) ∷ []
  words_in integer (Value-F.Int n) = number n ∷ []
  words_in text (Value-F.Str t) = constant t ∷ []
  words_in (set s) (Value-F.Set ns) = members_words s ns
  words_in (iset s) (Value-F.Set ns) = members_words s ns
  words_in card (Value-F.Card ns) = card_words ns
  words_in (valency key) (Value-F.Valency m) = in_braces (flat_map (counted_words key) m)
  words_in (mapping key u) (Value-F.Map m) =
      in_braces (flat_map (λ entry. keyed_words (is_default u (out-Value entry.1)) key entry.0 (words_in u (out-Value entry.1))) m)
  words_in (fields fs) (Value-F.Rec m) = in_braces (flat_map (λ entry. field_words fs entry.0 entry.1) m)
  words_in _ _ = []

  -- the name of the field with that place, and its value
  pub field_words : Fields → ℕ → Value → List Word
  field_words no_field place v = []
  field_words (field_then name u fs) zero v = constant name ∷ mark k.Colon ∷ words_in u (out-Value v)
  field_words (field_then name u fs) (suc place) v = field_words fs place v

-- the names of fields that are said, with their values
abbrev pub features_words : Fields → List (ℕ × Value) → List Word
features_words fs m = flat_map (λ entry. field_words fs entry.0 entry.1) m

-- the words of a value of the type
abbrev pub words_of : Shape → Value → List Word
words_of s v = words_in s (out-Value v)
