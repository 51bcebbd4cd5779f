-- What stands as a name in a text, and how any other text is quoted.
use Rattle.std.specs.Prelude.{ℕ, ◌==◌, ◌&&◌, ◌||◌, Bool, false, List, [], ◌∷◌, ◌++◌, cond, not, codes, ◌≡◌, ◌<◌, Option, Some, None, get_or, length, if◌then◌else◌}
use Rattle.std.specs.Char.{is_ascii_alphabetic, is_ascii_alphanumeric}
use Rattle.std.specs.List.{flat_map, list_all}
use Rattle.xdg_base.specs.Texts.{has_text}

-- the keywords of grammars
abbrev pub keywords : List (List ℕ)
keywords =
    codes "defdim" ∷ codes "deftype" ∷ codes "deflabeltype" ∷ codes "defattrstype" ∷ codes "defentrytype" ∷ codes "useprinciple" ∷ codes "dims" ∷ codes "args"
    ∷ codes "output" ∷ codes "useoutput" ∷ codes "defclass" ∷ codes "defentry" ∷ codes "dim" ∷ codes "usedim" ∷ codes "tuple" ∷ codes "set" ∷ codes "iset"
    ∷ codes "valency" ∷ codes "map" ∷ codes "card" ∷ codes "bool" ∷ codes "int" ∷ codes "string" ∷ []

unfoldable pub is_keyword : List ℕ → Bool
is_keyword text = has_text keywords text

-- the place of the table at which a text stands, if it is a keyword
abbrev pub IsKeywordPlace : List ℕ → Option ℕ → Type 0
IsKeywordPlace text (Some place) = (place < length keywords) × (get_or keywords place [] ≡ text)
IsKeywordPlace text None = is_keyword text ≡ false

-- the places of the table at which the keywords of so many bytes stand
unfoldable pub places_of : ℕ → List ℕ
places_of n =
    if n == 3 then 12 ∷ 15 ∷ 18 ∷ 21 ∷ [] else
    (if n == 4 then 6 ∷ 7 ∷ 16 ∷ 19 ∷ 20 ∷ [] else
    (if n == 5 then 14 ∷ [] else
    (if n == 6 then 0 ∷ 8 ∷ 13 ∷ 22 ∷ [] else
    (if n == 7 then 1 ∷ 17 ∷ [] else
    (if n == 8 then 10 ∷ 11 ∷ [] else
    (if n == 9 then 9 ∷ [] else
    (if n == 12 then 2 ∷ 3 ∷ 4 ∷ 5 ∷ [] else
    [])))))))

-- an ASCII letter or an underscore
abbrev pub begins_name : ℕ → Bool
begins_name c = is_ascii_alphabetic c || c == 95

-- an ASCII letter or digit, an underscore or a full stop
abbrev pub continues_name : ℕ → Bool
continues_name c = is_ascii_alphanumeric c || c == 95 || c == 46

-- a byte that begins a name and bytes that continue one, and no keyword
abbrev pub is_name : List ℕ → Bool
is_name [] = false
is_name (first ∷ others) = begins_name first && list_all continues_name others && not (is_keyword (first ∷ others))

-- a quotation mark or a backslash
abbrev pub is_escaped : ℕ → Bool
is_escaped c = c == 34 || c == 92

-- a byte as it stands between quotation marks: a backslash comes before it where it is a quotation mark or one itself
abbrev pub escaped : ℕ → List ℕ
escaped byte = cond (is_escaped byte) (92 ∷ byte ∷ []) (byte ∷ [])

-- a text between quotation marks
abbrev pub quoted : List ℕ → List ℕ
quoted text = codes "\"" ++ (flat_map escaped text ++ codes "\"")
