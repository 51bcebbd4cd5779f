-- The words of keys and fields with what is said of them, put one after the other.
use Rattle.std.proofs.Common.{◌≡◌, ℕ, zero, suc, ◌<◌, ◌≤◌, ◌+◌, false, cond, List, [], ◌∷◌, ◌++◌, length, get_or, drop, sym, ap, ap₂, ◌∙◌, subst, arith}
use Rattle.std.specs.List.{flat_map}
use Rattle.std.specs.Str.{bytes_eq}
use Rattle.xdg_ast.specs.declared.token.Kind.TheVariants as k
use Rattle.xdg_ast.specs.Words.{Word, mark, constant}
use Rattle.xdg_ast.specs.Trees.{in_braces}
use Rattle.xdg_domain.specs.Shapes.{Shape, shape, mapping, fields, Fields, fields_of, IsType, AreTypes}
use Rattle.xdg_domain.specs.Values.{IsFieldOf, IsValue}
use Rattle.xdg_domain.specs.declared.types.Ty.{Ty}
use Rattle.xdg_domain.specs.declared.types.Ty.TheVariants as t
use Rattle.xdg_domain.specs.declared.values.Value.{Value, out-Value}
use Rattle.xdg_domain.specs.declared.values.Value.TheOpen.{Value-F}
use Rattle.xdg_domain.specs.declared.values.Value.TheVariants as v
use Rattle.xdg_print.specs.declared.printer.Printer.{Printer}
use Rattle.xdg_print.specs.Printed.{put}
use Rattle.xdg_print.proofs.Put.{put_append, next_of}
use Rattle.xdg_print.proofs.Written.{put_mark, put_braces}
use Rattle.xdg_types.specs.Table.{typed}
use Rattle.xdg_print.specs.Defaulted.{is_default}
use Rattle.xdg_print.specs.ValueWords.{member_words, card_words, counted_words, keyed_words, words_in, words_of, field_words}
use Rattle.xdg_print.proofs.Layered.{of_map, of_record}
use Rattle.xdg_print.proofs.Stood.{braces_done}
use Rattle.xdg_facts.proofs.Each.{at_place}

-- ---- maps

abbrev pub entry_words : Shape → Shape → ℕ × Value → List Word
entry_words key u entry = keyed_words (is_default u (out-Value entry.1)) key entry.0 (words_of u entry.1)

-- a key whose value is not the default adds itself and its value
pub entry_put : (key u : Shape) (m : List (ℕ × Value)) (i : ℕ) (entry : ℕ × Value) (n : ℕ) (p named coloned q end : Printer) → i < length m → entry ≡ get_or m i entry → is_default u (out-Value entry.1) ≡ false → n ≡ entry.0
    → named ≡ put (member_words key n) p → coloned ≡ put_mark k.Colon named → q ≡ put (words_of u entry.1) coloned
    → put (flat_map (entry_words key u) (drop i m)) p ≡ end → put (flat_map (entry_words key u) (drop (i + 1) m)) q ≡ end
entry_put key u m i entry n p named coloned q end within is other same one two three before =
    next_of p (entry_words key u) m i entry within is before
    (three ∙ ap (put (words_of u entry.1)) (two ∙ ap (put_mark k.Colon) (one ∙ ap (λ j. put (member_words key j) p) same))
    ∙ sym (put_append (member_words key entry.0) (mark k.Colon ∷ words_of u entry.1) p)
    ∙ sym (ap (λ b. put (keyed_words b key entry.0 (words_of u entry.1)) p) other))

-- ---- valencies

pub count_put : (key : Shape) (m : List (ℕ × List ℕ)) (i : ℕ) (entry : ℕ × List ℕ) (n : ℕ) (p named q end : Printer) → i < length m → entry ≡ get_or m i entry → bytes_eq entry.1 (0 ∷ []) ≡ false → n ≡ entry.0
    → named ≡ put (member_words key n) p → q ≡ put (card_words entry.1) named
    → put (flat_map (counted_words key) (drop i m)) p ≡ end → put (flat_map (counted_words key) (drop (i + 1) m)) q ≡ end
count_put key m i entry n p named q end within is some same one two before =
    next_of p (counted_words key) m i entry within is before
    (two ∙ ap (put (card_words entry.1)) (one ∙ ap (λ j. put (member_words key j) p) same)
    ∙ sym (put_append (member_words key entry.0) (card_words entry.1) p)
    ∙ sym (ap (λ b. put (cond b [] (member_words key entry.0 ++ card_words entry.1)) p) some))

-- ---- records

abbrev pub feature_words : Fields → ℕ × Value → List Word
feature_words fs entry = field_words fs entry.0 entry.1

-- a value of a field has a place among the fields, and is one of its type
pub field_at : (types : List (List ℕ × Ty)) (place : ℕ) (x : Value) (field : List ℕ × Ty) → IsFieldOf (fields_of (typed types)) place x → field ≡ get_or types place field → IsValue (shape field.1) x
field_at [] place x field h is = absurd h
field_at (f ∷ types) zero x field h is = subst (λ g. IsValue (shape g.1) x) (sym is) h
field_at (f ∷ types) (suc place) x field h is = field_at types place x field h is

pub field_there : (types : List (List ℕ × Ty)) (place : ℕ) (x : Value) → IsFieldOf (fields_of (typed types)) place x → place < length types
field_there [] place x h = absurd h
field_there (f ∷ types) zero x h = omega arith
field_there (f ∷ types) (suc place) x h = let later = field_there types place x h in omega (arith, later)

pub type_at : (types : List (List ℕ × Ty)) (place : ℕ) (field : List ℕ × Ty) → AreTypes (fields_of (typed types)) → place < length types → field ≡ get_or types place field → IsType (shape field.1)
type_at = at_place (λ types. AreTypes (fields_of (typed types))) (λ field. IsType (shape field.1)) (λ _ _ h. h)

words_at : (types : List (List ℕ × Ty)) (place : ℕ) (x : Value) (field : List ℕ × Ty) → place < length types → field ≡ get_or types place field → field_words (fields_of (typed types)) place x ≡ constant field.0 ∷ mark k.Colon ∷ words_of (shape field.1) x
words_at [] place x field within is = absurd (omega (arith, within))
words_at (f ∷ types) zero x field within is = ap (λ (g : List ℕ × Ty). constant g.0 ∷ mark k.Colon ∷ words_of (shape g.1) x) (sym is)
words_at (f ∷ types) (suc place) x field within is = words_at types place x field (omega (arith, within)) is

-- the name of the field at a place and its value were added
pub feature_put : (types : List (List ℕ × Ty)) (m : List (ℕ × Value)) (i : ℕ) (entry : ℕ × Value) (field : List ℕ × Ty) (name : List ℕ) (p named coloned q end : Printer) → i < length m → entry ≡ get_or m i entry
    → entry.0 < length types → field ≡ get_or types entry.0 field → name ≡ field.0 → named ≡ put (constant name ∷ []) p → coloned ≡ put_mark k.Colon named → q ≡ put (words_of (shape field.1) entry.1) coloned
    → put (flat_map (feature_words (fields_of (typed types))) (drop i m)) p ≡ end → put (flat_map (feature_words (fields_of (typed types))) (drop (i + 1) m)) q ≡ end
feature_put types m i entry field name p named coloned q end within is there at same one two three before =
    next_of p (feature_words (fields_of (typed types))) m i entry within is before
    (three ∙ ap (put (words_of (shape field.1) entry.1)) (two ∙ ap (put_mark k.Colon) (one ∙ ap (λ t. put (constant t ∷ []) p) same))
    ∙ sym (ap (λ ws. put ws p) (words_at types entry.0 entry.1 field there at)))

-- ---- whole values

words_layer : (s s' : Shape) (x : Value) (l : Value-F Value) → s ≡ s' → out-Value x ≡ l → words_of s x ≡ words_in s' l
words_layer s s' x l same is = ap (λ r. words_in r (out-Value x)) same ∙ ap (words_in s') is

-- the words of all entries of a map, in their braces
pub map_done : (ty key of : Ty) (value : Value) (said items : List (ℕ × Value)) (i : ℕ) (p opened listed : Printer) → ty ≡ t.Map key of → value ≡ v.Map said → items ≡ said → length items ≤ i → opened ≡ put_mark k.LeftBrace p
    → put (flat_map (entry_words (shape key) (shape of)) (drop i items)) listed ≡ put (flat_map (entry_words (shape key) (shape of)) items) opened → put_mark k.RightBrace listed ≡ put (words_of (shape ty) value) p
map_done ty key of value said items i p opened listed is value_is same past one before =
    braces_done (entry_words (shape key) (shape of)) items i p opened listed past one before
    ∙ ap (λ m. put (in_braces (flat_map (entry_words (shape key) (shape of)) m)) p) same
    ∙ sym (ap (λ ws. put ws p) (words_layer (shape ty) (mapping (shape key) (shape of)) value (Value-F.Map said) (of_map ty key of is) (ap out-Value value_is ∙ v.outs-Map said)))

-- the words of a record's features, in their braces
pub record_done : (ty : Ty) (types given : List (List ℕ × Ty)) (value : Value) (said items : List (ℕ × Value)) (p opened listed : Printer) → ty ≡ t.Rec types → given ≡ types → value ≡ v.Rec said → items ≡ said
    → opened ≡ put_mark k.LeftBrace p → listed ≡ put (flat_map (feature_words (fields_of (typed given))) items) opened → put_mark k.RightBrace listed ≡ put (words_of (shape ty) value) p
record_done ty types given value said items p opened listed is given_is value_is same one two =
    ap (put_mark k.RightBrace) (two ∙ ap (put (flat_map (feature_words (fields_of (typed given))) items)) one) ∙ sym (put_braces (flat_map (feature_words (fields_of (typed given))) items) p)
    ∙ ap₂ (λ ts m. put (in_braces (flat_map (feature_words (fields_of (typed ts))) m)) p) given_is same
    ∙ sym (ap (λ ws. put ws p) (words_layer (shape ty) (fields (fields_of (typed types))) value (Value-F.Rec said) (of_record ty types is) (ap out-Value value_is ∙ v.outs-Rec said)))
