-- The words of constants, tuples and sets, put one after the other.
use Rattle.std.proofs.Common.{◌≡◌, ℕ, zero, suc, ◌<◌, ◌≤◌, ◌+◌, List, [], ◌∷◌, ◌++◌, length, get_or, drop, map, sym, ap, ap₂, ◌∙◌, add-one, arith}
use Rattle.std.specs.List.{flat_map}
use Rattle.std.proofs.Math.Seq.{drop-cons}
use Rattle.std.proofs.lemmas.List.{drop_all}
use Rattle.xdg_ast.specs.declared.token.Kind.TheVariants as k
use Rattle.xdg_ast.specs.Words.{Word, mark, constant}
use Rattle.xdg_domain.specs.Shapes.{Shape, shape, tuple, shapes_of, constants}
use Rattle.xdg_domain.specs.Tuples.{InRange, places}
use Rattle.xdg_domain.specs.Sized.{sizes_of}
use Rattle.xdg_domain.specs.declared.types.Ty.{Ty}
use Rattle.xdg_print.specs.declared.printer.Printer.{Printer}
use Rattle.xdg_print.specs.Printed.{put}
use Rattle.xdg_print.proofs.Put.{put_append, all_of}
use Rattle.xdg_print.proofs.Written.{put_mark, put_braces}
use Rattle.xdg_print.specs.ValueWords.{constants_at, member_words}
use Rattle.xdg_print.proofs.Layered.{names_of, field_within}

-- ---- tuples

-- the constants of the fields from a place on begin with those of the field there
names_from : (types : List Ty) (i : ℕ) (ty : Ty) → i < length types → ty ≡ get_or types i ty → drop i (names_of types) ≡ constants (shape ty) ∷ drop (suc i) (names_of types)
names_from [] i ty within is = absurd (omega (arith, within))
names_from (t ∷ types) zero ty within is = ap (λ z. constants (shape z) ∷ names_of types) (sym is)
names_from (t ∷ types) (suc i) ty within is = names_from types i ty (omega (arith, within)) is

-- the constant of the field at a place was added
pub next_field : (types : List Ty) (ns : List ℕ) (i : ℕ) (ty : Ty) (names : List (List ℕ)) (number : ℕ) (name : List ℕ) (p q end : Printer) → InRange (sizes_of types) ns → i < length types → ty ≡ get_or types i ty
    → names ≡ constants (shape ty) → number ≡ get_or ns i 0 → name ≡ get_or names number [] → q ≡ put (constant name ∷ []) p
    → put (constants_at (drop i (names_of types)) (drop i ns)) p ≡ end → put (constants_at (drop (i + 1) (names_of types)) (drop (i + 1) ns)) q ≡ end
next_field types ns i ty names number name p q end range within is same at named added before =
    let number_in = (field_within types ns i ty range within is).0 in
    let word : constant name ≡ constant (get_or (constants (shape ty)) (get_or ns i 0) []) = ap constant (named ∙ ap₂ (λ l n. get_or l n []) same at) in
    let later = put (constants_at (drop (suc i) (names_of types)) (drop (suc i) ns)) in
    rw (add-one)
    (ap later (added ∙ ap (λ w. put (w ∷ []) p) word)
    ∙ ap (λ l. put (constants_at (constants (shape ty) ∷ drop (suc i) (names_of types)) l) p) (sym (drop-cons ns i 0 number_in))
    ∙ ap (λ l. put (constants_at l (drop i ns)) p) (sym (names_from types i ty within is))
    ∙ before)

no_names : (types : List Ty) (i : ℕ) → length types ≤ i → drop i (names_of types) ≡ []
no_names [] i past = drop_all i [] (omega arith)
no_names (t ∷ types) zero past = absurd (omega (arith, past))
no_names (t ∷ types) (suc i) past = no_names types i (omega (arith, past))

-- where no field is left, all were added
pub all_fields : (types : List Ty) (ns : List ℕ) (i : ℕ) (p end : Printer) → length types ≤ i → put (constants_at (drop i (names_of types)) (drop i ns)) p ≡ end → p ≡ end
all_fields types ns i p end past before = ap (λ l. put (constants_at l (drop i ns)) p) (sym (no_names types i past)) ∙ before

-- a tuple in its brackets
pub tuple_done : (s : Shape) (types given : List Ty) (ns : List ℕ) (number : ℕ) (p opened listed : Printer) → s ≡ tuple (shapes_of (map shape types)) → given ≡ types → ns ≡ places (sizes_of types) number
    → opened ≡ put_mark k.LeftBracket p → listed ≡ put (constants_at (names_of given) ns) opened → put_mark k.RightBracket listed ≡ put (member_words s number) p
tuple_done s types given ns number p opened listed is same at one two =
    ap (put_mark k.RightBracket) (two ∙ ap₂ (λ ts ms. put (constants_at (names_of ts) ms) opened) same at ∙ ap (put (constants_at (names_of types) (places (sizes_of types) number))) one)
    ∙ sym (ap (λ r. put (member_words r number) p) is ∙ put_append (constants_at (names_of types) (places (sizes_of types) number)) (mark k.RightBracket ∷ []) (put_mark k.LeftBracket p))

-- ---- lists in braces

-- the words of all elements, in their braces
pub braces_done : {X : Type 0} (f : X → List Word) (xs : List X) (i : ℕ) (p opened listed : Printer) → length xs ≤ i → opened ≡ put_mark k.LeftBrace p → put (flat_map f (drop i xs)) listed ≡ put (flat_map f xs) opened
    → put_mark k.RightBrace listed ≡ put (mark k.LeftBrace ∷ (flat_map f xs ++ mark k.RightBrace ∷ [])) p
braces_done f xs i p opened listed past one before =
    ap (put_mark k.RightBrace) (all_of listed f xs i past before ∙ ap (put (flat_map f xs)) one) ∙ sym (put_braces (flat_map f xs) p)
