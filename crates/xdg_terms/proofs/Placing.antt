-- The places of constants, and the numbers of tuples.
use Rattle.std.proofs.Common.{◌≡◌, ℕ, ◌<◌, ◌≤◌, ◌+◌, zero, suc, List, [], ◌∷◌, ◌++◌, length, get_or, drop, Option, None, Some, refl, ap, ap₂, sym, ◌∙◌, arith, subst, append_assoc}
use Rattle.std.specs.Prelude.{Result, Ok, Err, IfOk}
use Rattle.std.specs.declared.alloc.AllocError.{AllocError}
use Rattle.std.specs.List.Sorted.{IsStrictlyIncreasing}
use Rattle.std.proofs.lemmas.List.{append-nil, drop_all}
use Rattle.xdg_ast.specs.declared.names.Name.{Name}
use Rattle.xdg_domain.specs.declared.types.Ty.{Ty}
use Rattle.xdg_domain.specs.Shapes.{Shape, tuple, Shapes, no_shape, shape_then, shape, constants, constants_of, sizes, sizes_in, IsTupleType}
use Rattle.xdg_domain.specs.Sized.{sizes_of}
use Rattle.xdg_domain.specs.Tuples.{InRange}
use Rattle.xdg_domain.specs.Values.{AllBelow}
use Rattle.xdg_domain.proofs.Sizing.{domains_small}
use Rattle.xdg_names.specs.Texts.{place_of}
use Rattle.xdg_names.proofs.Texts.{place_of-Some}
use Rattle.xdg_terms.specs.Built.{Elem, places_behind, constants_each, constants_in, listed, as_set}
use Rattle.xdg_terms.specs.Means.{chosen}
use Rattle.xdg_terms.proofs.SameMembers.{is_set}
use Rattle.xdg_facts.specs.Rises.{has}
use Rattle.xdg_ast.specs.Texts.{texts as texts_of}

-- ---- tuples

pub small_at : (types : List Ty) (k : ℕ) (t : Ty) → k < length types → t ≡ get_or types k t → AllBelow 65 (sizes_of types) → length (constants (shape t)) ≤ 64
small_at [] k t within is h = absurd (omega (arith, within))
small_at (u ∷ us) zero t within is h = let l : length (constants (shape u)) ≤ 64 = omega (arith, h.0) in subst (λ x. length (constants (shape x)) ≤ 64) (sym is) l
small_at (u ∷ us) (suc k) t within is h = small_at us k t (omega (arith, within)) is h.1

pub wrong_length : (found : List ℕ) (types : List Ty) (names : List Name) → (length names ≡ length types → ⊥) → None ≡ places_behind found (constants_each types) names
wrong_length found [] [] h = absurd (h refl)
wrong_length found [] (n ∷ ns) h = refl
wrong_length found (u ∷ us) [] h = refl
wrong_length found (u ∷ us) (n ∷ ns) h = elim (place_of (constants (shape u)) n.text) as (λ o. None ≡ (elim o [ None ↦ None | Some m ↦ places_behind (found ++ m ∷ []) (constants_each us) ns ])) [
  | None ↦ refl
  | Some m ↦ wrong_length (found ++ m ∷ []) us ns (λ e. h (ap suc e))
]

-- these places follow those before, each in range, and are those of the names
pub record Chosen (found : List ℕ) (ss : Shapes) (names : List Name) (ns : List ℕ) : Type 0 where
  pub rest : List ℕ
  pub parts : ns ≡ found ++ rest
  pub range : InRange (sizes ss) rest
  pub texts : chosen (constants_of ss) rest ≡ texts_of names

abbrev next_place : Option ℕ → List ℕ → Shapes → List Name → Option (List ℕ)
next_place o found ss names = elim o [ None ↦ None | Some m ↦ places_behind (found ++ m ∷ []) (constants_of ss) names ]

chosen_by : (found : List ℕ) (s : Shape) (ss : Shapes) (name : Name) (names : List Name) (ns : List ℕ) (o : Option ℕ) → place_of (constants s) name.text ≡ o → ((m : ℕ) → places_behind (found ++ m ∷ []) (constants_of ss) names ≡ Some ns → Chosen (found ++ m ∷ []) ss names ns)
    → next_place o found ss names ≡ Some ns → Chosen found (shape_then s ss) (name ∷ names) ns
chosen_by found s ss name names ns None e later h = absurd (cc)
chosen_by found s ss name names ns (Some m) e later h =
    let l = later m h in
    let p = place_of-Some (constants s) name.text m e in
    record {
      rest = m ∷ l.rest;
      parts = l.parts ∙ append_assoc found (m ∷ []) l.rest;
      range = (p.0, l.range);
      texts = ap₂ (λ (x : List ℕ) (xs : List (List ℕ)). x ∷ xs) p.1 l.texts;
    }

pub are_chosen : (found : List ℕ) (ss : Shapes) (names : List Name) (ns : List ℕ) → places_behind found (constants_of ss) names ≡ Some ns → Chosen found ss names ns
are_chosen found no_shape [] ns h = let e : found ≡ ns = cc in record { rest = []; parts = sym e ∙ sym (append-nil found); range = tt; texts = refl }
are_chosen found no_shape (n ∷ names) ns h = absurd (cc)
are_chosen found (shape_then s ss) [] ns h = absurd (cc)
are_chosen found (shape_then s ss) (n ∷ names) ns h = chosen_by found s ss n names ns (place_of (constants s) n.text) refl (λ m. are_chosen (found ++ m ∷ []) ss names ns) h

pub in_range : (s : Shape) (css : List (List (List ℕ))) (names : List Name) (ns : List ℕ) → IsTupleType s → css ≡ constants_in s → places_behind [] css names ≡ Some ns → InRange (sizes_in s) ns
in_range (tuple ss) css names ns h is e =
    let c = are_chosen [] ss names ns (ap (λ z. places_behind [] z names) (sym is) ∙ e) in
    subst (InRange (sizes ss)) (sym c.parts) c.range
in_range s css names ns h is e = absurd h

pub small_fields : (s : Shape) (sizes : List ℕ) → IsTupleType s → sizes ≡ sizes_in s → AllBelow 65 sizes
small_fields (tuple ss) sizes h is = subst (AllBelow 65) (sym is) (domains_small ss h.domains)
small_fields s sizes h is = absurd h

-- ---- sets

pub listed_set : (s : Shape) (elems : List Elem) (i : ℕ) (numbers found : List ℕ) (r : Result (List ℕ) AllocError) → length elems ≤ i → numbers ++ listed s (drop i elems) ≡ listed s elems → found ≡ numbers
    → IfOk r (λ made. (n : ℕ) → has made n ≡ has found n) → IfOk r IsStrictlyIncreasing → IfOk r (λ made. made ≡ as_set (listed s elems))
listed_set s elems i numbers found (Ok made) ended whole is same rises =
    let all : found ≡ listed s elems = is ∙ sym (append-nil numbers) ∙ ap (λ (l : List Elem). numbers ++ listed s l) (sym (drop_all i elems ended)) ∙ whole in
    is_set made (listed s elems) rises (λ n. same n ∙ ap (λ l. has l n) all)
listed_set s elems i numbers found (Err e) ended whole is same rises = tt
