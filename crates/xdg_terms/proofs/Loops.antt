-- A loop that keeps the first of what is wrong in each item.
use Rattle.std.proofs.Common.{◌≡◌, ℕ, ◌+◌, ◌<◌, Bool, true, false, List, [], ◌∷◌, ◌++◌, Option, length, drop, take, get_or, map, refl, sym, ap, ◌∙◌, add-one}
use Rattle.std.specs.Prelude.{◌||◌}
use Rattle.std.specs.List.{flat_map}
use Rattle.std.proofs.Math.Seq.{take-suc}
use Rattle.std.proofs.lemmas.Grind.{flat_map-append}
use Rattle.std.proofs.lemmas.List.{map-append, append-nil}
use Rattle.std.proofs.lemmas.List.Folds.{flat_map-map}
use Rattle.xdg_base.specs.declared.faults.Cause.TheVariants as causes
use Rattle.xdg_base.specs.declared.faults.Fault.{Fault}
use Rattle.xdg_ast.specs.declared.names.Name.{Name}
use Rattle.xdg_ast.specs.declared.names.Spanned.{Spanned}
use Rattle.xdg_ast.specs.declared.terms.TermKind.{TermKind}
use Rattle.xdg_ast.specs.declared.terms.ElemKind.{ElemKind, out-ElemKind}
use Rattle.xdg_ast.specs.declared.terms.ElemKind.TheOpen.{ElemKind-F}
use Rattle.xdg_ast.specs.declared.terms.GenKind.{GenKind}
use Rattle.xdg_ast.specs.declared.terms.GenKind.TheVariants as g
use Rattle.xdg_ast.specs.declared.terms.GenKind.TheOpen.{GenKind-F}
use Rattle.xdg_ast.specs.declared.terms.GenKind.TheFolds.{fold-roll-GenKind}
use Rattle.xdg_domain.specs.declared.types.Ty.{Ty}
use Rattle.xdg_domain.specs.Shapes.{shape, shapes_of, constants, constants_of, in_a_row}
use Rattle.xdg_names.specs.First.{earlier, first}
use Rattle.xdg_names.proofs.First.{first_turn, first_change}
use Rattle.xdg_terms.specs.Faults.{missing, missing_in_turn, texts_of, keys, key_in, key_of, key_faults_in, key_faults, twice, all_twice}
use Rattle.xdg_terms.specs.Offences.{gen_names, gen_step}
use Rattle.xdg_names.specs.Texts.{has_text}
use Rattle.xdg_names.proofs.Texts.{has_text-append}
use Rattle.xdg_facts.proofs.Lists.{from_place}

pub each_turn : {A : Type 0} (g : A → List Fault) (xs : List A) (i : ℕ) (x : A) (found next now total : Option Fault)
    → i < length xs → x ≡ get_or xs i x → next ≡ first (g x) → now ≡ earlier found next → earlier found (first (flat_map g (drop i xs))) ≡ total → earlier now (first (flat_map g (drop (i + 1) xs))) ≡ total
each_turn g xs i x found next now total = first_turn (flat_map g) (g x) x (λ ys. refl) xs i found next now total

-- one more name, at the domain of its place
pub name_turn : (left rest : List Ty) (type : Ty) (texts : List (List ℕ)) (names : List Name) (i : ℕ) (name : Name) (found next now total : Option Fault)
    → left ≡ type ∷ rest → texts ≡ constants (shape type) → i < length names → name ≡ get_or names i name → next ≡ first (missing causes.NotMember texts name) → now ≡ earlier found next
    → earlier found (first (missing_in_turn (constants_of (shapes_of (map shape left))) (drop i names))) ≡ total → earlier now (first (missing_in_turn (constants_of (shapes_of (map shape rest))) (drop (i + 1) names))) ≡ total
name_turn left rest type texts names i name found next now total front domain within is new sum so_far =
    first_change (λ ns. missing_in_turn (constants_of (shapes_of (map shape (type ∷ rest)))) ns) (λ ns. missing_in_turn (constants_of (shapes_of (map shape rest))) ns) (missing causes.NotMember (constants (shape type)) name) name (λ xs. refl)
    names i found next now total within is (new ∙ ap (λ ts. first (missing causes.NotMember ts name)) domain) sum (ap (λ ts. earlier found (first (missing_in_turn (constants_of (shapes_of (map shape ts))) (drop i names)))) (sym front) ∙ so_far)

-- ---- a text among those of the items

module _ {A : Type 0} (here : A → List (List ℕ)) (all : List A → List (List ℕ)) (each : (x : A) (xs : List A) → all (x ∷ xs) ≡ here x ++ all xs) where
  any_turn : (xs : List A) (i : ℕ) (x : A) (text : List ℕ) → i < length xs → x ≡ get_or xs i x → has_text (all (drop i xs)) text ≡ (has_text (here x) text || has_text (all (drop (i + 1) xs)) text)
  any_turn xs i x text within is =
      ap (λ ys. has_text (all ys) text) (from_place xs i x within is) ∙ ap (λ ts. has_text ts text) (each x (drop (i + 1) xs)) ∙ has_text-append (here x) (all (drop (i + 1) xs)) text

  pub found_here : (xs : List A) (i : ℕ) (x : A) (text : List ℕ) (total : Bool) → i < length xs → x ≡ get_or xs i x → has_text (here x) text ≡ true → has_text (all (drop i xs)) text ≡ total → true ≡ total
  found_here xs i x text total within is at_x so_far = sym (ap (λ b. b || has_text (all (drop (i + 1) xs)) text) at_x) ∙ sym (any_turn xs i x text within is) ∙ so_far

  pub passed_here : (xs : List A) (i : ℕ) (x : A) (text : List ℕ) (total : Bool) → i < length xs → x ≡ get_or xs i x → has_text (here x) text ≡ false → has_text (all (drop i xs)) text ≡ total → has_text (all (drop (i + 1) xs)) text ≡ total
  passed_here xs i x text total within is at_x so_far = sym (ap (λ b. b || has_text (all (drop (i + 1) xs)) text) at_x) ∙ sym (any_turn xs i x text within is) ∙ so_far

-- the constants of domains in a row
pub row_texts : (type : Ty) (types : List Ty) → in_a_row (constants_of (shapes_of (map shape (type ∷ types)))) ≡ constants (shape type) ++ in_a_row (constants_of (shapes_of (map shape types)))
row_texts type types = refl

-- the keys of elements
pub keys_texts : (elem : Spanned ElemKind) (elems : List (Spanned ElemKind)) → texts_of (keys (elem ∷ elems)) ≡ texts_of (key_of elem) ++ texts_of (keys elems)
keys_texts elem elems = map-append (λ (name : Name). name.text) (key_of elem) (keys elems)

-- ---- keys that stand twice

twice_layer : (before : List Name) (l : ElemKind-F ElemKind TermKind) (after : List Name) → all_twice before (key_in l ++ after) ≡ key_faults_in (twice before) l ++ all_twice (before ++ key_in l) after
twice_layer before (ElemKind-F.Count name written) after = refl
twice_layer before (ElemKind-F.Keyed name t) after = refl
twice_layer before (ElemKind-F.ElemKind::Const name) after = ap (λ names. all_twice names after) (sym (append-nil before))
twice_layer before (ElemKind-F.ElemKind::Tuple names) after = ap (λ names. all_twice names after) (sym (append-nil before))

twice_more : (before : List Name) (x : Spanned ElemKind) (xs : List (Spanned ElemKind)) → all_twice before (keys (x ∷ xs)) ≡ key_faults (twice before) x ++ all_twice (before ++ key_of x) (keys xs)
unfolding key_faults key_of
twice_more before x xs = twice_layer before (out-ElemKind x.kind) (keys xs)

keys_more : (xs : List (Spanned ElemKind)) (i : ℕ) (x : Spanned ElemKind) → i < length xs → x ≡ get_or xs i x → keys (take (i + 1) xs) ≡ keys (take i xs) ++ key_of x
keys_more xs i x within is =
    rw (add-one, take-suc xs i x) (flat_map-append key_of (take i xs) (get_or xs i x ∷ []) ∙ ap (λ ys. keys (take i xs) ++ ys) (append-nil (key_of (get_or xs i x)) ∙ ap key_of (sym is)))

pub twice_turn : (xs : List (Spanned ElemKind)) (i : ℕ) (x : Spanned ElemKind) (found next now total : Option Fault)
    → i < length xs → x ≡ get_or xs i x → next ≡ first (key_faults (twice (keys (take i xs))) x) → now ≡ earlier found next
    → earlier found (first (all_twice (keys (take i xs)) (keys (drop i xs)))) ≡ total → earlier now (first (all_twice (keys (take (i + 1) xs)) (keys (drop (i + 1) xs)))) ≡ total
twice_turn xs i x found next now total within is new sum so_far =
    ap (λ names. earlier now (first (all_twice names (keys (drop (i + 1) xs))))) (keys_more xs i x within is)
    ∙ first_change (λ es. all_twice (keys (take i xs)) (keys es)) (λ es. all_twice (keys (take i xs) ++ key_of x) (keys es)) (key_faults (twice (keys (take i xs))) x) x (twice_more (keys (take i xs)) x) xs i found next now total within is new sum so_far

-- ---- generators

pub names_of_and : (members : List (Spanned GenKind)) → flat_map (λ (member : Spanned GenKind). gen_names member.kind) members ≡ gen_names (g.And members)
names_of_and members = sym (ap gen_names (sym (g.rolls-And members)) ∙ fold-roll-GenKind (List Name) gen_step (GenKind-F.And members) ∙ flat_map-map _ _ members)

pub names_of_or : (members : List (Spanned GenKind)) → flat_map (λ (member : Spanned GenKind). gen_names member.kind) members ≡ gen_names (g.Or members)
names_of_or members = sym (ap gen_names (sym (g.rolls-Or members)) ∙ fold-roll-GenKind (List Name) gen_step (GenKind-F.Or members) ∙ flat_map-map _ _ members)

pub members_turn : (rule : Name → List Fault) (members : List (Spanned GenKind)) (i : ℕ) (x : Spanned GenKind) (found next now total : Option Fault)
    → i < length members → x ≡ get_or members i x → next ≡ first (flat_map rule (gen_names x.kind)) → now ≡ earlier found next
    → earlier found (first (flat_map rule (flat_map (λ member. gen_names member.kind) (drop i members)))) ≡ total → earlier now (first (flat_map rule (flat_map (λ member. gen_names member.kind) (drop (i + 1) members)))) ≡ total
members_turn rule members i x found next now total =
    first_turn (λ ms. flat_map rule (flat_map (λ (member : Spanned GenKind). gen_names member.kind) ms)) (flat_map rule (gen_names x.kind)) x (λ ms. flat_map-append rule (gen_names x.kind) (flat_map (λ (member : Spanned GenKind). gen_names member.kind) ms)) members i found next now total
