-- What is said of keys, key after key.
use Rattle.std.proofs.Common.{◌≡◌, ℕ, ◌<◌, ◌+◌, zero, suc, List, [], ◌∷◌, ◌++◌, length, get_or, drop, Option, None, Some, ap, ap₂, sym, ◌∙◌, arith, subst, append_assoc}
use Rattle.xdg_domain.specs.declared.types.Ty.{Ty}
use Rattle.xdg_domain.specs.declared.types.Ty.TheVariants as ty
use Rattle.xdg_domain.specs.declared.values.Value.{Value}
use Rattle.xdg_domain.specs.declared.values.Value.TheVariants as v
use Rattle.xdg_domain.specs.Keys.{KeysBelow}
use Rattle.xdg_domain.specs.Shapes.{shape, fields, field_then, IsType, AreTypes}
use Rattle.xdg_domain.proofs.KeyAfterKey.{below_more}
use Rattle.xdg_domain.proofs.Opened.{shape_record}
use Rattle.xdg_domain.specs.Values.{EachSaid}
use Rattle.xdg_terms.specs.Fitting.{FitsIn, FitsField, Fits}
use Rattle.xdg_terms.specs.Forms.{Term, Bindings, bound, keyed_elem}
use Rattle.xdg_domain.specs.Joined.{fields_in}
use Rattle.xdg_terms.specs.Built.{Elem, put, said_from, first_for, built, fields_from, elems_of}
use Rattle.xdg_facts.proofs.Lists.{from_place}

pub below_skip : {V : Type 0} (s : List (ℕ × V)) (key : ℕ) → KeysBelow key s → KeysBelow (key + 1) s
below_skip [] key h = tt
below_skip (entry ∷ s) key h = (omega (arith, h.0), below_skip s key h.1)

pub below_pushed : {V : Type 0} (s new : List (ℕ × V)) (key : ℕ) (x : V) → new ≡ s ++ (key, x) ∷ [] → KeysBelow key s → KeysBelow (key + 1) new
below_pushed s new key x is h = subst (KeysBelow (key + 1)) (sym is) (below_more s key x h)

-- ---- keys

module _ {A V : Type 0} (make : A → V) (find : List ℕ → Option A) (cs : List (List ℕ)) (k : ℕ) (x : List ℕ) (made whole : List (ℕ × V)) where
  said_turn : k < length cs → x ≡ get_or cs k x → made ++ said_from make find k (drop k cs) ≡ whole → made ++ put make k (find x) (said_from make find (k + 1) (drop (k + 1) cs)) ≡ whole
  said_turn within is before = sym (ap (λ l. made ++ said_from make find k l) (from_place cs k x within is)) ∙ before

  pub said_none : k < length cs → x ≡ get_or cs k x → find x ≡ None → made ++ said_from make find k (drop k cs) ≡ whole → made ++ said_from make find (k + 1) (drop (k + 1) cs) ≡ whole
  said_none within is none before = sym (ap (λ o. made ++ put make k o (said_from make find (k + 1) (drop (k + 1) cs))) none) ∙ said_turn within is before

  pub said_some : (written : A) (v : V) (new : List (ℕ × V)) → k < length cs → x ≡ get_or cs k x → find x ≡ Some written → v ≡ make written → new ≡ made ++ (k, v) ∷ [] → made ++ said_from make find k (drop k cs) ≡ whole
      → new ++ said_from make find (k + 1) (drop (k + 1) cs) ≡ whole
  said_some written v new within is some value pushed before =
      let rest = said_from make find (k + 1) (drop (k + 1) cs) in
      ap (λ l. l ++ rest) (pushed ∙ ap (λ (y : V). made ++ (k, y) ∷ []) value)
      ∙ append_assoc made ((k, make written) ∷ []) rest
      ∙ sym (ap (λ o. made ++ put make k o rest) some)
      ∙ said_turn within is before

-- ---- fields

next_fields : (fs : List (List ℕ × Ty)) (k : ℕ) (f : List ℕ × Ty) → k < length fs → f ≡ get_or fs k f → fields_in (drop k fs) ≡ field_then f.0 (shape f.1) (fields_in (drop (k + 1) fs))
next_fields fs k f within is = ap fields_in (from_place fs k f within is)

pub type_at : (fs : List (List ℕ × Ty)) (k : ℕ) (f : List ℕ × Ty) → k < length fs → f ≡ get_or fs k f → AreTypes (fields_in fs) → IsType (shape f.1)
type_at [] k f within is h = absurd (omega (arith, within))
type_at (g ∷ fs) zero f within is h = subst (λ z. IsType (shape z.1)) (sym is) h.0
type_at (g ∷ fs) (suc k) f within is h = type_at fs k f (omega (arith, within)) is h.1

module _ (bs : Bindings) (elems : List Elem) (fs : List (List ℕ × Ty)) (k : ℕ) (f : List ℕ × Ty) (made whole : List (ℕ × Value)) where
  field_turn : k < length fs → f ≡ get_or fs k f → made ++ fields_from bs (fields_in (drop k fs)) elems k ≡ whole
      → made ++ put (λ (written : Term). built bs (shape f.1) written) k (first_for keyed_elem elems f.0) (fields_from bs (fields_in (drop (k + 1) fs)) elems (k + 1)) ≡ whole
  field_turn within is before = sym (ap (λ l. made ++ fields_from bs l elems k) (next_fields fs k f within is)) ∙ before

  pub field_some : (written : Term) (v : Value) (key : ℕ) (new : List (ℕ × Value)) → k < length fs → f ≡ get_or fs k f → first_for keyed_elem elems f.0 ≡ Some written → v ≡ built bs (shape f.1) written → key ≡ k → new ≡ made ++ (key, v) ∷ []
      → made ++ fields_from bs (fields_in (drop k fs)) elems k ≡ whole → new ++ fields_from bs (fields_in (drop (k + 1) fs)) elems (k + 1) ≡ whole
  field_some written v key new within is some value same pushed before =
      let rest = fields_from bs (fields_in (drop (k + 1) fs)) elems (k + 1) in
      ap (λ l. l ++ rest) (pushed ∙ ap₂ (λ (j : ℕ) (y : Value). made ++ (j, y) ∷ []) same value)
      ∙ append_assoc made ((k, built bs (shape f.1) written) ∷ []) rest
      ∙ sym (ap (λ o. made ++ put (λ (t : Term). built bs (shape f.1) t) k o rest) some)
      ∙ field_turn within is before

-- ---- record types

pub field_types : (type : Ty) (fs items : List (List ℕ × Ty)) → type ≡ ty.Rec fs → items ≡ fs → IsType (shape type) → AreTypes (fields_in items)
field_types type fs items is same h =
    let e : shape type ≡ fields (fields_in items) = ap shape is ∙ shape_record fs ∙ ap (λ l. fields (fields_in l)) (sym same) in
    (subst IsType e h).1

pub record_built : (type : Ty) (fs items : List (List ℕ × Ty)) (bs : Bindings) (t inner : Term) (elems : List Elem) (made : List (ℕ × Value)) → type ≡ ty.Rec fs → items ≡ fs → inner ≡ bound bs t → elems ≡ elems_of inner
    → made ≡ fields_from bs (fields_in items) elems 0 → v.Rec made ≡ built bs (shape type) t
record_built type fs items bs t inner elems made is same below parts whole =
    ap v.Rec (whole ∙ ap₂ (λ (l : List (List ℕ × Ty)) (es : List Elem). fields_from bs (fields_in l) es 0) same (parts ∙ ap elems_of below))
    ∙ sym (ap (λ s. built bs s t) (ap shape is ∙ shape_record fs))

-- ---- the numbers of fields are in range

each_more : {V : Type 0} (P : ℕ → V → Type 0) (made : List (ℕ × V)) (key : ℕ) (x : V) → EachSaid P made → P key x → EachSaid P (made ++ (key, x) ∷ [])
each_more P [] key x h p = (p, tt)
each_more P (entry ∷ s) key x h p = (h.0, each_more P s key x h.1 p)

pub each_pushed : {V : Type 0} (P : ℕ → V → Type 0) (made new : List (ℕ × V)) (key : ℕ) (x : V) → new ≡ made ++ (key, x) ∷ [] → EachSaid P made → P key x → EachSaid P new
each_pushed P made new key x is h p = subst (EachSaid P) (sym is) (each_more P made key x h p)

pub field_fits : (fs : List (List ℕ × Ty)) (k : ℕ) (f : List ℕ × Ty) (x : Value) → k < length fs → f ≡ get_or fs k f → Fits (shape f.1) x → FitsField (fields_in fs) k x
field_fits [] k f x within is h = absurd (omega (arith, within))
field_fits (g ∷ fs) zero f x within is h = subst (λ z. Fits (shape z.1) x) is h
field_fits (g ∷ fs) (suc k) f x within is h = field_fits fs k f x (omega (arith, within)) is h

pub record_fits : (type : Ty) (fs items : List (List ℕ × Ty)) (made : List (ℕ × Value)) → type ≡ ty.Rec fs → items ≡ fs → EachSaid (FitsField (fields_in items)) made → Fits (shape type) (v.Rec made)
record_fits type fs items made is same h =
    let e : shape type ≡ fields (fields_in items) = ap shape is ∙ shape_record fs ∙ ap (λ l. fields (fields_in l)) (sym same) in
    subst (λ s. Fits s (v.Rec made)) (sym e) (subst (FitsIn (fields (fields_in items))) (sym (v.outs-Rec made)) h)
