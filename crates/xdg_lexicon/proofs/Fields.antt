-- The features of a dimension, by their places.
use Rattle.std.proofs.Common.{◌≡◌, ◌↔◌, ℕ, zero, suc, ◌<◌, ◌≤◌, List, [], ◌∷◌, length, get_or, refl, sym, arith, subst}
use Rattle.std.specs.Prelude.{Option, None, Some, IfSome, MatchOption}
use Rattle.xdg_ast.specs.declared.names.Name.{Name}
use Rattle.xdg_domain.specs.Joined.{fields_in}
use Rattle.xdg_domain.specs.Joins.{Both, SaysBoth, Joins, JoinsField, OnBoth, OnSome, Clashes, ClashesField}
use Rattle.xdg_domain.specs.Shapes.{shape, Fields, field_then}
use Rattle.xdg_domain.specs.Valencies.{said_at, KeysRise}
use Rattle.xdg_domain.specs.Values.{IsValue, IsFieldOf}
use Rattle.xdg_domain.specs.declared.types.Ty.{Ty}
use Rattle.xdg_domain.specs.declared.values.Value.{Value}
use Rattle.xdg_domain.proofs.Keyed.{said_right, right_said, both_changes}
use Rattle.xdg_terms.specs.Forms.{Term, Bindings}
use Rattle.xdg_terms.specs.Means.{Means, MeansField, Said, written_for}
use Rattle.xdg_classes.specs.Bodies.{Pairs}
use Rattle.xdg_lexicon.specs.Made.{IsMade}
use Rattle.xdg_lexicon.specs.Partial.{Record, IsRecord, SaysFields, written}
use Rattle.xdg_lexicon.proofs.Made.{all}
use Rattle.xdg_facts.proofs.Lists.{if_some}

-- ---- the feature with a place

abbrev pub All : Type 0
All = List (List ℕ × Ty)

-- what holds of the field with that place is what holds of the feature there
at_field : (P : Fields → ℕ → Type 0) (Q : List ℕ × Ty → Type 0) → ((g : List ℕ × Ty) (gs : Fields) → P (field_then g.0 (shape g.1) gs) 0 ↔ Q g) → ((g : List ℕ × Ty) (gs : Fields) (k : ℕ) → P (field_then g.0 (shape g.1) gs) (suc k) ↔ P gs k)
    → (fs : All) (k : ℕ) (f : List ℕ × Ty) → k < length fs → f ≡ get_or fs k f → P (fields_in fs) k ↔ Q f
at_field P Q here later [] k f within is = absurd (omega (arith, within))
at_field P Q here later (g ∷ fs) zero f within is = rw is (here g (fields_in fs))
at_field P Q here later (g ∷ fs) (suc k) f within is =
    let inner = at_field P Q here later fs k f (omega (arith, within)) is in
    let both = later g (fields_in fs) k in
    (λ h. inner.0 (both.0 h), λ h. both.1 (inner.1 h))

joins_at : (fs : All) (k : ℕ) (f : List ℕ × Ty) (x y z : Value) → k < length fs → f ≡ get_or fs k f → Joins (shape f.1) x y z → JoinsField (fields_in fs) k x y z
joins_at fs k f x y z within is = (at_field (λ gs j. JoinsField gs j x y z) (λ g. Joins (shape g.1) x y z) (λ _ _. (λ h. h, λ h. h)) (λ _ _ _. (λ h. h, λ h. h)) fs k f within is).1

clashes_at : (fs : All) (k : ℕ) (f : List ℕ × Ty) (x y : Value) → k < length fs → f ≡ get_or fs k f → Clashes (shape f.1) x y → ClashesField (fields_in fs) k x y
clashes_at fs k f x y within is = (at_field (λ gs j. ClashesField gs j x y) (λ g. Clashes (shape g.1) x y) (λ _ _. (λ h. h, λ h. h)) (λ _ _ _. (λ h. h, λ h. h)) fs k f within is).1

value_at : (fs : All) (k : ℕ) (f : List ℕ × Ty) (x : Value) → k < length fs → f ≡ get_or fs k f → IsFieldOf (fields_in fs) k x ↔ IsValue (shape f.1) x
value_at fs k f x = at_field (λ gs j. IsFieldOf gs j x) (λ g. IsValue (shape g.1) x) (λ _ _. (λ h. h, λ h. h)) (λ _ _ _. (λ h. h, λ h. h)) fs k f

pub field_within : (fs : All) (k : ℕ) (x : Value) → IsFieldOf (fields_in fs) k x → k < length fs
field_within [] k x h = absurd h
field_within (g ∷ fs) zero x h = omega arith
field_within (g ∷ fs) (suc k) x h = (let r = field_within fs k x h in omega (arith, r))

means_at : (bs : Bindings) (fs : All) (pairs : List (Name × Term)) (k : ℕ) (f : List ℕ × Ty) (said : Option Value) → k < length fs → f ≡ get_or fs k f
    → Said (Means bs (shape f.1)) (written_for pairs f.0) said → MeansField bs (fields_in fs) pairs k said
means_at bs fs pairs k f said within is =
    (at_field (λ gs j. MeansField bs gs pairs j said) (λ g. Said (Means bs (shape g.1)) (written_for pairs g.0) said) (λ _ _. (λ h. h, λ h. h)) (λ _ _ _. (λ h. h, λ h. h)) fs k f within is).1

means_none : (bs : Bindings) (fs : All) (pairs : List (Name × Term)) (k : ℕ) → length fs ≤ k → MeansField bs (fields_in fs) pairs k None
means_none bs [] pairs k order = refl
means_none bs (g ∷ fs) pairs zero order = absurd (omega (arith, order))
means_none bs (g ∷ fs) pairs (suc k) order = means_none bs fs pairs k (omega (arith, order))

-- ---- what is said of a feature

pub said_value : (fs : All) (m : Record) (k : ℕ) (f : List ℕ × Ty) → k < length fs → f ≡ get_or fs k f → IsRecord (fields_in fs) m → IfSome (said_at m k) (IsValue (shape f.1))
said_value fs m k f within is right = if_some (IsValue (shape f.1)) (said_at m k) (λ x e. (value_at fs k f x within is).0 (said_right (IsFieldOf (fields_in fs)) m k x right.1 e))

said_nothing : (fs : All) (m : Record) (k : ℕ) → length fs ≤ k → IsRecord (fields_in fs) m → said_at m k ≡ None
said_nothing fs m k order right = told (said_at m k) refl
  where
    told : (o : Option Value) → said_at m k ≡ o → said_at m k ≡ None
    told None e = e
    told (Some x) e = absurd (let w = field_within fs k x (said_right (IsFieldOf (fields_in fs)) m k x right.1 e) in omega (arith, w, order))

if_value : (fs : All) (k : ℕ) (f : List ℕ × Ty) (o : Option Value) → k < length fs → f ≡ get_or fs k f → IfSome o (IsValue (shape f.1)) → IfSome o (IsFieldOf (fields_in fs) k)
if_value fs k f None within is h = tt
if_value fs k f (Some x) within is h = (value_at fs k f x within is).1 h

record_of : (fs : All) (m : Record) → KeysRise 0 m → ((key : ℕ) → IfSome (said_at m key) (IsFieldOf (fields_in fs) key)) → IsRecord (fields_in fs) m
record_of fs m rises each = (rises, right_said (IsFieldOf (fields_in fs)) 0 m rises (λ key x is. subst (λ o. IfSome o (IsFieldOf (fields_in fs) key)) is (each key)))

-- ---- joins

-- what is made of a feature of which two say something
abbrev pub Joining : All → Record → Record → ℕ → Option Value → Type 0
Joining fs a b key c = Both (JoinsField (fields_in fs) key) (said_at a key) (said_at b key) c × IfSome c (IsFieldOf (fields_in fs) key)

on_changes : (fs : All) (k : ℕ) (f : List ℕ × Ty) (o p : Option Value) → k < length fs → f ≡ get_or fs k f → OnBoth (Clashes (shape f.1)) o p → OnBoth (ClashesField (fields_in fs) k) o p
on_changes fs k f None p within is h = absurd h
on_changes fs k f (Some x) None within is h = absurd h
on_changes fs k f (Some x) (Some y) within is h = clashes_at fs k f x y within is h

-- an answer tells what two say together, or that it can't hold together
module _ (fs : All) (a b : Record) (k : ℕ) (f : List ℕ × Ty) (o p : Option Value) (told : Option (Option Value)) where
  pub joined_told : (c : Option Value) → k < length fs → f ≡ get_or fs k f → o ≡ said_at a k → p ≡ said_at b k → told ≡ Some c
      → MatchOption told (OnBoth (Clashes (shape f.1)) o p) (λ (d : Option Value). Both (Joins (shape f.1)) o p d × IfSome d (IsValue (shape f.1))) → Joining fs a b k c
  joined_told c within is i j some h =
      let both = rw some at h in (
        rw (← i, ← j) (both_changes (Joins (shape f.1)) (JoinsField (fields_in fs) k) (λ x y z. joins_at fs k f x y z within is) o p c both.0),
        if_value fs k f c within is both.1,
      )

  pub clash_told : k < length fs → f ≡ get_or fs k f → o ≡ said_at a k → p ≡ said_at b k → told ≡ None
      → MatchOption told (OnBoth (Clashes (shape f.1)) o p) (λ (d : Option Value). Both (Joins (shape f.1)) o p d × IfSome d (IsValue (shape f.1))) → OnSome (ClashesField (fields_in fs)) a b
  clash_told within is i j none h = (k, rw (← i, ← j) (on_changes fs k f o p within is (rw none at h)))

pub joined_all : (fs : All) (a b : Record) (bound : ℕ) (made : Record) → IsRecord (fields_in fs) a → IsRecord (fields_in fs) b → length fs ≤ bound → IsMade (Joining fs a b) 0 bound made
    → SaysBoth (JoinsField (fields_in fs)) a b made × IsRecord (fields_in fs) made
joined_all fs a b bound made ra rb order m =
    let each = all (Joining fs a b) bound made m (λ key over. (
      subst (λ t. Both (JoinsField (fields_in fs) key) t (said_at b key) None) (sym (said_nothing fs a key (omega (arith, order, over)) ra)) (sym (said_nothing fs b key (omega (arith, order, over)) rb)),
      tt,
    )) in
    ((m.rises, λ key. (each key).0), record_of fs made m.rises (λ key. (each key).1))

-- ---- records that are read

abbrev pub Reading : Bindings → All → Pairs → ℕ → Option Value → Type 0
Reading bs fs pairs key c = MeansField bs (fields_in fs) (written pairs) key c × IfSome c (IsFieldOf (fields_in fs) key)

pub read_one : (bs : Bindings) (fs : All) (pairs : Pairs) (k : ℕ) (f : List ℕ × Ty) (o : Option Term) (c : Option Value) → k < length fs → f ≡ get_or fs k f → o ≡ written_for (written pairs) f.0
    → Said (Means bs (shape f.1)) o c × IfSome c (IsValue (shape f.1)) → Reading bs fs pairs k c
read_one bs fs pairs k f o c within is i h = (means_at bs fs (written pairs) k f c within is (subst (λ t. Said (Means bs (shape f.1)) t c) i h.0), if_value fs k f c within is h.1)

pub read_all : (bs : Bindings) (fs : All) (pairs : Pairs) (bound : ℕ) (made : Record) → length fs ≤ bound → IsMade (Reading bs fs pairs) 0 bound made
    → SaysFields bs (fields_in fs) pairs made × IsRecord (fields_in fs) made
read_all bs fs pairs bound made order m =
    let each = all (Reading bs fs pairs) bound made m (λ key over. (means_none bs fs (written pairs) key (omega (arith, order, over)), tt)) in
    ((m.rises, λ key. (each key).0), record_of fs made m.rises (λ key. (each key).1))
