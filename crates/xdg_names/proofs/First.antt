-- Laws of the first of several faults.
use Rattle.std.proofs.Common.{◌≡◌, ℕ, suc, ◌+◌, length, drop, get_or, add-one, drop-cons, ◌<◌, ◌⊎◌, inl, inr, Bool, true, false, List, [], ◌∷◌, ◌++◌, Option, Some, None, refl, sym, ap, ◌∙◌, subst, arith, ◌≤◌}
use Rattle.std.specs.Prelude.{if◌then◌else◌}
use Rattle.std.proofs.lemmas.Bool.Decides.{nat_tests}
use Rattle.std.proofs.lemmas.Bool.{cases_eq}
use Rattle.xdg_base.specs.declared.faults.Fault.{Fault}
use Rattle.xdg_names.specs.First.{is_before, earlier, first, IsFirstOf, Tells, Below}
use Rattle.xdg_facts.specs.Membership.{In}
use Rattle.std.proofs.lemmas.List.{at_drop_all}

is_first : (a b : Fault) → is_before b a ≡ false → IsFirstOf a b
is_first a b h = grind (arith, nat_tests)

is_first_too : (a b : Fault) → is_before b a ≡ true → IsFirstOf b a
is_first_too a b h = grind (arith, nat_tests)

follows : (a b c : Fault) → IsFirstOf a b → IsFirstOf b c → IsFirstOf a c
follows a b c h k = grind arith

pick_left : (x y : Fault) → is_before y x ≡ false → earlier (Some x) (Some y) ≡ Some x
pick_left x y h = rw h

pick_right : (x y : Fault) → is_before y x ≡ true → earlier (Some x) (Some y) ≡ Some y
pick_right x y h = rw h

before_both : (x y z : Fault) → is_before y x ≡ true → is_before z y ≡ true → is_before z x ≡ true
before_both x y z h k = grind (arith, nat_tests)

not_before_both : (x y z : Fault) → is_before y x ≡ false → is_before z y ≡ false → is_before z x ≡ false
not_before_both x y z h k = grind (arith, nat_tests)

assoc_by : (x y z : Fault) (p q : Bool) → is_before y x ≡ p → is_before z y ≡ q → earlier (earlier (Some x) (Some y)) (Some z) ≡ earlier (Some x) (earlier (Some y) (Some z))
assoc_by x y z true true a b =
    ap (λ o. earlier o (Some z)) (pick_right x y a) ∙ pick_right y z b ∙ sym (pick_right x z (before_both x y z a b)) ∙ sym (ap (earlier (Some x)) (pick_right y z b))
assoc_by x y z true false a b =
    ap (λ o. earlier o (Some z)) (pick_right x y a) ∙ pick_left y z b ∙ sym (pick_right x y a) ∙ sym (ap (earlier (Some x)) (pick_left y z b))
assoc_by x y z false true a b =
    ap (λ o. earlier o (Some z)) (pick_left x y a) ∙ sym (ap (earlier (Some x)) (pick_right y z b))
assoc_by x y z false false a b =
    ap (λ o. earlier o (Some z)) (pick_left x y a) ∙ pick_left x z (not_before_both x y z a b) ∙ sym (pick_left x y a) ∙ sym (ap (earlier (Some x)) (pick_left y z b))

pub earlier-assoc : (a b c : Option Fault) → earlier (earlier a b) c ≡ earlier a (earlier b c)
earlier-assoc None b c = refl
earlier-assoc (Some x) None c = refl
earlier-assoc (Some x) (Some y) None = elim (is_before y x) as (λ v. earlier (if v then Some y else Some x) None ≡ (if v then Some y else Some x)) [ true ↦ refl | false ↦ refl ]
earlier-assoc (Some x) (Some y) (Some z) = assoc_by x y z (is_before y x) (is_before z y) refl refl

pub earlier-none : (a : Option Fault) → earlier a None ≡ a
earlier-none None = refl
earlier-none (Some x) = refl

pub first_append : (xs ys : List Fault) → first (xs ++ ys) ≡ earlier (first xs) (first ys)
first_append [] ys = refl
first_append (x ∷ xs) ys = ap (earlier (Some x)) (first_append xs ys) ∙ sym (earlier-assoc (Some x) (first xs) (first ys))

-- The law of two sets of offences.
module _ (P Q : Fault → Type 0) where
  both_by : (x y : Fault) (v : Bool) → is_before y x ≡ v → P x → ((f : Fault) → P f → IsFirstOf x f) → Q y → ((f : Fault) → Q f → IsFirstOf y f) → Tells (λ f. P f ⊎ Q f) (earlier (Some x) (Some y))
  both_by x y true h px lx qy ly = rw h (inr qy, λ f e. elim e [ inl p ↦ follows y x f (is_first_too x y h) (lx f p) | inr q ↦ ly f q ])
  both_by x y false h px lx qy ly = rw h (inl px, λ f e. elim e [ inl p ↦ lx f p | inr q ↦ follows x y f (is_first x y h) (ly f q) ])

  pub tells_both : (a b : Option Fault) → Tells P a → Tells Q b → Tells (λ f. P f ⊎ Q f) (earlier a b)
  tells_both None None h k = λ f e. elim e [ inl p ↦ h f p | inr q ↦ k f q ]
  tells_both None (Some y) h k = (inr k.0, λ f e. elim e [ inl p ↦ absurd (h f p) | inr q ↦ k.1 f q ])
  tells_both (Some x) None h k = (inl h.0, λ f e. elim e [ inl p ↦ h.1 f p | inr q ↦ absurd (k f q) ])
  tells_both (Some x) (Some y) h k = both_by x y (is_before y x) refl h.0 h.1 k.0 k.1

-- Another way to say the same offences.
pub tells_as : (P Q : Fault → Type 0) → ((f : Fault) → P f → Q f) → ((f : Fault) → Q f → P f) → (a : Option Fault) → Tells P a → Tells Q a
tells_as P Q to from None h = λ f q. h f (from f q)
tells_as P Q to from (Some x) h = (to x h.0, λ f q. h.1 f (from f q))

pub itself : (x : Fault) → IsFirstOf x x
itself x = grind arith

tells_one : (x : Fault) → Tells (λ f. x ≡ f) (Some x)
tells_one x = (refl, λ f e. subst (IsFirstOf x) e (itself x))

pub first-tells : (fs : List Fault) → Tells (In fs) (first fs)
first-tells [] = λ f e. e
first-tells (x ∷ fs) = tells_both (λ f. x ≡ f) (In fs) (Some x) (first fs) (tells_one x) (first-tells fs)

-- A turn of a loop that keeps the first of what it has found and looks at the items in order: `rest` is what is wrong
-- in the items from x on, `here` at x, and `after` in those after it.
pub first_change : {A : Type 0} (rest after : List A → List Fault) (here : List Fault) (x : A) → ((xs : List A) → rest (x ∷ xs) ≡ here ++ after xs) → (xs : List A) (i : ℕ) (found next now total : Option Fault)
    → i < length xs → x ≡ get_or xs i x → next ≡ first here → now ≡ earlier found next → earlier found (first (rest (drop i xs))) ≡ total → earlier now (first (after (drop (i + 1) xs))) ≡ total
first_change rest after here x each xs i found next now total within is new sum so_far =
    let left = first (after (drop (i + 1) xs)) in
    let front : drop i xs ≡ x ∷ drop (i + 1) xs = rw (add-one, drop-cons xs i x) (ap (λ y. y ∷ drop (suc i) xs) (sym is)) in
    let parts : first (rest (drop i xs)) ≡ earlier (first here) left = ap (λ ys. first (rest ys)) front ∙ ap first (each (drop (i + 1) xs)) ∙ first_append here (after (drop (i + 1) xs)) in
    ap (λ o. earlier o left) (sum ∙ ap (earlier found) new) ∙ earlier-assoc found (first here) left ∙ ap (earlier found) (sym parts) ∙ so_far

-- The same where each item is judged alike.
pub first_turn : {A : Type 0} (all : List A → List Fault) (here : List Fault) (x : A) → ((xs : List A) → all (x ∷ xs) ≡ here ++ all xs) → (xs : List A) (i : ℕ) (found next now total : Option Fault)
    → i < length xs → x ≡ get_or xs i x → next ≡ first here → now ≡ earlier found next → earlier found (first (all (drop i xs))) ≡ total → earlier now (first (all (drop (i + 1) xs))) ≡ total
first_turn all = first_change all all

-- A turn of a loop over numbers, whose offences are told by a relation.
pub tells_next : (P : ℕ → Fault → Type 0) (i : ℕ) (found next now : Option Fault) → Tells (Below P i) found → Tells (P i) next → now ≡ earlier found next → Tells (Below P (i + 1)) now
tells_next P i found next now h k sum = subst (Tells (Below P (i + 1))) (sym sum) (tells_as (λ f. Below P i f ⊎ P i f) (Below P (i + 1))
    (λ f e. elim e [ inl b ↦ (b.0, (omega (arith, b.1.0), b.1.1)) | inr p ↦ (i, (omega arith, p)) ])
    (λ f b. elim (cases_eq b.0 i) [ inl e ↦ inr (subst (λ j. P j f) e b.1.1) | inr ne ↦ inl (b.0, (omega (arith, b.1.0, ne), b.1.1)) ])
    (earlier found next) (tells_both (Below P i) (P i) found next h k))

-- at the end of a loop nothing is left
pub found_all : {A : Type 0} (all : List A → List Fault) → all [] ≡ [] → (xs : List A) (i : ℕ) (found total : Option Fault) → length xs ≤ i → earlier found (first (all (drop i xs))) ≡ total → found ≡ total
found_all all none xs i found total over so_far =
    let e : all (drop i xs) ≡ all [] = at_drop_all all xs i over in
    sym (earlier-none found) ∙ ap (λ fs. earlier found (first fs)) (sym none ∙ sym e) ∙ so_far
