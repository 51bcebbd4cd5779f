-- What is in a list that is made of others.
use Rattle.std.proofs.Common.{◌≡◌, ◌⊎◌, ◌∙◌, inl, inr, ℕ, zero, suc, map, cond, ◌+◌, ◌<◌, length, get_or, drop, add-one, drop-cons, arith, Bool, true, false, List, [], ◌∷◌, ◌++◌, refl, sym, ap, subst, eqb-true, All, take}
use Rattle.std.specs.Prelude.{if◌then◌else◌, slice_get, Some, filter, ◌≢◌, ◌==◌, ◌||◌, ◌↔◌}
use Rattle.std.specs.List.{flat_map, AllPairs, list_any}
use Rattle.std.proofs.lemmas.Bool.{true≢false, false≢true, cases_Bool}
use Rattle.xdg_facts.specs.Membership.{In, Differ}
use Rattle.std.proofs.lemmas.List.{get_or_default, get_or-map, length-map}
use Rattle.std.proofs.lemmas.List.Elements.{All-map, All-filter, filter_passes}
use Rattle.std.proofs.lemmas.Option.{slice_get-get_or}

pub in_append : {A : Type 0} (xs ys : List A) (x : A) → In (xs ++ ys) x → In xs x ⊎ In ys x
in_append [] ys x h = inr h
in_append (z ∷ xs) ys x h = elim h [ inl e ↦ inl (inl e) | inr k ↦ elim (in_append xs ys x k) [ inl l ↦ inl (inr l) | inr r ↦ inr r ] ]

pub in_left : {A : Type 0} (xs ys : List A) (x : A) → In xs x → In (xs ++ ys) x
in_left [] ys x h = absurd h
in_left (z ∷ xs) ys x h = elim h [ inl e ↦ inl e | inr k ↦ inr (in_left xs ys x k) ]

pub in_right : {A : Type 0} (xs ys : List A) (x : A) → In ys x → In (xs ++ ys) x
in_right [] ys x h = h
in_right (z ∷ xs) ys x h = inr (in_right xs ys x h)

module _ {A B : Type 0} (g : A → List B) where
  pub in_flat_map : (xs : List A) (y : B) → In (flat_map g xs) y → (x : A) × (In xs x × In (g x) y)
  in_flat_map [] y h = absurd h
  in_flat_map (z ∷ xs) y h = elim (in_append (g z) (flat_map g xs) y h) [ inl l ↦ (z, (inl refl, l)) | inr r ↦ (let k = in_flat_map xs y r in (k.0, (inr k.1.0, k.1.1))) ]

  pub flat_map_in : (xs : List A) (x : A) (y : B) → In xs x → In (g x) y → In (flat_map g xs) y
  flat_map_in [] x y h k = absurd h
  flat_map_in (z ∷ xs) x y h k = elim h [ inl e ↦ in_left (g z) (flat_map g xs) y (subst (λ w. In (g w) y) (sym e) k) | inr l ↦ in_right (g z) (flat_map g xs) y (flat_map_in xs x y l k) ]

-- a list of one, under a test
pub in_unless : {A : Type 0} (b : Bool) (x y : A) → In (if b then [] else x ∷ []) y → (b ≡ false) × (x ≡ y)
in_unless true x y h = absurd h
in_unless false x y h = elim h [ inl e ↦ (refl, e) | inr k ↦ absurd k ]

pub unless_in : {A : Type 0} (b : Bool) (x y : A) → b ≡ false → x ≡ y → In (if b then [] else x ∷ []) y
unless_in true x y h e = absurd (true≢false h)
unless_in false x y h e = inl e

pub in_when : {A : Type 0} (b : Bool) (x y : A) → In (if b then x ∷ [] else []) y → (b ≡ true) × (x ≡ y)
in_when false x y h = absurd h
in_when true x y h = elim h [ inl e ↦ (refl, e) | inr k ↦ absurd k ]

pub when_in : {A : Type 0} (b : Bool) (x y : A) → b ≡ true → x ≡ y → In (if b then x ∷ [] else []) y
when_in false x y h e = absurd (false≢true h)
when_in true x y h e = inl e

pub in_at : {A : Type 0} (xs : List A) (i : ℕ) (x : A) → i < length xs → x ≡ get_or xs i x → In xs x
in_at [] i x h e = absurd (omega arith)
in_at (y ∷ xs) zero x h e = inl (sym e)
in_at (y ∷ xs) (suc i) x h e = inr (in_at xs i x (omega arith) e)

-- the next item of those that are left
pub in_drop : {A : Type 0} (xs : List A) (i : ℕ) (x y : A) → i < length xs → x ≡ get_or xs i x → In (drop i xs) y → (x ≡ y) ⊎ In (drop (i + 1) xs) y
in_drop xs i x y h e k =
    let front : drop i xs ≡ x ∷ drop (i + 1) xs = rw (add-one, drop-cons xs i x) (ap (λ z. z ∷ drop (suc i) xs) (sym e)) in
    subst (λ zs. In zs y) front k

pub in_get : {A : Type 0} (xs : List A) (i : ℕ) (d : A) → i < length xs → In xs (get_or xs i d)
in_get [] i d h = absurd (omega arith)
in_get (y ∷ xs) zero d h = inl refl
in_get (y ∷ xs) (suc i) d h = inr (in_get xs i d (omega arith))

pub in_index : {A : Type 0} (xs : List A) (x d : A) → In xs x → (k : ℕ) × ((k < length xs) × (get_or xs k d ≡ x))
in_index [] x d h = absurd h
in_index (y ∷ xs) x d h = elim h [ inl e ↦ (0, (omega arith, e)) | inr l ↦ (let r = in_index xs x d l in (suc r.0, (omega (arith, r.1.0), r.1.1))) ]

-- what a place of the list holds
pub in_got : {A : Type 0} (xs : List A) (i : ℕ) (x : A) → slice_get xs i ≡ Some x → In xs x
in_got [] i x is = absurd (cc)
in_got (y ∷ xs) zero x is = inl (cc)
in_got (y ∷ xs) (suc i) x is = inr (in_got xs i x is)

-- where nothing stands twice, it stands at one place
pub differ_once : {A : Type 0} (xs : List A) (i j : ℕ) (x : A) → Differ xs → slice_get xs i ≡ Some x → slice_get xs j ≡ Some x → i ≡ j
differ_once [] i j x differ one other = absurd (cc)
differ_once (y ∷ xs) zero zero x differ one other = refl
differ_once (y ∷ xs) zero (suc j) x differ one other = absurd (differ.0 (let same : x ≡ y = cc in subst (In xs) same (in_got xs j x other)))
differ_once (y ∷ xs) (suc i) zero x differ one other = absurd (differ.0 (let same : x ≡ y = cc in subst (In xs) same (in_got xs i x one)))
differ_once (y ∷ xs) (suc i) (suc j) x differ one other = ap suc (differ_once xs i j x differ.1 one other)

pub in_map : {A B : Type 0} (g : A → B) (xs : List A) (y : B) → In (map g xs) y → (z : A) × (In xs z × (g z ≡ y))
in_map g [] y h = absurd h
in_map g (x ∷ xs) y h = elim h [ inl e ↦ (x, (inl refl, e)) | inr k ↦ (let r = in_map g xs y k in (r.0, (inr r.1.0, r.1.1))) ]

pub map_in : {A B : Type 0} (g : A → B) (xs : List A) (z : A) → In xs z → In (map g xs) (g z)
map_in g [] z h = absurd h
map_in g (x ∷ xs) z h = elim h [ inl e ↦ inl (ap g e) | inr k ↦ inr (map_in g xs z k) ]

-- what passes a test stands among those that pass it
pub filter_in : {A : Type 0} (test : A → Bool) (xs : List A) (x : A) → test x ≡ true → In xs x → In (filter test xs) x
filter_in test [] x t m = m
filter_in test (y ∷ ys) x t m = by (test y) refl (λ k. filter_in test ys x t k) m
  where
    by : (b : Bool) → test y ≡ b → (In ys x → In (filter test ys) x) → (y ≡ x) ⊎ In ys x → In (cond b (y ∷ filter test ys) (filter test ys)) x
    by true is more (inl e) = inl e
    by true is more (inr k) = inr (more k)
    by false is more (inl e) = absurd (true≢false (sym t ∙ ap test (sym e) ∙ is))
    by false is more (inr k) = more k

-- what stands in a list with an item is before it, is it, or is behind it
pub in_around : {A : Type 0} (xs : List A) (x : A) (ys : List A) (y : A) → In (xs ++ x ∷ ys) y → In xs y ⊎ ((x ≡ y) ⊎ In ys y)
in_around [] x ys y m = inr m
in_around (z ∷ xs) x ys y (inl e) = inl (inl e)
in_around (z ∷ xs) x ys y (inr m) = elim (in_around xs x ys y m) [ inl k ↦ inl (inr k) | inr k ↦ inr k ]

-- what stands in a list has a length
pub in_length : {A : Type 0} (xs : List A) (x : A) → In xs x → 0 < length xs
in_length [] x m = absurd m
in_length (y ∷ ys) x m = omega arith

pub at_once : {A : Type 0} (xs : List A) (x : A) → In xs x → (k : ℕ) × (slice_get xs k ≡ Some x)
at_once xs x h = let i = in_index xs x x h in (i.0, slice_get-get_or xs i.0 x i.1.0 ∙ ap Some i.1.1)

pub among_at : (cs : List (List ℕ)) (k : ℕ) (t : List ℕ) → k < length cs → get_or cs k [] ≡ t → In cs t
among_at cs k t within is = subst (In cs) is (in_get cs k [] within)

-- in a list whose texts all differ a text stands in one place
pub one_place : (cs : List (List ℕ)) (m n : ℕ) → Differ cs → m < length cs → n < length cs → get_or cs m [] ≡ get_or cs n [] → m ≡ n
one_place [] m n h within inside e = absurd (omega (arith, within))
one_place (c ∷ cs) zero zero h within inside e = refl
one_place (c ∷ cs) zero (suc n) h within inside e = absurd (h.0 (among_at cs n c (omega (arith, inside)) (sym e)))
one_place (c ∷ cs) (suc m) zero h within inside e = absurd (h.0 (among_at cs m c (omega (arith, within)) e))
one_place (c ∷ cs) (suc m) (suc n) h within inside e = ap suc (one_place cs m n h.1 (omega (arith, within)) (omega (arith, inside)) e)

pub differ_append : (xs ys : List (List ℕ)) → Differ xs → Differ ys → ((t : List ℕ) → In xs t → In ys t → ⊥) → Differ (xs ++ ys)
differ_append [] ys h k apart = k
differ_append (x ∷ xs) ys h k apart = (
  λ a. elim (in_append xs ys x a) [ inl l ↦ h.0 l | inr r ↦ apart x (inl refl) r ],
  differ_append xs ys h.1 k (λ t l r. apart t (inr l) r),
)

pub differ_all : (xs : List (List ℕ)) → Differ xs → AllPairs (λ (a b : List ℕ). a ≢ b) xs
differ_all xs h i j d before within e =
    let inside : i < length xs = omega (arith, before, within) in
    let same : i ≡ j = one_place xs i j h inside within (get_or_default xs i [] d inside ∙ e ∙ sym (get_or_default xs j [] d within)) in
    omega (arith, same, before)

-- what has different names differs by name
pub differ_by : {X : Type 0} (name : X → List ℕ) (xs : List X) → Differ (map name xs) → AllPairs (λ (a b : X). name a ≢ name b) xs
differ_by name xs h i j d before within e =
    let inside : i < length xs = omega (arith, before, within) in
    let here : get_or (map name xs) i [] ≡ name (get_or xs i d) = get_or-map name xs i d [] inside in
    let there : get_or (map name xs) j [] ≡ name (get_or xs j d) = get_or-map name xs j d [] within in
    let long : length (map name xs) ≡ length xs = length-map xs name in
    let same : i ≡ j = one_place (map name xs) i j h (omega (arith, long, inside)) (omega (arith, long, within)) (here ∙ e ∙ sym there) in
    omega (arith, same, before)

pub in_of_any : (used : List ℕ) (k : ℕ) → list_any (λ one. one == k) used ≡ true → In used k
in_of_any [] k h = absurd cc
in_of_any (j ∷ used) k h = elim (cases_Bool (j == k)) [
  | inl t ↦ inl (eqb-true j k t)
  | inr f ↦ inr (in_of_any used k (sym (ap (λ b. b || list_any (λ one. one == k) used) f) ∙ h))
]

-- what holds of each of what is made of a list, where it holds of an element just if it holds of what is made of it
pub mapped_on : {A B : Type 0} (Q : A → Type 0) (P : B → Type 0) (f : A → B) (xs : List A) → ((x : A) → In xs x → Q x ↔ P (f x)) → All Q xs ↔ All P (map f xs)
mapped_on Q P f xs same = (
  λ all. All-map P f xs (λ k d within. (same (get_or xs k d) (in_get xs k d within)).0 (all k d within)),
  λ all k d within. (same (get_or xs k d) (in_get xs k d within)).1 (subst P (get_or-map f xs k d (f d) within) (all k (f d) (subst (λ n. k < n) (sym (length-map xs f)) within))),
)

-- a list that has what stands at a place
pub found_at : {A B : Type 0} (f : A → B) (xs : List A) (i : ℕ) (x : A) (y : B) → i < length xs → x ≡ get_or xs i x → f x ≡ y → In (map f xs) y
found_at f xs i x y within is same = subst (In (map f xs)) same (map_in f xs x (in_at xs i x within is))

-- one of the front, or the last
pub in_parts : {A : Type 0} (front : List A) (y a : A) → In (front ++ y ∷ []) a → In front a ⊎ (a ≡ y)
in_parts front y a h = elim (in_append front (y ∷ []) a h) [ inl l ↦ inl l | inr r ↦ elim r [ inl e ↦ inr (sym e) | inr none ↦ absurd none ] ]

pub is_last : {A : Type 0} (front : List A) (y : A) → In (front ++ y ∷ []) y
is_last front y = in_right front (y ∷ []) y (inl refl)

pub in_filter : {A : Type 0} (p : A → Bool) (xs : List A) (x : A) → In (filter p xs) x → In xs x × (p x ≡ true)
in_filter p xs x h =
    let at = in_index (filter p xs) x x h in
    (subst (λ y. In xs y) at.1.1 (All-filter p (λ y. In xs y) xs (λ k d within. in_get xs k d within) at.0 x at.1.0), subst (λ y. p y ≡ true) at.1.1 (filter_passes p xs at.0 x at.1.0))

pub in_front : (n : ℕ) (xs : List (List ℕ)) (x : List ℕ) (more : List (List ℕ)) → length xs < n → In (take n (xs ++ x ∷ more)) x
in_front zero xs x more within = absurd (omega (arith, within))
in_front (suc n) [] x more within = inl refl
in_front (suc n) (z ∷ xs) x more within = inr (in_front n xs x more (omega (arith, within)))

pub in_middle : (xs ys : List (List ℕ)) (x : List ℕ) (more : List (List ℕ)) (us : List (List ℕ)) → xs ++ x ∷ more ≡ us ++ ys → length xs < length us → In us x
in_middle [] ys x more [] e within = absurd (omega (arith, within))
in_middle [] ys x more (u ∷ us) e within = inl (let same : u ≡ x = cc in same)
in_middle (z ∷ xs) ys x more [] e within = absurd (omega (arith, within))
in_middle (z ∷ xs) ys x more (u ∷ us) e within = inr (in_middle xs ys x more us (let rest : xs ++ x ∷ more ≡ us ++ ys = cc in rest) (omega (arith, within)))

pub same_front : (xs us : List (List ℕ)) (x u : List ℕ) (more rest : List (List ℕ)) → xs ++ x ∷ more ≡ us ++ u ∷ rest → length xs ≡ length us → x ≡ u
same_front [] [] x u more rest e same = cc
same_front [] (w ∷ us) x u more rest e same = absurd (omega (arith, same))
same_front (z ∷ xs) [] x u more rest e same = absurd (omega (arith, same))
same_front (z ∷ xs) (w ∷ us) x u more rest e same = same_front xs us x u more rest (let tails : xs ++ x ∷ more ≡ us ++ u ∷ rest = cc in tails) (omega (arith, same))
