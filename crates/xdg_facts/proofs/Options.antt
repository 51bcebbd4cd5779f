-- What may be there, and results.
use Rattle.std.proofs.Common.{◌≡◌, ℕ, Some, None, Ok, Err, IfOk, Option, sym, ◌∙◌, true, ap, false, refl, Bool, inl, inr, cond, ◌⊎◌, is_some, suc, option_map, unwrap_or, eqb, eq-eqb, subst, ◌==◌}
use Rattle.std.specs.Prelude.{Result, OnErr, OnOk, if◌then◌else◌, MatchOption}
use Rattle.std.proofs.lemmas.Bool.{eqb-true}
use Rattle.std.specs.Option.{option_eq}
use Rattle.std.specs.Result.{is_err}
use Rattle.xdg_facts.specs.Onward.{onward}

pub same_mark : (a b : ℕ) → Some a ≡ Some b → a ≡ b
same_mark a b e = cc

pub none_some : {X : Type 0} (x : X) → None ≡ Some x → ⊥
none_some x e = cc

pub some_same : {A : Type 0} (a b : A) → Some a ≡ Some b → a ≡ b
some_same a b e = cc

pub if_ok : {A E : Type 0} (P Q : A → Type 0) (r : Result A E) → ((x : A) → P x → Q x) → IfOk r P → IfOk r Q
if_ok P Q (Ok x) f h = f x h
if_ok P Q (Err e) f h = h

pub not_both_ways : {A : Type 0} (o : Option A) (x : A) → o ≡ None → o ≡ Some x → ⊥
not_both_ways o x e f = cc

-- what a call that failed says, and what one that did not says
pub failed_of : {T E : Type 0} (r : Result T E) (P : Type 0) → is_err r ≡ true → OnErr r P → P
failed_of (Ok x) P e h = absurd (cc)
failed_of (Err x) P e h = h

pub done_of : {T E : Type 0} (r : Result T E) (P : Type 0) → is_err r ≡ false → OnOk r P → P
done_of (Ok x) P e h = h
done_of (Err x) P e h = absurd (cc)

pub one_value : {A : Type 0} (o : Option A) (a b : A) → o ≡ Some a → o ≡ Some b → a ≡ b
one_value o a b h k = (let e : Some a ≡ Some b = sym h ∙ k in cc)

pub onward_is : {A B : Type 0} (o : Option A) (f : A → Option B) (b : B) → onward o f ≡ Some b → (a : A) × (o ≡ Some a) × (f a ≡ Some b)
onward_is None f b e = absurd cc
onward_is (Some a) f b e = (a, refl, e)

pub onward_none : {A B : Type 0} (o : Option A) (f : A → Option B) → ((a : A) → f a ≡ None) → onward o f ≡ None
onward_none None f e = refl
onward_none (Some a) f e = e a

pub onward_same : {A B : Type 0} (o : Option A) (f g : A → Option B) → ((a : A) → f a ≡ g a) → onward o f ≡ onward o g
onward_same None f g e = refl
onward_same (Some a) f g e = e a

pub onward_some : {A : Type 0} (o : Option A) → onward o (λ a. Some a) ≡ o
onward_some None = refl
onward_some (Some a) = refl

pub onward_swap : {A B C : Type 0} (o : Option A) (p : Option B) (f : A → B → Option C) → onward o (λ a. onward p (λ b. f a b)) ≡ onward p (λ b. onward o (λ a. f a b))
onward_swap None None f = refl
onward_swap None (Some b) f = refl
onward_swap (Some a) None f = refl
onward_swap (Some a) (Some b) f = refl

pub gate : {A B : Type 0} (b : Bool) (a : A) (f : A → Option B) → (if b then f a else None) ≡ onward (if b then Some a else None) f
gate true a f = refl
gate false a f = refl

pub closed : {B : Type 0} (b : Bool) (o : Option B) → b ≡ false → (if b then o else None) ≡ None
closed b o e = rw e refl

-- of two ways one was taken
pub cond_either : {X : Type 0} (t : Bool) (a b : Option X) (y : X) → cond t a b ≡ Some y → ((t ≡ true) × (a ≡ Some y)) ⊎ ((t ≡ false) × (b ≡ Some y))
cond_either true a b y e = inl (refl, e)
cond_either false a b y e = inr (refl, e)

-- a test that stops where it is false
pub cond_found : {X : Type 0} (t : Bool) (x y : X) → cond t (Some x) None ≡ Some y → (t ≡ true) × (x ≡ y)
cond_found true x y e = (refl, some_same x y e)
cond_found false x y e = cc

pub cond_left : {X : Type 0} (t : Bool) (x y : X) → cond t None (Some x) ≡ Some y → (t ≡ false) × (x ≡ y)
cond_left true x y e = cc
cond_left false x y e = (refl, some_same x y e)

-- what can't be something is nothing
pub nothing_if : {X : Type 0} (o : Option X) → ((x : X) → o ≡ Some x → ⊥) → o ≡ None
nothing_if None lacks = refl
nothing_if (Some x) lacks = absurd (lacks x refl)

-- a test that stops where it is true
pub not_then : {X : Type 0} (t : Bool) (x : X) (y : Option X) → cond t (Some x) y ≡ None → t ≡ false
not_then true x y e = cc
not_then false x y e = refl

pub some_later : (place : Option ℕ) → is_some (option_map suc place) ≡ is_some place
some_later None = refl
some_later (Some n) = refl

pub number_is : {place : Option ℕ} {n : ℕ} → place ≡ Some n → n ≡ unwrap_or place 0
number_is is = sym (ap (λ o. unwrap_or o 0) is)

-- a number that is wanted, as it is tested
pub is_wanted : (wanted : Option ℕ) (k : ℕ) → option_eq eqb wanted (Some k) ≡ true → wanted ≡ Some k
is_wanted None k e = absurd cc
is_wanted (Some n) k e = ap Some (eqb-true n k e)

pub not_wanted : (wanted : Option ℕ) (k : ℕ) → option_eq eqb wanted (Some k) ≡ false → wanted ≡ Some k → ⊥
not_wanted wanted k e is = let t : option_eq eqb (Some k) (Some k) ≡ false = subst (λ z. option_eq eqb z (Some k) ≡ false) is e in let u : (k == k) ≡ true = eq-eqb k k refl in absurd (let v : true ≡ false = sym u ∙ t in cc)

pub is_said : {V : Type 0} (Q : V → Type 0) (o : Option V) → MatchOption o ⊥ Q → o ≡ None → ⊥
is_said Q None h is = h
is_said Q (Some x) h is = absurd (cc is)
