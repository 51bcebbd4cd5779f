-- Truth values.
use Rattle.std.proofs.Common.{◌≡◌, refl, ◌⊎◌, inl, inr, Bool, true, false, not, arith, ℕ, ◌+◌, zero, suc, [], ◌∷◌, ◌∙◌, ◌↔◌, ◌&&◌, if◌then◌else◌, ◌||◌, sym, ◌<◌, ◌≤◌, ap, ap₂, ◌==◌}
use Rattle.std.specs.Prelude.{filter, cond}
use Rattle.std.specs.List.{range_with_len}
use Rattle.std.proofs.lemmas.Bool.{cond-false, false≢true, true≢false, ne_eqb, eq-eqb}
use mathlib.Core.Bool.{beq}

pub and_false : (a : Bool) → (a && false) ≡ false
and_false true = refl
and_false false = refl

pub or_false : (a : Bool) → (a || false) ≡ a
or_false true = refl
or_false false = refl

pub or_true : (a : Bool) → (a || true) ≡ true
or_true true = refl
or_true false = refl

pub either : (b : Bool) → (b ≡ true) ⊎ (b ≡ true → ⊥)
either true = inl refl
either false = inr (λ e. cc)

pub from_not : (b : Bool) → not b ≡ true → b ≡ false
from_not b e = grind (arith, e)

pub none_in : (p : ℕ → Bool) (a n : ℕ) → ((k : ℕ) → p k ≡ false) → filter p (range_with_len a n) ≡ []
none_in p a zero none = refl
none_in p a (suc n) none = cond-false (p a) (a ∷ filter p (range_with_len (a + 1) n)) (filter p (range_with_len (a + 1) n)) (none a) ∙ none_in p (a + 1) n none

pub left_out : (a b : Bool) → ((a && not b) ≡ true) ↔ ((a ≡ true) × (b ≡ true → ⊥))
left_out true true = (λ h. absurd (false≢true h), λ h. absurd (h.1 refl))
left_out true false = (λ h. (refl, λ e. false≢true e), λ h. refl)
left_out false b = (λ h. absurd (false≢true h), λ h. absurd (false≢true h.0))

pub if_says : (a b : Bool) → (if a then b else true) ≡ true → a ≡ true → b ≡ true
if_says true b h g = h
if_says false b h g = absurd (cc)

pub and_swap : (a b : Bool) → (a && b) ≡ (b && a)
and_swap true true = refl
and_swap true false = refl
and_swap false true = refl
and_swap false false = refl

pub and_first : (a b : Bool) → (a && b) ≡ true → a ≡ true
and_first true b h = refl
and_first false b h = h

pub none_or : (a b : Bool) → (a || b) ≡ false → (a ≡ false) × (b ≡ false)
none_or true b h = absurd (cc)
none_or false b h = (refl, h)

pub same_flag : (a b : Bool) → (a ≡ true → b ≡ true) → (b ≡ true → a ≡ true) → a ≡ b
same_flag true b f g = sym (f refl)
same_flag false true f g = g refl
same_flag false false f g = refl

pub or_here : (a b : Bool) → a ≡ true → (a || b) ≡ true
or_here a b e = rw e refl

pub and_2 : (a b : Bool) → a ≡ true → b ≡ true → (a && b) ≡ true
and_2 a b x y = rw (x, y) refl

pub either_true : (a b : Bool) → b ≡ true → (a || b) ≡ true
either_true true b h = refl
either_true false b h = h

pub agree_in : (p q : ℕ → Bool) (a n : ℕ) → ((k : ℕ) → a ≤ k → k < a + n → p k ≡ q k) → filter p (range_with_len a n) ≡ filter q (range_with_len a n)
agree_in p q a zero same = refl
agree_in p q a (suc n) same =
    ap (λ t. cond t (a ∷ filter p (range_with_len (a + 1) n)) (filter p (range_with_len (a + 1) n))) (same a (omega arith) (omega arith))
    ∙ ap (λ s. cond (q a) (a ∷ s) s) (agree_in p q (a + 1) n (λ k above below. same k (omega (arith, above)) (omega (arith, below))))

pub or_assoc : (a b c : Bool) → ((a || b) || c) ≡ (a || (b || c))
or_assoc true b c = refl
or_assoc false b c = refl

pub same_and : (a b c : Bool) → (a ≡ true → b ≡ c) → (a && b) ≡ (a && c)
same_and true b c same = same refl
same_and false b c same = refl

pub choose : {A : Type 0} (b : Bool) (x y : A) → b ≡ true → (if b then x else y) ≡ x
choose b x y h = rw h refl

-- no test both passes and fails
pub apart : {A : Type 0} (t : Bool) → t ≡ true → t ≡ false → A
apart true e f = absurd (omega (arith, ap {B = ℕ} (λ b. cond b 1 0) f))
apart false e f = absurd (omega (arith, ap {B = ℕ} (λ b. cond b 1 0) e))

pub and_given : (a b : Bool) → (b ≡ true → a ≡ true) → (a && b) ≡ b
and_given true b h = refl
and_given false true h = h refl
and_given false false h = refl

pub and_true : (a b : Bool) → b ≡ true → (a && b) ≡ a
and_true true b h = h
and_true false b h = refl

pub and_3 : (a b c : Bool) → a ≡ true → b ≡ true → c ≡ true → (a && b && c) ≡ true
and_3 a b c x y z = rw (x, y, z) refl

pub and_4 : (a b c d : Bool) → a ≡ true → b ≡ true → c ≡ true → d ≡ true → (a && b && c && d) ≡ true
and_4 a b c d x y z w = rw (x, y, z, w) refl

pub not_both : {P : Type 0} → true ≡ false → P
not_both e = absurd cc

pub never : {A : Type 0} → false ≡ true → A
never e = absurd (false≢true e)

pub accepts : {A : Type 0} (r : Bool) → r ≡ true → (r ≡ true ↔ A) → A
accepts r y h = h.0 y

pub refuses : {A : Type 0} (r : Bool) → r ≡ false → (r ≡ true ↔ A) → A → ⊥
refuses r n h a = false≢true (sym n ∙ h.1 a)

pub and_self : (b : Bool) → (b && b) ≡ b
and_self true = refl
and_self false = refl

pub never_true : (b : Bool) → (b ≡ true → ⊥) → b ≡ false
never_true true h = absurd (h refl)
never_true false h = refl

pub not_true : (b : Bool) → not b ≡ true → b ≡ true → ⊥
not_true true h k = cc
not_true false h k = cc

pub true_not : (b : Bool) → (b ≡ true → ⊥) → not b ≡ true
true_not true h = absurd (h refl)
true_not false h = refl

pub alike : (a b : Bool) → not (beq a b) ≡ false → a ≡ b
alike true true told = refl
alike true false told = absurd (false≢true (sym told))
alike false true told = absurd (false≢true (sym told))
alike false false told = refl

-- two truths that are compared
pub differ : (a b : Bool) → not (beq a b) ≡ true → a ≡ b → ⊥
differ true true told same = false≢true told
differ true false told same = false≢true (sym same)
differ false true told same = false≢true same
differ false false told same = false≢true told

pub and_turned : (a b c : Bool) → ((a && b) && c) ≡ (b && (a && c))
and_turned true true c = refl
and_turned true false c = refl
and_turned false true c = refl
and_turned false false c = refl

pub neither : (a b : Bool) → a ≡ false → b ≡ false → (a || b) ≡ false
neither a b p q = ap (λ c. c || b) p ∙ q

pub and_carried : (a b c : Bool) → (b ≡ true → a ≡ c) → (a && b) ≡ (b && c)
and_carried true true c same = same refl
and_carried false true c same = same refl
and_carried true false c same = refl
and_carried false false c same = refl

pub without_other : (a b c : Bool) → a ≡ b → (b ≡ true → c ≡ false) → a ≡ (b && not c)
without_other a true c same none = (let off : c ≡ false = none refl in rw off same)
without_other a false c same none = same

pub either_off : (right fieldless : Bool) → (right && not fieldless) ≡ false → (right ≡ false) ⊎ (fieldless ≡ true)
either_off false b h = inl refl
either_off true true h = inr refl
either_off true false h = absurd (true≢false h)

pub off_either : (right fieldless : Bool) → (right ≡ false) ⊎ (fieldless ≡ true) → (right && not fieldless) ≡ false
off_either false b h = refl
off_either true true h = refl
off_either true false h = elim h [ inl e ↦ absurd (true≢false e) | inr e ↦ absurd (false≢true e) ]

pub either-of : {P Q : Type 0} (v w : Bool) → (P → v ≡ true) → (Q → w ≡ true) → P ⊎ Q → (v || w) ≡ true
either-of v w p q (inl h) = or_here v w (p h)
either-of v w p q (inr h) = either_true v w (q h)

pub if-true : (a b : Bool) → (if a then b else false) ≡ true → (a ≡ true) × (b ≡ true)
if-true true b h = (refl, h)
if-true false b h = absurd (cc)

pub not_both-says : (a b : Bool) → (if b then not a else true) ≡ true → b ≡ true → a ≡ false
not_both-says true true h g = absurd (cc)
not_both-says false b h g = refl
not_both-says true false h g = absurd (cc)

pub not_true_from : (b : Bool) → b ≡ false → not b ≡ true
not_true_from b e = ap not e

pub same_both : (on a b c d : Bool) → (on ≡ true → a ≡ c) → (on ≡ true → b ≡ d) → (on && (a && not b)) ≡ (on && (c && not d))
same_both true a b c d first second = ap₂ (λ x z. x && not z) (first refl) (second refl)
same_both false a b c d first second = refl

pub other_byte : {X : Type 0} (b c : ℕ) (x y : X) → (b ≡ c → ⊥) → cond (b == c) x y ≡ y
other_byte b c x y ne = ap (λ t. cond t x y) (ne_eqb b c ne)

-- a test on two equal numbers
pub same_byte : {X : Type 0} (c : ℕ) (x y : X) → cond (c == c) x y ≡ x
same_byte c x y = ap (λ b. cond b x y) (eq-eqb c c refl)
