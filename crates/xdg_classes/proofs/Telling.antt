-- What is told of items one after the other.
use Rattle.std.proofs.Common.{◌≡◌, ◌⊎◌, inl, inr, ℕ, ◌+◌, ◌<◌, ◌≤◌, List, [], ◌∷◌, ◌++◌, length, take, get_or, map, Option, refl, sym, subst}
use Rattle.std.proofs.lemmas.List.{take_all}
use Rattle.xdg_base.specs.declared.faults.Fault.{Fault}
use Rattle.xdg_names.specs.First.{Tells, earlier}
use Rattle.xdg_names.proofs.First.{tells_as, tells_both}
use Rattle.xdg_classes.specs.Wrong.{SomeOf}
use Rattle.xdg_facts.proofs.In.{in_append, in_left, in_right, in_map, map_in}
use Rattle.xdg_facts.proofs.Fronts.{taken}

pub tells_sum : (P Q : Fault → Type 0) (a b whole : Option Fault) → Tells P a → Tells Q b → whole ≡ earlier a b → Tells (λ f. P f ⊎ Q f) whole
tells_sum P Q a b whole h k is = subst (Tells (λ f. P f ⊎ Q f)) (sym is) (tells_both P Q a b h k)

module _ {A : Type 0} (P : A → Fault → Type 0) where
  pub some_turn : (xs : List A) (i : ℕ) (x : A) (found next now : Option Fault) → i < length xs → x ≡ get_or xs i x → Tells (P x) next → now ≡ earlier found next → Tells (SomeOf (take i xs) P) found → Tells (SomeOf (take (i + 1) xs) P) now
  some_turn xs i x found next now within is one sum so_far =
      subst (λ ys. Tells (SomeOf ys P) now) (sym (taken xs i x within is)) (subst (Tells (SomeOf (take i xs ++ x ∷ []) P)) (sym sum)
      (tells_as (λ f. SomeOf (take i xs) P f ⊎ P x f) (SomeOf (take i xs ++ x ∷ []) P)
      (λ f w. elim w [ inl l ↦ (l.0, (in_left (take i xs) (x ∷ []) l.0 l.1.0, l.1.1)) | inr r ↦ (x, (in_right (take i xs) (x ∷ []) x (inl refl), r)) ])
      (λ f w. elim (in_append (take i xs) (x ∷ []) w.0 w.1.0) [ inl l ↦ inl (w.0, (l, w.1.1)) | inr r ↦ elim r [ inl e ↦ inr (subst (λ y. P y f) (sym e) w.1.1) | inr c ↦ absurd c ] ])
      (earlier found next) (tells_both (SomeOf (take i xs) P) (P x) found next so_far one)))

  pub some_end : (xs : List A) (i : ℕ) (found : Option Fault) → length xs ≤ i → Tells (SomeOf (take i xs) P) found → Tells (SomeOf xs P) found
  some_end xs i found over = subst (λ ys. Tells (SomeOf ys P) found) (take_all i xs over)

-- of what is seen of each item

pub some_seen : {A B : Type 0} (f : A → B) (P : B → Fault → Type 0) (xs : List A) (i : ℕ) (found : Option Fault) → length xs ≤ i → Tells (SomeOf (take i xs) (λ x. P (f x))) found → Tells (SomeOf (map f xs) P) found
some_seen f P xs i found over so_far =
    tells_as (SomeOf xs (λ x. P (f x))) (SomeOf (map f xs) P)
    (λ g w. (f w.0, (map_in f xs w.0 w.1.0, w.1.1)))
    (λ g w. let r = in_map f xs w.0 w.1.0 in (r.0, (r.1.0, subst (λ y. P y g) (sym r.1.1) w.1.1)))
    found (some_end (λ x. P (f x)) xs i found over so_far)
