-- The tests of types are right.
use Rattle.std.proofs.Common.{◌≡◌, ℕ, Bool, true, false, ◌&&◌, List, [], ◌∷◌, Option, None, Some, refl, ap, ap₂}
use Rattle.std.specs.Prelude.{Decides, bytes_eq}
use Rattle.std.proofs.lemmas.Bool.{false≢true, false_from_ne_true}
use Rattle.std.proofs.lemmas.Bool.Decides.{Decides-and, Decides-at, Decides-like, not_from_Decides}
use Rattle.std.proofs.lemmas.Slice.Eq.{bytes_eq-Decides}
use Rattle.xdg_domain.specs.Shapes.{Shape, domain, tuple, set, iset, valency, mapping, constants_of}
use Rattle.xdg_problem.specs.declared.forms.Element.{Element}
use Rattle.xdg_problem.specs.declared.forms.Element.TheVariants as e
use Rattle.xdg_problem.specs.declared.forms.Typing.{Typing}
use Rattle.xdg_problem.specs.declared.forms.Typing.TheVariants as t
use Rattle.xdg_principles.specs.Settings.{Setting, labels, shared}
use Rattle.xdg_principles.specs.Wanted.{IsSame, IsShared, IsElement, IsSetOf, IsMapTo, IsWanted, same_texts, same_domains, same_type, is_shared, is_domain_of, is_element, is_set_of, is_map_to, is_valency_of, is_wanted}
use Rattle.xdg_facts.proofs.Lists.{head_of, tail_of}

never : {P : Type 0} → (P → ⊥) → Decides false P
never h = (λ z. absurd (false≢true z), λ p. absurd (h p))

-- ---- lists

-- a test of two lists that tests their elements in order
module _ {X : Type 0} (test : X → X → Bool) (each : (x y : X) → Decides (test x y) (x ≡ y)) (all : List X → List X → Bool) (none : all [] [] ≡ true)
    (longer : (x : X) (xs : List X) → (all [] (x ∷ xs) ≡ false) × (all (x ∷ xs) [] ≡ false)) (more : (x y : X) (xs ys : List X) → all (x ∷ xs) (y ∷ ys) ≡ (test x y && all xs ys)) where
  lists_told : (a b : List X) → Decides (all a b) (a ≡ b)
  lists_told [] [] = (λ _. refl, λ _. none)
  lists_told [] (y ∷ ys) = Decides-at (all [] (y ∷ ys)) false (longer y ys).0 (never (λ h. cc))
  lists_told (x ∷ xs) [] = Decides-at (all (x ∷ xs) []) false (longer x xs).1 (never (λ h. cc))
  lists_told (x ∷ xs) (y ∷ ys) =
      let parts = Decides-and (test x y) (all xs ys) (each x y) (lists_told xs ys) in
      Decides-at (all (x ∷ xs) (y ∷ ys)) (test x y && all xs ys) (more x y xs ys)
      (Decides-like (test x y && all xs ys) (λ h. ap₂ (λ z zs. z ∷ zs) h.0 h.1) (λ h. (head_of x y xs ys h, tail_of x y xs ys h)) parts)

texts_told : (a b : List (List ℕ)) → Decides (same_texts a b) (a ≡ b)
texts_told = lists_told bytes_eq bytes_eq-Decides same_texts refl (λ x xs. (refl, refl)) (λ x y xs ys. refl)

domains_told : (a b : List (List (List ℕ))) → Decides (same_domains a b) (a ≡ b)
domains_told = lists_told same_texts texts_told same_domains refl (λ x xs. (refl, refl)) (λ x y xs ys. refl)

-- ---- types

nothing : Decides false ⊥
nothing = never (λ h. h)

same_told : (a b : Shape) → Decides (same_type a b) (IsSame a b)
same_told (domain cs) (domain ds) = texts_told cs ds
same_told (tuple ss) (tuple us) = domains_told (constants_of ss) (constants_of us)
same_told _ _ = nothing

shared_told : (o : Option Shape) (u : Shape) → Decides (is_shared o u) (IsShared o u)
shared_told (Some fixed) u = same_told fixed u
shared_told None u = (λ h. h, λ h. h)

domain_told : (keys : List (List ℕ)) (u : Shape) → Decides (is_domain_of keys u) (u ≡ domain keys)
domain_told keys (domain cs) = Decides-like (same_texts cs keys) (λ h. ap domain h) (λ h. (let same : cs ≡ keys = cc in same)) (texts_told cs keys)
domain_told keys u = never (λ h. cc)

element_told : (s : Setting) (x : Element) (u : Shape) → Decides (is_element s x u) (IsElement s x u)
element_told s (e.Labels which) u = domain_told (labels s which) u
element_told s e.Shared u = shared_told (shared s) u

module _ (test : Shape → Bool) (P : Shape → Type 0) (each : (u : Shape) → Decides (test u) (P u)) where
  set_told : (u : Shape) → Decides (is_set_of test u) (IsSetOf P u)
  set_told (set u) = each u
  set_told (iset u) = each u
  set_told _ = nothing

  map_told : (keys : List (List ℕ)) (u : Shape) → Decides (is_map_to test keys u) (IsMapTo P keys u)
  map_told keys (mapping k u) = Decides-and (is_domain_of keys k) (is_set_of test u) (domain_told keys k) (set_told u)
  map_told keys _ = nothing

valency_told : (keys : List (List ℕ)) (u : Shape) → Decides (is_valency_of keys u) (u ≡ valency (domain keys))
valency_told keys (valency k) = Decides-like (is_domain_of keys k) (λ h. ap valency h) (λ h. (let same : k ≡ domain keys = cc in same)) (domain_told keys k)
valency_told keys u = never (λ h. cc)

wanted_told : (s : Setting) (x : Typing) (u : Shape) → Decides (is_wanted s x u) (IsWanted s x u)
wanted_told s (t.One element) u = element_told s element u
wanted_told s (t.Set element) u = set_told (is_element s element) (IsElement s element) (element_told s element) u
wanted_told s (t.Valency which) u = valency_told (labels s which) u
wanted_told s (t.Map which element) u = map_told (is_element s element) (IsElement s element) (element_told s element) (labels s which) u

pub wanted_true : (s : Setting) (x : Typing) (u : Shape) → is_wanted s x u ≡ true → IsWanted s x u
wanted_true s x u h = (wanted_told s x u).0 h

pub wanted_false : (s : Setting) (x : Typing) (u : Shape) → is_wanted s x u ≡ false → IsWanted s x u → ⊥
wanted_false s x u = not_from_Decides (is_wanted s x u) (wanted_told s x u)

pub true_wanted : (s : Setting) (x : Typing) (u : Shape) → (IsWanted s x u → ⊥) → is_wanted s x u ≡ false
true_wanted s x u h = false_from_ne_true (is_wanted s x u) (λ e. h ((wanted_told s x u).0 e))
