-- Lists of faults put together otherwise than by one kind behind another.
use Rattle.std.proofs.Common.{◌≡◌, ◌⊎◌, inl, inr, List, [], ◌∷◌, ◌++◌, map, refl, sym, ap, ◌∙◌, subst}
use Rattle.std.specs.List.{flat_map}
use Rattle.std.proofs.lemmas.Grind.{flat_map-append}
use Rattle.xdg_base.specs.declared.faults.Fault.{Fault}
use Rattle.xdg_facts.proofs.Parts.{Lists}
use Rattle.xdg_facts.proofs.In.{in_append, in_left, in_right, in_flat_map, flat_map_in}

-- in each item a list of the one kind and then one of the other
pub joined_each : {A : Type 0} (g h : A → List Fault) (xs : List A) {P Q : Fault → Type 0}
    → Lists (flat_map g xs) P → Lists (flat_map h xs) Q → Lists (flat_map (λ x. g x ++ h x) xs) (λ f. P f ⊎ Q f)
joined_each g h xs a b = record {
  sound = λ f k. (let w = in_flat_map (λ x. g x ++ h x) xs f k in elim (in_append (g w.0) (h w.0) f w.1.1) [
    | inl l ↦ inl (a.sound f (flat_map_in g xs w.0 f w.1.0 l))
    | inr r ↦ inr (b.sound f (flat_map_in h xs w.0 f w.1.0 r))
  ]);
  complete = λ f k. elim k [
    | inl p ↦ (let w = in_flat_map g xs f (a.complete f p) in flat_map_in (λ x. g x ++ h x) xs w.0 f w.1.0 (in_left (g w.0) (h w.0) f w.1.1))
    | inr q ↦ (let w = in_flat_map h xs f (b.complete f q) in flat_map_in (λ x. g x ++ h x) xs w.0 f w.1.0 (in_right (g w.0) (h w.0) f w.1.1))
  ];
}

-- ---- items in items

nest : {A B : Type 0} (u : B → List Fault) (g : A → List B) (h : A → List Fault) → ((x : A) → h x ≡ flat_map u (g x)) → (xs : List A) → flat_map u (flat_map g xs) ≡ flat_map h xs
nest u g h same [] = refl
nest u g h same (x ∷ xs) = flat_map-append u (g x) (flat_map g xs) ∙ ap (λ fs. flat_map u (g x) ++ fs) (nest u g h same xs) ∙ ap (λ fs. fs ++ flat_map h xs) (sym (same x))

pub nested : {A B : Type 0} (u : B → List Fault) (g : A → List B) (h : A → List Fault) → ((x : A) → h x ≡ flat_map u (g x)) → (xs : List A) {P : Fault → Type 0}
    → Lists (flat_map u (flat_map g xs)) P → Lists (flat_map h xs) P
nested u g h same xs {P = P} = subst (λ fs. Lists fs P) (nest u g h same xs)

one_each : {A B : Type 0} (u : B → List Fault) (g : A → B) (xs : List A) → flat_map u (map g xs) ≡ flat_map (λ x. u (g x)) xs
one_each u g [] = refl
one_each u g (x ∷ xs) = ap (λ fs. u (g x) ++ fs) (one_each u g xs)

pub mapped : {A B : Type 0} (u : B → List Fault) (g : A → B) (xs : List A) {P : Fault → Type 0} → Lists (flat_map u (map g xs)) P → Lists (flat_map (λ x. u (g x)) xs) P
mapped u g xs {P = P} = subst (λ fs. Lists fs P) (one_each u g xs)

-- ---- kinds in another order

module _ {xs : List Fault} {P Q R : Fault → Type 0} where
  pub regrouped : Lists xs (λ f. (P f ⊎ Q f) ⊎ R f) → Lists xs (λ f. P f ⊎ (Q f ⊎ R f))
  regrouped a = record {
    sound = λ f h. elim (a.sound f h) [ inl k ↦ elim k [ inl p ↦ inl p | inr q ↦ inr (inl q) ] | inr r ↦ inr (inr r) ];
    complete = λ f h. a.complete f (elim h [ inl p ↦ inl (inl p) | inr k ↦ elim k [ inl q ↦ inl (inr q) | inr r ↦ inr r ] ]);
  }

  pub swapped : Lists xs (λ f. P f ⊎ (Q f ⊎ R f)) → Lists xs (λ f. Q f ⊎ (P f ⊎ R f))
  swapped a = record {
    sound = λ f h. elim (a.sound f h) [ inl p ↦ inr (inl p) | inr k ↦ elim k [ inl q ↦ inl q | inr r ↦ inr (inr r) ] ];
    complete = λ f h. a.complete f (elim h [ inl q ↦ inr (inl q) | inr k ↦ elim k [ inl p ↦ inl p | inr r ↦ inr (inr r) ] ]);
  }
