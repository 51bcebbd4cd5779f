-- Lists in which exactly that stands of which something holds, put together part by part.
use Rattle.std.proofs.Common.{◌≡◌, ◌⊎◌, ◌↔◌, inl, inr, Bool, true, false, List, [], ◌∷◌, ◌++◌, refl, sym, subst, ◌∙◌, append_assoc, None, Some, Option}
use Rattle.std.specs.Prelude.{if◌then◌else◌}
use Rattle.std.specs.List.{flat_map}
use Rattle.std.proofs.lemmas.List.{append-nil}
use Rattle.xdg_facts.specs.Membership.{In}
use Rattle.xdg_facts.proofs.In.{in_append, in_left, in_right, in_flat_map, flat_map_in, in_unless, unless_in, in_when, when_in}
use Rattle.xdg_facts.proofs.Options.{some_same, none_some}

-- what stands in the list is what P holds of
pub record Lists {A : Type 0} (xs : List A) (P : A → Type 0) : Type 0 where
  pub sound : (x : A) → In xs x → P x
  pub complete : (x : A) → P x → In xs x

pub lists_none : {A : Type 0} → Lists {A = A} [] (λ x. ⊥)
lists_none = record { sound = λ x h. h; complete = λ x h. h }

pub lists_as : {A : Type 0} {xs : List A} {P Q : A → Type 0} → Lists xs P → ((x : A) → P x ↔ Q x) → Lists xs Q
lists_as h same = record { sound = λ x i. (same x).0 (h.sound x i); complete = λ x q. h.complete x ((same x).1 q) }

pub lists_both : {A : Type 0} {xs ys : List A} {P Q : A → Type 0} → Lists xs P → Lists ys Q → Lists (xs ++ ys) (λ x. P x ⊎ Q x)
lists_both {A} {xs} {ys} {P} {Q} h k = record {
  sound = λ x i. elim (in_append xs ys x i) [ inl l ↦ inl (h.sound x l) | inr r ↦ inr (k.sound x r) ];
  complete = λ x p. elim p [ inl l ↦ in_left xs ys x (h.complete x l) | inr r ↦ in_right xs ys x (k.complete x r) ];
}

-- a list for each element of another
pub lists_each : {A B : Type 0} (g : B → List A) (P : B → A → Type 0) (bs : List B) → ((b : B) → In bs b → Lists (g b) (P b)) → Lists (flat_map g bs) (λ x. (b : B) × (In bs b × P b x))
lists_each g P bs each = record {
  sound = λ x i. (let k = in_flat_map g bs x i in (k.0, (k.1.0, (each k.0 k.1.0).sound x k.1.1)));
  complete = λ x p. flat_map_in g bs p.0 x p.1.0 ((each p.0 p.1.0).complete x p.1.1);
}

-- a list of one, under a test
pub lists_unless : {A : Type 0} (b : Bool) (y : A) → Lists (if b then [] else y ∷ []) (λ x. (b ≡ false) × (y ≡ x))
lists_unless b y = record { sound = λ x i. in_unless b y x i; complete = λ x p. unless_in b y x p.0 p.1 }

pub lists_when : {A : Type 0} (b : Bool) (y : A) → Lists (if b then y ∷ [] else []) (λ x. (b ≡ true) × (y ≡ x))
lists_when b y = record { sound = λ x i. in_when b y x i; complete = λ x p. when_in b y x p.0 p.1 }

-- a list for each element, by those that stand before it
module _ {A B : Type 0} (g : List B → B → List A) (P : List B → B → A → Type 0) (each : (before : List B) (b : B) → Lists (g before b) (P before b)) (all : List B → List B → List A)
    (none : (before : List B) → all before [] ≡ []) (next : (before : List B) (b : B) (bs : List B) → all before (b ∷ bs) ≡ g before b ++ all (before ++ b ∷ []) bs) where
  abbrev OfSome : List B → A → Type 0
  OfSome bs x = (before : List B) × ((b : B) × ((after : List B) × ((bs ≡ before ++ b ∷ after) × P before b x)))

  behind_sound : (whole front bs : List B) → whole ≡ front ++ bs → (x : A) → In (all front bs) x → OfSome whole x
  behind_sound whole front [] parts x i = absurd (subst (λ xs. In xs x) (none front) i)
  behind_sound whole front (b ∷ bs) parts x i = elim (in_append (g front b) (all (front ++ b ∷ []) bs) x (subst (λ xs. In xs x) (next front b bs) i)) [
    | inl now ↦ (front, (b, (bs, (parts, (each front b).sound x now))))
    | inr later ↦ behind_sound whole (front ++ b ∷ []) bs (parts ∙ sym (append_assoc front (b ∷ []) bs)) x later
  ]

  behind_complete : (front before : List B) (b : B) (after : List B) (x : A) → P (front ++ before) b x → In (all front (before ++ b ∷ after)) x
  behind_complete front [] b after x p = subst (λ xs. In xs x) (sym (next front b after)) (in_left (g front b) _ x ((each front b).complete x (subst (λ bs. P bs b x) (append-nil front) p)))
  behind_complete front (c ∷ before) b after x p =
      subst (λ xs. In xs x) (sym (next front c (before ++ b ∷ after)))
      (in_right (g front c) _ x (behind_complete (front ++ c ∷ []) before b after x (subst (λ bs. P bs b x) (sym (append_assoc front (c ∷ []) before)) p)))

  pub lists_behind : (bs : List B) → Lists (all [] bs) (OfSome bs)
  lists_behind bs = record {
    sound = λ x i. behind_sound bs [] bs refl x i;
    complete = λ x p. subst (λ cs. In (all [] cs) x) (sym p.1.1.1.0) (behind_complete [] p.0 p.1.0 p.1.1.0 x p.1.1.1.1);
  }

pub lists_one : {A : Type 0} (y : A) → Lists (y ∷ []) (λ x. y ≡ x)
lists_one y = record { sound = λ x i. elim i [ inl e ↦ e | inr k ↦ absurd k ]; complete = λ x e. inl e }

-- one list where nothing is there, and another of what is there
pub lists_option : {A B : Type 0} (of : Option B → List A) (P : A → Type 0) (Q : B → A → Type 0) → Lists (of None) P → ((b : B) → Lists (of (Some b)) (Q b)) → (o : Option B)
    → Lists (of o) (λ x. ((o ≡ None) × P x) ⊎ ((b : B) × ((o ≡ Some b) × Q b x)))
lists_option of P Q none some None = record {
  sound = λ x i. inl (refl, none.sound x i);
  complete = λ x h. elim h [ inl p ↦ none.complete x p.1 | inr q ↦ absurd (none_some q.0 q.1.0) ];
}
lists_option of P Q none some (Some b) = record {
  sound = λ x i. inr (b, (refl, (some b).sound x i));
  complete = λ x h. elim h [ inl p ↦ absurd cc | inr q ↦ (some b).complete x (subst (λ y. Q y x) (some_same q.0 b (sym q.1.0)) q.1.1) ];
}

pub lists_if : {A : Type 0} (b : Bool) {xs : List A} {P : A → Type 0} → Lists xs P → Lists (if b then xs else []) (λ x. (b ≡ true) × P x)
lists_if true h = record { sound = λ x i. (refl, h.sound x i); complete = λ x p. h.complete x p.1 }
lists_if false h = record { sound = λ x i. absurd i; complete = λ x p. absurd cc }
