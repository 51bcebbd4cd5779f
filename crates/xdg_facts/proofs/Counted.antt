-- How many different elements stand in a list.
use Rattle.std.proofs.Common.{arith, inl, inr, List, suc, sym, length, refl, subst, ◌≡◌, ◌≤◌, [], ◌∷◌, ◌⊎◌, ◌∙◌}
use Rattle.xdg_facts.specs.Membership.{Differ, In}

module _ {A : Type 0} where
  -- the list without one of its elements, and what still stands there
  removed : (ys : List A) (x : A) → In ys x → (zs : List A) × (length ys ≡ suc (length zs)) × ((z : A) → In ys z → (x ≡ z) ⊎ In zs z)
  removed [] x h = absurd h
  removed (y ∷ ys) x (inl e) = (ys, refl, by)
    where
      by : (z : A) → In (y ∷ ys) z → (x ≡ z) ⊎ In ys z
      by z (inl f) = inl (sym e ∙ f)
      by z (inr k) = inr k
  removed (y ∷ ys) x (inr h) = more (removed ys x h)
    where
      still : (zs : List A) (z : A) → (x ≡ z) ⊎ In zs z → (x ≡ z) ⊎ In (y ∷ zs) z
      still zs z (inl e) = inl e
      still zs z (inr k) = inr (inr k)

      by : (zs : List A) → ((z : A) → In ys z → (x ≡ z) ⊎ In zs z) → (z : A) → In (y ∷ ys) z → (x ≡ z) ⊎ In (y ∷ zs) z
      by zs rest z (inl f) = inr (inl f)
      by zs rest z (inr k) = still zs z (rest z k)

      more : ((zs : List A) × (length ys ≡ suc (length zs)) × ((z : A) → In ys z → (x ≡ z) ⊎ In zs z)) → (zs : List A) × (suc (length ys) ≡ suc (length zs)) × ((z : A) → In (y ∷ ys) z → (x ≡ z) ⊎ In zs z)
      more (zs, size, rest) = (y ∷ zs, omega (arith, size), by zs rest)

  other : (xs : List A) (x z : A) → (In xs x → ⊥) → In xs z → x ≡ z → ⊥
  other xs x z absent h e = absent (subst (In xs) (sym e) h)

  -- different elements that all stand in a list are no more than it is long
  pub no_more : (xs ys : List A) → Differ xs → ((x : A) → In xs x → In ys x) → length xs ≤ length ys
  no_more [] ys differ all = omega arith
  no_more (x ∷ xs) ys differ all =
      let r = removed ys x (all x (inl refl)) in
      let rest = no_more xs r.0 differ.1 (λ z h. by r.0 z h (r.2 z (all z (inr h)))) in
      let size = r.1 in
      omega (arith, rest, size)
    where
      by : (zs : List A) (z : A) → In xs z → (x ≡ z) ⊎ In zs z → In zs z
      by zs z h (inl e) = absurd (other xs x z differ.0 h e)
      by zs z h (inr k) = k
