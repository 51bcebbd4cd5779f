-- What has been passed grows by the arrangement that a call reaches.
use Rattle.std.proofs.Common.{◌≡◌, ◌⊎◌, inl, inr, ℕ, List, [], ◌∷◌, ◌++◌, Option, Some, None, Bool, true, false, sym, ap, subst}
use Rattle.std.specs.List.{AllByRecursion}
use Rattle.xdg_facts.specs.Order.{Less}
use Rattle.xdg_facts.proofs.Exists.{rises_append}
use Rattle.xdg_facts.proofs.Ordered.{less_irreflexive, less_transitive, at_most_less, at_most_of, less_or, not_less, same_least}
use Rattle.xdg_linear.specs.Arranged.{Arranged, Advances, with_reached}
use Rattle.xdg_linear.specs.Arrangements.{IsArrangement, IsAfter, IsNext, IsLast}
use Rattle.xdg_linear.specs.Listed.{Rises, ArePassed}
use Rattle.xdg_linear.specs.Ranks.{ranks_of}
use Rattle.xdg_facts.proofs.Each.{each_weaker, each_append}
use Rattle.xdg_facts.proofs.In.{in_left, in_right}

rises_push : (xs : List (List ℕ)) (x : List ℕ) → Rises xs → AllByRecursion (λ z. Less z x) xs → Rises (xs ++ x ∷ [])
rises_push [] x r each = tt
rises_push (y ∷ ys) x r each = rises_append y x ys (x ∷ []) each.0 each.1 (λ b less. (less, tt)) r

-- what doesn't come after the present one comes before what does
before_after : (present : Option (List ℕ)) (z x : List ℕ) → (IsAfter present z → ⊥) → IsAfter present x → Less z x
before_after None z x n a = absurd (n tt)
before_after (Some p) z x n a = at_most_less z p x (at_most_of z p n) a

pub after_or : (present : Option (List ℕ)) (x : List ℕ) → IsAfter present x ⊎ (IsAfter present x → ⊥)
after_or None x = inl tt
after_or (Some p) x = elim (less_or p x) [ inl less ↦ inl less | inr most ↦ inr (not_less x p most) ]

passed_more : (ranks : List ℕ) (present : Option (List ℕ)) (x : List ℕ) (xs : List (List ℕ)) → ArePassed ranks present xs → IsNext ranks present x → ArePassed ranks (Some x) (xs ++ x ∷ [])
passed_more ranks present x xs passed next =
    let Old : List ℕ → Type 0 = λ z. IsArrangement ranks z × (IsAfter present z → ⊥) in
    let New : List ℕ → Type 0 = λ z. IsArrangement ranks z × (Less x z → ⊥) in
    let below : (z : List ℕ) → Old z → Less z x = λ z old. before_after present z x old.1 next.after in
    record {
      rises = rises_push xs x passed.rises (each_weaker Old (λ z. Less z x) xs below passed.each);
      each = each_append New xs (x ∷ []) (each_weaker Old New xs (λ z old. (old.0, λ less. less_irreflexive z (less_transitive z x z (below z old) less))) passed.each) ((next.arrangement, less_irreflexive x), tt);
      all = λ y new. elim (after_or present y) [
        | inl after ↦ in_right xs (x ∷ []) y (inl (same_least x y (next.least y new.0 after) new.1))
        | inr not ↦ in_left xs (x ∷ []) y (passed.all y (new.0, not))
      ];
    }

-- ---- what a call does, by its answer

pub advances_more : (old new : Arranged) (more : Bool) (x : List ℕ) → more ≡ true → new.words ≡ old.words → new.present ≡ Some x → IsNext (ranks_of old.words) old.present x → Advances old more new
advances_more old new more x is_true words is_x next = record {
  words = words;
  next = λ _. (x, is_x, next);
  last = (λ is_false. absurd (differ more is_true is_false), λ none. absurd (none x next.arrangement next.after));
  same = λ is_false. absurd (differ more is_true is_false);
  passed = λ xs passed. grown xs passed;
} where
  differ : (b : Bool) → b ≡ true → b ≡ false → ⊥
  differ true e k = let h : true ≡ false = k in cc
  differ false e k = let h : false ≡ true = e in cc

  grown : (xs : List (List ℕ)) → ArePassed (ranks_of old.words) old.present xs → ArePassed (ranks_of new.words) new.present (with_reached more xs new.present)
  grown xs passed = rw (is_true, words, is_x) (passed_more (ranks_of old.words) old.present x xs passed next)

pub advances_last : (old new : Arranged) (more : Bool) → more ≡ false → new ≡ old → IsLast (ranks_of old.words) old.present → Advances old more new
advances_last old new more is_false same last = record {
  words = ap (λ s. s.words) same;
  next = λ is_true. absurd (differ more is_true is_false);
  last = (λ _. last, λ _. is_false);
  same = λ _. same;
  passed = λ xs passed. kept xs passed;
} where
  differ : (b : Bool) → b ≡ true → b ≡ false → ⊥
  differ true e k = let h : true ≡ false = k in cc
  differ false e k = let h : false ≡ true = e in cc

  kept : (xs : List (List ℕ)) → ArePassed (ranks_of old.words) old.present xs → ArePassed (ranks_of new.words) new.present (with_reached more xs new.present)
  kept xs passed = subst (λ s. ArePassed (ranks_of s.words) s.present (with_reached more xs s.present)) (sym same) (rw is_false passed)
