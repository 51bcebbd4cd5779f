-- Lists by their last element, and lists whose marks rise.
use Rattle.std.proofs.Common.{◌≡◌, ◌≢◌, ℕ, ◌<◌, ◌≤◌, ◌⊎◌, inl, inr, List, [], ◌∷◌, ◌++◌, length, refl, sym, ap, ◌∙◌, subst, arith, get_or-set_same, get_or-set_other}
use Rattle.std.proofs.Math.ListN.{set, get_or-append}
use Rattle.std.proofs.Math.Seq.{get_or-append_seam}
use Rattle.std.proofs.lemmas.List.{get_or_past}
use Rattle.std.proofs.lemmas.Bool.{cases_eq, cases_lt}
use Rattle.xdg_names.specs.Leads.{number}
use Rattle.xdg_names.specs.Walks.{Climbs}
use Rattle.xdg_facts.specs.Membership.{In}
use Rattle.xdg_facts.proofs.In.{in_left, in_parts, is_last}

pub at_last : (front : List ℕ) (y : ℕ) → number (front ++ y ∷ []) (length front) ≡ y
at_last front y = get_or-append_seam front y [] 0

pub at_front : (front : List ℕ) (y p : ℕ) → p < length front → number (front ++ y ∷ []) p ≡ number front p
at_front front y p h = get_or-append front (y ∷ []) 0 p h

-- one that has a mark is one of the list
pub marked_within : (ms : List ℕ) (a : ℕ) → 1 ≤ number ms a → a < length ms
marked_within ms a h = elim (cases_lt a (length ms)) [ inl l ↦ l | inr past ↦ absurd (omega (arith, get_or_past ms a 0 past)) ]

pub set_at : (ms : List ℕ) (y v a : ℕ) → y < length ms → ((a ≡ y) × (number (set ms y v) a ≡ v)) ⊎ ((a ≢ y) × (number (set ms y v) a ≡ number ms a))
set_at ms y v a within = elim (cases_eq a y) [
  | inl e ↦ inl (e, ap (number (set ms y v)) e ∙ get_or-set_same ms y v 0 within)
  | inr ne ↦ inr (ne, get_or-set_other ms y a v 0 ne)
]

module _ (marks : List ℕ) where
  pub climbs_front : (front : List ℕ) (y : ℕ) → Climbs marks (front ++ y ∷ []) → Climbs marks front
  climbs_front [] y h = tt
  climbs_front (a ∷ rest) y h = ((λ b k. h.0 b (in_left rest (y ∷ []) b k)), climbs_front rest y h.1)

  pub climbs_last : (front : List ℕ) (y : ℕ) → Climbs marks (front ++ y ∷ []) → (a : ℕ) → In front a → number marks a < number marks y
  climbs_last [] y h a k = absurd k
  climbs_last (b ∷ rest) y h a k = elim k [ inl e ↦ subst (λ x. number marks x < number marks y) e (h.0 y (is_last rest y)) | inr l ↦ climbs_last rest y h.1 a l ]

  pub climbs_push : (front : List ℕ) (y : ℕ) → Climbs marks front → ((a : ℕ) → In front a → number marks a < number marks y) → Climbs marks (front ++ y ∷ [])
  climbs_push [] y h below = ((λ b k. absurd k), tt)
  climbs_push (a ∷ rest) y h below =
      ((λ b k. elim (in_parts rest y b k) [ inl l ↦ h.0 b l | inr e ↦ subst (λ x. number marks a < number marks x) (sym e) (below a (inl refl)) ]), climbs_push rest y h.1 (λ b k. below b (inr k)))

  pub climbs_same : (marks' xs : List ℕ) → ((a : ℕ) → In xs a → number marks' a ≡ number marks a) → Climbs marks xs → Climbs marks' xs
  climbs_same marks' [] same h = tt
  climbs_same marks' (a ∷ rest) same h =
      ((λ b k. (let l : number marks a < number marks b = h.0 b k in let x : number marks' a ≡ number marks a = same a (inl refl) in let y : number marks' b ≡ number marks b = same b (inr k) in omega arith)), climbs_same marks' rest (λ b k. same b (inr k)) h.1)
