-- Laws of strong components.
use Rattle.std.proofs.Common.{◌≡◌, ℕ, ◌<◌, ◌≤◌, inl, inr, List, [], ◌∷◌, length, get_or, refl, sym, ap, ◌∙◌, arith, Option}
use Rattle.std.specs.Prelude.{◌↔◌}
use Rattle.std.proofs.lemmas.Bool.{cases_lt, cases_eq}
use Rattle.std.proofs.lemmas.List.{get_or_default}
use Rattle.xdg_base.specs.declared.faults.Fault.{Fault}
use Rattle.xdg_names.specs.First.{Tells, Below}
use Rattle.xdg_names.proofs.First.{tells_as}
use Rattle.xdg_names.specs.declared.graph.Use.{Use}
use Rattle.xdg_names.specs.Leads.{uses_of, IsPath, Leads, number, AreComponents}
use Rattle.xdg_names.specs.Closing.{IsClosing, HasMeeting, fault_of, the_use}
use Rattle.xdg_names.proofs.Numbered.{from_within}
use Rattle.xdg_facts.specs.Membership.{In}
use Rattle.xdg_facts.proofs.In.{in_get, in_index}

module _ (g : List (List Use)) (numbers order : List ℕ) (made : AreComponents g numbers order) where
  along : (a : ℕ) (us : List Use) (b : ℕ) → IsPath g a us b → number numbers b ≤ number numbers a
  along a [] b p = omega (arith, ap (number numbers) p)
  along a (u ∷ us) b p =
      omega (arith, made.down a u p.0, along u.to us b p.1)

  -- A use closes a cycle exactly where it leads to a definition of the number of its own.
  pub closes : (a : ℕ) (u : Use) → In (uses_of g a) u → (number numbers u.to ≡ number numbers a) ↔ Leads g u.to a
  closes a u h = (
    λ e. made.same u.to a (made.graph a u h) (from_within g a u h) e,
    λ p. (omega (arith, along u.to p.0 a p.1, made.down a u h)),
  )

  -- Two definitions have one number exactly where each leads to the other.
  pub alike : (a b : ℕ) → a < length g → b < length g → (number numbers a ≡ number numbers b) ↔ (Leads g a b × Leads g b a)
  alike a b h k = (
    λ e. (made.same a b h k e, made.same b a k h (sym e)),
    λ p. (omega (arith, along a p.0.0 b p.0.1, along b p.1.0 a p.1.1)),
  )

  -- Where no use closes a cycle each leads to a lesser number.
  pub falls : ((f : Fault) → IsClosing g f → ⊥) → (a : ℕ) (u : Use) → In (uses_of g a) u → number numbers u.to < number numbers a
  falls none a u h =
      let down : number numbers u.to ≤ number numbers a = made.down a u h in
      elim (cases_eq (number numbers u.to) (number numbers a)) [
        | inl e ↦ absurd (none (fault_of u) (record { from = a; closing = u; stands = h; back = made.same u.to a (made.graph a u h) (from_within g a u h) e; fault = refl }))
        | inr ne ↦ omega arith
      ]

  -- Where none does what is used stands in the order before that which uses it.
  pub follows : ((f : Fault) → IsClosing g f → ⊥) → (i : ℕ) → i < length order → (u : Use) → In (uses_of g (number order i)) u → (j : ℕ) × ((j < i) × (number order j ≡ u.to))
  follows none i h u s =
      let less : number numbers u.to < number numbers (number order i) = falls none (number order i) u s in
      let j = in_index order u.to 0 (made.placed u.to (made.graph (number order i) u s)) in
      let at : number numbers (number order j.0) ≡ number numbers u.to = ap (number numbers) j.1.1 in
      elim (cases_lt j.0 i) [
        | inl l ↦ (j.0, (l, j.1.1))
        | inr past ↦ elim (cases_eq j.0 i) [
          | inl is ↦ absurd (omega (arith, ap (λ k. number numbers (number order k)) is))
          | inr ne ↦ absurd (omega (arith, made.rises i j.0 (omega arith) j.1.0))
        ]
      ]

  -- So the numbers are ranks then, and the order goes by them.
  pub ranked : ((f : Fault) → IsClosing g f → ⊥) → ((a : ℕ) (u : Use) → In (uses_of g a) u → number numbers u.to < number numbers a) × ((i : ℕ) → i < length order → (u : Use) → In (uses_of g (number order i)) u → (j : ℕ) × ((j < i) × (number order j ≡ u.to)))
  ranked none = (falls none, follows none)

  -- Uses that meet the number of their own definition are those that close a cycle.
  closing_of : (f : Fault) → Below (λ a. HasMeeting numbers (number numbers a) (uses_of g a)) (length g) f → IsClosing g f
  closing_of f b =
      let stands : In (uses_of g b.0) (the_use (uses_of g b.0) b.1.1.0) = in_get (uses_of g b.0) b.1.1.0 (record { to = 0; at = 0 }) b.1.1.1.0 in
      record {
        from = b.0;
        closing = the_use (uses_of g b.0) b.1.1.0;
        stands = stands;
        back = (closes b.0 (the_use (uses_of g b.0) b.1.1.0) stands).0 b.1.1.1.1.0;
        fault = b.1.1.1.1.1;
      }

  of_closing : (f : Fault) → IsClosing g f → Below (λ a. HasMeeting numbers (number numbers a) (uses_of g a)) (length g) f
  of_closing f c =
      let k = in_index (uses_of g c.from) c.closing (record { to = 0; at = 0 }) c.stands in
      let same : number numbers c.closing.to ≡ number numbers c.from = (closes c.from c.closing c.stands).1 c.back in (
        c.from,
        (
          from_within g c.from c.closing c.stands,
          (k.0, (k.1.0, (ap (λ (u : Use). number numbers u.to) k.1.1 ∙ same, c.fault ∙ ap fault_of (sym k.1.1)))),
        ),
      )

  pub tells_closing : (found : Option Fault) → Tells (Below (λ a. HasMeeting numbers (number numbers a) (uses_of g a)) (length g)) found → Tells (IsClosing g) found
  tells_closing = tells_as (Below (λ a. HasMeeting numbers (number numbers a) (uses_of g a)) (length g)) (IsClosing g) closing_of of_closing

pub the_uses : (g : List (List Use)) (y : ℕ) (xs rs : List Use) → xs ≡ rs → rs ≡ get_or g y rs → y < length g → xs ≡ uses_of g y
the_uses g y xs rs e is within = e ∙ is ∙ get_or_default g y rs [] within
