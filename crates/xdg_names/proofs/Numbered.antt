-- A walk that is done has numbered the strong components.
use Rattle.std.proofs.Common.{◌≡◌, ℕ, suc, ◌+◌, ◌<◌, ◌≤◌, inl, inr, List, [], ◌∷◌, length, refl, subst, arith}
use Rattle.std.proofs.lemmas.Bool.{cases_lt}
use Rattle.std.proofs.lemmas.List.Sums.{sum_by-append}
use Rattle.std.proofs.lemmas.List.{get_or_past}
use Rattle.xdg_names.specs.declared.graph.Use.{Use}
use Rattle.xdg_names.specs.Leads.{uses_of, IsGraph, number, AreComponents}
use Rattle.xdg_names.specs.Walks.{IsWalking, fresh_at, unmet}
use Rattle.xdg_names.proofs.Climbs.{marked_within}
use Rattle.xdg_names.proofs.Marks.{not_fresh}
use Rattle.xdg_facts.specs.Membership.{In}

-- a definition with uses is one of the graph
pub from_within : (g : List (List Use)) (a : ℕ) (u : Use) → In (uses_of g a) u → a < length g
from_within g a u h = elim (cases_lt a (length g)) [ inl l ↦ l | inr past ↦ absurd (subst (λ us. In us u) (get_or_past g a [] past) h) ]

all_met : (ms : List ℕ) → ((i : ℕ) → i < length ms → 1 ≤ number ms i) → unmet ms ≡ 0
all_met [] h = refl
all_met (m ∷ ms) h =
    omega (arith, not_fresh m (h 0 (omega arith)), sum_by-append fresh_at (m ∷ []) ms, all_met ms (λ i l. h (suc i) (omega arith)))

module _ (g : List (List Use)) (marks left stack starts path order : List ℕ) (next : ℕ) (graph : IsGraph g) (v : IsWalking g marks left stack starts path order next) (none : path ≡ []) (met : (a : ℕ) → a < length g → 1 ≤ number marks a) where
  none_on : (a : ℕ) → length g < number marks a → ⊥
  none_on a h = let b = v.begun a h in subst (λ xs. In xs b.0) none (v.starts_on b.0 b.1.0)

  finished : (a : ℕ) → number marks a ≤ length g
  finished a = elim (cases_lt (length g) (number marks a)) [ inl l ↦ absurd (none_on a l) | inr l ↦ l ]

  no_stack : length stack ≡ 0
  no_stack = elim (cases_lt 0 (length stack)) [
    | inl l ↦ (let on : number marks (number stack 0) ≡ length g + 1 + 0 = v.marks_are.on 0 l in absurd (none_on (number stack 0) (omega arith)))
    | inr l ↦ omega arith
  ]

  pub numbered : AreComponents g marks order
  numbered =
      let len : length marks ≡ length g = v.marks_are.len in
      record {
        graph = graph;
        len = len;
        same = λ a b h k e. v.same a b (met a h) (finished a) e;
        down = λ a u h. (v.down a u (met a (from_within g a u h)) (finished a) h).1;
        placed = λ a h. v.marks_are.placed a (met a h) (finished a);
        count = (
            let s : length stack ≡ 0 = no_stack in
            omega (arith, all_met marks (λ i l. met i (omega arith))));
        within = λ i h. (omega (arith, marked_within marks (number order i) (v.marks_are.given i h).0));
        rises = v.marks_are.rises;
      }
