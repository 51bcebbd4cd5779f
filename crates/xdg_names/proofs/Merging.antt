-- Groups that are merged into one.
use Rattle.std.proofs.Common.{ℕ, ◌<◌, ◌≤◌, inl, inr, List, [], ◌∷◌, ◌++◌, length, ap, arith}
use Rattle.std.proofs.lemmas.Bool.{cases_lt}
use Rattle.xdg_names.specs.declared.graph.Use.{Use}
use Rattle.xdg_names.specs.Leads.{Leads, number}
use Rattle.xdg_names.specs.Walks.{IsWalking, NotBelow, IsLooked, Climbs, Merges}
use Rattle.xdg_names.proofs.Climbs.{climbs_front, climbs_last}
use Rattle.xdg_names.proofs.Walking.{leads_on}
use Rattle.xdg_facts.specs.Membership.{In}
use Rattle.xdg_facts.proofs.In.{in_left, in_parts}

-- Starts with greater marks are gone, and those that stand there began there.
pub record IsMerging (marks : List ℕ) (top : ℕ) (starts starts' : List ℕ) : Type 0 where
  pub old : (s : ℕ) → In starts' s → In starts s
  pub all : (s : ℕ) → In starts s → number marks s ≤ top → In starts' s
  pub climb : Climbs marks starts'

module _ (marks : List ℕ) (top : ℕ) (starts : List ℕ) where
  pub merging_starts : Climbs marks starts → IsMerging marks top starts starts
  merging_starts h = record { old = λ s k. k; all = λ s k l. k; climb = h }

  pub merging_goes : (front : List ℕ) (b : ℕ) → IsMerging marks top starts (front ++ b ∷ []) → top < number marks b → IsMerging marks top starts front
  merging_goes front b v above = record {
    old = λ s h. v.old s (in_left front (b ∷ []) s h);
    all = λ s h l. elim (in_parts front b s (v.all s h l)) [ inl i ↦ i | inr e ↦ absurd (omega (arith, ap (number marks) e)) ];
    climb = climbs_front marks front b v.climb;
  }

  pub merging_ends : (front : List ℕ) (b : ℕ) → IsMerging marks top starts (front ++ b ∷ []) → number marks b ≤ top → Merges marks top starts (front ++ b ∷ [])
  merging_ends front b v within = record {
    kept = λ s h. (
      v.old s h,
      elim (in_parts front b s h) [
        | inl i ↦ omega (arith, climbs_last marks front b v.climb s i)
        | inr e ↦ omega (arith, ap (number marks) e)
      ],
    );
    all = v.all;
    climb = v.climb;
  }

module _ (g : List (List Use)) (marks left stack starts path order : List ℕ) (next : ℕ) (v : IsWalking g marks left stack starts path order next) where
  -- each on the stack leads to the last of the path
  pub leads_last : (x : ℕ) → In path x → ((a : ℕ) → In path a → number marks a ≤ number marks x) → (a : ℕ) → length g < number marks a → Leads g a x
  leads_last x held last a h = v.leads a x h (v.path_on x held) (λ s i l. last s (v.starts_on s i))

  module _ (x y : ℕ) (held : In path x) (last : (a : ℕ) → In path a → number marks a ≤ number marks x) (reach : Leads g x y) (on : length g < number marks y) (starts' : List ℕ) (m : Merges marks (number marks y) starts starts') where
    merged_leads : (a b : ℕ) → length g < number marks a → length g < number marks b → NotBelow marks starts' a b → Leads g a b
    merged_leads a b ha hb nb = elim (cases_lt (number marks y) (number marks a)) [
      | inl above ↦ leads_on g a y b (leads_on g a x y (leads_last x held last a ha) reach) (v.leads y b on hb (λ s h l. nb s (m.all s h l) (omega arith)))
      | inr below ↦ v.leads a b ha hb (λ s h l. nb s (m.all s h (omega arith)) l)
    ]

    pub merged : IsWalking g marks left stack starts' path order next
    merged = record {
      marks_are = v.marks_are;
      leads = merged_leads;
      looked = λ a k h l j. (let old = v.looked a k h l j in (old.0, λ o s i. old.1 o s (m.kept s i).0));
      down = v.down;
      same = v.same;
      begun = λ a h. (let b = v.begun a h in
          let l : number marks b.0 ≤ number marks a = b.1.1 in
          elim (cases_lt (number marks y) (number marks b.0)) [
            | inl above ↦ (let c = v.begun y on in let k : number marks c.0 ≤ number marks y = c.1.1 in (c.0, (m.all c.0 c.1.0 k, omega arith)))
            | inr below ↦ (b.0, (m.all b.0 b.1.0 below, l))
          ]);
      starts_on = λ s h. v.starts_on s (m.kept s h).0;
      starts_climb = m.climb;
      path_on = v.path_on;
      path_climbs = v.path_climbs;
      through = v.through;
      lefts = v.lefts;
      fits = v.fits;
      fresh = v.fresh;
      few = v.few;
      least = v.least;
    }

    pub merged_looked : IsLooked (length g) marks starts' x y
    merged_looked = (omega arith, λ o s h l. (m.kept s h).1)
