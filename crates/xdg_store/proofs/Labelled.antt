-- The bits of labels.
use Rattle.std.proofs.Common.{◌≡◌, ◌≢◌, ℕ, ◌<◌, ◌-◌, ◌↔◌, ◌⊎◌, inl, inr, Bool, IsTrue, List, [], ◌∷◌, length, get_or, set, refl, ap, sym, ◌∙◌, arith, subst}
use Rattle.std.specs.Prelude.{◌==◌, nat_lt}
use Rattle.std.specs.Int.{bit_at}
use Rattle.std.proofs.lemmas.Bool.{cases_eq, eq-eqb, lt-ltb, ltb-true}
use Rattle.std.proofs.lemmas.List.{get_or_default, get_or-set_other, get_or-set_same, length-set}
use Rattle.xdg_facts.proofs.Rising.{contains_of_has}
use Rattle.xdg_facts.proofs.Truths.{either_true, or_here}
use Rattle.xdg_facts.specs.Rises.{has, Rises}
use Rattle.xdg_nodeset.specs.Nodes.{IsNodes}
use Rattle.xdg_problem.specs.declared.analysis.Edge.{Edge}
use Rattle.xdg_store.specs.Across.{Renews, Sets, edge_at, no_mothers}
use Rattle.xdg_store.specs.Labels.{IsLabelled, IsMore, IsSome, Marks, Relabels, RenewsSide, SaysAgain, at_place, labels_at, no_labels}
use Rattle.xdg_store.specs.declared.across.Mothers.{Mothers}
use Rattle.xdg_store.specs.declared.labels.Labels.{Labels}
use Rattle.xdg_store.specs.declared.labels.LabelsInto.{LabelsInto}
use Rattle.xdg_facts.proofs.Sets.{next_above, two_nodes}

-- ---- how many nodes a set has

pub some_in : (nodes : List ℕ) → 0 < length nodes → IsSome (λ m. IsTrue (has nodes m))
some_in [] l = absurd (omega (arith, l))
some_in (a ∷ nodes) l = (a, or_here (a == a) (has nodes a) (eq-eqb a a refl))

pub two_in : (nodes : List ℕ) → Rises 0 128 nodes → 1 < length nodes → IsMore (λ m. IsTrue (has nodes m))
two_in [] rises l = absurd (omega (arith, l))
two_in (a ∷ []) rises l = absurd (omega (arith, l))
two_in (a ∷ b ∷ nodes) rises l = (
  a,
  b,
  (λ same. (let up = next_above 0 128 a b nodes rises in omega (arith, up, same))),
  or_here (a == a) (has (b ∷ nodes) a) (eq-eqb a a refl),
  either_true (a == b) (has (b ∷ nodes) b) (or_here (b == b) (has nodes b) (eq-eqb b b refl)),
)

pub marks_of : (nodes : List ℕ) (label count : ℕ) (old : Labels) (some more : ℕ) → IsNodes nodes → count ≡ length nodes → (bit_at some label ≡ 1) ↔ IsTrue (nat_lt 0 count) → ((l : ℕ) → l ≢ label → bit_at some l ≡ bit_at old.some l) → (bit_at more label ≡ 1) ↔ IsTrue (nat_lt 1 count) → ((l : ℕ) → l ≢ label → bit_at more l ≡ bit_at old.more l) → Marks (λ m. IsTrue (has nodes m)) label old (record { some = some; more = more })
marks_of nodes label count old some more is size some_is some_rest more_is more_rest = record {
  here = record {
    some = (
      λ h. some_in nodes (let l = ltb-true 0 count (some_is.0 h) in omega (arith, l, size)),
      λ (m, h). some_is.1 (lt-ltb 0 count (let l = (contains_of_has nodes m h).1 in omega (arith, l, size))),
    );
    more = (
      λ h. two_in nodes is.rises (let l = ltb-true 1 count (more_is.0 h) in omega (arith, l, size)),
      λ (m, k, differ, h, i). more_is.1 (lt-ltb 1 count (let l = two_nodes nodes m k differ h i in omega (arith, l, size))),
    );
  };
  some_others = some_rest;
  more_others = more_rest;
}

-- ---- what else is said by the same bits

pub labelled_like : (P Q : ℕ → Type 0) (old new : Labels) (k l : ℕ) → bit_at new.some l ≡ bit_at old.some k → bit_at new.more l ≡ bit_at old.more k → ((m : ℕ) → P m ↔ Q m) → IsLabelled P old k → IsLabelled Q new l
labelled_like P Q old new k l some more same is = record {
  some = (
    λ h. (let x = is.some.0 (sym some ∙ h) in (x.0, (same x.0).0 x.1)),
    λ (m, q). some ∙ is.some.1 (m, (same m).1 q),
  );
  more = (
    λ h. (let x = is.more.0 (sym more ∙ h) in (x.0, x.1, x.2, (same x.0).0 x.3, (same x.1).0 x.4)),
    λ (m, i, differ, p, q). more ∙ is.more.1 (m, i, differ, (same m).1 p, (same i).1 q),
  );
}

-- ---- one side of a row

-- one that isn't looked at
pub side_stays : (e : Edge) (wanted : Bool) (set : List ℕ) (labels : Labels) → has set e.mother.0 ≡ wanted → RenewsSide e wanted set set labels labels
side_stays e wanted set labels is = record { here = is; others = λ m other. refl; labels = inl (refl, refl) }

-- ---- both sides

module _ (n : ℕ) (e : Edge) (rows : List Mothers) (row row' : Mothers) (place : ℕ) (place_is : place ≡ edge_at n e) (within : place < length rows) (row_is : row ≡ get_or rows place row) where
  pub was_row : get_or rows (edge_at n e) no_mothers ≡ row
  was_row = sym (row_is ∙ get_or_default rows place row no_mothers within ∙ ap (λ i. get_or rows i no_mothers) place_is)

  now_row : get_or (set rows place row') (edge_at n e) no_mothers ≡ row'
  now_row = ap (λ i. get_or (set rows place row') i no_mothers) (sym place_is) ∙ get_or-set_same rows place row' no_mothers within

  -- for the edges that may be present, and for those that must be
  module _ (look : Mothers → List ℕ) (wanted : Bool) (before after : Labels) (side : RenewsSide e wanted (look row) (look row') before after) where
    side_others : (i m : ℕ) → (i ≢ edge_at n e) ⊎ (m ≢ e.mother.0) → has (look (get_or (set rows place row') i no_mothers)) m ≡ has (look (get_or rows i no_mothers)) m
    side_others i m w = elim (cases_eq i (edge_at n e)) [
      | inl here ↦ elim w [
        | inl elsewhere ↦ absurd (elsewhere here)
        | inr other ↦
            ap (λ j. has (look (get_or (set rows place row') j no_mothers)) m) here
            ∙ ap (λ r. has (look r) m) now_row
            ∙ side.others m other
            ∙ ap (λ r. has (look r) m) (sym was_row)
            ∙ ap (λ j. has (look (get_or rows j no_mothers)) m) (sym here)
      ]
      | inr elsewhere ↦ ap (λ r. has (look r) m) (get_or-set_other rows place i row' no_mothers (λ s. elsewhere (s ∙ place_is)))
    ]

    side_sets : Sets (λ xs i m. has (look (get_or xs i no_mothers)) m) n e wanted rows (set rows place row')
    side_sets = record { here = ap (λ r. has (look r) e.mother.0) now_row ∙ side.here; others = side_others }

    side_says : (was now : Labels) → before ≡ was → after ≡ now → SaysAgain (λ xs i m. has (look (get_or xs i no_mothers)) m) n e rows (set rows place row') was now
    side_says was now was_is now_is = elim side.labels [
      | inl stays ↦ inl ((λ m. ap (λ r. has (look r) m) now_row ∙ ap (λ xs. has xs m) stays.0 ∙ ap (λ r. has (look r) m) (sym was_row)), sym now_is ∙ stays.1 ∙ was_is)
      | inr marks ↦ inr (
          subst (λ r. Marks (λ m. IsTrue (has (look r) m)) e.label.0 was now) (sym now_row)
          (subst (Marks (λ m. IsTrue (has (look row') m)) e.label.0 was) now_is (subst (λ z. Marks (λ m. IsTrue (has (look row') m)) e.label.0 z after) was_is marks))
          )
    ]

  module _ (into : List LabelsInto) (labels labels' : LabelsInto) (at : ℕ) (at_is : at ≡ labels_at n e.dim.0 e.daughter.0) (there : at < length into) (labels_is : labels ≡ get_or into at labels) (possible certain : Bool) (may_side : RenewsSide e possible row.may row'.may labels.may labels'.may) (must_side : RenewsSide e certain row.must row'.must labels.must labels'.must) where
    pub renews_row : Renews n e possible certain rows (set rows place row')
    renews_row = record {
      count = length-set rows place row';
      may = side_sets (λ r. r.may) possible labels.may labels'.may may_side;
      must = side_sets (λ r. r.must) certain labels.must labels'.must must_side;
    }

    was_labels : labels ≡ at_place into (labels_at n e.dim.0 e.daughter.0)
    was_labels = labels_is ∙ get_or_default into at labels no_labels there ∙ ap (at_place into) at_is

    now_labels : labels' ≡ at_place (set into at labels') (labels_at n e.dim.0 e.daughter.0)
    now_labels = sym (get_or-set_same into at labels' no_labels there) ∙ ap (at_place (set into at labels')) at_is

    pub relabels_row : Relabels n e rows (set rows place row') into (set into at labels')
    relabels_row = record {
      count = length-set into at labels';
      may = side_says (λ r. r.may) possible labels.may labels'.may may_side _ _ (ap (λ (z : LabelsInto). z.may) was_labels) (ap (λ (z : LabelsInto). z.may) now_labels);
      must = side_says (λ r. r.must) certain labels.must labels'.must must_side _ _ (ap (λ (z : LabelsInto). z.must) was_labels) (ap (λ (z : LabelsInto). z.must) now_labels);
      others = λ i other. get_or-set_other into at i labels' no_labels (λ s. other (s ∙ at_is));
    }
