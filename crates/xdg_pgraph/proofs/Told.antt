-- The nodes into which some edges lead, step by step.
use Rattle.std.proofs.Common.{◌≡◌, ◌≢◌, ℕ, ◌+◌, ◌<◌, ◌≤◌, ◌⊎◌, ◌↔◌, ◌||◌, ◌&&◌, inl, inr, Bool, true, IsTrue, List, [], refl, sym, ◌∙◌, subst, arith}
use Rattle.std.specs.Prelude.{Contains}
use Rattle.std.proofs.lemmas.Bool.{false≢true}
use Rattle.xdg_problem.specs.declared.analysis.Edge.{Edge}
use Rattle.xdg_problem.specs.declared.parts.Parts.{Parts}
use Rattle.xdg_problem.specs.Places.{edge}
use Rattle.xdg_problem.proofs.Edges.{edge_equal}
use Rattle.xdg_pgraph.specs.declared.entered.Entered.{Entered}
use Rattle.xdg_graph.specs.declared.which.Which.{Which}
use Rattle.xdg_pgraph.specs.declared.plane.Plane.{Plane}
use Rattle.xdg_pgraph.specs.Entering.{Enters, EnterTwice, Tells, Leaving, Labelled}
use Rattle.xdg_pgraph.specs.Planes.{IsPlane}
use Rattle.xdg_graph.specs.Edges.{edges_of}
use Rattle.xdg_pgraph.specs.Seeking.{ToNode}
use Rattle.xdg_pgraph.proofs.Below.{At, Below, below_apart, below_cases, below_last, below_more, below_none}
use Rattle.xdg_pgraph.proofs.PlaneFacts.{which_on, which_place}
use Rattle.xdg_facts.proofs.Truths.{either_true, or_here}
use Rattle.xdg_facts.specs.Rises.{has}
use Rattle.xdg_facts.proofs.Sets.{either, both}

-- whether one of some edges leads into a node, and whether two do
abbrev pub TellsAt : (Edge → Type 0) → ℕ → Bool → Bool → Type 0
TellsAt P v some more = (IsTrue some ↔ Enters P v) × (IsTrue more ↔ EnterTwice P v)

-- the same edges, told in another way
pub at_like : (P Q : Edge → Type 0) (v : ℕ) (some more : Bool) → ((e : Edge) → ToNode v e → P e → Q e) → ((e : Edge) → ToNode v e → Q e → P e) → TellsAt P v some more → TellsAt Q v some more
at_like P Q v some more to from t = (
  (λ h. (let s = t.0.0 h in (s.0, to s.0 s.2 s.1, s.2)), λ s. t.0.1 (s.0, from s.0 s.2 s.1, s.2)),
  (
    λ h. (let s = t.1.0 h in record { first = s.first; one = (to s.first s.one.1 s.one.0, s.one.1); second = s.second; two = (to s.second s.two.1 s.two.0, s.two.1); differ = s.differ }),
    λ s. t.1.1 (record { first = s.first; one = (from s.first s.one.1 s.one.0, s.one.1); second = s.second; two = (from s.second s.two.1 s.two.0, s.two.1); differ = s.differ }),
  ),
)

pub all_told : (P : Edge → Type 0) (a : Entered) → ((v : ℕ) → TellsAt P v (has a.some v) (has a.more v)) → Tells P a
all_told P a at = record { once = λ v. (at v).0; twice = λ v. (at v).1 }

tells_like : (P Q : Edge → Type 0) (a : Entered) → ((e : Edge) → P e → Q e) → ((e : Edge) → Q e → P e) → Tells P a → Tells Q a
tells_like P Q a to from t = all_told Q a (λ v. at_like P Q v (has a.some v) (has a.more v) (λ e into. to e) (λ e into. from e) (t.once v, t.twice v))

-- some edges, and others
module _ (P Q R : Edge → Type 0) (first : (e : Edge) → P e → R e) (second : (e : Edge) → Q e → R e) (each : (e : Edge) → R e → P e ⊎ Q e) (apart : (e : Edge) → P e → Q e → ⊥)
    (v : ℕ) (some also more twice : Bool) (p : TellsAt P v some more) (q : TellsAt Q v also twice) where
  once_both : IsTrue (some || also) ↔ Enters R v
  once_both = (
    λ h. elim ((either some also).0 h) [
      | inl x ↦ (let s = p.0.0 x in (s.0, first s.0 s.1, s.2))
      | inr y ↦ (let s = q.0.0 y in (s.0, second s.0 s.1, s.2))
    ],
    λ s. (either some also).1 (elim (each s.0 s.1) [ inl x ↦ inl (p.0.1 (s.0, x, s.2)) | inr y ↦ inr (q.0.1 (s.0, y, s.2)) ]),
  )

  twice_there : (more || (twice || (some && also))) ≡ true → EnterTwice R v
  twice_there h = elim ((either more (twice || (some && also))).0 h) [
    | inl x ↦ (let s = p.1.0 x in record { first = s.first; one = (first s.first s.one.0, s.one.1); second = s.second; two = (first s.second s.two.0, s.two.1); differ = s.differ })
    | inr y ↦ elim ((either twice (some && also)).0 y) [
      | inl z ↦ (let s = q.1.0 z in record { first = s.first; one = (second s.first s.one.0, s.one.1); second = s.second; two = (second s.second s.two.0, s.two.1); differ = s.differ })
      | inr z ↦
          let two = (both some also).0 z in
          let s = p.0.0 two.0 in
          let t = q.0.0 two.1 in
          record { first = s.0; one = (first s.0 s.1, s.2); second = t.0; two = (second t.0 t.1, t.2); differ = λ same. apart s.0 s.1 (subst Q (sym same) t.1) }
    ]
  ]

  twice_case : EnterTwice R v → (more || (twice || (some && also))) ≡ true
  twice_case s =
      let mixed = λ (e : Edge) (f : Edge) (x : P e × ToNode v e) (y : Q f × ToNode v f). either_true more (twice || (some && also)) (either_true twice (some && also) ((both some also).1 (p.0.1 (e, x.0, x.1), q.0.1 (f, y.0, y.1)))) in
      elim (each s.first s.one.0) [
        | inl x ↦ elim (each s.second s.two.0) [
          | inl y ↦ or_here more (twice || (some && also)) (p.1.1 (record { first = s.first; one = (x, s.one.1); second = s.second; two = (y, s.two.1); differ = s.differ }))
          | inr y ↦ mixed s.first s.second (x, s.one.1) (y, s.two.1)
        ]
        | inr x ↦ elim (each s.second s.two.0) [
          | inl y ↦ mixed s.second s.first (y, s.two.1) (x, s.one.1)
          | inr y ↦ either_true more (twice || (some && also)) (or_here twice (some && also) (q.1.1 (record { first = s.first; one = (x, s.one.1); second = s.second; two = (y, s.two.1); differ = s.differ })))
        ]
      ]

  tells_both : TellsAt R v (some || also) (more || (twice || (some && also)))
  tells_both = (once_both, (twice_there, twice_case))

-- the edges with a number below a bound, one number after another
module _ (number : Edge → ℕ) (P : Edge → Type 0) where
  pub told_none : (a : Entered) → Tells (λ e. ⊥) a → Tells (Below number P 0) a
  told_none a = tells_like (λ e. ⊥) (Below number P 0) a (λ e x. absurd x) (below_none number P)

  pub told_next : (k : ℕ) (a b c : Entered) → ((n : ℕ) → has c.some n ≡ (has a.some n || has b.some n)) → ((n : ℕ) → has c.more n ≡ (has a.more n || (has b.more n || (has a.some n && has b.some n))))
      → Tells (Below number P k) a → Tells (At number P k) b → Tells (Below number P (k + 1)) c
  told_next k a b c some_is more_is p q = all_told (Below number P (k + 1)) c (λ v. rw (some_is v, more_is v) (tells_both (Below number P k) (At number P k) (Below number P (k + 1))
      (below_more number P k) (below_last number P k) (below_cases number P k) (below_apart number P k) v (has a.some v) (has b.some v) (has a.more v) (has b.more v) (p.once v, p.twice v) (q.once v, q.twice v)))

  told_all : (k : ℕ) (a : Entered) → ((e : Edge) → P e → number e < k) → Tells (Below number P k) a → Tells P a
  told_all k a all = tells_like (Below number P k) P a (λ e x. x.0) (λ e x. (x, all e x))

module _ (which : Which) (parts : Parts) (box : List (List Bool)) (plane : Plane) where
  abbrev those : List Edge
  those = edges_of which parts box plane.dim.0

  -- the edges with one label out of one node
  pub label_told : (u l : ℕ) (some more : List ℕ) → more ≡ [] → ((v : ℕ) → IsTrue (has some v) ↔ Contains those (edge plane.dim.0 u l v)) → Tells (Labelled those u l) (record { some = some; more = more })
  label_told u l some more none here = record {
    once = λ v. (
      λ h. (edge plane.dim.0 u l v, (((here v).0 h, refl), refl), refl),
      λ s. (here v).1 (subst (Contains those) (this v s.0 s.1 s.2) s.1.0.0),
    );
    twice = λ v. (
      λ h. absurd (false≢true (subst (λ s. has s v ≡ true) none h)),
      λ s. absurd (s.differ (this v s.first s.one.0 s.one.1 ∙ sym (this v s.second s.two.0 s.two.1))),
    );
  } where
    this : (v : ℕ) (e : Edge) → Labelled those u l e → ToNode v e → e ≡ edge plane.dim.0 u l v
    this v e k into = edge_equal e (edge plane.dim.0 u l v) (which_place which parts box plane.dim.0 e k.0.0).1 k.0.1 k.1 into

  module _ (plane_is : IsPlane parts plane) where
    pub from_end : (u l : ℕ) (a : Entered) → plane.labels ≤ l → Tells (Below (λ e. e.label.0) (Leaving those u) l) a → Tells (Leaving those u) a
    from_end u l a all = told_all (λ e. e.label.0) (Leaving those u) l a (λ e x. (let k = (which_on which parts box plane plane_is e x.0).label in omega (arith, k, all)))

    pub all_end : (w : ℕ) (a : Entered) → plane.nodes ≤ w → Tells (Below (λ e. e.daughter.0) (Contains those) w) a → Tells (Contains those) a
    all_end w a all = told_all (λ e. e.daughter.0) (Contains those) w a (λ e x. (let k = (which_on which parts box plane plane_is e x).daughter in omega (arith, k, all)))

    -- no edge leads from a node to itself
    pub leaves_other : (u v : ℕ) (a : Entered) → Tells (Leaving those u) a → has a.some v ≡ true → u ≢ v
    leaves_other u v a t h same = (let s = (t.once v).0 h in (which_on which parts box plane plane_is s.0 s.1.0).differ (s.1.1 ∙ same ∙ sym s.2))

    -- edges lead into nodes of the sentence
    pub entered_within : (v : ℕ) (a : Entered) → Tells (Contains those) a → has a.some v ≡ true → v < plane.nodes
    entered_within v a t h = (let s = (t.once v).0 h in let k = (which_on which parts box plane plane_is s.0 s.1).daughter in let e : s.0.daughter.0 ≡ v = s.2 in omega (arith, k, e))
