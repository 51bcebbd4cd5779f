-- Edges, and the numbers that say which places have one.
use Rattle.std.proofs.Common.{◌≡◌, ℕ, ◌<◌, ◌⊎◌, inl, inr, List, [], ◌∷◌, length, refl, ap, ap₂, sym, ◌∙◌, arith, subst, Bool, true, false, map, cond}
use Rattle.std.specs.Prelude.{Contains, ◌==◌, ◌||◌}
use Rattle.std.specs.List.{AllByRecursion}
use Rattle.std.proofs.lemmas.Bool.{cases_eq, ne_eqb, eq-eqb}
use Rattle.xdg_facts.specs.Fits.{Fits}
use Rattle.xdg_problem.specs.declared.analysis.Edge.{Edge}
use Rattle.xdg_problem.specs.Vectors.{has_edge, presence, chosen}
use Rattle.xdg_problem.specs.Analyses.{Before, EdgesRise}
use Rattle.xdg_facts.proofs.InOrder.{Ordered, ordered_cond}
use Rattle.xdg_facts.proofs.Each.{each_cond, each_weaker, each_contained}
use Rattle.xdg_facts.proofs.Contained.{contains_cases, contains_none}
use Rattle.xdg_problem.proofs.Edges.{same_edge_itself, before_irreflexive, before_transitive, before_apart, after_apart}

-- edges that rise from one to the next are ordered
pub rise_ordered : (edges : List Edge) → EdgesRise edges → Ordered Before edges
rise_ordered [] r = tt
rise_ordered (e ∷ []) r = (tt, tt)
rise_ordered (e ∷ f ∷ edges) r =
    let o = rise_ordered (f ∷ edges) r.1 in
    ((r.0, each_weaker (Before f) (Before e) edges (λ g b. before_transitive e f g r.0 b) o.0), o)

pub ordered_rise : (edges : List Edge) → Ordered Before edges → EdgesRise edges
ordered_rise [] o = tt
ordered_rise (e ∷ []) o = tt
ordered_rise (e ∷ f ∷ edges) o = (o.0.0, ordered_rise (f ∷ edges) o.1)

-- what is chosen

pub chosen_each : (P : Edge → Type 0) (places : List Edge) (numbers : List ℕ) → AllByRecursion P places → AllByRecursion P (chosen places numbers)
chosen_each P [] numbers a = tt
chosen_each P (p ∷ places) [] a = tt
chosen_each P (p ∷ places) (n ∷ numbers) a = each_cond P (n == 0) p (chosen places numbers) a.0 (chosen_each P places numbers a.1)

pub chosen_ordered : (places : List Edge) (numbers : List ℕ) → Ordered Before places → Ordered Before (chosen places numbers)
chosen_ordered [] numbers o = tt
chosen_ordered (p ∷ places) [] o = tt
chosen_ordered (p ∷ places) (n ∷ numbers) o = ordered_cond Before (n == 0) p (chosen places numbers) (chosen_each (Before p) places numbers o.0) (chosen_ordered places numbers o.1)

-- presence

pub present_head : (p : Edge) (edges : List Edge) → presence (p ∷ edges) p ≡ 0
present_head p edges = ap (λ b. cond (b || has_edge edges p) 0 1) (same_edge_itself p)

pub absent_before : (p : Edge) (edges : List Edge) → AllByRecursion (Before p) edges → has_edge edges p ≡ false
absent_before p [] a = refl
absent_before p (e ∷ edges) a = ap (λ b. b || has_edge edges p) (before_apart p e a.0) ∙ absent_before p edges a.1

pub presence_skip : (p : Edge) (edges places : List Edge) → AllByRecursion (Before p) places → map (presence (p ∷ edges)) places ≡ map (presence edges) places
presence_skip p edges [] a = refl
presence_skip p edges (q ∷ places) a = ap₂ (λ z zs. z ∷ zs) (ap (λ b. cond (b || has_edge edges q) 0 1) (after_apart p q a.0)) (presence_skip p edges places a.1)

pub presence_fits : (edges places : List Edge) → Fits (map (λ (place : Edge). 2) places) (map (presence edges) places)
presence_fits edges [] = tt
presence_fits edges (p ∷ places) = (below_two (has_edge edges p), presence_fits edges places) where
  below_two : (b : Bool) → cond b 0 1 < 2
  below_two true = omega arith
  below_two false = omega arith

-- numbers that fit say which edges they chose
pub presence_back : (places : List Edge) (numbers : List ℕ) → Ordered Before places → Fits (map (λ (place : Edge). 2) places) numbers → length numbers ≡ length places → map (presence (chosen places numbers)) places ≡ numbers
presence_back [] [] o f l = refl
presence_back (p ∷ places) (n ∷ numbers) o f l =
    let c = chosen places numbers in
    let h = presence_back places numbers o.1 f.1 (omega arith) in
    elim (cases_eq n 0) [
      | inl e ↦ subst (λ b. map (presence (cond b (p ∷ c) c)) (p ∷ places) ≡ n ∷ numbers) (sym (eq-eqb n 0 e))
          (ap₂ (λ z zs. z ∷ zs) (present_head p c ∙ sym e) (presence_skip p c places o.0 ∙ h))
      | inr ne ↦ subst (λ b. map (presence (cond b (p ∷ c) c)) (p ∷ places) ≡ n ∷ numbers) (sym (ne_eqb n 0 ne))
          (ap₂ (λ z zs. z ∷ zs) (ap (λ b. cond b 0 1) (absent_before p c (chosen_each (Before p) places numbers o.0)) ∙ (let t : n < 2 = f.0 in omega (arith, ne))) h)
    ]
presence_back places numbers o f l = absurd (omega arith)

-- edges behind a place stand at the places behind it
pub narrow : (p : Edge) (places edges : List Edge) → AllByRecursion (Before p) edges → AllByRecursion (Contains (p ∷ places)) edges → AllByRecursion (Contains places) edges
narrow p places [] b a = tt
narrow p places (e ∷ edges) b a = (
  elim (contains_cases p places e a.0) [
    | inl s ↦ absurd (before_irreflexive e (subst (λ z. Before z e) s b.0))
    | inr c ↦ c
  ],
  narrow p places edges b.1 a.1,
)

-- where edges stand: at the places that follow p, or first at p and then at those
pub record HasHead (p : Edge) (places edges : List Edge) : Type 0 where
  pub rest : List Edge
  pub is : edges ≡ p ∷ rest
  pub ordered : Ordered Before rest
  pub within : AllByRecursion (Contains places) rest

pub record IsBehind (p : Edge) (places edges : List Edge) : Type 0 where
  pub behind : AllByRecursion (Before p) edges
  pub within : AllByRecursion (Contains places) edges

pub head_cases : (p : Edge) (places edges : List Edge) → Ordered Before (p ∷ places) → Ordered Before edges → AllByRecursion (Contains (p ∷ places)) edges → HasHead p places edges ⊎ IsBehind p places edges
head_cases p places [] o r a = inr (record { behind = tt; within = tt })
head_cases p places (e ∷ edges) o r a = elim (contains_cases p places e a.0) [
  | inl s ↦ (let b : AllByRecursion (Before p) edges = subst (λ z. AllByRecursion (Before z) edges) (sym s) r.0 in
      inl (record { rest = edges; is = ap (λ z. z ∷ edges) (sym s); ordered = r.1; within = narrow p places edges b a.1 }))
  | inr c ↦ (let b : Before p e = each_contained (Before p) places e o.0 c in
      let bs : AllByRecursion (Before p) (e ∷ edges) = (b, each_weaker (Before e) (Before p) edges (λ f l. before_transitive p e f b l) r.0) in
      inr (record { behind = bs; within = narrow p places (e ∷ edges) bs a }))
]

-- edges at the places are those that their numbers choose
pub chosen_back : (places edges : List Edge) → Ordered Before places → Ordered Before edges → AllByRecursion (Contains places) edges → chosen places (map (presence edges) places) ≡ edges
chosen_back [] [] o r a = refl
chosen_back [] (e ∷ edges) o r a = absurd (contains_none e a.0)
chosen_back (p ∷ places) edges o r a = elim (head_cases p places edges o r a) [
  | inl u ↦ subst (λ z. chosen (p ∷ places) (map (presence z) (p ∷ places)) ≡ z) (sym u.is)
      (ap₂ (λ n ns. cond (n == 0) (p ∷ chosen places ns) (chosen places ns)) (present_head p u.rest) (presence_skip p u.rest places o.0)
      ∙ ap (λ z. p ∷ z) (chosen_back places u.rest o.1 u.ordered u.within))
  | inr w ↦ ap (λ q. cond ((cond q 0 1) == 0) (p ∷ chosen places (map (presence edges) places)) (chosen places (map (presence edges) places))) (absent_before p edges w.behind) ∙ chosen_back places edges o.1 r w.within
]
