-- A group leaves the stack and has its number.
use Rattle.std.proofs.Common.{◌≡◌, ◌≢◌, ℕ, ◌+◌, ◌<◌, ◌≤◌, ◌⊎◌, inl, inr, List, [], ◌∷◌, ◌++◌, length, get_or, refl, sym, ap, ◌∙◌, subst, arith}
use Rattle.std.proofs.Math.ListN.{set, length-set}
use Rattle.std.specs.List.{sum_by}
use Rattle.std.proofs.lemmas.List.Sums.{sum_by-set}
use Rattle.std.proofs.lemmas.Bool.{cases_eq, cases_lt}
use Rattle.xdg_names.specs.Leads.{number}
use Rattle.xdg_names.specs.Walks.{AreMarks, Closes, IsClosingGroup, fresh_at, unmet}
use Rattle.xdg_names.proofs.Climbs.{at_last, at_front, marked_within, set_at}
use Rattle.xdg_names.proofs.Marks.{not_fresh, weaker}
use Rattle.xdg_facts.proofs.Lists.{length_more}
use Rattle.xdg_facts.specs.Membership.{In}
use Rattle.xdg_facts.proofs.In.{in_left, is_last}

-- the last one of the stack
module _ (n : ℕ) (marks front : List ℕ) (b : ℕ) (order : List ℕ) (given : ℕ) (v : AreMarks n marks (front ++ b ∷ []) order (given + 1)) where
  pub last_mark : number marks b ≡ n + 1 + length front
  last_mark =
      let on : number marks (number (front ++ b ∷ []) (length front)) ≡ n + 1 + length front = v.on (length front) (omega (arith, length_more front b)) in
      ap (number marks) (sym (at_last front b)) ∙ on

  pub last_within : b < length marks
  last_within = let m : number marks b ≡ n + 1 + length front = last_mark in marked_within marks b (omega arith)

  module _ (least : 1 ≤ given) (most : given ≤ n) where
    abbrev marks' : List ℕ
    marks' = set marks b given

    abbrev order' : List ℕ
    order' = order ++ b ∷ []

    at : (a : ℕ) → ((a ≡ b) × (number marks' a ≡ given)) ⊎ ((a ≢ b) × (number marks' a ≡ number marks a))
    at a = set_at marks b given a last_within

    -- the mark of another stays
    other : (a : ℕ) → number marks a ≢ n + 1 + length front → number marks' a ≡ number marks a
    other a ne = elim (at a) [ inl k ↦ absurd (ne (ap (number marks) k.0 ∙ last_mark)) | inr k ↦ k.1 ]

    pop_on : (p : ℕ) → p < length front → number marks' (number front p) ≡ n + 1 + p
    pop_on p h =
        let e : number marks (number front p) ≡ n + 1 + p = ap (number marks) (sym (at_front front b p h)) ∙ v.on p (omega (arith, length_more front b)) in
        let k : number marks' (number front p) ≡ number marks (number front p) = other (number front p) (omega arith) in
        k ∙ e

    pop_off : (a : ℕ) → n < number marks' a → number marks' a < n + 1 + length front
    pop_off a h = elim (at a) [
      | inl k ↦ absurd (omega arith)
      | inr k ↦ (let o : number marks a < n + 1 + length (front ++ b ∷ []) = v.off a (omega arith) in
          let m : number marks b ≡ n + 1 + length front = last_mark in
          elim (cases_eq (number marks a) (number marks b)) [ inl same ↦ absurd (k.0 (v.one a b (omega arith) same)) | inr ne ↦ omega (arith, length_more front b) ])
    ]

    pop_one : (a c : ℕ) → n < number marks' a → number marks' a ≡ number marks' c → a ≡ c
    pop_one a c h e = elim (at a) [
      | inl k ↦ absurd (omega arith)
      | inr k ↦ elim (at c) [
        | inl l ↦ absurd (omega arith)
        | inr l ↦ (v.one a c (omega arith) (sym k.1 ∙ e ∙ l.1))
      ]
    ]

    -- an old member of the order, or the new one
    member : (i : ℕ) → i < length order' → ((i < length order) × ((number marks' (number order' i) ≡ number marks (number order i)) × ((1 ≤ number marks (number order i)) × (number marks (number order i) ≤ given)))) ⊎ ((i ≡ length order) × (number marks' (number order' i) ≡ given))
    member i h = elim (cases_lt i (length order)) [
      | inl l ↦ (let g : number marks (number order i) < given + 1 = (v.given i l).1 in
          let e : number order' i ≡ number order i = at_front order b i l in
          inl (l, (ap (number marks') e ∙ other (number order i) (omega arith), ((v.given i l).0, omega arith))))
      | inr past ↦ (let is : i ≡ length order = omega (arith, length_more order b) in
          let e : number order' i ≡ b = ap (number order') is ∙ at_last order b in
          inr (is, ap (number marks') e ∙ elim (at b) [ inl k ↦ k.1 | inr k ↦ absurd (k.0 refl) ]))
    ]

    pop_given : (i : ℕ) → i < length order' → (1 ≤ number marks' (number order' i)) × (number marks' (number order' i) < given + 1)
    pop_given i h = elim (member i h) [
      | inl k ↦ (
          (omega arith, omega arith))
      | inr k ↦ (omega arith, omega arith)
    ]

    pop_rises : (i j : ℕ) → i < j → j < length order' → number marks' (number order' i) ≤ number marks' (number order' j)
    pop_rises i j l h = elim (member i (omega arith)) [
      | inl x ↦ (elim (member j h) [
        | inl y ↦ omega (arith, v.rises i j l y.0)
        | inr y ↦ omega arith
      ])
      | inr x ↦ absurd (omega (arith, length_more order b))
    ]

    pop_room : length order' + length front + unmet marks' ≡ n
    pop_room =
        let sums : sum_by fresh_at marks' + fresh_at (get_or marks b 0) ≡ sum_by fresh_at marks + fresh_at given = sum_by-set fresh_at marks b given 0 last_within in
        let m : get_or marks b 0 ≡ n + 1 + length front = last_mark in
        let old : fresh_at (get_or marks b 0) ≡ 0 = not_fresh (get_or marks b 0) (omega arith) in
        omega (arith, not_fresh given least, length_more front b, length_more order b)

    pub marks_pop : AreMarks n (set marks b given) front (order ++ b ∷ []) (given + 1)
    marks_pop = record {
      len = length-set marks b given ∙ v.len;
      on = pop_on;
      off = pop_off;
      one = pop_one;
      given = pop_given;
      rises = pop_rises;
      placed = λ a h k. elim (at a) [
        | inl l ↦ subst (In order') (sym l.0) (is_last order b)
        | inr l ↦ (in_left order (b ∷ []) a (v.placed a (omega arith) (omega arith)))
      ];
      room = pop_room;
    }

module _ (n first given : ℕ) (marks order : List ℕ) where
  pub closing_starts : (stack : List ℕ) → AreMarks n marks stack order given → n < number marks first → IsClosingGroup n first given marks order marks stack order
  closing_starts stack v on = record {
    are = weaker n marks stack order given v;
    high = λ a h. (absurd (omega (arith, v.off a (omega arith))));
    low = λ a h. refl;
    holds = v.off first on;
    more = omega arith;
  }

  pub not_empty : (marks' order' : List ℕ) → n < number marks first → IsClosingGroup n first given marks order marks' [] order' → ⊥
  not_empty marks' order' on v = let h : number marks first < n + 1 + length {A = ℕ} [] = v.holds in let z : length {A = ℕ} [] ≡ 0 = refl in omega arith

  module _ (marks' front : List ℕ) (b : ℕ) (order' : List ℕ) (v : IsClosingGroup n first given marks order marks' (front ++ b ∷ []) order') (least : 1 ≤ given) (most : given ≤ n) where
    mark : number marks' b ≡ n + 1 + length front
    mark = last_mark n marks' front b order' given v.are

    now_at : (a : ℕ) → ((a ≡ b) × (number (set marks' b given) a ≡ given)) ⊎ ((a ≢ b) × (number (set marks' b given) a ≡ number marks' a))
    now_at a = set_at marks' b given a (last_within n marks' front b order' given v.are)

    high : (a : ℕ) → n + 1 + length front ≤ number marks a → number (set marks' b given) a ≡ given
    high a h = elim (now_at a) [
      | inl k ↦ k.1
      | inr k ↦ elim (cases_lt (number marks a) (n + 1 + length (front ++ b ∷ []))) [
        | inl l ↦ (let e : number marks' a ≡ number marks a = v.low a l in let m : number marks' b ≡ n + 1 + length front = mark in
            absurd (k.0 (v.are.one a b (omega arith) (omega (arith, length_more front b)))))
        | inr l ↦ k.1 ∙ v.high a l
      ]
    ]

    low : (a : ℕ) → number marks a < n + 1 + length front → number (set marks' b given) a ≡ number marks a
    low a h =
        let e : number marks' a ≡ number marks a = v.low a (omega (arith, length_more front b)) in
        let m : number marks' b ≡ n + 1 + length front = mark in
        elim (now_at a) [ inl k ↦ absurd (omega (arith, ap (number marks') k.0)) | inr k ↦ k.1 ∙ e ]

    pub inside : b < length marks'
    inside = last_within n marks' front b order' given v.are

    pub closing_goes : b ≢ first → IsClosingGroup n first given marks order (set marks' b given) front (order' ++ b ∷ [])
    closing_goes ne = record {
      are = marks_pop n marks' front b order' given v.are least most;
      high = high;
      low = low;
      holds = (let h : number marks first < n + 1 + length (front ++ b ∷ []) = v.holds in
          let e : number marks' first ≡ number marks first = v.low first h in
          let m : number marks' b ≡ n + 1 + length front = mark in
          elim (cases_eq (number marks first) (n + 1 + length front)) [
            | inl is ↦ (let o : n < number marks' first = omega arith in absurd (ne (sym (v.are.one first b o (omega arith)))))
            | inr less ↦ omega (arith, length_more front b)
          ]);
      more = (omega (arith, v.more, length_more order' b));
    }

    pub closing_ends : b ≡ first → Closes n first given marks order (set marks' b given) front (order' ++ b ∷ [])
    closing_ends is =
        let e : number marks' first ≡ number marks first = v.low first v.holds in
        let m : number marks' b ≡ n + 1 + length front = mark in
        let same : number marks' b ≡ number marks' first = ap (number marks') is in
        let f : number marks first ≡ n + 1 + length front = omega arith in
        record {
          are = marks_pop n marks' front b order' given v.are least most;
          high = λ a h. high a (omega arith);
          low = λ a h. low a (omega arith);
          more = (omega (arith, v.more, length_more order' b));
        }
