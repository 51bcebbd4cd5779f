-- A definition leaves the path, and its group the stack.
use Rattle.std.proofs.Common.{◌≡◌, ◌≢◌, ℕ, ◌+◌, ◌<◌, ◌≤◌, ◌⊎◌, inl, inr, List, [], ◌∷◌, ◌++◌, length, sym, ap, ◌∙◌, subst, arith}
use Rattle.std.proofs.lemmas.Bool.{cases_lt}
use Rattle.xdg_names.specs.declared.graph.Use.{Use}
use Rattle.xdg_names.specs.Leads.{uses_of, Leads, number}
use Rattle.xdg_names.specs.Closing.{the_use}
use Rattle.xdg_names.specs.Walks.{IsWalking, NotBelow, IsLooked, Closes}
use Rattle.xdg_names.proofs.Climbs.{climbs_front, climbs_last, climbs_same}
use Rattle.xdg_names.proofs.Marks.{given_below}
use Rattle.xdg_facts.specs.Membership.{In}
use Rattle.xdg_facts.proofs.In.{in_left, in_index, is_last, in_parts}

module _ (g : List (List Use)) (marks left stack starts front : List ℕ) (x : ℕ) (order : List ℕ) (next : ℕ) (v : IsWalking g marks left stack starts (front ++ x ∷ []) order next) where
  pub last_on : length g < number marks x
  last_on = v.path_on x (is_last front x)

  pub last_of_path : (a : ℕ) → In (front ++ x ∷ []) a → number marks a ≤ number marks x
  last_of_path a h = elim (in_parts front x a h) [
    | inl i ↦ omega (arith, climbs_last marks front x v.path_climbs a i)
    | inr e ↦ omega (arith, ap (number marks) e)
  ]

  -- a number is to be had
  pub next_fits : next ≤ length g
  next_fits =
      omega (arith, v.marks_are.off x last_on, last_on)

  -- it has a group's start at or below it
  pub has_start : starts ≡ [] → ⊥
  has_start e = let b = v.begun x last_on in subst (λ xs. In xs b.0) e b.1.0

-- it isn't the first of its group
module _ (g : List (List Use)) (marks left stack sfront : List ℕ) (t : ℕ) (front : List ℕ) (x : ℕ) (order : List ℕ) (next : ℕ) (v : IsWalking g marks left stack (sfront ++ t ∷ []) (front ++ x ∷ []) order next) (none : number left x ≡ 0) (ne : t ≢ x) where
  not_start : In (sfront ++ t ∷ []) x → ⊥
  not_start h = elim (in_parts sfront t x h) [
    | inl i ↦ (let l : number marks x < number marks t = climbs_last marks sfront t v.starts_climb x i in
        elim (in_parts front x t (v.starts_on t (is_last sfront t))) [
          | inl j ↦ absurd (omega (arith, climbs_last marks front x v.path_climbs t j))
          | inr e ↦ absurd (ne e)
        ])
    | inr e ↦ absurd (ne (sym e))
  ]

  pub passed : IsWalking g marks left stack (sfront ++ t ∷ []) front order next
  passed = record {
    marks_are = v.marks_are;
    leads = v.leads;
    looked = v.looked;
    down = v.down;
    same = v.same;
    begun = v.begun;
    starts_on = λ s h. elim (in_parts front x s (v.starts_on s h)) [ inl i ↦ i | inr e ↦ absurd (not_start (subst (In (sfront ++ t ∷ [])) e h)) ];
    starts_climb = v.starts_climb;
    path_on = λ a h. v.path_on a (in_left front (x ∷ []) a h);
    path_climbs = climbs_front marks front x v.path_climbs;
    through = λ a h. elim (v.through a h) [
      | inl i ↦ elim (in_parts front x a i) [ inl j ↦ inl j | inr e ↦ inr (ap (number left) e ∙ none) ]
      | inr z ↦ inr z
    ];
    lefts = v.lefts;
    fits = v.fits;
    fresh = v.fresh;
    few = v.few;
    least = v.least;
  }

-- it is the first of its group, which is done
module _ (g : List (List Use)) (marks left stack sfront front : List ℕ) (x : ℕ) (order : List ℕ) (next : ℕ) (v : IsWalking g marks left stack (sfront ++ x ∷ []) (front ++ x ∷ []) order next) (none : number left x ≡ 0) (marks' stack' order' : List ℕ) (c : Closes (length g) x next marks order marks' stack' order') where
  abbrev n : ℕ
  n = length g

  on : length g < number marks x
  on = last_on g marks left stack (sfront ++ x ∷ []) front x order next v

  fits_next : next ≤ length g
  fits_next = next_fits g marks left stack (sfront ++ x ∷ []) front x order next v

  -- below the group, or of it
  split : (a : ℕ) → ((number marks a < number marks x) × (number marks' a ≡ number marks a)) ⊎ ((number marks x ≤ number marks a) × (number marks' a ≡ next))
  split a = elim (cases_lt (number marks a) (number marks x)) [ inl l ↦ inl (l, c.low a l) | inr l ↦ inr (l, c.high a l) ]

  finished : (a : ℕ) → 1 ≤ number marks a → number marks a ≤ length g → number marks a < next
  finished a h k = given_below (length g) marks stack order next v.marks_are a h k

  -- those on the stack that are left
  still : (a : ℕ) → length g < number marks' a → (number marks a < number marks x) × (number marks' a ≡ number marks a)
  still a h = elim (split a) [
    | inl k ↦ k
    | inr k ↦ absurd (omega (arith, fits_next))
  ]

  start_below : (s : ℕ) → In sfront s → number marks s < number marks x
  start_below s h = climbs_last marks sfront x v.starts_climb s h

  front_below : (a : ℕ) → In front a → number marks a < number marks x
  front_below a h = climbs_last marks front x v.path_climbs a h

  left_leads : (a b : ℕ) → length g < number marks' a → length g < number marks' b → NotBelow marks' sfront a b → Leads g a b
  left_leads a b ha hb nb =
      let sa = still a ha in
      let sb = still b hb in
      v.leads a b (omega arith) (omega arith) (λ s h l. elim (in_parts sfront x s h) [
        | inl i ↦ (let es : number marks' s ≡ number marks s = c.low s (start_below s i) in
            omega (arith, nb s i (omega arith)))
        | inr e ↦ absurd (omega (arith, ap (number marks) e))
      ])

  left_looked : (a k : ℕ) → length g < number marks' a → number left a ≤ k → k < length (uses_of g a) → IsLooked (length g) marks' sfront a (the_use (uses_of g a) k).to
  left_looked a k ha l m =
      let sa = still a ha in
      let t : ℕ = (the_use (uses_of g a) k).to in
      let old : IsLooked (length g) marks (sfront ++ x ∷ []) a t = v.looked a k (omega arith) l m in (
        elim (split t) [ inl p ↦ omega arith | inr p ↦ omega arith ],
        λ ot s h less.
            (let st = still t ot in
            let es : number marks' s ≡ number marks s = c.low s (start_below s h) in
            omega (arith, old.1 (omega arith) s (in_left sfront (x ∷ []) s h) (omega arith))),
      )

  -- all uses of the group are looked at
  all_looked : (a : ℕ) → number marks x ≤ number marks a → number left a ≡ 0
  all_looked a h =
      let o : length g < number marks x = on in
      elim (v.through a (omega arith)) [
        | inl i ↦ elim (in_parts front x a i) [
          | inl j ↦ absurd (omega (arith, front_below a j))
          | inr e ↦ ap (number left) e ∙ none
        ]
        | inr z ↦ z
      ]

  group_down : (a : ℕ) (u : Use) → number marks x ≤ number marks a → In (uses_of g a) u → (1 ≤ number marks' u.to) × (number marks' u.to ≤ next)
  group_down a u h i =
      let o : length g < number marks x = on in
      let k = in_index (uses_of g a) u (record { to = 0; at = 0 }) i in
      let z : number left a ≡ 0 = all_looked a h in
      let old : IsLooked (length g) marks (sfront ++ x ∷ []) a (the_use (uses_of g a) k.0).to = v.looked a k.0 (omega arith) (omega arith) k.1.0 in
      let own : IsLooked (length g) marks (sfront ++ x ∷ []) a u.to = subst (λ (w : Use). IsLooked (length g) marks (sfront ++ x ∷ []) a w.to) k.1.1 old in
      let met : 1 ≤ number marks u.to = own.0 in
      elim (split u.to) [
        | inl p ↦ (elim (cases_lt (length g) (number marks u.to)) [
          | inl above ↦ absurd (omega (arith, own.1 above x (is_last sfront x) h))
          | inr within ↦ (let b : number marks u.to < next = finished u.to met within in (omega arith, omega arith))
        ])
        | inr p ↦ (omega arith, omega arith)
      ]

  left_down : (a : ℕ) (u : Use) → 1 ≤ number marks' a → number marks' a ≤ length g → In (uses_of g a) u → (1 ≤ number marks' u.to) × (number marks' u.to ≤ number marks' a)
  left_down a u h k i =
      let o : length g < number marks x = on in
      elim (split a) [
        | inl p ↦ (let both = v.down a u (omega arith) (omega arith) i in
            let et : number marks' u.to ≡ number marks u.to = c.low u.to (omega arith) in
            (omega arith, omega arith))
        | inr p ↦ (let both = group_down a u p.0 i in
            (omega arith, omega arith))
      ]

  left_same : (a b : ℕ) → 1 ≤ number marks' a → number marks' a ≤ length g → number marks' a ≡ number marks' b → Leads g a b
  left_same a b h k e =
      let o : length g < number marks x = on in
      let f : next ≤ length g = fits_next in
      elim (split a) [
        | inl p ↦ (let less : number marks a < next = finished a (omega arith) (omega arith) in
            elim (split b) [
              | inl q ↦ v.same a b (omega arith) (omega arith) (omega arith)
              | inr q ↦ absurd (omega arith)
            ])
        | inr p ↦ (elim (split b) [
          | inl q ↦ absurd (omega (arith, finished b (omega arith) (omega arith)))
          | inr q ↦ (v.leads a b (omega arith) (omega arith) (λ s i l. elim (in_parts sfront x s i) [
            | inl j ↦ omega (arith, start_below s j)
            | inr es ↦ omega (arith, ap (number marks) es)
          ]))
        ])
      ]

  left_begun : (a : ℕ) → length g < number marks' a → (s : ℕ) × (In sfront s × (number marks' s ≤ number marks' a))
  left_begun a h =
      let sa = still a h in
      let b = v.begun a (omega arith) in
      elim (in_parts sfront x b.0 b.1.0) [
        | inl i ↦ (let es : number marks' b.0 ≡ number marks b.0 = c.low b.0 (start_below b.0 i) in (b.0, (i, omega arith)))
        | inr e ↦ absurd (omega (arith, ap (number marks) e))
      ]

  pub closed : IsWalking g marks' left stack' sfront front order' (next + 1)
  closed = record {
    marks_are = c.are;
    leads = left_leads;
    looked = left_looked;
    down = left_down;
    same = left_same;
    begun = left_begun;
    starts_on = λ s h. elim (in_parts front x s (v.starts_on s (in_left sfront (x ∷ []) s h))) [
      | inl i ↦ i
      | inr e ↦ (let l : number marks s < number marks x = start_below s h in let es : number marks s ≡ number marks x = ap (number marks) e in absurd (omega arith))
    ];
    starts_climb = climbs_same marks marks' sfront (λ s h. c.low s (start_below s h)) (climbs_front marks sfront x v.starts_climb);
    path_on = λ a h. (omega (arith, v.path_on a (in_left front (x ∷ []) a h), c.low a (front_below a h)));
    path_climbs = climbs_same marks marks' front (λ a h. c.low a (front_below a h)) (climbs_front marks front x v.path_climbs);
    through = λ a h. (let sa = still a h in
        elim (v.through a (omega arith)) [
          | inl i ↦ elim (in_parts front x a i) [
            | inl j ↦ inl j
            | inr e ↦ absurd (omega (arith, ap (number marks) e))
          ]
          | inr z ↦ inr z
        ]);
    lefts = v.lefts;
    fits = v.fits;
    fresh = λ a h. elim (split a) [
      | inl p ↦ v.fresh a (sym p.1 ∙ h)
      | inr p ↦ (let e : number marks' a ≡ next = p.1 in let least : 1 ≤ next = v.least in absurd (omega arith))
    ];
    few = (omega (arith, v.few));
    least = omega arith;
  }

  pub closed_stays : (a : ℕ) → 1 ≤ number marks a → 1 ≤ number marks' a
  closed_stays a h = elim (split a) [
    | inl p ↦ omega arith
    | inr p ↦ omega arith
  ]
