-- The start of a walk, a definition that is met, and a use that is looked at.
use Rattle.std.proofs.Common.{◌≡◌, ◌≢◌, ℕ, ◌+◌, ◌<◌, ◌≤◌, ◌⊎◌, inl, inr, List, [], ◌∷◌, ◌++◌, length, get_or, refl, sym, ap, ◌∙◌, subst, arith}
use Rattle.std.proofs.Math.ListN.{set, length-set}
use Rattle.std.specs.List.{sum_by}
use Rattle.std.proofs.lemmas.List.Sums.{sum_by-set}
use Rattle.std.proofs.lemmas.Bool.{cases_eq}
use Rattle.xdg_names.specs.declared.graph.Use.{Use}
use Rattle.xdg_names.specs.Leads.{uses_of, IsPath, Leads, number}
use Rattle.xdg_names.specs.Closing.{the_use}
use Rattle.xdg_names.specs.Walks.{IsWalking, NotBelow, IsLooked, itself}
use Rattle.xdg_names.proofs.Climbs.{marked_within, set_at, climbs_push, climbs_same}
use Rattle.xdg_names.proofs.Marks.{push_kept, marks_push}
use Rattle.xdg_facts.specs.Membership.{In}
use Rattle.xdg_facts.proofs.In.{in_left, in_get, is_last, in_parts}

pub path_join : (g : List (List Use)) (a : ℕ) (us : List Use) (b : ℕ) (vs : List Use) (c : ℕ) → IsPath g a us b → IsPath g b vs c → IsPath g a (us ++ vs) c
path_join g a [] b vs c h k = subst (λ x. IsPath g x vs c) (sym h) k
path_join g a (u ∷ us) b vs c h k = (h.0, path_join g u.to us b vs c h.1 k)

pub leads_on : (g : List (List Use)) (a b c : ℕ) → Leads g a b → Leads g b c → Leads g a c
leads_on g a b c h k = (h.0 ++ k.0, path_join g a h.0 b k.0 c h.1 k.1)

pub leads_by : (g : List (List Use)) (a : ℕ) (u : Use) → In (uses_of g a) u → Leads g a u.to
leads_by g a u h = (u ∷ [], (h, refl))

module _ (g : List (List Use)) (marks left stack starts path order : List ℕ) (next : ℕ) (v : IsWalking g marks left stack starts path order next) where
  -- a definition that was not met is met
  module _ (y : ℕ) (within : y < length g) (fresh : number marks y ≡ 0) (reached : (a : ℕ) → length g < number marks a → Leads g a y) where
    abbrev n : ℕ
    n = length g

    abbrev top : ℕ
    top = length g + 1 + length stack

    abbrev marks' : List ℕ
    marks' = set marks y top

    inside : y < length marks
    inside = omega arith

    at : (a : ℕ) → ((a ≡ y) × (number marks' a ≡ top)) ⊎ ((a ≢ y) × (number marks' a ≡ number marks a))
    at a = set_at marks y top a inside

    own : number marks' y ≡ top
    own = elim (at y) [ inl k ↦ k.1 | inr k ↦ absurd (k.0 refl) ]

    pub kept : (a : ℕ) → 1 ≤ number marks a → number (set marks y (length g + 1 + length stack)) a ≡ number marks a
    kept a h = push_kept n marks stack order next v.marks_are y inside fresh a h

    -- those on the stack have lesser marks
    below : (a : ℕ) → n < number marks a → number marks' a < number marks' y
    below a h =
        omega (arith, kept a (omega arith), v.marks_are.off a h, own)

    starts_marked : (s : ℕ) → In starts s → n < number marks s
    starts_marked s h = v.path_on s (v.starts_on s h)

    -- of the old starts the same is said
    not_below : (a b : ℕ) → n < number marks a → n < number marks b → NotBelow marks' (starts ++ y ∷ []) a b → NotBelow marks starts a b
    not_below a b ha hb nb s h l =
        let on : n < number marks s = starts_marked s h in
        let es : number marks' s ≡ number marks s = kept s (omega arith) in
        let ea : number marks' a ≡ number marks a = kept a (omega arith) in
        omega (arith, kept b (omega arith), nb s (in_left starts (y ∷ []) s h) (omega arith))

    enter_leads : (a b : ℕ) → n < number marks' a → n < number marks' b → NotBelow marks' (starts ++ y ∷ []) a b → Leads g a b
    enter_leads a b ha hb nb = elim (at a) [
      | inl k ↦ elim (at b) [
        | inl l ↦ ([], k.0 ∙ sym l.0)
        | inr l ↦ (let less : number marks' b < number marks' y = below b (omega arith) in
            let ea : number marks' a ≡ number marks' y = ap (number marks') k.0 in
            absurd (omega (arith, nb y (is_last starts y) (omega arith))))
      ]
      | inr k ↦ (elim (at b) [
        | inl l ↦ subst (Leads g a) (sym l.0) (reached a (omega arith))
        | inr l ↦ (v.leads a b (omega arith) (omega arith) (not_below a b (omega arith) (omega arith) nb))
      ])
    ]

    enter_looked : (a k : ℕ) → n < number marks' a → number left a ≤ k → k < length (uses_of g a) → IsLooked n marks' (starts ++ y ∷ []) a (the_use (uses_of g a) k).to
    enter_looked a k ha l m = elim (at a) [
      | inl e ↦ (let full : number left y ≡ length (uses_of g y) = v.fresh y fresh in
          absurd (omega (arith, ap (number left) e.0, ap (λ x. length (uses_of g x)) e.0)))
      | inr e ↦ (let t : ℕ = (the_use (uses_of g a) k).to in
          let old : IsLooked n marks starts a t = v.looked a k (omega arith) l m in
          let met : 1 ≤ number marks t = old.0 in
          let et : number marks' t ≡ number marks t = kept t met in (
            omega arith,
            λ ht s h less. elim (in_parts starts y s h) [
              | inl i ↦ (let on : n < number marks s = starts_marked s i in
                  let es : number marks' s ≡ number marks s = kept s (omega arith) in
                  omega (arith, old.1 (omega arith) s i (omega arith)))
              | inr i ↦ (let es : number marks' s ≡ number marks' y = ap (number marks') i in
                  absurd (omega (arith, below a (omega arith))))
            ],
          ))
    ]

    enter_path_on : (a : ℕ) → In (path ++ y ∷ []) a → n < number marks' a
    enter_path_on a h = elim (in_parts path y a h) [
      | inl i ↦ (let on : n < number marks a = v.path_on a i in let e : number marks' a ≡ number marks a = kept a (omega arith) in omega arith)
      | inr i ↦ (let e : number marks' a ≡ number marks' y = ap (number marks') i in let o : number marks' y ≡ top = own in omega arith)
    ]

    pub entered : IsWalking g (set marks y (length g + 1 + length stack)) left (stack ++ y ∷ []) (starts ++ y ∷ []) (path ++ y ∷ []) order next
    entered = record {
      marks_are = marks_push n marks stack order next v.marks_are y inside fresh;
      leads = enter_leads;
      looked = enter_looked;
      down = λ a u h k i. elim (at a) [
        | inl e ↦ absurd (omega arith)
        | inr e ↦ (let both = v.down a u (omega arith) (omega arith) i in
            let met : 1 ≤ number marks u.to = both.0 in
            let et : number marks' u.to ≡ number marks u.to = kept u.to met in
            (omega arith, omega arith))
      ];
      same = λ a b h k e. elim (at a) [
        | inl i ↦ absurd (omega arith)
        | inr i ↦ (elim (at b) [
          | inl j ↦ absurd (omega arith)
          | inr j ↦ v.same a b (omega arith) (omega arith) (omega arith)
        ])
      ];
      begun = λ a h. elim (at a) [
        | inl i ↦ (let e : number marks' a ≡ number marks' y = ap (number marks') i.0 in (y, (is_last starts y, omega arith)))
        | inr i ↦ (let e : number marks' a ≡ number marks a = i.1 in
            let b = v.begun a (omega arith) in
            let on : n < number marks b.0 = starts_marked b.0 b.1.0 in
            let es : number marks' b.0 ≡ number marks b.0 = kept b.0 (omega arith) in
            (b.0, (in_left starts (y ∷ []) b.0 b.1.0, omega arith)))
      ];
      starts_on = λ s h. elim (in_parts starts y s h) [
        | inl i ↦ in_left path (y ∷ []) s (v.starts_on s i)
        | inr i ↦ subst (In (path ++ y ∷ [])) (sym i) (is_last path y)
      ];
      starts_climb = climbs_push marks' starts y (climbs_same marks marks' starts (λ a h. (let on : n < number marks a = starts_marked a h in kept a (omega arith))) v.starts_climb) (λ a h. below a (starts_marked a h));
      path_on = enter_path_on;
      path_climbs = climbs_push marks' path y (climbs_same marks marks' path (λ a h. (let on : n < number marks a = v.path_on a h in kept a (omega arith))) v.path_climbs) (λ a h. below a (v.path_on a h));
      through = λ a h. elim (at a) [
        | inl i ↦ inl (subst (In (path ++ y ∷ [])) (sym i.0) (is_last path y))
        | inr i ↦ (let e : number marks' a ≡ number marks a = i.1 in elim (v.through a (omega arith)) [ inl p ↦ inl (in_left path (y ∷ []) a p) | inr z ↦ inr z ])
      ];
      lefts = v.lefts;
      fits = v.fits;
      fresh = λ a h. elim (at a) [
        | inl i ↦ absurd (omega (arith, i.1))
        | inr i ↦ v.fresh a (sym i.1 ∙ h)
      ];
      few = v.few;
      least = v.least;
    }

    pub entered_met : 1 ≤ number (set marks y (length g + 1 + length stack)) y
    entered_met = omega (arith, own)

    pub entered_stays : (a : ℕ) → 1 ≤ number marks a → 1 ≤ number (set marks y (length g + 1 + length stack)) a
    entered_stays a h = omega (arith, kept a h)

    pub entered_on : (a : ℕ) → length g < number marks a → (length g < number (set marks y (length g + 1 + length stack)) a) × IsLooked (length g) (set marks y (length g + 1 + length stack)) (starts ++ y ∷ []) a y
    entered_on a h =
        let e : number marks' a ≡ number marks a = kept a (omega arith) in
        let o : number marks' y ≡ top = own in (
          omega arith,
          (
            omega arith,
            λ on s i l. elim (in_parts starts y s i) [
              | inl j ↦ omega (arith, below s (starts_marked s j))
              | inr j ↦ omega (arith, ap (number marks') j)
            ],
          ),
        )

  -- one more use of x is looked at
  module _ (x r : ℕ) (one : number left x ≡ r + 1) (held : In path x) (ahead : IsLooked (length g) marks starts x (the_use (uses_of g x) r).to) where
    abbrev left' : List ℕ
    left' = set left x r

    inside_left : x < length left
    inside_left = marked_within left x (omega arith)

    left_at : (a : ℕ) → ((a ≡ x) × (number left' a ≡ r)) ⊎ ((a ≢ x) × (number left' a ≡ number left a))
    left_at a = set_at left x r a inside_left

    pub advanced : IsWalking g marks (set left x r) stack starts path order next
    advanced = record {
      marks_are = v.marks_are;
      leads = v.leads;
      looked = λ a k h l m. elim (left_at a) [
        | inl e ↦ (let eo : number left a ≡ number left x = ap (number left) e.0 in
            elim (cases_eq k r) [
              | inl is ↦ subst (λ j. IsLooked (length g) marks starts a (the_use (uses_of g a) j).to) (sym is) (subst (λ b. IsLooked (length g) marks starts b (the_use (uses_of g b) r).to) (sym e.0) ahead)
              | inr ne ↦ v.looked a k h (omega arith) m
            ])
        | inr e ↦ (v.looked a k h (omega arith) m)
      ];
      down = v.down;
      same = v.same;
      begun = v.begun;
      starts_on = v.starts_on;
      starts_climb = v.starts_climb;
      path_on = v.path_on;
      path_climbs = v.path_climbs;
      through = λ a h. elim (left_at a) [
        | inl e ↦ inl (subst (In path) (sym e.0) held)
        | inr e ↦ elim (v.through a h) [ inl p ↦ inl p | inr z ↦ inr (e.1 ∙ z) ]
      ];
      lefts = length-set left x r ∙ v.lefts;
      fits = λ a. elim (left_at a) [
        | inl e ↦ omega (arith, ap (number left) e.0, v.fits a)
        | inr e ↦ omega (arith, v.fits a)
      ];
      fresh = λ a h. elim (left_at a) [
        | inl e ↦ (let on : length g < number marks x = v.path_on x held in let em : number marks a ≡ number marks x = ap (number marks) e.0 in absurd (omega arith))
        | inr e ↦ e.1 ∙ v.fresh a h
      ];
      few = v.few;
      least = v.least;
    }

    pub fewer_left : sum_by itself (set left x r) + 1 ≡ sum_by itself left
    fewer_left =
        let sums : sum_by itself left' + itself (get_or left x 0) ≡ sum_by itself left + itself r = sum_by-set itself left x r 0 inside_left in
        let e : itself (get_or left x 0) ≡ r + 1 = one in
        let f : itself r ≡ r = refl in
        omega arith

  -- the use that is looked at next
  module _ (x r : ℕ) (one : number left x ≡ r + 1) where
    pub next_stands : In (uses_of g x) (the_use (uses_of g x) r)
    next_stands = let f : number left x ≤ length (uses_of g x) = v.fits x in in_get (uses_of g x) r (record { to = 0; at = 0 }) (omega arith)
