-- One wanted type more.
use Rattle.std.proofs.Common.{◌≡◌, ◌⊎◌, inl, inr, ℕ, ◌+◌, ◌<◌, Bool, true, false, List, [], ◌∷◌, ◌++◌, length, get_or, slice_set, Option, Some, None, refl, sym, ap, ap₂, ◌∙◌, subst, arith}
use Rattle.std.specs.Prelude.{◌↔◌, bytes_eq, option_map, if◌then◌else◌, suc}
use Rattle.std.specs.Borrow.{Bor}
use Rattle.std.proofs.lemmas.Bool.{true≢false, cases_eq}
use Rattle.std.proofs.lemmas.List.{get_or_default, get_or_append_left, get_or-set_same, get_or-set_other, set-get_or, length-set, length-append, map-append}
use Rattle.std.proofs.Math.Seq.{get_or-append_seam}
use Rattle.std.proofs.lemmas.Slice.Eq.{bytes_eq-Decides}
use Rattle.xdg_names.specs.Texts.{has_text, place_of}
use Rattle.xdg_names.proofs.Texts.{place_of-Some, place_of-None, place_of-append_left, place_of-append_right, is_some-place_of}
use Rattle.xdg_domain.specs.declared.types.Ty.{Ty}
use Rattle.xdg_domain.specs.Shapes.{Shape, shape}
use Rattle.xdg_terms.specs.Wanted.{Want}
use Rattle.xdg_classes.specs.Given.{shapes, shapes_at, Adds}
use Rattle.xdg_facts.proofs.Options.{same_mark, none_some}
use Rattle.xdg_facts.specs.Membership.{In}
use Rattle.xdg_facts.proofs.In.{in_append, in_left, in_right}

-- the types of each parameter, where these are the parameters
abbrev pub on : List (List ℕ) → List (List (Bor Ty)) → List ℕ → List Shape
on ps ts q = shapes_at ts (place_of ps q)

-- a type that is known already
pub adds_known : (f : List ℕ → List Shape) (p : List ℕ) (u : Shape) → In (f p) u → Adds f f ((p, u) ∷ [])
adds_known f p u h q s = ((λ k. inl k), (λ k. elim k [ inl a ↦ a | inr b ↦ elim b [ inl e ↦ subst (λ (w : Want). In (f w.0) w.1) e h | inr c ↦ absurd c ] ]))

module _ (ps : List (List ℕ)) (ts : List (List (Bor Ty))) (p : List ℕ) (ty : Bor Ty) where
  abbrev More : (List ℕ → List Shape) → List ℕ → Shape → Type 0
  More new q s = In (new q) s ↔ (In (on ps ts q) s ⊎ In {A = Want} ((p, shape ty.now) ∷ []) (q, s))

  -- another parameter, whose types are the same
  away : (new : List ℕ → List Shape) (q : List ℕ) (s : Shape) → new q ≡ on ps ts q → (p ≡ q → ⊥) → More new q s
  away new q s same apart = (
    (λ h. inl (subst (λ l. In l s) same h)),
    (λ h. elim h [ inl a ↦ subst (λ l. In l s) (sym same) a | inr b ↦ elim b [ inl e ↦ absurd (apart (ap (λ (w : Want). w.0) e)) | inr c ↦ absurd c ] ]),
  )

  -- a new parameter
  abbrev added : List ℕ → List Shape
  added = on (ps ++ p ∷ []) (ts ++ (ty ∷ []) ∷ [])

  stays : (q : List ℕ) (s : Shape) (k : ℕ) → has_text ps p ≡ false → length ts ≡ length ps → place_of ps q ≡ Some k → More added q s
  stays q s k fresh even is =
      let there : has_text ps q ≡ true = sym (is_some-place_of ps q) ∙ ap (λ (o : Option ℕ). elim o [ None ↦ false | Some y ↦ true ]) is in
      let within = (place_of-Some ps q k is).0 in
      away added q s
      (ap (shapes_at (ts ++ (ty ∷ []) ∷ [])) (place_of-append_left ps (p ∷ []) q there ∙ is) ∙ ap shapes (get_or_append_left ts ((ty ∷ []) ∷ []) [] k (omega (arith, within, even))) ∙ sym (ap (shapes_at ts) is))
      (λ e. true≢false (sym there ∙ sym (ap (has_text ps) e) ∙ fresh))

  new_by : (q : List ℕ) (s : Shape) → length ts ≡ length ps → place_of ps q ≡ None → (b : Bool) → bytes_eq p q ≡ b
      → place_of (ps ++ p ∷ []) q ≡ option_map (λ (place : ℕ). length ps + place) (if b then Some 0 else option_map suc None) → More added q s
  new_by q s even is true at place =
      let before : on ps ts q ≡ [] = ap (shapes_at ts) is in
      let there : length ps + 0 ≡ length ts = omega (arith, even) in
      let now : added q ≡ shape ty.now ∷ [] =
      ap (shapes_at (ts ++ (ty ∷ []) ∷ [])) place ∙ ap (λ k. shapes (get_or (ts ++ (ty ∷ []) ∷ []) k [])) there ∙ ap shapes (get_or-append_seam ts (ty ∷ []) [] []) in
      let same : p ≡ q = (bytes_eq-Decides p q).0 at in (
        (λ h. inr (elim (subst (λ l. In l s) now h) [ inl e ↦ inl (ap₂ (λ (x : List ℕ) (y : Shape). (x, y)) same e) | inr c ↦ absurd c ])),
        (λ h. subst (λ l. In l s) (sym now) (elim h [ inl a ↦ absurd (subst (λ l. In l s) before a) | inr b ↦ elim b [ inl e ↦ inl (ap (λ (w : Want). w.1) e) | inr c ↦ absurd c ] ])),
      )
  new_by q s even is false at place = away added q s (ap (shapes_at (ts ++ (ty ∷ []) ∷ [])) place ∙ sym (ap (shapes_at ts) is)) (λ e. true≢false (sym ((bytes_eq-Decides p q).1 e) ∙ at))

  added_by : (q : List ℕ) (s : Shape) → has_text ps p ≡ false → length ts ≡ length ps → (o : Option ℕ) → place_of ps q ≡ o → More added q s
  added_by q s fresh even (Some k) is = stays q s k fresh even is
  added_by q s fresh even None is = new_by q s even is (bytes_eq p q) refl (place_of-append_right ps (p ∷ []) q (place_of-None ps q is))

  pub adds_new : has_text ps p ≡ false → length ts ≡ length ps → Adds (on ps ts) (on (ps ++ p ∷ []) (ts ++ (ty ∷ []) ∷ [])) ((p, shape ty.now) ∷ [])
  adds_new fresh even q s = added_by q s fresh even (place_of ps q) refl

  -- a parameter that is known
  module _ (k : ℕ) (is : place_of ps p ≡ Some k) (within : k < length ts) (types : List (Bor Ty)) (old : get_or ts k [] ≡ types) where
    abbrev pushed : List (List (Bor Ty))
    pushed = slice_set ts k (types ++ ty ∷ [])

    here : (q : List ℕ) (s : Shape) (j : ℕ) → place_of ps q ≡ Some j → j ≡ k → More (on ps pushed) q s
    here q s j at e =
        let same : p ≡ q = sym (place_of-Some ps p k is).1 ∙ ap (λ i. get_or ps i []) (sym e) ∙ (place_of-Some ps q j at).1 in
        let before : on ps ts q ≡ shapes types = ap (shapes_at ts) (at ∙ ap Some e) ∙ ap shapes old in
        let now : on ps pushed q ≡ shapes types ++ shape ty.now ∷ [] =
        ap (shapes_at pushed) (at ∙ ap Some e) ∙ ap shapes (get_or-set_same ts k (types ++ ty ∷ []) [] within) ∙ map-append (λ (t : Bor Ty). shape t.now) types (ty ∷ []) in (
          (λ h. elim (in_append (shapes types) (shape ty.now ∷ []) s (subst (λ l. In l s) now h)) [
            | inl a ↦ inl (subst (λ l. In l s) (sym before) a)
            | inr b ↦ inr (elim b [ inl f ↦ inl (ap₂ (λ (x : List ℕ) (y : Shape). (x, y)) same f) | inr c ↦ absurd c ])
          ]),
          (λ h. subst (λ l. In l s) (sym now) (elim h [
            | inl a ↦ in_left (shapes types) (shape ty.now ∷ []) s (subst (λ l. In l s) before a)
            | inr b ↦ in_right (shapes types) (shape ty.now ∷ []) s (elim b [ inl f ↦ inl (ap (λ (w : Want). w.1) f) | inr c ↦ absurd c ])
          ])),
        )

    pushed_by : (q : List ℕ) (s : Shape) (o : Option ℕ) → place_of ps q ≡ o → More (on ps pushed) q s
    pushed_by q s None at = away (on ps pushed) q s (ap (shapes_at pushed) at ∙ sym (ap (shapes_at ts) at)) (λ e. none_some k (sym (sym is ∙ ap (place_of ps) e ∙ at)))
    pushed_by q s (Some j) at = elim (cases_eq j k) [
      | inl e ↦ here q s j at e
      | inr ne ↦ away (on ps pushed) q s (ap (shapes_at pushed) at ∙ ap shapes (get_or-set_other ts k j (types ++ ty ∷ []) [] ne) ∙ sym (ap (shapes_at ts) at)) (λ e. ne (same_mark j k (sym at ∙ sym (ap (place_of ps) e) ∙ is)))
    ]

    pub adds_pushed : Adds (on ps ts) (on ps (slice_set ts k (types ++ ty ∷ []))) ((p, shape ty.now) ∷ [])
    adds_pushed q s = pushed_by q s (place_of ps q) refl

-- the same of what stands there, and each parameter has a list of types

pub new_grown : (ps qs : List (List ℕ)) (ts us : List (List (Bor Ty))) (p : List ℕ) (ty : Bor Ty) (types : List (Bor Ty)) → has_text ps p ≡ false → length ts ≡ length ps → qs ≡ ps ++ p ∷ [] → types ≡ ty ∷ [] → us ≡ ts ++ types ∷ []
    → (length us ≡ length qs) × Adds (on ps ts) (on qs us) ((p, shape ty.now) ∷ [])
new_grown ps qs ts us p ty types fresh even a b c = (
  ap length c ∙ length-append ts (types ∷ []) ∙ ap (λ n. n + 1) even ∙ sym (length-append ps (p ∷ [])) ∙ sym (ap length a),
  subst (λ xs. Adds (on ps ts) (on xs us) ((p, shape ty.now) ∷ [])) (sym a)
      (subst (λ ys. Adds (on ps ts) (on (ps ++ p ∷ []) ys) ((p, shape ty.now) ∷ [])) (sym (c ∙ ap (λ l. ts ++ l ∷ []) b)) (adds_new ps ts p ty fresh even)),
)

module _ (ps qs : List (List ℕ)) (ts : List (List (Bor Ty))) (p : List ℕ) (ty : Bor Ty) (k : ℕ) (types : List (Bor Ty))
    (even : length ts ≡ length ps) (a : qs ≡ ps) (b : Some k ≡ place_of qs p) (within : k < length ts) (c : types ≡ get_or ts k types) where
  at : place_of ps p ≡ Some k
  at = sym (b ∙ ap (λ xs. place_of xs p) a)

  old : get_or ts k [] ≡ types
  old = get_or_default ts k [] types within ∙ sym c

  pub known_grown : In (shapes types) (shape ty.now) → (length (slice_set ts k types) ≡ length qs) × Adds (on ps ts) (on qs (slice_set ts k types)) ((p, shape ty.now) ∷ [])
  known_grown among =
      let there : slice_set ts k types ≡ ts = ap (slice_set ts k) (sym old) ∙ set-get_or ts k [] in (
        length-set ts k types ∙ even ∙ sym (ap length a),
        subst (λ xs. Adds (on ps ts) (on xs (slice_set ts k types)) ((p, shape ty.now) ∷ [])) (sym a)
            (subst (λ ys. Adds (on ps ts) (on ps ys) ((p, shape ty.now) ∷ [])) (sym there)
            (adds_known (on ps ts) p (shape ty.now) (subst (λ l. In l (shape ty.now)) (sym (ap (shapes_at ts) at ∙ ap shapes old)) among))),
      )

  pub pushed_grown : (more : List (Bor Ty)) → more ≡ types ++ ty ∷ [] → (length (slice_set ts k more) ≡ length qs) × Adds (on ps ts) (on qs (slice_set ts k more)) ((p, shape ty.now) ∷ [])
  pushed_grown more d = (
    length-set ts k more ∙ even ∙ sym (ap length a),
    subst (λ xs. Adds (on ps ts) (on xs (slice_set ts k more)) ((p, shape ty.now) ∷ [])) (sym a)
        (subst (λ ys. Adds (on ps ts) (on ps (slice_set ts k ys)) ((p, shape ty.now) ∷ [])) (sym d) (adds_pushed ps ts p ty k at within types old)),
  )
