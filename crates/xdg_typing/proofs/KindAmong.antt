-- Which texts stand among others, and among those that a pass has seen.
use Rattle.std.proofs.Common.{◌≡◌, ◌⊎◌, inl, inr, ℕ, true, ◌||◌, List, [], ◌∷◌, ◌++◌, refl, sym, ap, ◌∙◌, subst}
use Rattle.std.specs.Str.{bytes_eq}
use Rattle.std.proofs.lemmas.Bool.{or_cases, or_left, or_right, true≢false}
use Rattle.xdg_names.specs.Texts.{has_text}
use Rattle.xdg_names.proofs.Texts.{has_among, among_has}
use Rattle.xdg_typing.specs.KindFaults.{add_texts, has_one}
use Rattle.xdg_facts.specs.Membership.{In}
use Rattle.xdg_types.specs.NameFaults.{with_text}
use Rattle.xdg_types.proofs.Distinct.{with_has}
use Rattle.xdg_facts.proofs.Truths.{or_false, or_assoc}
use Rattle.xdg_facts.proofs.In.{in_append, in_left, in_right}

abbrev Text : Type 0
Text = List ℕ

-- a text stands among these and those that are added
added_has : (seen cs : List Text) (t : Text) → has_text (add_texts seen cs) t ≡ (has_text seen t || has_text cs t)
added_has seen [] t = sym (or_false (has_text seen t))
added_has seen (c ∷ cs) t =
    added_has (with_text seen c) cs t ∙ ap (λ b. b || has_text cs t) (with_has seen c t) ∙ or_assoc (has_text seen t) (bytes_eq c t) (has_text cs t)

of_more : (seen cs : List Text) (t : Text) → In (add_texts seen cs) t → In seen t ⊎ In cs t
of_more seen cs t h = elim (or_cases (has_text seen t) (has_text cs t) (sym (added_has seen cs t) ∙ among_has (add_texts seen cs) t h)) [ inl e ↦ inl (has_among seen t e) | inr e ↦ inr (has_among cs t e) ]

still_more : (seen cs : List Text) (t : Text) → In seen t → In (add_texts seen cs) t
still_more seen cs t h = has_among (add_texts seen cs) t (added_has seen cs t ∙ or_left (has_text seen t) (has_text cs t) (among_has seen t h))

now_more : (seen cs : List Text) (t : Text) → In cs t → In (add_texts seen cs) t
now_more seen cs t h = has_among (add_texts seen cs) t (added_has seen cs t ∙ or_right (has_text seen t) (has_text cs t) (among_has cs t h))

-- ---- what was seen, as a set

pub record Alike (seen earlier : List Text) : Type 0 where
  pub to : (t : Text) → In seen t → In earlier t
  pub from : (t : Text) → In earlier t → In seen t

pub alike_none : Alike [] []
alike_none = record { to = λ t h. h; from = λ t h. h }

pub alike_more : (seen earlier cs : List Text) → Alike seen earlier → Alike (add_texts seen cs) (earlier ++ cs)
alike_more seen earlier cs a = record {
  to = λ t h. elim (of_more seen cs t h) [ inl l ↦ in_left earlier cs t (a.to t l) | inr r ↦ in_right earlier cs t r ];
  from = λ t h. elim (in_append earlier cs t h) [ inl l ↦ still_more seen cs t (a.from t l) | inr r ↦ now_more seen cs t r ];
}

-- ---- one of some texts

pub has_one_in : (seen cs : List Text) → has_one seen cs ≡ true → (c : Text) × (In cs c × In seen c)
has_one_in seen [] h = absurd (true≢false (sym h))
has_one_in seen (c ∷ cs) h = elim (or_cases (has_text seen c) (has_one seen cs) h) [
  | inl e ↦ (c, (inl refl, has_among seen c e))
  | inr k ↦ (let r = has_one_in seen cs k in (r.0, (inr r.1.0, r.1.1)))
]

pub in_has_one : (seen cs : List Text) (c : Text) → In cs c → In seen c → has_one seen cs ≡ true
in_has_one seen [] c h a = absurd h
in_has_one seen (d ∷ cs) c h a = elim h [
  | inl e ↦ or_left (has_text seen d) (has_one seen cs) (among_has seen d (subst (In seen) (sym e) a))
  | inr k ↦ or_right (has_text seen d) (has_one seen cs) (in_has_one seen cs c k a)
]
