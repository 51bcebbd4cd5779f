-- Texts that stand in lists, and lists whose texts differ.
use Rattle.std.proofs.Common.{◌≡◌, ◌⊎◌, inl, inr, ℕ, List, [], ◌∷◌, ◌++◌, ap, sym, refl}
use Rattle.std.proofs.lemmas.Bool.{cases_Bool}
use Rattle.xdg_ast.specs.declared.names.Name.{Name}
use Rattle.xdg_names.specs.Texts.{has_text}
use Rattle.xdg_names.proofs.Texts.{has_among, not_among}
use Rattle.xdg_facts.specs.Membership.{In, Differ}
use Rattle.xdg_ast.specs.Texts.{texts}
use Rattle.xdg_facts.proofs.In.{in_map, map_in}
use Rattle.xdg_facts.proofs.Fronts.{IsPart}

-- ---- membership

pub among_or_not : (xs : List (List ℕ)) (t : List ℕ) → In xs t ⊎ (In xs t → ⊥)
among_or_not xs t = elim (cases_Bool (has_text xs t)) [ inl e ↦ inl (has_among xs t e) | inr e ↦ inr (not_among xs t e) ]

pub in_texts : (ns : List Name) (n : Name) → In ns n → In (texts ns) n.text
in_texts = map_in (λ n. n.text)

-- ---- parts of lists

pub among_part : (ns : List Name) (t : List ℕ) → In (texts ns) t → (n : Name) × (IsPart ns n × (n.text ≡ t))
among_part [] t h = absurd h
among_part (n ∷ ns) t h = elim h [
  | inl e ↦ (n, (record { before = []; after = ns; parts = refl }, e))
  | inr k ↦ (let r = among_part ns t k in (r.0, (record { before = n ∷ r.1.0.before; after = r.1.0.after; parts = ap (λ ys. n ∷ ys) r.1.0.parts }, r.1.1)))
]

pub among_name : (ns : List Name) (t : List ℕ) → In (texts ns) t → (n : Name) × (In ns n × (n.text ≡ t))
among_name = in_map (λ n. n.text)

-- ---- lists whose texts differ

-- no name has the text of an earlier one
pub differ_unless : (ns : List Name) → ((before : List Name) (name : Name) (after : List Name) → ns ≡ before ++ name ∷ after → In (texts before) name.text → ⊥) → Differ (texts ns)
differ_unless [] h = tt
differ_unless (n ∷ ns) h = (
  λ a. let r = among_part ns n.text a in h (n ∷ r.1.0.before) r.0 r.1.0.after (ap (λ ys. n ∷ ys) r.1.0.parts) (inl (sym r.1.1)),
  differ_unless ns (λ before name after e a. h (n ∷ before) name after (ap (λ ys. n ∷ ys) e) (inr a)),
)
