-- Which texts stand among the different texts of names.
use Rattle.std.proofs.Common.{◌≡◌, inl, inr, ℕ, Bool, true, false, ◌||◌, if◌then◌else◌, List, [], ◌∷◌, ◌++◌, refl, sym, ap, ◌∙◌, subst, append_assoc}
use Rattle.std.specs.Str.{bytes_eq}
use Rattle.std.proofs.lemmas.Bool.{cases_Bool, false_from_ne_true}
use Rattle.std.proofs.lemmas.List.{append-nil}
use Rattle.xdg_ast.specs.declared.names.Name.{Name}
use Rattle.xdg_names.specs.Texts.{has_text}
use Rattle.xdg_names.proofs.Texts.{has_among, among_has, has_text-append}
use Rattle.xdg_facts.proofs.Texts.{same_text}
use Rattle.xdg_facts.proofs.Truths.{or_false, or_true, or_assoc}
use Rattle.xdg_types.specs.NameFaults.{with_text, with_all, different}
use Rattle.xdg_facts.specs.Membership.{In, Differ}
use Rattle.xdg_ast.specs.Texts.{texts}
use Rattle.xdg_facts.proofs.In.{in_append}

-- ---- the texts of names more

pub with_has : (seen : List (List ℕ)) (x t : List ℕ) → has_text (with_text seen x) t ≡ (has_text seen t || bytes_eq x t)
with_has seen x t = elim (cases_Bool (has_text seen x)) [
  | inl stands ↦ ap (λ b. has_text (if b then seen else seen ++ x ∷ []) t) stands ∙ sym (by stands (bytes_eq x t) refl)
  | inr new ↦ ap (λ b. has_text (if b then seen else seen ++ x ∷ []) t) new ∙ has_text-append seen (x ∷ []) t ∙ ap (λ b. has_text seen t || b) (or_false (bytes_eq x t))
]
  where
    by : has_text seen x ≡ true → (b : Bool) → bytes_eq x t ≡ b → (has_text seen t || b) ≡ has_text seen t
    by stands false other = or_false (has_text seen t)
    by stands true same = or_true (has_text seen t) ∙ sym (subst (λ s. has_text seen s ≡ true) (same_text x t same) stands)

all_has : (seen : List (List ℕ)) (names : List Name) (t : List ℕ) → has_text (with_all seen names) t ≡ (has_text seen t || has_text (texts names) t)
all_has seen [] t = sym (or_false (has_text seen t))
all_has seen (n ∷ names) t =
    all_has (with_text seen n.text) names t ∙ ap (λ b. b || has_text (texts names) t) (with_has seen n.text t) ∙ or_assoc (has_text seen t) (bytes_eq n.text t) (has_text (texts names) t)

-- a text stands among the different ones just if it stands among all
pub same_known : (names : List Name) (t : List ℕ) → has_text (different names) t ≡ has_text (texts names) t
same_known names t = all_has [] names t

pub of_different : (names : List Name) (t : List ℕ) → In (different names) t → In (texts names) t
of_different names t h = has_among (texts names) t (sym (same_known names t) ∙ among_has (different names) t h)

pub to_different : (names : List Name) (t : List ℕ) → In (texts names) t → In (different names) t
to_different names t h = has_among (different names) t (same_known names t ∙ among_has (texts names) t h)

-- ---- texts that differ

grown : (seen : List (List ℕ)) (names : List Name) → ((t : List ℕ) → In seen t → In (texts names) t → ⊥) → Differ (texts names) → with_all seen names ≡ seen ++ texts names
grown seen [] apart differ = sym (append-nil seen)
grown seen (n ∷ names) apart differ =
    let new : has_text seen n.text ≡ false = false_from_ne_true (has_text seen n.text) (λ e. apart n.text (has_among seen n.text e) (inl refl)) in
    ap (λ b. with_all (if b then seen else seen ++ n.text ∷ []) names) new
    ∙ grown (seen ++ n.text ∷ []) names
    (λ t h k. elim (in_append seen (n.text ∷ []) t h) [
      | inl s ↦ apart t s (inr k)
      | inr e ↦ elim e [ inl q ↦ differ.0 (subst (In (texts names)) (sym q) k) | inr z ↦ z ]
    ])
    differ.1
    ∙ append_assoc seen (n.text ∷ []) (texts names)

-- where no name stands twice, the different texts are all of them
pub all_differ : (names : List Name) → Differ (texts names) → different names ≡ texts names
all_differ names differ = grown [] names (λ t h k. h) differ
