-- What formulas say, form by form.
use Rattle.xdg_facts.proofs.Facts.{both_steps}
use Rattle.xdg_facts.proofs.Lists.{length_more, contains_more}
use Rattle.xdg_facts.proofs.Contained.{contains_head}
use Rattle.xdg_facts.proofs.Truths.{none_or}
use Rattle.std.proofs.Common.{◌≡◌, ◌↔◌, ◌⊎◌, inl, inr, ℕ, zero, suc, ◌<◌, ◌+◌, ◌%◌, Bool, true, false, cond, List, [], ◌∷◌, ◌++◌, length, get_or, refl, sym, ap, ◌∙◌, subst, arith}
use Rattle.std.specs.Prelude.{◌==◌, Contains, bytes_eq}
use Rattle.std.proofs.lemmas.Bool.{cases_eq, eq-eqb, ne_eqb}
use Rattle.std.proofs.lemmas.List.{get_or_append_left, get_or-append-add}
use Rattle.std.proofs.lemmas.Slice.Eq.{bytes_eq-Decides}
use Rattle.xdg_ast.specs.declared.names.Name.{Name}
use Rattle.xdg_packed.specs.Lexicon.{Lexicon}
use Rattle.xdg_problem.specs.declared.analysis.Analysis.{Analysis}
use Rattle.xdg_problem.specs.declared.parts.Parts.{Parts}
use Rattle.xdg_problem.specs.Analyses.{IsAnalysis}
use Rattle.xdg_problem.specs.declared.formula.Formula.{Formula}
use Rattle.xdg_problem.specs.Claims.{Claim, claim, conjunction, disjunction, every, some, Claims, none, claim_then, EachIsOf, IsBound, EachIsBound}
use Rattle.xdg_problem.specs.Places.{nodes}
use Rattle.xdg_problem.specs.Truths.{bound}
use Rattle.xdg_problem.specs.Truths as t
use Rattle.xdg_problem.specs.Vectors.{entry_places}
use Rattle.xdg_problem.proofs.Claimed.{claim_not}
use Rattle.xdg_problem.proofs.DecidingTruths.{decided_claim}
use Rattle.xdg_types.specs.Table.{Table}
use Rattle.xdg_formula.specs.Written.{Tree, Trees, no_tree, tree_then}
use Rattle.xdg_formula.specs.Written as w
use Rattle.xdg_build.specs.Formulas.{signed}
use Rattle.xdg_build.specs.Says.{Says, Agree}
use Rattle.xdg_build.specs.Signs.{denies}
use Rattle.xdg_build.specs.Truths.{Binding, Denied, bind, IsTrue, EachTrue, SomeTrue}
use Rattle.xdg_names.specs.Texts.{has_text}

-- ---- signs

pub denies_is : (signs : ℕ) → denies signs ≡ ((signs % 2) == 1)
denies_is zero = refl
denies_is (suc zero) = refl
denies_is (suc (suc signs)) = denies_is signs ∙ ap (λ rest. rest == 1) (let e : signs % 2 ≡ suc (suc signs) % 2 = omega arith in e)

-- what is decided is what isn't denied
twice : (P : Type 0) → P ⊎ (P → ⊥) → ((P → ⊥) → ⊥) ↔ P
twice P (inl p) = (λ n. p, λ x n. n x)
twice P (inr no_p) = (λ n. absurd (n no_p), λ p. absurd (no_p p))

decided_denied : (P : Type 0) (signs : ℕ) → P ⊎ (P → ⊥) → Denied signs P ⊎ (Denied signs P → ⊥)
decided_denied P zero decided = decided
decided_denied P (suc signs) decided = elim (decided_denied P signs decided) [ inl d ↦ inr (λ n. n d) | inr n ↦ inl n ]

-- what a run of signs leaves
abbrev Left : Bool → Type 0 → Type 0
Left true P = P → ⊥
Left false P = P

denied_is : (P : Type 0) (signs : ℕ) → P ⊎ (P → ⊥) → Denied signs P ↔ Left (denies signs) P
denied_is P zero decided = (λ p. p, λ p. p)
denied_is P (suc zero) decided = (λ n. n, λ n. n)
denied_is P (suc (suc signs)) decided = both_steps (twice (Denied signs P) (decided_denied P signs decided)) (denied_is P signs decided)

module _ (table : Table) (lexicon : Lexicon) (parts : Parts) where
  decided : (scope : List (List ℕ)) (tree : Tree) (c : Claim) → Says table lexicon parts scope tree c → (a : Analysis) → IsAnalysis parts a → (b : Binding) (numbered : ℕ → ℕ) → Agree (nodes parts) scope b numbered
      → IsTrue table lexicon (nodes parts) a tree b ⊎ (IsTrue table lexicon (nodes parts) a tree b → ⊥)
  decided scope tree c says a fits b numbered agree =
      let same = says.same a fits b numbered agree in
      elim (decided_claim parts (entry_places parts.candidates a.entries) a.attrs a.edges c numbered) [ inl holds ↦ inl (same.0 holds) | inr fails ↦ inr (λ holds. fails (same.1 holds)) ]

  pub says_signed : (scope : List (List ℕ)) (signs at : ℕ) (tree : Tree) (f : Formula) → Says table lexicon parts scope tree (claim f) → Says table lexicon parts scope (w.negation signs at tree) (claim (signed (denies signs) f))
  says_signed scope signs at tree f says = by (denies signs) (λ P. denied_is P signs)
    where
      by : (b : Bool) → ((P : Type 0) → P ⊎ (P → ⊥) → Denied signs P ↔ Left b P) → Says table lexicon parts scope (w.negation signs at tree) (claim (signed b f))
      by true denied = rw claim_not (record {
        is_of = says.is_of;
        bound = says.bound;
        same = λ a fits b numbered agree.
            let same = says.same a fits b numbered agree in
            let law = denied (IsTrue table lexicon (nodes parts) a tree b) (decided scope tree (claim f) says a fits b numbered agree) in
            (λ h. law.1 (λ holds. h (same.1 holds)), λ h holds. law.0 h (same.0 holds));
      })
      by false denied = record {
        is_of = says.is_of;
        bound = says.bound;
        same = λ a fits b numbered agree.
            let same = says.same a fits b numbered agree in
            let law = denied (IsTrue table lexicon (nodes parts) a tree b) (decided scope tree (claim f) says a fits b numbered agree) in
            (λ h. law.1 (same.0 h), λ h. same.1 (law.0 h));
      }

  -- ---- several formulas

  pub record SaysEach (scope : List (List ℕ)) (ts : Trees) (cs : Claims) : Type 0 where
    pub is_of : EachIsOf parts cs
    pub bound : (numbers : List ℕ) → ((i : ℕ) → i < length scope → Contains numbers i) → EachIsBound numbers cs
    pub each : (a : Analysis) → IsAnalysis parts a → (b : Binding) (numbered : ℕ → ℕ) → Agree (nodes parts) scope b numbered
        → t.EachTrueOf parts (entry_places parts.candidates a.entries) a.attrs a.edges cs numbered ↔ EachTrue table lexicon (nodes parts) a ts b
    pub one : (a : Analysis) → IsAnalysis parts a → (b : Binding) (numbered : ℕ → ℕ) → Agree (nodes parts) scope b numbered
        → t.SomeTrueOf parts (entry_places parts.candidates a.entries) a.attrs a.edges cs numbered ↔ SomeTrue table lexicon (nodes parts) a ts b

  pub says_none : (scope : List (List ℕ)) → SaysEach scope no_tree none
  says_none scope = record { is_of = tt; bound = λ numbers each. tt; each = λ a fits b numbered agree. (λ h. tt, λ h. tt); one = λ a fits b numbered agree. (λ h. h, λ h. h) }

  pub says_then : (scope : List (List ℕ)) (at : ℕ) (tree : Tree) (ts : Trees) (c : Claim) (cs : Claims) → Says table lexicon parts scope tree c → SaysEach scope ts cs → SaysEach scope (tree_then at tree ts) (claim_then c cs)
  says_then scope at tree ts c cs first rest = record {
    is_of = (first.is_of, rest.is_of);
    bound = λ numbers each. (first.bound numbers each, rest.bound numbers each);
    each = λ a fits b numbered agree.
        let here = first.same a fits b numbered agree in
        let later = rest.each a fits b numbered agree in
        (λ h. (here.0 h.0, later.0 h.1), λ h. (here.1 h.0, later.1 h.1));
    one = λ a fits b numbered agree.
        let here = first.same a fits b numbered agree in
        let later = rest.one a fits b numbered agree in
        (λ h. elim h [ inl x ↦ inl (here.0 x) | inr y ↦ inr (later.0 y) ], λ h. elim h [ inl x ↦ inl (here.1 x) | inr y ↦ inr (later.1 y) ]);
  }

  pub says_conjunction : (scope : List (List ℕ)) (ts : Trees) (cs : Claims) → SaysEach scope ts cs → Says table lexicon parts scope (w.conjunction ts) (conjunction cs)
  says_conjunction scope ts cs says = record { is_of = says.is_of; bound = says.bound; same = says.each }

  pub says_disjunction : (scope : List (List ℕ)) (ts : Trees) (cs : Claims) → SaysEach scope ts cs → Says table lexicon parts scope (w.disjunction ts) (disjunction cs)
  says_disjunction scope ts cs says = record { is_of = says.is_of; bound = says.bound; same = says.one }

  -- ---- quantifiers

  module _ (scope : List (List ℕ)) (name : Name) (fresh : has_text scope name.text ≡ false) (at : ℕ) (tree : Tree) (c : Claim) (says : Says table lexicon parts (scope ++ name.text ∷ []) tree c) where
    abbrev n : ℕ
    n = length scope

    -- another name of the scope stays what it was
    other : (names : List (List ℕ)) (i : ℕ) → has_text names name.text ≡ false → i < length names → bytes_eq (get_or names i []) name.text ≡ false
    other [] i missing l = absurd (omega (arith, l))
    other (x ∷ names) zero missing l = (none_or (bytes_eq x name.text) (has_text names name.text) missing).0
    other (x ∷ names) (suc i) missing l = other names i (none_or (bytes_eq x name.text) (has_text names name.text) missing).1 (omega (arith, l))

    inside : (b : Binding) (numbered : ℕ → ℕ) (v : ℕ) → v < nodes parts → Agree (nodes parts) scope b numbered → Agree (nodes parts) (scope ++ name.text ∷ []) (bind b name.text v) (bound numbered n v)
    inside b numbered v within agree i l = elim (cases_eq i (length scope)) [
      | inl last ↦
          let here : get_or (scope ++ name.text ∷ []) i [] ≡ name.text =
          ap (λ j. get_or (scope ++ name.text ∷ []) j []) (let e : i ≡ length scope + 0 = omega (arith, last) in e) ∙ get_or-append-add scope (name.text ∷ []) 0 [] in
          let stands : bound numbered n v i ≡ v = ap (λ same. cond same v (numbered i)) (eq-eqb i n last) in
          let meant : bind b name.text v (get_or (scope ++ name.text ∷ []) i []) ≡ v =
          ap (bind b name.text v) here ∙ ap (λ same. cond same v (b name.text)) ((bytes_eq-Decides name.text name.text).1 refl) in
          (stands ∙ sym meant, subst (λ m. m < nodes parts) (sym stands) within)
      | inr earlier ↦
          let before : i < length scope = omega (arith, l, length_more scope name.text, earlier) in
          let here : get_or (scope ++ name.text ∷ []) i [] ≡ get_or scope i [] = get_or_append_left scope (name.text ∷ []) [] i before in
          let stands : bound numbered n v i ≡ numbered i = ap (λ same. cond same v (numbered i)) (ne_eqb i n earlier) in
          let meant : bind b name.text v (get_or (scope ++ name.text ∷ []) i []) ≡ b (get_or scope i []) =
          ap (bind b name.text v) here ∙ ap (λ same. cond same v (b (get_or scope i []))) (other scope i fresh before) in
          (stands ∙ (agree i before).0 ∙ sym meant, subst (λ m. m < nodes parts) (sym stands) (agree i before).1)
    ]

    bound_inside : (numbers : List ℕ) → ((i : ℕ) → i < length scope → Contains numbers i) → IsBound (n ∷ numbers) c
    bound_inside numbers each = says.bound (n ∷ numbers) (λ i l. elim (cases_eq i (length scope)) [
      | inl last ↦ subst (Contains (n ∷ numbers)) (sym last) (contains_head n numbers)
      | inr earlier ↦ contains_more n numbers i (each i (omega (arith, l, length_more scope name.text, earlier)))
    ])

    pub says_every : Says table lexicon parts scope (w.every name at tree) (every n c)
    says_every = record {
      is_of = says.is_of;
      bound = bound_inside;
      same = λ a fits b numbered agree. (
        λ h v l. (says.same a fits (bind b name.text v) (bound numbered n v) (inside b numbered v l agree)).0 (h v l),
        λ h v l. (says.same a fits (bind b name.text v) (bound numbered n v) (inside b numbered v l agree)).1 (h v l),
      );
    }

    pub says_any : Says table lexicon parts scope (w.any name at tree) (some n c)
    says_any = record {
      is_of = says.is_of;
      bound = bound_inside;
      same = λ a fits b numbered agree. (
        λ h. (h.0, h.1, (says.same a fits (bind b name.text h.0) (bound numbered n h.0) (inside b numbered h.0 h.1 agree)).0 h.2),
        λ h. (h.0, h.1, (says.same a fits (bind b name.text h.0) (bound numbered n h.0) (inside b numbered h.0 h.1 agree)).1 h.2),
      );
    }
