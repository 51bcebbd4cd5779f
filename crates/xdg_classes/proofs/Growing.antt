-- What is wanted of the parameters grows by what is added.
use Rattle.std.proofs.Common.{◌≡◌, inl, inr, ℕ, ◌+◌, ◌<◌, ◌≤◌, List, [], ◌∷◌, ◌++◌, length, take, get_or, map, Option, Some, None, refl, sym, ap, ap₂, ◌∙◌, subst}
use Rattle.std.specs.Prelude.{◌↔◌}
use Rattle.std.specs.List.{flat_map}
use Rattle.std.proofs.lemmas.List.{take_all, append-nil}
use Rattle.std.proofs.lemmas.List.Folds.{flat_map-map}
use Rattle.std.proofs.lemmas.Grind.{flat_map-append}
use Rattle.xdg_ast.specs.Grammar.{params_of}
use Rattle.xdg_ast.specs.declared.grammar.ClassParam.{ClassParam}
use Rattle.xdg_ast.specs.declared.names.Pair.{Pair}
use Rattle.xdg_classes.specs.Bodies.{Term, Body, Said, Called, records, calls}
use Rattle.xdg_classes.specs.Definitions.{param_names}
use Rattle.xdg_names.specs.Texts.{place_of}
use Rattle.xdg_domain.specs.Shapes.{Shape, shape}
use Rattle.xdg_terms.specs.declared.wants.Wanted.{Wanted}
use Rattle.xdg_terms.specs.Wanted.{Want}
use Rattle.xdg_classes.specs.declared.wanted.WantedTypes.{WantedTypes}
use Rattle.xdg_classes.specs.Given.{given, given_in, shapes_at, IsEven, Grows}
use Rattle.xdg_classes.specs.Collected.{arg_wants, record_wants, call_wants, body_wants}
use Rattle.xdg_facts.specs.Membership.{In}
use Rattle.xdg_facts.proofs.In.{in_append, in_left, in_right}
use Rattle.xdg_ast.specs.Texts.{texts}
use Rattle.xdg_facts.proofs.Lists.{nothing_each}
use Rattle.xdg_facts.proofs.Fronts.{taken}

pub grows_none : (w : WantedTypes) → Grows w w []
grows_none w even = (even, (λ q s. ((λ h. inl h), (λ h. elim h [ inl a ↦ a | inr b ↦ absurd b ]))))

pub grows_as : (a b : WantedTypes) (xs ys : List Want) → xs ≡ ys → Grows a b xs → Grows a b ys
grows_as a b xs ys e h = subst (Grows a b) e h

pub grows_then : (a b c : WantedTypes) (xs ys : List Want) → Grows a b xs → Grows b c ys → Grows a c (xs ++ ys)
grows_then a b c xs ys h k even =
    let one = h even in
    let two = k one.0 in (
      two.0,
      (λ q s. (
        (λ w. elim ((two.1 q s).0 w) [
          | inl m ↦ elim ((one.1 q s).0 m) [ inl o ↦ inl o | inr l ↦ inr (in_left xs ys (q, s) l) ]
          | inr r ↦ inr (in_right xs ys (q, s) r)
        ]),
        (λ w. elim w [
          | inl o ↦ (two.1 q s).1 (inl ((one.1 q s).1 (inl o)))
          | inr m ↦ elim (in_append xs ys (q, s) m) [ inl l ↦ (two.1 q s).1 (inl ((one.1 q s).1 (inr l))) | inr r ↦ (two.1 q s).1 (inr r) ]
        ]),
      )),
    )

-- what is lent, as the name and the shape
abbrev pub want : Wanted → Want
want one = (one.name.now.text, shape one.ty.now)

-- ---- loops

module _ {A : Type 0} (g : A → List Want) where
  pub grows_turn : (xs : List A) (i : ℕ) (x : A) (first now next : WantedTypes) → i < length xs → x ≡ get_or xs i x → Grows now next (g x) → Grows first now (flat_map g (take i xs)) → Grows first next (flat_map g (take (i + 1) xs))
  grows_turn xs i x first now next within is more so_far =
      let e : flat_map g (take i xs) ++ g x ≡ flat_map g (take (i + 1) xs) = sym (ap (flat_map g) (taken xs i x within is) ∙ flat_map-append g (take i xs) (x ∷ []) ∙ ap (λ l. flat_map g (take i xs) ++ l) (append-nil (g x))) in
      grows_as first next (flat_map g (take i xs) ++ g x) (flat_map g (take (i + 1) xs)) e (grows_then first now next (flat_map g (take i xs)) (g x) so_far more)

-- of what is seen of each item
pub grows_end_seen : {A B : Type 0} (f : A → B) (g : B → List Want) (xs : List A) (i : ℕ) (first now : WantedTypes) → length xs ≤ i → Grows first now (flat_map (λ x. g (f x)) (take i xs)) → Grows first now (flat_map g (map f xs))
grows_end_seen f g xs i first now over so_far =
    grows_as first now (flat_map (λ x. g (f x)) (take i xs)) (flat_map g (map f xs)) (ap (flat_map (λ x. g (f x))) (take_all i xs over) ∙ sym (flat_map-map g f xs)) so_far

-- one want for each item
pub grows_each : {A : Type 0} (f : A → Want) (xs : List A) (i : ℕ) (first now : WantedTypes) → length xs ≤ i → Grows first now (flat_map (λ x. f x ∷ []) (take i xs)) → Grows first now (map f xs)
grows_each f xs i first now over so_far = grows_as first now (flat_map (λ x. f x ∷ []) (take i xs)) (map f xs) (ap (flat_map (λ x. f x ∷ [])) (take_all i xs over) ∙ single f xs) so_far
  where
    single : {A B : Type 0} (f : A → B) (xs : List A) → flat_map (λ x. f x ∷ []) xs ≡ map f xs
    single f [] = refl
    single f (x ∷ xs) = ap (λ l. f x ∷ l) (single f xs)

-- the names of the parameters
pub names_of_params : (params : List ClassParam) → params_of params ≡ texts (param_names params)
names_of_params [] = refl
names_of_params (p ∷ ps) = ap (λ l. p.name.text ∷ l) (names_of_params ps)

-- ---- from nothing on

pub grown : (none made : WantedTypes) (xs ys : List Want) → none.params ≡ [] → none.types.items ≡ [] → Grows none made xs → xs ≡ ys → (q : List ℕ) (s : Shape) → In (given made q) s ↔ In ys (q, s)
grown none made xs ys no_params no_types h e q s =
    let even : IsEven none = ap length no_types ∙ sym (ap length no_params) in
    let empty : given none q ≡ [] = ap (λ ps. shapes_at none.types.items (place_of ps q)) no_params in
    let both = (h even).1 q s in (
      (λ w. elim (both.0 w) [ inl o ↦ absurd (subst (λ l. In l s) empty o) | inr m ↦ subst (λ l. In l (q, s)) e m ]),
      (λ w. both.1 (inr (subst (λ l. In l (q, s)) (sym e) w))),
    )

-- ---- the use of a class

pub called_some : (o : Option WantedTypes) (free : List (List ℕ)) (args : List (Pair Term)) (used : WantedTypes) → Some used ≡ o → flat_map (arg_wants (given used) free) args ≡ flat_map (arg_wants (given_in o) free) args
called_some o free args used e = ap (λ p. flat_map (arg_wants (given_in p) free) args) e

pub called_none : (o : Option WantedTypes) (free : List (List ℕ)) (args : List (Pair Term)) → None ≡ o → [] ≡ flat_map (arg_wants (given_in o) free) args
called_none o free args e = sym (nothing_each (arg_wants (given_in None) free) (λ pair. refl) args) ∙ ap (λ p. flat_map (arg_wants (given_in p) free) args) e

-- ---- a whole body

pub body_wants_are : (look : List ℕ → List ℕ → Option Shape) (tell : List ℕ → List ℕ → List Shape) (free frees : List (List ℕ)) (rs : List Said) (cs : List Called) (b : Body) → free ≡ frees → rs ≡ records b → cs ≡ calls b
    → flat_map (record_wants look free) rs ++ flat_map (call_wants tell free) cs ≡ body_wants look tell frees b
body_wants_are look tell free frees rs cs b f r c =
    ap₂ (λ (xs : List Said) (ys : List Called). flat_map (record_wants look free) xs ++ flat_map (call_wants tell free) ys) r c ∙ ap (λ g. body_wants look tell g b) f
