-- Lists of joins, made one by one.
use Rattle.std.proofs.Common.{◌≡◌, ℕ, ◌<◌, ◌+◌, List, [], ◌∷◌, ◌++◌, length, take, get_or, ap, sym, ◌∙◌, arith, subst, append_assoc, length-append}
use Rattle.std.specs.Prelude.{Option, None, Some, MatchOption, option_to_list}
use Rattle.std.proofs.lemmas.List.{append-nil, nil_from_length, take_more}
use Rattle.xdg_types.specs.declared.table.DimType.{DimType}
use Rattle.xdg_lexicon.specs.Denotes.{JoinsEach, no_other, clashes, joins, JoinsAll, no_first, first_then}
use Rattle.xdg_lexicon.specs.Partial.{Partial, IsPartial, ArePartial, PartialsJoin, PartialsClash}
use Rattle.xdg_facts.proofs.Each.{at_place}

pub are_all : (dims : List DimType) (xs ys : List Partial) → ArePartial dims xs → ArePartial dims ys → ArePartial dims (xs ++ ys)
are_all dims [] ys a b = b
are_all dims (x ∷ xs) ys a b = (a.0, are_all dims xs ys a.1 b)

pub one_of : (dims : List DimType) (ps : List Partial) (k : ℕ) (p : Partial) → k < length ps → p ≡ get_or ps k p → ArePartial dims ps → IsPartial dims p
one_of dims ps k p within is h = at_place (ArePartial dims) (IsPartial dims) (λ _ _ all. all) ps k p h within is

-- ---- one with each

-- with one more at the end the joins are those with it besides
each_more : (dims : List DimType) (m n : Partial) (ns js ks : List Partial) → JoinsEach dims m ns js → JoinsEach dims m (n ∷ []) ks → JoinsEach dims m (ns ++ n ∷ []) (js ++ ks)
each_more dims m n _ _ ks no_other h = h
each_more dims m n _ _ ks (clashes a rest js c d) h = clashes a (rest ++ n ∷ []) (js ++ ks) c (each_more dims m n rest js ks d h)
each_more dims m n _ _ ks (joins a j rest js c d) h = joins a j (rest ++ n ∷ []) (js ++ ks) c (each_more dims m n rest js ks d h)

-- what stands in a list, is written for the joins so far and those that were there
abbrev pub EachSoFar : List DimType → Partial → List Partial → List Partial → ℕ → List Partial → Type 0
EachSoFar dims m ns old i made = (js : List Partial) × ((made ≡ old ++ js) × (JoinsEach dims m (take i ns) js × ArePartial dims js))

module _ (dims : List DimType) (m : Partial) (ns old : List Partial) (i : ℕ) (made : List Partial) where
  pub each_further : (n : Partial) (ks new : List Partial) → i < length ns → n ≡ get_or ns i n → new ≡ made ++ ks → EachSoFar dims m ns old i made → JoinsEach dims m (n ∷ []) ks → ArePartial dims ks
      → EachSoFar dims m ns old (i + 1) new
  each_further n ks new within is pushed (js, (grown, (e, p))) h right =
      let longer : take (i + 1) ns ≡ take i ns ++ n ∷ [] = take_more ns i n within ∙ ap (λ x. take i ns ++ x ∷ []) (sym is) in (
        js ++ ks,
        (
          pushed ∙ ap (λ xs. xs ++ ks) grown ∙ append_assoc old js ks,
          (subst (λ xs. JoinsEach dims m xs (js ++ ks)) (sym longer) (each_more dims m n (take i ns) js ks e h), are_all dims js ks p right),
        ),
      )

-- ---- each with each

all_more : (dims : List DimType) (m : Partial) (ms ns js ks : List Partial) → JoinsAll dims ms ns ks → JoinsEach dims m ns js → JoinsAll dims (ms ++ m ∷ []) ns (ks ++ js)
all_more dims m _ ns js _ (no_first _) e = subst (JoinsAll dims (m ∷ []) ns) (append-nil js) (first_then m [] ns js [] e (no_first ns))
all_more dims m _ _ js _ (first_then a rest ns ls ks d d2) e = subst (JoinsAll dims (a ∷ rest ++ m ∷ []) ns) (sym (append_assoc ls ks js)) (first_then a (rest ++ m ∷ []) ns ls (ks ++ js) d (all_more dims m rest ns js ks d2 e))

module _ (dims : List DimType) (ms ns : List Partial) (i : ℕ) (made : List Partial) where
  pub all_further : (m : Partial) (new : List Partial) → i < length ms → m ≡ get_or ms i m → JoinsAll dims (take i ms) ns made × ArePartial dims made → (js : List Partial) × ((new ≡ made ++ js) × (JoinsEach dims m ns js × ArePartial dims js))
      → JoinsAll dims (take (i + 1) ms) ns new × ArePartial dims new
  all_further m new within is h (js, (grown, (e, p))) =
      let longer : take (i + 1) ms ≡ take i ms ++ m ∷ [] = take_more ms i m within ∙ ap (λ x. take i ms ++ x ∷ []) (sym is) in (
        subst (λ xs. JoinsAll dims xs ns new) (sym longer) (subst (JoinsAll dims (take i ms ++ m ∷ []) ns) (sym grown) (all_more dims m (take i ms) ns js made h.0 e)),
        subst (ArePartial dims) (sym grown) (are_all dims made js h.1 p),
      )

-- ---- one with one

-- the one partial entry is taken out of a list
taken_out : (ps rest : List Partial) (o : Option Partial) (p : Partial) → ps ≡ rest ++ option_to_list o → o ≡ Some p → length ps ≡ 1 → (rest ≡ []) × (ps ≡ p ∷ [])
taken_out ps rest o p popped is single =
    let e : ps ≡ rest ++ p ∷ [] = popped ∙ ap (λ t. rest ++ option_to_list t) is in
    let long : length ps ≡ length rest + 1 = ap length e ∙ length-append rest (p ∷ []) in
    let none : rest ≡ [] = nil_from_length rest (omega (arith, long, single)) in
    (none, e ∙ ap (λ l. l ++ p ∷ []) none)

module _ (dims : List DimType) (first second rest others : List Partial) (o p : Option Partial) (one other : Partial) (popped : first ≡ rest ++ option_to_list o) (taken : second ≡ others ++ option_to_list p) (is : o ≡ Some one) (there : p ≡ Some other)
    (single : (length first ≡ 1) × (length second ≡ 1)) (told : Option Partial) (h : MatchOption told (PartialsClash dims one other) (λ k. PartialsJoin dims one other k × IsPartial dims k)) where
  lists : (new : List Partial) → JoinsEach dims one (other ∷ []) new → (made : List Partial) → made ≡ rest ++ new → JoinsAll dims first second made
  lists new each made now =
      let a = taken_out first rest o one popped is single.0 in
      let b = taken_out second others p other taken there single.1 in
      rw (a.1, b.1, now, a.0) (subst (JoinsAll dims (one ∷ []) (other ∷ [])) (append-nil new) (first_then one [] (other ∷ []) new [] each (no_first (other ∷ []))))

  pub single_clash : told ≡ None → JoinsAll dims first second rest
  single_clash none = lists [] (clashes other [] [] (rw none at h) no_other) rest (sym (append-nil rest))

  pub single_join : (both : Partial) (made : List Partial) → told ≡ Some both → made ≡ rest ++ both ∷ [] → JoinsAll dims first second made
  single_join both made some now = lists (both ∷ []) (joins other both [] [] (rw some at h).0 no_other) made now
