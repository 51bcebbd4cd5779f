-- Partial entries made dimension after dimension.
use Rattle.std.proofs.Common.{◌≡◌, ℕ, ◌<◌, ◌≤◌, ◌+◌, List, [], ◌∷◌, ◌++◌, length, get_or, refl, ap, sym, ◌∙◌, arith, subst}
use Rattle.std.proofs.lemmas.List.{length-append, length-map, get_or-map}
use Rattle.std.specs.Prelude.{Option, None, Some, MatchOption}
use Rattle.std.proofs.lemmas.Option.{get_or_from_slice_get, slice_get_read, slice_get_within}
use Rattle.xdg_domain.specs.Joined.{fields_in}
use Rattle.xdg_domain.specs.Joins.{SaysBoth, JoinsField, OnSome, ClashesField}
use Rattle.xdg_domain.specs.Shapes.{AreTypes}
use Rattle.xdg_domain.specs.declared.types.Ty.{Ty}
use Rattle.xdg_types.specs.Table.{typed, AreFeatures}
use Rattle.xdg_types.specs.declared.table.DimType.{DimType}
use Rattle.xdg_terms.specs.Forms.{Bindings}
use Rattle.xdg_classes.specs.Bodies.{Pairs}
use Rattle.xdg_lexicon.specs.Partial.{Record, Partial, features, IsDim, said_of, IsRecord, IsPartial, nothing, PartialsJoin, PartialsClash, ReadsDim}
use Rattle.xdg_facts.proofs.Each.{each_pushed}

-- ---- lists made one by one

-- for each of the first places Q holds of the place and what stands there
pub record SoFar (Q : ℕ → Record → Type 0) (bound : ℕ) (made : Partial) : Type 0 where
  pub count : length made ≡ bound
  pub each : (k : ℕ) → k < bound → Q k (said_of made k)

module _ (Q : ℕ → Record → Type 0) where
  pub further : (bound : ℕ) (made new : Partial) (m : Record) → new ≡ made ++ m ∷ [] → SoFar Q bound made → Q bound m → SoFar Q (bound + 1) new
  further bound made new m is s q = subst (SoFar Q (bound + 1)) (sym is) (record {
    count = length-append made (m ∷ []) ∙ ap (λ n. n + 1) s.count;
    each = λ k h. each_pushed Q made m [] (λ j within. s.each j (subst (λ n. j < n) s.count within)) (subst (λ n. Q n m) (sym s.count) q) k (subst (λ n. k < n) (sym (length-append made (m ∷ []) ∙ ap (λ n. n + 1) s.count)) h);
  })

-- ---- dimensions

-- at a place there is one dimension

pub one_dim : (dims : List DimType) (k : ℕ) (d dim : DimType) → d ≡ get_or dims k d → IsDim dims k dim → dim ≡ d
one_dim dims k d dim is at = sym (get_or_from_slice_get dims k dim d at) ∙ sym is

pub types_of : (fs : List (List ℕ × Ty)) → AreFeatures (typed fs) → AreTypes (fields_in fs)
types_of [] h = tt
types_of (f ∷ fs) h = (h.0, types_of fs h.1)

-- ---- the entry that says nothing

pub nothing_partial : (dims : List DimType) → IsPartial dims (nothing dims)
nothing_partial dims = record {
  count = length-map dims (λ dim. []);
  each = λ k dim at. subst (IsRecord (features dim)) (sym (get_or-map (λ (d : DimType). []) dims k dim [] (slice_get_within dims k dim at))) (tt, tt);
}

-- ---- joins

abbrev pub JoinsAt : List DimType → Partial → Partial → ℕ → Record → Type 0
JoinsAt dims a b k m = (dim : DimType) → IsDim dims k dim → SaysBoth (JoinsField (features dim)) (said_of a k) (said_of b k) m × IsRecord (features dim) m

pub within_partial : (dims : List DimType) (p : Partial) (k : ℕ) → k < length dims → IsPartial dims p → k < length p
within_partial dims p k within right = (let long = right.count in omega (arith, within, long))

-- what two records say together, or that they clash, is told of the dimension at their place
module _ (dims : List DimType) (a b : Partial) (k : ℕ) (d : DimType) (mine theirs : Record) (fs : List (List ℕ × Ty)) (is : d ≡ get_or dims k d) (types : fs ≡ d.fields) (one : mine ≡ said_of a k) (other : theirs ≡ said_of b k)
    (told : Option Record) (h : MatchOption told (OnSome (ClashesField (fields_in fs)) mine theirs) (λ n. SaysBoth (JoinsField (fields_in fs)) mine theirs n × IsRecord (fields_in fs) n)) where
  pub joined_here : (m : Record) → told ≡ Some m → JoinsAt dims a b k m
  joined_here m some dim at =
      subst (λ (z : DimType). SaysBoth (JoinsField (features z)) (said_of a k) (said_of b k) m × IsRecord (features z) m) (sym (one_dim dims k d dim is at)) (rw (some, types, one, other) at h)

  pub clashed_here : k < length dims → told ≡ None → PartialsClash dims a b
  clashed_here within none = record { at = k; dim = d; is = slice_get_read dims (length dims) k d refl within is; clash = rw (none, types, one, other) at h }

-- ---- entries that are read

abbrev pub ReadsAt : List DimType → Bindings → List ℕ → Pairs → ℕ → Record → Type 0
ReadsAt dims bs name pairs k m = (dim : DimType) → IsDim dims k dim → ReadsDim dim bs name pairs m

pub read_here : (dims : List DimType) (bs : Bindings) (name : List ℕ) (pairs : Pairs) (k : ℕ) (d : DimType) (m : Record) → d ≡ get_or dims k d → ReadsDim d bs name pairs m → ReadsAt dims bs name pairs k m
read_here dims bs name pairs k d m is h dim at = subst (λ z. ReadsDim z bs name pairs m) (sym (one_dim dims k d dim is at)) h

-- ---- all dimensions

module _ (dims : List DimType) (bound : ℕ) (made : Partial) (low : length dims ≤ bound) (high : bound ≤ length dims) where
  module _ (Q : ℕ → Record → Type 0) (s : SoFar Q bound made) where
    long : length made ≡ length dims
    long = (let n = s.count in omega (arith, low, high, n))

    at_dim : (k : ℕ) (dim : DimType) → IsDim dims k dim → Q k (said_of made k)
    at_dim k dim at = s.each k (let w = slice_get_within dims k dim at in omega (arith, w, low))

  pub joins_all : (a b : Partial) → SoFar (JoinsAt dims a b) bound made → PartialsJoin dims a b made × IsPartial dims made
  joins_all a b s = (
    record { count = long (JoinsAt dims a b) s; each = λ k dim at. (at_dim (JoinsAt dims a b) s k dim at dim at).0 },
    record { count = long (JoinsAt dims a b) s; each = λ k dim at. (at_dim (JoinsAt dims a b) s k dim at dim at).1 },
  )
