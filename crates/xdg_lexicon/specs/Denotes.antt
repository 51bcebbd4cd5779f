-- What a body denotes: a list of partial entries.
use Rattle.std.specs.Prelude.{◌≡◌, ℕ, ◌<◌, List, [], ◌∷◌, ◌++◌, map, Some, slice_index_or}
use Rattle.xdg_ast.specs.declared.names.Name.{Name}
use Rattle.xdg_names.specs.Texts.{place_of}
use Rattle.xdg_types.specs.declared.table.DimType.{DimType}
use Rattle.xdg_terms.specs.Forms.{Bindings}
use Rattle.xdg_terms.specs.Closed.{closed}
use Rattle.xdg_classes.specs.Bodies.{Pairs, Body, either, both, saying, calling, Bodies, no_body, body_then, Called, calls}
use Rattle.xdg_classes.specs.Wants.{NamedBody}
use Rattle.xdg_check.specs.Checked.{Parts}
use Rattle.xdg_check.specs.Counts.{class_texts}
use Rattle.xdg_lexicon.specs.Partial.{Partial, PartialsJoin, PartialsClash, SaysRecord, nothing}
use Rattle.xdg_facts.specs.Membership.{In}

-- ---- conjunction

-- The joins of one partial entry with each of a list, in its order, without those that clash with it.
pub data JoinsEach (dims : List DimType) (m : Partial) : List Partial → List Partial → Type 0 where
  no_other : JoinsEach dims m [] []
  clashes : (n : Partial) (ns js : List Partial) → PartialsClash dims m n → JoinsEach dims m ns js → JoinsEach dims m (n ∷ ns) js
  joins : (n j : Partial) (ns js : List Partial) → PartialsJoin dims m n j → JoinsEach dims m ns js → JoinsEach dims m (n ∷ ns) (j ∷ js)

-- The joins of each of the first list with each of the second: the first list goes slowest.
pub data JoinsAll (dims : List DimType) : List Partial → List Partial → List Partial → Type 0 where
  no_first : (ns : List Partial) → JoinsAll dims [] ns []
  first_then : (m : Partial) (ms ns js ks : List Partial) → JoinsEach dims m ns js → JoinsAll dims ms ns ks → JoinsAll dims (m ∷ ms) ns (js ++ ks)

-- ---- bodies

-- what a use binds: each argument, in which the parameters of the outside stand for what they are bound to
abbrev pub closed_args : Bindings → Pairs → Bindings
closed_args bs args = map (λ pair. record { key = pair.key; value = closed bs pair.value }) args

-- The partial entries of a body, in their order, where its parameters are so bound. They go by the dimensions with their
-- features and by the classes with their bodies, and by nothing else of a grammar.
mutual
  pub data Denotes (dims : List DimType) (classes : List NamedBody) : Bindings → Body → List Partial → Type 0 where
    -- a record: the one that says it
    record_said : (bs : Bindings) (dim : Name) (pairs : Pairs) (p : Partial) → SaysRecord dims bs dim.text pairs p
        → Denotes dims classes bs (saying dim pairs) (p ∷ [])
    -- a use of a class: those of the class's body under what the use binds
    class_used : (bs : Bindings) (name : Name) (args : Pairs) (c : NamedBody) (ms : List Partial) → In classes c → c.name ≡ name.text
        → Denotes dims classes (closed_args bs args) c.body ms → Denotes dims classes bs (calling name args) ms
    conjunction : (bs : Bindings) (bodies : Bodies) (ms : List Partial) → DenotesBoth dims classes bs bodies ms → Denotes dims classes bs (both bodies) ms
    disjunction : (bs : Bindings) (bodies : Bodies) (ms : List Partial) → DenotesEither dims classes bs bodies ms → Denotes dims classes bs (either bodies) ms

  -- the joins of those of the first with those of the rest; of no bodies the one that says nothing
  pub data DenotesBoth (dims : List DimType) (classes : List NamedBody) : Bindings → Bodies → List Partial → Type 0 where
    all_joined : (bs : Bindings) → DenotesBoth dims classes bs no_body (nothing dims ∷ [])
    join_first : (bs : Bindings) (b : Body) (rest : Bodies) (ms ns js : List Partial) → Denotes dims classes bs b ms → DenotesBoth dims classes bs rest ns
        → JoinsAll dims ms ns js
        → DenotesBoth dims classes bs (body_then b rest) js

  -- those of the first, then those of the rest
  pub data DenotesEither (dims : List DimType) (classes : List NamedBody) : Bindings → Bodies → List Partial → Type 0 where
    all_listed : (bs : Bindings) → DenotesEither dims classes bs no_body []
    list_first : (bs : Bindings) (b : Body) (rest : Bodies) (ms ns : List Partial) → Denotes dims classes bs b ms → DenotesEither dims classes bs rest ns
        → DenotesEither dims classes bs (body_then b rest) (ms ++ ns)

-- ---- how deep uses of classes go

-- each class that the body uses has one of so many first places in the order of the classes
abbrev pub IsRanked : Parts → ℕ → Body → Type 0
IsRanked checked depth b =
    (call : Called) → In (calls b) call
    → (j : ℕ) × ((j < depth) × (place_of (class_texts checked.classes) call.name.text ≡ Some (slice_index_or checked.order j 0)))
