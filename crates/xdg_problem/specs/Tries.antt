-- The definitions on a sentence of two words, and a dimension with two labels or two with attributes.
use Rattle.std.specs.Prelude.{◌≡◌, ℕ, List, [], ◌∷◌, true, false, refl}
use Rattle.xdg_base.specs.declared.ids.EntryNo.{EntryNo}
use Rattle.xdg_problem.specs.declared.analysis.Analysis.{Analysis}
use Rattle.xdg_problem.specs.declared.conditions.Condition.TheVariants as conditions
use Rattle.xdg_problem.specs.declared.parts.AttrPlan.{AttrPlan}
use Rattle.xdg_problem.specs.declared.parts.DimPlan.{DimPlan}
use Rattle.xdg_problem.specs.declared.parts.Group.{Group}
use Rattle.xdg_problem.specs.declared.parts.Principle.TheVariants as principles
use Rattle.xdg_problem.specs.declared.parts.Shown.TheVariants as shown
use Rattle.xdg_problem.specs.declared.parts.Parts.{Parts}
use Rattle.xdg_problem.specs.declared.parts.SentenceWord.{SentenceWord}
use Rattle.xdg_problem.specs.Places.{edge, places}
use Rattle.xdg_problem.specs.Vectors.{shape, vector, analysis_of}
use Rattle.xdg_problem.specs.Paths.{roots}
use Rattle.xdg_problem.specs.Arguments.{attr_place}
use Rattle.xdg_problem.specs.Asking.{attr_places}
use Rattle.xdg_problem.specs.Tests.{agreeing, looks_at}
use Rattle.xdg_problem.specs.Principles.{conditions_for}

abbrev word : SentenceWord
word = record { text = 119 ∷ []; at = 0 }

abbrev entry : ℕ → EntryNo
entry number = record { 0 = number }

abbrev plan : DimPlan
plan = record { name = 98 ∷ []; labels = (120 ∷ []) ∷ (121 ∷ []) ∷ []; attrs = []; graph = true }

abbrev small : Parts
small = record { words = word ∷ word ∷ []; candidates = (entry 3 ∷ entry 7 ∷ []) ∷ (entry 5 ∷ []) ∷ []; dims = plan ∷ []; groups = [] }

abbrev linked : Analysis
linked = record { entries = entry 7 ∷ entry 5 ∷ []; attrs = []; edges = edge 0 0 1 1 ∷ [] }

the_places : places small ≡ edge 0 0 0 1 ∷ edge 0 0 1 1 ∷ edge 0 1 0 0 ∷ edge 0 1 1 0 ∷ []
the_places = refl

the_shape : shape small ≡ 2 ∷ 1 ∷ 2 ∷ 2 ∷ 2 ∷ 2 ∷ []
the_shape = refl

the_vector : vector small linked ≡ 1 ∷ 0 ∷ 1 ∷ 0 ∷ 1 ∷ 1 ∷ []
the_vector = refl

the_analysis : analysis_of small (1 ∷ 0 ∷ 1 ∷ 0 ∷ 1 ∷ 1 ∷ []) ≡ linked
the_analysis = refl

the_root : roots 2 linked.edges ≡ 0 ∷ []
the_root = refl

-- dag has those of its conditions that are asked for
connected : conditions_for principles.Dag (true ∷ false ∷ []) ≡ conditions.Cycle ∷ conditions.Roots ∷ []
connected = refl

disjoint : conditions_for principles.Dag (false ∷ true ∷ []) ≡ conditions.Cycle ∷ conditions.Pair ∷ []
disjoint = refl

-- a dimension with one attribute of two values, and one with two of them
abbrev attr : AttrPlan
attr = record { name = 97 ∷ []; values = shown.One (110 ∷ []) ∷ shown.One (118 ∷ []) ∷ [] }

abbrev valued : List AttrPlan → DimPlan
valued attrs = record { name = 98 ∷ []; labels = []; attrs = attrs; graph = false }

abbrev with_attrs : Parts
with_attrs =
    record
    { words = word ∷ word ∷ []; candidates = (entry 3 ∷ []) ∷ (entry 5 ∷ []) ∷ []; dims = valued (attr ∷ []) ∷ valued (attr ∷ attr ∷ []) ∷ []; groups = [] }

-- the values stand by dimension, node and attribute
the_attr_places : attr_place with_attrs 0 1 0 ∷ attr_place with_attrs 1 0 1 ∷ attr_place with_attrs 1 1 0 ∷ [] ≡ 1 ∷ 3 ∷ 4 ∷ []
the_attr_places = refl

-- a use of agr on the second dimension reads the second attribute of a node there
abbrev second_attr : Group
second_attr = record { principle = principles.Agr; dims = record { 0 = 1 } ∷ []; attrs = record { 0 = 1 } ∷ []; order = []; truths = []; feats = [] }

what_agr_reads : attr_places conditions.Agr with_attrs second_attr (1 ∷ []) ≡ 5 ∷ []
what_agr_reads = refl

-- the test of an edge that agrees looks at that one place
one_place : looks_at second_attr (agreeing 0 2 1) (edge 1 0 2 1) ∷ looks_at second_attr (agreeing 0 2 1) (edge 0 0 2 1)
    ∷ looks_at second_attr (agreeing 0 2 1) (edge 1 1 2 0) ∷ []
    ≡ true ∷ false ∷ false ∷ []
one_place = refl
