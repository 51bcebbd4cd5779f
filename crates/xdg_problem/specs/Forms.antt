-- The table of principles, as grammar texts use them: which dimensions and arguments each has.
use Rattle.std.specs.Prelude.{ℕ, List, [], ◌∷◌, ◌++◌, Option, None, Some, codes}
use Rattle.xdg_problem.specs.declared.parts.Principle.{Principle}
use Rattle.xdg_problem.specs.declared.parts.Principle.TheVariants as principles
use Rattle.xdg_problem.specs.declared.forms.Which.{Which}
use Rattle.xdg_problem.specs.declared.forms.Which.TheVariants as w
use Rattle.xdg_problem.specs.declared.forms.Dims.{Dims}
use Rattle.xdg_problem.specs.declared.forms.Dims.TheVariants as d
use Rattle.xdg_problem.specs.declared.forms.Element.{Element}
use Rattle.xdg_problem.specs.declared.forms.Element.TheVariants as e
use Rattle.xdg_problem.specs.declared.forms.Typing.{Typing}
use Rattle.xdg_problem.specs.declared.forms.Typing.TheVariants as t
use Rattle.xdg_problem.specs.declared.forms.Sort.TheVariants as s
use Rattle.xdg_problem.specs.declared.forms.Wanted.{Wanted}
use Rattle.xdg_problem.specs.declared.forms.Wanted.TheVariants as a
use Rattle.xdg_problem.specs.declared.forms.Preset.{Preset}
use Rattle.xdg_problem.specs.declared.forms.Preset.TheVariants as p
use Rattle.xdg_problem.specs.declared.forms.Key.{Key}
use Rattle.xdg_problem.specs.declared.forms.Key.TheVariants as k
use Rattle.xdg_problem.specs.declared.forms.Parameter.{Parameter}
use Rattle.xdg_problem.specs.declared.forms.Form.{Form}
use Rattle.xdg_facts.specs.Onward.{optional}

-- ---- how names are spelled

-- the key of one dimension alone is `D`; those of more have numbers
abbrev pub dim_key : Dims → Which → List ℕ
dim_key d.One which = codes "D"
dim_key _ w.First = codes "D1"
dim_key _ w.Second = codes "D2"
dim_key _ w.Third = codes "D3"

-- the dimensions of a principle, in order
abbrev pub dims_in : Dims → List Which
dims_in d.One = w.First ∷ []
dims_in d.Two = w.First ∷ w.Second ∷ []
dims_in d.Three = w.First ∷ w.Second ∷ w.Third ∷ []

abbrev pub key_text : Key → List ℕ
key_text k.Agr = codes "Agr"
key_text k.Agr1 = codes "Agr1"
key_text k.Agr2 = codes "Agr2"
key_text k.Agree = codes "Agree"
key_text k.Agrs = codes "Agrs"
key_text k.Blocks = codes "Blocks"
key_text k.Connected = codes "Connected"
key_text k.DisjointDaughters = codes "DisjointDaughters"
key_text k.Govern = codes "Govern"
key_text k.In = codes "In"
key_text k.Link = codes "Link"
key_text k.On = codes "On"
key_text k.Order = codes "Order"
key_text k.Out = codes "Out"
key_text k.Yields = codes "Yields"

-- the feature that a left-out argument is
abbrev pub preset_feature : Preset → Option (List ℕ)
preset_feature p.In = Some (codes "in")
preset_feature p.Out = Some (codes "out")
preset_feature _ = None

-- ---- the table

abbrev pub required : Key → Wanted → Option Parameter
required key wanted = Some (record { key = key; wanted = wanted; preset = p.Required })

-- a truth value, `false` by default
abbrev pub flag : Key → Option Parameter
flag key = Some (record { key = key; wanted = a.Truth; preset = p.False })

-- a feature that gives a cardinality for each label, with a default
abbrev pub counted : Key → Preset → Option Parameter
counted key preset = Some (record { key = key; wanted = a.Member s.Feature w.First (t.Valency w.First); preset = preset })

-- a feature of the first dimension
abbrev pub feature : Key → Typing → Option Parameter
feature key typing = required key (a.Member s.Feature w.First typing)

-- an attribute of the first dimension
abbrev pub attribute : Key → Element → Option Parameter
attribute key element = required key (a.Member s.Attribute w.First (t.One element))

abbrev pub has : Dims → Option Parameter → Option Parameter → Option Parameter → Form
has dims first second third = record { dims = dims; first = first; second = second; third = third }

-- three dimensions, of which the third has the feature `Link`
abbrev pub linking : Typing → Form
linking typing = has d.Three (required k.Link (a.Member s.Feature w.Third typing)) None None

-- for each label of the first dimension labels of the second
abbrev pub labels_to_labels : Typing
labels_to_labels = t.Map w.First (e.Labels w.Second)

-- the principles of several dimensions, and those that take no argument
abbrev pub form_of_several : Principle → Form
form_of_several principles.Climbing = has d.Two None None None
form_of_several principles.Barriers = has d.Two (required k.Blocks (a.Member s.Feature w.Second (t.Set (e.Labels w.Second)))) None None
form_of_several principles.LinkingEnd = linking labels_to_labels
form_of_several principles.LinkingDaughter = linking labels_to_labels
form_of_several principles.LinkingMother = linking labels_to_labels
form_of_several principles.LinkingBelowStart = linking labels_to_labels
form_of_several principles.LinkingAboveStart = linking labels_to_labels
form_of_several principles.LinkingSisters = linking labels_to_labels
form_of_several principles.LinkingNotDaughter = linking (t.Set (e.Labels w.First))
form_of_several principle = has d.One None None None

-- what each principle has; a rule and a bound, which stand in no grammar text, are given what takes no argument
abbrev pub form_of : Principle → Form
form_of principles.Dag = has d.One (flag k.Connected) (flag k.DisjointDaughters) None
form_of principles.Valency = has d.One (counted k.In p.In) (counted k.Out p.Out) None
form_of principles.Order = has d.One (required k.Order (a.Labels w.First)) (attribute k.On (e.Labels w.First)) (flag k.Yields)
form_of principles.Agr = has d.One (attribute k.Agr e.Shared) (feature k.Agrs (t.Set e.Shared)) None
form_of principles.Agreement = has d.One (attribute k.Agr1 e.Shared) (attribute k.Agr2 e.Shared) (feature k.Agree (t.Set (e.Labels w.First)))
form_of principles.Government = has d.One (attribute k.Agr e.Shared) (feature k.Govern (t.Map w.First e.Shared)) None
form_of principle = form_of_several principle

-- ---- what a form lists

-- the arguments, in order
abbrev pub parameters : Form → List Parameter
parameters form = optional form.first ++ (optional form.second ++ optional form.third)
