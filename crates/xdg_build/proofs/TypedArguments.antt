-- The arguments of a typed use, as the parameters of its principle want them.
use Rattle.std.proofs.Common.{◌≡◌, ℕ, List, [], ◌∷◌, map, refl, ap₂}
use Rattle.std.specs.Prelude.{Bool, length}
use Rattle.xdg_domain.specs.Shapes.{Shape}
use Rattle.xdg_types.specs.Table.{Table, ArePlaces}
use Rattle.xdg_principles.specs.declared.building.Arg.{Arg}
use Rattle.xdg_principles.specs.declared.building.Arg.TheVariants as arg
use Rattle.xdg_principles.specs.declared.building.PrincipleUse.{PrincipleUse}
use Rattle.xdg_problem.specs.declared.forms.Form.{Form}
use Rattle.xdg_problem.specs.declared.forms.Parameter.{Parameter}
use Rattle.xdg_problem.specs.declared.forms.Sort.TheVariants as sorts
use Rattle.xdg_problem.specs.declared.forms.Wanted.{Wanted}
use Rattle.xdg_problem.specs.declared.forms.Wanted.TheVariants as wants
use Rattle.xdg_problem.specs.Forms.{parameters}
use Rattle.xdg_principles.specs.Typed.{IsTypedArg, AreTypedArgs, IsTypedMember, labels_at}

-- what the parameters of a form want
abbrev pub wanted_by : Form → List Wanted
wanted_by form = map (λ (p : Parameter). p.wanted) (parameters form)

module _ (table : Table) (u : PrincipleUse) (shared : Shape) where
  -- what an argument of the wanted kind names
  abbrev pub Named : Wanted → Type 0
  Named (wants.Member sort which typing) = (k : ℕ) × IsTypedMember table u shared sort which typing k
  Named (wants.Labels which) = (ks : List ℕ) × ArePlaces (length (labels_at table u which)) ks
  Named wants.Truth = Bool

  -- the argument that names it
  abbrev pub arg_of : (w : Wanted) → Named w → Arg
  arg_of (wants.Member sorts.Feature which typing) x = arg.Feature x.0
  arg_of (wants.Member sorts.Attribute which typing) x = arg.Attr x.0
  arg_of (wants.Labels which) x = arg.Labels x.0
  arg_of wants.Truth b = arg.Truth b

  named : (w : Wanted) (x : Arg) → IsTypedArg table u shared w x → (one : Named w) × (x ≡ arg_of w one)
  named (wants.Member sorts.Feature which typing) (arg.Feature k) h = ((k, h), refl)
  named (wants.Member sorts.Attribute which typing) (arg.Attr k) h = ((k, h), refl)
  named (wants.Labels which) (arg.Labels ks) h = ((ks, h), refl)
  named wants.Truth (arg.Truth b) h = (b, refl)
  named _ _ h = absurd h

  -- the same of one argument for each of these
  abbrev pub AllNamed : List Wanted → Type 0
  AllNamed [] = Unit {0}
  AllNamed (w ∷ ws) = Named w × AllNamed ws

  abbrev pub args_of : (ws : List Wanted) → AllNamed ws → List Arg
  args_of [] all = []
  args_of (w ∷ ws) all = arg_of w all.0 ∷ args_of ws all.1

  pub all_named : (ps : List Parameter) (xs : List Arg) → AreTypedArgs table u shared ps xs → (all : AllNamed (map (λ (p : Parameter). p.wanted) ps)) × (xs ≡ args_of (map (λ (p : Parameter). p.wanted) ps) all)
  all_named [] [] h = (tt, refl)
  all_named (p ∷ ps) (x ∷ xs) h =
      let one = named p.wanted x h.0 in
      let more = all_named ps xs h.1 in
      ((one.0, more.0), ap₂ (λ (y : Arg) (ys : List Arg). y ∷ ys) one.1 more.1)
  all_named _ _ h = absurd h
