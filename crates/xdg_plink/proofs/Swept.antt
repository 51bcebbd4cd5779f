-- Where all was looked at by an exact table, and nothing was taken, the box is closed.
use Rattle.std.proofs.Common.{◌≡◌, ℕ, Bool, List, sym, subst}
use Rattle.xdg_problem.specs.declared.analysis.Edge.{Edge}
use Rattle.xdg_problem.specs.declared.parts.Group.{Group}
use Rattle.xdg_problem.specs.declared.parts.Linking.{Linking}
use Rattle.xdg_problem.specs.declared.parts.Parts.{Parts}
use Rattle.xdg_problem.specs.Boxes.{IsBox}
use Rattle.xdg_problem.specs.Places.{nodes}
use Rattle.xdg_problem.specs.Vectors.{shape}
use Rattle.xdg_rules.specs.Rules.{IsClosedFor, may_edges}
use Rattle.xdg_store.specs.States.{State}
use Rattle.xdg_propcore.specs.Passes.{Progress}
use Rattle.xdg_propcore.specs.Sweeps.{Sweeps}
use Rattle.xdg_plink.specs.Family.{IsLinking}
use Rattle.xdg_plink.specs.Steps.{AreMothersDone, IsExact}
use Rattle.xdg_plink.proofs.Closing.{all_done}

-- what is said of the table of a way and a dimension
pub says_as : (Says : Linking → List Edge → List (List ℕ) → Type 0) (parts : Parts) (box : List (List Bool)) (way its : Linking) (dim second : ℕ) (table : List (List ℕ)) → way ≡ its → dim ≡ second → Says way (may_edges parts box dim) table → Says its (may_edges parts box second) table
says_as Says parts box way its dim second table p q h = subst (λ w. Says w (may_edges parts box second) table) p (subst (λ i. Says way (may_edges parts box i) table) q h)

pub swept : (group : Group) (table : List (List ℕ)) (p q : Progress) (old new : State) → IsLinking group.principle → IsExact old.parts group table old.now → Sweeps group (AreMothersDone old.parts group table (nodes old.parts)) p old q new → Sweeps group (IsClosedFor old.parts group) p old q new
swept group table p q old new linking exact a = record {
  goes = a.goes;
  known = a.known;
  done = λ quiet.
      let same = (a.goes.quiet quiet).1 in
      all_done old.parts group table new.now (subst (λ parts. IsBox (shape parts) new.now) a.goes.extends.same a.known.is_box) linking (subst (IsExact old.parts group table) (sym same) exact) (a.done quiet);
}
