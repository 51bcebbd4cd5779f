use Rattle.std.proofs.Common.{◌≡◌, ℕ, List, Some, sym, subst}
use Rattle.std.specs.Prelude.{Option, IfErr, IfOk}
use Rattle.xdg_formula.specs.declared.tree.Rules.{Rules}
use Rattle.xdg_inputs.specs.Refusals.{Stops}
use Rattle.xdg_inputs.specs.Stages.{Accepts}
use Rattle.xdg_inputs.specs.declared.refusals.Refusal.TheVariants as refusals
use Rattle.xdg_types.specs.Table.{Table}
use Rattle.xdg_inputs.specs.Files.{AreRight, HasBadRules, HasRules, RoseFor, count_for}
use Rattle.xdg_inputs.proofs.Given.{none_accepted, none_right}
use Rattle.xdg_inputs.proofs.rules_files.load_rules.Goals as goal

pub returns-in-None-clause-found : goal.returns-in-None-clause-found
returns-in-None-clause-found g c files told = none_accepted files c.args.name.now c.args.expanded.now.checked.types _ c.in-None.is c.new.ensures

pub returns-in-None-clause-right : goal.returns-in-None-clause-right
returns-in-None-clause-right g c f offends = none_right c.args.expanded.now.checked.types _ f c.new.ensures offends

pub returns-in-Some-clause-found : goal.returns-in-Some-clause-found
returns-in-Some-clause-found g c =
    let Found : Option (List ℕ) → Table → Type 0 = λ z t.
    IfOk c.load_named.result (λ rules. (files : List ℕ → Option (List ℕ)) → g.H.Shelf.files c.args.shelf.now ≡ Some files → Accepts Rules (HasBadRules files z t) (HasRules files z t) rules) in
    subst (λ (z : Option (List ℕ)). Found z c.args.expanded.now.checked.types) (sym c.in-Some.is) (subst (λ (n : List ℕ). Found (Some n) c.args.expanded.now.checked.types) c.as_str.ensures (subst (Found (Some c.as_str.result.now)) c.types.ensures.same c.load_named.ensures.found))

pub returns-in-Some-clause-right : goal.returns-in-Some-clause-right
returns-in-Some-clause-right g c = subst (λ (t : Table). IfOk c.load_named.result (AreRight t)) c.types.ensures.same c.load_named.ensures.right

pub returns-in-Some-clause-refused : goal.returns-in-Some-clause-refused
returns-in-Some-clause-refused g c =
    let old = g.H.Shelf.faults c.args.shelf.now in
    let new = g.H.Shelf.faults c.load_named.new.shelf in
    let Fails : Option (List ℕ) → Table → Type 0 = λ z t.
    IfErr c.load_named.result (λ refusal. (files : List ℕ → Option (List ℕ)) → Stops (g.H.Shelf.files c.args.shelf.now ≡ Some files) (count_for z old) (count_for z new) Rules (HasBadRules files z t) (HasRules files z t) refusal) in
    subst (λ (z : Option (List ℕ)). Fails z c.args.expanded.now.checked.types) (sym c.in-Some.is) (subst (λ (n : List ℕ). Fails (Some n) c.args.expanded.now.checked.types) c.as_str.ensures (subst (Fails (Some c.as_str.result.now)) c.types.ensures.same c.load_named.ensures.refused))

pub returns-in-Some-clause-failed : goal.returns-in-Some-clause-failed
returns-in-Some-clause-failed g c =
    let Failed : Option (List ℕ) → Type 0 = λ z. IfErr c.load_named.result (λ refusal. refusal ≡ refusals.Read → RoseFor z (g.H.Shelf.faults c.args.shelf.now) (g.H.Shelf.faults c.load_named.new.shelf)) in
    subst Failed (sym c.in-Some.is) (subst (λ (n : List ℕ). Failed (Some n)) c.as_str.ensures c.load_named.ensures.failed)
