use Rattle.std.proofs.Common.{sym, subst, inl, inr}
use Rattle.xdg_names.specs.First.{Tells}
use Rattle.xdg_classes.specs.KnownWants.{Fits, IsKnown}
use Rattle.xdg_classes.specs.Offences.{ValueOffends}
use Rattle.xdg_classes.specs.Given.{told}
use Rattle.xdg_classes.specs.Collected.{feature_of}
use Rattle.xdg_classes.specs.Wrong as wrong
use Rattle.xdg_facts.proofs.Options.{if_ok}
use Rattle.xdg_classes.proofs.Settling.{same_features}
use Rattle.xdg_classes.proofs.ValueLaw.{value_law}
use Rattle.xdg_classes.proofs.checking.check_values.Goals as goal

pub returns : goal.returns
returns c =
    let statements = c.args.statements.now in
    let table = c.args.table.now in
    let features = c.in_ok-features.features in
    let fits : Fits statements table features c.args.classes.now =
    record { dims = c.in_ok-features.ensures.dims; names = c.in_ok-features.ensures.names; orders = c.requires.ordered; once = λ f k. c.requires.named f (inr (inr (inl k))) } in
    let tell = told c.args.classes.now.names c.as_slice.result.now in
    let known : IsKnown statements table c.args.classes.now.names c.as_slice.result.now = subst (IsKnown statements table c.args.classes.now.names) (sym c.as_slice.ensures.value) (c.in_ok-known.ensures statements table fits) in
    if_ok (Tells (wrong.SomeOf statements (wrong.StatementWrong (feature_of features) tell))) (Tells (ValueOffends statements table)) c.check_statements.result
    (value_law statements table (feature_of features) (same_features table features c.in_ok-features.ensures.dims c.in_ok-features.ensures.names) tell known)
    c.check_statements.ensures
