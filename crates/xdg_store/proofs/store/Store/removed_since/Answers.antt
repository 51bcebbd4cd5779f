use Rattle.std.proofs.Common.{◌<◌, ◌∙◌, [], ap₂, drop, get_or, length, subst, sym}
use Rattle.xdg_store.specs.Naming.{Names}
use Rattle.xdg_store.proofs.Histories.{known_of, known_seen, seen}
use Rattle.xdg_store.proofs.Noting.{names_since}
use Rattle.xdg_store.proofs.store.Store.removed_since.Goals as goal

pub returns-clause-known : goal.returns-clause-known
returns-clause-known c = known_seen c.self.invariant.0 c.self.view_is

pub returns-clause-names : goal.returns-clause-names
returns-clause-names c =
    let p = c.self.inside.problem.now in
    let s = seen p c.self.inside.trail c.self.inside.turns in
    let within : c.args.mark < length s.history = subst (λ z. c.args.mark < length z.history) (sym c.self.view_is) c.requires in
    subst (λ z. Names z.parts (get_or z.history c.args.mark []) z.now c.behind.result.now) c.self.view_is
    (subst (Names p (get_or s.history c.args.mark []) s.now) (sym (c.behind.ensures ∙ ap₂ drop c.records.ensures c.as_slice.ensures.value))
    (names_since p s c.self.inside.removed.items _ c.args.mark (known_of p c.self.inside.turns c.self.inside.trail c.self.invariant.0) c.self.invariant.3 within))
