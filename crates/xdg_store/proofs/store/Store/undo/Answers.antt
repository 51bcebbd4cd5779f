use Rattle.std.proofs.Common.{◌≡◌, ◌+◌, ◌-◌, ◌∙◌, [], length, get_or, take, drop, ap, ap₂, sym}
use Rattle.xdg_store.specs.Layout.{bits_of}
use Rattle.xdg_store.proofs.Histories.{cut_last, history_cut, keeps_undone, known_of, mark_within}
use Rattle.xdg_store.proofs.Kept.{all_decided, all_fit, kept_undone}
use Rattle.xdg_store.proofs.Noting.{steps_cut}
use Rattle.xdg_store.proofs.store.Store.undo.Goals as goal

pub undo-requires : goal.undo-requires
undo-requires c = mark_within c.self.inside.trail c.self.view_is c.requires

pub renew_all-requires-clause-fits : goal.renew_all-requires-clause-fits
renew_all-requires-clause-fits c =
    let named : c.behind-undone.result.now ≡ drop c.args.mark c.self.inside.removed.items = c.behind-undone.ensures ∙ ap₂ drop c.records.ensures c.as_slice.ensures.value in
    all_fit c.args.mark c.self.invariant.0 c.self.invariant.3 c.self.invariant.4 c.self.invariant.1 named (keeps_undone c.undo.new.self c.args.mark c.self.invariant.0 c.undo.ensures.len c.undo.ensures.room c.undo.ensures.past)

pub invariant_of-self : goal.invariant_of-self
invariant_of-self c =
    let l = mark_within c.self.inside.trail c.self.view_is c.requires in
    let keeps = keeps_undone c.undo.new.self c.args.mark c.self.invariant.0 c.undo.ensures.len c.undo.ensures.room c.undo.ensures.past in
    let named : c.behind-undone.result.now ≡ drop c.args.mark c.self.inside.removed.items = c.behind-undone.ensures ∙ ap₂ drop c.records.ensures c.as_slice.ensures.value in (
      keeps,
      c.self.invariant.1,
      c.self.invariant.2,
      steps_cut c.self.inside.problem.now c.self.inside.trail c.undo.new.self c.self.inside.removed.items c.truncate.new.self.items _ _ c.args.mark c.records-2.result
          l c.undo.ensures.past c.self.invariant.3 c.truncate.ensures.items c.records-2.ensures c.truncate.ensures.capacity,
      kept_undone c.args.mark c.self.invariant.0 c.self.invariant.3 c.self.invariant.4 c.self.invariant.1 named keeps l c.undo.ensures.past c.renew_all.ensures.renews,
      c.renew_all.ensures.told c.self.inside.problem.now c.self.invariant.0.problem (sym c.self.invariant.1) (all_decided c.args.mark c.self.invariant.0 c.self.invariant.3 c.self.invariant.4 c.self.invariant.1 named) c.self.invariant.5,
    )

pub returns-clause-known : goal.returns-clause-known
returns-clause-known c = known_of c.self.inside.problem.now c.self.inside.turns c.undo.new.self (keeps_undone c.undo.new.self c.args.mark c.self.invariant.0 c.undo.ensures.len c.undo.ensures.room c.undo.ensures.past)

pub returns-clause-history : goal.returns-clause-history
returns-clause-history c =
    history_cut (bits_of c.self.inside.problem.now) c.self.inside.trail c.undo.new.self c.args.mark (mark_within c.self.inside.trail c.self.view_is c.requires) c.undo.ensures.past
    ∙ ap (λ s. take (c.args.mark + 1) s.history) c.self.view_is

pub returns-clause-now : goal.returns-clause-now
returns-clause-now c =
    let h = returns-clause-history c in
    sym (returns-clause-known c).last ∙ ap (λ z. get_or z (length z - 1) []) h ∙ cut_last c.args.self.now.history c.args.mark c.requires
