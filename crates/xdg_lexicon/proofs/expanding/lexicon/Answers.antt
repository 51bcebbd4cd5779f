use Rattle.std.proofs.Common.{Ok, refl, sym, subst, arith}
use Rattle.xdg_packed.specs.Entries.{IsRightLexicon}
use Rattle.xdg_packed.specs.Lexicon.{Lexicon}
use Rattle.xdg_base.specs.Told.{Gives}
use Rattle.xdg_lexicon.specs.Answers.{Tells, IsPlaced, entries_of}
use Rattle.xdg_lexicon.specs.Expanding.{so_far}
use Rattle.xdg_lexicon.specs.Growing.{entries_in}
use Rattle.xdg_lexicon.specs.Lexicon.{IsLexicon}
use Rattle.xdg_lexicon.specs.Sources.{source_of}
use Rattle.xdg_lexicon.proofs.Exits.{exit_gives}
use Rattle.xdg_packed.proofs.OfTable.{words_once}
use Rattle.xdg_lexicon.proofs.Stepping.{expanded_none, expanded_more, refused_tells, refused_only, all_expanded, expanded_only}
use Rattle.xdg_lexicon.proofs.expanding.lexicon.Goals as goal
use Rattle.xdg_facts.specs.Membership.{In}
use Rattle.xdg_facts.proofs.In.{in_at}

pub loop-def-init : goal.loop-def-init
loop-def-init c = (
  record {
    growing = c.new.ensures.right c.args.checked.now.types c.word_place-dim.ensures.place;
    few_uses = omega arith;
    few_combos = omega arith;
  },
  expanded_none c.args.checked.now c.entries-entries.result.now (entries_in c.new.result) c.new.ensures.none,
)

pub expand_one-requires-clause-entry : goal.expand_one-requires-clause-entry
expand_one-requires-clause-entry c =
    subst (λ l. In l c.def-item.result) c.entries-entries.ensures.same (in_at c.entries-entries.result.now c.loop-def.def-index c.def-item.result c.loop-def-test.true c.def-item.is)

pub returns-in_err-expanding-clause-tells : goal.returns-in_err-expanding-clause-tells
returns-in_err-expanding-clause-tells c =
    exit_gives (λ r. Tells (source_of c.args.checked.now) (entries_of r)) c.from_residual.result _ c.from_residual.ensures.1
    (refused_tells c.loop-def-test.true c.def-item.is c.loop-def.invariant.1 c.in_err-expanding.field-0.0 (sym c.entries-entries.ensures.same) c.in_err-expanding.ensures.expands)

pub returns-in_err-expanding-clause-only : goal.returns-in_err-expanding-clause-only
returns-in_err-expanding-clause-only c answer told =
    exit_gives (λ r. Gives answer (entries_of r)) c.from_residual.result _ c.from_residual.ensures.1
    (refused_only c.loop-def-test.true c.def-item.is c.loop-def.invariant.1 c.word_place-dim.ensures.keeps c.in_err-expanding.field-0.0 (sym c.entries-entries.ensures.same) c.in_err-expanding.ensures.expands answer told)

pub loop-def-preserved : goal.loop-def-preserved
loop-def-preserved c = (c.in_ok-expanding.ensures.right, expanded_more c.loop-def-test.true c.def-item.is c.loop-def.invariant.1 (so_far c.in_ok-expanding.expanding) c.in_ok-expanding.ensures.expands)

pub returns-clause-tells : goal.returns-clause-tells
returns-clause-tells c =
    subst (λ (l : Lexicon). IsLexicon (source_of c.args.checked.now) l.entries) (sym c.finish.ensures)
    (so_far c.loop-def.expanding, (all_expanded (sym c.entries-entries.ensures.same) (omega (arith, c.loop-def-test.false)) c.loop-def.invariant.1, refl))

pub returns-clause-only : goal.returns-clause-only
returns-clause-only c answer told =
    subst (λ (l : Lexicon). Gives answer (Ok l.entries)) (sym c.finish.ensures)
    (expanded_only (sym c.entries-entries.ensures.same) (omega (arith, c.loop-def-test.false)) c.loop-def.invariant.1 c.word_place-dim.ensures.keeps answer told)

pub returns-clause-right : goal.returns-clause-right
returns-clause-right c =
    subst (λ (l : Lexicon). IsRightLexicon c.args.checked.now.types l.entries) (sym c.finish.ensures)
    (record { entries = c.loop-def.invariant.0.growing.right; few = c.loop-def.invariant.1.few; each = c.loop-def.invariant.1.few_each })

pub returns-clause-place : goal.returns-clause-place
returns-clause-place c =
    let types = c.args.checked.now.types in
    let here = c.loop-def.invariant.0.growing.place in
    let lexicon = c.loop-def.expanding.growing.packing in
    subst (IsPlaced types) (sym c.finish.ensures) (record { place = here; one = λ d f other. words_once types c.word_place-dim.ensures.keeps.types d f lexicon.dim lexicon.field other here })
