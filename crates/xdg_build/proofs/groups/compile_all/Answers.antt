use Rattle.std.proofs.Common.{◌<◌, ◌++◌, get_or, map, filter, [], ◌∷◌, ap, sym, ◌∙◌, subst}
use Rattle.xdg_build.specs.Grammars.{grammar_of, is_used}
use Rattle.xdg_build.specs.Groups.{group_of}
use Rattle.xdg_build.specs.Known.{IsKnownFor}
use Rattle.std.proofs.lemmas.Slice.Zip.{AllZip-long}
use Rattle.xdg_build.proofs.ListTurns.{used_told}
use Rattle.xdg_build.proofs.groups.compile_all.Goals as goal
use Rattle.xdg_facts.proofs.Turns.{skipped, kept}
use Rattle.xdg_facts.proofs.Zips.{zip_at, zip_put}

pub loop-place-preserved-then-not-is_used : goal.loop-place-preserved-then-not-is_used
loop-place-preserved-then-not-is_used c = (
  skipped (group_of (grammar_of c.args.checked.now c.args.packed.now) c.args.candidates.now) (λ u. is_used c.args.checked.now.types u.home) c.args.uses.now c.loop-place.place c.index-uses-place.result c.loop-place.made
      (map (group_of (grammar_of c.args.checked.now c.args.packed.now) c.args.candidates.now) (filter (λ u. is_used c.args.checked.now.types u.home) c.args.uses.now))
      c.loop-place-test.true c.index-uses-place.is (sym (used_told c.used-used.result.now c.types.result.now c.args.checked.now.types c.index-uses-place.result.home _ c.used-used.ensures.same c.types.ensures.same c.if-not-is_used.ensures)) c.loop-place.invariant.0,
  c.loop-place.invariant.1,
)

pub bounds-kept-place : goal.bounds-kept-place
bounds-kept-place c =
    subst (λ n. c.loop-place.place < n) (sym (AllZip-long (λ u known. IsKnownFor (grammar_of c.args.checked.now c.args.packed.now) u known.entries) c.args.uses.now c.loop-place.kept c.loop-place.invariant.1)) c.loop-place-test.true

pub compile_use-requires-clause-kept : goal.compile_use-requires-clause-kept
compile_use-requires-clause-kept c =
    subst (λ u. IsKnownFor (grammar_of c.args.checked.now c.args.packed.now) u (get_or c.loop-place.kept c.loop-place.place c.index-kept-place.result).entries) (sym c.index-uses-place.is)
    (zip_at (λ u known. IsKnownFor (grammar_of c.args.checked.now c.args.packed.now) u known.entries) c.args.uses.now c.loop-place.kept c.loop-place.place c.index-uses-place.result c.index-kept-place.result
    c.loop-place.invariant.1 c.loop-place-test.true)

pub loop-place-preserved : goal.loop-place-preserved
loop-place-preserved c = (
  kept (group_of (grammar_of c.args.checked.now c.args.packed.now) c.args.candidates.now) (λ u. is_used c.args.checked.now.types u.home) c.args.uses.now c.loop-place.place c.index-uses-place.result c.loop-place.made c.push.new.self
      (map (group_of (grammar_of c.args.checked.now c.args.packed.now) c.args.candidates.now) (filter (λ u. is_used c.args.checked.now.types u.home) c.args.uses.now))
      c.loop-place-test.true c.index-uses-place.is (sym (used_told c.used-used.result.now c.types.result.now c.args.checked.now.types c.index-uses-place.result.home _ c.used-used.ensures.same c.types.ensures.same c.if-not-is_used.ensures))
      (c.in_ok-push.ensures.ok ∙ ap (λ x. c.loop-place.made ++ x ∷ []) c.in_ok-compile_use.ensures.group) c.loop-place.invariant.0,
  zip_put (λ u known. IsKnownFor (grammar_of c.args.checked.now c.args.packed.now) u known.entries) c.args.uses.now c.loop-place.kept c.loop-place.place c.index-uses-place.result c.compile_use.new.kept
      c.loop-place-test.true c.index-uses-place.is c.in_ok-compile_use.ensures.kept c.loop-place.invariant.1,
)
