use Rattle.std.proofs.Common.{Err, refl, sym, ap, ◌∙◌, subst, arith}
use Rattle.xdg_lexicon.specs.Partial.{IsPartial}
use Rattle.xdg_base.specs.Told.{answer_of}
use Rattle.xdg_lexicon.specs.Growing.{entries_in}
use Rattle.xdg_lexicon.specs.Lexicon.{whole}
use Rattle.xdg_lexicon.specs.Steps.{AddsMember, AddsMembers}
use Rattle.xdg_lexicon.proofs.Exits.{exit_gives}
use Rattle.xdg_lexicon.proofs.Joining.{one_of}
use Rattle.xdg_lexicon.proofs.Adding.{adds_begun, adds_further, adds_done}
use Rattle.xdg_lexicon.proofs.Putting.{member_refused}
use Rattle.xdg_lexicon.proofs.growing.add_members.Goals as goal
use Rattle.xdg_facts.proofs.In.{in_at}

pub loop-member-init : goal.loop-member-init
loop-member-init c = record {
  right = c.requires.right;
  adds = adds_begun c.args.types.now (entries_in c.args.growing) c.args.members.now (entries_in c.args.growing) refl;
}

pub add_member-requires-clause-partial : goal.add_member-requires-clause-partial
add_member-requires-clause-partial c =
    subst (IsPartial c.args.types.now.dims) (sym c.as_slice.ensures)
    (one_of c.args.types.now.dims c.args.members.now c.loop-member.member-index c.member-item.result c.loop-member-test.true c.member-item.is c.requires.partial)

pub returns-in_err-growing-clause-adds : goal.returns-in_err-growing-clause-adds
returns-in_err-growing-clause-adds c =
    let stands = in_at c.args.members.now c.loop-member.member-index c.member-item.result c.loop-member-test.true c.member-item.is in
    exit_gives (λ r. AddsMembers c.args.types.now c.args.members.now c.args.at (entries_in c.args.growing) (answer_of entries_in r)) c.from_residual.result _ c.from_residual.ensures.1
    (member_refused c.args.types.now c.args.members.now c.args.at (entries_in c.args.growing) (entries_in c.loop-member.growing) c.member-item.result c.in_err-growing.field-0.0 stands
    (subst (λ m. AddsMember c.args.types.now m c.args.at (entries_in c.loop-member.growing) (Err c.in_err-growing.field-0.0)) c.as_slice.ensures c.in_err-growing.ensures.adds))

pub loop-member-preserved : goal.loop-member-preserved
loop-member-preserved c =
    let adds = c.in_ok-growing.ensures.adds in
    record {
      right = c.in_ok-growing.ensures.right;
      adds = adds_further c.args.types.now (entries_in c.args.growing) c.args.members.now c.loop-member.member-index (entries_in c.loop-member.growing) (entries_in c.in_ok-growing.growing) c.member-item.result adds.0 c.loop-member-test.true
          c.member-item.is (ap (whole c.args.types.now) (sym c.as_slice.ensures) ∙ adds.1.0) adds.1.1 c.loop-member.invariant.adds;
    }

pub returns-clause-adds : goal.returns-clause-adds
returns-clause-adds c = adds_done c.args.types.now (entries_in c.args.growing) c.args.members.now c.loop-member.member-index (entries_in c.loop-member.growing) (omega (arith, c.loop-member-test.false)) c.loop-member.invariant.adds
