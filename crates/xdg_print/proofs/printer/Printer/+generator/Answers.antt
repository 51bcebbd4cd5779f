use Rattle.std.proofs.Common.{ap, arith}
use Rattle.xdg_ast.specs.declared.token.Kind.TheVariants as k
use Rattle.xdg_ast.specs.Trees.{Phrase, in_conjunction, in_disjunction, gen_phrase}
use Rattle.xdg_ast.specs.Grammar.{Gen}
use Rattle.xdg_print.proofs.AgainTrees.{gen_phrase-And, gen_phrase-Or}
use Rattle.xdg_print.proofs.Put.{next_member, all_members, by_joined, by_disjoined}
use Rattle.xdg_print.proofs.WrittenTerms.{joined_gen, disjoined_gen, members_done}
use Rattle.xdg_print.proofs.printer.Printer.+generator.Goals as goal

pub loop-member-preserved : goal.loop-member-preserved
loop-member-preserved t c =
    let same = by_joined (gen_phrase c.member-item.result.kind) c.is_joined-brackets.result c.is_joined-brackets.ensures in
    next_member c.loop-member.self k.Ampersand c.loop-member.first c.is_joined-brackets.result joined_gen (gen_phrase c.member-item.result.kind).words c.as_slice-member-items.result.now c.loop-member.member-index c.member-item.result c.loop-member-test.true c.member-item.is same c.loop-member.invariant c.in_ok-open-in-And.ensures c.in_ok-generator-in-And.ensures c.in_ok-close-in-And.ensures

pub loop-member-2-preserved : goal.loop-member-2-preserved
loop-member-2-preserved t c =
    let same = by_disjoined (gen_phrase c.member-item-in-loop-member-2.result.kind) c.is_disjoined-brackets.result c.is_disjoined-brackets.ensures in
    next_member c.loop-member-2.self k.Bar c.loop-member-2.first c.is_disjoined-brackets.result disjoined_gen (gen_phrase c.member-item-in-loop-member-2.result.kind).words c.as_slice-member-items-in-Or.result.now c.loop-member-2.member-index c.member-item-in-loop-member-2.result c.loop-member-2-test.true c.member-item-in-loop-member-2.is same c.loop-member-2.invariant c.in_ok-open-in-Or.ensures c.in_ok-generator-in-Or.ensures c.in_ok-close-in-Or.ensures

pub returns-after-loop-member : goal.returns-after-loop-member
returns-after-loop-member t c =
    let all = all_members c.loop-member.self k.Ampersand c.loop-member.first joined_gen c.as_slice-member-items.result.now c.loop-member.member-index (omega (arith, c.loop-member-test.false)) c.loop-member.invariant in
    members_done k.Ampersand in_conjunction gen_phrase (λ (member : Gen). gen_phrase member.kind) c.args.generator.now _ c.in-And.members c.as_slice-member-items.result.now c.args.self.now c.loop-member.self
    (ap (λ (ph : Phrase). ph.words) (gen_phrase-And c.in-And.members)) c.in-And.is c.as_slice-member-items.ensures all

pub returns-after-loop-member-2 : goal.returns-after-loop-member-2
returns-after-loop-member-2 t c =
    let all = all_members c.loop-member-2.self k.Bar c.loop-member-2.first disjoined_gen c.as_slice-member-items-in-Or.result.now c.loop-member-2.member-index (omega (arith, c.loop-member-2-test.false)) c.loop-member-2.invariant in
    members_done k.Bar in_disjunction gen_phrase (λ (member : Gen). gen_phrase member.kind) c.args.generator.now _ c.in-Or.members c.as_slice-member-items-in-Or.result.now c.args.self.now c.loop-member-2.self
    (ap (λ (ph : Phrase). ph.words) (gen_phrase-Or c.in-Or.members)) c.in-Or.is c.as_slice-member-items-in-Or.ensures all
