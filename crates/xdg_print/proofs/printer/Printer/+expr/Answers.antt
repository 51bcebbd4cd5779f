use Rattle.std.proofs.Common.{ap, arith}
use Rattle.xdg_ast.specs.declared.token.Kind.TheVariants as k
use Rattle.xdg_ast.specs.Trees.{Phrase, in_conjunction, in_disjunction, expr_phrase}
use Rattle.xdg_ast.specs.Grammar.{Expr}
use Rattle.xdg_print.proofs.AgainTrees.{expr_phrase-And, expr_phrase-Or}
use Rattle.xdg_print.proofs.Put.{next_member, all_members, by_joined, by_disjoined}
use Rattle.xdg_print.proofs.WrittenTerms.{joined_expr, disjoined_expr, members_done}
use Rattle.xdg_print.proofs.printer.Printer.+expr.Goals as goal

pub loop-member-preserved : goal.loop-member-preserved
loop-member-preserved t c =
    let same = by_joined (expr_phrase c.args.params.now c.member-item.result.kind) c.is_joined-brackets.result c.is_joined-brackets.ensures in
    next_member c.loop-member.self k.Ampersand c.loop-member.first c.is_joined-brackets.result (joined_expr c.args.params.now) (expr_phrase c.args.params.now c.member-item.result.kind).words c.as_slice-member-items.result.now c.loop-member.member-index c.member-item.result c.loop-member-test.true c.member-item.is same c.loop-member.invariant c.in_ok-open-in-And.ensures c.in_ok-expr-in-And.ensures c.in_ok-close-in-And.ensures

pub loop-member-2-preserved : goal.loop-member-2-preserved
loop-member-2-preserved t c =
    let same = by_disjoined (expr_phrase c.args.params.now c.member-item-in-loop-member-2.result.kind) c.is_disjoined-brackets.result c.is_disjoined-brackets.ensures in
    next_member c.loop-member-2.self k.Bar c.loop-member-2.first c.is_disjoined-brackets.result (disjoined_expr c.args.params.now) (expr_phrase c.args.params.now c.member-item-in-loop-member-2.result.kind).words c.as_slice-member-items-in-Or.result.now c.loop-member-2.member-index c.member-item-in-loop-member-2.result c.loop-member-2-test.true c.member-item-in-loop-member-2.is same c.loop-member-2.invariant c.in_ok-open-in-Or.ensures c.in_ok-expr-in-Or.ensures c.in_ok-close-in-Or.ensures

pub returns-after-loop-member : goal.returns-after-loop-member
returns-after-loop-member t c =
    let all = all_members c.loop-member.self k.Ampersand c.loop-member.first (joined_expr c.args.params.now) c.as_slice-member-items.result.now c.loop-member.member-index (omega (arith, c.loop-member-test.false)) c.loop-member.invariant in
    members_done k.Ampersand in_conjunction (expr_phrase c.args.params.now) (λ (member : Expr). expr_phrase c.args.params.now member.kind) c.args.expr.now _ c.in-And.members c.as_slice-member-items.result.now c.args.self.now c.loop-member.self
    (ap (λ (ph : Phrase). ph.words) (expr_phrase-And c.args.params.now c.in-And.members)) c.in-And.is c.as_slice-member-items.ensures all

pub returns-after-loop-member-2 : goal.returns-after-loop-member-2
returns-after-loop-member-2 t c =
    let all = all_members c.loop-member-2.self k.Bar c.loop-member-2.first (disjoined_expr c.args.params.now) c.as_slice-member-items-in-Or.result.now c.loop-member-2.member-index (omega (arith, c.loop-member-2-test.false)) c.loop-member-2.invariant in
    members_done k.Bar in_disjunction (expr_phrase c.args.params.now) (λ (member : Expr). expr_phrase c.args.params.now member.kind) c.args.expr.now _ c.in-Or.members c.as_slice-member-items-in-Or.result.now c.args.self.now c.loop-member-2.self
    (ap (λ (ph : Phrase). ph.words) (expr_phrase-Or c.args.params.now c.in-Or.members)) c.in-Or.is c.as_slice-member-items-in-Or.ensures all
