use Rattle.std.proofs.Common.{◌≡◌, ◌∙◌, length, rules, sym}
use Rattle.xdg_split.proofs.Collecting.{collected_end, collected_first, collected_more, collected_none, collected_spent}
use Rattle.xdg_split.proofs.finding.find.Goals as goal
use Rattle.xdg_facts.proofs.Options.{is_wanted, not_wanted}

pub draw-init : goal.draw-init
draw-init g c = collected_none c.args.first c.args.stream.now c.new-found.result.items c.requires.some c.requires.begun c.requires.charged c.new-found.ensures.items

pub returns-then-eq : goal.returns-then-eq
returns-then-eq g c =
    let same : c.len.result ≡ length c.keep_last.new.found.items = search rules in
    collected_first c.draw.invariant c.in-Found.ensures.step c.keep_last.new.found.items c.in_ok-keep_last-in-Found.ensures c.len.result same (is_wanted c.args.first c.len.result (sym c.eq.ensures ∙ c.if-eq.true))

pub draw-preserved : goal.draw-preserved
draw-preserved g c =
    let same : c.len.result ≡ length c.keep_last.new.found.items = search rules in
    collected_more c.draw.invariant c.in-Found.ensures.step c.keep_last.new.found.items c.in_ok-keep_last-in-Found.ensures c.len.result same (not_wanted c.args.first c.len.result (sym c.eq.ensures ∙ c.if-eq.false))

pub returns-in-End : goal.returns-in-End
returns-in-End g c = collected_end c.draw.invariant c.in-End.ensures.step

pub returns-in-Spent : goal.returns-in-Spent
returns-in-Spent g c = collected_spent c.draw.invariant c.in-Spent.ensures.step
