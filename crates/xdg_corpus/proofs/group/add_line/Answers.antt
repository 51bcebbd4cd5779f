use Rattle.std.proofs.Common.{◌≡◌, subst}
use Rattle.xdg_inputs.specs.Answers.{grammar_in, meaning_of}
use Rattle.xdg_inputs.specs.Refusals.{refusal_of}
use Rattle.xdg_build.specs.Stocks.{IsStock}
use Rattle.xdg_corpus.proofs.Grouping.{asked_added, refused_added, stays_at_text, words_refused}
use Rattle.xdg_corpus.proofs.group.add_line.Goals as goal

pub returns-in-Ok-clause-lines : goal.returns-in-Ok-clause-lines
returns-in-Ok-clause-lines c = asked_added (meaning_of c.args.expanded.now) c.args.options.now c.ask.result c.args.line.now c.args.group.now c.ask.new.self c.in-Ok.job c.in-Ok.ensures.found c.ask.ensures.sentences c.ask.ensures.jobs

pub returns-in-Text-clause-lines : goal.returns-in-Text-clause-lines
returns-in-Text-clause-lines c =
    let words = words_refused (meaning_of c.args.expanded.now) c.args.options.now c.args.line.now c.in-Err.stop c.stopped_in.result c.in-Text.fault c.in-Text.place c.in-Err.ensures.refused (subst (λ z. c.stopped_in.result ≡ refusal_of z c.in-Err.stop) c.as_bytes.ensures.value c.stopped_in.ensures) c.in-Text.is in
    refused_added (meaning_of c.args.expanded.now) c.args.options.now c.refuse.result c.args.line.now c.args.group.now c.refuse.new.self c.in-Text.fault c.in-Text.place words.0 words.1 c.refuse.ensures.sentences c.refuse.ensures.jobs

pub returns-in-Text-clause-stock : goal.returns-in-Text-clause-stock
returns-in-Text-clause-stock c =
    stays_at_text (IsStock (grammar_in c.args.expanded.now) c.job_of.new.stock) c.refuse.result c.as_bytes.result.now c.in-Err.stop c.stopped_in.result c.in-Text.fault c.in-Text.place c.in-Err.ensures.stock c.stopped_in.ensures c.in-Text.is
