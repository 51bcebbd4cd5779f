use Rattle.std.proofs.Common.{◌≡◌, ◌∙◌, subst, get_or, ap}
use Rattle.std.proofs.lemmas.List.{get_or_default}
use Rattle.xdg_base.specs.declared.ids.EntryNo.{EntryNo}
use Rattle.xdg_problem.specs.Vectors.{place_among}
use Rattle.xdg_judge.proofs.Reading.{candidate_read}
use Rattle.xdg_judge.proofs.reads.candidate_of.Goals as goal

abbrev zero_entry : EntryNo
zero_entry = record { 0 = 0 }

pub returns : goal.returns
returns c =
    let newest = get_or c.args.analysis.now.entries c.args.node zero_entry in
    candidate_read c.args.parts.now.candidates c.args.analysis.now.entries c.args.node c.place_among.result c.index-as_slice-node.result newest c.requires.candidates c.requires.entries
    (subst (λ z. c.index-as_slice-node.result ≡ get_or z c.args.node c.index-as_slice-node.result) c.as_slice.ensures c.index-as_slice-node.is)
    (get_or_default c.args.analysis.now.entries c.args.node zero_entry newest c.requires.entries)
    (c.place_among.ensures ∙ (ap (λ z. place_among z (get_or c.as_slice-3.result.now c.args.node zero_entry)) c.as_slice-2.ensures ∙ ap (λ z. place_among c.index-as_slice-node.result (get_or z c.args.node zero_entry)) c.as_slice-3.ensures))
