use Rattle.xdg_propcore.proofs.Touches.{table_all, words_all}
use Rattle.xdg_propcore.proofs.touched.Touched.all.Goals as goal

pub returns : goal.returns
returns c =
    let all = words_all c.from_words-all.result c.from_words-all.ensures.members in
    record {
      entries = all;
      attrs = all;
      mothers = all;
      daughters = all;
      out = table_all c.from_words-all.result all;
      into = table_all c.from_words-all.result all;
    }
