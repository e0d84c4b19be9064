use Rattle.sc_words.proofs.Reduced.{reduced_where_none}
use Rattle.sc_words.proofs.word.Word.is_reduced.Goals as goal

pub returns : goal.returns
returns c = reduced_where_none c.as_slice.result.now c.args.self.now c.least_cancelling.result c.is_none.result c.as_slice.ensures c.is_none.ensures c.least_cancelling.ensures
