use Rattle.sc_text.proofs.KindLaws.{word_kind, side_kind, scale_kind, base_kind, pair_kind, from_kind, value_kind}
use Rattle.sc_text.proofs.kinds.kinds_of_lines.Goals as goal

pub returns-clause-word : goal.returns-clause-word
returns-clause-word c = word_kind

pub returns-clause-side : goal.returns-clause-side
returns-clause-side c = side_kind

pub returns-clause-scale : goal.returns-clause-scale
returns-clause-scale c = scale_kind

pub returns-clause-base : goal.returns-clause-base
returns-clause-base c = base_kind

pub returns-clause-pair : goal.returns-clause-pair
returns-clause-pair c = pair_kind

pub returns-clause-from : goal.returns-clause-from
returns-clause-from c = from_kind

pub returns-clause-value : goal.returns-clause-value
returns-clause-value c = value_kind
