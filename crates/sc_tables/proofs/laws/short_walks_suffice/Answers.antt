use Rattle.sc_tables.proofs.ShortWalks.{short_suffices}
use Rattle.sc_tables.proofs.laws.short_walks_suffice.Goals as goal

pub returns : goal.returns
returns c = λ c price sound s j js inside leads. let found = short_suffices c price sound s j inside js leads in (found.walk, (found.leads, found.short, found.lower))
