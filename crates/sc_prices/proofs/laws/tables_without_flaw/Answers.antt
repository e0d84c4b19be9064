use Rattle.sc_prices.proofs.TableFlaws.{flawless_vouch, vouch_flawless}
use Rattle.sc_prices.proofs.laws.tables_without_flaw.Goals as goal

pub returns : goal.returns
returns c = λ chain list tables. (flawless_vouch chain list tables, vouch_flawless chain list tables)
