use Rattle.sc_chain.proofs.PairLaws.{row_where_inverse, row_of_pair, inverse_at, plus_is_pair, minus_is_pair, pair_price_is}
use Rattle.sc_chain.proofs.laws.pairs_have_rows.Goals as goal

pub returns : goal.returns
returns c = record {
  rows = row_where_inverse;
  pair = row_of_pair;
  inverse = λ ch k h. (inverse_at ch k h).inverse;
  plus = λ ch p q k e. (plus_is_pair ch p q k e).ordered;
  minus = λ ch p q k e. (minus_is_pair ch p q k e).ordered;
  price = pair_price_is;
}
