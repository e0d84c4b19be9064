use Rattle.std.proofs.Common.{◌≡◌, pos, arith}
use Rattle.std.proofs.lemmas.Int.{ints}
use Rattle.sc_rows.specs.Standing.{ArePrices}
use Rattle.sc_rows.specs.declared.prices.PriceRows.{PriceRows}
use Rattle.sc_rows.proofs.PriceLaws.{unit_prices_stand}
use Rattle.sc_rows.proofs.prices.PriceRows.start.Goals as goal

pub returns-clause-stands : goal.returns-clause-stands
returns-clause-stands c =
    let p : PriceRows = record { bulk = c.in_ok-bulk.bulk; fine = c.in_ok-fine.fine } in
    let bulk_one : c.in_ok-bulk.bulk.scale ≡ pos 1 = c.in_ok-bulk.ensures.scale in
    let fine_one : c.in_ok-fine.fine.scale ≡ pos 1 = c.in_ok-fine.ensures.scale in
    let prices : ArePrices c.args.r p =
    record {
      bulk_size = c.in_ok-bulk.ensures.size;
      bulk_scale = omega (arith, ints);
      fine_size = c.in_ok-fine.ensures.size;
      fine_scale = omega (arith, ints);
    } in
    unit_prices_stand c.args.r p prices c.in_ok-bulk.ensures.prices bulk_one c.in_ok-fine.ensures.prices fine_one
