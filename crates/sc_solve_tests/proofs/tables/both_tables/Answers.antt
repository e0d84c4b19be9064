use Rattle.std.proofs.Common.{pos, ◌<ℤ◌, arith, refl}
use Rattle.std.proofs.lemmas.Int.{ints}
use Rattle.sc_theory.proofs.Vouching.{covers}
use Rattle.sc_solve_tests.proofs.tables.both_tables.Goals as goal

pub tables_of-requires-clause-covers : goal.tables_of-requires-clause-covers
tables_of-requires-clause-covers c =
    let positive : pos 0 <ℤ c.in_ok-chain.field-0.list.scale = omega (arith, ints, c.in_ok-chain.ensures.in_range.list.scale.low) in
    covers c.in_ok-chain.field-0.chain c.in_ok-chain.field-0.list c.in_ok-chain.field-0.tables positive (c.in-Ok.ensures.exactly.0 refl)
