use Rattle.std.proofs.Common.{refl, length}
use Rattle.sc_simplex.proofs.Keys.{same_from_clones}
use Rattle.sc_simplex.proofs.Exchanges.{same_ok}
use Rattle.sc_simplex.proofs.state.note.Goals as goal

pub returns-clause-noted : goal.returns-clause-noted
returns-clause-noted c =
    record {
      rows = refl;
      prices = refl;
      place = c.in-Ok.place;
      pushed = (
        (λ i at. let k = c.in-Ok.ensures.known i at in (same_ok c.in-Ok.place i k.0, k.1)),
        (λ none. let a = c.in-Ok.ensures.added none in (same_ok c.in-Ok.place (length c.args.state.now.columns) a.0, a.1)),
      );
      basis = refl;
      last = record { row = c.args.row; key = c.in_ok-key.key };
      last_row = refl;
      last_key = same_from_clones c.args.column.key.items c.in_ok-key.key.items c.in_ok-key.ensures.cases.0;
      journal = c.in_ok-push.ensures.items;
    }
