use Rattle.std.proofs.Common.{◌≡◌, true, false, subst}
use Rattle.sc_ball.specs.inside.Arcs.{IsSpareOf, list_in}
use Rattle.sc_ball.proofs.ArcSteps.{second_chosen}
use Rattle.sc_ball.proofs.arcs.chosen.Goals as goal

pub returns-else-is_tight_at : goal.returns-else-is_tight_at
returns-else-is_tight_at c q r edge value here there spare_is not_tight closed =
    second_chosen q c.args.first.now c.args.second.now r (record { direction = c.args.end.now.direction; list = c.args.own }) edge there c.in-Some.list closed
    (subst (IsSpareOf (list_in edge) r.list) c.in-Some.is spare_is) (λ tight. let e : false ≡ true = (c.if-is_tight_at.ensures q value).1 tight in cc)
