use Rattle.std.proofs.Common.{subst}
use Rattle.sc_ball.specs.inside.Halves.{IsArcAlong}
use Rattle.sc_ball.specs.Searched.{entries_of}
use Rattle.sc_ball.proofs.HalfLaws.{along_first, along_further_ok}
use Rattle.sc_ball.proofs.arcs.arc_to.Goals as goal

pub returns-in-Some : goal.returns-in-Some
returns-in-Some c q entries n searched at_n along =
    along_further_ok q c.args.first.now c.args.second.now c.check_chain.ensures.chain c.check_chain-2.ensures.chain entries searched n c.args.entry at_n c.in-Some.arc c.grown.result
    (subst (λ a. IsArcAlong q c.args.first.now c.args.second.now (entries_of entries) a n) c.in-Some.is along) (λ m r. c.grown.ensures q m r)

pub returns-in-None : goal.returns-in-None
returns-in-None c q entries n searched at_n along =
    along_first q c.args.first.now c.args.second.now c.check_chain.ensures.chain c.check_chain-2.ensures.chain entries searched n c.args.entry at_n c.begun.result
    (subst (λ a. IsArcAlong q c.args.first.now c.args.second.now (entries_of entries) a n) c.in-None.is along) (c.begun.ensures q c.args.first.now c.args.second.now)
