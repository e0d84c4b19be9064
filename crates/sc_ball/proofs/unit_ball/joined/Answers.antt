use Rattle.std.proofs.Common.{ℕ, ◌<◌, sym, subst}
use Rattle.sc_ball.proofs.JoinLaws.{IsGood, joined_is}
use Rattle.sc_ball.proofs.unit_ball.joined.Goals as goal

good : (c : goal.After-drop-upper_corners-2) → IsGood c.args.first.now c.args.second.now c.args.lower c.args.upper c.requires.lower c.requires.upper (record { first = c.in_ok-copy.field-0; second = c.in_ok-copy-2.field-0; corners = c.append.new.self; edges = c.append-2.new.self })
good c =
    joined_is c.args.first.now c.args.second.now c.args.lower c.args.upper c.requires.lower c.requires.upper
    (record { first = c.in_ok-copy.field-0; second = c.in_ok-copy-2.field-0; corners = c.append.new.self; edges = c.append-2.new.self }) c.pop.new.self.items c.pop.result c.pop.ensures.items
    (λ some. c.pop.ensures.variant.1 (subst (λ (n : ℕ). 0 < n) (sym c.args.lower.corners.ok.0) some))
    (record {
      first_is = c.in_ok-copy.ensures;
      second_is = c.in_ok-copy-2.ensures;
      corners_are = c.in_ok-append.ensures.items;
      edges_are = c.in_ok-append-2.ensures.items;
    })

pub returns-clause-fan : goal.returns-clause-fan
returns-clause-fan c = (good c).0

pub returns-clause-readable : goal.returns-clause-readable
returns-clause-readable c first second = (good c).1 c.requires.words c.requires.positions first second
