use Rattle.std.proofs.Common.{◌≡◌, false, subst, sym}
use Rattle.sc_line.specs.Formats.{is_told}
use Rattle.sc_certificate.specs.Fronts.{FrontSoFar, front_at}
use Rattle.sc_certificate.specs.FrontRead.{front_so_far}
use Rattle.sc_certificate.proofs.LineLaws.{reached_more}
use Rattle.sc_certificate.proofs.front.Front.take_line.Goals as goal

pub take_line-requires : goal.take_line-requires
take_line-requires c = subst (λ (p : FrontSoFar). is_told (front_at p) ≡ false) (sym c.self.view_is) c.requires

pub invariant_of-self : goal.invariant_of-self
invariant_of-self c =
    reached_more c.take_line.result (front_at (front_so_far c.self.inside)) (front_at (front_so_far (record { lines = c.take_line.new.self }))) c.args.line.now c.take_line.ensures.ok c.take_line.ensures.unchanged c.self.invariant
