use Rattle.std.proofs.Common.{arith, ◌≤◌, ◌-◌, length, take, drop, sym, ◌∙◌, ap}
use Rattle.sc_outside.specs.Stores.{Supply}
use Rattle.sc_outside.proofs.Bytes.{given_next}
use Rattle.sc_outside.proofs.calm.CalmSourceSource.read.Goals as goal

pub returns-clause-next_bytes : goal.returns-clause-next_bytes
returns-clause-next_bytes c =
    let within : c.min-count.result ≤ length (take (length c.deref.result.now - c.self.inside.given) (drop c.self.inside.given c.deref.result.now)) = omega arith in
    ap (λ (s : Supply). s.left) (sym c.self.view_is) ∙ rw (← c.deref.ensures.value) (given_next _ _ _ _ _ c.copy_from_slice.ensures.after within)
