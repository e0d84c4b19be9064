use Rattle.std.proofs.Common.{◌≡◌, ℕ, ◌-◌, length, take, sym, ◌∙◌, ap, vec_len}
use Rattle.sc_reduce.proofs.Stack.{stack_goes, stack_stays, stack_begins}
use Rattle.sc_reduce.proofs.free.push_letter.Goals as goal
use Rattle.sc_reduce.proofs.free.push_letter.Goals.{in_default-via-in-Some+else-is_inverse, in_default-via-in_default}

pub returns-in-Some : goal.returns-in-Some
returns-in-Some c =
    let same = c.deref.ensures.value in
    let len : vec_len c.args.stack.now ≡ length c.args.stack.now.items = sym c.deref.ensures.len ∙ ap length same in
    stack_goes c.args.stack.now.items c.pop.new.self.items c.in-Some.last.now c.args.letter c.requires
    (rw same at (sym c.in-Some.ensures.value))
    (sym c.is_inverse.ensures ∙ c.if-is_inverse.true)
    (c.pop.ensures.rest ∙ ap (λ (n : ℕ). take (n - 1) c.args.stack.now.items) len)

pub returns-in_ok-push-in_default : goal.returns-in_ok-push-in_default
returns-in_ok-push-in_default c =
    let same = c.deref.ensures.value in
    elim c.in_default.branch [
      | in_default-via-in-Some+else-is_inverse w ↦
          c.in_ok-push-in_default.ensures.items
          ∙ stack_stays c.args.stack.now.items w.in-Some.last.now c.args.letter c.requires
          (rw same at (sym w.in-Some.ensures.value))
          (sym w.is_inverse.ensures ∙ w.if-is_inverse.false)
      | in_default-via-in_default w ↦
          c.in_ok-push-in_default.ensures.items ∙ stack_begins c.args.stack.now.items c.args.letter (rw same at (sym w.in_default.ensures.value))
    ]
