use Rattle.std.proofs.Common.{◌≡◌, to_z-of_z, [], ◌∷◌, Some, ◌≤ℤ◌}
use Rattle.std.proofs.lemmas.Result.{IfOk-weaker}
use Rattle.sc_whole.specs.Spelling.{spelling}
use Rattle.sc_line.specs.Lines.{fields}
use Rattle.sc_line.proofs.LineLaws.{taken_is, line_from_fields}
use Rattle.sc_line.proofs.fields.number_line.Goals as goal

pub returns-clause-ok : goal.returns-clause-ok
returns-clause-ok c =
    IfOk-weaker _ _ _
    (λ z (h : (c.in_ok-number.number ≡ Some z) × (c.args.low ≤ℤ z) × (z ≤ℤ c.args.high)).
    let number = taken_is _ _ _ z c.in_ok-number.ensures.ok h.0 in
    let all : fields c.args.line.now ≡ c.args.name.now ∷ spelling z ∷ [] = cc (c.of-fields.ensures, c.in_ok-name.ensures.ok, number, c.in_ok-end.ensures.ok) in
    (line_from_fields c.args.line.now _ all, h.1, h.2))
    (simp (to_z-of_z c.ranges.low, to_z-of_z c.ranges.high) at c.within.ensures.ok)

pub returns-clause-fields : goal.returns-clause-fields
returns-clause-fields c =
    IfOk-weaker _ _ _
    (λ z (h : (c.in_ok-number.number ≡ Some z) × (c.args.low ≤ℤ z) × (z ≤ℤ c.args.high)).
    let number = taken_is _ _ _ z c.in_ok-number.ensures.ok h.0 in
    let all : fields c.args.line.now ≡ c.args.name.now ∷ spelling z ∷ [] = cc (c.of-fields.ensures, c.in_ok-name.ensures.ok, number, c.in_ok-end.ensures.ok) in
    all)
    (simp (to_z-of_z c.ranges.low, to_z-of_z c.ranges.high) at c.within.ensures.ok)
