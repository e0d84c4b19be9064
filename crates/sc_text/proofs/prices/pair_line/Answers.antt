use Rattle.std.proofs.Common.{◌≡◌, [], ◌∷◌, Some, pos, neg_ℤ, ◌≤ℤ◌, codes}
use Rattle.std.proofs.lemmas.Result.{IfOk-weaker}
use Rattle.sc_whole.specs.Spelling.{spelling}
use Rattle.sc_text.specs.declared.limits.TheConstants.{MAX_PRICE}
use Rattle.sc_line.specs.Lines.{fields}
use Rattle.sc_line.proofs.LineLaws.{taken_is, line_from_fields}
use Rattle.sc_text.proofs.prices.pair_line.Goals as goal

pub returns-clause-ok : goal.returns-clause-ok
returns-clause-ok c =
    IfOk-weaker _ _ _
    (λ y (h : (c.in_ok-price.price ≡ Some y) × (neg_ℤ MAX_PRICE ≤ℤ y) × (y ≤ℤ MAX_PRICE)).
    let number = taken_is _ _ _ y c.in_ok-price.ensures.ok h.0 in
    let all : fields c.args.line.now ≡ codes "pair" ∷ spelling (pos c.args.p) ∷ spelling (pos c.args.q) ∷ spelling y ∷ [] =
    cc (c.of-fields.ensures, c.in_ok-name.ensures.ok, c.in_ok-known.ensures.ok, c.in_ok-known-2.ensures.ok, number, c.in_ok-end.ensures.ok) in
    (line_from_fields c.args.line.now _ all, record { low = h.1; high = h.2 }))
    c.within.ensures.ok
