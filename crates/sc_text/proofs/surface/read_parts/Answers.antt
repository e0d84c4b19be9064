use Rattle.std.proofs.Common.{sym, subst}
use Rattle.std.proofs.lemmas.Result.{err_from_is_err_and}
use Rattle.sc_theory.specs.Chains.{Chain}
use Rattle.sc_line.specs.Faults.{IsFaultOf}
use Rattle.sc_line.specs.Formats.{Format, IsShort, plan_of}
use Rattle.sc_line.specs.Forms.{IsToldBy}
use Rattle.sc_text.specs.declared.limits.TheConstants.{VERSION_1}
use Rattle.sc_text.specs.Surfaces.{Said, surface_due, said}
use Rattle.sc_text.proofs.SurfaceLaws.{short_surface, told_in_range, surface_read}
use Rattle.sc_text.proofs.surface.read_parts.Goals as goal

pub read_by_lines-requires : goal.read_by_lines-requires
read_by_lines-requires c = record { short = subst (λ (f : Format Said). IsShort 4000000000 f) (sym c.surface_lines-parts.ensures) short_surface }

pub returns-in_err-words : goal.returns-in_err-words
returns-in_err-words c =
    let p = err_from_is_err_and c.from_residual.result c.from_residual.ensures.1 in
    let bad = subst (λ (f : Format Said). IsFaultOf (plan_of f) c.args.bytes.now c.in_err-words.field-0.0) c.surface_lines-parts.ensures c.in_err-words.ensures.err in
    rw (p.1, p.2) (record { text = tt; in_range = tt; malformed = bad })

pub chain_of_words-requires : goal.chain_of_words-requires
chain_of_words-requires c =
    let said_is = said c.in_ok-words.words.items c.in_ok-words.copies c.in_ok-words.sides.items in
    let range = told_in_range c.args.bytes.now said_is (subst (λ (f : Format Said). IsToldBy f c.args.bytes.now said_is) c.surface_lines-parts.ensures c.in_ok-words.ensures.ok) in
    range.chain

pub returns : goal.returns
returns c =
    let said_of = λ (chain : Chain). said chain c.in_ok-words.copies c.in_ok-words.sides.items in
    let told = subst (λ (f : Format Said). IsToldBy f c.args.bytes.now (said_of c.in_ok-words.words.items)) c.surface_lines-parts.ensures c.in_ok-words.ensures.ok in
    surface_read c.args.bytes.now _ (subst (λ (chain : Chain). IsToldBy (surface_due VERSION_1) c.args.bytes.now (said_of chain)) (sym c.in_ok-chain.ensures) told) tt
