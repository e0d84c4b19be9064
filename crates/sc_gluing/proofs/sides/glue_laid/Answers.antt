use Rattle.std.proofs.Common.{◌≡◌, ◌<◌, ℕ, List, length, sym, subst, subst₂}
use Rattle.std.proofs.lemmas.Result.{IfOk-weaker}
use Rattle.sc_theory.specs.Chains.{Chain, positions}
use Rattle.sc_gluing.specs.Laying.{AreLaid}
use Rattle.sc_gluing.specs.Sides.{AreGlueable}
use Rattle.sc_gluing.specs.inside.Sides.{AreMates}
use Rattle.sc_gluing.proofs.SideLists.{afters_within}
use Rattle.sc_gluing.proofs.KindLaws.{inside, afters_apart, sides_glued}
use Rattle.sc_gluing.proofs.sides.glue_laid.Goals as goal

-- the same lists
moved : (c : Chain) (labels afters xs ys : List ℕ) → xs ≡ labels → ys ≡ afters → AreGlueable c labels afters → AreGlueable c xs ys
moved c labels afters xs ys e f is = record { copies = is.copies; cycles = is.cycles; are = is.are; laid = subst₂ (AreLaid is.cycles) (sym e) (sym f) is.laid }

pub mates_of-requires-clause-afters : goal.mates_of-requires-clause-afters
mates_of-requires-clause-afters c =
    let labels : List ℕ = c.as_slice-labels.result.now in
    let afters : List ℕ = c.as_slice-afters.result.now in
    afters_within (positions c.args.chain.now) labels afters
    (inside c.args.chain.now labels afters (moved c.args.chain.now _ _ labels afters c.as_slice-labels.ensures.value c.as_slice-afters.ensures.value c.requires.glueable))

pub mates_of-requires-clause-apart : goal.mates_of-requires-clause-apart
mates_of-requires-clause-apart c s t h k =
    let labels : List ℕ = c.as_slice-labels.result.now in
    let afters : List ℕ = c.as_slice-afters.result.now in
    let is : AreGlueable c.args.chain.now labels afters = moved c.args.chain.now _ _ labels afters c.as_slice-labels.ensures.value c.as_slice-afters.ensures.value c.requires.glueable in
    let len : length afters ≡ length labels = (inside c.args.chain.now labels afters is).as_many in
    afters_apart c.args.chain.now labels afters is s t (subst (λ (n : ℕ). s < n) len h) (subst (λ (n : ℕ). t < n) len k)

pub sides_of-requires-clause-afters : goal.sides_of-requires-clause-afters
sides_of-requires-clause-afters c =
    let labels : List ℕ = c.as_slice-labels.result.now in
    let afters : List ℕ = c.as_slice-afters.result.now in
    (inside c.args.chain.now labels afters (moved c.args.chain.now _ _ labels afters c.as_slice-labels.ensures.value c.as_slice-afters.ensures.value c.requires.glueable)).after_inside

pub returns : goal.returns
unfolding moved
returns c is =
    let labels : List ℕ = c.as_slice-labels.result.now in
    let afters : List ℕ = c.as_slice-afters.result.now in
    let here : AreGlueable c.args.chain.now labels afters = moved c.args.chain.now _ _ labels afters c.as_slice-labels.ensures.value c.as_slice-afters.ensures.value is in
    let len : length afters ≡ length labels = (inside c.args.chain.now labels afters here).as_many in
    let mates : List ℕ = c.as_slice-2.result.now in
    let partners : List ℕ = c.in_ok-partners.partners.items in
    IfOk-weaker c.sides_of.result _ _
    (λ sides h. sides_glued c.args.chain.now labels afters here partners mates sides.items c.in_ok-partners.ensures
    (subst₂ (λ (n : ℕ) (xs : List ℕ). AreMates afters partners n xs) len (sym c.as_slice-2.ensures.value)
    (subst (λ (ps : List ℕ). AreMates afters ps (length afters) c.in_ok-mates.mates.items) c.as_slice.ensures.value c.in_ok-mates.ensures)) h)
    c.sides_of.ensures
