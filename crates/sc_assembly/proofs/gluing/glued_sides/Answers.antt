use Rattle.std.proofs.Common.{◌≡◌, ◌<◌, ◌^◌, ℕ, List, length, arith, sym, ap, subst₂}
use Rattle.sc_theory.specs.Chains.{Chain}
use Rattle.sc_gluing.specs.Cycles.{copies_of, labels_of}
use Rattle.sc_gluing.specs.Gluing.{AreBalanced}
use Rattle.sc_gluing.specs.Laying.{AreLaid}
use Rattle.sc_gluing.specs.Sides.{AreGlueable}
use Rattle.sc_gluing.proofs.StepCounts.{cycles_of_parts}
use Rattle.sc_assembly.specs.declared.parts.Part.{Part}
use Rattle.sc_assembly.specs.Multiples.{counted}
use Rattle.sc_assembly.proofs.CountedParts.{few_sides}
use Rattle.sc_assembly.proofs.gluing.glued_sides.Goals as goal

-- the lists that were laid, as those of the parts
glueable : (c : Chain) (n : ℕ) (parts xs : List Part) (counts ys labels afters : List ℕ) → xs ≡ parts → ys ≡ counts → AreBalanced c n (counted parts counts) → AreLaid (copies_of (counted xs ys)) labels afters → AreGlueable c labels afters
glueable c n parts xs counts ys labels afters e f is laid = record {
  copies = n;
  cycles = copies_of (counted parts counts);
  are = cycles_of_parts c n (counted parts counts) is;
  laid = subst₂ (λ (us : List Part) (vs : List ℕ). AreLaid (copies_of (counted us vs)) labels afters) e f laid;
}

pub lay_parts-requires-clause-few : goal.lay_parts-requires-clause-few
lay_parts-requires-clause-few c =
    let m = c.args.multiples.now in
    let ok : length (labels_of (copies_of (counted m.parts.items m.counts.items))) < 2 ^ 32 = omega (arith, few_sides c.args.chain.now m.n _ (counted m.parts.items m.counts.items) c.requires.balanced c.requires.few_sides) in
    subst₂ (λ (us : List Part) (vs : List ℕ). length (labels_of (copies_of (counted us vs))) < 2 ^ 32) (sym c.as_slice.ensures.value) (sym c.as_slice-2.ensures.value) ok

pub glue_laid-requires-clause-few : goal.glue_laid-requires-clause-few
unfolding glueable
glue_laid-requires-clause-few c =
    let m = c.args.multiples.now in
    let laid = c.in_ok-laid.laid in
    let is : AreGlueable c.args.chain.now laid.labels.items laid.afters.items = glueable c.args.chain.now m.n m.parts.items _ m.counts.items _ laid.labels.items laid.afters.items c.as_slice.ensures.value c.as_slice-2.ensures.value c.requires.balanced c.in_ok-laid.ensures in
    let len : length laid.labels.items ≡ length (labels_of (copies_of (counted m.parts.items m.counts.items))) = ap (λ (xs : List ℕ). length xs) is.laid.labels_are in
    omega (arith, len, few_sides c.args.chain.now m.n _ (counted m.parts.items m.counts.items) c.requires.balanced c.requires.few_sides)

pub glue_laid-requires-clause-glueable : goal.glue_laid-requires-clause-glueable
glue_laid-requires-clause-glueable c =
    let m = c.args.multiples.now in
    glueable c.args.chain.now m.n m.parts.items _ m.counts.items _ c.in_ok-laid.laid.labels.items c.in_ok-laid.laid.afters.items c.as_slice.ensures.value c.as_slice-2.ensures.value c.requires.balanced c.in_ok-laid.ensures

pub returns : goal.returns
unfolding glueable
returns c =
    let m = c.args.multiples.now in
    c.glue_laid.ensures (glueable c.args.chain.now m.n m.parts.items _ m.counts.items _ c.in_ok-laid.laid.labels.items c.in_ok-laid.laid.afters.items c.as_slice.ensures.value c.as_slice-2.ensures.value c.requires.balanced c.in_ok-laid.ensures)
