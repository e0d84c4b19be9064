-- Marks on the nexts of the sides below one.
use Rattle.std.proofs.Common.{◌≡◌, ◌≢◌, ℕ, ◌+◌, ◌<◌, Bool, true, false, inl, inr, List, length, get_or, sym, ◌∙◌, ap, subst, refl, arith, get_or-set_other, get_or-set_same}
use Rattle.std.proofs.Math.ListN.{set, length-set}
use Rattle.std.proofs.lemmas.Bool.{cases_eq, cases_lt, false≢true}
use Rattle.sc_theory.specs.Fatgraphs.{Sides, next}
use Rattle.sc_fatgraph.specs.Flaws.{HasNextFlaw}

-- no side below has the next of a lesser one, and the marked sides are the nexts of the sides below
pub record NextsBelow (g : Sides) (marks : List Bool) (s : ℕ) : Type 0 where
  pub as_many : length marks ≡ length g
  pub flawless : (q : ℕ) → q < s → ¬ HasNextFlaw g q
  pub marked : (q : ℕ) → q < s → get_or marks (next g q) false ≡ true
  pub made : (t : ℕ) → get_or marks t false ≡ true → (q : ℕ) × (q < s) × (next g q ≡ t)

-- a side whose next has no mark has no flaw, and its next gets one
pub nexts_grow : (g : Sides) (marks : List Bool) (s : ℕ) → next g s < length g → NextsBelow g marks s → get_or marks (next g s) false ≡ false → NextsBelow g (set marks (next g s) true) (s + 1)
nexts_grow g marks s h b u =
    let l : next g s < length marks = omega (arith, h, b.as_many) in
    record {
      as_many = length-set marks (next g s) true ∙ b.as_many;
      flawless = λ q hq f.
          elim (cases_lt q s) [
            | inl below ↦ b.flawless q below f
            | inr here ↦
                let e : q ≡ s = omega (arith, hq, here) in
                let m = b.marked f.1.0 (omega (arith, f.1.1, e)) in
                false≢true (sym u ∙ subst (λ (k : ℕ). get_or marks k false ≡ true) (f.1.2 ∙ ap (next g) e) m)
          ];
      marked = λ q hq.
          elim (cases_eq (next g q) (next g s)) [
            | inl e ↦ rw e (rw get_or-set_same refl)
            | inr n ↦
                let ne : next g q ≢ next g s = n in
                rw get_or-set_other
                (elim (cases_lt q s) [ inl below ↦ b.marked q below | inr here ↦ let e : q ≡ s = omega (arith, hq, here) in absurd (n (ap (next g) e)) ])
          ];
      made = λ t m.
          elim (cases_eq t (next g s)) [
            | inl e ↦ (s, omega arith, sym e)
            | inr n ↦
                let ne : t ≢ next g s = n in
                let o = b.made t (rw get_or-set_other at m) in
                (o.0, omega (arith, o.1), o.2)
          ];
    }
