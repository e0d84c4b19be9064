-- Tables vouch exactly where they have no flaw, and one flaw is the first.
use Rattle.std.proofs.Common.{◌≡◌, ◌≢◌, ℕ, zero, suc, ◌+◌, ◌<◌, ◌≤◌, ◌⊎◌, inl, inr, Option, Some, None, ℤ, pos, negsuc, ◌+ℤ◌, ◌<ℤ◌, ◌≤ℤ◌, arith, refl, sym, ap, subst, ◌∙◌}
use Rattle.std.proofs.lemmas.Bool.{cases_eq, cases_lt, cases_order}
use Rattle.std.proofs.lemmas.Int.{ints}
use borrow.Author.Differences.{up, down}
use Rattle.sc_theory.specs.Chains.{Chain, positions}
use Rattle.sc_theory.specs.Walks.{IsStep}
use Rattle.sc_theory.specs.Prices.{Prices, Tables, entry, price, Vouch}
use Rattle.sc_prices.specs.declared.flaws.TableFlaw.{TableFlaw}
use Rattle.sc_prices.specs.declared.flaws.TableFlaw.TheVariants.{Start, Step}
use Rattle.sc_prices.specs.Flaws.{HasStepFlaw, HasTableFlaw, IsAbove, Undercuts, IsBefore, IsFirstTableFlaw}
use Rattle.sc_prices.specs.inside.OneTable.{start_of}

is_zero_or : (e : Option ℤ) → (e ≡ Some (pos 0)) ⊎ (e ≢ Some (pos 0))
is_zero_or None = inr (λ h. cc)
is_zero_or (Some (pos zero)) = inl refl
is_zero_or (Some (pos (suc n))) = inr (λ h. cc)
is_zero_or (Some (negsuc n)) = inr (λ h. cc)

not_below : (a b : ℤ) → (a <ℤ b → ⊥) → b ≤ℤ a
not_below a b h = elim (cases_lt (up a + down b) (up b + down a)) [ inl less ↦ absurd (h (omega (arith, ints))) | inr more ↦ omega (arith, ints) ]

not_above : (z : ℤ) (e : Option ℤ) → (IsAbove z e → ⊥) → (b : ℤ) × (e ≡ Some b) × (b ≤ℤ z)
not_above z None h = absurd (h tt)
not_above z (Some b) h = (b, refl, not_below z b h)

-- tables vouch for a list exactly where they have no flaw
pub flawless_vouch : (c : Chain) (list : Prices) (tables : Tables) → ((flaw : TableFlaw) → ¬ HasTableFlaw c list tables flaw) → Vouch c list tables
flawless_vouch c list tables none = record {
  starts = λ s inside.
      elim (is_zero_or (entry tables s s)) [ inl e ↦ e | inr f ↦ absurd (none (Start s) (record { start = inside; not_zero = f })) ];
  goes = λ s i j a inside step reached other.
      not_above (a +ℤ price c list i j) (entry tables s j)
      (λ h. none (Step s i j) (record { start = inside; step = step; total = a; reached = reached; undercuts = inr (other, h) }));
  returns = λ s i a inside step reached.
      not_below (a +ℤ price c list i s) list.scale
      (λ h. none (Step s i s) (record { start = inside; step = step; total = a; reached = reached; undercuts = inl (refl, h) }));
}

vouch_undercut : (c : Chain) (list : Prices) (tables : Tables) (s i j : ℕ) → Vouch c list tables → ¬ HasStepFlaw c list tables s i j
vouch_undercut c list tables s i j v = λ f.
    elim f.undercuts [
      | inl (same, less) ↦
          let step = subst (λ (x : ℕ). IsStep c i x) same f.step in
          let enough = v.returns s i f.total f.start step f.reached in
          let short = subst (λ (x : ℕ). (f.total +ℤ price c list i x) <ℤ list.scale) same less in
          absurd (omega (arith, ints, enough, short))
      | inr (other, above) ↦
          let far = v.goes s i j f.total f.start f.step f.reached other in
          let over : (f.total +ℤ price c list i j) <ℤ far.0 = subst (IsAbove (f.total +ℤ price c list i j)) far.1 above in
          absurd (omega (arith, ints, over, far.2))
    ]

pub vouch_flawless : (c : Chain) (list : Prices) (tables : Tables) → Vouch c list tables → (flaw : TableFlaw) → ¬ HasTableFlaw c list tables flaw
vouch_flawless c list tables v (Start s) = λ f. f.not_zero (v.starts s f.start)
vouch_flawless c list tables v (Step s i j) = vouch_undercut c list tables s i j v

-- of two flaws one is before the other, or they are the same
pub one_before : (f g : TableFlaw) → (f ≡ g) ⊎ (IsBefore f g ⊎ IsBefore g f)
one_before (Start s) (Start t) = elim (cases_order s t) [ inl e ↦ inl (ap Start e) | inr h ↦ inr h ]
one_before (Start s) (Step t k l) = elim (cases_lt t s) [ inl h ↦ inr (inr h) | inr h ↦ inr (inl h) ]
one_before (Step s i j) (Start t) = elim (cases_lt s t) [ inl h ↦ inr (inl h) | inr h ↦ inr (inr h) ]
one_before (Step s i j) (Step t k l) =
    elim (cases_order s t) [
      | inr (inl h) ↦ inr (inl (inl h))
      | inr (inr h) ↦ inr (inr (inl h))
      | inl e ↦
          elim (cases_order i k) [
            | inr (inl h) ↦ inr (inl (inr (e, inl h)))
            | inr (inr h) ↦ inr (inr (inr (sym e, inl h)))
            | inl d ↦
                elim (cases_order j l) [
                  | inr (inl h) ↦ inr (inl (inr (e, inr (d, h))))
                  | inr (inr h) ↦ inr (inr (inr (sym e, inr (sym d, h))))
                  | inl b ↦ inl (ap (λ (x : ℕ). Step x i j) e ∙ ap (λ (x : ℕ). Step t x j) d ∙ ap (Step t k) b)
                ]
          ]
    ]

-- only one flaw is the first
pub first_flaw_alone : (c : Chain) (list : Prices) (tables : Tables) (f g : TableFlaw) → IsFirstTableFlaw c list tables f → IsFirstTableFlaw c list tables g → f ≡ g
first_flaw_alone c list tables f g a b =
    elim (one_before f g) [ inl e ↦ e | inr (inl h) ↦ absurd (b.before f h a.here) | inr (inr h) ↦ absurd (a.before g h b.here) ]

-- ---- table by table

-- the tables before that of s have no flaw
pub record AreFlawlessBefore (c : Chain) (list : Prices) (tables : Tables) (s : ℕ) : Type 0 where
  pub none : (flaw : TableFlaw) → start_of flaw < s → ¬ HasTableFlaw c list tables flaw

flaw_inside : (c : Chain) (list : Prices) (tables : Tables) (flaw : TableFlaw) → HasTableFlaw c list tables flaw → start_of flaw < positions c
flaw_inside c list tables (Start s) h = h.start
flaw_inside c list tables (Step s i j) h = h.start

-- with no flaw in any of them the tables vouch for the list
pub all_tables : (c : Chain) (list : Prices) (tables : Tables) (s : ℕ) → positions c ≤ s → AreFlawlessBefore c list tables s → Vouch c list tables
all_tables c list tables s past before =
    flawless_vouch c list tables (λ flaw h. before.none flaw (omega (arith, past, flaw_inside c list tables flaw h)) h)

-- ---- within a table

-- the steps of the table of s that begin before i have no flaw
pub record AreStepsFlawless (c : Chain) (list : Prices) (tables : Tables) (s i : ℕ) : Type 0 where
  pub none : (k l : ℕ) → k < i → ¬ HasStepFlaw c list tables s k l

-- where no step from i has a flaw either, those that begin before i + 1 have none
pub one_begin_more : (c : Chain) (list : Prices) (tables : Tables) (s i : ℕ) → AreStepsFlawless c list tables s i → ((l : ℕ) → ¬ HasStepFlaw c list tables s i l) → AreStepsFlawless c list tables s (i + 1)
one_begin_more c list tables s i steps here = record {
  none = λ k l less.
      elim (cases_eq k i) [
        | inl e ↦ λ f. here l (subst (λ (x : ℕ). HasStepFlaw c list tables s x l) e f)
        | inr f ↦ steps.none k l (omega (arith, less, f))
      ];
}

-- ---- a step of a table

-- with an entry at i, the step to j has a flaw exactly where it is a step that undercuts
pub step_flaw : (c : Chain) (list : Prices) (tables : Tables) (s i j : ℕ) (a p : ℤ) → s < positions c → IsStep c i j → Some a ≡ entry tables s i → p ≡ price c list i j
    → Undercuts list tables s j (a +ℤ p) → HasStepFlaw c list tables s i j
step_flaw c list tables s i j a p inside step reached is under = record {
  start = inside;
  step = step;
  total = a;
  reached = sym reached;
  undercuts = subst (λ (z : ℤ). Undercuts list tables s j (a +ℤ z)) is under;
}

pub no_step_flaw : (c : Chain) (list : Prices) (tables : Tables) (s i j : ℕ) (a p : ℤ) → Some a ≡ entry tables s i → p ≡ price c list i j
    → (Undercuts list tables s j (a +ℤ p) → ⊥) → ¬ HasStepFlaw c list tables s i j
no_step_flaw c list tables s i j a p reached is none = λ f.
    let same : f.total ≡ a = some_same f.total a (sym f.reached ∙ sym reached) in
    none (subst (λ (z : ℤ). Undercuts list tables s j (a +ℤ z)) (sym is) (subst (λ (z : ℤ). Undercuts list tables s j (z +ℤ price c list i j)) same f.undercuts))
  where
    some_same : (x y : ℤ) → Some x ≡ Some y → x ≡ y
    some_same x y e = cc
