-- One condition is the first that fails, and all that hold make the fatgraph least.
use Rattle.std.proofs.Common.{◌≡◌, ◌↔◌, List, Result, IfOk, Bool, ◌&&◌, IsTrue, ℕ, ◌*◌, ℤ, pos, ◌*ℤ◌, ◌<ℤ◌, ap, sym, subst, ◌∙◌, refl, arith}
use Rattle.std.proofs.lemmas.Int.{ints}
use Rattle.sc_algebra.proofs.Ints.{mul_comm, mul_assoc, mul_left_comm}
use Rattle.sc_theory.specs.Chains.{Chain, IsChain}
use Rattle.sc_theory.proofs.Leastness.{least}
use Rattle.sc_theory.proofs.Vouching.{covers}
use Rattle.std.proofs.lemmas.Result.{IfOk-weaker}
use Rattle.std.specs.Cmp.{Equal-is}
use Rattle.std.specs.Ordering.{int_eq, is_eq}
use Rattle.sc_fraction.specs.Ints.{mul_cancel_z, int_cmp_same, same_from_int_cmp}
use Rattle.sc_fraction.proofs.SameValues.{same_frac}
use Rattle.sc_fraction.specs.Laws.{frac_eq_is}
use Rattle.sc_fraction.specs.Frac.{numerator, denominator, IsQuotient, frac_cmp}
use Rattle.sc_fraction.specs.declared.frac.Frac.{Frac}
use Rattle.sc_text.specs.Surfaces.{IsChainInRange}
use Rattle.sc_chain.specs.declared.polygon.Pivot.{Pivot}
use Rattle.sc_fatgraph.specs.Surfaces.{Surface, surface}
use Rattle.sc_text.proofs.ReadChains.{accepted}
use Rattle.sc_theory.specs.Fatgraphs.{IsFatgraph, IsLeast, cost}
use Rattle.sc_fatgraph.specs.declared.flaws.FlawKind.{FlawKind}
use Rattle.sc_fatgraph.proofs.FlawLaws as sides
use Rattle.sc_certificate.specs.Certificates.{Certificate, IsCertificateInRange}
use Rattle.sc_certificate.specs.CertificateRead.{certificate_of}
use Rattle.sc_certificate.specs.declared.certificate.Certificate.{Certificate as CertificateParts}
use Rattle.sc_prices.specs.declared.verdict.Verdict.{Verdict}
use Rattle.sc_prices.specs.declared.verdict.Verdict.TheVariants.{Optimal, Rejected}
use Rattle.sc_prices.specs.declared.verdict.Condition.{Condition}
use Rattle.sc_prices.specs.declared.verdict.Condition.TheVariants.{Flaw, Value, Table, NotTight}
use Rattle.sc_prices.specs.Conditions.{stated, AllHold, IsFirstFailing, IsVerdictOn, IfOptimal}
use Rattle.sc_prices.proofs.TableFlaws.{first_flaw_alone, vouch_flawless}

no_flaw : (v : Certificate) (kind : FlawKind) (place : ℕ) → IsFatgraph v.chain v.copies v.sides → IsFirstFailing v (Flaw kind place) → ⊥
no_flaw v kind place g h = sides.fatgraph_has_none v.chain v.copies v.sides g kind place h.here

-- only one condition is the first that fails
pub one_failing : (v : Certificate) (x y : Condition) → IsFirstFailing v x → IsFirstFailing v y → x ≡ y
one_failing v (Flaw k p) (Flaw l q) a b =
    let same = sides.first_flaw_alone v.chain v.copies v.sides k l p q a b in
    ap (λ (z : FlawKind). Flaw z p) same.0 ∙ ap (Flaw l) same.1
one_failing v (Flaw k p) Value a b = absurd (no_flaw v k p b.fatgraph a)
one_failing v (Flaw k p) (Table g) a b = absurd (no_flaw v k p b.fatgraph a)
one_failing v (Flaw k p) NotTight a b = absurd (no_flaw v k p b.fatgraph a)
one_failing v Value (Flaw l q) a b = absurd (no_flaw v l q a.fatgraph b)
one_failing v Value Value a b = refl
one_failing v Value (Table g) a b = absurd (a.value b.value)
one_failing v Value NotTight a b = absurd (a.value b.value)
one_failing v (Table f) (Flaw l q) a b = absurd (no_flaw v l q a.fatgraph b)
one_failing v (Table f) Value a b = absurd (b.value a.value)
one_failing v (Table f) (Table g) a b = ap Table (first_flaw_alone v.chain v.list v.tables f g a.tables b.tables)
one_failing v (Table f) NotTight a b = absurd (vouch_flawless v.chain v.list v.tables b.tables f a.tables.here)
one_failing v NotTight (Flaw l q) a b = absurd (no_flaw v l q a.fatgraph b)
one_failing v NotTight Value a b = absurd (b.value a.value)
one_failing v NotTight (Table g) a b = absurd (vouch_flawless v.chain v.list v.tables a.tables g b.tables.here)
one_failing v NotTight NotTight a b = refl

-- where all conditions hold, none is the first that fails
pub none_failing : (v : Certificate) (x : Condition) → IsFirstFailing v x → AllHold v → ⊥
none_failing v (Flaw k p) a all = no_flaw v k p all.fatgraph a
none_failing v Value a all = a.value all.value
none_failing v (Table f) a all = vouch_flawless v.chain v.list v.tables all.tables f a.tables.here
none_failing v NotTight a all = a.tight all.tight

-- ---- values

-- a fraction is the number a/b exactly where it is the fraction that is that number
pub same_value : (x y : Frac) (a b : ℤ) → pos 0 <ℤ b → IsQuotient a b y → (x ≡ y) ↔ IsQuotient a b x
same_value x y a b above is = (
  λ e. subst (IsQuotient a b) (sym e) is,
  λ h. same_frac x y (mul_cancel_z b (numerator x *ℤ denominator y) (numerator y *ℤ denominator x) above
      (across (numerator x) (denominator x) (denominator y) h ∙ ap (λ (z : ℤ). a *ℤ z) (mul_comm (denominator x) (denominator y)) ∙ sym (across (numerator y) (denominator y) (denominator x) is))),
)
  where
    across : (p q r : ℤ) → p *ℤ b ≡ a *ℤ q → b *ℤ (p *ℤ r) ≡ a *ℤ (q *ℤ r)
    across p q r e = mul_left_comm b p r ∙ sym (mul_assoc p b r) ∙ ap (λ (z : ℤ). z *ℤ r) e ∙ mul_assoc a q r

-- so the test of equality, field by field, tells which number it is
pub value_test : (r : Bool) (x y : Frac) (a b : ℤ) → r ≡ (int_eq (numerator x) (numerator y) && int_eq (denominator x) (denominator y)) → pos 0 <ℤ b → IsQuotient a b y → IsTrue r ↔ IsQuotient a b x
value_test r x y a b test above is =
    let by_order : r ≡ is_eq (frac_cmp x y) = test ∙ frac_eq_is x y in
    let same = same_value x y a b above is in (
      λ h. same.0 (same_frac x y (same_from_int_cmp (numerator x *ℤ denominator y) (numerator y *ℤ denominator x) ((Equal-is (frac_cmp x y)).0 (sym by_order ∙ h)))),
      λ q.
          by_order
          ∙ ap is_eq
          (int_cmp_same (numerator x *ℤ denominator y) (numerator y *ℤ denominator x)
          (subst (λ (z : Frac). numerator x *ℤ denominator z ≡ numerator z *ℤ denominator x) (same.1 q) refl)),
    )

-- ---- what a verdict tells

pub chain_is : (c : Chain) → IsChainInRange c → IsChain c
chain_is c h =
    let good = accepted c h in record { words = λ w inside. (good.good w inside).nonempty; reduced = λ w inside. (good.good w inside).reduced }

-- a fatgraph of which all conditions hold, with a scale above 0, is least
pub all_make_least : (v : Certificate) → IsChain v.chain → pos 0 <ℤ v.list.scale → AllHold v → IsLeast v.chain v.copies v.sides
all_make_least v chain above all = least v.chain v.list v.copies v.sides chain above (covers v.chain v.list v.tables above all.tables) all.fatgraph all.tight

-- what the clauses of a judgement say of its verdict
pub record Tells (s : CertificateParts) (x : Verdict) : Type 0 where
  pub optimal : AllHold (certificate_of s) → x ≡ Optimal s.value
  pub rejected : (k : Condition) → IsFirstFailing (certificate_of s) k → x ≡ Rejected k
  pub least : IfOptimal x (λ value. IsLeast s.chain s.n s.sides.items)
  pub value : IfOptimal x (IsQuotient (cost s.sides.items) (pos (2 * s.n)))

same_stated : (s : CertificateParts) (y : Frac) → (certificate_of s).value ≡ (numerator y, denominator y) → y ≡ s.value
same_stated s y e =
    same_frac y s.value
    (ap (λ (z : ℤ × ℤ). numerator y *ℤ z.1) e ∙ ap (λ (z : ℤ × ℤ). z.0 *ℤ denominator y) (sym e))

-- the verdict on a certificate in range tells what these clauses say
pub verdict_tells : (s : CertificateParts) (x : Verdict) → IsCertificateInRange (certificate_of s) → IsVerdictOn (certificate_of s) x → Tells s x
verdict_tells s (Optimal y) range (value, all) = record {
  optimal = λ _. ap Optimal (same_stated s y value);
  rejected = λ k f. absurd (none_failing (certificate_of s) k f all);
  least = all_make_least (certificate_of s) (chain_is s.chain range.chain) (omega (arith, ints, range.list.scale.low)) all;
  value = subst (IsQuotient (cost s.sides.items) (pos (2 * s.n))) (sym (same_stated s y value)) all.value;
}
verdict_tells s (Rejected k) range fails = record {
  optimal = λ all. absurd (none_failing (certificate_of s) k fails all);
  rejected = λ l f. ap Rejected (one_failing (certificate_of s) k l fails f);
  least = tt;
  value = tt;
}

-- the verdict on a certificate is that on its surface
pub verdict_of_surface : {E : Type 0} (s : CertificateParts) (f : Surface) (r : Result Verdict E) → f ≡ surface s.chain s.n s.sides.items
    → IfOk r (λ x. (journal : List Pivot) → IsVerdictOn (stated f s.value s.list s.tables journal) x) → IfOk r (IsVerdictOn (certificate_of s))
verdict_of_surface s f r is h =
    IfOk-weaker r (λ x. (journal : List Pivot) → IsVerdictOn (stated f s.value s.list s.tables journal) x) (IsVerdictOn (certificate_of s))
    (λ x all. subst (λ (g : Surface). IsVerdictOn (stated g s.value s.list s.tables s.journal.items) x) is (all s.journal.items)) h
