-- The kinds of flaws in their order: the first flaw, and no flaw at all.
use Rattle.std.proofs.Common.{◌≡◌, ℕ, zero, suc, Bool, true, false, ◌<◌, ◌⊎◌, inl, inr, Some, length, sym, ◌∙◌, ap, subst, refl, arith}
use Rattle.std.proofs.lemmas.Bool.{cases_eq, cases_lt, cases_order, true≢false, false≢true}
use Rattle.sc_theory.specs.Words.{inverse_letter}
use Rattle.sc_theory.specs.Chains.{Chain, positions, letter, succ, first}
use Rattle.sc_theory.specs.Fatgraphs.{Sides, IsFatgraph, label, mate, next, sides_at, quota}
use Rattle.sc_theory.specs.declared.Letter.{Letter as AnyLetter}
use Rattle.sc_fatgraph.specs.declared.flaws.FlawKind.{FlawKind}
use Rattle.sc_fatgraph.specs.declared.flaws.FlawKind.TheVariants.{Range, Mate, Letter, Next, Label, Count}
use Rattle.sc_fatgraph.specs.Flaws.{HasFlaw, HasRangeFlaw, HasMateFlaw, HasLetterFlaw, HasNextFlaw, rank, IsFirstFlaw}
use Rattle.sc_fatgraph.specs.inside.Flaws.{IsLeastPlace, AreInRange}

-- the kind of a rank
kind_of : ℕ → FlawKind
kind_of zero = Range
kind_of (suc zero) = Mate
kind_of (suc (suc zero)) = Letter
kind_of (suc (suc (suc zero))) = Next
kind_of (suc (suc (suc (suc zero)))) = Label
kind_of (suc (suc (suc (suc (suc k))))) = Count

kind_of-rank : (k : FlawKind) → kind_of (rank k) ≡ k
unfolding kind_of
kind_of-rank Range = refl
kind_of-rank Mate = refl
kind_of-rank Letter = refl
kind_of-rank Next = refl
kind_of-rank Label = refl
kind_of-rank Count = refl

rank_apart : (k l : FlawKind) → rank k ≡ rank l → k ≡ l
rank_apart k l e = sym (kind_of-rank k) ∙ ap kind_of e ∙ kind_of-rank l

-- no kind below a rank has a flaw
pub record IsFlawlessBelow (c : Chain) (n : ℕ) (g : Sides) (r : ℕ) : Type 0 where
  pub none : (k : FlawKind) (p : ℕ) → rank k < r → ¬ HasFlaw c n g k p

-- no kind comes before the first
pub flawless_none : (c : Chain) (n : ℕ) (g : Sides) → IsFlawlessBelow c n g 0
flawless_none c n g = record { none = λ k p h. absurd (omega (arith, h)) }

-- where there is no flaw of a kind either, there is none below the next rank
pub flawless_more : (c : Chain) (n : ℕ) (g : Sides) (kind : FlawKind) → IsFlawlessBelow c n g (rank kind) → ((p : ℕ) → ¬ HasFlaw c n g kind p) → IsFlawlessBelow c n g (suc (rank kind))
flawless_more c n g kind b h = record {
  none = λ k p l f.
      elim (cases_lt (rank k) (rank kind)) [
        | inl below ↦ b.none k p below f
        | inr here ↦ h p (subst (λ (j : FlawKind). HasFlaw c n g j p) (rank_apart k kind (omega (arith, l, here))) f)
      ];
}

-- the least place with a flaw of a kind before which no kind has one is that of the first flaw
pub first_flaw_is : (c : Chain) (n : ℕ) (g : Sides) (kind : FlawKind) (p : ℕ) → IsFlawlessBelow c n g (rank kind) → IsLeastPlace (HasFlaw c n g kind) (Some p) → IsFirstFlaw c n g kind p
first_flaw_is c n g kind p b h = record { here = h.0; kinds = b.none; places = h.1 }

cases_bools : (a b : Bool) → (a ≡ b) ⊎ (a ≡ b → ⊥)
cases_bools true true = inl refl
cases_bools true false = inr true≢false
cases_bools false true = inr false≢true
cases_bools false false = inl refl

-- two letters are the same, or they aren't
cases_letter : (x y : AnyLetter) → (x ≡ y) ⊎ (x ≡ y → ⊥)
cases_letter x y =
    elim (cases_eq x.number y.number) [
      | inl e ↦
          elim (cases_bools x.inverse y.inverse) [
            | inl f ↦ inl (let make : ℕ → Bool → AnyLetter = λ k b. record { number = k; inverse = b } in ap (λ (k : ℕ). make k x.inverse) e ∙ ap (make y.number) f)
            | inr f ↦ inr (λ s. f (ap (λ (z : AnyLetter). z.inverse) s))
          ]
      | inr e ↦ inr (λ s. e (ap (λ (z : AnyLetter). z.number) s))
    ]

-- where no side has a flaw of range, labels are positions, and mates and nexts are sides
pub ranges_hold : (c : Chain) (g : Sides) → ((p : ℕ) → ¬ HasRangeFlaw c g p) → AreInRange c g
ranges_hold c g h = record {
  labels = λ s l. elim (cases_lt (label g s) (positions c)) [ inl y ↦ y | inr f ↦ absurd (h s (l, inl f)) ];
  mates = λ s l. elim (cases_lt (mate g s) (length g)) [ inl y ↦ y | inr f ↦ absurd (h s (l, inr (inl f))) ];
  nexts = λ s l. elim (cases_lt (next g s) (length g)) [ inl y ↦ y | inr f ↦ absurd (h s (l, inr (inr f))) ];
}

-- sides without a flaw are a fatgraph
pub fatgraph_is : (c : Chain) (n : ℕ) (g : Sides) → 0 < n → ((k : FlawKind) (p : ℕ) → ¬ HasFlaw c n g k p) → IsFatgraph c n g
fatgraph_is c n g some h =
    let ranges = ranges_hold c g (h Range) in
    record {
      copies = some;
      labels = ranges.labels;
      mates = ranges.mates;
      nexts = ranges.nexts;
      back = λ s l. elim (cases_eq (mate g (mate g s)) s) [ inl y ↦ y | inr f ↦ absurd (h Mate s (l, inr f)) ];
      moves = λ s l e. h Mate s (l, inl e);
      inverse = λ s l.
          elim (cases_letter (letter c (label g (mate g s))) (inverse_letter (letter c (label g s)))) [ inl y ↦ y | inr f ↦ absurd (h Letter s (l, f)) ];
      apart = λ s t ls lt e.
          elim (cases_order s t) [
            | inl y ↦ y
            | inr f ↦ elim f [ inl below ↦ absurd (h Next t (lt, (s, below, e))) | inr above ↦ absurd (h Next s (ls, (t, above, sym e))) ]
          ];
      follows = λ s l. elim (cases_eq (label g (next g s)) (succ c (label g s))) [ inl y ↦ y | inr f ↦ absurd (h Label s (l, f)) ];
      counts = λ w l. elim (cases_eq (sides_at g (first c w)) (quota c n w)) [ inl y ↦ y | inr f ↦ absurd (h Count w (l, f)) ];
    }

-- a fatgraph has no flaw
pub fatgraph_has_none : (c : Chain) (n : ℕ) (g : Sides) → IsFatgraph c n g → (k : FlawKind) (p : ℕ) → ¬ HasFlaw c n g k p
fatgraph_has_none c n g f Range p = λ h. elim h.1 [ inl a ↦ omega (arith, f.labels p h.0) | inr b ↦ elim b [ inl a ↦ omega (arith, f.mates p h.0) | inr a ↦ omega (arith, f.nexts p h.0) ] ]
fatgraph_has_none c n g f Mate p = λ h. elim h.1 [ inl a ↦ f.moves p h.0 a | inr b ↦ b (f.back p h.0) ]
fatgraph_has_none c n g f Letter p = λ h. h.1 (f.inverse p h.0)
fatgraph_has_none c n g f Next p = λ h. let e = f.apart h.1.0 p (omega (arith, h.0, h.1.1)) h.0 h.1.2 in omega (arith, e, h.1.1)
fatgraph_has_none c n g f Label p = λ h. h.1 (f.follows p h.0)
fatgraph_has_none c n g f Count p = λ h. h.1 (f.counts p h.0)

-- one flaw is the first
pub first_flaw_alone : (c : Chain) (n : ℕ) (g : Sides) (k l : FlawKind) (p q : ℕ) → IsFirstFlaw c n g k p → IsFirstFlaw c n g l q → (k ≡ l) × (p ≡ q)
first_flaw_alone c n g k l p q a b =
    let same : k ≡ l =
    elim (cases_order (rank k) (rank l)) [
      | inl e ↦ rank_apart k l e
      | inr f ↦ elim f [ inl x ↦ absurd (b.kinds k p x a.here) | inr x ↦ absurd (a.kinds l q x b.here) ]
    ] in (
      same,
      elim (cases_order p q) [
        | inl e ↦ e
        | inr f ↦
            elim f [
              | inl x ↦ absurd (b.places p x (subst (λ (j : FlawKind). HasFlaw c n g j p) same a.here))
              | inr x ↦ absurd (a.places q x (subst (λ (j : FlawKind). HasFlaw c n g j q) (sym same) b.here))
            ]
      ],
    )

-- what the searches kind by kind have found, and what follows
pub flawless_all : (c : Chain) (n : ℕ) (g : Sides) → IsFlawlessBelow c n g 6 → (k : FlawKind) (p : ℕ) → ¬ HasFlaw c n g k p
flawless_all c n g b Range p = b.none Range p (omega arith)
flawless_all c n g b Mate p = b.none Mate p (omega arith)
flawless_all c n g b Letter p = b.none Letter p (omega arith)
flawless_all c n g b Next p = b.none Next p (omega arith)
flawless_all c n g b Label p = b.none Label p (omega arith)
flawless_all c n g b Count p = b.none Count p (omega arith)

-- the searches kind by kind, in their order
pub none_before_letter : (c : Chain) (n : ℕ) (g : Sides) → ((p : ℕ) → ¬ HasRangeFlaw c g p) → ((p : ℕ) → ¬ HasMateFlaw g p) → IsFlawlessBelow c n g 2
none_before_letter c n g r m = flawless_more c n g Mate (flawless_more c n g Range (flawless_none c n g) r) m

pub none_before_label : (c : Chain) (n : ℕ) (g : Sides) → IsFlawlessBelow c n g 2 → ((p : ℕ) → ¬ HasLetterFlaw c g p) → ((p : ℕ) → ¬ HasNextFlaw g p) → IsFlawlessBelow c n g 4
none_before_label c n g b l x = flawless_more c n g Next (flawless_more c n g Letter b l) x
