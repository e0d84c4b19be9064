-- The rows of a basis in the order of their lists over their products with the entering column.
use Rattle.std.specs.Prelude.{◌≡◌, ◌≢◌, ◌⊎◌, ℕ, zero, suc, ◌<◌, ◌≤◌, ℤ, pos, ◌*ℤ◌, ◌≤ℤ◌, ◌<ℤ◌}
use Rattle.std.proofs.Common.{arith, refl, sym, ap, subst, ◌∙◌, inl, inr}
use Rattle.std.proofs.lemmas.Int.{ints}
use Rattle.std.proofs.lemmas.Bool.{cases_lt, cases_eq}
use Rattle.sc_basis.specs.Products.{dot}
use Rattle.sc_basis.specs.Bases.{Column, Basis, columns}
use Rattle.sc_basis.specs.Standing.{BasisNumbers, Stands}
use Rattle.sc_basis.specs.Lines.{line}
use Rattle.sc_basis.specs.Pivots.{along, IsLeaving}
use Rattle.sc_basis.specs.LeastRows.{Precedes, IsLeastRow}
use Rattle.sc_basis.proofs.Numbers.{mul_pos}
use Rattle.sc_basis.proofs.ProductLaws.{unit_same, unit_other, dot-congr, dot-mul}
use Rattle.sc_basis.proofs.LexOrder.{lex_map, lex_total, lex_trans, lex_irreflexive, below_trans, cases_positive}

-- the lists of two rows, each over a positive product, don't agree in all entries
pub lists_differ : (r : ℕ) (b : ℕ → ℤ) (basis : Basis) (t : BasisNumbers) (c : Column) (i l : ℕ) → Stands r basis t → i < r → l < r → i ≢ l
    → pos 0 <ℤ along r t c i → pos 0 <ℤ along r t c l
    → ((k : ℕ) → k < suc r → along r t c i *ℤ line r b (t.row l) k ≡ along r t c l *ℤ line r b (t.row i) k) → ⊥
lists_differ r b basis t c i l stands inside within apart positive above same =
    let x : ℤ = along r t c i in
    let y : ℤ = along r t c l in
    let col : ℕ → ℤ = columns basis i in
    let scaled : x *ℤ dot r (t.row l) col ≡ y *ℤ dot r (t.row i) col =
    sym (dot-mul r x (t.row l) col) ∙ dot-congr r (λ k. x *ℤ t.row l k) (λ k. y *ℤ t.row i k) col col (λ k m. same (suc k) (omega arith)) (λ k m. refl) ∙ dot-mul r y (t.row i) col in
    let left : dot r (t.row l) col ≡ pos 0 =
    (stands.rows l within).product i inside ∙ ap (λ (u : ℤ). t.denominator l *ℤ u) (unit_other l i apart) ∙ zero_product (t.denominator l) in
    let right : dot r (t.row i) col ≡ t.denominator i =
    (stands.rows i inside).product i inside ∙ ap (λ (u : ℤ). t.denominator i *ℤ u) (unit_same i) ∙ one_product (t.denominator i) in
    clash x y (t.denominator i) (mul_pos y (t.denominator i) above (stands.rows i inside).positive)
    (sym (zero_product x) ∙ ap (λ (u : ℤ). x *ℤ u) (sym left) ∙ scaled ∙ ap (λ (u : ℤ). y *ℤ u) right)
  where
    zero_product : (d : ℤ) → d *ℤ pos 0 ≡ pos 0
    zero_product d = omega (arith, ints)

    one_product : (d : ℤ) → d *ℤ pos 1 ≡ d
    one_product d = omega (arith, ints)

    clash : (x y d : ℤ) → pos 0 <ℤ (y *ℤ d) → pos 0 ≡ y *ℤ d → ⊥
    clash x y d p e = omega (arith, ints)

-- ---- the least of the rows below a number
module _ (r : ℕ) (b : ℕ → ℤ) (a : ℕ → ℤ) (row : ℕ → ℕ → ℤ) where
  -- of three rows with positive products: what comes before one that comes before a third comes before the third
  pub precedes_trans : (i j k : ℕ) → pos 0 <ℤ a i → pos 0 <ℤ a j → pos 0 <ℤ a k → Precedes r b a row i j → Precedes r b a row j k → Precedes r b a row i k
  precedes_trans i j k p q s first second = below_trans (suc r) (a i) (a j) (a k) (line r b (row i)) (line r b (row j)) (line r b (row k)) p q s first second

  -- the first row with a positive product
  pub least_first : (n : ℕ) → ((i : ℕ) → i < n → a i ≤ℤ pos 0) → pos 0 <ℤ a n → IsLeastRow r b a row (suc n) n
  least_first n none positive =
      record { inside = omega arith; positive = positive; least = λ i inner apart p. absurd (clash i inner apart p) }
    where
      clash : (i : ℕ) → i < suc n → i ≢ n → pos 0 <ℤ a i → ⊥
      clash i inner apart p = let h : a i ≤ℤ pos 0 = none i (omega arith) in omega (arith, ints)

  -- one more row, which has no positive product either
  pub none_more : (n : ℕ) → ((i : ℕ) → i < n → a i ≤ℤ pos 0) → a n ≤ℤ pos 0 → (i : ℕ) → i < suc n → a i ≤ℤ pos 0
  none_more n none last i inner =
      elim (cases_lt i n) [
        | inl below ↦ none i below
        | inr past ↦ (let at : n ≡ i = omega arith in subst (λ j. a j ≤ℤ pos 0) at last)
      ]

  -- one more row, which doesn't come before
  pub least_kept : (n l : ℕ) → IsLeastRow r b a row n l → (pos 0 <ℤ a n → Precedes r b a row l n) → IsLeastRow r b a row (suc n) l
  least_kept n l best last =
      record {
        inside = omega (arith, best.inside);
        positive = best.positive;
        least = λ i inner apart p. elim (cases_lt i n) [
          | inl below ↦ best.least i below apart p
          | inr past ↦ (let at : n ≡ i = omega arith in subst (λ j. pos 0 <ℤ a j → Precedes r b a row l j) at last p)
        ];
      }

  -- one more row, which does
  pub least_taken : (n l : ℕ) → IsLeastRow r b a row n l → pos 0 <ℤ a n → Precedes r b a row n l → IsLeastRow r b a row (suc n) n
  least_taken n l best positive above =
      record { inside = omega arith; positive = positive; least = λ i inner apart p. before i p (omega arith) }
    where
      before : (i : ℕ) → pos 0 <ℤ a i → i < n → Precedes r b a row n i
      before i p below =
          elim (cases_eq i l) [
            | inl e ↦ subst (λ j. Precedes r b a row n j) (sym e) above
            | inr apart ↦ precedes_trans n l i positive best.positive p above (best.least i below apart p)
          ]

-- ---- the row that leaves
module _ (r : ℕ) (b : ℕ → ℤ) (t : BasisNumbers) (c : Column) where
  least_more : (basis : Basis) (n l : ℕ) → Stands r basis t → n < r → IsLeastRow r b (along r t c) t.row n l → (m : ℕ) × IsLeastRow r b (along r t c) t.row (suc n) m
  least_more basis n l stands inside best =
      elim (cases_positive (along r t c n)) [
        | inr none ↦ (l, least_kept r b (along r t c) t.row n l best (λ p. absurd (omega (arith, ints))))
        | inl positive ↦ elim (lex_total (suc r) (λ k. along r t c n *ℤ line r b (t.row l) k) (λ k. along r t c l *ℤ line r b (t.row n) k)) [
          | inl below ↦ (l, least_kept r b (along r t c) t.row n l best (λ p. below))
          | inr (inl same) ↦ absurd (lists_differ r b basis t c n l stands inside (omega (arith, best.inside)) (omega (arith, best.inside)) positive best.positive same)
          | inr (inr above) ↦ (n, least_taken r b (along r t c) t.row n l best positive above)
        ]
      ]

  -- the least of the rows below n, or none has a positive product
  find_least : (basis : Basis) (n : ℕ) → Stands r basis t → n ≤ r → ((l : ℕ) × IsLeastRow r b (along r t c) t.row n l) ⊎ ((i : ℕ) → i < n → along r t c i ≤ℤ pos 0)
  find_least basis zero stands small = inr (λ i l. absurd (omega arith))
  find_least basis (suc n) stands small =
      elim (find_least basis n stands (omega arith)) [
        | inl (l, best) ↦ inl (least_more basis n l stands (omega arith) best)
        | inr none ↦ elim (cases_positive (along r t c n)) [
          | inl positive ↦ inl (n, least_first r b (along r t c) t.row n none positive)
          | inr last ↦ inr (none_more r b (along r t c) t.row n none last)
        ]
      ]

  -- the products by another name
  pub leaves_from_least : (a : ℕ → ℤ) (l : ℕ) → ((i : ℕ) → i < r → a i ≡ along r t c i) → IsLeastRow r b a t.row r l → IsLeaving r b t c l
  leaves_from_least a l same best =
      record {
        inside = best.inside;
        positive = subst (λ (z : ℤ). pos 0 <ℤ z) (same l best.inside) best.positive;
        least = λ i inner apart p.
            lex_map (suc r) (λ k. a i *ℤ line r b (t.row l) k) (λ k. a l *ℤ line r b (t.row i) k) _ _
            (λ k m. ap (λ (z : ℤ). z *ℤ line r b (t.row l) k) (same i inner)) (λ k m. ap (λ (z : ℤ). z *ℤ line r b (t.row i) k) (same l best.inside))
            (best.least i inner apart (subst (λ (z : ℤ). pos 0 <ℤ z) (sym (same i inner)) p));
      }

  -- a row with a positive product: then some row leaves
  pub leaving_row : (basis : Basis) (i : ℕ) → Stands r basis t → i < r → pos 0 <ℤ along r t c i → (l : ℕ) × IsLeaving r b t c l
  leaving_row basis i stands inside positive =
      elim (find_least basis r stands (omega arith)) [
        | inl (l, best) ↦ (l, leaves_from_least (along r t c) l (λ j m. refl) best)
        | inr none ↦ (let h : along r t c i ≤ℤ pos 0 = none i inside in absurd (omega (arith, ints)))
      ]

  -- and only one does
  pub leaving_row_is_one : (l m : ℕ) → IsLeaving r b t c l → IsLeaving r b t c m → l ≡ m
  leaving_row_is_one l m first second =
      elim (cases_eq l m) [
        | inl e ↦ e
        | inr apart ↦ absurd (lex_irreflexive (suc r) _ (lex_trans (suc r) _ _ _ (first.least m second.inside (λ e. apart (sym e)) second.positive) (second.least l first.inside apart first.positive)))
      ]
