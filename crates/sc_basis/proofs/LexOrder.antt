-- The lexicographic order of lists: strict and total, and kept by positive factors.
use Rattle.std.specs.Prelude.{◌≡◌, ◌⊎◌, ℕ, zero, suc, ◌+◌, ◌<◌, ℤ, pos, ◌*ℤ◌, ◌≤ℤ◌, ◌<ℤ◌}
use Rattle.std.proofs.Common.{arith, refl, sym, ap, ◌∙◌, inl, inr}
use Rattle.std.proofs.Math.Path.{subst₂}
use Rattle.std.proofs.lemmas.Int.{ints}
use Rattle.std.proofs.lemmas.Bool.{cases_lt, cases_order}
use borrow.Author.Differences.{up, down}
use Rattle.sc_algebra.proofs.Ints.{products}
use Rattle.sc_basis.specs.Lines.{LexLess}
use Rattle.sc_basis.proofs.Numbers.{mul_lt, lt_of_mul, cancel_pos}

-- two numbers in order
pub cases_order_z : (a b : ℤ) → (a <ℤ b) ⊎ ((a ≡ b) ⊎ (b <ℤ a))
cases_order_z a b =
    elim (cases_order (up a + down b) (up b + down a)) [
      | inl e ↦ inr (inl (omega (arith, ints)))
      | inr (inl l) ↦ inl (omega (arith, ints))
      | inr (inr g) ↦ inr (inr (omega (arith, ints)))
    ]

pub cases_positive : (a : ℤ) → (pos 0 <ℤ a) ⊎ (a ≤ℤ pos 0)
cases_positive a = elim (cases_lt (down a) (up a)) [ inl l ↦ inl (omega (arith, ints)) | inr g ↦ inr (omega (arith, ints)) ]

-- both lists changed entry by entry to equal ones
pub lex_map : (n : ℕ) (f g f' g' : ℕ → ℤ) → ((k : ℕ) → k < n → f k ≡ f' k) → ((k : ℕ) → k < n → g k ≡ g' k) → LexLess n f g → LexLess n f' g'
lex_map n f g f' g' e d (k, inside, same, less) =
    (k, inside, (λ j l. sym (e j (omega arith)) ∙ same j l ∙ d j (omega arith)), subst₂ (λ (x y : ℤ). x <ℤ y) (e k inside) (d k inside) less)

-- a positive factor of both lists changes nothing in their order
pub lex_scale : (n : ℕ) (z : ℤ) (f g : ℕ → ℤ) → pos 0 <ℤ z → LexLess n f g → LexLess n (λ k. z *ℤ f k) (λ k. z *ℤ g k)
lex_scale n z f g p (k, inside, same, less) = (k, inside, (λ j l. ap (λ (x : ℤ). z *ℤ x) (same j l)), mul_lt z (f k) (g k) p less)

pub lex_unscale : (n : ℕ) (z : ℤ) (f g : ℕ → ℤ) → pos 0 <ℤ z → LexLess n (λ k. z *ℤ f k) (λ k. z *ℤ g k) → LexLess n f g
lex_unscale n z f g p (k, inside, same, less) = (k, inside, (λ j l. cancel_pos z (f j) (g j) p (same j l)), lt_of_mul z (f k) (g k) p less)

pub lex_trans : (n : ℕ) (f g h : ℕ → ℤ) → LexLess n f g → LexLess n g h → LexLess n f h
lex_trans n f g h (k, inside, same, less) (m, within, equal, below) =
    elim (cases_order k m) [
      | inl e ↦ (k, inside, (λ j l. same j l ∙ equal j (omega arith)), less_trans (f k) (g k) (h k) less (subst_at k m e below))
      | inr (inl l) ↦ (k, inside, (λ j i. same j i ∙ equal j (omega arith)), subst₂ (λ (x y : ℤ). x <ℤ y) refl (equal k l) less)
      | inr (inr l) ↦ (m, within, (λ j i. same j (omega arith) ∙ equal j i), subst₂ (λ (x y : ℤ). x <ℤ y) (sym (same m l)) refl below)
    ]
  where
    less_trans : (a b c : ℤ) → a <ℤ b → b <ℤ c → a <ℤ c
    less_trans a b c p q = omega (arith, ints)

    subst_at : (i j : ℕ) → i ≡ j → g j <ℤ h j → g i <ℤ h i
    subst_at i j e p = subst₂ (λ (x y : ℤ). x <ℤ y) (ap g (sym e)) (ap h (sym e)) p

pub lex_irreflexive : (n : ℕ) (f : ℕ → ℤ) → LexLess n f f → ⊥
lex_irreflexive n f (k, inside, same, less) = omega (arith, ints)

-- of two lists one is less, or they are the same
pub lex_total : (n : ℕ) (f g : ℕ → ℤ) → LexLess n f g ⊎ (((k : ℕ) → k < n → f k ≡ g k) ⊎ LexLess n g f)
lex_total zero f g = inr (inl (λ k l. absurd (omega arith)))
lex_total (suc n) f g =
    elim (lex_total n f g) [
      | inl (k, inside, same, less) ↦ inl (k, omega arith, same, less)
      | inr (inr (k, inside, same, less)) ↦ inr (inr (k, omega arith, same, less))
      | inr (inl equal) ↦ elim (cases_order_z (f n) (g n)) [
        | inl less ↦ inl (n, omega arith, equal, less)
        | inr (inl e) ↦ inr (inl (λ k l. more k l equal e))
        | inr (inr greater) ↦ inr (inr (n, omega arith, (λ j l. sym (equal j l)), greater))
      ]
    ]
  where
    more : (k : ℕ) → k < suc n → ((j : ℕ) → j < n → f j ≡ g j) → f n ≡ g n → f k ≡ g k
    more k l equal e = elim (cases_lt k n) [ inl below ↦ equal k below | inr past ↦ (let at : k ≡ n = omega arith in ap f at ∙ e ∙ ap g (sym at)) ]

-- f over a below g over b, and that below h over c: f over a is below h over c
pub below_trans : (n : ℕ) (a b c : ℤ) (f g h : ℕ → ℤ) → pos 0 <ℤ a → pos 0 <ℤ b → pos 0 <ℤ c
    → LexLess n (λ k. b *ℤ f k) (λ k. a *ℤ g k) → LexLess n (λ k. c *ℤ g k) (λ k. b *ℤ h k) → LexLess n (λ k. c *ℤ f k) (λ k. a *ℤ h k)
below_trans n a b c f g h pa pb pc first second =
    let left : LexLess n (λ k. b *ℤ (c *ℤ f k)) (λ k. a *ℤ (c *ℤ g k)) =
    lex_map n (λ k. c *ℤ (b *ℤ f k)) (λ k. c *ℤ (a *ℤ g k)) _ _ (λ k l. swap c b (f k)) (λ k l. swap c a (g k)) (lex_scale n c (λ k. b *ℤ f k) (λ k. a *ℤ g k) pc first) in
    let right : LexLess n (λ k. a *ℤ (c *ℤ g k)) (λ k. b *ℤ (a *ℤ h k)) =
    lex_map n (λ k. a *ℤ (c *ℤ g k)) (λ k. a *ℤ (b *ℤ h k)) _ _ (λ k l. refl) (λ k l. swap a b (h k)) (lex_scale n a (λ k. c *ℤ g k) (λ k. b *ℤ h k) pa second) in
    lex_unscale n b (λ k. c *ℤ f k) (λ k. a *ℤ h k) pb (lex_trans n _ _ _ left right)
  where
    swap : (x y z : ℤ) → x *ℤ (y *ℤ z) ≡ y *ℤ (x *ℤ z)
    swap x y z = simp products (omega (arith, ints))
