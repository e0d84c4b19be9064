-- Lists to which one element is added, read at an index.
use Rattle.std.specs.Prelude.{◌≡◌, ℕ, zero, suc, ◌+◌, ◌<◌, ◌++◌, List, [], ◌∷◌, length, get_or}
use Rattle.std.proofs.Common.{arith, sym, ap, ◌∙◌, subst, inl, inr, length-append}
use Rattle.std.proofs.Math.Seq.{get_or-append_seam}
use Rattle.std.proofs.lemmas.List.{get_or_append_left}
use Rattle.std.proofs.lemmas.Bool.{cases_eq}

-- what holds of each element at its place still holds after one more
pub pushed_each : {X : Type 0} → (P : ℕ → X → Type 0) (d : X) (ys new : List X) (y : X) (n : ℕ) → length ys ≡ n
    → ((k : ℕ) → k < n → P k (get_or ys k d)) → P n y → new ≡ ys ++ y ∷ [] → (k : ℕ) → k < n + 1 → P k (get_or new k d)
pushed_each P d ys new y n size each here same k inside =
    elim (cases_eq k n) [
      | inl e ↦
          let read : get_or new k d ≡ y =
          ap (λ xs. get_or xs k d) same ∙ ap (λ (j : ℕ). get_or (ys ++ y ∷ []) j d) (e ∙ sym size) ∙ get_or-append_seam ys y [] d in
          subst (λ v. P k v) (sym read) (subst (λ (j : ℕ). P j y) (sym e) here)
      | inr apart ↦
          let below : k < length ys = omega arith in
          let read : get_or new k d ≡ get_or ys k d = ap (λ xs. get_or xs k d) same ∙ get_or_append_left ys (y ∷ []) d k below in
          subst (λ v. P k v) (sym read) (each k (omega arith))
    ]

pub pushed_length : {X : Type 0} → (ys new : List X) (y : X) (n : ℕ) → length ys ≡ n → new ≡ ys ++ y ∷ [] → length new ≡ n + 1
pushed_length ys new y n size same = ap length same ∙ length-append ys (y ∷ []) ∙ ap (λ (m : ℕ). m + 1) size

-- an element that was read with itself as the default
pub same_read : {X : Type 0} → (xs : List X) (i : ℕ) (x d : X) → i < length xs → x ≡ get_or xs i x → get_or xs i d ≡ x
same_read [] i x d inside e = absurd (omega arith)
same_read (y ∷ ys) zero x d inside e = sym e
same_read (y ∷ ys) (suc i) x d inside e = same_read ys i x d (omega arith) e
