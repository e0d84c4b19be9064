-- Sums over the positions of a chain, word by word, and the totals of a chain as sums over its words.
use Rattle.std.proofs.Common.{◌≡◌, ℕ, zero, suc, ◌+◌, ◌*◌, Bool, true, false, not, ◌&&◌, ◌==◌, if◌then◌else◌, [], ◌∷◌, length, get_or, ℤ, pos, ◌+ℤ◌, ◌-ℤ◌, ◌*ℤ◌, neg_ℤ, refl, sym, ap, ◌∙◌}
use Rattle.std.specs.List.{count_by}
use Rattle.sc_algebra.specs.Sums.{sum_below}
use Rattle.sc_algebra.proofs.Ints.{pos-mul}
use Rattle.sc_algebra.proofs.Sums.{sum-congr, sum-sub, sum_first, sum-append, sum-list, count-sum, count-list}
use Rattle.sc_theory.specs.declared.Letter.{Letter}
use Rattle.sc_theory.specs.Words.{Word, inverse_letter, is_positive, is_negative, total}
use Rattle.sc_theory.specs.Chains.{Chain, no_letter, weight, word, positions, weighted_length, first, chain_total}
use Rattle.sc_theory.proofs.ChainLaws.{first-suc, first_all}

-- the sum over the positions of the first w words
sum_of_words : (c : Chain) (f : ℕ → ℤ) (w : ℕ) → sum_below f (first c w) ≡ sum_below (λ v. sum_below (λ k. f (first c v + k)) (length (word c v))) w
sum_of_words c f zero = refl
sum_of_words c f (suc w) =
    ap (sum_below f) (first-suc c w) ∙ sum-append f (first c w) (length (word c w)) ∙ ap (λ (x : ℤ). x +ℤ sum_below (λ k. f (first c w + k)) (length (word c w))) (sum_of_words c f w)

-- a sum over the positions of a chain is a sum over its words of the sums over their places
pub sum_positions : (c : Chain) (f : ℕ → ℤ) → sum_below f (positions c) ≡ sum_below (λ w. sum_below (λ k. f (first c w + k)) (length (word c w))) (length c)
sum_positions c f = ap (sum_below f) (sym (first_all c)) ∙ sum_of_words c f (length c)

-- the weighted length as a sum below the number of words
pub weighted_length_sum : (c : Chain) → sum_below (λ w. pos (weight c w) *ℤ pos (length (word c w))) (length c) ≡ pos (weighted_length c)
weighted_length_sum c =
    sum-congr _ _ (length c) (λ w inside. sym (pos-mul (weight c w) (length (word c w)))) ∙ sum-list (λ (w : ℕ × Word). w.0 * length w.1) c (0, [])

-- 1 at a generator, -1 at its inverse, 0 at other letters
abbrev pub sign : ℕ → Letter → ℤ
sign x l = (if is_positive x l then pos 1 else pos 0) -ℤ (if is_negative x l then pos 1 else pos 0)

-- the total of a word is the sum of its letters' signs
pub total_sum : (x : ℕ) (w : Word) → sum_below (λ k. sign x (get_or w k no_letter)) (length w) ≡ total x w
total_sum x w =
    let p : ℕ → Bool = λ k. is_positive x (get_or w k no_letter) in
    let q : ℕ → Bool = λ k. is_negative x (get_or w k no_letter) in
    let n : ℕ = length w in
    sum-sub (λ k. if p k then pos 1 else pos 0) (λ k. if q k then pos 1 else pos 0) n
    ∙ ap (λ (a : ℤ). a -ℤ sum_below (λ k. if q k then pos 1 else pos 0) n) (sym (count-sum p n) ∙ ap pos (count-list (is_positive x) w no_letter))
    ∙ ap (λ (a : ℤ). pos (count_by (is_positive x) w) -ℤ a) (sym (count-sum q n) ∙ ap pos (count-list (is_negative x) w no_letter))

-- the total of a chain as a sum below the number of words
pub chain_total_sum : (x : ℕ) (c : Chain) → sum_below (λ w. pos (weight c w) *ℤ total x (word c w)) (length c) ≡ chain_total x c
chain_total_sum x [] = refl
chain_total_sum x (u ∷ c) = sum_first _ (length c) ∙ ap (λ (t : ℤ). pos u.0 *ℤ total x u.1 +ℤ t) (chain_total_sum x c)

-- the sign where the generator is the one that is asked for or not, and the letter its inverse or not
abbrev signed : Bool → Bool → ℤ
signed same inverse = (if same && not inverse then pos 1 else pos 0) -ℤ (if same && inverse then pos 1 else pos 0)

signed-not : (same inverse : Bool) → signed same (not inverse) ≡ neg_ℤ (signed same inverse)
signed-not false false = refl
signed-not false true = refl
signed-not true false = refl
signed-not true true = refl

-- the inverse letter has the opposite sign
pub sign_inverse : (x : ℕ) (l : Letter) → sign x (inverse_letter l) ≡ neg_ℤ (sign x l)
sign_inverse x l = signed-not (l.number == x) l.inverse
