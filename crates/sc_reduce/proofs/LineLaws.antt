-- What the chain of lines keeps: its words are good, and totals, letters and weights come from the lines.
use Rattle.std.proofs.Common.{◌≡◌, ℕ, zero, suc, ◌+◌, ◌*◌, ◌<◌, ◌≤◌, List, [], ◌∷◌, ◌++◌, length, Option, Some, refl, sym, ap, ◌∙◌, subst, arith, inl, inr, ℤ, pos, negsuc, ◌+ℤ◌, ◌*ℤ◌, neg_ℤ, length-append}
use Rattle.std.specs.Prelude.{unsigned_abs, ◌≤ℤ◌}
use Rattle.std.specs.Prelude.{◌≢◌, Result, Ok, Err, IfErr, IsErrOf}
use Rattle.std.specs.List.{All}
use Rattle.std.proofs.lemmas.Int.{ints}
use Rattle.std.proofs.Math.IntN.{zero-*ℤ, *ℤ-zero, +ℤ_idr}
use Rattle.std.proofs.lemmas.List.{get_or_append_left, get_or-append-add}
use Rattle.std.proofs.lemmas.List.Elements.{All-nil, All-cons, All-head, All-tail, All-append, All-from_get_or}
use Rattle.std.proofs.lemmas.List.Sums.{sum_by-append, sum_by-cons}
use Rattle.sc_theory.specs.declared.Letter.{Letter}
use Rattle.sc_theory.specs.Words.{Word, inverse_letter, inverse_word, total, delete_cyclically, deleted, cyclic_reduction, IsReduced}
use Rattle.sc_theory.specs.Chains.{Chain, no_word, no_letter, word, positions, weighted_length, chain_total}
use Rattle.sc_theory.proofs.WordLaws.{inverse_word-cons, total-inverse_word}
use Rattle.sc_theory.proofs.Reduction.{cases_option, FreelyDeletes-leftmost, DeletesEnds-delete_ends, cases_delete_cyclically, length-delete_cyclically, deleted_none, deleted_some, IsReduced-cyclic_reduction, total-cyclic_reduction}
use Rattle.sc_theory.proofs.Cyclic.{IsReduced-inverse_word, length-inverse_word}
use Rattle.sc_words.specs.declared.lines.RawLine.{RawLine}
use Rattle.sc_words.specs.declared.limits.TheConstants.{GENERATORS}
use Rattle.sc_theory.proofs.Rounds.{unreduced_from_cancelling}
use Rattle.sc_words.specs.ChainText.{IsRawLine}
use Rattle.sc_chain.specs.Faults.{AreGenerators, AreGoodBelow, IsGoodWord, IsFaultOf}
use Rattle.sc_chain.specs.declared.fault.ChainFault.{ChainFault}
use Rattle.sc_chain.specs.declared.fault.ChainFault.TheVariants.{EmptyWord, NotReduced, ManyWords, ManyPositions, Heavy, Memory}
use Rattle.sc_reduce.specs.Lines.{IsExcess, signed_word, weighted_word, line_chain, chain_of, letters_of, lines_total}

-- ---- each word of the chain

-- what each line's chain has, the chain of the lines has
pub All-chain_of : (P : ℕ × Word → Type 0) (Q : RawLine → Type 0) → ((l : RawLine) → Q l → All P (line_chain l)) → (lines : List RawLine) → All Q lines → All P (chain_of lines)
All-chain_of P Q f [] h = All-nil P
All-chain_of P Q f (l ∷ lines) h = All-append P (line_chain l) (chain_of lines) (f l (All-head Q l lines h)) (All-chain_of P Q f lines (All-tail Q l lines h))

All-weighted_word : (P : ℕ × Word → Type 0) (n : ℕ) (w : Word) → ((x : Letter) (v : Word) → w ≡ x ∷ v → P (n, x ∷ v)) → All P (weighted_word n w)
All-weighted_word P zero w f = All-nil P
All-weighted_word P (suc n) [] f = All-nil P
All-weighted_word P (suc n) (x ∷ v) f = All-cons P (suc n, x ∷ v) [] (f x v refl) (All-nil P)

IsReduced-signed_word : (z : ℤ) (w : Word) → IsReduced w → IsReduced (signed_word z w)
IsReduced-signed_word (pos n) w r = r
IsReduced-signed_word (negsuc n) w r = IsReduced-inverse_word w r

abbrev IsGoodEntry : ℕ × Word → Type 0
IsGoodEntry e = IsGoodWord e.1

good_line : (l : RawLine) → All IsGoodEntry (line_chain l)
good_line l =
    let w = signed_word l.coefficient (cyclic_reduction l.word) in
    All-weighted_word IsGoodEntry (unsigned_abs l.coefficient) w
    (λ x v e. record {
      nonempty = λ h. cc;
      reduced = subst IsReduced e (IsReduced-signed_word l.coefficient (cyclic_reduction l.word) (IsReduced-cyclic_reduction l.word));
    })

-- no word of the chain of lines is empty, and each is reduced
pub good_chain : (lines : List RawLine) → AreGoodBelow (chain_of lines) (length (chain_of lines))
good_chain lines w l = All-chain_of IsGoodEntry (λ l. Unit {0}) (λ l h. good_line l) lines (λ k d h. tt) w no_word l

-- ---- the letters' numbers

-- a letter whose number is that of a generator
abbrev pub IsGenerator : Letter → Type 0
IsGenerator x = x.number < GENERATORS

All-left : {X : Type 0} (P : X → Type 0) (xs ys : List X) → All P (xs ++ ys) → All P xs
All-left P xs ys h k d l = subst P (get_or_append_left xs ys d k l) (h k d (omega (arith, length-append xs ys)))

All-right : {X : Type 0} (P : X → Type 0) (xs ys : List X) → All P (xs ++ ys) → All P ys
All-right P xs ys h k d l = subst P (get_or-append-add xs ys k d) (h (length xs + k) d (omega (arith, length-append xs ys)))

-- what one deletion keeps, many keep
deleted_keeps_fact : (delete : Word → Option Word) (P : Word → Type 0) → ((w v : Word) → delete w ≡ Some v → P w → P v) → (n : ℕ) (w : Word) → P w → P (deleted delete n w)
deleted_keeps_fact delete P keeps zero w p = p
deleted_keeps_fact delete P keeps (suc n) w p = elim (cases_option (delete w)) [
  | inl absent ↦ subst P (sym (deleted_none delete (suc n) w absent)) p
  | inr there ↦ subst P (sym (deleted_some delete n w there.0 there.1)) (deleted_keeps_fact delete P keeps n there.0 (keeps w there.0 there.1 p))
]

All-delete_cyclically : (P : Letter → Type 0) (w v : Word) → delete_cyclically w ≡ Some v → All P w → All P v
All-delete_cyclically P w v e h = elim (cases_delete_cyclically w v e) [
  | inl free ↦
      let d = FreelyDeletes-leftmost w v free in
      let parts : All P (d.before ++ d.letter ∷ inverse_letter d.letter ∷ d.after) = subst (All P) d.from h in
      subst (All P) (sym d.to)
      (All-append P d.before d.after (All-left P d.before (d.letter ∷ inverse_letter d.letter ∷ d.after) parts)
      (All-right P (d.letter ∷ inverse_letter d.letter ∷ []) d.after (All-right P d.before (d.letter ∷ inverse_letter d.letter ∷ d.after) parts)))
  | inr ends ↦
      let d = DeletesEnds-delete_ends w v ends.1 in
      All-left P v (inverse_letter d.letter ∷ []) (All-tail P d.letter (v ++ inverse_letter d.letter ∷ []) (subst (All P) d.from h))
]

All-cyclic_reduction : (P : Letter → Type 0) (w : Word) → All P w → All P (cyclic_reduction w)
All-cyclic_reduction P w h = deleted_keeps_fact delete_cyclically (All P) (All-delete_cyclically P) (length w) w h

generators_of_inverse : (w : Word) → All IsGenerator w → All IsGenerator (inverse_word w)
generators_of_inverse [] h = All-nil IsGenerator
generators_of_inverse (x ∷ w) h =
    subst (All IsGenerator) (sym (inverse_word-cons x w))
    (All-append IsGenerator (inverse_word w) (inverse_letter x ∷ []) (generators_of_inverse w (All-tail IsGenerator x w h))
    (All-cons IsGenerator (inverse_letter x) [] (All-head IsGenerator x w h) (All-nil IsGenerator)))

generators_of_signed : (z : ℤ) (w : Word) → All IsGenerator w → All IsGenerator (signed_word z w)
generators_of_signed (pos n) w h = h
generators_of_signed (negsuc n) w h = generators_of_inverse w h

abbrev HasGenerators : ℕ × Word → Type 0
HasGenerators e = All IsGenerator e.1

generators_of_line : (l : RawLine) → IsRawLine l → All HasGenerators (line_chain l)
generators_of_line l h =
    let w = signed_word l.coefficient (cyclic_reduction l.word) in
    All-weighted_word HasGenerators (unsigned_abs l.coefficient) w
    (λ x v e. subst (All IsGenerator) e (generators_of_signed l.coefficient (cyclic_reduction l.word) (All-cyclic_reduction IsGenerator l.word (All-from_get_or IsGenerator l.word no_letter h.generators))))

-- where the letters of the lines are those of generators, so are the letters of their chain
pub generators_of_chain : (lines : List RawLine) → All IsRawLine lines → AreGenerators (chain_of lines)
generators_of_chain lines h w k in_chain in_word = All-chain_of HasGenerators IsRawLine generators_of_line lines h w no_word in_chain k no_letter in_word

-- ---- how many letters

length-cyclic_reduction : (w : Word) → length (cyclic_reduction w) ≤ length w
length-cyclic_reduction w =
    deleted_keeps_fact delete_cyclically (λ v. length v ≤ length w) (λ u v e h. omega (arith, length-delete_cyclically u v e)) (length w) w (omega arith)

length-signed_word : (z : ℤ) (w : Word) → length (signed_word z w) ≡ length w
length-signed_word (pos n) w = refl
length-signed_word (negsuc n) w = length-inverse_word w

positions-weighted_word : (n : ℕ) (w : Word) → positions (weighted_word n w) ≤ length w
positions-weighted_word zero w = omega arith
positions-weighted_word (suc n) [] = omega arith
positions-weighted_word (suc n) (x ∷ w) = omega arith

positions_of_line : (l : RawLine) → positions (line_chain l) ≤ length l.word
positions_of_line l =
    let r = cyclic_reduction l.word in
    omega (arith, positions-weighted_word (unsigned_abs l.coefficient) (signed_word l.coefficient r), length-signed_word l.coefficient r, length-cyclic_reduction l.word)

-- the chain of lines has no more positions than the lines have letters
pub positions_of_chain : (lines : List RawLine) → positions (chain_of lines) ≤ letters_of lines
positions_of_chain [] = omega arith
positions_of_chain (l ∷ lines) =
    omega (arith, positions_of_line l, positions_of_chain lines, sum_by-append (λ (w : ℕ × Word). length w.1) (line_chain l) (chain_of lines), sum_by-cons (λ (l : RawLine). length l.word) l lines)

-- ---- the weights

-- a word whose weight is at most 1000
abbrev pub IsLight : ℕ × Word → Type 0
IsLight e = e.0 ≤ 1000

size_within : (z : ℤ) → neg_ℤ (pos 1000) ≤ℤ z → z ≤ℤ pos 1000 → unsigned_abs z ≤ 1000
size_within (pos n) low high = omega (arith, ints)
size_within (negsuc n) low high = omega (arith, ints)

light_line : (l : RawLine) → IsRawLine l → All IsLight (line_chain l)
light_line l h = All-weighted_word IsLight (unsigned_abs l.coefficient) (signed_word l.coefficient (cyclic_reduction l.word)) (λ x v e. size_within l.coefficient h.low h.high)

light_words : (c : Chain) → All IsLight c → weighted_length c ≤ 1000 * positions c
light_words [] h = omega arith
light_words (e ∷ c) h =
    let first : e.0 * length e.1 ≤ 1000 * length e.1 = scaled e.0 (length e.1) (All-head IsLight e c h) in
    omega (arith, light_words c (All-tail IsLight e c h), sum_by-cons (λ (w : ℕ × Word). w.0 * length w.1) e c, sum_by-cons (λ (w : ℕ × Word). length w.1) e c)
  where
    scaled : (a b : ℕ) → a ≤ 1000 → a * b ≤ 1000 * b
    scaled a b l = grind arith

-- a coefficient is at most 1000 in size, so the weighted length is at most 1000 times the number of positions
pub light_chain : (lines : List RawLine) → All IsRawLine lines → weighted_length (chain_of lines) ≤ 1000 * positions (chain_of lines)
light_chain lines h = light_words (chain_of lines) (All-chain_of IsLight IsRawLine light_line lines h)

-- ---- the totals

chain_total-append : (g : ℕ) (c d : Chain) → chain_total g (c ++ d) ≡ chain_total g c +ℤ chain_total g d
chain_total-append g [] d = omega (arith, ints)
chain_total-append g (w ∷ c) d = omega (arith, ints, chain_total-append g c d)

chain_total-weighted_word : (g n : ℕ) (w : Word) → chain_total g (weighted_word n w) ≡ pos n *ℤ total g w
chain_total-weighted_word g zero w = sym (zero-*ℤ (total g w))
chain_total-weighted_word g (suc n) [] = sym (*ℤ-zero (pos (suc n)))
chain_total-weighted_word g (suc n) (x ∷ w) = +ℤ_idr (pos (suc n) *ℤ total g (x ∷ w))

signed : (n : ℕ) (t : ℤ) → pos (suc n) *ℤ neg_ℤ t ≡ negsuc n *ℤ t
signed n (pos zero) = *ℤ-zero (pos (suc n)) ∙ sym (*ℤ-zero (negsuc n))
signed n (pos (suc m)) = refl
signed n (negsuc m) = refl

total-signed_word : (g : ℕ) (z : ℤ) (w : Word) → pos (unsigned_abs z) *ℤ total g (signed_word z w) ≡ z *ℤ total g w
total-signed_word g (pos n) w = refl
total-signed_word g (negsuc n) w = ap (λ (t : ℤ). pos (suc n) *ℤ t) (total-inverse_word g w) ∙ signed n (total g w)

chain_total-line_chain : (g : ℕ) (l : RawLine) → chain_total g (line_chain l) ≡ l.coefficient *ℤ total g l.word
chain_total-line_chain g l =
    let r = cyclic_reduction l.word in
    chain_total-weighted_word g (unsigned_abs l.coefficient) (signed_word l.coefficient r)
    ∙ total-signed_word g l.coefficient r
    ∙ ap (λ (t : ℤ). l.coefficient *ℤ t) (total-cyclic_reduction g l.word)

-- the totals of the chain of lines are those of the lines as written
pub chain_total-chain_of : (g : ℕ) (lines : List RawLine) → chain_total g (chain_of lines) ≡ lines_total g lines
chain_total-chain_of g [] = refl
chain_total-chain_of g (l ∷ lines) =
    chain_total-append g (line_chain l) (chain_of lines)
    ∙ ap (λ (t : ℤ). t +ℤ chain_total g (chain_of lines)) (chain_total-line_chain g l)
    ∙ ap (λ (t : ℤ). l.coefficient *ℤ total g l.word +ℤ t) (chain_total-chain_of g lines)

-- ---- the limits

-- of the faults of a list of words the chain of lines can have but two
pub excess_from_fault : (lines : List RawLine) → All IsRawLine lines → (e : ChainFault) → IsFaultOf (chain_of lines) e → IsExcess (chain_of lines) e
excess_from_fault lines h (EmptyWord w) f = (good_chain lines w f.in_range).nonempty f.empty
excess_from_fault lines h (NotReduced w k) f = unreduced_from_cancelling (word (chain_of lines) w) k f.flaw (good_chain lines w f.in_range).reduced
excess_from_fault lines h (ManyWords n) f = record { many = f.many; count_is = f.count_is }
excess_from_fault lines h (ManyPositions n) f = record { few_words = f.few_words; many = f.many; count_is = f.count_is }
excess_from_fault lines h (Heavy n) f = absurd (omega (arith, light_chain lines h, f.few_positions, f.heavy))
excess_from_fault lines h Memory f = absurd f

-- so where a chain is refused for one of its faults, it passes a limit, or memory is wanting
pub excess_of_result : (lines : List RawLine) → All IsRawLine lines → (r : Result Chain ChainFault) → ((e : ChainFault) → e ≢ Memory → IsErrOf r e → IsFaultOf (chain_of lines) e) → IfErr r (IsExcess (chain_of lines))
excess_of_result lines h (Ok c) f = tt
excess_of_result lines h (Err (EmptyWord w)) f = excess_from_fault lines h (EmptyWord w) (f (EmptyWord w) (λ q. cc) refl)
excess_of_result lines h (Err (NotReduced w k)) f = excess_from_fault lines h (NotReduced w k) (f (NotReduced w k) (λ q. cc) refl)
excess_of_result lines h (Err (ManyWords n)) f = excess_from_fault lines h (ManyWords n) (f (ManyWords n) (λ q. cc) refl)
excess_of_result lines h (Err (ManyPositions n)) f = excess_from_fault lines h (ManyPositions n) (f (ManyPositions n) (λ q. cc) refl)
excess_of_result lines h (Err (Heavy n)) f = excess_from_fault lines h (Heavy n) (f (Heavy n) (λ q. cc) refl)
excess_of_result lines h (Err Memory) f = tt
