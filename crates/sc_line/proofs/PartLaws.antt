-- What a line does to what is due of many lines; two parts, and a format and others behind it.
use Rattle.std.proofs.Common.{◌≡◌, ℕ, suc, ◌+◌, ◌-◌, ◌<◌, ◌≤◌, Bool, true, false, ◌&&◌, leb, List, [], ◌∷◌, ◌++◌, length, Option, Some, None, refl, sym, ap, subst, ◌∙◌, arith, inl, inr}
use Rattle.std.proofs.lemmas.Bool.{cases_lt, leb-true, leb-false, le-leb, lt-leb, false≢true}
use Rattle.std.proofs.lemmas.List.{length_push}
use Rattle.std.proofs.lemmas.Option.{none-some}
use Rattle.sc_line.specs.declared.fault.Kind.{Kind}
use Rattle.sc_line.specs.declared.fault.LineFault.{LineFault}
use Rattle.sc_line.specs.LineFaults.{IsFault}
use Rattle.sc_line.specs.Lines.{Line}
use Rattle.sc_line.specs.Formats.{Format, told, a_line, is_told, after_line, fault_due, Steps}
use Rattle.sc_line.specs.Forms.{LineKind, Tells, more_due, many_due, counted_from, and_also, and_then, both_due}

-- ---- two parts

module _ {A B : Type 0} where
  -- two parts tell a value exactly where each tells its own
  pub whole_both : (f : Format A) (g : Format B) → is_told (both_due f (λ x. g)) ≡ (is_told f && is_told g)
  whole_both (told x) (told y) = refl
  whole_both (told x) (a_line fault rest) = refl
  whole_both (a_line fault rest) g = refl

  -- where the first part told its value, both tell theirs exactly where the second does
  pub second_due : (f : Format A) (g : Format B) → is_told f ≡ true → is_told (both_due f (λ x. g)) ≡ is_told g
  second_due f g h = whole_both f g ∙ ap (λ (b : Bool). b && is_told g) h

  -- two parts that told their values tell both
  pub told_both : (f : Format A) (g : Format B) (x : A) (y : B) → f ≡ told x → g ≡ told y → both_due f (λ z. g) ≡ told (and_also x y)
  told_both f g x y e d = λ i. both_due (e i) (λ z. d i)

-- ---- so many lines

module _ {A : Type 0} (kind : List A → LineKind A) where
  more_is : (n : ℕ) (xs : List A) → length xs < n → many_due kind n xs ≡ a_line (kind xs).fault (λ line. more_due kind (n - suc (length xs)) (xs ++ (kind xs).value line ∷ []))
  more_is n xs less =
      let one : n - length xs ≡ suc (n - suc (length xs)) = omega arith in
      ap (λ (k : ℕ). more_due kind k xs) one

  -- where n values or more were read, they are told
  pub all_is : (n : ℕ) (xs : List A) → n ≤ length xs → many_due kind n xs ≡ told xs
  all_is n xs all =
      let none : n - length xs ≡ 0 = omega arith in
      ap (λ (k : ℕ). more_due kind k xs) none

  -- at least n values were read exactly where no line is due
  pub many_whole : (n : ℕ) (xs : List A) → leb n (length xs) ≡ is_told (many_due kind n xs)
  many_whole n xs =
      elim (cases_lt (length xs) n) [
        | inl less ↦ lt-leb n (length xs) less ∙ sym (ap (λ (f : Format (List A)). is_told f) (more_is n xs less))
        | inr all ↦ le-leb n (length xs) all ∙ sym (ap (λ (f : Format (List A)). is_told f) (all_is n xs all))
      ]

  -- where a line is due, fewer than n values were read
  pub many_some : (n : ℕ) (xs : List A) → is_told (many_due kind n xs) ≡ false → length xs < n
  many_some n xs h = leb-false n (length xs) (many_whole n xs ∙ h)

  -- a line that tells a value leads to what is due with this value read too
  pub many_steps : (n : ℕ) (xs ys : List A) (line : Line) (x : A) → is_told (many_due kind n xs) ≡ false → ys ≡ xs ++ x ∷ [] → Tells (kind xs) line x → Steps (many_due kind n xs) (many_due kind n ys) line
  many_steps n xs ys line x h new t =
      let is = more_is n xs (many_some n xs h) in
      let left : n - length (xs ++ x ∷ []) ≡ n - suc (length xs) = ap (λ (k : ℕ). n - k) (length_push xs x ∙ (let s : length xs + 1 ≡ suc (length xs) = omega arith in s)) in
      record {
        good = ap (λ (f : Format (List A)). fault_due f line) is ∙ t.good;
        next = ap (many_due kind n) new ∙ (λ i. more_due kind (left i) (xs ++ sym t.value_is i ∷ [])) ∙ sym (ap (λ (f : Format (List A)). after_line f line) is);
      }

  -- a fault of the line by its kind is its fault where it is due
  pub many_fault : (n : ℕ) (xs : List A) (line : Line) (e : LineFault) → is_told (many_due kind n xs) ≡ false → IsFault ((kind xs).fault line) e → IsFault (fault_due (many_due kind n xs) line) e
  many_fault n xs line e h bad = subst (λ (o : Option Kind). IsFault o e) (sym (ap (λ (f : Format (List A)). fault_due f line) (more_is n xs (many_some n xs h)))) bad

-- ---- a count, and as many lines

module _ {A : Type 0} (name : List ℕ) (most : ℕ) (kind : List A → LineKind A) where
  -- the same of the lines behind a count
  pub item_steps : (count : Option ℕ) (n : ℕ) (xs ys : List A) (line : Line) (x : A) → count ≡ Some n → is_told (counted_from name most kind count xs) ≡ false → ys ≡ xs ++ x ∷ [] → Tells (kind xs) line x
      → Steps (counted_from name most kind count xs) (counted_from name most kind count ys) line
  item_steps None n xs ys line x e h new t = absurd (none-some n e)
  item_steps (Some k) n xs ys line x e h new t = many_steps kind k xs ys line x h new t

  pub item_fault : (count : Option ℕ) (n : ℕ) (xs : List A) (line : Line) (e : LineFault) → count ≡ Some n → is_told (counted_from name most kind count xs) ≡ false → IsFault ((kind xs).fault line) e → IsFault (fault_due (counted_from name most kind count xs) line) e
  item_fault None n xs line e is h bad = absurd (none-some n is)
  item_fault (Some k) n xs line e is h bad = many_fault kind k xs line e h bad

  -- where no line is due behind a count, the values that were read are told
  pub counted_told : (count : Option ℕ) (xs : List A) → is_told (counted_from name most kind count xs) ≡ true → counted_from name most kind count xs ≡ told xs
  counted_told None xs h = absurd (false≢true h)
  counted_told (Some n) xs h = all_is kind n xs (leb-true n (length xs) (many_whole kind n xs ∙ h))

-- ---- what is due of a format and then of others

module _ {A V : Type 0} where
  -- what a line does to the first format, or its fault there, stays so with another format behind
  pub steps_then : (f f' : Format A) (rest : A → Format V) (line : Line) → Steps f f' line → Steps (and_then f rest) (and_then f' rest) line
  steps_then (told x) f' rest line s = absurd (none-some _ (sym s.good))
  steps_then (a_line fault next) f' rest line s = record { good = s.good; next = ap (λ (h : Format A). and_then h rest) s.next }

  -- a format whose value is made into another one tells where it told before
  pub told_then : (f : Format A) (g : A → V) → is_told (and_then f (λ x. told (g x))) ≡ is_told f
  told_then (told x) g = refl
  told_then (a_line fault next) g = refl
