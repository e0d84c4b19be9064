-- The form of surface texts is lawful: which surfaces they tell.
use Rattle.std.proofs.Common.{◌≡◌, ℕ, true, suc, ◌+◌, ◌-◌, ◌≤◌, List, [], ◌∷◌, ◌++◌, length, None, codes, pos, refl, ap, arith, Result, ◌⊎◌}
use Rattle.std.specs.List.{AllByRecursion}
use Rattle.std.specs.Prelude.{IfOk, IfErr, OnOk, IsErrAnd, MatchResult}
use Rattle.std.proofs.lemmas.Result.{IfOk-weaker, MatchResult-from_both}
use Rattle.std.proofs.lemmas.List.Sums.{sum_by-append}
use Rattle.sc_theory.specs.Words.{Word}
use Rattle.sc_theory.specs.Chains.{Chain, positions}
use Rattle.sc_theory.specs.Fatgraphs.{Sides}
use Rattle.sc_theory.proofs.ChainLaws.{positions-cons}
use Rattle.sc_line.specs.Lines.{Line, count_line, lacks}
use Rattle.sc_line.specs.declared.fault.Kind.{Kind}
use Rattle.sc_line.specs.declared.fault.TextFault.TheVariants as text_faults
use Rattle.sc_line.specs.Faults.{IsFaultless, IsFaultOf, IsFirstFault}
use Rattle.sc_line.specs.Formats.{IsShort, plan_of}
use Rattle.sc_line.proofs.NumberLaws.{IsCountInRange, count_is_kind}
use Rattle.sc_line.specs.Forms.{LineKind, IsLawful, IsToldBy, count_kind, counted_from, lines_after}
use Rattle.sc_line.proofs.FormatLaws.{short_more}
use Rattle.sc_line.proofs.FormLaws.{AllAfter, AreCounted, all_after, all_of, lines_map, lawful_both, lawful_one, lawful_counted, lawful_literal, lawful_where}
use Rattle.sc_line.proofs.TextLaws as texts
use Rattle.sc_words.specs.declared.limits.TheConstants.{GENERATORS}
use Rattle.sc_chain.specs.declared.limits.TheConstants.{MAX_WORDS}
use Rattle.sc_text.specs.declared.limits.Limits.{Limits}
use Rattle.sc_text.specs.declared.limits.TheConstants.{VERSION_1, MAX_SIDES}
use Rattle.sc_text.specs.Words.{word_line, IsWordWithin, FitsIn, a_word}
use Rattle.sc_text.specs.Sides.{side_line, IsSideWithin, a_side}
use Rattle.sc_text.specs.Parts.{words_form, copies_form, sides_form}
use Rattle.sc_text.specs.Printing.{words_lines, sides_lines}
use Rattle.sc_text.specs.Surfaces.{heading, ending, from_sides, from_copies, from_words, Said, surface_form, uncounted, surface_due, said, surface_lines, surface_text, surface_plan, IsChainFor, IsChainWithin, IsSurfaceWithin, IsSurfaceInRange}
use Rattle.sc_text.specs.inside.SurfaceRead.{IsSaid, said_by, IsSurfaceRead}
use Rattle.sc_text.specs.declared.surface.SurfaceText.{SurfaceText}
use Rattle.sc_line.specs.declared.fault.TextFault.{TextFault}
use Rattle.sc_text.proofs.KindLaws.{word_kind, side_kind}
use Rattle.sc_text.proofs.FeedLaws.{lacks-numbers_line, lacks-word_line, lacks-side_line}

-- one word more at the end adds as many positions as it has letters
pub positions-push : (c : Chain) (w : ℕ × Word) → positions (c ++ w ∷ []) ≡ positions c + length w.1
positions-push c w = omega (arith, sum_by-append (λ (v : ℕ × Word). length v.1) c (w ∷ []), positions-cons w [])

-- ---- words

-- the lines of the word that is due behind those of a chain, which has the room that they leave
abbrev pub word_kinds : Limits → ℕ → Chain → LineKind (ℕ × Word)
word_kinds m most c = a_word m (most - positions c)

words_after : (m : Limits) (most : ℕ) (before c : Chain) → AllByRecursion (IsWordWithin m) c → positions before + positions c ≤ most → AllAfter (λ b. FitsIn m (most - positions b)) before c
words_after m most before [] h few = tt
words_after m most before (w ∷ c) h few =
    let first : positions (w ∷ c) ≡ length w.1 + positions c = positions-cons w c in
    let more : positions (before ++ w ∷ []) ≡ positions before + length w.1 = positions-push before w in
    (record { in_range = h.0; fits = omega arith }, words_after m most (before ++ w ∷ []) c h.1 (omega arith))

record AreWords (m : Limits) (most : ℕ) (before c : Chain) : Type 0 where
  words : AllByRecursion (IsWordWithin m) c
  few : positions before + positions c ≤ most

words_of : (m : Limits) (most : ℕ) (before c : Chain) → AllAfter (λ b. FitsIn m (most - positions b)) before c → positions before ≤ most → AreWords m most before c
words_of m most before [] h few = record { words = tt; few = omega arith }
words_of m most before (w ∷ c) h few =
    let fits : length w.1 ≤ most - positions before = h.0.fits in
    let first : positions (w ∷ c) ≡ length w.1 + positions c = positions-cons w c in
    let more : positions (before ++ w ∷ []) ≡ positions before + length w.1 = positions-push before w in
    let rest = words_of m most (before ++ w ∷ []) c h.1 (omega arith) in
    let below = rest.few in
    record { words = (h.0.in_range, rest.words); few = omega arith }

-- the lines of the words of a chain under a name are lawful where letters are spelled for the generators: what is read
-- are the chains of so many words and letters at most
pub lawful_chain : (m : Limits) (name : List ℕ) (many most : ℕ) → m.generators ≤ GENERATORS → lacks 32 name ≡ true → lacks 10 name ≡ true → IsLawful (λ c. count_line name (length c) ∷ lines_after (word_kinds m most) [] c) (counted_from name many (word_kinds m most) None []) (IsChainFor m many most) (suc many)
lawful_chain m name many most spelled named unended =
    let lines : Chain → List Line = λ c. count_line name (length c) ∷ lines_after (word_kinds m most) [] c in
    let kinds : (b : Chain) → _ = λ b. word_kind m (most - positions b) spelled in
    lawful_where lines (counted_from name many (word_kinds m most) None []) (AreCounted (word_kinds m most) (λ b. FitsIn m (most - positions b)) kinds (λ b. lacks-word_line) many) (IsChainFor m many most) (suc many)
    (lawful_counted (word_kinds m most) (λ b. FitsIn m (most - positions b)) kinds (λ b. lacks-word_line) name many named (λ n. lacks-numbers_line name (pos n ∷ []) unended))
    (λ c h. let words = words_of m most [] c h.in_range (omega arith) in let few = words.few in record { count = h.few; words = words.words; letters = omega arith })
    (λ c h. record { few = h.count; in_range = words_after m most [] c h.words (omega (arith, h.letters)) })

-- so the form of the words is: what is read are the chains within the limits
pub lawful_words : (m : Limits) → m.generators ≤ GENERATORS → IsLawful (words_form m).lines ((words_form m).due uncounted) (IsChainWithin m) (suc m.words)
lawful_words m spelled = lawful_chain m (codes "words") m.words m.positions spelled refl refl

-- ---- copies and sides

-- so is the form of the copies, for counts from 1 to the limit
pub lawful_copies : (m : Limits) → IsLawful (copies_form m).lines ((copies_form m).due None) (IsCountInRange 1 m.copies) 1
lawful_copies m =
    lawful_one (count_kind (codes "copies") 1 m.copies) (IsCountInRange 1 m.copies) (count_is_kind (codes "copies") 1 m.copies refl) (λ n. lacks-numbers_line (codes "copies") (pos n ∷ []) refl)

-- what sides may be of which there are so many at most
pub record AreSidesFor (m : Limits) (g : Sides) : Type 0 where
  pub count : length g ≤ m.sides
  pub sides : AllByRecursion (IsSideWithin m) g

-- so is the form of the sides, for as many as the limit allows, each in range
pub lawful_sides : (m : Limits) → IsLawful (sides_form m).lines ((sides_form m).due uncounted) (AreSidesFor m) (suc m.sides)
lawful_sides m =
    lawful_where (sides_form m).lines ((sides_form m).due uncounted) (AreCounted (λ (g : Sides). a_side m) (λ b. IsSideWithin m) (λ b. side_kind m) (λ b. lacks-side_line) m.sides) (AreSidesFor m) (suc m.sides)
    (lawful_counted (λ (g : Sides). a_side m) (λ b. IsSideWithin m) (λ b. side_kind m) (λ b. lacks-side_line) (codes "sides") m.sides refl (λ n. lacks-numbers_line (codes "sides") (pos n ∷ []) refl))
    (λ g h. record { count = h.few; sides = all_of (IsSideWithin m) [] g h.in_range })
    (λ g h. record { few = h.count; in_range = all_after (IsSideWithin m) [] g h.sides })

-- ---- the whole text

-- what a surface may be
abbrev pub IsSaidFor : Limits → Said → Type 0
IsSaidFor m v =
    Unit {0} × (IsChainWithin m v.second.first × (IsCountInRange 1 m.copies v.second.second.first × (AreSidesFor m v.second.second.second.first × Unit {0})))

-- the form of surface texts is lawful at any limits
pub lawful_surface : (m : Limits) → m.generators ≤ GENERATORS → IsLawful (surface_form m).lines (surface_due m) (IsSaidFor m) (1 + (suc m.words + (1 + (suc m.sides + 1))))
lawful_surface m spelled =
    lawful_both _ _ _ _ (λ u. (from_words m).lines) _ _ _ (lawful_literal heading refl) (λ u h.
    lawful_both _ _ _ _ (λ c. (from_copies m).lines) _ _ _ (lawful_words m spelled) (λ c h.
    lawful_both _ _ _ _ (λ n. (from_sides m).lines) _ _ _ (lawful_copies m) (λ n h.
    lawful_both _ _ _ _ (λ g u. ending ∷ []) _ _ _ (lawful_sides m) (λ g h. lawful_literal ending refl))))

said_in_range : (m : Limits) (v : Said) → IsSaidFor m v → IsSurfaceWithin m v.second.first v.second.second.first v.second.second.second.first
said_in_range m v h = record { chain = h.1.0; low = h.1.1.0.low_end; high = h.1.1.0.high_end; count = h.1.1.1.0.count; sides = h.1.1.1.0.sides }

in_range_said : (m : Limits) (v : Said) → IsSurfaceWithin m v.second.first v.second.second.first v.second.second.second.first → IsSaidFor m v
in_range_said m v h = (tt, (h.chain, (record { low_end = h.low; high_end = h.high }, (record { count = h.count; sides = h.sides }, tt))))

-- ---- at the limits of version 1

-- the most lines that a surface text of version 1 has
abbrev pub all_lines : ℕ
all_lines = 1 + (suc MAX_WORDS + (1 + (suc MAX_SIDES + 1)))

-- at the limits of version 1 what is read are the surfaces in range
pub lawful_version_1 : IsLawful (surface_form VERSION_1).lines (surface_due VERSION_1) IsSaid all_lines
lawful_version_1 = lawful_where (surface_form VERSION_1).lines (surface_due VERSION_1) (IsSaidFor VERSION_1) IsSaid all_lines (lawful_surface VERSION_1 (omega arith)) (said_in_range VERSION_1) (in_range_said VERSION_1)

-- at most 4000000000 lines of a surface text are read, which its reader can count
pub short_surface : IsShort 4000000000 (surface_due VERSION_1)
short_surface = short_more all_lines 4000000000 (surface_due VERSION_1) (omega arith) lawful_version_1.short

-- ---- the laws

-- the text of a surface in range has no fault
pub faultless_text : (c : Chain) (n : ℕ) (g : Sides) → IsSurfaceInRange c n g → IsFaultless surface_plan (surface_text c n g)
unfolding surface_plan
faultless_text c n g h = texts.text_is_faultless (surface_form VERSION_1).lines (surface_due VERSION_1) IsSaid all_lines lawful_version_1 (said c n g) h

-- a text without a fault is that of a surface in range
pub faultless_is_text : (text : List ℕ) → IsFaultless surface_plan text → (c : Chain) × (n : ℕ) × (g : Sides) × IsSurfaceInRange c n g × (text ≡ surface_text c n g)
unfolding surface_plan
faultless_is_text text good =
    let told = texts.faultless_is_text (surface_form VERSION_1).lines (surface_due VERSION_1) IsSaid all_lines lawful_version_1 text good in
    (told.0.second.first, told.0.second.second.first, told.0.second.second.second.first, told.1, told.2)

-- a surface in range of which this is the text
pub record IsTextOfSurface (text : List ℕ) : Type 0 where
  pub words : Chain
  pub copies : ℕ
  pub sides : Sides
  pub in_range : IsSurfaceInRange words copies sides
  pub is : text ≡ surface_text words copies sides

-- there is one for a text without a fault
pub readable_text : (text : List ℕ) → IsFaultless surface_plan text → IsTextOfSurface text
readable_text text good =
    let told = faultless_is_text text good in
    record { words = told.0; copies = told.1; sides = told.2; in_range = told.3; is = told.4 }

-- two surfaces have the same chain, copies and sides
pub record SameSurface (c : Chain) (n : ℕ) (g : Sides) (d : Chain) (m : ℕ) (h : Sides) : Type 0 where
  pub words : c ≡ d
  pub copies : n ≡ m
  pub sides : g ≡ h

same_said : (v w : Said) → v ≡ w → SameSurface v.second.first v.second.second.first v.second.second.second.first w.second.first w.second.second.first w.second.second.second.first
same_said v w e = record {
  words = ap (λ (x : Said). x.second.first) e;
  copies = ap (λ (x : Said). x.second.second.first) e;
  sides = ap (λ (x : Said). x.second.second.second.first) e;
}

-- surfaces in range that have the same text are the same
pub one_text : (c : Chain) (n : ℕ) (g : Sides) (d : Chain) (m : ℕ) (h : Sides) → IsSurfaceInRange c n g → IsSurfaceInRange d m h → surface_text c n g ≡ surface_text d m h → SameSurface c n g d m h
one_text c n g d m h p q e = same_said (said c n g) (said d m h) (texts.text_is_of_one (surface_form VERSION_1).lines (surface_due VERSION_1) IsSaid all_lines lawful_version_1 (said c n g) (said d m h) p q e)

-- the lines of a surface, spelled out
pub same_lines : (c : Chain) (n : ℕ) (g : Sides) → surface_lines c n g ≡ heading ∷ (words_lines c ++ (count_line (codes "copies") n ∷ (sides_lines g ++ ending ∷ [])))
same_lines c n g =
    let words = lines_map (word_kinds VERSION_1 VERSION_1.positions) word_line (λ b w. refl) [] c in
    let sides = lines_map (λ (b : Sides). a_side VERSION_1) side_line (λ b s. refl) [] g in
    λ i. heading ∷ ((count_line (codes "words") (length c) ∷ words i) ++ (count_line (codes "copies") n ∷ ((count_line (codes "sides") (length g) ∷ sides i) ++ ending ∷ [])))

-- ---- a surface that was read

-- what the lines told is in its ranges
pub told_in_range : (bytes : List ℕ) (v : Said) → IsToldBy (surface_due VERSION_1) bytes v → IsSaid v
told_in_range bytes v told = lawful_version_1.in_range told.lines v told.reads

-- a surface that the lines told, or a fault of the text, is what a reader of surface texts answers
pub surface_read : (bytes : List ℕ) (r : Result SurfaceText TextFault) → IfOk r (λ s. IsToldBy (surface_due VERSION_1) bytes (said_by s)) → IfErr r (IsFaultOf (plan_of (surface_due VERSION_1)) bytes) → IsSurfaceRead bytes r
surface_read bytes r = texts.text_of_read (surface_form VERSION_1).lines (surface_due VERSION_1) IsSaid all_lines lawful_version_1 bytes said_by r

module _ (bytes : List ℕ) (r : Result SurfaceText TextFault) (read : IsSurfaceRead bytes r) where
  -- a text that was read has no fault
  pub is_faultless : OnOk r (IsFaultless surface_plan bytes)
  unfolding surface_plan
  is_faultless = texts.faultless (surface_form VERSION_1).lines (surface_due VERSION_1) IsSaid all_lines lawful_version_1 bytes said_by r read

  -- a refusal names the first fault of the text, or want of memory
  pub is_malformed : IfErr r (IsFaultOf surface_plan bytes)
  unfolding surface_plan
  is_malformed = read.malformed

  -- a text with a fault is refused, by its first fault or for want of memory
  pub only_first : (line : ℕ) (kind : Kind) → IsFirstFault surface_plan bytes line kind → IsErrAnd r (λ e. (e ≡ text_faults.Malformed line kind) ⊎ (e ≡ text_faults.Memory))
  unfolding surface_plan
  only_first line kind first = texts.only (surface_form VERSION_1).lines (surface_due VERSION_1) IsSaid all_lines lawful_version_1 bytes said_by r read line kind first

  -- the text of a surface in range is read as that surface, unless memory runs out
  pub is_same : (c : Chain) (n : ℕ) (g : Sides) → IsSurfaceInRange c n g → bytes ≡ surface_text c n g → MatchResult r (λ s. (s.chain ≡ c) × (s.n ≡ n) × (s.sides.items ≡ g)) (λ e. e ≡ text_faults.Memory)
  is_same c n g h e =
      MatchResult-from_both r _ _
      (IfOk-weaker r _ _ (λ s same. let is = same_said (said_by s) (said c n g) same in (is.words, is.copies, is.sides))
      (texts.reads_again (surface_form VERSION_1).lines (surface_due VERSION_1) IsSaid all_lines lawful_version_1 bytes said_by r read (said c n g) h e))
      (texts.memory (surface_form VERSION_1).lines (surface_due VERSION_1) IsSaid all_lines lawful_version_1 bytes said_by r read (said c n g) h e)
