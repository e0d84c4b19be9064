-- No input is left without an answer.
use Rattle.std.proofs.Common.{Bool, true, false, codes, take, drop, pred, ◌≡◌, ℕ, suc, ◌*◌, ◌/◌, ◌<◌, ◌≤◌, ◌⊎◌, inl, inr, List, [], length, None, Some, IsSome, ℤ, pos, ◌+◌, ◌*ℤ◌, unsigned_abs, int_div, refl, ap, sym, ◌∙◌, subst, arith}
use Rattle.std.proofs.lemmas.Bool.{cases_Bool, cases_eq, cases_lt, cond-true, cond-false}
use Rattle.std.proofs.lemmas.Int.{ints}
use borrow.Author.Differences.{up, down}
use Rattle.sc_theory.specs.Chains.{Chain, positions, chain_total, IsBalanced}
use Rattle.sc_theory.specs.Fatgraphs.{Sides, IsFatgraph, cost}
use Rattle.sc_theory.specs.Prices.{Vouch}
use Rattle.sc_theory.proofs.Reduction.{cases_option}
use Rattle.sc_line.specs.declared.fault.Kind.{Kind}
use Rattle.sc_words.specs.declared.lines.RawLine.{RawLine}
use Rattle.sc_words.specs.declared.limits.TheConstants.{GENERATORS}
use Rattle.sc_chain.specs.declared.limits.TheConstants.{MAX_WORDS, MAX_POSITIONS}
use Rattle.std.specs.List.{All}
use Rattle.sc_words.specs.ChainText.{IsChainText, IsRawLine, line_case, line_at, line_kind, text_lines, raw_lines}
use Rattle.sc_chain.specs.Balance.{IsFirstUnbalanced}
use Rattle.sc_chain.specs.Faults.{AreGenerators}
use Rattle.sc_chain.proofs.Balanced.{chain_total_beyond}
use Rattle.sc_words.proofs.ReadingLaws.{raw_lines_in_range}
use Rattle.sc_reduce.specs.Lines.{chain_of, IsWithin}
use Rattle.sc_reduce.proofs.LineLaws.{generators_of_chain}
use Rattle.sc_line.specs.Faults.{Plan, IsFaultless, fault_at}
use Rattle.sc_text.specs.Surfaces.{surface_plan}
use Rattle.sc_text.proofs.SurfaceLaws.{readable_text}
use Rattle.sc_certificate.specs.Certificates.{Certificate, certificate_plan}
use Rattle.sc_certificate.proofs.TextLaws.{faultless_is_text}
use Rattle.sc_fatgraph.specs.declared.flaws.FlawKind.{FlawKind}
use Rattle.sc_fatgraph.specs.declared.flaws.FlawKind.TheVariants.{Range, Mate, Letter, Next, Label, Count}
use Rattle.sc_fatgraph.specs.Flaws.{HasFlaw, IsFirstFlaw, rank}
use Rattle.sc_fatgraph.proofs.FlawLaws.{IsFlawlessBelow, flawless_none, flawless_more, flawless_all, fatgraph_is}
use Rattle.sc_prices.specs.declared.flaws.TableFlaw.{TableFlaw}
use Rattle.sc_prices.specs.declared.flaws.TableFlaw.TheVariants.{Start, Step}
use Rattle.sc_prices.specs.declared.verdict.Condition.TheVariants.{Flaw, Value, Table, NotTight}
use Rattle.sc_prices.specs.Flaws.{HasStartFlaw, HasStepFlaw, HasTableFlaw, IsBefore, IsFirstTableFlaw}
use Rattle.sc_prices.specs.inside.OneTable.{start_of}
use Rattle.sc_prices.proofs.TableFlaws.{flawless_vouch}
use Rattle.sc_fraction.specs.declared.frac.Frac.{Frac}
use Rattle.sc_fraction.specs.Frac.{IsQuotient}
use Rattle.sc_whole.proofs.ExactDivision.{exact_quotient}
use Rattle.sc_fraction.proofs.Arithmetic.{divided_positive, divided_coprime}
use Rattle.std.proofs.lemmas.Nat.Gcd.{IsGcd-swap}
use Rattle.sc_whole.proofs.DivisorLaws.{gcd_exists, IsGcd-pos}
use Rattle.sc_algebra.proofs.Ints.{products}
use Rattle.sc_app.specs.declared.command.Command.{Command}
use Rattle.sc_app.specs.declared.command.Command.TheVariants.{Surface, Shape, Check, Svg, Scl, Ball, Generate}
use Rattle.sc_app.specs.declared.command.Reading.{Reading}
use Rattle.sc_app.specs.declared.command.Reading.TheVariants.{Nothing, AtMost}
use Rattle.sc_app.specs.declared.said.Heading.TheVariants.{CertificateText, SurfaceText}
use Rattle.sc_app.specs.declared.status.Status.{Status}
use Rattle.sc_app.specs.declared.status.Status.TheVariants.{Done, Malformed, Large, Rejected}
use Rattle.sc_app.specs.declared.status.What.TheVariants.{Bytes, Words, Positions}
use Rattle.sc_app.specs.Reading.{reads}
use Rattle.sc_app.specs.Rejections.{rejection}
use Rattle.sc_app.specs.Said.{IsCertificateText, Says, RespondsBySides, is_headed_as_certificate, plan_of, plan_for}
use Rattle.sc_app.specs.Surface.{IsReport, report}
use Rattle.sc_app.specs.Shape.{IsShape}
use Rattle.sc_app.specs.Svg.{IsPicture, FanResponds, RespondsByHead, is_headed_as_fan}
use Rattle.sc_app.specs.Ball.{BallResponds, HasSeveralBalls, both_of, infinite_in}
use Rattle.sc_two.specs.TwoTexts.{IsTwoText}
use Rattle.sc_fan.specs.Fans.{fan_plan}
use Rattle.sc_fan.proofs.TextLaws as fans
use Rattle.sc_app.proofs.TwoTexts.{two_texts}
use Rattle.sc_app.proofs.FanDrawings.{some_fan_drawing}
use Rattle.sc_app.specs.Check.{CheckResponds, optimal}
use Rattle.sc_app.specs.Scl.{SclResponds, HasSeveralAnswers, infinite}
use Rattle.sc_app.specs.Answers.{Responds, RespondsBy, AnswersTo, IsDetermined, DeterminedBy}
use Rattle.sc_app.proofs.FirstPlaces.{none_at_all, first_some}
use Rattle.sc_app.proofs.ShapeLaws.{some_shape}
use Rattle.sc_app.proofs.DrawingLaws.{some_drawing}

-- ---- texts and sides

-- a text without a first fault has none
faultless : (plan : Plan) (input : List ℕ) → ((i : ℕ) (kind : Kind) → fault_at plan input i ≡ Some kind → ((j : ℕ) → j < i → fault_at plan input j ≡ None) → ⊥) → IsFaultless plan input
faultless plan input never i = first_some (fault_at plan input) never (suc i) i (omega arith)

-- sides without a first flaw are a fatgraph
module _ (c : Chain) (n : ℕ) (g : Sides) (some : 0 < n) (never : (kind : FlawKind) (place : ℕ) → ¬ IsFirstFlaw c n g kind place) where
  of_kind : (kind : FlawKind) → IsFlawlessBelow c n g (rank kind) → (place : ℕ) → ¬ HasFlaw c n g kind place
  of_kind kind below = none_at_all (HasFlaw c n g kind) (λ place here before. never kind place (record { here = here; kinds = below.none; places = before }))

  more : (kind : FlawKind) → IsFlawlessBelow c n g (rank kind) → IsFlawlessBelow c n g (suc (rank kind))
  more kind below = flawless_more c n g kind below (of_kind kind below)

  all_kinds : IsFlawlessBelow c n g 6
  all_kinds = more Count (more Label (more Next (more Letter (more Mate (more Range (flawless_none c n g))))))

  pub is_fatgraph : IsFatgraph c n g
  is_fatgraph = fatgraph_is c n g some (flawless_all c n g all_kinds)

-- ---- surfaces

module _ (Tells : Chain → ℕ → Sides → List ℕ → Type 0) (input : List ℕ) (none : (s : Status) (text : List ℕ) → ¬ RespondsBySides Tells input s text) where
  good_surface : IsFaultless (plan_for input) input
  good_surface = faultless (plan_for input) input (λ i kind here before. none (Malformed i kind) [] (record { here = here; least = before }, refl))

  -- a text that says a surface
  record IsOfSurface : Type 0 where
    chain : Chain
    copies : ℕ
    sides : Sides
    some : 0 < copies
    says : Says input chain copies sides

  of_surface : IsOfSurface
  of_surface = elim (cases_Bool (is_headed_as_certificate input)) [
    | inl headed ↦
        let plan : plan_for input ≡ certificate_plan = ap plan_of (cond-true (is_headed_as_certificate input) CertificateText SurfaceText headed) in
        let t = faultless_is_text input (subst (λ (p : Plan). IsFaultless p input) plan good_surface) in
        record {
          chain = t.0.chain;
          copies = t.0.copies;
          sides = t.0.sides;
          some = omega (arith, t.1.some_copies);
          says = inr (record { certificate = t.0; text = record { text = t.2; in_range = t.1 }; chain = refl; copies = refl; sides = refl });
        }
    | inr other ↦
        let plan : plan_for input ≡ surface_plan = ap plan_of (cond-false (is_headed_as_certificate input) CertificateText SurfaceText other) in
        let t = readable_text input (subst (λ (p : Plan). IsFaultless p input) plan good_surface) in
        record {
          chain = t.words;
          copies = t.copies;
          sides = t.sides;
          some = omega (arith, t.in_range.low);
          says = inl (record { text = t.is; in_range = t.in_range });
        }
  ]

  sides_answered : ((c : Chain) (n : ℕ) (g : Sides) → IsFatgraph c n g → ((text : List ℕ) → ¬ Tells c n g text) → ⊥) → ⊥
  sides_answered some =
      let t = of_surface in
      let fatgraph : IsFatgraph t.chain t.copies t.sides =
      is_fatgraph t.chain t.copies t.sides t.some
      (λ kind place first. none (Rejected (Flaw kind place)) (rejection (Flaw kind place)) (t.chain, t.copies, t.sides, t.says, first, refl)) in
      some t.chain t.copies t.sides fatgraph (λ text tells. none Done text (t.chain, t.copies, t.sides, t.says, fatgraph, tells))

-- ---- certificates

-- tables without a first flaw vouch
module _ (v : Certificate) (never : (flaw : TableFlaw) → ¬ IsFirstTableFlaw v.chain v.list v.tables flaw) where
  abbrev InTable : ℕ → Type 0
  InTable s = (flaw : TableFlaw) × (start_of flaw ≡ s) × HasTableFlaw v.chain v.list v.tables flaw

  module _ (s : ℕ) (earlier : (t : ℕ) → t < s → ¬ InTable t) where
    table_before : (other : TableFlaw) → start_of other < s → ¬ HasTableFlaw v.chain v.list v.tables other
    table_before other less h = earlier (start_of other) less (other, refl, h)

    no_start : ¬ HasStartFlaw v.chain v.tables s
    no_start h = never (Start s) (record { here = h; before = before })
      where
        before : (other : TableFlaw) → IsBefore other (Start s) → ¬ HasTableFlaw v.chain v.list v.tables other
        before (Start t) less = table_before (Start t) less
        before (Step t k l) less = table_before (Step t k l) less

    abbrev FromPlace : ℕ → Type 0
    FromPlace i = (j : ℕ) × HasStepFlaw v.chain v.list v.tables s i j

    module _ (i : ℕ) (places : (k : ℕ) → k < i → ¬ FromPlace k) where
      no_step : (j : ℕ) → ¬ HasStepFlaw v.chain v.list v.tables s i j
      no_step = none_at_all (HasStepFlaw v.chain v.list v.tables s i) (λ j here ends. never (Step s i j) (record { here = here; before = before j ends }))
        where
          before : (j : ℕ) → ((l : ℕ) → l < j → ¬ HasStepFlaw v.chain v.list v.tables s i l) → (other : TableFlaw) → IsBefore other (Step s i j) → ¬ HasTableFlaw v.chain v.list v.tables other
          before j ends (Start t) le = elim (cases_eq t s) [
            | inl same ↦ λ h. no_start (subst (HasStartFlaw v.chain v.tables) same h)
            | inr other ↦ table_before (Start t) (omega (arith, le, other))
          ]
          before j ends (Step t k l) (inl less) = table_before (Step t k l) less
          before j ends (Step t k l) (inr (same, inl less)) = λ h. places k less (l, subst (λ (x : ℕ). HasStepFlaw v.chain v.list v.tables x k l) same h)
          before j ends (Step t k l) (inr (same, inr (here, less))) = λ h.
              ends l less (subst (λ (x : ℕ). HasStepFlaw v.chain v.list v.tables s x l) here (subst (λ (x : ℕ). HasStepFlaw v.chain v.list v.tables x k l) same h))

    no_place : (i : ℕ) → ¬ FromPlace i
    no_place = none_at_all FromPlace (λ i here places. no_step i places here.0 here.1)

    no_table : ¬ InTable s
    no_table (Start t, same, h) = no_start (subst (HasStartFlaw v.chain v.tables) same h)
    no_table (Step t i j, same, h) = no_place i (j, subst (λ (x : ℕ). HasStepFlaw v.chain v.list v.tables x i j) same h)

  pub tables_vouch : Vouch v.chain v.list v.tables
  tables_vouch = flawless_vouch v.chain v.list v.tables (λ flaw h. none_at_all InTable (λ s here earlier. no_table s earlier here) (start_of flaw) (flaw, refl, h))

-- no input of `check` is without an answer
pub check_answered : (input : List ℕ) → ((s : Status) (text : List ℕ) → ¬ CheckResponds input s text) → ⊥
check_answered input none =
    let t = faultless_is_text input (faultless certificate_plan input (λ i kind here before. none (Malformed i kind) [] (record { here = here; least = before }, refl))) in
    let v : Certificate = t.0 in
    let said : IsCertificateText input v = record { text = t.2; in_range = t.1 } in
    let some : 0 < v.copies = omega (arith, t.1.some_copies) in
    let fatgraph : IsFatgraph v.chain v.copies v.sides =
    is_fatgraph v.chain v.copies v.sides some (λ kind place first. none (Rejected (Flaw kind place)) (rejection (Flaw kind place)) (v, said, first, refl)) in
    none (Rejected Value) (rejection Value) (
      v,
      said,
      record {
        fatgraph = fatgraph;
        value = λ value.
            let vouch : Vouch v.chain v.list v.tables =
            tables_vouch v (λ flaw first. none (Rejected (Table flaw)) (rejection (Table flaw)) (v, said, record { fatgraph = fatgraph; value = value; tables = first }, refl)) in
            none (Rejected NotTight) (rejection NotTight) (
              v,
              said,
              record {
                fatgraph = fatgraph;
                value = value;
                tables = vouch;
                tight = λ tight. none Done (optimal v.value) (v, said, record { fatgraph = fatgraph; value = value; tables = vouch; tight = tight }, refl);
              },
              refl,
            );
      },
      refl,
    )

-- ---- chains

-- equal whole numbers, or not
cases_int : (a b : ℤ) → (a ≡ b) ⊎ (a ≡ b → ⊥)
cases_int a b = elim (cases_eq (up a + down b) (up b + down a)) [ inl e ↦ inl (omega (arith, ints)) | inr f ↦ inr (λ e. f (omega (arith, ints, e))) ]

-- a chain whose letters are those of the generators, and that isn't balanced, has a first unbalanced generator
module _ (c : Chain) (letters : AreGenerators c) (never : (g : ℕ) (t : ℤ) → ¬ IsFirstUnbalanced c g t) where
  abbrev Unbalanced : ℕ → Type 0
  Unbalanced g = (g < GENERATORS) × (chain_total g c ≡ pos 0 → ⊥)

  zero_total : (g : ℕ) → g < GENERATORS → ¬ Unbalanced g → chain_total g c ≡ pos 0
  zero_total g below h = elim (cases_int (chain_total g c) (pos 0)) [ inl e ↦ e | inr f ↦ absurd (h (below, f)) ]

  pub is_balanced : IsBalanced c
  is_balanced g = elim (cases_lt g GENERATORS) [
    | inr beyond ↦ chain_total_beyond c g (λ w k in_chain in_word. omega (arith, letters w k in_chain in_word))
    | inl below ↦
        zero_total g below
        (none_at_all Unbalanced
        (λ h here before. never h (chain_total h c) (record {
          in_range = here.0;
          total_is = refl;
          unbalanced = here.1;
          least = λ k less. zero_total k (omega (arith, less, here.0)) (before k less);
        })) g)
  ]

module _ (n : ℕ) (input : List ℕ) (one : ¬ HasSeveralAnswers input) (none : (s : Status) (text : List ℕ) → ¬ SclResponds n input s text) where
  abbrev NoCase : ℕ → Type 0
  NoCase n = (1 ≤ n) × (n ≤ length (text_lines input)) × (line_case (line_at input n) ≡ None)

  some_case : (n : ℕ) → 1 ≤ n → n ≤ length (text_lines input) → ¬ NoCase n → IsSome (line_case (line_at input n))
  some_case n low high h = elim (cases_option (line_case (line_at input n))) [
    | inl absent ↦ absurd (h (low, high, absent))
    | inr there ↦ subst IsSome (sym there.1) refl
  ]

  no_case : (n : ℕ) → ¬ NoCase n
  no_case = none_at_all NoCase
      (λ n here before. none (Malformed n (line_kind (line_at input n))) [] (
        record {
          counted = here.0;
          in_text = here.1;
          no_case = here.2;
          before = λ m low less. some_case m low (omega (arith, less, here.1)) (before m less);
          kind_is = refl;
        },
        refl,
      ))

  lines : List RawLine
  lines = raw_lines 1 (text_lines input)

  good_text : IsChainText input lines
  unfolding lines
  good_text = record { cases = λ n low high. some_case n low high (no_case n); entries = refl }

  small_answered : IsWithin (chain_of lines) → ⊥
  unfolding lines
  small_answered within =
      let balanced : IsBalanced (chain_of lines) =
      is_balanced (chain_of lines) (generators_of_chain lines (raw_lines_in_range 1 (text_lines input)))
      (λ g t first. none Done (infinite g t) (lines, good_text, within, inl (record { generator = g; total = t; first = first; text_is = refl }))) in
      one (lines, good_text, within, balanced)

  -- so an input of `scl` that has one right answer isn't without it
  pub scl_answered : ⊥
  scl_answered = elim (cases_lt MAX_WORDS (length (chain_of lines))) [
    | inl many ↦ none (Large (Words (length (chain_of lines)))) [] (lines, good_text, record { many = many; count_is = refl }, refl)
    | inr few ↦ elim (cases_lt MAX_POSITIONS (positions (chain_of lines))) [
      | inl many ↦ none (Large (Positions (positions (chain_of lines)))) [] (lines, good_text, record { few_words = few; many = many; count_is = refl }, refl)
      | inr small ↦ small_answered (record { few_words = few; few_positions = small })
    ]
  ]

-- ---- two chains

generators_of : (lines : List RawLine) → All IsRawLine lines → AreGenerators (chain_of lines)
generators_of lines raw = generators_of_chain lines raw

module _ (n : ℕ) (input : List ℕ) (one : ¬ HasSeveralBalls input) (none : (s : Status) (text : List ℕ) → ¬ BallResponds n input s text) where
  two : (first : List RawLine) × (second : List RawLine) × IsTwoText input first second
  two = two_texts input (λ i kind wrong. none (Malformed i kind) [] (wrong, refl))

  module _ (first second : List RawLine) (read : IsTwoText input first second) where
    both_small : IsWithin (both_of first second) → ⊥
    both_small within =
        let first_balanced : IsBalanced (chain_of first) =
        is_balanced (chain_of first) (generators_of first (subst (All IsRawLine) (sym read.first_is) (raw_lines_in_range 1 (take (pred read.separator) (text_lines input)))))
        (λ g t unbalanced. none Done (infinite_in (codes "first") g t) (first, second, read, (within, inl (record { generator = g; total = t; unbalanced = unbalanced; text_is = refl })))) in
        let second_balanced : IsBalanced (chain_of second) =
        is_balanced (chain_of second) (generators_of second (subst (All IsRawLine) (sym read.second_is) (raw_lines_in_range (suc read.separator) (drop read.separator (text_lines input)))))
        (λ g t unbalanced. none Done (infinite_in (codes "second") g t)
        (first, second, read, (within, inr (inl (record { balanced = first_balanced; generator = g; total = t; unbalanced = unbalanced; text_is = refl }))))) in
        one (first, second, read, (within, (first_balanced, second_balanced)))

    read_answered : ⊥
    read_answered = elim (cases_lt MAX_WORDS (length (both_of first second))) [
      | inl many ↦ none (Large (Words (length (both_of first second)))) [] (first, second, read, (record { many = many; count_is = refl }, refl))
      | inr few ↦ elim (cases_lt MAX_POSITIONS (positions (both_of first second))) [
        | inl many ↦ none (Large (Positions (positions (both_of first second)))) [] (first, second, read, (record { few_words = few; many = many; count_is = refl }, refl))
        | inr small ↦ both_small (record { few_words = few; few_positions = small })
      ]
    ]

  -- so an input of `ball` that has one right answer isn't without it
  pub ball_answered : ⊥
  ball_answered = read_answered two.0 two.1 two.2

-- ---- fans

-- a text that is headed as a fan is drawn: `some_fan_drawing` is to be proved beside `one_fan_drawing`
fan_answered : (input : List ℕ) → ((s : Status) (text : List ℕ) → ¬ FanResponds input s text) → ⊥
fan_answered input none =
    let t = fans.faultless_is_text input (faultless fan_plan input (λ i kind here before. none (Malformed i kind) [] (record { here = here; least = before }, refl))) in
    some_fan_drawing t.0.corners t.1.corners (λ text drawn. none Done text (t.0, record { text = t.2; in_range = t.1 }, drawn))

svg_answered : (head : Bool) (input : List ℕ) → ((s : Status) (text : List ℕ) → ¬ RespondsByHead head input s text) → ⊥
svg_answered true input none = fan_answered input none
svg_answered false input none = sides_answered IsPicture input none (λ c n g fatgraph never. some_drawing c n g fatgraph never)

-- ---- commands

-- a fraction in lowest terms for each quotient
frac_exists : (z : ℤ) (m : ℕ) → 0 < m → (f : Frac) × IsQuotient z (pos m) f
frac_exists z m some =
    let g = gcd_exists (unsigned_abs z) m in
    let above : 0 < g.0 = IsGcd-pos m (unsigned_abs z) g.0 some (IsGcd-swap (unsigned_abs z) m g.0 g.1) in
    let num : ℤ = int_div z (pos g.0) in
    let den : ℤ = pos (m / g.0) in
    let of_z : pos g.0 *ℤ num ≡ z = exact_quotient z g.0 g.1.0 in
    let of_m : pos g.0 *ℤ den ≡ pos m = exact_quotient (pos m) g.0 g.1.1 in (
      record {
        num = num;
        den = den;
        positive = divided_positive g.0 den (pos m) of_m (omega (arith, ints));
        reduced = divided_coprime z (pos m) num den g.0 above of_z of_m g.1;
      },
      ap (λ (t : ℤ). num *ℤ t) (sym of_m) ∙ regroup (pos g.0) num den ∙ ap (λ (t : ℤ). t *ℤ den) of_z,
    )
  where
    regroup : (k a b : ℤ) → a *ℤ (k *ℤ b) ≡ (k *ℤ a) *ℤ b
    regroup k a b = simp products (omega (arith, ints))

some_report : (c : Chain) (n : ℕ) (g : Sides) → IsFatgraph c n g → ((text : List ℕ) → ¬ IsReport c n g text) → ⊥
some_report c n g fatgraph never =
    let f = frac_exists (cost g) (2 * n) (omega (arith, fatgraph.copies)) in
    never (report g f.0) (f.0, f.1, refl)

answered : (c : Command) (input : List ℕ) → IsDetermined c input → ((s : Status) (text : List ℕ) → ¬ Responds c input s text) → ⊥
answered Surface input one none = sides_answered IsReport input none (λ c n g fatgraph never. some_report c n g fatgraph never)
answered Shape input one none = sides_answered IsShape input none (λ c n g fatgraph never. some_shape c n g never)
answered Svg input one none = svg_answered (is_headed_as_fan input) input none
answered Check input one none = check_answered input none
answered (Scl pivots) input one none = scl_answered pivots input one none
answered (Ball pivots) input one none = ball_answered pivots input one none
answered (Generate seed letters) input one none = absurd one

-- no command is without an answer to an input that is determined
pub some_answer : (c : Command) (input : List ℕ) → DeterminedBy (reads c) c input → ((s : Status) (text : List ℕ) → ¬ AnswersTo c input s text) → ⊥
some_answer c input one none = by_reading (reads c) one none
  where
    by_reading : (reading : Reading) → DeterminedBy reading c input → ((s : Status) (text : List ℕ) → ¬ RespondsBy reading c input s text) → ⊥
    by_reading Nothing one none = answered c [] one none
    by_reading (AtMost limit) one none = elim (cases_lt limit (length input)) [
      | inl long ↦ none (Large Bytes) [] (inl (long, refl, refl))
      | inr short ↦ answered c input one (λ s text r. none s text (inr (short, r)))
    ]
