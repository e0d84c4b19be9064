-- With its status, the text of an answer is determined too.
use Rattle.std.proofs.Common.{◌≡◌, ℕ, Bool, true, false, codes, ◌*◌, ◌<◌, inl, inr, List, [], ℤ, pos, ◌*ℤ◌, ap, ap₂, ◌∙◌, subst, sym, arith}
use Rattle.std.proofs.lemmas.Int.{ints}
use Rattle.sc_algebra.proofs.Ints.{cancel_factor, products}
use Rattle.sc_theory.specs.Chains.{Chain, IsBalanced}
use Rattle.sc_chain.specs.Balance.{IsFirstUnbalanced}
use Rattle.sc_fan.specs.Fans.{FanSaid}
use Rattle.sc_theory.specs.Fatgraphs.{Sides, IsFatgraph, cost}
use Rattle.sc_fraction.specs.declared.frac.Frac.{Frac}
use Rattle.sc_fraction.specs.Frac.{IsQuotient, numerator, denominator}
use Rattle.sc_fraction.proofs.SameValues.{same_frac}
use Rattle.sc_words.specs.declared.lines.RawLine.{RawLine}
use Rattle.sc_reduce.specs.Lines.{chain_of}
use Rattle.sc_certificate.specs.Certificates.{Certificate}
use Rattle.sc_prices.specs.declared.verdict.Condition.TheVariants.{Flaw}
use Rattle.sc_app.specs.declared.command.Command.{Command}
use Rattle.sc_app.specs.declared.command.Command.TheVariants.{Surface, Shape, Check, Svg, Scl, Ball, Generate}
use Rattle.sc_app.specs.declared.status.Status.{Status}
use Rattle.sc_app.specs.declared.status.Status.TheVariants.{Done, Malformed, Large, Rejected, Budget, Wide}
use Rattle.sc_app.specs.declared.status.Status.TheVariants as statuses
use Rattle.sc_app.specs.declared.status.What.TheVariants.{Words, Positions}
use Rattle.sc_text.proofs.SurfaceLaws.{SameSurface}
use Rattle.sc_app.specs.Surface.{IsReport, report}
use Rattle.sc_app.specs.Shape.{IsShape}
use Rattle.sc_app.specs.Svg.{IsPicture, IsFanPicture, FanResponds, RespondsByHead, is_headed_as_fan}
use Rattle.sc_app.specs.Ball.{BallResponds, HasSeveralBalls, DoneFor, infinite_in}
use Rattle.sc_app.specs.Check.{CheckResponds, optimal}
use Rattle.sc_app.specs.Scl.{SclResponds, IsInfinite, HasSeveralAnswers}
use Rattle.sc_app.specs.Said.{Refuses, RespondsBySides}
use Rattle.sc_app.specs.declared.command.Reading.{Reading}
use Rattle.sc_app.specs.declared.command.Reading.TheVariants.{Nothing, AtMost}
use Rattle.sc_app.specs.Answers.{Responds, RespondsBy, IsDetermined, DeterminedBy}
use Rattle.sc_app.proofs.Inputs.{same_certificate, same_fan, same_surface}
use Rattle.sc_app.proofs.Chains.{same_lines, same_infinite, same_unbalanced}
use Rattle.sc_app.proofs.TwoTexts.{same_two}
use Rattle.sc_app.proofs.FanDrawings.{one_fan_drawing}
use Rattle.sc_app.proofs.ShapeLaws.{one_shape}
use Rattle.sc_app.proofs.DrawingLaws.{one_drawing}

-- ---- surfaces

-- two quotients of the same numbers are one number
same_quotients : (a b p q c z : ℤ) → (z ≡ pos 0 → ⊥) → a *ℤ z ≡ c *ℤ b → p *ℤ z ≡ c *ℤ q → a *ℤ q ≡ p *ℤ b
same_quotients a b p q c z some e f =
    let first = simp products at (ap (λ (t : ℤ). t *ℤ q) e) in
    let second = simp products at (ap (λ (t : ℤ). t *ℤ b) f) in
    cancel_factor z (a *ℤ q) (p *ℤ b) some (simp products (omega (arith, ints, first, second)))

same_fraction : (g : Sides) (n : ℕ) (f f' : Frac) → 0 < n → IsQuotient (cost g) (pos (2 * n)) f → IsQuotient (cost g) (pos (2 * n)) f' → f ≡ f'
same_fraction g n f f' some q q' =
    same_frac f f' (same_quotients (numerator f) (denominator f) (numerator f') (denominator f') (cost g) (pos (2 * n)) (λ none. omega (arith, ints, none)) q q')

one_report : (c : Chain) (n : ℕ) (g : Sides) (text text' : List ℕ) → IsFatgraph c n g → IsReport c n g text → IsReport c n g text' → text ≡ text'
one_report c n g text text' fatgraph r r' = r.2 ∙ ap (report g) (same_fraction g n r.0 r'.0 fatgraph.copies r.1 r'.1) ∙ sym r'.2

refusal_text : (input text text' : List ℕ) (s : Status) → Refuses input s text → Refuses input s text' → text ≡ text'
refusal_text input text text' (Malformed at kind) r r' = r.1 ∙ sym r'.1
refusal_text input text text' (Rejected (Flaw kind place)) r r' = r.5 ∙ sym r'.5
refusal_text input text text' _ r r' = absurd r

-- what is told of one surface is told of the same surface
told_along : (Tells : Chain → ℕ → Sides → List ℕ → Type 0) (text : List ℕ) (c : Chain) (n : ℕ) (g : Sides) (d : Chain) (m : ℕ) (h : Sides) → SameSurface c n g d m h → Tells c n g text → Tells d m h text
told_along Tells text c n g d m h same told =
    subst (λ (x : Sides). Tells d m x text) same.sides
    (subst (λ (x : ℕ). Tells d x g text) same.copies
    (subst (λ (x : Chain). Tells x n g text) same.words told))

-- one text is told of each surface
abbrev TellsOnce : (Chain → ℕ → Sides → List ℕ → Type 0) → Type 0
TellsOnce Tells = (c : Chain) (n : ℕ) (g : Sides) (text text' : List ℕ) → IsFatgraph c n g → Tells c n g text → Tells c n g text' → text ≡ text'

sides_text : (Tells : Chain → ℕ → Sides → List ℕ → Type 0) → TellsOnce Tells → (input text text' : List ℕ) (s : Status) → RespondsBySides Tells input s text → RespondsBySides Tells input s text' → text ≡ text'
sides_text Tells once input text text' Done r r' =
    let same = same_surface input r.0 r.1 r.2 r'.0 r'.1 r'.2 r.3 r'.3 in
    once r'.0 r'.1 r'.2 text text' r'.4 (told_along Tells text r.0 r.1 r.2 r'.0 r'.1 r'.2 same r.5) r'.5
sides_text Tells once input text text' s r r' = refusal_text input text text' s r r'

-- ---- certificates

check_text : (input text text' : List ℕ) (s : Status) → CheckResponds input s text → CheckResponds input s text' → text ≡ text'
check_text input text text' (Malformed at kind) r r' = r.1 ∙ sym r'.1
check_text input text text' (Rejected condition) r r' = r.3 ∙ sym r'.3
check_text input text text' Done r r' =
    r.3 ∙ ap (λ (v : Certificate). optimal v.value) (same_certificate input r.0 r'.0 r.1 r'.1) ∙ sym r'.3
check_text input text text' _ r r' = absurd r

-- ---- chains

same_infinite_text : (c : Chain) (text text' : List ℕ) → IsInfinite c text → IsInfinite c text' → text ≡ text'
same_infinite_text c text text' a b = a.text_is ∙ same_infinite c a.generator b.generator a.total b.total a.first b.first ∙ sym b.text_is

scl_text : (n : ℕ) (input text text' : List ℕ) (s : Status) → ¬ HasSeveralAnswers input → SclResponds n input s text → SclResponds n input s text' → text ≡ text'
scl_text n input text text' (Malformed at kind) one r r' = r.1 ∙ sym r'.1
scl_text n input text text' (Large (Words count)) one r r' = r.3 ∙ sym r'.3
scl_text n input text text' (Large (Positions count)) one r r' = r.3 ∙ sym r'.3
scl_text n input text text' Done one (lines, read, within, inl a) (lines', read', within', inl b) =
    same_infinite_text (chain_of lines') text text' (subst (λ (l : List RawLine). IsInfinite (chain_of l) text) (same_lines input lines lines' read read') a) b
scl_text n input text text' Done one (lines, read, within, inl a) (lines', read', within', inr b) = absurd (one (lines', read', within', b.balanced))
scl_text n input text text' Done one (lines, read, within, inr a) r' = absurd (one (lines, read, within, a.balanced))
scl_text n input text text' Budget one r r' = absurd (one (r.0, r.1, r.2, r.3.balanced))
scl_text n input text text' Wide one r r' = absurd (one (r.0, r.1, r.2, r.3.balanced))
scl_text n input text text' statuses.Sides one r r' = absurd (one (r.0, r.1, r.2, r.3.balanced))
scl_text n input text text' _ one r r' = absurd r.3

-- ---- two chains

-- the lines of one chain's first unbalanced generator
same_infinite_in : (name : List ℕ) (c : Chain) (text text' : List ℕ) (g h : ℕ) (t u : ℤ) → IsFirstUnbalanced c g t → IsFirstUnbalanced c h u
    → text ≡ infinite_in name g t → text' ≡ infinite_in name h u → text ≡ text'
same_infinite_in name c text text' g h t u a b e e' =
    let same = same_unbalanced c g h t u a b in e ∙ ap₂ (infinite_in name) same.0 same.1 ∙ sym e'

unbalanced_not : (c : Chain) (g : ℕ) (t : ℤ) → IsBalanced c → IsFirstUnbalanced c g t → ⊥
unbalanced_not c g t balanced a = a.unbalanced (a.total_is ∙ balanced g)

ball_text : (n : ℕ) (input text text' : List ℕ) (s : Status) → ¬ HasSeveralBalls input → BallResponds n input s text → BallResponds n input s text' → text ≡ text'
ball_text n input text text' (Malformed at kind) one r r' = r.1 ∙ sym r'.1
ball_text n input text text' (Large (Words count)) one r r' = r.3.1 ∙ sym r'.3.1
ball_text n input text text' (Large (Positions count)) one r r' = r.3.1 ∙ sym r'.3.1
ball_text n input text text' Done one r r' =
    let same = same_two input r.0 r.1 r'.0 r'.1 r.2 r'.2 in
    of_chains (chain_of r'.0) (chain_of r'.1)
    (λ balanced other. one (r'.0, r'.1, r'.2, (r'.3.0, (balanced, other))))
    (subst (λ (lines : List RawLine). DoneFor (chain_of r'.0) (chain_of lines) text) same.1 (subst (λ (lines : List RawLine). DoneFor (chain_of lines) (chain_of r.1) text) same.0 r.3.1)) r'.3.1
  where
    of_chains : (c d : Chain) → (IsBalanced c → IsBalanced d → ⊥) → DoneFor c d text → DoneFor c d text' → text ≡ text'
    of_chains c d never (inl a) (inl b) = same_infinite_in (codes "first") c text text' a.generator b.generator a.total b.total a.unbalanced b.unbalanced a.text_is b.text_is
    of_chains c d never (inl a) (inr (inl b)) = absurd (unbalanced_not c a.generator a.total b.balanced a.unbalanced)
    of_chains c d never (inl a) (inr (inr b)) = absurd (never b.first_balanced b.second_balanced)
    of_chains c d never (inr (inl a)) (inl b) = absurd (unbalanced_not c b.generator b.total a.balanced b.unbalanced)
    of_chains c d never (inr (inl a)) (inr (inl b)) = same_infinite_in (codes "second") d text text' a.generator b.generator a.total b.total a.unbalanced b.unbalanced a.text_is b.text_is
    of_chains c d never (inr (inl a)) (inr (inr b)) = absurd (never b.first_balanced b.second_balanced)
    of_chains c d never (inr (inr a)) other = absurd (never a.first_balanced a.second_balanced)
ball_text n input text text' Budget one r r' = absurd (one (r.0, r.1, r.2, (r.3.0, (r.3.1.first_balanced, r.3.1.second_balanced))))
ball_text n input text text' Wide one r r' = absurd (one (r.0, r.1, r.2, (r.3.0, (r.3.1.first_balanced, r.3.1.second_balanced))))
ball_text n input text text' statuses.Sides one r r' = absurd (one (r.0, r.1, r.2, (r.3.0, (r.3.1.first_balanced, r.3.1.second_balanced))))
ball_text n input text text' _ one r r' = absurd r.3.1

-- ---- fans

-- the drawing of corners is one text: to be proved beside `sc_svg`'s definitions, as `one_drawing` is for surfaces
fan_drawn : (input text text' : List ℕ) (s : Status) → FanResponds input s text → FanResponds input s text' → text ≡ text'
fan_drawn input text text' (Malformed at kind) r r' = r.1 ∙ sym r'.1
fan_drawn input text text' Done r r' =
    one_fan_drawing r'.0.corners text text'
    (subst (λ (v : FanSaid). IsFanPicture v.corners text) (same_fan input r.0 r'.0 r.1 r'.1) r.2) r'.2
fan_drawn input text text' _ r r' = absurd r

svg_text : (head : Bool) (input text text' : List ℕ) (s : Status) → RespondsByHead head input s text → RespondsByHead head input s text' → text ≡ text'
svg_text true input text text' s r r' = fan_drawn input text text' s r r'
svg_text false input text text' s r r' = sides_text IsPicture (λ c n g text text' fatgraph told told'. one_drawing c n g fatgraph text text' told told') input text text' s r r'

-- ---- commands

response_text : (c : Command) (input text text' : List ℕ) (s : Status) → IsDetermined c input → Responds c input s text → Responds c input s text' → text ≡ text'
response_text Surface input text text' s one r r' = sides_text IsReport one_report input text text' s r r'
response_text Shape input text text' s one r r' = sides_text IsShape (λ c n g text text' fatgraph told told'. one_shape c n g text text' told told') input text text' s r r'
response_text Svg input text text' s one r r' = svg_text (is_headed_as_fan input) input text text' s r r'
response_text Check input text text' s one r r' = check_text input text text' s r r'
response_text (Scl pivots) input text text' s one r r' = scl_text pivots input text text' s one r r'
response_text (Ball pivots) input text text' s one r r' = ball_text pivots input text text' s one r r'
response_text (Generate seed letters) input text text' s one r r' = absurd one

-- a command answers an input that is determined by one text for each status
pub one_text : (reading : Reading) (c : Command) (input text text' : List ℕ) (s : Status) → DeterminedBy reading c input → RespondsBy reading c input s text → RespondsBy reading c input s text' → text ≡ text'
one_text Nothing c input text text' s one a b = response_text c [] text text' s one a b
one_text (AtMost limit) c input text text' s one (inl a) (inl b) = a.2 ∙ sym b.2
one_text (AtMost limit) c input text text' s one (inl a) (inr b) = absurd (omega (arith, a.0, b.0))
one_text (AtMost limit) c input text text' s one (inr a) (inl b) = absurd (omega (arith, a.0, b.0))
one_text (AtMost limit) c input text text' s one (inr a) (inr b) = response_text c input text text' s one a.1 b.1
