-- An input has one answer.
use Rattle.std.proofs.Common.{◌≡◌, ℕ, Bool, true, false, ◌⊎◌, inl, inr, List, [], refl, ap, ap₂, ◌∙◌, subst, sym, arith}
use Rattle.sc_theory.specs.Chains.{Chain}
use Rattle.sc_theory.specs.Fatgraphs.{Sides, IsFatgraph}
use Rattle.sc_line.specs.declared.fault.Kind.{Kind}
use Rattle.sc_words.specs.declared.lines.RawLine.{RawLine}
use Rattle.sc_words.specs.ChainText.{IsChainText, IsFirstMalformed}
use Rattle.sc_reduce.specs.Lines.{chain_of, IsWithin, HasManyWords, HasManyPositions}
use Rattle.sc_line.specs.Faults.{IsFirstFault}
use Rattle.sc_line.proofs.FaultLaws.{first_fault-unique, faultless_first}
use Rattle.sc_text.proofs.SurfaceLaws.{SameSurface}
use Rattle.sc_fatgraph.specs.declared.flaws.FlawKind.{FlawKind}
use Rattle.sc_fatgraph.specs.Flaws.{IsFirstFlaw}
use Rattle.sc_fatgraph.proofs.FlawLaws.{fatgraph_has_none, first_flaw_alone}
use Rattle.sc_certificate.specs.Certificates.{Certificate, certificate_plan}
use Rattle.sc_prices.specs.declared.verdict.Condition.{Condition}
use Rattle.sc_prices.specs.declared.verdict.Condition.TheVariants.{Flaw}
use Rattle.sc_prices.specs.Conditions.{AllHold, IsFirstFailing}
use Rattle.sc_prices.proofs.Failing.{one_failing, none_failing}
use Rattle.sc_app.specs.declared.command.Command.{Command}
use Rattle.sc_app.specs.declared.command.Command.TheVariants.{Surface, Shape, Check, Svg, Scl, Ball, Generate}
use Rattle.sc_app.specs.declared.status.Status.{Status}
use Rattle.sc_app.specs.declared.status.Status.TheVariants.{Done, Malformed, Large, Rejected, Budget, Wide}
use Rattle.sc_app.specs.declared.status.Status.TheVariants as statuses
use Rattle.sc_app.specs.declared.status.What.TheVariants.{Words, Positions}
use Rattle.sc_app.specs.Forms.{IsForm}
use Rattle.sc_app.specs.Said.{IsCertificateText, Says, RespondsBySides, plan_for}
use Rattle.sc_app.specs.Surface.{IsReport}
use Rattle.sc_app.specs.Shape.{IsShape}
use Rattle.sc_app.specs.Svg.{IsPicture}
use Rattle.sc_app.specs.Check.{CheckResponds}
use Rattle.sc_fan.specs.Fans.{FanSaid, fan_plan}
use Rattle.sc_two.specs.TwoTexts.{IsTwoText, IsFirstWrong}
use Rattle.sc_two.proofs.Places.{good_or_wrong}
use Rattle.sc_app.specs.Scl.{SclResponds, HasSeveralAnswers}
use Rattle.sc_app.specs.Ball.{BallResponds, HasSeveralBalls, both_of}
use Rattle.sc_app.specs.Svg.{FanResponds, RespondsByHead, IsFanText, is_headed_as_fan}
use Rattle.sc_app.proofs.TwoTexts.{one_wrong, same_two}
use Rattle.sc_app.proofs.Inputs.{certificate_faultless, fan_faultless, same_certificate, says_no_fault, same_surface}
use Rattle.sc_app.proofs.OneText.{one_text}
use Rattle.sc_app.specs.declared.command.Reading.{Reading}
use Rattle.sc_app.specs.declared.command.Reading.TheVariants.{Nothing, AtMost}
use Rattle.sc_app.specs.Reading.{reads}
use Rattle.sc_app.specs.Answers.{Responds, RespondsBy, AnswersTo, Answers, IsDetermined, DeterminedBy, HasOneAnswer}
use Rattle.sc_app.proofs.Forms.{one_command}
use Rattle.sc_app.proofs.Chains.{one_malformed, good_or_malformed}

-- ---- surfaces

flaw_along : (c : Chain) (n : ℕ) (g : Sides) (d : Chain) (m : ℕ) (h : Sides) (kind : FlawKind) (place : ℕ) → SameSurface c n g d m h
    → IsFirstFlaw c n g kind place → IsFirstFlaw d m h kind place
flaw_along c n g d m h kind place same f =
    subst (λ (x : Sides). IsFirstFlaw d m x kind place) same.sides
    (subst (λ (x : ℕ). IsFirstFlaw d x g kind place) same.copies
    (subst (λ (x : Chain). IsFirstFlaw x n g kind place) same.words f))

-- what the status of a command comes of that tells of the sides of its input
abbrev SurfaceCause : List ℕ → Status → Type 0
SurfaceCause input s =
    ((at : ℕ) × (kind : Kind) × (s ≡ Malformed at kind) × IsFirstFault (plan_for input) input at kind)
    ⊎ (((kind : FlawKind) × (place : ℕ) × (c : Chain) × (n : ℕ) × (g : Sides) × (s ≡ Rejected (Flaw kind place)) × Says input c n g × IsFirstFlaw c n g kind place)
    ⊎ ((c : Chain) × (n : ℕ) × (g : Sides) × (s ≡ Done) × Says input c n g × IsFatgraph c n g))

surface_cause : (Tells : Chain → ℕ → Sides → List ℕ → Type 0) (input text : List ℕ) (s : Status) → RespondsBySides Tells input s text → SurfaceCause input s
surface_cause Tells input text (Malformed at kind) r = inl (at, kind, refl, r.0)
surface_cause Tells input text (Rejected (Flaw kind place)) r = inr (inl (kind, place, r.0, r.1, r.2, refl, r.3, r.4))
surface_cause Tells input text Done r = inr (inr (r.0, r.1, r.2, refl, r.3, r.4))
surface_cause Tells input text _ r = absurd r

one_surface_status : (input : List ℕ) (s s' : Status) → SurfaceCause input s → SurfaceCause input s' → s ≡ s'
one_surface_status input s s' (inl a) (inl b) =
    let same = first_fault-unique (plan_for input) input a.0 b.0 a.1 b.1 a.3 b.3 in a.2 ∙ ap₂ Malformed same.0 same.1 ∙ sym b.2
one_surface_status input s s' (inl a) (inr (inl b)) = absurd (says_no_fault input b.2 b.3 b.4 a.0 a.1 b.6 a.3)
one_surface_status input s s' (inl a) (inr (inr b)) = absurd (says_no_fault input b.0 b.1 b.2 a.0 a.1 b.4 a.3)
one_surface_status input s s' (inr (inl a)) (inl b) = absurd (says_no_fault input a.2 a.3 a.4 b.0 b.1 a.6 b.3)
one_surface_status input s s' (inr (inl a)) (inr (inl b)) =
    let along = flaw_along a.2 a.3 a.4 b.2 b.3 b.4 a.0 a.1 (same_surface input a.2 a.3 a.4 b.2 b.3 b.4 a.6 b.6) a.7 in
    let same = first_flaw_alone b.2 b.3 b.4 a.0 b.0 a.1 b.1 along b.7 in
    a.5 ∙ ap₂ (λ (k : FlawKind) (p : ℕ). Rejected (Flaw k p)) same.0 same.1 ∙ sym b.5
one_surface_status input s s' (inr (inl a)) (inr (inr b)) =
    let along = flaw_along a.2 a.3 a.4 b.0 b.1 b.2 a.0 a.1 (same_surface input a.2 a.3 a.4 b.0 b.1 b.2 a.6 b.4) a.7 in
    absurd (fatgraph_has_none b.0 b.1 b.2 b.5 a.0 a.1 along.here)
one_surface_status input s s' (inr (inr a)) (inl b) = absurd (says_no_fault input a.0 a.1 a.2 b.0 b.1 a.4 b.3)
one_surface_status input s s' (inr (inr a)) (inr (inl b)) =
    let along = flaw_along b.2 b.3 b.4 a.0 a.1 a.2 b.0 b.1 (same_surface input b.2 b.3 b.4 a.0 a.1 a.2 b.6 a.4) b.7 in
    absurd (fatgraph_has_none a.0 a.1 a.2 a.5 b.0 b.1 along.here)
one_surface_status input s s' (inr (inr a)) (inr (inr b)) = a.3 ∙ sym b.3

-- ---- certificates

-- what a status of `check` comes of
abbrev CheckCause : List ℕ → Status → Type 0
CheckCause input s =
    ((at : ℕ) × (kind : Kind) × (s ≡ Malformed at kind) × IsFirstFault certificate_plan input at kind)
    ⊎ (((condition : Condition) × (v : Certificate) × (s ≡ Rejected condition) × IsCertificateText input v × IsFirstFailing v condition)
    ⊎ ((v : Certificate) × (s ≡ Done) × IsCertificateText input v × AllHold v))

check_cause : (input text : List ℕ) (s : Status) → CheckResponds input s text → CheckCause input s
check_cause input text (Malformed at kind) r = inl (at, kind, refl, r.0)
check_cause input text (Rejected condition) r = inr (inl (condition, r.0, refl, r.1, r.2))
check_cause input text Done r = inr (inr (r.0, refl, r.1, r.2))
check_cause input text _ r = absurd r

failing_along : (input : List ℕ) (v w : Certificate) (condition : Condition) → IsCertificateText input v → IsCertificateText input w
    → IsFirstFailing v condition → IsFirstFailing w condition
failing_along input v w condition t u f = subst (λ (x : Certificate). IsFirstFailing x condition) (same_certificate input v w t u) f

one_check_status : (input : List ℕ) (s s' : Status) → CheckCause input s → CheckCause input s' → s ≡ s'
one_check_status input s s' (inl a) (inl b) =
    let same = first_fault-unique certificate_plan input a.0 b.0 a.1 b.1 a.3 b.3 in a.2 ∙ ap₂ Malformed same.0 same.1 ∙ sym b.2
one_check_status input s s' (inl a) (inr (inl b)) = absurd (faultless_first certificate_plan input a.0 a.1 (certificate_faultless input b.1 b.3) a.3)
one_check_status input s s' (inl a) (inr (inr b)) = absurd (faultless_first certificate_plan input a.0 a.1 (certificate_faultless input b.0 b.2) a.3)
one_check_status input s s' (inr (inl a)) (inl b) = absurd (faultless_first certificate_plan input b.0 b.1 (certificate_faultless input a.1 a.3) b.3)
one_check_status input s s' (inr (inl a)) (inr (inl b)) =
    a.2 ∙ ap Rejected (one_failing b.1 a.0 b.0 (failing_along input a.1 b.1 a.0 a.3 b.3 a.4) b.4) ∙ sym b.2
one_check_status input s s' (inr (inl a)) (inr (inr b)) =
    absurd (none_failing b.0 a.0 (failing_along input a.1 b.0 a.0 a.3 b.2 a.4) b.3)
one_check_status input s s' (inr (inr a)) (inl b) = absurd (faultless_first certificate_plan input b.0 b.1 (certificate_faultless input a.0 a.2) b.3)
one_check_status input s s' (inr (inr a)) (inr (inl b)) =
    absurd (none_failing a.0 b.0 (failing_along input b.1 a.0 b.0 b.3 a.2 b.4) a.3)
one_check_status input s s' (inr (inr a)) (inr (inr b)) = a.1 ∙ sym b.1

-- ---- chains

-- what a status of `scl` comes of where the input has one right answer
abbrev ChainCause : Chain → Status → Type 0
ChainCause c s =
    ((n : ℕ) × (s ≡ Large (Words n)) × HasManyWords c n) ⊎ (((n : ℕ) × (s ≡ Large (Positions n)) × HasManyPositions c n)
    ⊎ ((s ≡ Done) × IsWithin c))

abbrev SclCause : List ℕ → Status → Type 0
SclCause input s =
    ((at : ℕ) × (kind : Kind) × (s ≡ Malformed at kind) × IsFirstMalformed input at kind)
    ⊎ ((lines : List RawLine) × IsChainText input lines × ChainCause (chain_of lines) s)

scl_cause : (n : ℕ) (input text : List ℕ) (s : Status) → ¬ HasSeveralAnswers input → SclResponds n input s text → SclCause input s
scl_cause n input text (Malformed at kind) one r = inl (at, kind, refl, r.0)
scl_cause n input text (Large (Words count)) one r = inr (r.0, r.1, inl (count, refl, r.2))
scl_cause n input text (Large (Positions count)) one r = inr (r.0, r.1, inr (inl (count, refl, r.2)))
scl_cause n input text Done one r = inr (r.0, r.1, inr (inr (refl, r.2)))
scl_cause n input text Budget one r = absurd (one (r.0, r.1, r.2, r.3.balanced))
scl_cause n input text Wide one r = absurd (one (r.0, r.1, r.2, r.3.balanced))
scl_cause n input text statuses.Sides one r = absurd (one (r.0, r.1, r.2, r.3.balanced))
scl_cause n input text _ one r = absurd r.3

one_chain_status : (c : Chain) (s s' : Status) → ChainCause c s → ChainCause c s' → s ≡ s'
one_chain_status c s s' (inl a) (inl b) = a.1 ∙ ap (λ (n : ℕ). Large (Words n)) (a.2.count_is ∙ sym b.2.count_is) ∙ sym b.1
one_chain_status c s s' (inl a) (inr (inl b)) = absurd (omega (arith, a.2.many, b.2.few_words))
one_chain_status c s s' (inl a) (inr (inr b)) = absurd (omega (arith, a.2.many, b.1.few_words))
one_chain_status c s s' (inr (inl a)) (inl b) = absurd (omega (arith, b.2.many, a.2.few_words))
one_chain_status c s s' (inr (inl a)) (inr (inl b)) = a.1 ∙ ap (λ (n : ℕ). Large (Positions n)) (a.2.count_is ∙ sym b.2.count_is) ∙ sym b.1
one_chain_status c s s' (inr (inl a)) (inr (inr b)) = absurd (omega (arith, a.2.many, b.1.few_positions))
one_chain_status c s s' (inr (inr a)) (inl b) = absurd (omega (arith, b.2.many, a.1.few_words))
one_chain_status c s s' (inr (inr a)) (inr (inl b)) = absurd (omega (arith, b.2.many, a.1.few_positions))
one_chain_status c s s' (inr (inr a)) (inr (inr b)) = a.0 ∙ sym b.0

one_scl_status : (input : List ℕ) (s s' : Status) → SclCause input s → SclCause input s' → s ≡ s'
one_scl_status input s s' (inl a) (inl b) = a.2 ∙ one_malformed input a.0 b.0 a.1 b.1 a.3 b.3 ∙ sym b.2
one_scl_status input s s' (inl a) (inr b) = absurd (good_or_malformed input b.0 a.0 a.1 b.1 a.3)
one_scl_status input s s' (inr a) (inl b) = absurd (good_or_malformed input a.0 b.0 b.1 a.1 b.3)
one_scl_status input s s' (inr a) (inr b) =
    one_chain_status (chain_of b.0) s s' (subst (λ (lines : List RawLine). ChainCause (chain_of lines) s) (a.1.entries ∙ sym b.1.entries) a.2) b.2

-- ---- two chains

-- what a status of `ball` comes of where the input has one right answer
abbrev BallCause : List ℕ → Status → Type 0
BallCause input s =
    ((at : ℕ) × (kind : Kind) × (s ≡ Malformed at kind) × IsFirstWrong input at kind)
    ⊎ ((first : List RawLine) × (second : List RawLine) × IsTwoText input first second × ChainCause (both_of first second) s)

ball_cause : (n : ℕ) (input text : List ℕ) (s : Status) → ¬ HasSeveralBalls input → BallResponds n input s text → BallCause input s
ball_cause n input text (Malformed at kind) one r = inl (at, kind, refl, r.0)
ball_cause n input text (Large (Words count)) one r = inr (r.0, r.1, r.2, inl (count, refl, r.3.0))
ball_cause n input text (Large (Positions count)) one r = inr (r.0, r.1, r.2, inr (inl (count, refl, r.3.0)))
ball_cause n input text Done one r = inr (r.0, r.1, r.2, inr (inr (refl, r.3.0)))
ball_cause n input text Budget one r = absurd (one (r.0, r.1, r.2, (r.3.0, (r.3.1.first_balanced, r.3.1.second_balanced))))
ball_cause n input text Wide one r = absurd (one (r.0, r.1, r.2, (r.3.0, (r.3.1.first_balanced, r.3.1.second_balanced))))
ball_cause n input text statuses.Sides one r = absurd (one (r.0, r.1, r.2, (r.3.0, (r.3.1.first_balanced, r.3.1.second_balanced))))
ball_cause n input text _ one r = absurd r.3.1

one_ball_status : (input : List ℕ) (s s' : Status) → BallCause input s → BallCause input s' → s ≡ s'
one_ball_status input s s' (inl a) (inl b) = a.2 ∙ one_wrong input a.0 b.0 a.1 b.1 a.3 b.3 ∙ sym b.2
one_ball_status input s s' (inl a) (inr b) = absurd (good_or_wrong input b.0 b.1 a.0 a.1 b.2 a.3)
one_ball_status input s s' (inr a) (inl b) = absurd (good_or_wrong input a.0 a.1 b.0 b.1 a.2 b.3)
one_ball_status input s s' (inr a) (inr b) =
    let same = same_two input a.0 a.1 b.0 b.1 a.2 b.2 in
    one_chain_status (both_of b.0 b.1) s s' (subst (λ (c : Chain). ChainCause c s) (ap₂ both_of same.0 same.1) a.3) b.3

-- ---- fans

-- what a status of `svg` comes of where the input is headed as a fan
abbrev FanCause : List ℕ → Status → Type 0
FanCause input s =
    ((at : ℕ) × (kind : Kind) × (s ≡ Malformed at kind) × IsFirstFault fan_plan input at kind) ⊎ ((v : FanSaid) × (s ≡ Done) × IsFanText input v)

fan_cause : (input text : List ℕ) (s : Status) → FanResponds input s text → FanCause input s
fan_cause input text (Malformed at kind) r = inl (at, kind, refl, r.0)
fan_cause input text Done r = inr (r.0, refl, r.1)
fan_cause input text _ r = absurd r

one_fan_status : (input : List ℕ) (s s' : Status) → FanCause input s → FanCause input s' → s ≡ s'
one_fan_status input s s' (inl a) (inl b) = let same = first_fault-unique fan_plan input a.0 b.0 a.1 b.1 a.3 b.3 in a.2 ∙ ap₂ Malformed same.0 same.1 ∙ sym b.2
one_fan_status input s s' (inl a) (inr b) = absurd (faultless_first fan_plan input a.0 a.1 (fan_faultless input b.0 b.2) a.3)
one_fan_status input s s' (inr a) (inl b) = absurd (faultless_first fan_plan input b.0 b.1 (fan_faultless input a.0 a.2) b.3)
one_fan_status input s s' (inr a) (inr b) = a.1 ∙ sym b.1

one_svg_status : (head : Bool) (input text text' : List ℕ) (s s' : Status) → RespondsByHead head input s text → RespondsByHead head input s' text' → s ≡ s'
one_svg_status true input text text' s s' r r' = one_fan_status input s s' (fan_cause input text s r) (fan_cause input text' s' r')
one_svg_status false input text text' s s' r r' = one_surface_status input s s' (surface_cause IsPicture input text s r) (surface_cause IsPicture input text' s' r')

-- ---- commands

one_response : (c : Command) (input text text' : List ℕ) (s s' : Status) → IsDetermined c input → Responds c input s text → Responds c input s' text' → s ≡ s'
one_response Surface input text text' s s' one r r' = one_surface_status input s s' (surface_cause IsReport input text s r) (surface_cause IsReport input text' s' r')
one_response Shape input text text' s s' one r r' = one_surface_status input s s' (surface_cause IsShape input text s r) (surface_cause IsShape input text' s' r')
one_response Svg input text text' s s' one r r' = one_svg_status (is_headed_as_fan input) input text text' s s' r r'
one_response Check input text text' s s' one r r' = one_check_status input s s' (check_cause input text s r) (check_cause input text' s' r')
one_response (Scl pivots) input text text' s s' one r r' = one_scl_status input s s' (scl_cause pivots input text s one r) (scl_cause pivots input text' s' one r')
one_response (Ball pivots) input text text' s s' one r r' = one_ball_status input s s' (ball_cause pivots input text s one r) (ball_cause pivots input text' s' one r')
one_response (Generate seed letters) input text text' s s' one r r' = absurd one

one_of_reading : (reading : Reading) (c : Command) (input text text' : List ℕ) (s s' : Status) → DeterminedBy reading c input → RespondsBy reading c input s text → RespondsBy reading c input s' text' → s ≡ s'
one_of_reading Nothing c input text text' s s' one a b = one_response c [] text text' s s' one a b
one_of_reading (AtMost limit) c input text text' s s' one (inl a) (inl b) = a.1 ∙ sym b.1
one_of_reading (AtMost limit) c input text text' s s' one (inl a) (inr b) = absurd (omega (arith, a.0, b.0))
one_of_reading (AtMost limit) c input text text' s s' one (inr a) (inl b) = absurd (omega (arith, a.0, b.0))
one_of_reading (AtMost limit) c input text text' s s' one (inr a) (inr b) = one_response c input text text' s s' one a.1 b.1

-- the answer to words, of the command that they are known to ask for
of_command : (words : List (List ℕ)) (c : Command) (input text : List ℕ) (s : Status) → IsForm c words → Answers words input s text → AnswersTo c input s text
of_command words c input text s form a = subst (λ (d : Command). AnswersTo d input s text) (one_command words a.0 c a.1 form) a.2

-- where words and input have one right answer, it has one status
pub one_answer : (words : List (List ℕ)) (input text text' : List ℕ) (s s' : Status) → HasOneAnswer words input → Answers words input s text → Answers words input s' text' → s ≡ s'
one_answer words input text text' s s' one a b = one_of_reading (reads b.0) b.0 input text text' s s' (one b.0 b.1) (of_command words b.0 input text s b.1 a) b.2

-- and one text
pub one_text_answer : (words : List (List ℕ)) (input text text' : List ℕ) (s s' : Status) → HasOneAnswer words input → Answers words input s text → Answers words input s' text' → text ≡ text'
one_text_answer words input text text' s s' one a b =
    let same : AnswersTo b.0 input s text = of_command words b.0 input text s b.1 a in
    one_text (reads b.0) b.0 input text text' s' (one b.0 b.1) (subst (λ (t : Status). AnswersTo b.0 input t text) (one_answer words input text text' s s' one a b) same) b.2
