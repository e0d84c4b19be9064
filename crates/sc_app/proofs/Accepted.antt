-- To an input that a command accepts it answers a status of its own.
use Rattle.std.proofs.Common.{ℕ, Bool, true, false, inl, inr, List, ap₂, subst, arith}
use Rattle.sc_words.specs.declared.lines.RawLine.{RawLine}
use Rattle.sc_reduce.specs.Lines.{chain_of, HasManyWords, HasManyPositions}
use Rattle.sc_line.proofs.FaultLaws.{faultless_first}
use Rattle.sc_certificate.specs.Certificates.{certificate_plan}
use Rattle.sc_prices.specs.declared.verdict.Condition.TheVariants.{Flaw}
use Rattle.sc_app.specs.declared.command.Command.{Command}
use Rattle.sc_app.specs.declared.command.Command.TheVariants.{Surface, Shape, Check, Svg, Scl, Ball, Generate}
use Rattle.sc_app.specs.declared.status.Status.{Status}
use Rattle.sc_app.specs.declared.status.Status.TheVariants.{Done, Malformed, Large, Rejected, Budget, Wide, Sides}
use Rattle.sc_app.specs.declared.status.What.TheVariants.{Words, Positions}
use Rattle.sc_theory.specs.Chains.{Chain}
use Rattle.sc_theory.specs.Fatgraphs.{Sides as SideList}
use Rattle.sc_app.specs.Said.{RespondsBySides, SaysSurface, IsStatusOfSides}
use Rattle.sc_app.specs.Surface.{IsReport}
use Rattle.sc_app.specs.Shape.{IsShape}
use Rattle.sc_fan.specs.Fans.{fan_plan}
use Rattle.sc_two.proofs.Places.{good_or_wrong}
use Rattle.sc_app.specs.Svg.{IsPicture, RespondsByHead, AcceptsByHead, StatusByHead, is_headed_as_fan}
use Rattle.sc_app.specs.Check.{CheckResponds, CheckAccepts, IsCheckStatus}
use Rattle.sc_app.specs.Scl.{SclResponds, SclAccepts, IsSclStatus}
use Rattle.sc_app.specs.Ball.{BallResponds, BallAccepts, IsBallStatus, both_of}
use Rattle.sc_app.specs.Generate.{GenerateResponds, IsSolverStatus}
use Rattle.sc_app.specs.Answers.{AnswersTo, IsAccepted, IsOwnStatus}
use Rattle.sc_app.proofs.Inputs.{certificate_faultless, fan_faultless, says_no_fault}
use Rattle.sc_app.proofs.Chains.{good_or_malformed, same_lines}
use Rattle.sc_app.proofs.TwoTexts.{same_two}

own_of_sides : (Tells : Chain → ℕ → SideList → List ℕ → Type 0) (input text : List ℕ) (s : Status) → SaysSurface input → RespondsBySides Tells input s text → IsStatusOfSides s
own_of_sides Tells input text Done a r = tt
own_of_sides Tells input text (Rejected (Flaw kind place)) a r = tt
own_of_sides Tells input text (Malformed at kind) a r = absurd (says_no_fault input a.0 a.1 a.2 at kind a.3 r.0)
own_of_sides Tells input text _ a r = absurd r

own_of_check : (input text : List ℕ) (s : Status) → CheckAccepts input → CheckResponds input s text → IsCheckStatus s
own_of_check input text Done a r = tt
own_of_check input text (Rejected condition) a r = tt
own_of_check input text (Malformed at kind) a r = absurd (faultless_first certificate_plan input at kind (certificate_faultless input a.0 a.1) r.0)
own_of_check input text _ a r = absurd r

own_of_scl : (n : ℕ) (input text : List ℕ) (s : Status) → SclAccepts input → SclResponds n input s text → IsSclStatus input s
own_of_scl n input text Done a r = tt
own_of_scl n input text Budget a r = (r.0, r.1, r.2, r.3.balanced)
own_of_scl n input text Wide a r = (r.0, r.1, r.2, r.3.balanced)
own_of_scl n input text Sides a r = (r.0, r.1, r.2, r.3.balanced)
own_of_scl n input text (Malformed at kind) a r = absurd (good_or_malformed input a.0 at kind a.1 r.0)
own_of_scl n input text (Large (Words count)) a r =
    let many = subst (λ (lines : List RawLine). HasManyWords (chain_of lines) count) (same_lines input r.0 a.0 r.1 a.1) r.2 in
    absurd (omega (arith, many.many, a.2.few_words))
own_of_scl n input text (Large (Positions count)) a r =
    let many = subst (λ (lines : List RawLine). HasManyPositions (chain_of lines) count) (same_lines input r.0 a.0 r.1 a.1) r.2 in
    absurd (omega (arith, many.many, a.2.few_positions))
own_of_scl n input text _ a r = absurd r.3

own_of_ball : (n : ℕ) (input text : List ℕ) (s : Status) → BallAccepts input → BallResponds n input s text → IsBallStatus input s
own_of_ball n input text Done a r = tt
own_of_ball n input text Budget a r = (r.0, r.1, r.2, (r.3.0, (r.3.1.first_balanced, r.3.1.second_balanced)))
own_of_ball n input text Wide a r = (r.0, r.1, r.2, (r.3.0, (r.3.1.first_balanced, r.3.1.second_balanced)))
own_of_ball n input text Sides a r = (r.0, r.1, r.2, (r.3.0, (r.3.1.first_balanced, r.3.1.second_balanced)))
own_of_ball n input text (Malformed at kind) a r = absurd (good_or_wrong input a.0 a.1 at kind a.2 r.0)
own_of_ball n input text (Large (Words count)) a r =
    let same = same_two input r.0 r.1 a.0 a.1 r.2 a.2 in
    let many = subst (λ (c : Chain). HasManyWords c count) (ap₂ both_of same.0 same.1) r.3.0 in
    absurd (omega (arith, many.many, a.3.few_words))
own_of_ball n input text (Large (Positions count)) a r =
    let same = same_two input r.0 r.1 a.0 a.1 r.2 a.2 in
    let many = subst (λ (c : Chain). HasManyPositions c count) (ap₂ both_of same.0 same.1) r.3.0 in
    absurd (omega (arith, many.many, a.3.few_positions))
own_of_ball n input text _ a r = absurd r.3.1

own_of_svg : (head : Bool) (input text : List ℕ) (s : Status) → AcceptsByHead head input → RespondsByHead head input s text → StatusByHead head s
own_of_svg true input text Done a r = tt
own_of_svg true input text (Malformed at kind) a r = absurd (faultless_first fan_plan input at kind (fan_faultless input a.0 a.1) r.0)
own_of_svg true input text _ a r = absurd r
own_of_svg false input text s a r = own_of_sides IsPicture input text s a r

own_of_generate : (seed letters : ℕ) (text : List ℕ) (s : Status) → GenerateResponds seed letters s text → IsSolverStatus s
own_of_generate seed letters text Done r = tt
own_of_generate seed letters text Budget r = tt
own_of_generate seed letters text Wide r = tt
own_of_generate seed letters text Sides r = tt
own_of_generate seed letters text _ r = absurd r

-- an answer to an input that the command accepts has one of the command's own statuses
pub own_status : (c : Command) (input text : List ℕ) (s : Status) → IsAccepted c input → AnswersTo c input s text → IsOwnStatus c input s
own_status Surface input text s a (inl long) = absurd (omega (arith, a.0, long.0))
own_status Surface input text s a (inr r) = own_of_sides IsReport input text s a.1 r.1
own_status Shape input text s a (inl long) = absurd (omega (arith, a.0, long.0))
own_status Shape input text s a (inr r) = own_of_sides IsShape input text s a.1 r.1
own_status Check input text s a (inl long) = absurd (omega (arith, a.0, long.0))
own_status Check input text s a (inr r) = own_of_check input text s a.1 r.1
own_status Svg input text s a (inl long) = absurd (omega (arith, a.0, long.0))
own_status Svg input text s a (inr r) = own_of_svg (is_headed_as_fan input) input text s a.1 r.1
own_status (Scl pivots) input text s a (inl long) = absurd (omega (arith, a.0, long.0))
own_status (Scl pivots) input text s a (inr r) = own_of_scl pivots input text s a.1 r.1
own_status (Ball pivots) input text s a (inl long) = absurd (omega (arith, a.0, long.0))
own_status (Ball pivots) input text s a (inr r) = own_of_ball pivots input text s a.1 r.1
own_status (Generate seed letters) input text s a r = own_of_generate seed letters text s r
