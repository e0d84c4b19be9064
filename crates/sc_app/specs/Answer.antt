-- The status and the text of what a command answers.
use Rattle.std.specs.Prelude.{◌≡◌, ℕ, List, []}
use Rattle.sc_line.specs.declared.fault.TextFault.{TextFault}
use Rattle.sc_line.specs.declared.fault.TextFault.TheVariants as faults
use Rattle.sc_app.specs.declared.answer.Answer.{Answer}
use Rattle.sc_app.specs.declared.answer.Answer.TheVariants.{Text, Fault, ManyWords, ManyPositions, Rejection, OverBudget, TooWide, ManySides}
use Rattle.sc_app.specs.declared.status.Status.{Status}
use Rattle.sc_app.specs.declared.status.Status.TheVariants.{Done, Malformed, Large, Rejected, Budget, Wide, Sides}
use Rattle.sc_app.specs.declared.status.What.TheVariants.{Words, Positions}

abbrev pub status_of : Answer → Status
status_of (Text text) = Done
status_of (Fault line kind) = Malformed line kind
status_of (ManyWords count) = Large (Words count)
status_of (ManyPositions count) = Large (Positions count)
status_of (Rejection condition text) = Rejected condition
status_of (OverBudget text) = Budget
status_of (TooWide text) = Wide
status_of (ManySides text) = Sides

abbrev pub text_of : Answer → List ℕ
text_of (Text text) = text.items
text_of (Fault line kind) = []
text_of (ManyWords count) = []
text_of (ManyPositions count) = []
text_of (Rejection condition text) = text.items
text_of (OverBudget text) = text.items
text_of (TooWide text) = text.items
text_of (ManySides text) = text.items

-- the answer that a fault of a text is turned into; want of memory is none
abbrev pub IsFaultAnswer : TextFault → Answer → Type 0
IsFaultAnswer (faults.Malformed line kind) answer = answer ≡ Fault line kind
IsFaultAnswer faults.Memory answer = ⊥
