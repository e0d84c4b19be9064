-- What the search for a place with the inverse of the next letter tells of a word.
use Rattle.std.specs.Option.{is_some, MatchOption}
use Rattle.std.specs.Prelude.{Bool, not, IsTrue, Option, Some, None, ◌↔◌}
use Rattle.std.proofs.Common.{refl, ◌≡◌, ℕ, false, true, sym, subst}
use Rattle.sc_theory.specs.Words.{Word, IsReduced}
use Rattle.sc_theory.specs.Places.{IsLeastCancelling}
use Rattle.sc_theory.proofs.Rounds.{unreduced_from_cancelling}

-- a word is reduced where no place is found at which it isn't
pub reduced_where_none : (v w : Word) (o : Option ℕ) (b : Bool) → v ≡ w → is_some o ≡ not b → MatchOption o (IsReduced v) (IsLeastCancelling v) → IsTrue b ↔ IsReduced w
reduced_where_none v w None true e t m = ((λ _. subst IsReduced e m), (λ _. refl))
reduced_where_none v w None false e t m = absurd (cc)
reduced_where_none v w (Some k) true e t m = absurd (cc)
reduced_where_none v w (Some k) false e t m = ((λ s. absurd (cc)), (λ r. absurd (unreduced_from_cancelling v k m (subst IsReduced (sym e) r))))
