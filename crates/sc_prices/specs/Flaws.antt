-- The flaws of tables that don't vouch for a price list, and which is the first.
use Rattle.std.specs.Prelude.{◌≡◌, ◌≢◌, ℕ, ◌<◌, ◌≤◌, ◌⊎◌, Option, Some, None, ℤ, pos, ◌+ℤ◌, ◌<ℤ◌}
use Rattle.sc_theory.specs.Chains.{Chain, positions}
use Rattle.sc_theory.specs.Walks.{IsStep}
use Rattle.sc_theory.specs.Prices.{Prices, price, Tables, entry}
use Rattle.sc_prices.specs.declared.flaws.TableFlaw.{TableFlaw}
use Rattle.sc_prices.specs.declared.flaws.TableFlaw.TheVariants.{Start, Step}

-- the table of the start s doesn't have 0 at s
pub record HasStartFlaw (c : Chain) (tables : Tables) (s : ℕ) : Type 0 where
  pub start : s < positions c
  pub not_zero : entry tables s s ≢ Some (pos 0)

-- an entry that is missing, or greater than the total z
abbrev pub IsAbove : ℤ → Option ℤ → Type 0
IsAbove z None = Unit {0}
IsAbove z (Some b) = z <ℤ b

-- the total z undercuts what is vouched for at the place j: back at the start the scale, and elsewhere the entry
abbrev pub Undercuts : Prices → Tables → ℕ → ℕ → ℤ → Type 0
Undercuts list tables s j z = ((j ≡ s) × (z <ℤ list.scale)) ⊎ ((j ≢ s) × IsAbove z (entry tables s j))

-- in the table of the start s there is an entry at i, and with the step to j it undercuts
pub record HasStepFlaw (c : Chain) (list : Prices) (tables : Tables) (s i j : ℕ) : Type 0 where
  pub start : s < positions c
  pub step : IsStep c i j
  pub total : ℤ
  pub reached : entry tables s i ≡ Some total
  pub undercuts : Undercuts list tables s j (total +ℤ price c list i j)

-- a flaw of either kind
abbrev pub HasTableFlaw : Chain → Prices → Tables → TableFlaw → Type 0
HasTableFlaw c list tables (Start s) = HasStartFlaw c tables s
HasTableFlaw c list tables (Step s i j) = HasStepFlaw c list tables s i j

-- the order of flaws: by start; for a start first the start itself, then its steps by from, then to
abbrev pub IsBefore : TableFlaw → TableFlaw → Type 0
IsBefore (Start s) (Start t) = s < t
IsBefore (Start s) (Step t k l) = s ≤ t
IsBefore (Step s i j) (Start t) = s < t
IsBefore (Step s i j) (Step t k l) = (s < t) ⊎ ((s ≡ t) × ((i < k) ⊎ ((i ≡ k) × (j < l))))

-- a flaw before which there is none
pub record IsFirstTableFlaw (c : Chain) (list : Prices) (tables : Tables) (flaw : TableFlaw) : Type 0 where
  pub here : HasTableFlaw c list tables flaw
  pub before : (other : TableFlaw) → IsBefore other flaw → ¬ HasTableFlaw c list tables other
