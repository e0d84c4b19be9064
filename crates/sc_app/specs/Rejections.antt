-- The lines of rejected surfaces and certificates.
use Rattle.std.specs.Prelude.{ℕ, List, ◌∷◌, ◌++◌, codes, pos}
use Rattle.sc_whole.specs.Spelling.{spelling}
use Rattle.sc_fatgraph.specs.declared.flaws.FlawKind.{FlawKind}
use Rattle.sc_fatgraph.specs.declared.flaws.FlawKind.TheVariants.{Range, Mate, Letter, Next, Label, Count}
use Rattle.sc_prices.specs.declared.flaws.TableFlaw.{TableFlaw}
use Rattle.sc_prices.specs.declared.flaws.TableFlaw.TheVariants.{Start, Step}
use Rattle.sc_prices.specs.declared.verdict.Condition.{Condition}
use Rattle.sc_prices.specs.declared.verdict.Condition.TheVariants.{Flaw, Value, Table, NotTight}
use Rattle.sc_app.specs.Notes.{line}

-- how the line of a kind of flaw begins
abbrev pub flaw_label : FlawKind → List ℕ
flaw_label Range = codes "rejected range"
flaw_label Mate = codes "rejected mate"
flaw_label Letter = codes "rejected letter"
flaw_label Next = codes "rejected next"
flaw_label Label = codes "rejected label"
flaw_label Count = codes "rejected count"

-- how the line of a flaw of tables begins
abbrev pub table_label : List ℕ
table_label = codes "rejected table "

-- what the line says of a flaw of tables: the start, and of a step its beginning and its end
abbrev pub table_flaw : TableFlaw → List ℕ
table_flaw (Start s) = spelling (pos s)
table_flaw (Step s i j) = spelling (pos s) ++ 32 ∷ (spelling (pos i) ++ 32 ∷ spelling (pos j))

-- the line of the first condition that fails
abbrev pub rejection : Condition → List ℕ
rejection (Flaw kind place) = line (flaw_label kind ++ 32 ∷ spelling (pos place))
rejection Value = line (codes "rejected value")
rejection (Table flaw) = line (table_label ++ table_flaw flaw)
rejection NotTight = line (codes "rejected tight")
