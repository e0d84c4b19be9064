-- The parts that texts share.
use Rattle.std.specs.Prelude.{ℕ, ◌-◌, List, length, get_or, Option, ℤ, codes}
use Rattle.sc_theory.specs.declared.Side.{Side}
use Rattle.sc_theory.specs.Words.{Word}
use Rattle.sc_theory.specs.Chains.{Chain, positions}
use Rattle.sc_theory.specs.Fatgraphs.{Sides}
use Rattle.sc_theory.specs.Prices.{Tables}
use Rattle.sc_line.specs.Forms.{Form, Counted, one, many, counted, count_kind}
use Rattle.sc_text.specs.declared.limits.Limits.{Limits}
use Rattle.sc_text.specs.Words.{a_word}
use Rattle.sc_text.specs.Sides.{a_side}
use Rattle.sc_text.specs.PriceLines.{a_scale, a_base, a_pair}
use Rattle.sc_text.specs.TableLines.{a_table}

-- the words of a chain, which have so many letters together at most
abbrev pub words_form : Limits → Form (Counted (ℕ × Word)) Chain
words_form m = counted (codes "words") m.words (λ c. a_word m (m.positions - positions c))

abbrev pub copies_form : Limits → Form (Option ℕ) ℕ
copies_form m = one (count_kind (codes "copies") 1 m.copies)

abbrev pub sides_form : Limits → Form (Counted Side) Sides
sides_form m = counted (codes "sides") m.sides (λ g. a_side m)

-- a price list: its scale, the prices of n words, and those of these pairs
abbrev pub scale_form : Form (Option ℤ) ℤ
scale_form = one a_scale

abbrev pub bases_form : ℕ → Form (List ℤ) (List ℤ)
bases_form n = many (λ prices. a_base) n

abbrev pub pairs_form : List (ℕ × ℕ) → Form (List ℤ) (List ℤ)
pairs_form ps = many (λ prices. a_pair (get_or ps (length prices) (0, 0))) (length ps)

-- distance tables of n starts
abbrev pub tables_form : ℕ → Form Tables Tables
tables_form n = many (λ before. a_table n (length before)) n
