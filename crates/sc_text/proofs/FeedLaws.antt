-- No line has a line feed.
use Rattle.std.proofs.Common.{◌≡◌, ℕ, true, List, [], ◌∷◌, ◌++◌, map, codes, Some, None, ℤ, pos, refl, arith}
use Rattle.sc_whole.specs.Spelling.{spelling}
use Rattle.sc_theory.specs.declared.Side.{Side}
use Rattle.sc_theory.specs.Words.{Word}
use Rattle.sc_line.specs.Lines.{Field, spaced, numbers_line, lacks, AllLack}
use Rattle.sc_line.proofs.LineLaws.{lacks-append, lacks-spelling}
use Rattle.sc_text.specs.Words.{word_line, spelled}
use Rattle.sc_text.specs.Sides.{side_line}
use Rattle.sc_text.specs.PriceLines.{pair_line}
use Rattle.sc_text.specs.ValueLines.{Quotient, value_line}
use Rattle.sc_text.specs.TableLines.{Entry, entry_field, from_line}
use Rattle.sc_text.proofs.WordLaws.{lacks-spelled}

-- a line of fields that have no line feed has none
pub lacks-spaced : (f : Field) (fs : List Field) → AllLack 10 (f ∷ fs) → lacks 10 (spaced (f ∷ fs)) ≡ true
lacks-spaced f [] h = h.0
lacks-spaced f (g ∷ gs) h = lacks-append 10 f (32 ∷ spaced (g ∷ gs)) h.0 (lacks-spaced g gs h.1)

pub lacks-number : (z : ℤ) → lacks 10 (spelling z) ≡ true
lacks-number z = lacks-spelling 10 z (omega arith)

numbers_lack : (zs : List ℤ) → AllLack 10 (map spelling zs)
numbers_lack [] = tt
numbers_lack (z ∷ zs) = (lacks-number z, numbers_lack zs)

-- a line of numbers has no line feed where its name has none
pub lacks-numbers_line : (name : List ℕ) (zs : List ℤ) → lacks 10 name ≡ true → lacks 10 (numbers_line name zs) ≡ true
lacks-numbers_line name zs h = lacks-spaced name (map spelling zs) (h, numbers_lack zs)

-- nor has the line of a word, a side, a value, a table or a pair
pub lacks-word_line : (w : ℕ × Word) → lacks 10 (word_line w) ≡ true
lacks-word_line w = lacks-spaced (codes "word") (spelling (pos w.0) ∷ spelled w.1 ∷ []) (refl, (lacks-number (pos w.0), (lacks-spelled 10 w.1 (omega arith), tt)))

pub lacks-side_line : (s : Side) → lacks 10 (side_line s) ≡ true
lacks-side_line s = lacks-numbers_line (codes "side") (pos s.label ∷ pos s.mate ∷ pos s.next ∷ []) refl

pub lacks-value_line : (q : Quotient) → lacks 10 (value_line q) ≡ true
lacks-value_line q = lacks-append 10 (codes "value ") (spelling q.0 ++ (47 ∷ spelling q.1)) refl (lacks-append 10 (spelling q.0) (47 ∷ spelling q.1) (lacks-number q.0) (lacks-number q.1))

entries_lack : (es : List Entry) → AllLack 10 (map entry_field es)
entries_lack [] = tt
entries_lack (None ∷ es) = (refl, entries_lack es)
entries_lack (Some z ∷ es) = (lacks-number z, entries_lack es)

pub lacks-from_line : (e : ℕ × List Entry) → lacks 10 (from_line e.0 e.1) ≡ true
lacks-from_line e = lacks-spaced (codes "from") (spelling (pos e.0) ∷ map entry_field e.1) (refl, (lacks-number (pos e.0), entries_lack e.1))

pub lacks-pair_line : (e : (ℕ × ℕ) × ℤ) → lacks 10 (pair_line e.0 e.1) ≡ true
lacks-pair_line e = lacks-numbers_line (codes "pair") (pos e.0.0 ∷ pos e.0.1 ∷ e.1 ∷ []) refl
