-- The lines of a chain text, numbered behind others.
use Rattle.std.proofs.Common.{◌≡◌, ℕ, suc, ◌+◌, ◌<◌, ◌≤◌, ◌^◌, List, [], ◌∷◌, ◌++◌, length, map, take, drop, Option, Some, None, refl, sym, ◌∙◌, ap, ap₂, subst, arith}
use Rattle.std.specs.List.{All}
use Rattle.std.proofs.Math.Seq.{take-length}
use Rattle.std.proofs.Math.ListN.{drop_of_length-le}
use Rattle.std.proofs.lemmas.List.{append-nil, map-append, length-map}
use Rattle.std.proofs.lemmas.List.Sums.{sum_by-cons}
use Rattle.std.proofs.lemmas.List.Elements.{All-nil, All-push, All-append}
use Rattle.sc_words.specs.declared.lines.RawLine.{RawLine}
use Rattle.sc_words.specs.ChainText.{Line, Entry, text_lines, line_case, raw_line, raw_lines, IsChainText, IsRawLine}
use Rattle.sc_words.proofs.ReadingLaws.{lines_le, raw_lines_in_range}
use Rattle.sc_reduce.specs.Lines.{letters_of}
use Rattle.sc_reduce.proofs.TextLetters.{letters_of_text}
use Rattle.sc_two.specs.Behind.{moved}
use Rattle.sc_two.specs.inside.Behind.{HasRoom, AreLinesBehind}

moved_line : (by n : ℕ) (o : Option Entry) → map (moved by) (raw_line n o) ≡ raw_line (n + by) o
moved_line by n (Some (Some (z, w))) = refl
moved_line by n (Some None) = refl
moved_line by n None = refl

moved_lines : (by n : ℕ) (ls : List Line) → map (moved by) (raw_lines n ls) ≡ raw_lines (n + by) ls
moved_lines by n [] = refl
moved_lines by n (l ∷ ls) =
    let next : suc n + by ≡ suc (n + by) = omega arith in
    map-append (moved by) (raw_line n (line_case l)) (raw_lines (suc n) ls)
    ∙ ap₂ (λ (x y : List RawLine). x ++ y) (moved_line by n (line_case l)) (moved_lines by (suc n) ls ∙ ap (λ (k : ℕ). raw_lines k ls) next)

-- each number is at most that of the last line
abbrev IsBelow : ℕ → RawLine → Type 0
IsBelow top r = r.line < top

line_below : (n top : ℕ) (o : Option Entry) → n < top → All (IsBelow top) (raw_line n o)
line_below n top (Some (Some (z, w))) h = All-push (IsBelow top) [] (record { line = n; coefficient = z; word = w }) (All-nil (IsBelow top)) h
line_below n top (Some None) h = All-nil (IsBelow top)
line_below n top None h = All-nil (IsBelow top)

lines_below : (n top : ℕ) (ls : List Line) → n + length ls ≤ top → All (IsBelow top) (raw_lines n ls)
lines_below n top [] h = All-nil (IsBelow top)
lines_below n top (l ∷ ls) h =
    All-append (IsBelow top) (raw_line n (line_case l)) (raw_lines (suc n) ls) (line_below n top (line_case l) (omega (arith, h))) (lines_below (suc n) top ls (omega (arith, h)))

-- the line numbers of a text that is short enough have room behind so many other lines
pub room_for : (by : ℕ) (text : List ℕ) (read : List RawLine) → IsChainText text read → by + length text < 2 ^ 32 → All (HasRoom by) read
room_for by text read g h =
    let top : ℕ = 1 + length (text_lines text) in
    let below : All (IsBelow top) read = subst (All (IsBelow top)) (sym g.entries) (lines_below 1 top (text_lines text) (omega arith)) in
    λ k d inside. omega (arith, below k d inside, lines_le text, h)

-- the words stay as they are
letters_moved : (by : ℕ) (read : List RawLine) → letters_of (map (moved by) read) ≡ letters_of read
letters_moved by [] = refl
letters_moved by (l ∷ read) =
    omega (arith, letters_moved by read, sum_by-cons (λ (r : RawLine). length r.word) l read, sum_by-cons (λ (r : RawLine). length r.word) (moved by l) (map (moved by) read))

-- the lines of a chain text, moved by so many, are its lines behind so many others
pub numbered : (by : ℕ) (text : List ℕ) (read new : List RawLine) → IsChainText text read → new ≡ map (moved by) read → AreLinesBehind by text new
numbered by text read new g e =
    let entries : new ≡ raw_lines (suc by) (text_lines text) = e ∙ ap (map (moved by)) g.entries ∙ moved_lines by 1 (text_lines text) ∙ ap (λ (k : ℕ). raw_lines k (text_lines text)) (omega arith) in
    record {
      cases = g.cases;
      entries = entries;
      ranges = subst (All IsRawLine) (sym entries) (raw_lines_in_range (suc by) (text_lines text));
      letters = omega (arith, letters_of_text text read g, letters_moved by read, ap letters_of e);
    }

-- a list that was written in place, as the vector has it then
pub written_back : {X : Type 0} (f : X → X) (new old : List X) (len : ℕ) → new ≡ map f old → len ≡ length old → take len (new ++ drop (length new) old) ≡ map f old
written_back f new old len e l =
    let size : length new ≡ length old = ap length e ∙ length-map old f in
    let none : drop (length new) old ≡ [] = drop_of_length-le old (omega (arith, size)) in
    ap₂ (λ n rest. take n (new ++ rest)) (l ∙ sym size) none ∙ ap (take (length new)) (append-nil new) ∙ take-length new ∙ e
