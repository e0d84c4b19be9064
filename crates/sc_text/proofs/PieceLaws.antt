-- The pieces of a line of a name and fields, and of a surface text.
use Rattle.std.proofs.Common.{◌≡◌, ℕ, List, [], ◌∷◌, ◌++◌, codes, pos, refl, ap, ap₂, ◌∙◌, append_assoc, append-nil}
use Rattle.std.specs.List.{flat_map}
use Rattle.std.proofs.lemmas.List.Concat.{flat_map-append}
use Rattle.sc_whole.specs.Spelling.{spelling}
use Rattle.sc_theory.specs.Chains.{Chain}
use Rattle.sc_theory.specs.Fatgraphs.{Sides}
use Rattle.sc_fraction.specs.Frac.{frac_text}
use Rattle.sc_line.specs.Lines.{spaced, ended, text_of, count_line}
use Rattle.sc_line.proofs.PrintLaws.{flat_map-map, spaced_flat}
use Rattle.sc_text.specs.declared.printing.Field.{Field}
use Rattle.sc_text.specs.declared.printing.Field.TheVariants.{Text, Number, Letters, Fraction, Numbers, Entries}
use Rattle.sc_text.specs.Words.{spelled}
use Rattle.sc_text.specs.Surfaces.{heading, ending, surface_text}
use Rattle.sc_text.specs.Printing.{fields_of, words_lines, sides_lines}
use Rattle.sc_text.specs.inside.Printing.{field_bytes}
use Rattle.sc_text.specs.TableLines.{entry_field}
use Rattle.sc_text.proofs.SurfaceLaws.{same_lines}

-- the fields that one of a list stands for, each behind a space, and those of all of them
bytes_are : (x : Field) → flat_map (λ f. 32 ∷ f) (fields_of x) ≡ field_bytes x
bytes_are (Text text) = append-nil (32 ∷ text.now)
bytes_are (Number z) = append-nil (32 ∷ spelling z)
bytes_are (Letters letters) = append-nil (32 ∷ spelled letters.now)
bytes_are (Fraction fraction) = append-nil (32 ∷ frac_text fraction.now)
bytes_are (Numbers numbers) = flat_map-map (λ f. 32 ∷ f) (λ n. spelling (pos n)) numbers.now
bytes_are (Entries entries) = flat_map-map (λ f. 32 ∷ f) entry_field entries.now

all_bytes : (xs : List Field) → flat_map (λ f. 32 ∷ f) (flat_map fields_of xs) ≡ flat_map field_bytes xs
all_bytes [] = refl
all_bytes (x ∷ xs) =
    flat_map-append (λ f. 32 ∷ f) (fields_of x) (flat_map fields_of xs)
    ∙ ap₂ (λ (front rest : List ℕ). front ++ rest) (bytes_are x) (all_bytes xs)

-- the pieces of a line of a name and fields
pub line_pieces : (name : List ℕ) (xs : List Field) → ended (spaced (name ∷ flat_map fields_of xs)) ≡ name ++ (flat_map field_bytes xs ++ 10 ∷ [])
line_pieces name xs =
    ap (λ (t : List ℕ). t ++ 10 ∷ []) (spaced_flat name (flat_map fields_of xs) ∙ ap (λ (t : List ℕ). name ++ t) (all_bytes xs))
    ∙ append_assoc name (flat_map field_bytes xs) (10 ∷ [])

-- the pieces of a surface text
pub surface_pieces : (c : Chain) (n : ℕ) (g : Sides) → surface_text c n g ≡ ended heading ++ (text_of (words_lines c) ++ (ended (count_line (codes "copies") n) ++ (text_of (sides_lines g) ++ ended ending)))
surface_pieces c n g =
    let last : text_of (sides_lines g ++ ending ∷ []) ≡ text_of (sides_lines g) ++ ended ending = flat_map-append ended (sides_lines g) (ending ∷ []) ∙ ap (λ (t : List ℕ). text_of (sides_lines g) ++ t) (append-nil (ended ending)) in
    ap text_of (same_lines c n g) ∙ ap (λ (t : List ℕ). ended heading ++ t) (flat_map-append ended (words_lines c) (count_line (codes "copies") n ∷ (sides_lines g ++ ending ∷ [])) ∙ ap (λ (t : List ℕ). text_of (words_lines c) ++ (ended (count_line (codes "copies") n) ++ t)) last)
