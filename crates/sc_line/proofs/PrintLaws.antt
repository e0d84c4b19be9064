-- Laws of printing: what is appended piece by piece.
use Rattle.std.proofs.Common.{◌≡◌, ℕ, ◌+◌, ◌<◌, List, [], ◌∷◌, ◌++◌, map, length, get_or, take, drop, Result, Ok, Err, refl, sym, ap, subst, ◌∙◌, append_assoc, append-nil}
use Rattle.std.specs.Prelude.{OnErr}
use Rattle.std.specs.List.{flat_map}
use Rattle.std.proofs.lemmas.List.{take-append-drop, take_more, drop_more, flat_map_more}
use Rattle.std.proofs.lemmas.List.Concat.{flat_map-append}
use Rattle.sc_line.specs.Lines.{Line, Field, spaced, ended, text_of}
use Rattle.sc_line.specs.Printing.{AppendsPart}

-- where nothing is appended, a front of any text is
pub nothing_appended : (old new text : List ℕ) → new ≡ old → AppendsPart old new text
nothing_appended old new text e = record { written = []; left = text; whole = refl; appended = e ∙ sym (append-nil old) }

-- a piece of the text was appended in part, after what stands before it
pub part_after : (old mid new before piece after text : List ℕ) → mid ≡ old ++ before → AppendsPart mid new piece → text ≡ before ++ (piece ++ after) → AppendsPart old new text
part_after old mid new before piece after text e p whole = record {
  written = before ++ p.written;
  left = p.left ++ after;
  whole = whole ∙ ap (λ (t : List ℕ). before ++ (t ++ after)) p.whole ∙ ap (λ (t : List ℕ). before ++ t) (append_assoc p.written p.left after) ∙ sym (append_assoc before p.written (p.left ++ after));
  appended = p.appended ∙ ap (λ (t : List ℕ). t ++ p.written) e ∙ append_assoc old before p.written;
}

-- nothing more was appended
pub stopped : (old mid new before after text : List ℕ) → mid ≡ old ++ before → new ≡ mid → text ≡ before ++ after → AppendsPart old new text
stopped old mid new before after text e same whole = part_after old mid new before after [] text e (nothing_appended mid new after same) (whole ∙ ap (λ (t : List ℕ). before ++ t) (sym (append-nil after)))

-- a list function's pieces, up to an index, at it, and after it
pub pieces_at : {X : Type 0} (f : X → List ℕ) (xs : List X) (i : ℕ) (d : X) → i < length xs → flat_map f xs ≡ flat_map f (take i xs) ++ (f (get_or xs i d) ++ flat_map f (drop (i + 1) xs))
pieces_at f xs i d h =
    ap (flat_map f) (sym (take-append-drop i xs)) ∙ flat_map-append f (take i xs) (drop i xs)
    ∙ ap (λ rest. flat_map f (take i xs) ++ flat_map f rest) (drop_more xs i d h)

-- the pieces up to an index, and the one at it, are the pieces up to the next index
pub pieces_more : {X : Type 0} (f : X → List ℕ) (bs : List ℕ) (xs : List X) (i : ℕ) (d : X) → i < length xs → (bs ++ flat_map f (take i xs)) ++ f (get_or xs i d) ≡ bs ++ flat_map f (take (i + 1) xs)
pieces_more f bs xs i d h = flat_map_more f bs (take i xs) (get_or xs i d) ∙ ap (λ ys. bs ++ flat_map f ys) (sym (take_more xs i d h))

-- the pieces of a list that was mapped are those of the list by both functions
pub flat_map-map : {X Y : Type 0} (f : Y → List ℕ) (g : X → Y) (xs : List X) → flat_map f (map g xs) ≡ flat_map (λ x. f (g x)) xs
flat_map-map f g [] = refl
flat_map-map f g (x ∷ xs) = ap (λ rest. f (g x) ++ rest) (flat_map-map f g xs)

-- the fields of a line behind its name, each with the space before it
pub spaced_flat : (name : Field) (fs : List Field) → spaced (name ∷ fs) ≡ name ++ flat_map (λ f. 32 ∷ f) fs
spaced_flat name [] = sym (append-nil name)
spaced_flat name (f ∷ fs) = ap (λ (rest : List ℕ). name ++ (32 ∷ rest)) (spaced_flat f fs)

-- the text of lines, up to an index, at it, and after it
pub lines_at : {X : Type 0} (f : X → Line) (xs : List X) (i : ℕ) (d : X) → i < length xs → text_of (map f xs) ≡ text_of (map f (take i xs)) ++ (ended (f (get_or xs i d)) ++ text_of (map f (drop (i + 1) xs)))
lines_at f xs i d h =
    flat_map-map ended f xs ∙ pieces_at (λ x. ended (f x)) xs i d h
    ∙ ap (λ (t : List ℕ). t ++ (ended (f (get_or xs i d)) ++ flat_map (λ x. ended (f x)) (drop (i + 1) xs))) (sym (flat_map-map ended f (take i xs)))
    ∙ ap (λ (t : List ℕ). text_of (map f (take i xs)) ++ (ended (f (get_or xs i d)) ++ t)) (sym (flat_map-map ended f (drop (i + 1) xs)))

-- what holds anyway holds where the result is an error
pub on_err : {T E : Type 0} (r : Result T E) {P : Type 0} → P → OnErr r P
on_err (Ok x) h = tt
on_err (Err e) h = h

-- a part of the first of two pieces, and of the second after the first
pub front_part : (mid new piece rest : List ℕ) → AppendsPart mid new piece → AppendsPart mid new (piece ++ rest)
front_part mid new piece rest p = part_after mid mid new [] piece rest (piece ++ rest) (sym (append-nil mid)) p refl

pub then_part : (old mid new piece rest : List ℕ) → mid ≡ old ++ piece → AppendsPart mid new rest → AppendsPart old new (piece ++ rest)
then_part old mid new piece rest e p = part_after old mid new piece rest [] (piece ++ rest) e p (ap (λ (t : List ℕ). piece ++ t) (sym (append-nil rest)))

-- all of the first piece and all of the second are both pieces
pub then_all : (old mid new piece rest : List ℕ) → mid ≡ old ++ piece → new ≡ mid ++ rest → new ≡ old ++ (piece ++ rest)
then_all old mid new piece rest e f = f ∙ ap (λ (t : List ℕ). t ++ rest) e ∙ append_assoc old piece rest

-- lines and those behind them
pub text_both : (xs ys : List Line) → text_of (xs ++ ys) ≡ text_of xs ++ text_of ys
text_both xs ys = flat_map-append ended xs ys

pub front_lines : (mid new : List ℕ) (xs ys : List Line) → AppendsPart mid new (text_of xs) → AppendsPart mid new (text_of (xs ++ ys))
front_lines mid new xs ys p = subst (AppendsPart mid new) (sym (text_both xs ys)) (front_part mid new (text_of xs) (text_of ys) p)

pub then_lines : (old mid new : List ℕ) (xs ys : List Line) → mid ≡ old ++ text_of xs → AppendsPart mid new (text_of ys) → AppendsPart old new (text_of (xs ++ ys))
then_lines old mid new xs ys e p = subst (AppendsPart old new) (sym (text_both xs ys)) (then_part old mid new (text_of xs) (text_of ys) e p)
