-- The lines of pivots without a fault are those of the pivots in range.
use Rattle.std.proofs.Common.{◌≡◌, ℕ, zero, suc, ◌<◌, ◌≤◌, true, false, ◌&&◌, List, [], ◌∷◌, ◌++◌, map, length, get_or, Option, Some, None, is_some, codes, ℤ, pos, negsuc, refl, sym, ap, subst, ◌∙◌, arith, inl, inr}
use Rattle.std.specs.Prelude.{int_lt}
use Rattle.std.specs.Option.{option_map_or}
use Rattle.std.proofs.lemmas.Bool.{cases_Bool, and_parts, and_from, false≢true}
use Rattle.std.proofs.lemmas.Bool.Decides.{nat_tests}
use Rattle.std.proofs.lemmas.Int.{ints}
use Rattle.std.proofs.lemmas.Option.{none-some, same_Some}
use Rattle.std.proofs.lemmas.List.{length-map, length-append, get_or_at}
use Rattle.sc_whole.specs.Spelling.{spelling}
use Rattle.sc_theory.specs.Chains.{Chain, positions}
use Rattle.sc_theory.specs.Walks.{IsPolygon}
use Rattle.sc_theory.specs.Columns.{rows}
use Rattle.sc_line.specs.declared.fault.Kind.{Kind}
use Rattle.sc_line.specs.declared.fault.Kind.TheVariants.{Form, Range}
use Rattle.sc_chain.specs.declared.polygon.Pivot.{Pivot}
use Rattle.sc_chain.specs.declared.limits.TheConstants.{MAX_POSITIONS}
use Rattle.sc_chain.specs.Polygons.{is_polygon}
use Rattle.sc_chain.proofs.PolygonLaws.{polygons_are_decided, walk_inside, small_walk}
use Rattle.sc_line.specs.declared.fault.LineFault.{LineFault}
use Rattle.sc_line.specs.declared.fault.LineFault.TheVariants.{Malformed, Memory}
use Rattle.sc_line.specs.LineFaults.{IsFault}
use Rattle.sc_line.specs.Faults.{between}
use Rattle.sc_line.specs.Lines.{AllLack, Line, Field, fields, number_of, IsNarrowed, TellsNumber, TakesNumber}
use Rattle.sc_line.specs.Formats.{IsLineKind}
use Rattle.sc_line.proofs.LineLaws.{fields-spaced, lacks-spelling, number_of-spelling, number_of_is, number_of_from, named_is, taken_is, line_from_fields}
use Rattle.sc_line.proofs.NumberLaws.{between-natural, named_inverse, IsLineOf, kind_from}
use Rattle.sc_certificate.specs.PivotLines.{pivot_line, pivot_fault, pivot_of_line, pivot_fields_fault, is_natural, is_below, are_naturals, naturals_of, IsPivotInRange}
use Rattle.sc_certificate.specs.inside.PivotLines.{walk_fault, IsNoPosition}

abbrev numbers : List ℕ → List Field
numbers walk = map (λ i. spelling (pos i)) walk

numbers_lack : (walk : List ℕ) → AllLack 32 (numbers walk)
numbers_lack [] = tt
numbers_lack (i ∷ walk) = (lacks-spelling 32 (pos i) (omega arith), numbers_lack walk)

fields-pivot_line : (p : Pivot) → fields (pivot_line p) ≡ codes "pivot" ∷ spelling (pos p.row) ∷ numbers p.polygon
fields-pivot_line p = fields-spaced (codes "pivot") (spelling (pos p.row) ∷ numbers p.polygon) (refl, (lacks-spelling 32 (pos p.row) (omega arith), numbers_lack p.polygon))

natural_test : (i : ℕ) → is_natural (pos i) ≡ true
natural_test i = grind (arith, ints, nat_tests)

numbers_are : (walk : List ℕ) → are_naturals (numbers walk) ≡ true
numbers_are [] = refl
numbers_are (i ∷ walk) =
    let first : option_map_or is_natural (number_of (spelling (pos i))) false ≡ true = rw (number_of-spelling (pos i)) (natural_test i) in
    and_from (option_map_or is_natural (number_of (spelling (pos i))) false) (are_naturals (numbers walk)) first (numbers_are walk)

numbers_tell : (walk : List ℕ) → naturals_of (numbers walk) ≡ walk
numbers_tell [] = refl
numbers_tell (i ∷ walk) = rw (number_of-spelling (pos i)) (ap (λ (rest : List ℕ). i ∷ rest) (numbers_tell walk))

below_test : (n i : ℕ) → i < n → is_below n (pos i) ≡ true
below_test n i h = let upper : int_lt (pos i) (pos n) ≡ true = grind (arith, ints, nat_tests) in and_from (is_natural (pos i)) (int_lt (pos i) (pos n)) (natural_test i) upper

good_pivot : (c : Chain) (p : Pivot) → IsPivotInRange c p → pivot_fault c (pivot_line p) ≡ None
good_pivot c p h =
    let polygon : is_polygon c p.polygon ≡ true = (polygons_are_decided c p.polygon).1 h.polygon in
    named_is (codes "pivot") (pivot_fields_fault c) (pivot_line p) _ (fields-pivot_line p)
    ∙ rw (number_of-spelling (pos p.row), numbers_are p.polygon, numbers_tell p.polygon, polygon, below_test (rows c) p.row h.row) refl

pivot_of_line-pivot_line : (p : Pivot) → pivot_of_line (pivot_line p) ≡ p
pivot_of_line-pivot_line p = rw (fields-pivot_line p, number_of-spelling (pos p.row), numbers_tell p.polygon) refl

-- ---- lines by their fault

-- a field spells a natural number
pub record IsNaturalField (f : Field) : Type 0 where
  pub natural : ℕ
  pub is : f ≡ spelling (pos natural)

natural_field : (f : Field) (o : Option ℤ) → number_of f ≡ o → option_map_or is_natural o false ≡ true → IsNaturalField f
natural_field f None e h = absurd (false≢true h)
natural_field f (Some (pos n)) e h = record { natural = n; is = number_of_is f (pos n) e }
natural_field f (Some (negsuc n)) e h = absurd (false≢true h)

-- each field spells one
pub record AreNaturalFields (fs : List Field) : Type 0 where
  pub naturals : List ℕ
  pub are : fs ≡ numbers naturals

natural_fields : (fs : List Field) → are_naturals fs ≡ true → AreNaturalFields fs
natural_fields [] h = record { naturals = []; are = refl }
natural_fields (f ∷ fs) h =
    let both = and_parts (option_map_or is_natural (number_of f) false) (are_naturals fs) h in
    let first = natural_field f (number_of f) refl both.0 in
    let rest = natural_fields fs both.1 in
    record { naturals = first.natural ∷ rest.naturals; are = λ i. first.is i ∷ rest.are i }

-- a field spells a natural number below n
pub record IsBelow (n : ℕ) (f : Field) : Type 0 where
  pub natural : ℕ
  pub is : f ≡ spelling (pos natural)
  pub below : natural < n

below_field : (n : ℕ) (f : Field) (o : Option ℤ) → number_of f ≡ o → option_map_or (is_below n) o false ≡ true → IsBelow n f
below_field n f None e h = absurd (false≢true h)
below_field n f (Some (pos k)) e h =
    let both = and_parts (is_natural (pos k)) (int_lt (pos k) (pos n)) h in
    let below : k < n = grind (arith, ints, nat_tests, both.1) in
    record { natural = k; is = number_of_is f (pos k) e; below = below }
below_field n f (Some (negsuc k)) e h = absurd (false≢true h)

pivot_from : (c : Chain) (line : Line) (fs : List Field) → fields line ≡ codes "pivot" ∷ fs → pivot_fields_fault c fs ≡ None → IsLineOf pivot_line (IsPivotInRange c) line
pivot_from c line [] e h = absurd (none-some Form (sym h))
pivot_from c line (row ∷ walk) e h =
    elim (cases_Bool (is_some (number_of row) && are_naturals walk && is_polygon c (naturals_of walk))) [
      | inl form ↦
          elim (cases_Bool (option_map_or (is_below (rows c)) (number_of row) false)) [
            | inl range ↦
                let both = and_parts (is_some (number_of row) && are_naturals walk) (is_polygon c (naturals_of walk)) form in
                let walks = natural_fields walk (and_parts (is_some (number_of row)) (are_naturals walk) both.0).1 in
                let first = below_field (rows c) row (number_of row) refl range in
                let told : naturals_of walk ≡ walks.naturals = ap naturals_of walks.are ∙ numbers_tell walks.naturals in
                let polygon : is_polygon c walks.naturals ≡ true = subst (λ (w : List ℕ). is_polygon c w ≡ true) told both.1 in
                record {
                  told = record { row = first.natural; polygon = walks.naturals };
                  is = line_from_fields line _ (e ∙ (λ i. codes "pivot" ∷ first.is i ∷ walks.are i));
                  in_range = record { row = first.below; polygon = (polygons_are_decided c walks.naturals).0 polygon };
                }
            | inr outside ↦ absurd (none-some Range (sym (let fault : Some Range ≡ None = rw (form, outside) at h in fault)))
          ]
      | inr others ↦ absurd (none-some Form (sym (let fault : Some Form ≡ None = rw others at h in fault)))
    ]

pivot_inverse : (c : Chain) (line : Line) → pivot_fault c line ≡ None → IsLineOf pivot_line (IsPivotInRange c) line
pivot_inverse c line h =
    let named = named_inverse (codes "pivot") (pivot_fields_fault c) line h in
    pivot_from c line named.rest named.fields named.good

-- the lines of pivots without a fault are exactly those of the pivots in range, and tell them
pub pivot_kind : (c : Chain) → IsLineKind (pivot_fault c) pivot_of_line pivot_line (IsPivotInRange c)
pivot_kind c = kind_from (pivot_fault c) pivot_of_line pivot_line (IsPivotInRange c) (good_pivot c) (λ p in_range. pivot_of_line-pivot_line p) (pivot_inverse c)

-- ---- fields that are no positions

-- a field that is no number is no position of a small chain
pub no_position : (f : Field) → number_of f ≡ None → IsNoPosition f
no_position f none n few e = none-some (pos n) (sym none ∙ number_of_from f (pos n) e)

-- nor is a field whose number is out of the range from 0 to the most positions
pub far_position : (f : Field) (number : Option ℤ) → TellsNumber f number → ((z : ℤ) → IsNarrowed z number → between 0 MAX_POSITIONS z ≡ false) → IsNoPosition f
far_position f number t far n few e =
    let value : t.value ≡ pos n = same_Some t.value (pos n) (sym t.spells ∙ number_of_from f (pos n) e) in
    let outside : between 0 MAX_POSITIONS (pos n) ≡ false = subst (λ (z : ℤ). between 0 MAX_POSITIONS z ≡ false) value (far t.value t.narrowed) in
    false≢true (sym outside ∙ between-natural 0 MAX_POSITIONS n (omega arith) few)

numbers_at : (walk : List ℕ) (k : ℕ) → k < length walk → get_or (numbers walk) k [] ≡ spelling (pos (get_or walk k 0))
numbers_at [] k h = absurd (omega arith)
numbers_at (i ∷ walk) zero h = refl
numbers_at (i ∷ walk) (suc k) h = numbers_at walk k (omega arith)

-- fields that are a polygon
record AreOfPolygon (c : Chain) (fs : List Field) : Type 0 where
  pub walk : List ℕ
  pub are : fs ≡ numbers walk
  pub polygon : IsPolygon c walk

polygon_in : (c : Chain) (fs : List Field) → (are_naturals fs && is_polygon c (naturals_of fs)) ≡ true → AreOfPolygon c fs
polygon_in c fs form =
    let both = and_parts (are_naturals fs) (is_polygon c (naturals_of fs)) form in
    let walks = natural_fields fs both.0 in
    let told : naturals_of fs ≡ walks.naturals = ap naturals_of walks.are ∙ numbers_tell walks.naturals in
    record { walk = walks.naturals; are = walks.are; polygon = (polygons_are_decided c walks.naturals).0 (subst (λ (w : List ℕ). is_polygon c w ≡ true) told both.1) }

-- fields behind the numbers of some positions, of which the first is bad or too many, are no polygon
module _ (c : Chain) (fs : List Field) (before : List ℕ) (f : Field) (after : List Field) (few : positions c ≤ MAX_POSITIONS) (e : fs ≡ numbers before ++ f ∷ after) where
  longer : (walk : List ℕ) → fs ≡ numbers walk → length before < length walk
  longer walk are =
      omega (arith, ap length e, ap length are, length-map walk (λ (i : ℕ). spelling (pos i)), length-map before (λ (i : ℕ). spelling (pos i)), length-append (numbers before) (f ∷ after))

  no_polygon : (AreOfPolygon c fs → ⊥) → walk_fault c fs ≡ Some Form
  no_polygon h = elim (cases_Bool (are_naturals fs && is_polygon c (naturals_of fs))) [
    | inl form ↦ absurd (h (polygon_in c fs form))
    | inr others ↦ rw others refl
  ]

  bad_here : IsNoPosition f → AreOfPolygon c fs → ⊥
  bad_here bad p =
      let inside = walk_inside c p.walk p.polygon.closed (length before) (longer p.walk p.are) in
      let here : f ≡ spelling (pos (get_or p.walk (length before) 0)) =
      sym (get_or_at (numbers before) f after [] (length before) (length-map before (λ (i : ℕ). spelling (pos i)))) ∙ ap (λ (gs : List Field). get_or gs (length before) []) (sym e ∙ p.are) ∙ numbers_at p.walk (length before) (longer p.walk p.are) in
      bad (get_or p.walk (length before) 0) (omega arith) here

  too_long : MAX_POSITIONS ≤ length before → AreOfPolygon c fs → ⊥
  too_long long p =
      let small = small_walk c p.walk (λ k inside. let here = walk_inside c p.walk p.polygon.closed k inside in omega arith) p.polygon in
      omega (arith, small.few, longer p.walk p.are)

  pub bad_field : IsNoPosition f → walk_fault c fs ≡ Some Form
  bad_field bad = no_polygon (bad_here bad)

  pub field_too_many : MAX_POSITIONS ≤ length before → walk_fault c fs ≡ Some Form
  field_too_many long = no_polygon (too_long long)

-- ---- the fault of the fields of a pivot

-- behind a row that is a number, the fault of the walk is that of the pivot
pub walk_bad : (c : Chain) (f : Field) (fs : List Field) (z : ℤ) (k : Kind) → number_of f ≡ Some z → walk_fault c fs ≡ Some k → pivot_fields_fault c (f ∷ fs) ≡ Some k
walk_bad c f fs z k e h =
    elim (cases_Bool (are_naturals fs && is_polygon c (naturals_of fs))) [
      | inl form ↦ absurd (none-some k (let fault : None ≡ Some k = rw form at h in fault))
      | inr others ↦ rw (e, others) (let fault : Some Form ≡ Some k = rw others at h in fault)
    ]

-- with a polygon behind it, a row that the chain doesn't have has the fault Range
pub row_far : (c : Chain) (f : Field) (fs : List Field) (z : ℤ) → number_of f ≡ Some z → walk_fault c fs ≡ None → is_below (rows c) z ≡ false → pivot_fields_fault c (f ∷ fs) ≡ Some Range
row_far c f fs z e h far =
    elim (cases_Bool (are_naturals fs && is_polygon c (naturals_of fs))) [
      | inl form ↦ rw (e, form, far) refl
      | inr others ↦ absurd (none-some Form (sym (let fault : Some Form ≡ None = rw others at h in fault)))
    ]

-- fields of positions, which are a polygon or not
pub polygon_fields : (c : Chain) (walk : List ℕ) → IsPolygon c walk → walk_fault c (numbers walk) ≡ None
polygon_fields c walk h =
    let polygon : is_polygon c walk ≡ true = (polygons_are_decided c walk).1 h in
    rw (numbers_are walk, numbers_tell walk, polygon) refl

pub other_fields : (c : Chain) (walk : List ℕ) → (IsPolygon c walk → ⊥) → walk_fault c (numbers walk) ≡ Some Form
other_fields c walk h =
    elim (cases_Bool (is_polygon c walk)) [
      | inl polygon ↦ absurd (h ((polygons_are_decided c walk).0 polygon))
      | inr other ↦ rw (numbers_are walk, numbers_tell walk, other) refl
    ]

-- ---- the same of a line

module _ (c : Chain) (line : Line) (fs : List Field) (named : fields line ≡ codes "pivot" ∷ fs) where
  pub line_walk_bad : (rest : List Field) (number : Option ℤ) (e : LineFault) → TakesNumber fs rest number → IsFault (walk_fault c rest) e → IsFault (pivot_fault c line) e
  line_walk_bad rest number (Malformed k) t h = named_is (codes "pivot") (pivot_fields_fault c) line fs named ∙ ap (pivot_fields_fault c) t.taken ∙ walk_bad c t.field rest t.value k t.spells h
  line_walk_bad rest number Memory t h = tt

  pub line_no_polygon : (rest : List Field) (number : Option ℤ) (walk : List ℕ) → TakesNumber fs rest number → rest ≡ numbers walk → (IsPolygon c walk → ⊥) → pivot_fault c line ≡ Some Form
  line_no_polygon rest number walk t e h = line_walk_bad rest number (Malformed Form) t (ap (walk_fault c) e ∙ other_fields c walk h)

  pub line_row_far : (rest : List Field) (number : Option ℤ) (walk : List ℕ) → TakesNumber fs rest number → rest ≡ numbers walk → IsPolygon c walk → ((z : ℤ) → IsNarrowed z number → is_below (rows c) z ≡ false) → pivot_fault c line ≡ Some Range
  line_row_far rest number walk t e polygon far =
      named_is (codes "pivot") (pivot_fields_fault c) line fs named ∙ ap (pivot_fields_fault c) t.taken ∙ row_far c t.field rest t.value t.spells (ap (walk_fault c) e ∙ polygon_fields c walk polygon) (far t.value t.narrowed)

  -- a line of the fields of a row and of positions is that of the pivot
  pub line_of_pivot : (rest : List Field) (number : Option ℤ) (row : ℕ) (walk : List ℕ) → TakesNumber fs rest number → number ≡ Some (pos row) → rest ≡ numbers walk → line ≡ pivot_line (record { row = row; polygon = walk })
  line_of_pivot rest number row walk t is e =
      line_from_fields line _ (named ∙ ap (λ (gs : List Field). codes "pivot" ∷ gs) (taken_is fs rest number (pos row) t is ∙ ap (λ (gs : List Field). spelling (pos row) ∷ gs) e))
