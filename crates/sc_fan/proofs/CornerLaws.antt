-- Laws of the line of a corner.
use Rattle.std.proofs.Common.{◌≡◌, ◌+◌, ◌<◌, nat_lt, true, false, ◌&&◌, List, [], ◌∷◌, Option, Some, None, codes, ℤ, pos, neg_ℤ, ◌≤ℤ◌, unsigned_abs, refl, sym, ◌∙◌, arith, inl, inr}
use Rattle.std.proofs.lemmas.Bool.{cases_Bool, and_parts, and_from, lt-ltb, ltb-true}
use Rattle.std.proofs.lemmas.Option.{none-some}
use Rattle.sc_fraction.specs.Quotient.{quotient_text}
use Rattle.sc_whole.specs.Spelling.{spelling}
use Rattle.sc_line.specs.declared.fault.Kind.{Kind}
use Rattle.sc_line.specs.declared.fault.Kind.TheVariants.{Form, Range}
use Rattle.sc_line.specs.Lines.{Line, Field, fields, number_of, lacks}
use Rattle.sc_line.specs.Faults.{from_to}
use Rattle.sc_line.specs.Formats.{IsLineKind}
use Rattle.sc_line.proofs.LineLaws.{number_of_is, fields-spaced, lacks-append, lacks-spelling, number_of-spelling, named_is, line_from_fields, in_range_test, in_range_from_test}
use Rattle.sc_line.proofs.NumberLaws.{IsLineOf, kind_from, named_inverse}
use Rattle.sc_text.proofs.ValueLaws.{halves-quotient_text, good_fraction, fraction_from}
use Rattle.sc_text.proofs.FeedLaws.{lacks-spaced, lacks-number}
use Rattle.sc_cone.specs.Fans.{Corner as PlaneCorner}
use Rattle.sc_fan.specs.declared.limits.TheConstants.{MAX_DIRECTION, MAX_VALUE}
use Rattle.sc_fan.specs.Corners.{corner_line, is_direction, or_range, corner_numbers_fault, corner_value_fault, corner_fields_fault, corner_fault, corner_of_line, IsCornerInRange}

-- ---- the direction

-- two numbers that the line of a corner may have as its direction
pub record IsDirection (s t : ℤ) : Type 0 where
  pub s_low : pos 0 ≤ℤ s
  pub s_high : s ≤ℤ MAX_DIRECTION
  pub t_low : neg_ℤ MAX_DIRECTION ≤ℤ t
  pub t_high : t ≤ℤ MAX_DIRECTION
  pub somewhere : 0 < unsigned_abs s + unsigned_abs t

-- the test passes exactly where two numbers are such a direction
pub direction_test : (s t : ℤ) → IsDirection s t → is_direction s t ≡ true
direction_test s t h =
    and_from (from_to (pos 0) MAX_DIRECTION s && from_to (neg_ℤ MAX_DIRECTION) MAX_DIRECTION t) (nat_lt 0 (unsigned_abs s + unsigned_abs t))
    (and_from (from_to (pos 0) MAX_DIRECTION s) (from_to (neg_ℤ MAX_DIRECTION) MAX_DIRECTION t) (in_range_test (pos 0) MAX_DIRECTION s h.s_low h.s_high) (in_range_test (neg_ℤ MAX_DIRECTION) MAX_DIRECTION t h.t_low h.t_high))
    (lt-ltb 0 (unsigned_abs s + unsigned_abs t) h.somewhere)

pub direction_from_test : (s t : ℤ) → is_direction s t ≡ true → IsDirection s t
direction_from_test s t h =
    let both = and_parts (from_to (pos 0) MAX_DIRECTION s && from_to (neg_ℤ MAX_DIRECTION) MAX_DIRECTION t) (nat_lt 0 (unsigned_abs s + unsigned_abs t)) h in
    let ranges = and_parts (from_to (pos 0) MAX_DIRECTION s) (from_to (neg_ℤ MAX_DIRECTION) MAX_DIRECTION t) both.0 in
    let in_s = in_range_from_test (pos 0) MAX_DIRECTION s ranges.0 in
    let in_t = in_range_from_test (neg_ℤ MAX_DIRECTION) MAX_DIRECTION t ranges.1 in
    record {
      s_low = in_s.low_end;
      s_high = in_s.high_end;
      t_low = in_t.low_end;
      t_high = in_t.high_end;
      somewhere = ltb-true 0 (unsigned_abs s + unsigned_abs t) both.1;
    }

-- ---- the line

-- the fields of a corner's line: its name, the direction's numbers and the value
pub fields-corner_line : (c : PlaneCorner) → fields (corner_line c) ≡ codes "corner" ∷ spelling c.direction.s ∷ spelling c.direction.t ∷ quotient_text c.value.0 c.value.1 ∷ []
fields-corner_line c =
    fields-spaced (codes "corner") (spelling c.direction.s ∷ spelling c.direction.t ∷ quotient_text c.value.0 c.value.1 ∷ [])
    (refl, (lacks-spelling 32 c.direction.s (omega arith), (lacks-spelling 32 c.direction.t (omega arith), (lacks-append 32 (spelling c.value.0) (47 ∷ spelling c.value.1) (lacks-spelling 32 c.value.0 (omega arith)) (lacks-spelling 32 c.value.1 (omega arith)), tt))))

good_corner : (c : PlaneCorner) → IsCornerInRange c → corner_fault (corner_line c) ≡ None
good_corner c h =
    let direction : is_direction c.direction.s c.direction.t ≡ true = direction_test c.direction.s c.direction.t (record { s_low = h.s_low; s_high = h.s_high; t_low = h.t_low; t_high = h.t_high; somewhere = h.somewhere }) in
    named_is (codes "corner") corner_fields_fault (corner_line c) _ (fields-corner_line c)
    ∙ rw (number_of-spelling c.direction.s, number_of-spelling c.direction.t, direction) (good_fraction MAX_VALUE c.value h.value)

corner_of_line-corner_line : (c : PlaneCorner) → corner_of_line (corner_line c) ≡ c
corner_of_line-corner_line c = rw (fields-corner_line c, halves-quotient_text c.value.0 c.value.1, number_of-spelling c.direction.s, number_of-spelling c.direction.t, number_of-spelling c.value.0, number_of-spelling c.value.1) refl

no_or_range : (o : Option Kind) → or_range o ≡ None → ⊥
no_or_range None h = none-some Range (sym h)
no_or_range (Some k) h = none-some k (sym h)

corner_from : (line : Line) (f g v : Field) (s t : Option ℤ) → fields line ≡ codes "corner" ∷ f ∷ g ∷ v ∷ [] → number_of f ≡ s → number_of g ≡ t → corner_numbers_fault s t (corner_value_fault v) ≡ None → IsLineOf corner_line IsCornerInRange line
corner_from line f g v None t e m n h = absurd (none-some Form (sym h))
corner_from line f g v (Some s) None e m n h = absurd (none-some Form (sym h))
corner_from line f g v (Some s) (Some t) e m n h =
    elim (cases_Bool (is_direction s t)) [
      | inl inside ↦
          let value = fraction_from MAX_VALUE v (let good : corner_value_fault v ≡ None = rw inside at h in good) in
          let direction = direction_from_test s t inside in
          record {
            told = record { direction = record { s = s; t = t }; value = value.told };
            is = line_from_fields line _ (e ∙ (λ i. codes "corner" ∷ number_of_is f s m i ∷ number_of_is g t n i ∷ value.is i ∷ []));
            in_range = record { s_low = direction.s_low; s_high = direction.s_high; t_low = direction.t_low; t_high = direction.t_high; somewhere = direction.somewhere; value = value.in_range };
          }
      | inr outside ↦ absurd (no_or_range (corner_value_fault v) (let bad : or_range (corner_value_fault v) ≡ None = rw outside at h in bad))
    ]

corner_of_fields : (line : Line) (fs : List Field) → fields line ≡ codes "corner" ∷ fs → corner_fields_fault fs ≡ None → IsLineOf corner_line IsCornerInRange line
corner_of_fields line [] e h = absurd (none-some Form (sym h))
corner_of_fields line (f ∷ []) e h = absurd (none-some Form (sym h))
corner_of_fields line (f ∷ g ∷ []) e h = absurd (none-some Form (sym h))
corner_of_fields line (f ∷ g ∷ v ∷ []) e h = corner_from line f g v (number_of f) (number_of g) e refl refl h
corner_of_fields line (f ∷ g ∷ v ∷ w ∷ fs) e h = absurd (none-some Form (sym h))

corner_inverse : (line : Line) → corner_fault line ≡ None → IsLineOf corner_line IsCornerInRange line
corner_inverse line h =
    let named = named_inverse (codes "corner") corner_fields_fault line h in
    corner_of_fields line named.rest named.fields named.good

-- the lines of corners are a kind of line: without a fault exactly where they are of a corner in its range
pub corner_kind : IsLineKind corner_fault corner_of_line corner_line IsCornerInRange
corner_kind = kind_from corner_fault corner_of_line corner_line IsCornerInRange good_corner (λ c in_range. corner_of_line-corner_line c) corner_inverse

pub lacks-corner_line : (c : PlaneCorner) → lacks 10 (corner_line c) ≡ true
lacks-corner_line c =
    lacks-spaced (codes "corner") (spelling c.direction.s ∷ spelling c.direction.t ∷ quotient_text c.value.0 c.value.1 ∷ [])
    (refl, (lacks-number c.direction.s, (lacks-number c.direction.t, (lacks-append 10 (spelling c.value.0) (47 ∷ spelling c.value.1) (lacks-number c.value.0) (lacks-number c.value.1), tt))))

-- ---- the fault of a line by its parts

-- a line with two numbers that are no direction has the fault `Range`
pub direction_outside : (line : Line) (f g v : Field) (s t : ℤ) → fields line ≡ codes "corner" ∷ f ∷ g ∷ v ∷ [] → number_of f ≡ Some s → number_of g ≡ Some t → corner_value_fault v ≡ None → is_direction s t ≡ false → corner_fault line ≡ Some Range
direction_outside line f g v s t e m n good outside = named_is (codes "corner") corner_fields_fault line _ e ∙ rw (m, n, outside, good) refl

-- a line with two numbers has the fault of its value, where that has one
pub value_bad : (line : Line) (f g v : Field) (s t : ℤ) (k : Kind) → fields line ≡ codes "corner" ∷ f ∷ g ∷ v ∷ [] → number_of f ≡ Some s → number_of g ≡ Some t → corner_value_fault v ≡ Some k → corner_fault line ≡ Some k
value_bad line f g v s t k e m n bad = elim (cases_Bool (is_direction s t)) [
  | inl inside ↦ named_is (codes "corner") corner_fields_fault line _ e ∙ rw (m, n, inside) bad
  | inr outside ↦ named_is (codes "corner") corner_fields_fault line _ e ∙ rw (m, n, outside, bad) refl
]
