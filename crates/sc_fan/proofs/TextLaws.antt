-- Laws of fan texts, and of what a reader of them answers.
use Rattle.std.proofs.Common.{◌≡◌, ◌≢◌, ℕ, suc, ◌+◌, ◌<◌, List, [], ◌∷◌, map, length, get_or, Result, Ok, Err, ◌⊎◌, refl, sym, ap, subst, ◌∙◌, arith}
use Rattle.std.specs.Prelude.{IfOk, IfErr, OnOk, IsErrAnd, MatchResult}
use Rattle.sc_theory.specs.Prices.{Prices}
use Rattle.sc_cone.specs.Fans.{Corner as PlaneCorner, Edge as PlaneEdge, no_corner, no_edge}
use Rattle.sc_line.specs.declared.fault.Kind.{Kind}
use Rattle.sc_line.specs.declared.fault.Kind.TheVariants.{Rest}
use Rattle.sc_line.specs.declared.fault.TextFault.{TextFault}
use Rattle.sc_line.specs.declared.fault.TextFault.TheVariants as text_faults
use Rattle.sc_line.specs.Lines.{parts}
use Rattle.sc_line.specs.Faults.{IsFaultless, IsFaultOf, IsFirstFault}
use Rattle.sc_line.specs.Formats.{plan_of}
use Rattle.sc_line.specs.Forms.{IsToldBy}
use Rattle.sc_line.proofs.TextLaws as texts
use Rattle.sc_fan.specs.declared.fan.Edge.{Edge}
use Rattle.sc_fan.specs.declared.fan.Fan.{Fan}
use Rattle.sc_fan.specs.Fans.{FanSaid, fan_lines, fan_text, fan_due, fan_plan, IsFanInRange}
use Rattle.sc_fan.specs.FanRead.{fan_said, edge_said, plane_fan, AreJoinedTo, IsJoined}
use Rattle.sc_fan.specs.FanReader.{IsFanRead}
use Rattle.sc_fan.specs.Reading.{LinesLeft, left_of, taken, Fails}
use Rattle.sc_fan.proofs.FanLaws.{all_lines, lawful_fan}
use Rattle.sc_fan.proofs.ReadingLaws.{whole_text, text_goes_on, text_stops}

-- the texts without a fault are the texts of the fans in range, and no two fans have one text
pub text_is_faultless : (v : FanSaid) → IsFanInRange v → IsFaultless fan_plan (fan_text v)
unfolding fan_plan
text_is_faultless = texts.text_is_faultless fan_lines fan_due IsFanInRange all_lines lawful_fan

pub faultless_is_text : (text : List ℕ) → IsFaultless fan_plan text → (v : FanSaid) × IsFanInRange v × (text ≡ fan_text v)
unfolding fan_plan
faultless_is_text = texts.faultless_is_text fan_lines fan_due IsFanInRange all_lines lawful_fan

pub text_is_of_one : (v w : FanSaid) → IsFanInRange v → IsFanInRange w → fan_text v ≡ fan_text w → v ≡ w
text_is_of_one = texts.text_is_of_one fan_lines fan_due IsFanInRange all_lines lawful_fan

-- ---- a fan that was read

-- a fan that its text tells, or the first fault of the text, is what a reader of it answers
pub fan_read : (bytes : List ℕ) (r : Result Fan TextFault) → IfOk r (λ f. IsToldBy fan_due bytes (fan_said f)) → IfErr r (IsFaultOf (plan_of fan_due) bytes) → IsFanRead bytes r
fan_read bytes r = texts.text_of_read fan_lines fan_due IsFanInRange all_lines lawful_fan bytes fan_said r

module _ (bytes : List ℕ) (r : Result Fan TextFault) (read : IsFanRead bytes r) where
  -- a fan is read only of a text without a fault, and any fault is the text's first or want of memory
  pub is_faultless : OnOk r (IsFaultless fan_plan bytes)
  unfolding fan_plan
  is_faultless = texts.faultless fan_lines fan_due IsFanInRange all_lines lawful_fan bytes fan_said r read

  pub is_malformed : IfErr r (IsFaultOf fan_plan bytes)
  unfolding fan_plan
  is_malformed = read.malformed

  pub only_first : (line : ℕ) (kind : Kind) → IsFirstFault fan_plan bytes line kind → IsErrAnd r (λ e. (e ≡ text_faults.Malformed line kind) ⊎ (e ≡ text_faults.Memory))
  unfolding fan_plan
  only_first line kind first = texts.only fan_lines fan_due IsFanInRange all_lines lawful_fan bytes fan_said r read line kind first

  -- of the text of a fan in range that fan is read, unless memory runs out
  pub is_same : (v : FanSaid) → IsFanInRange v → bytes ≡ fan_text v → IfOk r (λ f. fan_said f ≡ v)
  is_same = texts.reads_again fan_lines fan_due IsFanInRange all_lines lawful_fan bytes fan_said r read

  pub is_memory : (v : FanSaid) → IsFanInRange v → bytes ≡ fan_text v → IfErr r (λ e. e ≡ text_faults.Memory)
  is_memory = texts.memory fan_lines fan_due IsFanInRange all_lines lawful_fan bytes fan_said r read

-- ---- edges that join their corners are known by their lists

abbrev joined_from : List PlaneCorner → ℕ → List Prices → List PlaneEdge
joined_from corners n [] = []
joined_from corners n (list ∷ lists) = (record { from = get_or corners n no_corner; to = get_or corners (suc n) no_corner; list = list }) ∷ joined_from corners (suc n) lists

-- the edges go from the corner number n on
abbrev AreJoinedFrom : List PlaneCorner → ℕ → List PlaneEdge → Type 0
AreJoinedFrom corners n edges = (i : ℕ) → i < length edges → ((get_or edges i no_edge).from ≡ get_or corners (n + i) no_corner) × ((get_or edges i no_edge).to ≡ get_or corners (suc (n + i)) no_corner)

next_joined : (corners : List PlaneCorner) (n : ℕ) (e : PlaneEdge) (edges : List PlaneEdge) → AreJoinedFrom corners n (e ∷ edges) → AreJoinedFrom corners (suc n) edges
next_joined corners n e edges h i inside =
    let at = h (suc i) (omega arith) in
    let place : n + suc i ≡ suc n + i = omega arith in
    (at.0 ∙ ap (λ (k : ℕ). get_or corners k no_corner) place, at.1 ∙ ap (λ (k : ℕ). get_or corners (suc k) no_corner) place)

edges_are : (corners : List PlaneCorner) (n : ℕ) (edges : List PlaneEdge) → AreJoinedFrom corners n edges → edges ≡ joined_from corners n (map (λ e. e.list) edges)
edges_are corners n [] h = refl
edges_are corners n (e ∷ edges) h =
    let at = h 0 (omega arith) in
    let place : n + 0 ≡ n = omega arith in
    let from = at.0 ∙ ap (λ (k : ℕ). get_or corners k no_corner) place in
    let to = at.1 ∙ ap (λ (k : ℕ). get_or corners (suc k) no_corner) place in
    let rest = edges_are corners (suc n) edges (next_joined corners n e edges h) in
    λ i. (record { from = from i; to = to i; list = e.list }) ∷ rest i

joined_all : (corners : List PlaneCorner) (edges : List PlaneEdge) → AreJoinedTo corners edges → AreJoinedFrom corners 0 edges
joined_all corners edges h i inside =
    let place : i ≡ 0 + i = omega arith in
    ((h i inside).0 ∙ ap (λ (k : ℕ). get_or corners k no_corner) place, (h i inside).1 ∙ ap (λ (k : ℕ). get_or corners (suc k) no_corner) place)

lists_said : (edges : List Edge) → map (λ (e : PlaneEdge). e.list) (map edge_said edges) ≡ map (λ (e : Edge). e.list) edges
lists_said [] = refl
lists_said (e ∷ edges) = ap (λ (ls : List Prices). e.list ∷ ls) (lists_said edges)

-- fans of joined edges that say the same are the same
pub same_fans : (f g : Fan) → IsJoined (plane_fan f) → IsJoined (plane_fan g) → fan_said f ≡ fan_said g → plane_fan f ≡ plane_fan g
same_fans f g h k e =
    let p = plane_fan f in
    let q = plane_fan g in
    let corners : p.corners ≡ q.corners = ap (λ (v : FanSaid). v.corners) e in
    let lists : map (λ (x : PlaneEdge). x.list) p.edges ≡ map (λ (x : PlaneEdge). x.list) q.edges = lists_said f.edges.items ∙ ap (λ (v : FanSaid). v.lists) e ∙ sym (lists_said g.edges.items) in
    let edges : p.edges ≡ q.edges =
    edges_are p.corners 0 p.edges (joined_all p.corners p.edges h) ∙ (λ i. joined_from (corners i) 0 (lists i)) ∙ sym (edges_are q.corners 0 q.edges (joined_all q.corners q.edges k)) in
    λ i. record { first = (ap (λ (v : FanSaid). v.first) e) i; second = (ap (λ (v : FanSaid). v.second) e) i; corners = corners i; edges = edges i }

-- what was printed is read as the same fan, unless memory runs out
pub printed_is_read : (f : Fan) (r : Result Fan TextFault) → IsFanInRange (fan_said f) → IsJoined (plane_fan f) → IsFanRead (fan_text (fan_said f)) r → IfOk r (λ g. IsJoined (plane_fan g))
    → MatchResult r (λ g. plane_fan g ≡ plane_fan f) (λ e. e ≡ text_faults.Memory)
printed_is_read f (Ok g) h joined read again = same_fans g f again joined (is_same (fan_text (fan_said f)) (Ok g) read (fan_said f) h refl)
printed_is_read f (Err e) h joined read again = is_memory (fan_text (fan_said f)) (Err e) read (fan_said f) h refl

-- ---- what was taken of a text, and how it ends

module _ (bytes : List ℕ) (s : LinesLeft) (start : s ≡ left_of 1 (parts bytes)) where
  -- a fault in what is due is the answer; a fan is, where nothing is left; and else the fault `Rest`
  pub read_stops : (e : TextFault) → Fails e (taken fan_due s) → IsFanRead bytes (Err e)
  read_stops e h = fan_read bytes (Err e) tt (text_stops fan_due bytes e (subst (λ (l : LinesLeft). Fails e (taken fan_due l)) start h))

  module _ (f : Fan) (t : LinesLeft) (told : taken fan_due s ≡ Ok (fan_said f, t)) where
    from_start : taken fan_due (left_of 1 (parts bytes)) ≡ Ok (fan_said f, t)
    from_start = ap (taken fan_due) (sym start) ∙ told

    pub read_ends : t.parts ≡ [] ∷ [] → IsFanRead bytes (Ok f)
    read_ends end = fan_read bytes (Ok f) (whole_text fan_due bytes (fan_said f) t from_start end) tt

    pub read_goes_on : (e : TextFault) → e ≡ text_faults.Malformed t.number Rest → t.parts ≢ ([] ∷ []) → IsFanRead bytes (Err e)
    read_goes_on e is more = fan_read bytes (Err e) tt (subst (IsFaultOf (plan_of fan_due) bytes) (sym is) (text_goes_on fan_due bytes (fan_said f) t from_start more))
