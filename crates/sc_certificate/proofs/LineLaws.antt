-- What a line of a certificate does to what is due.
use Rattle.std.proofs.Common.{◌≡◌, ℕ, ◌-◌, Bool, true, false, [], ◌∷◌, ◌++◌, Option, Some, None, Result, Ok, Err, arith, refl, sym, ap, subst, ◌∙◌}
use Rattle.std.specs.Prelude.{OnOk, OnErr, IfNone}
use Rattle.std.proofs.lemmas.Bool.{false≢true}
use Rattle.std.proofs.lemmas.Option.{none-some}
use Rattle.sc_theory.specs.Words.{Word}
use Rattle.sc_theory.specs.Chains.{Chain, positions}
use Rattle.sc_line.specs.declared.fault.LineFault.{LineFault}
use Rattle.sc_line.specs.LineFaults.{IsFault}
use Rattle.sc_line.specs.Lines.{Line}
use Rattle.sc_line.specs.Formats.{Format, told, a_line, is_told, fault_due, Steps, Reads}
use Rattle.sc_line.specs.Forms.{LineKind, Tells, literal_due, counted_from, one_due, and_also, and_then, both_due}
use Rattle.sc_line.proofs.FormatLaws.{reads_append, one_step}
use Rattle.sc_line.proofs.PartLaws.{steps_then, told_then, second_due, told_both, counted_told}
use Rattle.sc_text.specs.declared.limits.TheConstants.{VERSION_1}
use Rattle.sc_text.specs.Words.{a_word}
use Rattle.sc_text.specs.ValueLines.{Quotient, a_value}
use Rattle.sc_text.specs.Surfaces.{IsChainInRange}
use Rattle.sc_certificate.specs.Certificates.{Certificate, FrontTold, BodyTold, certificate_told, body_form, no_body, certificate_due}
use Rattle.sc_certificate.specs.Fronts.{FrontSoFar, front_at, front_start, IsReached}
use Rattle.sc_certificate.specs.Heads.{ChainAndValue, head_of, behind, lines_at}
use Rattle.sc_certificate.proofs.CertificateLaws.{lawful_front}

-- ---- the heading and the words

-- with a line more, which is read or refused without a change, what is due still follows lines that were read
pub reached_more : {E : Type 0} (r : Result (Unit {0}) E) (f f' : Format FrontTold) (line : Line) → OnOk r (Steps f f' line) → OnErr r (f' ≡ f) → IsReached f → IsReached f'
reached_more (Ok u) f f' line step same h = record { lines = h.lines ++ line ∷ []; reads = reads_append front_start f f' h.lines (line ∷ []) h.reads (one_step f f' line step) }
reached_more (Err e) f f' line step same h = subst IsReached (sym same) h

-- where all were read, the words are told
pub words_told : (p : FrontSoFar) → is_told (front_at p) ≡ true → front_at p ≡ told (and_also tt p.words.items)
words_told p whole = by_heading p.headed whole
  where
    kind : Chain → LineKind (ℕ × Word)
    kind c = a_word p.limits (p.letters - positions c)

    by_heading : (read : Bool) → is_told (both_due (literal_due p.text read) (λ u. counted_from p.name p.most kind p.words.count p.words.items)) ≡ true
        → both_due (literal_due p.text read) (λ u. counted_from p.name p.most kind p.words.count p.words.items) ≡ told (and_also tt p.words.items)
    by_heading false h = absurd (false≢true h)
    by_heading true h =
        let words = counted_from p.name p.most kind p.words.count p.words.items in
        let all = counted_told p.name p.most kind p.words.count p.words.items (sym (second_due (told tt) words refl) ∙ h) in
        told_both (told tt) words tt p.words.items refl all

-- where the heading and all words were read, the words are a chain in range
pub words_in_range : (p : FrontSoFar) → IsReached (front_at p) → is_told (front_at p) ≡ true → IsChainInRange p.words.items
words_in_range p h whole =
    let r = h.reads in
    ((lawful_front VERSION_1 (omega arith)).in_range h.lines (and_also tt p.words.items) (subst (λ (f : Format FrontTold). Reads front_start h.lines f) (words_told p whole) r)).1

-- ---- behind a head

module _ (x : FrontTold) (q : Quotient) where
  behind_told : (b : Format BodyTold) → is_told (behind x q b) ≡ is_told b
  behind_told b =
      told_then (and_then (and_then b (λ y. told (and_also q y))) (λ y. told (and_also x y))) certificate_told
      ∙ told_then (and_then b (λ y. told (and_also q y))) (and_also x)
      ∙ told_then b (and_also q)

  behind_steps : (b b' : Format BodyTold) (line : Line) → Steps b b' line → Steps (behind x q b) (behind x q b') line
  behind_steps b b' line s =
      steps_then (and_then (and_then b (λ y. told (and_also q y))) (λ y. told (and_also x y))) (and_then (and_then b' (λ y. told (and_also q y))) (λ y. told (and_also x y))) (λ t. told (certificate_told t)) line
      (steps_then (and_then b (λ y. told (and_also q y))) (and_then b' (λ y. told (and_also q y))) (λ y. told (and_also x y)) line (steps_then b b' (λ y. told (and_also q y)) line s))

  behind_fault : (b : Format BodyTold) (line : Line) (e : LineFault) → is_told b ≡ false → IsFault (fault_due b line) e → IsFault (fault_due (behind x q b) line) e
  behind_fault (told y) line e due bad = absurd (false≢true (sym due))
  behind_fault (a_line fault rest) line e due bad = bad

module _ (f : Format FrontTold) (o : Option ChainAndValue) (h : ChainAndValue) (some : o ≡ Some h) where
  at_head : (body : ChainAndValue → Format BodyTold) → lines_at f o body ≡ behind (and_also tt h.chain) h.value (body h)
  unfolding lines_at
  at_head body = ap (λ (p : Option ChainAndValue). lines_at f p body) some

  -- behind a head the certificate is told exactly where the body is
  pub body_told : (body : ChainAndValue → Format BodyTold) → is_told (lines_at f o body) ≡ is_told (body h)
  body_told body = ap (λ (g : Format Certificate). is_told g) (at_head body) ∙ behind_told (and_also tt h.chain) h.value (body h)

  -- a line that the body reads is read
  pub body_steps : (body body' : ChainAndValue → Format BodyTold) (line : Line) → Steps (body h) (body' h) line → Steps (lines_at f o body) (lines_at f o body') line
  body_steps body body' line s =
      subst (λ (g : Format Certificate). Steps g (lines_at f o body') line) (sym (at_head body))
      (subst (λ (g : Format Certificate). Steps (behind (and_also tt h.chain) h.value (body h)) g line) (sym (at_head body')) (behind_steps (and_also tt h.chain) h.value (body h) (body' h) line s))

  -- a line has the fault that the body finds
  pub body_fault : (body : ChainAndValue → Format BodyTold) (line : Line) (e : LineFault) → is_told (body h) ≡ false → IsFault (fault_due (body h) line) e → IsFault (fault_due (lines_at f o body) line) e
  body_fault body line e due bad =
      subst (λ (g : Format Certificate). IsFault (fault_due g line) e) (sym (at_head body)) (behind_fault (and_also tt h.chain) h.value (body h) line e due bad)

  body_done : (body : ChainAndValue → Format BodyTold) (b : BodyTold) → body h ≡ told b → lines_at f o body ≡ told (certificate_told (and_also (and_also tt h.chain) (and_also h.value b)))
  body_done body b e = at_head body ∙ ap (behind (and_also tt h.chain) h.value) e

  -- with the body told, the certificate is told: the head's chain and value, and what the body tells
  pub body_done_as : (body : ChainAndValue → Format BodyTold) (b : BodyTold) (c : Chain) (q : Quotient) → c ≡ h.chain → q ≡ h.value → body h ≡ told b → lines_at f o body ≡ told (certificate_told (and_also (and_also tt c) (and_also q b)))
  body_done_as body b c q chain value e = body_done body b e ∙ (λ i. told (certificate_told (and_also (and_also tt (sym chain i)) (and_also (sym value i) b))))

  -- where the same is due of the body, the same is due
  pub body_same : (body body' : ChainAndValue → Format BodyTold) → body' h ≡ body h → lines_at f o body' ≡ lines_at f o body
  body_same body body' e = at_head body' ∙ ap (behind (and_also tt h.chain) h.value) e ∙ sym (at_head body)

-- ---- before a head was read

module _ (o : Option ChainAndValue) (none : o ≡ None) (body : ChainAndValue → Format BodyTold) where
  no_head : (f : Format FrontTold) → lines_at f o body ≡ lines_at f None body
  no_head f = ap (λ (p : Option ChainAndValue). lines_at f p body) none

  headless : (f : Format FrontTold) → is_told (lines_at f None body) ≡ false
  unfolding lines_at
  headless (told x) = refl
  headless (a_line fault next) = refl

  -- without a head no certificate is told
  pub valueless : (f : Format FrontTold) → is_told (lines_at f o body) ≡ false
  valueless f = ap (λ (g : Format Certificate). is_told g) (no_head f) ∙ headless f

  -- a line that is read as one of the heading and the words is read
  pub front_steps : (f f' : Format FrontTold) (line : Line) → Steps f f' line → Steps (lines_at f o body) (lines_at f' o body) line
  unfolding lines_at
  front_steps f f' line s =
      subst (λ (g : Format Certificate). Steps g (lines_at f' o body) line) (sym (no_head f))
      (subst (λ (g : Format Certificate). Steps (lines_at f None body) g line) (sym (no_head f')) (steps_now f s))
    where
      steps_now : (d : Format FrontTold) → Steps d f' line → Steps (lines_at d None body) (lines_at f' None body) line
      steps_now (told x) s = absurd (none-some _ (sym s.good))
      steps_now (a_line fault next) s = record { good = s.good; next = ap (λ (h : Format FrontTold). lines_at h None body) s.next }

  -- a line has the fault that is found there
  pub front_fault : (f : Format FrontTold) (line : Line) (e : LineFault) → is_told f ≡ false → IsFault (fault_due f line) e → IsFault (fault_due (lines_at f o body) line) e
  unfolding lines_at
  front_fault f line e due bad = subst (λ (g : Format Certificate). IsFault (fault_due g line) e) (sym (no_head f)) (fault_now f due bad)
    where
      fault_now : (d : Format FrontTold) → is_told d ≡ false → IsFault (fault_due d line) e → IsFault (fault_due (lines_at d None body) line) e
      fault_now (told x) due bad = absurd (false≢true (sym due))
      fault_now (a_line fault next) due bad = bad

  -- where the same is due of the heading and the words, the same is due
  pub front_same : (f f' : Format FrontTold) → f' ≡ f → lines_at f' o body ≡ lines_at f o body
  front_same f f' e = ap (λ (g : Format FrontTold). lines_at g o body) e

  -- behind all words the line of a value is read, and what is due then goes by the head of chain and value
  pub value_steps : (f f' : Format FrontTold) (c : Chain) (line : Line) (h : ChainAndValue) → f ≡ told (and_also tt c) → h.chain ≡ c → Tells a_value line h.value → Steps (lines_at f o body) (lines_at f' (Some h) body) line
  unfolding lines_at
  value_steps f f' c line h e chain t =
      let now : lines_at (told (and_also tt c)) None body ≡ lines_at f o body = λ i. lines_at (sym e i) (sym none i) body in
      let step : Steps (lines_at (told (and_also tt c)) None body) (lines_at f' (Some h) body) line = record {
        good = t.good;
        next = λ i. behind (and_also tt (chain i)) (sym t.value_is i) (body (head_of (chain i) (sym t.value_is i)));
      } in
      subst (λ (g : Format Certificate). Steps g (lines_at f' (Some h) body) line) now step

  -- behind all words the fault of a line is that of a value
  pub value_refused : (f : Format FrontTold) (c : Chain) (line : Line) (e : LineFault) → f ≡ told (and_also tt c) → IsFault (a_value.fault line) e → IsFault (fault_due (lines_at f o body) line) e
  unfolding lines_at
  value_refused f c line e whole bad =
      let now : lines_at (told (and_also tt c)) None body ≡ lines_at f o body = λ i. lines_at (sym whole i) (sym none i) body in
      subst (λ (g : Format Certificate). IsFault (fault_due g line) e) now bad

-- where nothing was read
pub start_due : (f : Format FrontTold) (body : ChainAndValue → Format BodyTold) → f ≡ front_start → ((h : ChainAndValue) → body h ≡ (body_form VERSION_1 h.chain).due no_body) → lines_at f None body ≡ certificate_due VERSION_1
unfolding lines_at
start_due f body e d = λ i. and_then (both_due (e i) (λ x. both_due (one_due a_value None) (λ q. d (head_of x.second q) i))) (λ t. told (certificate_told t))

-- ---- options

pub if_none : {T : Type 0} {P : Type 0} (o : Option T) → P → IfNone o P
if_none None p = p
if_none (Some x) p = tt
