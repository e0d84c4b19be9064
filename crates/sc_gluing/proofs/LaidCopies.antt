-- Cycles laid behind others: their sides follow those that lay there.
use Rattle.std.proofs.Common.{◌≡◌, ℕ, ◌+◌, ◌<◌, List, [], ◌∷◌, ◌++◌, length, get_or, inl, inr, arith, sym, ap, ◌∙◌, length-append}
use Rattle.std.proofs.lemmas.List.{append-nil, take_all}
use Rattle.std.proofs.lemmas.Grind.{flat_map-append}
use Rattle.sc_gluing.specs.Cycles.{labels_of, round, after}
use Rattle.sc_gluing.specs.Laying.{LaysBehind}
use Rattle.sc_gluing.proofs.CycleLaws.{size, size-cons, after_here, after_later, here_or_later}
use Rattle.std.specs.Prelude.{take}

-- the first n places of a cycle lie behind the cycles that lay there
pub record IsLaidSoFar (walk labels afters : List ℕ) (n : ℕ) (labels' afters' : List ℕ) : Type 0 where
  pub labels_are : labels' ≡ labels ++ take n walk
  pub as_many : length afters' ≡ length afters + n
  pub kept : (s : ℕ) → s < length afters → get_or afters' s 0 ≡ get_or afters s 0
  pub new : (k : ℕ) → k < n → get_or afters' (length afters + k) 0 ≡ length labels + round (length walk) k

-- the side after a side in the first of two lists of cycles, and in the second one
pub after-append_left : (vs ws : List (List ℕ)) (s : ℕ) → s < size vs → after (vs ++ ws) s ≡ after vs s
after-append_left [] ws s h = absurd (omega arith)
after-append_left (v ∷ vs) ws s h =
    elim (here_or_later (length v) s) [
      | inl here ↦ after_here v (vs ++ ws) s here ∙ sym (after_here v vs s here)
      | inr later ↦
          let r : ℕ = later.0 in
          ap (after (v ∷ vs ++ ws)) later.1 ∙ after_later v (vs ++ ws) r
          ∙ ap (λ (x : ℕ). length v + x) (after-append_left vs ws r (omega (arith, later.1, size-cons v vs)))
          ∙ sym (ap (after (v ∷ vs)) later.1 ∙ after_later v vs r)
    ]

pub after-append_right : (vs ws : List (List ℕ)) (r : ℕ) → after (vs ++ ws) (size vs + r) ≡ size vs + after ws r
after-append_right [] ws r =
    let e : size [] + r ≡ r = omega arith in
    ap (after ws) e ∙ omega arith
after-append_right (v ∷ vs) ws r =
    let e : size (v ∷ vs) + r ≡ length v + (size vs + r) = omega (arith, size-cons v vs) in
    ap (after (v ∷ vs ++ ws)) e ∙ after_later v (vs ++ ws) (size vs + r)
    ∙ omega (arith, after-append_right vs ws r, size-cons v vs)

-- the labels along one cycle more
labels_of-last : (vs : List (List ℕ)) (w : List ℕ) → labels_of (vs ++ w ∷ []) ≡ labels_of vs ++ w
labels_of-last vs w = flat_map-append (λ (v : List ℕ). v) vs (w ∷ []) ∙ ap (λ (xs : List ℕ). labels_of vs ++ xs) (append-nil w)

-- ---- one cycle

-- a cycle all of whose places lie behind the others is laid
pub whole_laid : (walk labels afters labels' afters' : List ℕ) → IsLaidSoFar walk labels afters (length walk) labels' afters' → LaysBehind 1 walk labels afters labels' afters'
whole_laid walk labels afters labels' afters' is cycles laid =
    let now : labels' ≡ labels ++ walk = is.labels_are ∙ ap (λ (xs : List ℕ). labels ++ xs) (take_all (length walk) walk (omega arith)) in
    let len : length labels' ≡ length labels + length walk = ap (λ (xs : List ℕ). length xs) now ∙ length-append labels walk in
    let sides : length labels ≡ size cycles = ap (λ (xs : List ℕ). length xs) laid.labels_are in
    record {
      labels_are = now ∙ ap (λ (xs : List ℕ). xs ++ walk) laid.labels_are ∙ sym (labels_of-last cycles walk);
      as_many = omega (arith, is.as_many, laid.as_many);
      afters_are = λ s h. elim (here_or_later (length labels) s) [
        | inl before ↦
            is.kept s (omega (arith, laid.as_many)) ∙ laid.afters_are s before ∙ sym (after-append_left cycles (walk ∷ []) s (omega arith))
        | inr behind ↦
            let k : ℕ = behind.0 in
            let inside : k < length walk = omega (arith, behind.1) in
            let at : s ≡ length afters + k = omega (arith, behind.1, laid.as_many) in
            let there : s ≡ size cycles + k = omega (arith, behind.1) in
            ap (λ (m : ℕ). get_or afters' m 0) at ∙ is.new k inside
            ∙ ap (λ (m : ℕ). m + round (length walk) k) sides
            ∙ ap (λ (m : ℕ). size cycles + m) (sym (after_here walk [] k inside))
            ∙ sym (ap (after (cycles ++ walk ∷ [])) there ∙ after-append_right cycles (walk ∷ []) k)
      ];
    }
