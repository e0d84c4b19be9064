-- Laws of taking and delivering bytes in pieces.
use Rattle.std.proofs.Common.{◌≡◌, ℕ, ◌+◌, ◌-◌, ◌≤◌, Option, None, Some, List, ◌++◌, length, take, drop, sym, ap, ◌∙◌, append_assoc, subst, arith}
use Rattle.std.proofs.Math.Seq.{take-add, take-append-add}
use Rattle.std.proofs.lemmas.List.{take_all, take_at, take-append-drop, drop-drop, length-drop, length-take, length-take-le, take-append-le, drop_at, length-append}
use Rattle.std.proofs.KnownBytes.{Consumes-trans}
use Rattle.std.specs.Io.KnownBytes.{Consumes}
use Rattle.sc_outside.specs.Told.{Delivered, Took, TookPart}

-- what two calls took one after the other, they took together
pub Took-trans : (a b c : Option (List ℕ)) (bs cs : List ℕ) → Took a b bs → Took b c cs → Took a c (bs ++ cs)
Took-trans a b None bs cs p q = tt
Took-trans a None (Some z) bs cs p q = absurd q
Took-trans None (Some y) (Some z) bs cs p q = absurd p
Took-trans (Some x) (Some y) (Some z) bs cs p q = q ∙ ap (λ l. l ++ cs) p ∙ append_assoc x bs cs

-- one more piece of a text
pub Took-more : (a b c : Option (List ℕ)) (text : List ℕ) (i k : ℕ) → Took a b (take i text) → Took b c (take k (drop i text)) → Took a c (take (i + k) text)
Took-more a b c text i k p q = subst (Took a c) (sym (take-add i k text)) (Took-trans a b c _ _ p q)

-- the slice from place i on is all that is left there
pub slice_from : (i : ℕ) (text : List ℕ) → take (length text - i) (drop i text) ≡ drop i text
slice_from i text = take_all _ _ (omega (arith, length-drop i text))

-- the same for the slice from place i on
pub Took-next : (a b c : Option (List ℕ)) (text : List ℕ) (i k : ℕ) → Took a b (take i text) → Took b c (take k (take (length text - i) (drop i text))) → Took a c (take (i + k) text)
Took-next a b c text i k p q = Took-more a b c text i k p (subst (λ l. Took b c (take k l)) (slice_from i text) q)

-- what is taken of the slice from place i on ends within the text
pub within_next : (text : List ℕ) (i k : ℕ) → i ≤ length text → k ≤ length (take (length text - i) (drop i text)) → i + k ≤ length text
within_next text i k p q = omega (arith, length-drop i text, ap length (slice_from i text))

-- where a source delivered one list and then another, it delivered as many bytes as both have
pub Delivered-two : (a b c : Option (List ℕ)) (xs ys : List ℕ) (n : ℕ) → Consumes a b xs → Consumes b c ys → length xs + length ys ≡ n → Delivered a c n
Delivered-two None b c xs ys n p q e = tt
Delivered-two (Some x) None c xs ys n p q e = absurd p
Delivered-two (Some x) (Some y) None xs ys n p q e = absurd q
Delivered-two (Some x) (Some y) (Some z) xs ys n p q e =
    let whole : x ≡ (xs ++ ys) ++ z = p ∙ ap (λ l. xs ++ l) q ∙ sym (append_assoc xs ys z) in
    let size : length (xs ++ ys) ≡ n = length-append xs ys ∙ e in (
      omega (arith, ap length whole, length-append (xs ++ ys) z),
      sym (ap (drop n) whole ∙ drop_at (xs ++ ys) z n size),
    )

-- the first bytes of a buffer whose front was filled
pub front_length : (k : ℕ) (front : List ℕ) → k ≤ length front → length (take k front) ≡ k
front_length k front h = length-take-le k front h

-- one more piece of the input, that was read into the front of a buffer
pub Consumes-next : (a b c : Option (List ℕ)) (got front others all : List ℕ) (k : ℕ) → Consumes a b got → Consumes b c (take k front) → k ≤ length front
    → all ≡ got ++ take k (front ++ others) → Consumes a c all
Consumes-next a b c got front others all k p q h e =
    subst (Consumes a c) (sym (e ∙ ap (λ l. got ++ l) (take-append-le k front others h))) (Consumes-trans a b c got (take k front) p q)

-- a number of bytes within the first m of a buffer
pub below_front : (k m : ℕ) (buffer : List ℕ) → k ≤ length (take m buffer) → k ≤ m
below_front k m buffer h = omega (arith, length-take m buffer)

-- the same as `front_length`, with the others of the buffer behind
pub read_length : (k : ℕ) (front others : List ℕ) → k ≤ length front → length (take k (front ++ others)) ≡ k
read_length k front others h = ap length (take-append-le k front others h) ∙ length-take-le k front h

-- the next k bytes of a list from place i on, put at the front of a buffer
pub given_next : (items front others : List ℕ) (i k : ℕ) → front ≡ take k (take (length items - i) (drop i items)) → k ≤ length (take (length items - i) (drop i items))
    → drop i items ≡ take k (front ++ others) ++ drop (i + k) items
given_next items front others i k e h =
    let rest : take (length items - i) (drop i items) ≡ drop i items = slice_from i items in
    let filled : front ≡ take k (drop i items) = e ∙ ap (take k) rest in
    let size : length front ≡ k = ap length filled ∙ length-take-le k (drop i items) (subst (λ l. k ≤ length l) rest h) in
    sym (ap (λ l. l ++ drop (i + k) items) (take_at front others k size ∙ filled) ∙ ap (λ l. take k (drop i items) ++ l) (sym (drop-drop k i items)) ∙ take-append-drop k (drop i items))

-- what was taken before a part of a text, and the part
pub TookPart-after : (a b c : Option (List ℕ)) (bs cs : List ℕ) → Took a b bs → TookPart b c cs → TookPart a c (bs ++ cs)
TookPart-after a b c bs cs p q =
    (length bs + q.0, omega (arith, q.1, length-append bs cs), subst (Took a c) (sym (take-append-add bs cs q.0)) (Took-trans a b c bs _ p q.2))
