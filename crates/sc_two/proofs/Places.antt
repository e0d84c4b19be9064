-- The lines of a text by those of its parts, and the first line that is wrong.
use Rattle.std.proofs.Common.{Bor, ◌≡◌, ℕ, zero, suc, ◌+◌, ◌-◌, ◌<◌, ◌≤◌, ◌⊎◌, true, false, List, [], ◌∷◌, ◌++◌, length, take, drop, get_or, None, Some, Option, IsSome, refl, sym, ◌∙◌, ap, ap₂, subst, arith, inl, inr}
use Rattle.std.specs.Prelude.{Result, Err, IsErrOf, MatchOption}
use Rattle.std.proofs.Math.Seq.{get_or-append_seam, take-append_seam, drop-append-add}
use Rattle.std.proofs.lemmas.Bool.{cases_lt, cases_order, cond-true, cond-false, true≢false}
use Rattle.std.proofs.lemmas.List.{length-append, get_or_append_left, get_or-append-add}
use Rattle.std.proofs.lemmas.Option.{none-some}
use Rattle.sc_line.specs.declared.fault.Kind.{Kind}
use Rattle.sc_line.specs.declared.fault.Kind.TheVariants.{Separator}
use Rattle.sc_line.specs.declared.fault.TextFault.{TextFault}
use Rattle.sc_line.specs.declared.fault.TextFault.TheVariants.{Malformed, Memory}
use Rattle.sc_words.specs.declared.lines.RawLine.{RawLine}
use Rattle.sc_words.specs.ChainText.{Line, text_lines, line_at, line_case, line_kind, raw_lines, IsFirstMalformed}
use Rattle.sc_two.specs.TwoTexts.{is_separator, Separates, IsTwoText, IsGoodLine, wrong_kind, IsFirstWrong}
use Rattle.sc_two.specs.inside.Parts.{HasNone, IsPart, IsFollowed}
use Rattle.sc_two.specs.inside.Behind.{AreLinesBehind, IsMalformedBehind, IsFaultBehind}
use Rattle.sc_two.proofs.Slashes.{slash_has_no_case}

-- a part with what follows it, and one that is the whole text
pub record IsBefore (text part : List ℕ) (count : ℕ) (rest : List ℕ) : Type 0 where
  pub count_is : count ≡ length (text_lines part)
  pub none : HasNone (text_lines part)
  pub line : Line
  pub slash : is_separator line ≡ true
  pub lines : text_lines text ≡ text_lines part ++ line ∷ text_lines rest

-- a part and what follows it, taken together
pub before : (text part rest : List ℕ) (count : ℕ) → IsPart text part count → IsFollowed text part rest → IsBefore text part count rest
before text part rest count p f = record { count_is = p.count_is; none = p.none; line = f.line; slash = f.slash; lines = f.lines }

abbrev AllCased : List Line → Type 0
AllCased lines = (k : ℕ) → k < length lines → IsSome (line_case (get_or lines k []))

-- by places from 0 and by numbers from 1
cased : (text : List ℕ) → ((n : ℕ) → 1 ≤ n → n ≤ length (text_lines text) → IsSome (line_case (line_at text n))) → AllCased (text_lines text)
cased text h = λ k lt. h (suc k) (omega arith) (omega (arith, lt))

-- the number of a line is one more than its place
record IsPlaced (n : ℕ) : Type 0 where
  place : ℕ
  n_is : n ≡ suc place

placed : (n : ℕ) → 1 ≤ n → IsPlaced n
placed zero h = absurd (omega (arith, h))
placed (suc k) h = record { place = k; n_is = refl }

-- ---- where the lines of a part begin the text
-- those before `more`
at_front : (text : List ℕ) (front more : List Line) → text_lines text ≡ front ++ more → (k : ℕ) → k < length front → line_at text (suc k) ≡ get_or front k []
at_front text front more e k lt = ap (λ (ls : List Line). get_or ls k []) e ∙ get_or_append_left front more [] k lt

at_seam : (text : List ℕ) (front behind : List Line) (line : Line) → text_lines text ≡ front ++ line ∷ behind → line_at text (suc (length front)) ≡ line
at_seam text front behind line e = ap (λ (ls : List Line). get_or ls (length front) []) e ∙ get_or-append_seam front line behind []

at_back : (text : List ℕ) (front behind : List Line) (line : Line) → text_lines text ≡ front ++ line ∷ behind → (k : ℕ) →
    line_at text (suc (length front + suc k)) ≡ get_or behind k []
at_back text front behind line e k = ap (λ (ls : List Line). get_or ls (length front + suc k) []) e ∙ get_or-append-add front (line ∷ behind) (suc k) []

good_at : (text : List ℕ) (n : ℕ) (line : Line) → line_at text n ≡ line → IsSome (line_case line) → IsGoodLine text n
good_at text n line e h = inl (subst (λ (l : Line). IsSome (line_case l)) (sym e) h)

-- lines with a case in front
front_good : (text : List ℕ) (front more : List Line) → text_lines text ≡ front ++ more → AllCased front → (n : ℕ) → 1 ≤ n → n ≤ length front → IsGoodLine text n
front_good text front more e cases n low high =
    let p : IsPlaced n = placed n low in
    let inside : p.place < length front = omega (arith, p.n_is, high) in
    subst (IsGoodLine text) (sym p.n_is) (good_at text (suc p.place) (get_or front p.place []) (at_front text front more e p.place inside) (cases p.place inside))

front_none : (text : List ℕ) (front more : List Line) → text_lines text ≡ front ++ more → HasNone front → (n : ℕ) → 1 ≤ n → n ≤ length front → is_separator (line_at text n) ≡ false
front_none text front more e none n low high =
    let p : IsPlaced n = placed n low in
    let inside : p.place < length front = omega (arith, p.n_is, high) in
    subst (λ (m : ℕ). is_separator (line_at text m) ≡ false) (sym p.n_is) (ap is_separator (at_front text front more e p.place inside) ∙ none p.place inside)

-- the kind of a malformed line that has no slash
plain_kind : (line : Line) → is_separator line ≡ false → wrong_kind line ≡ line_kind line
plain_kind line e = cond-false (is_separator line) Separator (line_kind line) e

slash_kind : (line : Line) → is_separator line ≡ true → wrong_kind line ≡ Separator
slash_kind line e = cond-true (is_separator line) Separator (line_kind line) e

-- ---- the first part

wrong_in_front : (text part : List ℕ) (more : List Line) (line : ℕ) (kind : Kind) → text_lines text ≡ text_lines part ++ more → HasNone (text_lines part) →
    IsMalformedBehind 0 part line kind → IsFirstWrong text line kind
wrong_in_front text part more line kind e none m =
    let f : IsFirstMalformed part m.place kind = m.first in
    let p : IsPlaced m.place = placed m.place f.counted in
    let inside : p.place < length (text_lines part) = omega (arith, p.n_is, f.in_text) in
    let number : line ≡ suc p.place = omega (arith, m.line_is, p.n_is) in
    let here : line_at text line ≡ line_at part m.place =
    ap (line_at text) number ∙ at_front text (text_lines part) more e p.place inside ∙ ap (line_at part) (sym p.n_is) in
    let other : is_separator (line_at text line) ≡ false = front_none text (text_lines part) more e none line (omega (arith, number)) (omega (arith, number, inside)) in
    record {
      counted = omega (arith, number);
      before = λ n low high.
          (let q : IsPlaced n = placed n low in
          let below : q.place < length (text_lines part) = omega (arith, q.n_is, high, number, inside) in
          good_at text n (line_at part n) (ap (line_at text) q.n_is ∙ at_front text (text_lines part) more e q.place below ∙ ap (line_at part) (sym q.n_is)) (f.before n low (omega (arith, high, m.line_is))));
      wrong = inl (record {
        in_text = omega (arith, number, inside, ap length e ∙ length-append (text_lines part) more);
        no_case = ap line_case here ∙ f.no_case;
        no_separator = λ s. true≢false (sym s.slash ∙ other);
        kind_is = f.kind_is ∙ ap line_kind (sym here) ∙ sym (plain_kind (line_at text line) other);
      });
    }

-- no line separates
pub none_separates : (text part : List ℕ) (count : ℕ) (read : List RawLine) → IsPart text part count → part ≡ text → AreLinesBehind 0 part read → IsFirstWrong text (count + 1) Separator
none_separates text part count read w same r =
    let number : count + 1 ≡ suc (length (text_lines text)) = omega (arith, w.count_is, ap (λ (bs : List ℕ). length (text_lines bs)) same) in
    let none : HasNone (text_lines text) = subst (λ (bs : List ℕ). HasNone (text_lines bs)) same w.none in
    let cases : AllCased (text_lines text) = subst (λ (bs : List ℕ). AllCased (text_lines bs)) same (cased part r.cases) in
    record {
      counted = omega arith;
      before = λ n low high.
          (let p : IsPlaced n = placed n low in
          let inside : p.place < length (text_lines text) = omega (arith, p.n_is, high, number) in
          subst (IsGoodLine text) (sym p.n_is) (inl (cases p.place inside)));
      wrong = inr (record {
        behind = number;
        none = λ n low high.
            (let p : IsPlaced n = placed n low in
            subst (λ (m : ℕ). is_separator (line_at text m) ≡ false) (sym p.n_is) (none p.place (omega (arith, p.n_is, high))));
        kind_is = refl;
      });
    }

-- ---- the line that separates

-- the line behind the part separates
pub separates : (text part rest : List ℕ) (count : ℕ) → IsBefore text part count rest → Separates text (count + 1)
separates text part rest count b =
    let front : List Line = text_lines part in
    let number : suc (length front) ≡ count + 1 = omega (arith, b.count_is) in
    record {
      counted = omega arith;
      in_text = omega (arith, b.count_is, ap length b.lines ∙ length-append front (b.line ∷ text_lines rest));
      slash = subst (λ (n : ℕ). is_separator (line_at text n) ≡ true) number (ap is_separator (at_seam text front (text_lines rest) b.line b.lines) ∙ b.slash);
      first = λ m low high. front_none text front (b.line ∷ text_lines rest) b.lines b.none m low (omega (arith, high, number));
    }

-- the lines up to the separator are good
up_to_separator : (text part rest : List ℕ) (count : ℕ) (read : List RawLine) → IsBefore text part count rest → AreLinesBehind 0 part read → (n : ℕ) → 1 ≤ n → n ≤ count + 1 → IsGoodLine text n
up_to_separator text part rest count read b r n low high = elim (cases_lt n (count + 1)) [
  | inl below ↦ front_good text (text_lines part) (b.line ∷ text_lines rest) b.lines (cased part r.cases) n low (omega (arith, below, b.count_is))
  | inr at ↦ (let same : count + 1 ≡ n = omega (arith, at, high) in subst (IsGoodLine text) same (inr (separates text part rest count b)))
]

-- a line behind the separator
behind_at : (text part rest : List ℕ) (count : ℕ) → IsBefore text part count rest → (n : ℕ) → 1 ≤ n → line_at text (count + 1 + n) ≡ line_at rest n
behind_at text part rest count b n low =
    let p : IsPlaced n = placed n low in
    let number : count + 1 + n ≡ suc (length (text_lines part) + suc p.place) = omega (arith, b.count_is, p.n_is) in
    ap (line_at text) number ∙ at_back text (text_lines part) (text_lines rest) b.line b.lines p.place ∙ ap (line_at rest) (sym p.n_is)

-- ---- a line of the second part

-- what is wrong first behind the separator is wrong first in the text
pub record IsWrongBehind (rest : List ℕ) (line : ℕ) (kind : Kind) : Type 0 where
  pub counted : 1 ≤ line
  pub in_text : line ≤ length (text_lines rest)
  pub no_case : line_case (line_at rest line) ≡ None
  pub before : (n : ℕ) → 1 ≤ n → n < line → IsSome (line_case (line_at rest n))
  pub kind_is : kind ≡ wrong_kind (line_at rest line)

wrong_behind : (text part rest : List ℕ) (count line : ℕ) (kind : Kind) (read : List RawLine) → IsBefore text part count rest → AreLinesBehind 0 part read →
    IsWrongBehind rest line kind → IsFirstWrong text (count + 1 + line) kind
wrong_behind text part rest count line kind read b r w =
    let here : line_at text (count + 1 + line) ≡ line_at rest line = behind_at text part rest count b line w.counted in
    let size : length (text_lines text) ≡ count + 1 + length (text_lines rest) =
    omega (arith, b.count_is, ap length b.lines ∙ length-append (text_lines part) (b.line ∷ text_lines rest)) in
    record {
      counted = omega arith;
      before = λ n low high. elim (cases_lt (count + 1) n) [
        | inr up ↦ up_to_separator text part rest count read b r n low (omega (arith, up))
        | inl over ↦
            (let number : count + 1 + (n - (count + 1)) ≡ n = omega (arith, over) in
            let at : line_at text (count + 1 + (n - (count + 1))) ≡ line_at rest (n - (count + 1)) = behind_at text part rest count b (n - (count + 1)) (omega (arith, over)) in
            subst (IsGoodLine text) number (good_at text (count + 1 + (n - (count + 1))) (line_at rest (n - (count + 1))) at
            (w.before (n - (count + 1)) (omega (arith, over)) (omega (arith, over, high)))))
      ];
      wrong = inl (record {
        in_text = omega (arith, size, w.in_text);
        no_case = ap line_case here ∙ w.no_case;
        no_separator = λ s.
            (let s' : Separates text (count + 1) = separates text part rest count b in
            true≢false (sym s'.slash ∙ s.first (count + 1) (omega arith) (omega (arith, w.counted))));
        kind_is = w.kind_is ∙ ap wrong_kind (sym here);
      });
    }

-- a line of the second part that no chain text has
wrong_in_back : (text part rest second : List ℕ) (more : List Line) (count line : ℕ) (kind : Kind) (read : List RawLine) → IsBefore text part count rest →
    AreLinesBehind 0 part read → text_lines rest ≡ text_lines second ++ more → HasNone (text_lines second) → IsMalformedBehind (count + 1) second line kind →
    IsFirstWrong text line kind
wrong_in_back text part rest second more count line kind read b r e none m =
    let f : IsFirstMalformed second m.place kind = m.first in
    let at : (n : ℕ) → 1 ≤ n → n ≤ length (text_lines second) → line_at rest n ≡ line_at second n = λ n low high.
    (let p : IsPlaced n = placed n low in
    ap (line_at rest) p.n_is ∙ at_front rest (text_lines second) more e p.place (omega (arith, p.n_is, high)) ∙ ap (line_at second) (sym p.n_is)) in
    let here : line_at rest m.place ≡ line_at second m.place = at m.place f.counted f.in_text in
    let other : is_separator (line_at rest m.place) ≡ false = front_none rest (text_lines second) more e none m.place f.counted f.in_text in
    let w : IsWrongBehind rest m.place kind =
    record {
      counted = f.counted;
      in_text = omega (arith, f.in_text, ap length e ∙ length-append (text_lines second) more);
      no_case = ap line_case here ∙ f.no_case;
      before = λ n low high. subst (λ (l : Line). IsSome (line_case l)) (sym (at n low (omega (arith, high, f.in_text)))) (f.before n low high);
      kind_is = f.kind_is ∙ ap line_kind (sym here) ∙ sym (plain_kind (line_at rest m.place) other);
    } in
    subst (λ (n : ℕ). IsFirstWrong text n kind) (sym m.line_is) (wrong_behind text part rest count m.place kind read b r w)

-- a further separator
pub separates_again : (text part rest second behind : List ℕ) (count more : ℕ) (read read' : List RawLine) → IsBefore text part count rest → AreLinesBehind 0 part read →
    IsBefore rest second more behind → AreLinesBehind (count + 1) second read' → IsFirstWrong text (count + 1 + more + 1) Separator
separates_again text part rest second behind count more read read' b r b' r' =
    let s : Separates rest (more + 1) = separates rest second behind more b' in
    let w : IsWrongBehind rest (more + 1) Separator =
    record {
      counted = s.counted;
      in_text = s.in_text;
      no_case = slash_has_no_case (line_at rest (more + 1)) s.slash;
      before = λ n low high.
          (let p : IsPlaced n = placed n low in
          let inside : p.place < length (text_lines second) = omega (arith, p.n_is, high, b'.count_is) in
          subst (λ (m : ℕ). IsSome (line_case (line_at rest m))) (sym p.n_is)
          (subst (λ (l : Line). IsSome (line_case l)) (sym (at_front rest (text_lines second) (b'.line ∷ text_lines behind) b'.lines p.place inside)) (cased second r'.cases p.place inside)));
      kind_is = sym (slash_kind (line_at rest (more + 1)) s.slash);
    } in
    subst (λ (n : ℕ). IsFirstWrong text n Separator) (omega arith) (wrong_behind text part rest count (more + 1) Separator read b r w)

-- ---- a good text

-- two parts of lines of chain texts, with one line between them that separates, are a good text
pub two_parts : (text part rest second : List ℕ) (count : ℕ) (read read' : List RawLine) → IsBefore text part count rest → AreLinesBehind 0 part read →
    second ≡ rest → AreLinesBehind (count + 1) second read' → IsTwoText text read read'
two_parts text part rest second count read read' b r same r' =
    let front : List Line = text_lines part in
    let size : length (text_lines text) ≡ count + 1 + length (text_lines rest) = omega (arith, b.count_is, ap length b.lines ∙ length-append front (b.line ∷ text_lines rest)) in
    let cases : AllCased (text_lines rest) = subst (λ (bs : List ℕ). AllCased (text_lines bs)) same (cased second r'.cases) in
    let before : take count (text_lines text) ≡ front = ap₂ (λ (n : ℕ) (ls : List Line). take n ls) b.count_is b.lines ∙ take-append_seam front (b.line ∷ text_lines rest) in
    let behind : drop (count + 1) (text_lines text) ≡ text_lines rest =
    ap₂ (λ (n : ℕ) (ls : List Line). drop (n + 1) ls) b.count_is b.lines ∙ drop-append-add front (b.line ∷ text_lines rest) 1 in
    record {
      separator = count + 1;
      separates = separates text part rest count b;
      cases = λ n low high other. elim (cases_lt n (count + 1)) [
        | inl below ↦
            (let p : IsPlaced n = placed n low in
            let inside : p.place < length front = omega (arith, p.n_is, below, b.count_is) in
            subst (λ (m : ℕ). IsSome (line_case (line_at text m))) (sym p.n_is)
            (subst (λ (l : Line). IsSome (line_case l)) (sym (at_front text front (b.line ∷ text_lines rest) b.lines p.place inside)) (cased part r.cases p.place inside)))
        | inr over ↦
            (let number : count + 1 + suc (n - (count + 1) - 1) ≡ n = omega (arith, over, other) in
            let k : ℕ = n - (count + 1) - 1 in
            let at : line_at text (count + 1 + suc k) ≡ line_at rest (suc k) = behind_at text part rest count b (suc k) (omega arith) in
            subst (λ (m : ℕ). IsSome (line_case (line_at text m))) number
            (subst (λ (l : Line). IsSome (line_case l)) (sym at) (cases k (omega (arith, number, high, size)))))
      ];
      first_is = r.entries ∙ ap (raw_lines 1) (sym before) ∙ ap (λ (n : ℕ). raw_lines 1 (take n (text_lines text))) (omega arith);
      second_is = r'.entries ∙ ap (λ (bs : List ℕ). raw_lines (suc (count + 1)) (text_lines bs)) same ∙ ap (raw_lines (suc (count + 1))) (sym behind);
    }

-- ---- a text is good or has one first wrong line

some_none : {X : Type 0} (o : Option X) → IsSome o → o ≡ None → ⊥
some_none None s e = absurd (cc)
some_none (Some x) s e = none-some x (sym e)

-- a good text has no first wrong line
pub good_or_wrong : (text : List ℕ) (first second : List RawLine) (line : ℕ) (kind : Kind) → IsTwoText text first second → IsFirstWrong text line kind → ⊥
good_or_wrong text first second line kind g w = elim w.wrong [
  | inl m ↦ some_none (line_case (line_at text line)) (g.cases line w.counted m.in_text (λ e. m.no_separator (subst (Separates text) (sym e) g.separates))) m.no_case
  | inr l ↦ true≢false (sym g.separates.slash ∙ l.none g.separator g.separates.counted g.separates.in_text)
]

wrong_inside : (text : List ℕ) (line : ℕ) (kind : Kind) → IsFirstWrong text line kind → line ≤ suc (length (text_lines text))
wrong_inside text line kind w = elim w.wrong [
  | inl m ↦ omega (arith, m.in_text)
  | inr l ↦ omega (arith, l.behind)
]

not_before : (text : List ℕ) (i j : ℕ) (k l : Kind) → IsFirstWrong text i k → IsFirstWrong text j l → i < j → ⊥
not_before text i j k l p q lt = elim p.wrong [
  | inl m ↦ elim (q.before i p.counted lt) [
    | inl case ↦ some_none (line_case (line_at text i)) case m.no_case
    | inr s ↦ m.no_separator s
  ]
  | inr lacks ↦ absurd (omega (arith, lacks.behind, lt, wrong_inside text j l q))
]

same_kind : (text : List ℕ) (line : ℕ) (k l : Kind) → IsFirstWrong text line k → IsFirstWrong text line l → k ≡ l
same_kind text line k l p q = elim p.wrong [
  | inl m ↦ elim q.wrong [
    | inl n ↦ m.kind_is ∙ sym n.kind_is
    | inr lacks ↦ absurd (omega (arith, m.in_text, lacks.behind))
  ]
  | inr lacks ↦ elim q.wrong [
    | inl n ↦ absurd (omega (arith, n.in_text, lacks.behind))
    | inr other ↦ lacks.kind_is ∙ sym other.kind_is
  ]
]

-- there is one first wrong line, and one kind that applies to it first
pub wrong_same : (text : List ℕ) (i j : ℕ) (k l : Kind) → IsFirstWrong text i k → IsFirstWrong text j l → (i ≡ j) × (k ≡ l)
wrong_same text i j k l p q = elim (cases_order i j) [
  | inl e ↦ (e, same_kind text j k l (subst (λ (n : ℕ). IsFirstWrong text n k) e p) q)
  | inr ne ↦ elim ne [
    | inl lt ↦ absurd (not_before text i j k l p q lt)
    | inr gt ↦ absurd (not_before text j i l k q p gt)
  ]
]

-- ---- the faults of the parts

-- what a fault says of a text; want of memory says nothing
abbrev pub IsFault : List ℕ → TextFault → Type 0
IsFault text (Malformed line kind) = IsFirstWrong text line kind
IsFault text Memory = Unit {0}

-- a fault of the first part, and one of the second, is a fault of the text
pub fault_in_front : (text part : List ℕ) (count : ℕ) (fault : TextFault) → IsPart text part count → IsFaultBehind 0 part fault → IsFault text fault
fault_in_front text part count (Malformed line kind) p m = wrong_in_front text part p.more line kind p.lines p.none m
fault_in_front text part count Memory p m = tt

pub fault_in_back : (text part rest second : List ℕ) (count more : ℕ) (read : List RawLine) (fault : TextFault) → IsBefore text part count rest → AreLinesBehind 0 part read →
    IsPart rest second more → IsFaultBehind (count + 1) second fault → IsFault text fault
fault_in_back text part rest second count more read (Malformed line kind) b r p m = wrong_in_back text part rest second p.more count line kind read b r p.lines p.none m
fault_in_back text part rest second count more read Memory b r p m = tt

-- what a result with such a fault says
pub malformed_of : {T : Type 0} (text : List ℕ) (result : Result T TextFault) (fault : TextFault) → result ≡ Err fault → IsFault text fault →
    (line : ℕ) (kind : Kind) → IsErrOf result (Malformed line kind) → IsFirstWrong text line kind
malformed_of text result fault e f line kind is = let same : fault ≡ Malformed line kind = cc in subst (IsFault text) same f

-- where a line is the first wrong one, the result says so, or that memory is wanting
pub refused_of : {T : Type 0} (text : List ℕ) (result : Result T TextFault) (fault : TextFault) → result ≡ Err fault → IsFault text fault →
    (line : ℕ) (kind : Kind) → IsFirstWrong text line kind → IsErrOf result (Malformed line kind) ⊎ IsErrOf result Memory
refused_of text result (Malformed l k) e f line kind w =
    let same = wrong_same text l line k kind f w in
    inl (e ∙ ap₂ (λ (n : ℕ) (j : Kind). Err (Malformed n j)) same.0 same.1)
refused_of text result Memory e f line kind w = inr e

-- ---- what follows a part, by what its search answered
pub followed_by : (text part : List ℕ) (rest : Option (Bor (List ℕ))) (found : Bor (List ℕ)) → rest ≡ Some found →
    MatchOption rest (part ≡ text) (λ r. IsFollowed text part r.now) → IsFollowed text part found.now
followed_by text part rest found e h =
    let Told : Option (Bor (List ℕ)) → Type 0 = λ o. MatchOption o (part ≡ text) (λ r. IsFollowed text part r.now) in
    subst Told e h

pub whole_if_none : (text part : List ℕ) (rest : Option (Bor (List ℕ))) → rest ≡ None →
    MatchOption rest (part ≡ text) (λ r. IsFollowed text part r.now) → part ≡ text
whole_if_none text part rest e h =
    let Told : Option (Bor (List ℕ)) → Type 0 = λ o. MatchOption o (part ≡ text) (λ r. IsFollowed text part r.now) in
    subst Told e h
