-- The text of a surface's report, and what `surface` and `scl` answer.
use Rattle.std.proofs.Common.{◌≡◌, ℕ, ◌*◌, List, [], ◌++◌, codes, ℤ, pos, ◌-ℤ◌, ap, ap₂, ◌∙◌, subst, sym, refl, map, arith}
use Rattle.std.proofs.lemmas.List.{length-map}
use Rattle.sc_whole.specs.Spelling.{spelling}
use Rattle.sc_theory.specs.Chains.{Chain, IsBalanced}
use Rattle.sc_theory.specs.Fatgraphs.{Sides, IsFatgraph, IsLeast, vertices, edges, cost}
use Rattle.sc_fraction.specs.declared.frac.Frac.{Frac}
use Rattle.sc_fraction.specs.Frac.{IsQuotient, frac_text}
use Rattle.sc_fatgraph.specs.Surfaces.{Surface, surface}
use Rattle.sc_certificate.specs.Certificates.{Certificate}
use Rattle.sc_prices.specs.Conditions.{stated}
use Rattle.sc_solve.specs.declared.solution.Solution.{Solution}
use Rattle.sc_solve.specs.declared.solution.SolveFault.{SolveFault}
use Rattle.sc_solve.specs.declared.solution.SolveFault.TheVariants as faults
use Rattle.sc_solve.specs.Solutions.{IsSolution, IsStopped, certificate_of}
use Rattle.sc_words.specs.declared.lines.RawLine.{RawLine}
use Rattle.sc_words.specs.ChainText.{IsChainText}
use Rattle.sc_reduce.specs.Lines.{chain_of, IsWithin}
use Rattle.sc_app.specs.Notes.{line}
use Rattle.sc_app.specs.Said.{Says, Refuses, RespondsBySides}
use Rattle.sc_app.specs.Surface.{euler, report, fraction_label}
use Rattle.sc_chain.specs.declared.polygon.Pivot.{Pivot}
use Rattle.sc_simplex.proofs.FirstSeen.{length_first_seen}
use Rattle.sc_random.specs.Drawn.{drawn_chain}
use Rattle.sc_app.specs.Scl.{SclResponds, IsValueOf, IsToldBy}
use Rattle.sc_app.specs.Generate.{GenerateResponds, IsSummary, summary}
use Rattle.sc_app.specs.declared.limits.TheConstants.{DEFAULT_PIVOTS}
use Rattle.sc_app.specs.declared.status.Status.{Status}
use Rattle.sc_app.specs.declared.status.Status.TheVariants.{Done, Budget, Wide}
use Rattle.sc_app.specs.declared.status.Status.TheVariants as statuses

-- four lines one after another are the report
pub four_lines : (g : Sides) (f : Frac) (t0 t1 t2 t3 t4 : List ℕ) (a b c : ℤ) → t0 ≡ []
    → t1 ≡ t0 ++ line (codes "vertices " ++ spelling a) → t2 ≡ t1 ++ line (codes "edges " ++ spelling b)
    → t3 ≡ t2 ++ line (codes "euler " ++ spelling c) → t4 ≡ t3 ++ line (fraction_label ++ frac_text f)
    → a ≡ pos (vertices g) → b ≡ pos (edges g) → c ≡ euler g → t4 ≡ report g f
four_lines g f t0 t1 t2 t3 t4 a b c empty first second third fourth is_a is_b is_c =
    let one : t1 ≡ line (codes "vertices " ++ spelling (pos (vertices g))) =
    first ∙ ap₂ (λ (l : List ℕ) (x : ℤ). l ++ line (codes "vertices " ++ spelling x)) empty is_a in
    let two : t2 ≡ line (codes "vertices " ++ spelling (pos (vertices g))) ++ line (codes "edges " ++ spelling (pos (edges g))) =
    second ∙ ap₂ (λ (l : List ℕ) (x : ℤ). l ++ line (codes "edges " ++ spelling x)) one is_b in
    let three : t3 ≡ line (codes "vertices " ++ spelling (pos (vertices g))) ++ line (codes "edges " ++ spelling (pos (edges g))) ++ line (codes "euler " ++ spelling (euler g)) =
    third ∙ ap₂ (λ (l : List ℕ) (x : ℤ). l ++ line (codes "euler " ++ spelling x)) two is_c in
    fourth ∙ ap₂ (λ (l m : List ℕ). l ++ m) three refl

-- the fraction of the counts is that of the cost
pub of_cost : (g : Sides) (v e n m : ℕ) (f : Frac) → v ≡ vertices g → e ≡ edges g → m ≡ n → IsQuotient (pos e -ℤ pos v) (pos (2 * m)) f
    → IsQuotient (cost g) (pos (2 * n)) f
of_cost g v e n m f is_v is_e is_m h =
    subst (λ (k : ℕ). IsQuotient (pos (edges g) -ℤ pos (vertices g)) (pos (2 * k)) f) is_m
    (subst (λ (k : ℕ). IsQuotient (pos k -ℤ pos (vertices g)) (pos (2 * m)) f) is_e
    (subst (λ (k : ℕ). IsQuotient (pos e -ℤ pos k) (pos (2 * m)) f) is_v h))

-- what is told of the surface that an input says is an answer to it
pub told : (Tells : Chain → ℕ → Sides → List ℕ → Type 0) (input : List ℕ) (f : Surface) (items : List ℕ) → Says input f.chain f.copies f.sides × IsFatgraph f.chain f.copies f.sides
    → Tells f.chain f.copies f.sides items → RespondsBySides Tells input Done items
told Tells input f items said tells = (f.chain, f.copies, f.sides, said.0, said.1, tells)

-- an answer of `scl` for the chain of a chain text within the limits is one to the text
pub valued : (n : ℕ) (input : List ℕ) (lines : List RawLine) (c : Chain) → IsChainText input lines → c ≡ chain_of lines → IsWithin (chain_of lines)
    → (s : Status) (text : List ℕ) → IsValueOf n c s text → SclResponds n input s text
valued n input lines c read same within Done text v = (lines, read, within, subst (λ (d : Chain). IsValueOf n d Done text) same v)
valued n input lines c read same within Budget text v = (lines, read, within, subst (λ (d : Chain). IsValueOf n d Budget text) same v)
valued n input lines c read same within Wide text v = (lines, read, within, subst (λ (d : Chain). IsValueOf n d Wide text) same v)
valued n input lines c read same within statuses.Sides text v = (lines, read, within, subst (λ (d : Chain). IsValueOf n d statuses.Sides text) same v)
valued n input lines c read same within _ text v = absurd v

-- so is why it says none
pub refused : (Tells : Chain → ℕ → Sides → List ℕ → Type 0) (input text : List ℕ) (s : Status) → Refuses input s text → RespondsBySides Tells input s text
refused Tells input text Done r = absurd r
refused Tells input text s r = r

-- ---- solutions and refusals

-- what a printer of certificates puts out for a solution over a chain, whose sides are given once more
pub printed : (f : Certificate → List ℕ) (s : Solution) (c : Chain) (g : Sides) (old out : List ℕ) → s.fatgraph.chain ≡ c → s.fatgraph.copies ≡ s.n → g ≡ s.fatgraph.sides → old ≡ []
    → out ≡ old ++ f (stated (surface c s.n g) s.value s.list s.tables s.journal.items) → out ≡ f (certificate_of s)
printed f s c g old out over copies same empty e =
    e ∙ (λ i. empty i ++ f (stated (surface (sym over i) (sym copies i) (same i)) s.value s.list s.tables s.journal.items))

-- what stopped a solver, told with its evidence
pub stopped_value : (n : ℕ) (c : Chain) (fault : SolveFault) (s : Status) (text : List ℕ) → IsBalanced c → IsStopped c n fault → IsToldBy c fault s text → IsValueOf n c s text
stopped_value n c (faults.Budget journal improving) s text balanced stopped told =
    subst (λ (x : Status). IsValueOf n c x text) (sym told.0)
    (record { balanced = balanced; journal = journal.items; improving = improving; evidence = stopped; text_is = told.1 })
stopped_value n c (faults.Wide journal operation) s text balanced stopped told =
    subst (λ (x : Status). IsValueOf n c x text) (sym told.0)
    (record { balanced = balanced; journal = journal.items; operation = operation; evidence = stopped; text_is = told.1 })
stopped_value n c (faults.Sides journal part so_far next) s text balanced stopped told =
    subst (λ (x : Status). IsValueOf n c x text) (sym told.0)
    (record { balanced = balanced; journal = journal.items; part = part; so_far = so_far; next = next; evidence = stopped; text_is = told.1 })
stopped_value n c faults.Memory s text balanced stopped told = absurd told

-- the same as an answer of `gen`, whose chain is the drawn one
pub stopped_generation : (seed letters : ℕ) (c : Chain) (fault : SolveFault) (s : Status) (text : List ℕ) → c ≡ drawn_chain seed letters → IsBalanced c → IsStopped c DEFAULT_PIVOTS fault
    → IsToldBy c fault s text → GenerateResponds seed letters s text
stopped_generation seed letters c fault s text same balanced stopped told =
    refusal s fault told (subst (λ (d : Chain). IsValueOf DEFAULT_PIVOTS d s text) same (stopped_value DEFAULT_PIVOTS c fault s text balanced stopped told))
  where
    refusal : (s : Status) (fault : SolveFault) → IsToldBy c fault s text → IsValueOf DEFAULT_PIVOTS (drawn_chain seed letters) s text → GenerateResponds seed letters s text
    refusal Done (faults.Budget journal improving) told v = absurd (cc told.0)
    refusal Done (faults.Wide journal operation) told v = absurd (cc told.0)
    refusal Done (faults.Sides journal part so_far next) told v = absurd (cc told.0)
    refusal Done faults.Memory told v = absurd told
    refusal s fault told v = v

-- the summary of a solution for a chain that is the drawn one
pub summarized : (seed letters : ℕ) (c : Chain) (s : Solution) (text : List ℕ) → c ≡ drawn_chain seed letters → IsSolution c DEFAULT_PIVOTS s → IsLeast c s.n s.fatgraph.sides
    → text ≡ summary seed letters c s → IsSummary seed letters text
summarized seed letters c s text same solves least is = record {
  solution = s;
  solves = subst (λ (d : Chain). IsSolution d DEFAULT_PIVOTS s) same solves;
  least = subst (λ (d : Chain). IsLeast d s.n s.fatgraph.sides) same least;
  few = omega (arith, solves.columns, length_first_seen (map (λ (p : Pivot). p.polygon) s.journal.items), length-map s.journal.items (λ (p : Pivot). p.polygon));
  text_is = is ∙ ap (λ (d : Chain). summary seed letters d s) same;
}
