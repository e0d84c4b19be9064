-- The form of certificate texts is lawful: which certificates they tell.
use Rattle.std.proofs.Common.{◌≡◌, ℕ, suc, ◌+◌, ◌*◌, ◌≤◌, true, false, List, [], ◌∷◌, map, length, codes, None, pos, ℤ, refl, arith}
use Rattle.std.proofs.Math.Nat.{mul-le-mul}
use Rattle.sc_whole.specs.Spelling.{spelling}
use Rattle.sc_theory.specs.Chains.{Chain, positions}
use Rattle.sc_theory.specs.Prices.{Tables, pairs}
use Rattle.sc_theory.specs.Columns.{pair_at}
use Rattle.sc_chain.specs.declared.polygon.Pivot.{Pivot}
use Rattle.sc_words.specs.declared.limits.TheConstants.{GENERATORS}
use Rattle.sc_chain.proofs.PairLaws.{pairs_below}
use Rattle.sc_chain.proofs.PairPlaces.{few_pairs}
use Rattle.sc_line.specs.Lines.{lacks, AllLack}
use Rattle.sc_line.specs.Formats.{IsShort}
use Rattle.sc_line.proofs.NumberLaws.{IsCountInRange}
use Rattle.sc_line.specs.Forms.{IsLawful, one, both}
use Rattle.sc_line.proofs.FormatLaws.{short_more}
use Rattle.sc_line.proofs.FormLaws.{AreAll, AreFew, lawful_both, lawful_as, lawful_one, lawful_literal, lawful_all, lawful_few}
use Rattle.sc_text.specs.declared.limits.Limits.{Limits}
use Rattle.sc_text.specs.declared.limits.TheConstants.{VERSION_1}
use Rattle.sc_text.specs.PriceLines.{IsScaleInRange, IsPriceInRange, a_scale, a_base, a_pair}
use Rattle.sc_text.specs.ValueLines.{IsValueInRange, a_value}
use Rattle.sc_text.specs.TableLines.{IsTableInRange, a_table}
use Rattle.sc_text.specs.Parts.{words_form, scale_form, bases_form, pairs_form, tables_form}
use Rattle.sc_text.specs.Surfaces.{ending, uncounted, IsChainWithin}
use Rattle.sc_text.proofs.KindLaws.{scale_kind, base_kind, pair_kind, from_kind, value_kind}
use Rattle.sc_text.proofs.FeedLaws.{lacks-spaced, lacks-number, lacks-numbers_line, lacks-value_line, lacks-pair_line, lacks-from_line}
use Rattle.sc_text.proofs.SurfaceLaws.{AreSidesFor, lawful_words, lawful_copies, lawful_sides}
use Rattle.sc_certificate.specs.PivotLines.{pivot_line, a_pivot, IsPivotInRange}
use Rattle.sc_certificate.specs.Certificates.{Certificate, heading, journal_form, from_journal, from_tables, from_pairs, from_bases, from_scale, from_sides, body_form, from_value, front_form, FrontTold, BodyTold, Told, certificate_told, told_by, certificate_form, no_body, certificate_due, IsCertificateWithin, IsCertificateInRange}
use Rattle.sc_certificate.proofs.PivotLaws.{pivot_kind}

-- ---- the parts

positions_lack : (walk : List ℕ) → AllLack 10 (map (λ i. spelling (pos i)) walk)
positions_lack [] = tt
positions_lack (i ∷ walk) = (lacks-number (pos i), positions_lack walk)

lacks-pivot_line : (p : Pivot) → lacks 10 (pivot_line p) ≡ true
lacks-pivot_line p = lacks-spaced (codes "pivot") (spelling (pos p.row) ∷ map (λ i. spelling (pos i)) p.polygon) (refl, (lacks-number (pos p.row), positions_lack p.polygon))

few_pairs_of : (c : Chain) (most : ℕ) → positions c ≤ most → length (pairs c) ≤ most * most
few_pairs_of c most few =
    omega (arith, few_pairs (pairs c) (positions c) (pairs_below c), mul-le-mul {n₁ = positions c} {m₁ = positions c} {n₂ = most} {m₂ = most} few few)

lawful_value : IsLawful (one a_value).lines ((one a_value).due None) IsValueInRange 1
lawful_value = lawful_one a_value IsValueInRange value_kind lacks-value_line

lawful_scale : IsLawful scale_form.lines (scale_form.due None) IsScaleInRange 1
lawful_scale = lawful_one a_scale IsScaleInRange scale_kind (λ d. lacks-numbers_line (codes "scale") (d ∷ []) refl)

module _ (m : Limits) (c : Chain) (small : IsChainWithin m c) where
  lawful_bases : IsLawful (bases_form (length c)).lines ((bases_form (length c)).due []) (AreAll IsPriceInRange (length c)) m.words
  lawful_bases = lawful_all (λ (prices : List ℤ). a_base) IsPriceInRange (λ b. base_kind) (λ b z. lacks-numbers_line (codes "base") (z ∷ []) refl) (length c) m.words small.count

  lawful_pairs : IsLawful (pairs_form (pairs c)).lines ((pairs_form (pairs c)).due []) (AreAll IsPriceInRange (length (pairs c))) (m.positions * m.positions)
  lawful_pairs =
      lawful_all (λ (prices : List ℤ). a_pair (pair_at c (length prices))) IsPriceInRange (λ b. pair_kind (pair_at c (length b))) (λ b y. lacks-pair_line (pair_at c (length b), y)) (length (pairs c)) (m.positions * m.positions)
      (few_pairs_of c m.positions small.letters)

  lawful_tables : IsLawful (tables_form (positions c)).lines ((tables_form (positions c)).due []) (AreAll (IsTableInRange (positions c)) (positions c)) m.positions
  lawful_tables = lawful_all (λ (tables : Tables). a_table (positions c) (length tables)) (IsTableInRange (positions c)) (λ b. from_kind (positions c) (length b)) (λ b table. lacks-from_line (length b, table)) (positions c) m.positions small.letters

  lawful_journal : IsLawful (journal_form m c).lines ((journal_form m c).due uncounted) (AreFew (IsPivotInRange c) m.pivots) (suc m.pivots)
  lawful_journal = lawful_few (λ (before : List Pivot). a_pivot c) (IsPivotInRange c) (λ b. pivot_kind c) (λ b. lacks-pivot_line) (codes "pivots") m.pivots refl (λ n. lacks-numbers_line (codes "pivots") (pos n ∷ []) refl)

-- ---- the body, and the whole

-- what the lines behind the value may tell under limits: each part in its range and of the size of the chain
abbrev pub IsBodyFor : Limits → Chain → BodyTold → Type 0
IsBodyFor m c v =
    IsCountInRange 1 m.copies v.first × (AreSidesFor m v.second.first × (IsScaleInRange v.second.second.first
    × (AreAll IsPriceInRange (length c) v.second.second.second.first × (AreAll IsPriceInRange (length (pairs c)) v.second.second.second.second.first
    × (AreAll (IsTableInRange (positions c)) (positions c) v.second.second.second.second.second.first × (AreFew (IsPivotInRange c) m.pivots v.second.second.second.second.second.second.first × Unit {0}))))))

-- the most lines that are read behind the value
abbrev pub body_most : Limits → ℕ
body_most m = 1 + (suc m.sides + (1 + (m.words + (m.positions * m.positions + (m.positions + (suc m.pivots + 1))))))

lawful_body : (m : Limits) (c : Chain) → IsChainWithin m c → IsLawful (body_form m c).lines ((body_form m c).due no_body) (IsBodyFor m c) (body_most m)
lawful_body m c small =
    lawful_both _ _ _ _ (λ n. (from_sides m c).lines) _ _ _ (lawful_copies m) (λ n h.
    lawful_both _ _ _ _ (λ g. (from_scale m c).lines) _ _ _ (lawful_sides m) (λ g h.
    lawful_both _ _ _ _ (λ d. (from_bases m c).lines) _ _ _ lawful_scale (λ d h.
    lawful_both _ _ _ _ (λ b. (from_pairs m c).lines) _ _ _ (lawful_bases m c small) (λ b h.
    lawful_both _ _ _ _ (λ y. (from_tables m c).lines) _ _ _ (lawful_pairs m c small) (λ y h.
    lawful_both _ _ _ _ (λ t. (from_journal m c).lines) _ _ _ (lawful_tables m c small) (λ t h.
    lawful_both _ _ _ _ (λ j u. ending ∷ []) _ _ _ (lawful_journal m c small) (λ j h. lawful_literal ending refl)))))))

lawful_from_value : (m : Limits) (c : Chain) → IsChainWithin m c → IsLawful (from_value m c).lines ((from_value m c).due (record { first = None; second = no_body })) (λ v. IsValueInRange v.first × IsBodyFor m c v.second) (1 + body_most m)
lawful_from_value m c small = lawful_both _ _ _ _ (λ q. (body_form m c).lines) _ _ _ lawful_value (λ q h. lawful_body m c small)

-- what the heading and the words may tell
abbrev pub IsFrontFor : Limits → FrontTold → Type 0
IsFrontFor m v = Unit {0} × IsChainWithin m v.second

-- the form of the heading and the words is lawful: what is read are the chains within the limits
pub lawful_front : (m : Limits) → m.generators ≤ GENERATORS → IsLawful (front_form m).lines ((front_form m).due (record { first = false; second = uncounted })) (IsFrontFor m) (1 + suc m.words)
lawful_front m spelled = lawful_both _ _ _ _ (λ u. (words_form m).lines) _ _ _ (lawful_literal heading refl) (λ u h. lawful_words m spelled)

-- what all the parts of a certificate may tell under limits
abbrev pub IsToldFor : Limits → Told → Type 0
IsToldFor m v = IsFrontFor m v.first × (IsValueInRange v.second.first × IsBodyFor m v.first.second v.second.second)

-- the most lines that are read of them
abbrev pub told_most : Limits → ℕ
told_most m = (1 + suc m.words) + (1 + body_most m)

lawful_told : (m : Limits) → m.generators ≤ GENERATORS → IsLawful (both (front_form m) (λ x. from_value m x.second)).lines ((both (front_form m) (λ x. from_value m x.second)).due (record { first = record { first = false; second = uncounted }; second = record { first = None; second = no_body } })) (IsToldFor m) (told_most m)
lawful_told m spelled = lawful_both _ _ _ _ (λ x. (from_value m x.second).lines) _ _ _ (lawful_front m spelled) (λ x h. lawful_from_value m x.second h.1)

certificate_in_range : (m : Limits) (v : Told) → IsToldFor m v → IsCertificateWithin m (certificate_told v)
certificate_in_range m v h = record {
  chain = h.0.1;
  value = h.1.0;
  some_copies = h.1.1.0.low_end;
  few_copies = h.1.1.0.high_end;
  few_sides = h.1.1.1.0.count;
  sides = h.1.1.1.0.sides;
  list = record { scale = h.1.1.1.1.0; base = h.1.1.1.1.1.0.all; pair = h.1.1.1.1.1.1.0.all };
  counts = record { base = h.1.1.1.1.1.0.count; pair = h.1.1.1.1.1.1.0.count };
  table_count = h.1.1.1.1.1.1.1.0.count;
  tables = h.1.1.1.1.1.1.1.0.all;
  few_pivots = h.1.1.1.1.1.1.1.1.0.few;
  journal = h.1.1.1.1.1.1.1.1.0.all;
}

in_range_told : (m : Limits) (v : Certificate) → IsCertificateWithin m v → IsToldFor m (told_by v)
in_range_told m v h = (
  (tt, h.chain),
  (
    h.value,
    (
      record { low_end = h.some_copies; high_end = h.few_copies },
      (
        record { count = h.few_sides; sides = h.sides },
        (
          h.list.scale,
          (
            record { count = h.counts.base; all = h.list.base },
            (
              record { count = h.counts.pair; all = h.list.pair },
              (
                record { count = h.table_count; all = h.tables },
                (record { few = h.few_pivots; all = h.journal }, tt),
              ),
            ),
          ),
        ),
      ),
    ),
  ),
)

-- ---- at the limits of version 1

-- the most lines that a certificate of version 1 has
abbrev pub all_lines : ℕ
all_lines = told_most VERSION_1 + 0

-- the form of certificates is lawful: what is read are the certificates in range
pub lawful_certificate : IsLawful (certificate_form VERSION_1).lines (certificate_due VERSION_1) IsCertificateInRange all_lines
lawful_certificate =
    lawful_as _ _ (IsToldFor VERSION_1) (told_most VERSION_1) certificate_told told_by IsCertificateInRange (lawful_told VERSION_1 (omega arith)) (λ v. refl) (λ w. refl) (certificate_in_range VERSION_1) (in_range_told VERSION_1)

-- at most 4000000000 lines of a certificate are read, which its reader can count
pub short_certificate : IsShort 4000000000 (certificate_due VERSION_1)
short_certificate = short_more all_lines 4000000000 (certificate_due VERSION_1) (omega arith) lawful_certificate.short
