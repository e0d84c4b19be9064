-- The entries of the next table, one after another.
use Rattle.std.proofs.Common.{◌≡◌, ℕ, ◌+◌, ◌<◌, List, [], ◌∷◌, ◌++◌, length, get_or, Option, Some, None, arith, refl, sym, ap, subst, ◌∙◌, inl, inr, length-append}
use Rattle.std.proofs.Math.Seq.{get_or-append_seam}
use Rattle.std.proofs.lemmas.Bool.{cases_lt}
use Rattle.std.proofs.lemmas.List.{get_or_append_left}
use Rattle.sc_weight.specs.Levels.{Levels}
use Rattle.sc_tables.specs.Squares.{Square}
use Rattle.sc_tables.specs.declared.search.Node.{Node}
use Rattle.sc_tables.specs.inside.Searches.{IsGrowing, Grows, AreEnds}
use Rattle.sc_tables.specs.Searches.{IsEnd, IsNext}
use Rattle.sc_tables.proofs.Best.{same_item}
use Rattle.sc_tables.proofs.Growing.{grows-trans, end-grows, next-grows}

-- the entries of the first n positions after a round that began with the walks old
pub record AreNextBelow {W : Type 0} (levels : W → Levels) (t : Square W) (old nodes : List (Node W)) (fresh s steps : ℕ) (table next : List (Option ℕ)) (n : ℕ) : Type 0 where
  pub growing : IsGrowing levels t s steps (length old) nodes
  pub grows : Grows old nodes
  pub len : length next ≡ n
  pub entry : (j : ℕ) → j < n → IsNext levels t nodes fresh (length old) s j (get_or table j None) (get_or next j None)

-- an entry names one of the first walks
pub end_below : {W : Type 0} (nodes : List (Node W)) (end j : ℕ) (o : Option ℕ) (n : ℕ) → IsEnd nodes end j o → o ≡ Some n → n < end
end_below nodes end j None n is e = absurd (cc)
end_below nodes end j (Some m) n is e = let same : m ≡ n = same_item m n (Some m) refl e in omega (arith, is.1)

module _ {W : Type 0} (levels : W → Levels) (t : Square W) (old nodes : List (Node W)) (fresh s steps : ℕ) (table next : List (Option ℕ)) (k : ℕ) where
  -- an entry of the table before a round names one of the walks before the round, in the grown list too
  pub table_entry : (end : ℕ) → end ≡ length old → AreEnds old table → k < length table → Grows old nodes → IsEnd nodes end k (get_or table k None)
  table_entry end e entries inside g = rw e (end-grows old nodes (length old) k (get_or table k None) g (entries k inside))

  -- one entry more of the table after a round
  pub table_step : (new : List (Node W)) (o : Option ℕ) → AreNextBelow levels t old nodes fresh s steps table next k → AreEnds old table → k < length table → Grows nodes new → IsGrowing levels t s steps (length old) new →
      IsNext levels t new fresh (length old) s k (get_or table k None) o → AreNextBelow levels t old new fresh s steps table (next ++ o ∷ []) (k + 1)
  table_step new o are entries inside g growing is =
      record {
        growing = growing;
        grows = grows-trans old nodes new are.grows g;
        len = omega (arith, are.len, length-append next (o ∷ []));
        entry = λ j within. elim (cases_lt j k) [
          | inl before ↦
              (let stays = next-grows levels t nodes new fresh (length old) s j (get_or table j None) (get_or next j None) are.growing.within (λ n e. end_below old (length old) j (get_or table j None) n (entries j (omega arith)) e) g (are.entry j before) in
              let same : get_or (next ++ o ∷ []) j None ≡ get_or next j None = get_or_append_left next (o ∷ []) None j (omega (arith, are.len)) in
              subst (IsNext levels t new fresh (length old) s j (get_or table j None)) (sym same) stays)
          | inr last ↦
              (let at : k ≡ j = omega arith in
              let end : k ≡ length next = omega (arith, are.len) in
              let same : get_or (next ++ o ∷ []) k None ≡ o = ap (λ (n : ℕ). get_or (next ++ o ∷ []) n None) end ∙ get_or-append_seam next o [] None in
              subst (λ (n : ℕ). IsNext levels t new fresh (length old) s n (get_or table n None) (get_or (next ++ o ∷ []) n None)) at
              (subst (IsNext levels t new fresh (length old) s k (get_or table k None)) (sym same) is))
        ];
      }
