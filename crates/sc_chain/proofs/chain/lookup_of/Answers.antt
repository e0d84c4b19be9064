use Rattle.std.proofs.lemmas.List.{get_or_default}
use Rattle.std.proofs.Common.{ap, ◌∙◌, ◌≡◌, ℕ, ◌+◌, List, [], ◌∷◌, ◌++◌, length, subst, arith, rules}
use Rattle.sc_theory.specs.Words.{Word}
use Rattle.sc_theory.specs.Chains.{no_word, word}
use Rattle.sc_chain.proofs.Entries.{IsLookupBelow, next_word, whole}
use Rattle.sc_chain.specs.inside.Lookup.{AppendsBelow}
use Rattle.sc_chain.proofs.chain.lookup_of.Goals as goal

pub loop-number-preserved : goal.loop-number-preserved
loop-number-preserved c =
    let at : c.as_slice.result.now ≡ word c.args.words.now c.loop-number.number =
    c.as_slice.ensures ∙ ap (λ (p : ℕ × Word). p.1) (c.index-words-number.is ∙ get_or_default c.args.words.now c.loop-number.number c.index-words-number.result no_word c.loop-number-test.true) in
    let appends : AppendsBelow c.loop-number.places.items c.append_word.new.places.items (word c.args.words.now c.loop-number.number) c.loop-number.number (length (word c.args.words.now c.loop-number.number)) =
    subst (λ (w : Word). AppendsBelow c.loop-number.places.items c.append_word.new.places.items w c.loop-number.number (length w)) at c.in_ok-append_word.ensures in
    let firsts : c.loop-number.firsts.items ++ length c.loop-number.places.items ∷ [] ≡ c.push.new.self.items = search rules in
    subst (λ (fs : List ℕ). IsLookupBelow c.args.words.now (c.loop-number.number + 1) c.append_word.new.places.items fs) firsts
    (next_word c.args.words.now c.loop-number.number c.loop-number.places.items c.append_word.new.places.items c.loop-number.firsts.items c.loop-number-test.true c.loop-number.invariant appends)

pub returns : goal.returns
returns c =
    let end : c.loop-number.number ≡ length c.args.words.now = omega (arith, c.loop-number-test.false, c.loop-number.auto.number-end) in
    whole c.args.words.now c.loop-number.places.items c.loop-number.firsts.items c.requires.good
    (subst (λ (n : ℕ). IsLookupBelow c.args.words.now n c.loop-number.places.items c.loop-number.firsts.items) end c.loop-number.invariant)
